use Rattle.srr_log2.proofs.FormatLaws.{alone, log_or_fault, never_both, one_first_fault, one_log}
use Rattle.srr_log2.proofs.read_either.either_has_one_reading.Goals as goal

pub returns-clause-alone : goal.returns-clause-alone
returns-clause-alone c = alone

pub returns-clause-logs : goal.returns-clause-logs
returns-clause-logs c = record { one_value = one_log; one_fault = one_first_fault; never_both = never_both; always_one = log_or_fault }
