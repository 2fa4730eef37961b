use Rattle.srr_log2.proofs.GroupExact.{no_beginning, either, same_log, fault_or_log}
use Rattle.srr_log2.proofs.WholeLaws.{no_text_is_bytes}
use Rattle.srr_log2.proofs.ReadLaws.{one_fault}
use Rattle.srr_log2.proofs.read_log2.one_reading.Goals as goal

pub returns-clause-bytes : goal.returns-clause-bytes
returns-clause-bytes c = no_beginning

pub returns-clause-apart : goal.returns-clause-apart
returns-clause-apart c = no_text_is_bytes

pub returns-clause-logs : goal.returns-clause-logs
returns-clause-logs c = record { one_value = same_log; one_fault = one_fault; never_both = fault_or_log; always_one = either }
