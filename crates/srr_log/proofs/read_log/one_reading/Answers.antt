use Rattle.srr_log.proofs.FaultLaws.{no_beginning, one_log, one_first_fault, fault_or_log}
use Rattle.srr_log.proofs.LogOrFault.{log_or_fault}
use Rattle.srr_log.proofs.read_log.one_reading.Goals as goal

pub returns-clause-texts : goal.returns-clause-texts
returns-clause-texts c = no_beginning

pub returns-clause-logs : goal.returns-clause-logs
returns-clause-logs c = record {
  one_value = one_log;
  one_fault = one_first_fault;
  never_both = fault_or_log;
  always_one = log_or_fault;
}
