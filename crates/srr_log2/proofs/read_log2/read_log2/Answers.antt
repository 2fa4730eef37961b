use Rattle.std.proofs.Common.{inl, inr, []}
use Rattle.srr_log2.proofs.GroupExact.{log_read, log_written, fault_or_log}
use Rattle.srr_log2.proofs.PlaceLaws.{stop_within}
use Rattle.srr_log2.proofs.ReadLaws.{stop_fault, one_fault, one_log, never_both}
use Rattle.srr_log2.proofs.read_log2.read_log2.Goals as goal

pub fault_of-requires-clause-fits : goal.fault_of-requires-clause-fits
fault_of-requires-clause-fits c = stop_within c.args.text.now [] c.in-Err.error c.in-Err.ensures

pub returns-in-Ok-clause-log : goal.returns-in-Ok-clause-log
returns-in-Ok-clause-log c = log_read c.args.text.now [] c.in-Ok.log c.in-Ok.ensures

pub returns-in-Ok-clause-only_log : goal.returns-in-Ok-clause-only_log
returns-in-Ok-clause-only_log c = λ log is. one_log c.args.text.now c.in-Ok.log log c.in-Ok.ensures (log_written c.args.text.now log is)

pub returns-in-Ok-clause-only_fault : goal.returns-in-Ok-clause-only_fault
returns-in-Ok-clause-only_fault c = λ first is. never_both c.args.text.now c.in-Ok.log first c.in-Ok.ensures is

pub returns-in-Err-clause-fault : goal.returns-in-Err-clause-fault
returns-in-Err-clause-fault c = stop_fault c.args.text.now c.in-Err.error c.fault_of.result c.in-Err.ensures c.fault_of.ensures

pub returns-in-Err-clause-only_log : goal.returns-in-Err-clause-only_log
returns-in-Err-clause-only_log c = λ log is.
    elim (stop_fault c.args.text.now c.in-Err.error c.fault_of.result c.in-Err.ensures c.fault_of.ensures) [
      | inl memory ↦ memory
      | inr first ↦ absurd (fault_or_log c.args.text.now log c.fault_of.result is first)
    ]

pub returns-in-Err-clause-only_fault : goal.returns-in-Err-clause-only_fault
returns-in-Err-clause-only_fault c = λ first is.
    elim (stop_fault c.args.text.now c.in-Err.error c.fault_of.result c.in-Err.ensures c.fault_of.ensures) [
      | inl memory ↦ inl memory
      | inr found ↦ inr (one_fault c.args.text.now c.fault_of.result first found is)
    ]
