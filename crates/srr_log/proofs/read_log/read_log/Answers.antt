use Rattle.std.proofs.Common.{[], inl, inr}
use Rattle.srr_log.proofs.FaultLaws.{one_log, one_first_fault, fault_or_log, stop_within, stop_fault, read_is_log}
use Rattle.srr_log.proofs.read_log.read_log.Goals as goal

pub fault_of-requires-clause-fits : goal.fault_of-requires-clause-fits
fault_of-requires-clause-fits c = stop_within c.args.text.now [] c.in-Err.error c.in-Err.ensures.parts

pub returns-in-Ok-clause-log : goal.returns-in-Ok-clause-log
returns-in-Ok-clause-log c = read_is_log c.args.text.now c.in-Ok.log c.in-Ok.ensures.parts c.in-Ok.ensures.many

pub returns-in-Ok-clause-only_log : goal.returns-in-Ok-clause-only_log
returns-in-Ok-clause-only_log c = λ log is. one_log c.args.text.now c.in-Ok.log log (read_is_log c.args.text.now c.in-Ok.log c.in-Ok.ensures.parts c.in-Ok.ensures.many) is

pub returns-in-Ok-clause-only_fault : goal.returns-in-Ok-clause-only_fault
returns-in-Ok-clause-only_fault c = λ first is. fault_or_log c.args.text.now c.in-Ok.log first (read_is_log c.args.text.now c.in-Ok.log c.in-Ok.ensures.parts c.in-Ok.ensures.many) is

pub returns-in-Err-clause-fault : goal.returns-in-Err-clause-fault
returns-in-Err-clause-fault c = stop_fault c.args.text.now [] c.in-Err.error c.fault_of.result c.in-Err.ensures.parts c.fault_of.ensures

pub returns-in-Err-clause-only_log : goal.returns-in-Err-clause-only_log
returns-in-Err-clause-only_log c = λ log is.
    elim (stop_fault c.args.text.now [] c.in-Err.error c.fault_of.result c.in-Err.ensures.parts c.fault_of.ensures) [
      | inl memory ↦ memory
      | inr first ↦ absurd (fault_or_log c.args.text.now log c.fault_of.result is first)
    ]

pub returns-in-Err-clause-only_fault : goal.returns-in-Err-clause-only_fault
returns-in-Err-clause-only_fault c = λ first is.
    elim (stop_fault c.args.text.now [] c.in-Err.error c.fault_of.result c.in-Err.ensures.parts c.fault_of.ensures) [
      | inl memory ↦ inl memory
      | inr found ↦ inr (one_first_fault c.args.text.now c.fault_of.result first found is)
    ]
