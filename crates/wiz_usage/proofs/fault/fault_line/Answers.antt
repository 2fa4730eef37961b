use Rattle.wiz_usage.proofs.FaultLines.{of_the_fault}
use Rattle.wiz_usage.proofs.fault.fault_line.Goals as goal
use Rattle.wiz_usage.proofs.fault.fault_line.Goals.{in-Ok, in-Err+in-NoMemory, in-Err+in_default}

pub returns : goal.returns
returns c = elim c.match-read_program.branch [
  | in-Ok w ↦ rw w.result-is (λ fits fault is. w.in-Ok.ensures.only_fault fault is)
  | in-Err+in-NoMemory w ↦ rw w.result-is tt
  | in-Err+in_default w ↦ rw w.result-is (of_the_fault c.args.text.now w.in-Err.fault w.marked_line.result w.in_default.not-NoMemory w.in-Err.ensures.fault w.marked_line.ensures)
]
