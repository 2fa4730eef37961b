use Rattle.std.proofs.Common.{inr}
use Rattle.c_grammar.specs.StmtView.{tree_view}
use Rattle.c_scope.specs.Typing.{faults_of}
use Rattle.c_types.specs.ProgramTyping.{program_typing}
use Rattle.c_types.proofs.Laws.{is_first, one_first}
use Rattle.c_types.proofs.typing.check.Goals as goal

pub returns-clause-fault : goal.returns-clause-fault
returns-clause-fault c =
    inr
    (is_first c.args.text.now (faults_of (program_typing c.args.text.now (tree_view c.args.tree))) c.in-Err.fault c.refused.result (rw c.in-Err.is at c.in_ok-program.ensures)
    c.refused.ensures.place c.refused.ensures.why)

pub returns-clause-only_fault : goal.returns-clause-only_fault
returns-clause-only_fault c = λ first is.
    let faults = faults_of (program_typing c.args.text.now (tree_view c.args.tree)) in
    inr
    (one_first c.args.text.now faults c.refused.result first
    (is_first c.args.text.now faults c.in-Err.fault c.refused.result (rw c.in-Err.is at c.in_ok-program.ensures) c.refused.ensures.place c.refused.ensures.why) is)
