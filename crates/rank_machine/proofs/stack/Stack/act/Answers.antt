use Rattle.std.proofs.Common.{refl}
use Rattle.c_program.proofs.StmtViewed.{pure-block, pure-do_while, pure-for, pure-if_else, pure-if_only, pure-while}
use Rattle.rank_machine.proofs.Stacks.{stands-from}
use Rattle.rank_machine.proofs.stack.Stack.act.Goals as goal

pub returns-in-Block-clause-stands : goal.returns-in-Block-clause-stands
returns-in-Block-clause-stands c = stands-from _ _ _ _ _ (rw (c.in-Block.is, pure-block, c.deref.ensures.value) refl) c.run_block.ensures.stands

pub returns-in-While-clause-stands : goal.returns-in-While-clause-stands
returns-in-While-clause-stands c = stands-from _ _ _ _ _ (rw (c.in-While.is, pure-while, c.deref-in-While.ensures) refl) c.run_while.ensures.stands

pub returns-in-Do-clause-stands : goal.returns-in-Do-clause-stands
returns-in-Do-clause-stands c = stands-from _ _ _ _ _ (rw (c.in-Do.is, pure-do_while, c.deref-in-Do.ensures) refl) c.run_do.ensures.stands

pub returns-in-For-clause-stands : goal.returns-in-For-clause-stands
returns-in-For-clause-stands c = stands-from _ _ _ _ _ (rw (c.in-For.is, pure-for, c.deref-in-For.ensures, c.as_ref.ensures.value, c.as_ref-in-For.ensures.value) refl) c.run_for.ensures.stands

pub returns-in-If-clause-stands : goal.returns-in-If-clause-stands
returns-in-If-clause-stands c = stands-from _ _ _ _ _ (rw (c.in-If.is, pure-if_only, c.deref-in-If.ensures) refl) c.run_if.ensures.stands

pub returns-in-IfElse-clause-stands : goal.returns-in-IfElse-clause-stands
returns-in-IfElse-clause-stands c =
    stands-from _ _ _ _ _ (rw (c.in-IfElse.is, pure-if_else, c.deref-in-IfElse.ensures, c.deref-in-IfElse-2.ensures) refl) c.run_if-in-IfElse.ensures.stands
