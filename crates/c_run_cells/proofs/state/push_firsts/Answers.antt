use Rattle.std.proofs.Common.{◌∙◌, ◌++◌, ap, sym, arith, ℤ, List, append_assoc}
use Rattle.c_program.specs.Meaning.{repeated}
use Rattle.c_program.specs.State.{first_cells}
use Rattle.c_run_cells.proofs.StateLaws.{repeated_last, repeated_bound}
use Rattle.c_run_cells.proofs.state.push_firsts.Goals as goal

pub returns-in_err-push_first-clause-bound : goal.returns-in_err-push_first-clause-bound
returns-in_err-push_first-clause-bound c =
    repeated_bound c.args.cells.now.items c.push_first.new.cells.items (first_cells c.args.kind) c.loop-i._i c.args.elements (omega arith)
    (c.in_err-push_first.ensures.err ∙ c.loop-i.invariant)

pub loop-i-preserved : goal.loop-i-preserved
loop-i-preserved c =
    c.in_ok-push_first.ensures.ok
    ∙ ap (λ (xs : List ℤ). xs ++ first_cells c.args.kind) c.loop-i.invariant
    ∙ append_assoc c.args.cells.now.items (repeated c.loop-i._i (first_cells c.args.kind)) (first_cells c.args.kind)
    ∙ ap (λ (xs : List ℤ). c.args.cells.now.items ++ xs) (sym (repeated_last c.loop-i._i (first_cells c.args.kind)))

pub returns-clause-bound : goal.returns-clause-bound
returns-clause-bound c =
    repeated_bound c.args.cells.now.items c.loop-i.cells.items (first_cells c.args.kind) c.loop-i._i c.args.elements (omega (arith, c.loop-i.auto._i-end)) c.loop-i.invariant
