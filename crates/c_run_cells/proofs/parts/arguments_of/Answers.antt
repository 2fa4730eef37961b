use Rattle.std.proofs.Common.{◌≡◌, ◌∙◌, ◌+◌, ◌++◌, ◌∷◌, [], Ok, sym, ap, drop, rules}
use Rattle.c_program.specs.Meaning.{passed}
use Rattle.c_program.specs.View.{pure_argument}
use Rattle.c_run_cells.proofs.Lists.{behind, behind-none, each, each-more, each-passed}
use Rattle.c_run_cells.proofs.parts.arguments_of.Goals as goal

pub loop-argument-init : goal.loop-argument-init
loop-argument-init c = rw c.new-passed.ensures.items (each-passed c.args.arguments.now c.args.state.now ∙ behind-none (each (λ argument. passed (pure_argument argument) c.args.state.now) c.args.arguments.now))

pub loop-argument-preserved : goal.loop-argument-preserved
loop-argument-preserved c =
    let is : passed (pure_argument c.argument-item.result) c.args.state.now ≡ Ok c.in_ok-one.one = sym c.passed.ensures ∙ c.in_ok-one.was in
    let pushed : c.push.new.self.items ≡ c.loop-argument.passed.items ++ c.in_ok-one.one ∷ [] = search rules in
    c.loop-argument.invariant
    ∙ each-more (λ argument. passed (pure_argument argument) c.args.state.now) c.args.arguments.now c.loop-argument.argument-index c.argument-item.result c.loop-argument.passed.items c.in_ok-one.one c.loop-argument-test.true c.argument-item.is is
    ∙ ap (λ found. behind found (each (λ argument. passed (pure_argument argument) c.args.state.now) (drop (c.loop-argument.argument-index + 1) c.args.arguments.now))) (sym pushed)
