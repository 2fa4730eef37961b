use Rattle.std.proofs.Common.{◌≡◌, ℕ, arith, length, subst}
use Rattle.run_drawing.specs.inside.Scenes.{IsTraced}
use Rattle.run_drawing.proofs.tracing.trace.Goals as goal

pub returns : goal.returns
returns c =
    let behind = c.loop-at-test.false in
    let within = c.loop-at.auto.at-end in
    let all : c.loop-at.at ≡ length c.args.events.now = omega (arith, behind, within) in
    let T : ℕ → Type 0 = λ k. IsTraced c.args.n c.args.events.now k c.loop-at.tracing in
    subst T all c.loop-at.invariant
