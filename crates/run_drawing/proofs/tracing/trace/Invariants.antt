use Rattle.run_drawing.specs.inside.Scenes.{IsTraced}
use Rattle.run_drawing.proofs.tracing.trace.Given as goal

abbrev pub invariant-loop-at : goal.invariant-loop-at
invariant-loop-at l = IsTraced l.n l.events l.at l.tracing
