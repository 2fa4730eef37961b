use Rattle.std.proofs.Common.{◌≡◌, ◌++◌, ℕ, List, ap, arith, length}
use Rattle.causes.specs.Positions.{is_event_of, positions}
use Rattle.causes.proofs.PositionLemmas.{few-positions}
use Rattle.run_drawing.specs.Drawings.{marks_from}
use Rattle.run_drawing.specs.inside.Scenes.{basis_of}
use Rattle.run_drawing.proofs.draw.push_marks.Goals as goal

pub loop-rest-init : goal.loop-rest-init
loop-rest-init c =
    let same : c.own_events-rest.result.now ≡ positions (is_event_of c.args.rank) 0 c.args.scene.now.causes.events = c.own_events-rest.ensures in
    let few = few-positions (is_event_of c.args.rank) 0 c.args.scene.now.causes.events in
    let long = ap length same in
    let short = c.requires.short in
    record {
      short = omega (arith, long, few, short);
      marks = ap (λ (l : List ℕ). c.args.marks.now.items ++ marks_from (basis_of c.args.scene.now) c.args.rank 0 l) same;
    }
