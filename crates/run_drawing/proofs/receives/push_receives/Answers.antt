use Rattle.std.proofs.Common.{◌≡◌, ◌++◌, ℕ, List, ap, flat_map, subst, sym}
use Rattle.mpi_call.specs.Lists.{Rises}
use Rattle.causes.specs.Positions.{is_start_of, positions}
use Rattle.causes.proofs.PositionLemmas.{positions-rise}
use Rattle.msg_races.specs.declared.sends.Way.{Way}
use Rattle.run_drawing.specs.Drawings.{receive_at}
use Rattle.run_drawing.specs.inside.Scenes.{ArePast, basis_of}
use Rattle.run_drawing.proofs.ChoiceLemmas.{past_none}
use Rattle.run_drawing.proofs.receives.push_receives.Goals as goal

pub loop-rest-init : goal.loop-rest-init
loop-rest-init c =
    let same : c.starts-rest.result.now ≡ positions (is_start_of c.args.rank) 0 c.args.scene.now.causes.events = c.starts-rest.ensures.starts in
    let R : List ℕ → Type 0 = λ l. Rises 0 l in
    let P : List (Way × ℕ) → Type 0 = λ t. ArePast (basis_of c.args.scene.now) 0 t in
    record {
      low = 0;
      rises = subst R (sym same) (positions-rise (is_start_of c.args.rank) 0 c.args.scene.now.causes.events);
      past = subst P (sym c.new-skipped.ensures) (past_none (basis_of c.args.scene.now) 0);
      found = ap (λ (l : List ℕ). c.args.found.now.items ++ flat_map (receive_at (basis_of c.args.scene.now)) l) same;
    }
