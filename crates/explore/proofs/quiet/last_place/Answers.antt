use Rattle.std.proofs.Common.{◌≡◌, ◌∙◌, List, Some, ap, slice_get, subst, sym, ℕ}
use Rattle.picked_runs.specs.declared.turn.Turn.{Turn}
use Rattle.explore.proofs.Looking.{got_at}
use Rattle.explore.proofs.QuietLooked.{one_place}
use Rattle.explore.proofs.quiet.last_place.Goals as goal

pub returns-then-is_same_turns : goal.returns-then-is_same_turns
returns-then-is_same_turns c place same =
    let at : ℕ = c.in_ok-place.place in
    let states : List (List Turn) = c.args.states.now in
    let got : slice_get states at ≡ Some c.in_ok-last.last.now = got_at at states c.in_ok-last.last.now c.in_ok-last.ensures.lookup.3.0 c.in_ok-last.ensures.lookup.1 in
    let F : ℕ → Type 0 = λ p. slice_get states p ≡ Some c.args.turns.now in
    subst F (one_place at place same) (got ∙ ap (λ l. Some l) (sym c.as_slice.ensures ∙ c.is_same_turns.ensures c.if-is_same_turns.true))
