use Rattle.std.proofs.Common.{◌∙◌, ap, List, ℕ, Some, take, rules}
use Rattle.c_run_cells.proofs.StateLaws.{take_world}
use Rattle.c_run_cells.proofs.state.RankState.members.Goals as goal

pub returns-then-comm-eq0 : goal.returns-then-comm-eq0
returns-then-comm-eq0 c = record {
  members =
      rw c.if-comm-eq0.true
      (ap (λ (xs : List ℕ). Some (take c.args.rank.ranks xs)) (c.as_slice.ensures ∙ c.self.invariant.0)
      ∙ ap (λ (xs : List ℕ). Some xs) (take_world c.args.rank.ranks 64 0 c.requires));
  bound = search rules;
}
