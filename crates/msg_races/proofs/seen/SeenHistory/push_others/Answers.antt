use Rattle.std.proofs.Common.{ℕ, List, subst, sym}
use Rattle.std.specs.List.Sorted.{IsNonDecreasingBy}
use Rattle.causes.specs.Positions.{is_start_of}
use Rattle.causes.proofs.PositionLemmas.{positions-sorted}
use Rattle.msg_races.proofs.seen.SeenHistory.push_others.Goals as goal

pub push_sent-requires-clause-sorted : goal.push_sent-requires-clause-sorted
push_sent-requires-clause-sorted c =
    let P : List ℕ → Type 0 = λ l. IsNonDecreasingBy (λ (n : ℕ). n) l in
    subst P (sym c.starts-starts.ensures.starts) (positions-sorted (is_start_of c.args.sender) c.args.self.now.causes.events)
