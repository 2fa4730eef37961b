use Rattle.std.proofs.Common.{[], ℕ, List, subst, sym}
use Rattle.other_picks.specs.inside.Known.{AreStartCounts}
use Rattle.other_picks.proofs.Counting.{none_counted}
use Rattle.other_picks.proofs.counts.StartCounts.new.Goals as goal

pub returns : goal.returns
returns c = (let F : List ℕ → Type 0 = λ l. AreStartCounts [] l in subst F (sym c.in_ok-counts.ensures.items) (none_counted 256))
