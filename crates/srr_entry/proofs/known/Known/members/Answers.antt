use Rattle.srr_entry.proofs.KnownLemmas.{known_world}
use Rattle.srr_entry.proofs.known.Known.members.Goals as goal

pub returns-then-comm-eq0 : goal.returns-then-comm-eq0
returns-then-comm-eq0 c = λ n own is.
    rw c.if-comm-eq0.true (known_world n own _ (rw (← c.self.view_is) at is))
