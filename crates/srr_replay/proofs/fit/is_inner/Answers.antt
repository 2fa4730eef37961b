use Rattle.srr_replay.proofs.FormLemmas.{in_form}
use Rattle.srr_replay.proofs.fit.is_inner.Goals as goal

pub all_within-requires-clause-form : goal.all_within-requires-clause-form
all_within-requires-clause-form c = rw (c.members-members.ensures, c.comm_of.ensures) (in_form _ _ _ _ _ c.requires.order c.requires.start c.requires.enter).form

pub all_within-requires-clause-member : goal.all_within-requires-clause-member
all_within-requires-clause-member c = rw (c.members-members.ensures, c.comm_of.ensures) (in_form _ _ _ _ _ c.requires.order c.requires.start c.requires.enter).members.has_me
