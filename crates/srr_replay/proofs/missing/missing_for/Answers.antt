use Rattle.srr_replay.proofs.FormLemmas.{in_form}
use Rattle.srr_replay.proofs.missing.missing_for.Goals as goal

pub first_absent-requires-clause-form : goal.first_absent-requires-clause-form
first_absent-requires-clause-form c = rw (c.members-members.ensures, c.comm_of-comm.ensures) (in_form _ _ _ _ _ c.requires.order c.requires.start c.requires.enter).form

pub first_absent-requires-clause-member : goal.first_absent-requires-clause-member
first_absent-requires-clause-member c = rw (c.members-members.ensures, c.comm_of-comm.ensures) (in_form _ _ _ _ _ c.requires.order c.requires.start c.requires.enter).members.has_me
