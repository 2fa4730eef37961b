use Rattle.srr_replay.proofs.FormLemmas.{in_form}
use Rattle.srr_replay.proofs.clash.clash_for.Goals as goal

pub first_clash-requires-clause-form : goal.first_clash-requires-clause-form
first_clash-requires-clause-form c = rw (c.members.ensures, c.comm_of-comm.ensures) (in_form _ _ _ _ _ c.requires.order c.requires.start c.requires.enter).form

pub first_clash-requires-clause-member : goal.first_clash-requires-clause-member
first_clash-requires-clause-member c = rw (c.members.ensures, c.comm_of-comm.ensures) (in_form _ _ _ _ _ c.requires.order c.requires.start c.requires.enter).members.has_me
