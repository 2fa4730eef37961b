use Rattle.srr_replay.proofs.CollectiveLemmas.{form_of, inputs_are}
use Rattle.srr_replay.proofs.fill.members_for.Goals as goal

pub inputs-requires-clause-form : goal.inputs-requires-clause-form
inputs-requires-clause-form c = rw (c.members-members.ensures, c.comm_of-comm.ensures) (form_of _ _ _ _ _ c.requires.collective).form

pub inputs-requires-clause-member : goal.inputs-requires-clause-member
inputs-requires-clause-member c = rw (c.members-members.ensures, c.comm_of-comm.ensures) (form_of _ _ _ _ _ c.requires.collective).members.has_me

pub made-requires-clause-form : goal.made-requires-clause-form
made-requires-clause-form c = rw (c.members-members.ensures, c.comm_of-comm.ensures) (form_of _ _ _ _ _ c.requires.collective).form

pub made-requires-clause-member : goal.made-requires-clause-member
made-requires-clause-member c = rw (c.members-members.ensures, c.comm_of-comm.ensures) (form_of _ _ _ _ _ c.requires.collective).members.has_me

pub made-requires-clause-inputs : goal.made-requires-clause-inputs
made-requires-clause-inputs c =
    rw (c.members-members.ensures, c.comm_of-comm.ensures)
    (inputs_are _ _ _ _ _ c.in_ok-inputs.inputs c.requires.collective
    (rw (c.members-members.ensures, c.instance-instance.ensures, c.comm_of-comm.ensures) at c.in_ok-inputs.ensures))
