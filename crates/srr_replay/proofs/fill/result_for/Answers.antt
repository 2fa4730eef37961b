use Rattle.srr_replay.proofs.CollectiveLemmas.{form_of, inputs_are}
use Rattle.srr_replay.proofs.fill.result_for.Goals as goal

pub inputs-requires-clause-form : goal.inputs-requires-clause-form
inputs-requires-clause-form c = rw (c.members-members.ensures, c.comm_of-comm.ensures) (form_of _ _ _ _ _ c.requires.collective).form

pub inputs-requires-clause-member : goal.inputs-requires-clause-member
inputs-requires-clause-member c = rw (c.members-members.ensures, c.comm_of-comm.ensures) (form_of _ _ _ _ _ c.requires.collective).members.has_me

pub result-requires-clause-form : goal.result-requires-clause-form
result-requires-clause-form c = rw (c.members-members.ensures, c.comm_of-comm.ensures) (form_of _ _ _ _ _ c.requires.collective).form

pub result-requires-clause-member : goal.result-requires-clause-member
result-requires-clause-member c = rw (c.members-members.ensures, c.comm_of-comm.ensures) (form_of _ _ _ _ _ c.requires.collective).members.has_me

pub result-requires-clause-inputs : goal.result-requires-clause-inputs
result-requires-clause-inputs c =
    rw (c.members-members.ensures, c.comm_of-comm.ensures)
    (inputs_are _ _ _ _ _ c.in_ok-inputs.inputs c.requires.collective
    (rw (c.members-members.ensures, c.instance-instance.ensures, c.comm_of-comm.ensures) at c.in_ok-inputs.ensures))
