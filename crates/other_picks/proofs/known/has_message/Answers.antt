use Rattle.std.proofs.Common.{◌∙◌, ap, false, is_some, sym}
use Rattle.mpi_call.specs.declared.call.Call.TheVariants.{Peek}
use Rattle.mpi_call.specs.declared.call.Source.TheVariants.{From}
use Rattle.other_picks.proofs.Following.{choice_same}
use Rattle.other_picks.proofs.known.has_message.Goals as goal

pub returns : goal.returns
returns c = λ before knows.
    c.is_some.ensures
    ∙ sym (ap is_some (choice_same before c.args.rank (Peek c.args.comm (From c.args.sender) c.args.tag false) c.peek.result (c.peek.ensures.choice before knows)))
