use Rattle.std.proofs.Common.{◌∙◌, ap, List}
use Rattle.collectives.specs.Entrants.{has_entered}
use Rattle.collectives.specs.declared.entrants.Entrant.{Entrant}
use Rattle.collectives.proofs.board.Board.entered.Goals as goal

pub returns : goal.returns
returns c = c.entered.ensures ∙ ap (λ (es : List Entrant). has_entered es c.args.who) (c.instances_on.ensures.enters c.args.instance)
