use Rattle.std.proofs.Common.{◌∙◌, ap₂, List, ℕ, map}
use Rattle.std.proofs.lemmas.Result.{IfOk-weaker}
use Rattle.collectives.specs.Entrants.{ints_by}
use Rattle.collectives.specs.declared.entrants.Entrant.{Entrant}
use Rattle.collectives.proofs.board.Board.inputs.Goals as goal

pub returns : goal.returns
returns c =
    IfOk-weaker c.inputs.result _ _
    (λ inputs is. is ∙ ap₂ (λ (es : List Entrant) (members : List ℕ). map (ints_by es) members) (c.instances_on.ensures.enters c.args.instance) c.as_slice.ensures)
    c.inputs.ensures
