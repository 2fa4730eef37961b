use Rattle.std.proofs.Common.{◌∙◌}
use Rattle.collectives.proofs.BoardLemmas.{seen_orderly}
use Rattle.collectives.proofs.board.Board.enters_on.Goals as goal

pub returns-clause-value : goal.returns-clause-value
returns-clause-value c = c.enters_by.ensures.value ∙ c.instances_on.ensures.count c.args.rank

pub returns-clause-orderly : goal.returns-clause-orderly
returns-clause-orderly c =
    seen_orderly c.args.self.now c.args.comm c.args.rank c.instances_on.result.now c.instances_on.ensures.enters (c.instances_on.ensures.count c.args.rank)
    c.enters_by.ensures.orderly
