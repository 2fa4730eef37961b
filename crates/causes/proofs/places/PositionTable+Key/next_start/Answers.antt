use Rattle.std.proofs.Common.{ap, arith, length, ◌∙◌}
use Rattle.causes.specs.Positions.{is_start_of}
use Rattle.causes.specs.Tables.{positions_of_key}
use Rattle.causes.proofs.PartnerLemmas.{starts_from}
use Rattle.causes.proofs.PositionLemmas.{few-positions}
use Rattle.causes.proofs.places.PositionTable+Key.next_start.Goals as goal

pub returns : goal.returns
returns c = λ before at is.
    let same = ap length (c.get-starts.ensures ∙ ap (λ key. positions_of_key c.args.self.now key) c.starts_key.ensures ∙ is.starts c.args.rank) in
    let few = few-positions (is_start_of c.args.rank) 0 before in
    let number = starts_from c.args.rank 0 before in
    let least = c.min.ensures in
    omega (arith, same, few, number, least, at)
