use Rattle.std.proofs.Common.{ap, arith, length, ◌∙◌}
use Rattle.causes.specs.Positions.{is_start_of}
use Rattle.causes.specs.Tables.{positions_of_key}
use Rattle.causes.proofs.PositionLemmas.{few-positions}
use Rattle.causes.proofs.causes.Causes.starts.Goals as goal

pub returns-clause-short : goal.returns-clause-short
returns-clause-short c =
    let is = c.get.ensures ∙ ap (λ key. positions_of_key c.self.inside.places key) c.starts_key.ensures ∙ c.self.invariant.3.starts c.args.rank in
    let same = ap length is in
    let few = few-positions (is_start_of c.args.rank) 0 c.self.inside.events.now in
    let short = c.self.invariant.4 in
    omega (arith, same, few, short)
