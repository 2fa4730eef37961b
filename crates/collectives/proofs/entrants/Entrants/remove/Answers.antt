use Rattle.std.proofs.Common.{rules, not}
use Rattle.std.proofs.lemmas.Fn.{filter_same}
use Rattle.std.specs.Prelude.{◌==◌}
use Rattle.collectives.specs.declared.entrants.Entrant.{Entrant}
use Rattle.collectives.proofs.entrants.Entrants.remove.Goals as goal

pub returns : goal.returns
returns c =
    rw (← c.self.view_is) (filter_same _ (λ (entrant : Entrant). not (entrant.rank == c.args.rank)) _ (λ x b f r. search rules) _ _ c.retain.ensures.filtered)
