use Rattle.std.proofs.Common.{◌∙◌, ap, List, ℕ, get_or, subst}
use Rattle.collectives.proofs.InstanceLemmas.{count_is, orderly_is}
use Rattle.collectives.specs.Instances.{AreOrderly, enters_by}
use Rattle.collectives.specs.declared.entrants.Entrant.{Entrant}
use Rattle.collectives.proofs.instances.Instances.enters_by.Goals as goal

pub returns-clause-value : goal.returns-clause-value
returns-clause-value c =
    c.count_of.ensures ∙ (ap (λ (counts : List ℕ). get_or counts c.args.rank 0) c.deref.ensures.value
    ∙ (count_is c.self.inside.lists.items c.self.inside.counts.items c.args.rank c.self.invariant
    ∙ ap (λ (instances : List (List Entrant)). enters_by instances c.args.rank) c.self.view_is))

pub returns-clause-orderly : goal.returns-clause-orderly
returns-clause-orderly c =
    let F : List (List Entrant) → Type 0 = λ instances. AreOrderly instances c.args.rank in
    subst F c.self.view_is (orderly_is c.self.inside.lists.items c.self.inside.counts.items c.args.rank c.self.invariant)
