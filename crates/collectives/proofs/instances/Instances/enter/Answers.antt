use Rattle.std.proofs.Common.{◌∙◌, ap, sym, List, None, Some, subst}
use Rattle.collectives.proofs.InstanceLemmas.{against_is}
use Rattle.collectives.specs.Entrants.{AllAgree}
use Rattle.collectives.specs.Instances.{enters_by, instance_enters, joins_unless}
use Rattle.collectives.specs.declared.entrants.Entrant.{Entrant}
use Rattle.collectives.proofs.instances.Instances.enter.Goals as goal

pub first_against-requires-clause-all : goal.first_against-requires-clause-all
first_against-requires-clause-all c =
    let P : List (List Entrant) → Type 0 = λ all. AllAgree (instance_enters all c.enters_by.result) in
    subst P (sym (c.deref.ensures.value ∙ c.self.view_is)) (c.enters_by.ensures.orderly.agreed c.enters_by.result)

pub returns-in-Some-clause-answer : goal.returns-in-Some-clause-answer
returns-in-Some-clause-answer c =
    ap (joins_unless (enters_by c.args.self.now c.args.rank))
    (against_is c.deref.result.now c.self.inside.lists.items c.args.self.now c.args.rank c.args.call.now c.enters_by.result (Some c.in-Some.other) c.deref.ensures.value c.self.view_is c.enters_by.ensures.value c.in-Some.ensures)

pub join-requires-clause-agrees : goal.join-requires-clause-agrees
join-requires-clause-agrees c =
    sym (against_is c.deref.result.now c.self.inside.lists.items c.args.self.now c.args.rank c.args.call.now c.enters_by.result None c.deref.ensures.value c.self.view_is c.enters_by.ensures.value c.in-None.ensures)
