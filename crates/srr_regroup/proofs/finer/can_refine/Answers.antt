use Rattle.std.proofs.Common.{◌≡◌, List, [], false, get_or, refl, rules, subst, sym, ℕ}
use Rattle.std.proofs.lemmas.List.{get_or_default}
use Rattle.group_plan.specs.Plans.{number_of_ranks}
use Rattle.srr_regroup.specs.Refining.{IsLeastCrossing, crosses}
use Rattle.srr_regroup.proofs.finer.can_refine.Goals as goal

pub returns-in-Some-clause-fault : goal.returns-in-Some-clause-fault
returns-in-Some-clause-fault c =
    let same : number_of_ranks c.args.plan.now ≡ c.args.log.now.ranks = search rules in
    let found = c.in-Some.ensures.some c.in-Some.group refl in
    let least : IsLeastCrossing c.args.log.now.group c.args.plan.now c.in-Some.group = rw c.as_slice.ensures at found in
    (same, least)

pub returns-in-None-clause-refines : goal.returns-in-None-clause-refines
returns-in-None-clause-refines c =
    let same : number_of_ranks c.args.plan.now ≡ c.args.log.now.ranks = search rules in
    let F : List ℕ → Type 0 = λ ranks. crosses c.args.log.now.group ranks ≡ false in (
      same,
      λ k d within.
          let none = c.in-None.ensures.none refl k within in
          let here : crosses c.args.log.now.group (get_or c.args.plan.now k []) ≡ false = rw c.as_slice.ensures at none in
          subst F (sym (get_or_default c.args.plan.now k d [] within)) here,
    )
