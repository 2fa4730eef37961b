use Rattle.std.proofs.Common.{◌≡◌, ◌∙◌, ◌-◌, ◌<◌, ap, List, get_or, arith, length}
use Rattle.collectives.proofs.InstanceLemmas.{count_is, count_kept, counts_within, kept_after_leave, last_within, left_is, loses_at, loses_is}
use Rattle.collectives.specs.Instances.{enters_by}
use Rattle.collectives.specs.declared.entrants.Entrant.{Entrant}
use Rattle.collectives.proofs.instances.Instances.leave.Goals as goal

pub overflow_sub-last : goal.overflow_sub-last
overflow_sub-last c =
    let count : c.enters_by-last.result ≡ get_or c.self.inside.counts.items c.args.rank 0 =
    count_kept c.self.inside.lists.items c.args.self.now c.self.inside.counts.items c.args.rank c.enters_by-last.result c.self.invariant c.self.view_is c.enters_by-last.ensures.value in
    let whole : get_or c.self.inside.counts.items c.args.rank 0 ≡ enters_by c.args.self.now c.args.rank =
    count_is c.self.inside.lists.items c.self.inside.counts.items c.args.rank c.self.invariant ∙ ap (λ (instances : List (List Entrant)). enters_by instances c.args.rank) c.self.view_is in
    omega arith

pub index_mut-requires : goal.index_mut-requires
index_mut-requires c =
    let count : c.enters_by-last.result ≡ get_or c.self.inside.counts.items c.args.rank 0 =
    count_kept c.self.inside.lists.items c.args.self.now c.self.inside.counts.items c.args.rank c.enters_by-last.result c.self.invariant c.self.view_is c.enters_by-last.ensures.value in
    let whole : get_or c.self.inside.counts.items c.args.rank 0 ≡ enters_by c.args.self.now c.args.rank =
    count_is c.self.inside.lists.items c.self.inside.counts.items c.args.rank c.self.invariant ∙ ap (λ (instances : List (List Entrant)). enters_by instances c.args.rank) c.self.view_is in
    let within : get_or c.self.inside.counts.items c.args.rank 0 - 1 < length c.self.inside.lists.items =
    last_within c.self.inside.lists.items c.self.inside.counts.items c.args.rank c.self.invariant (omega arith) in
    let counted : c.self.inside.lists.len ≡ length c.self.inside.lists.items = c.self.inside.lists.ok.0 in
    omega arith

pub index_mut-requires-2 : goal.index_mut-requires-2
index_mut-requires-2 c =
    let whole : get_or c.self.inside.counts.items c.args.rank 0 ≡ enters_by c.args.self.now c.args.rank =
    count_is c.self.inside.lists.items c.self.inside.counts.items c.args.rank c.self.invariant ∙ ap (λ (instances : List (List Entrant)). enters_by instances c.args.rank) c.self.view_is in
    let within : c.args.rank < length c.self.inside.counts.items = counts_within c.self.inside.counts.items c.args.rank (omega arith) in
    omega arith

pub invariant_of-self : goal.invariant_of-self
invariant_of-self c =
    let count : c.enters_by-last.result ≡ get_or c.self.inside.counts.items c.args.rank 0 =
    count_kept c.self.inside.lists.items c.args.self.now c.self.inside.counts.items c.args.rank c.enters_by-last.result c.self.invariant c.self.view_is c.enters_by-last.ensures.value in
    let whole : get_or c.self.inside.counts.items c.args.rank 0 ≡ enters_by c.args.self.now c.args.rank =
    count_is c.self.inside.lists.items c.self.inside.counts.items c.args.rank c.self.invariant ∙ ap (λ (instances : List (List Entrant)). enters_by instances c.args.rank) c.self.view_is in
    let some : 0 < get_or c.self.inside.counts.items c.args.rank 0 = omega arith in
    let within : get_or c.self.inside.counts.items c.args.rank 0 - 1 < length c.self.inside.lists.items =
    last_within c.self.inside.lists.items c.self.inside.counts.items c.args.rank c.self.invariant some in
    let last_is : c.enters_by-last.result - 1 < length c.self.inside.lists.items = omega arith in
    kept_after_leave c.self.inside.lists.items _ c.self.inside.counts.items (c.enters_by-last.result - 1) c.args.rank c.self.invariant
    (loses_is c.self.inside.lists.items (c.enters_by-last.result - 1) c.args.rank c.remove.new.self last_is
    (left_is c.self.inside.lists.items (c.enters_by-last.result - 1) c.args.rank c.index_mut.result.now c.remove.new.self last_is c.index_mut.ensures.value c.remove.ensures))
    (counts_within c.self.inside.counts.items c.args.rank some) (omega arith)

pub returns : goal.returns
returns c =
    let count : c.enters_by-last.result ≡ get_or c.self.inside.counts.items c.args.rank 0 =
    count_kept c.self.inside.lists.items c.args.self.now c.self.inside.counts.items c.args.rank c.enters_by-last.result c.self.invariant c.self.view_is c.enters_by-last.ensures.value in
    let whole : get_or c.self.inside.counts.items c.args.rank 0 ≡ enters_by c.args.self.now c.args.rank =
    count_is c.self.inside.lists.items c.self.inside.counts.items c.args.rank c.self.invariant ∙ ap (λ (instances : List (List Entrant)). enters_by instances c.args.rank) c.self.view_is in
    let some : 0 < get_or c.self.inside.counts.items c.args.rank 0 = omega arith in
    let within : get_or c.self.inside.counts.items c.args.rank 0 - 1 < length c.self.inside.lists.items =
    last_within c.self.inside.lists.items c.self.inside.counts.items c.args.rank c.self.invariant some in
    let last_is : c.enters_by-last.result - 1 < length c.self.inside.lists.items = omega arith in
    let last_too : c.enters_by-last.result - 1 ≡ enters_by c.args.self.now c.args.rank - 1 = omega arith in
    loses_at c.self.inside.lists.items c.args.self.now _ (c.enters_by-last.result - 1) (enters_by c.args.self.now c.args.rank - 1) c.args.rank c.self.view_is last_too
    (loses_is c.self.inside.lists.items (c.enters_by-last.result - 1) c.args.rank c.remove.new.self last_is
    (left_is c.self.inside.lists.items (c.enters_by-last.result - 1) c.args.rank c.index_mut.result.now c.remove.new.self last_is c.index_mut.ensures.value c.remove.ensures))
