use Rattle.std.proofs.Common.{◌≡◌, ◌∙◌, ◌<◌, ◌≤◌, ap, ap₂, sym, List, ℕ, get_or, arith, length, vec_len}
use Rattle.mpi_call.specs.Calls.{is_enter}
use Rattle.mpi_call.specs.declared.call.Call.{Call}
use Rattle.collectives.proofs.InstanceLemmas.{count_kept, kept_after_enter, next_within}
use Rattle.collectives.specs.Entrants.{first_against}
use Rattle.collectives.specs.Instances.{enters_by, instance_enters}
use Rattle.collectives.specs.declared.entrants.Entrant.{Entrant}
use Rattle.collectives.proofs.instances.Instances.join.Goals as goal

pub add-requires : goal.add-requires
add-requires c =
    let count : c.enters_by-instance.result ≡ get_or c.self.inside.counts.items c.args.rank 0 =
    count_kept c.self.inside.lists.items c.args.self.now c.self.inside.counts.items c.args.rank c.enters_by-instance.result c.self.invariant c.self.view_is c.enters_by-instance.ensures.value in
    let within : get_or c.self.inside.counts.items c.args.rank 0 ≤ length c.self.inside.lists.items = next_within c.self.inside.lists.items c.self.inside.counts.items c.args.rank c.self.invariant in
    omega arith

pub invariant_of-self-2 : goal.invariant_of-self-2
invariant_of-self-2 c =
    let count : c.enters_by-instance.result ≡ get_or c.self.inside.counts.items c.args.rank 0 =
    count_kept c.self.inside.lists.items c.args.self.now c.self.inside.counts.items c.args.rank c.enters_by-instance.result c.self.invariant c.self.view_is c.enters_by-instance.ensures.value in
    let room : c.args.rank < vec_len c.reserve.new.counts = c.in_ok-reserve.ensures.ok in
    let counted : c.reserve.new.counts.len ≡ length c.reserve.new.counts.items = c.reserve.new.counts.ok.0 in
    let within : c.args.rank < length c.reserve.new.counts.items = omega arith in
    kept_after_enter c.self.inside.lists.items c.add.new.lists.items c.self.inside.counts.items c.reserve.new.counts.items c.enters_by-instance.result
    (record { rank = c.args.rank; call = c.in_ok-call.call }) c.self.invariant c.in_ok-add.ensures.ok count within c.reserve.ensures.same
    (ap is_enter c.in_ok-call.ensures ∙ c.requires.call)
    (sym c.requires.agrees ∙ (ap₂ (λ (lists : List (List Entrant)) (call : Call). first_against (instance_enters lists (enters_by c.args.self.now c.args.rank)) call) (sym c.self.view_is) (sym c.in_ok-call.ensures)
    ∙ ap (λ (n : ℕ). first_against (instance_enters c.self.inside.lists.items n) c.in_ok-call.call) (sym c.enters_by-instance.ensures.value)))
