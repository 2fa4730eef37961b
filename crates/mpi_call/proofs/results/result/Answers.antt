use Rattle.std.proofs.Common.{◌≡◌, ℕ, ◌+◌, ◌<◌, List, length, arith, ap, sym, ◌∙◌}
use Rattle.std.proofs.lemmas.List.{length-take-le}
use Rattle.mpi_call.proofs.InputLemmas.{allreduce_long, reduce_long, alltoall_long, scan_long, scatter_long}
use Rattle.mpi_call.proofs.MemberLemmas.{place_of-within}
use Rattle.mpi_call.specs.Members.{place_of}
use Rattle.mpi_call.proofs.results.result.Goals as goal

pub piece_at-requires : goal.piece_at-requires
piece_at-requires c =
    rw (c.root_input-all.ensures, c.place_of-place.ensures.value, c.as_slice-ranks.ensures, c.as_slice-lists.ensures)
    (scatter_long c.args.enter.now c.in-Enter.comm c.in-Enter.kind c.in-Enter.root c.in-Enter.op c.in-Enter.count c.in-Enter.ints c.args.members.now c.args.inputs.now c.args.me
    c.in-Enter.is c.in-Scatter.is c.requires.member c.requires.form c.requires.inputs)

pub reduced-requires : goal.reduced-requires
reduced-requires c =
    rw c.as_slice-lists.ensures
    (reduce_long c.args.enter.now c.in-Enter.comm c.in-Enter.kind c.in-Enter.root c.in-Enter.op c.in-Enter.count c.in-Enter.ints c.args.members.now c.args.inputs.now c.args.me
    c.in-Enter.is c.in-Reduce.is (sym c.is_root.ensures ∙ c.if-is_root.true) c.requires.inputs)

pub reduced-requires-in-Allreduce : goal.reduced-requires-in-Allreduce
reduced-requires-in-Allreduce c =
    rw c.as_slice-lists.ensures
    (allreduce_long c.args.enter.now c.in-Enter.comm c.in-Enter.kind c.in-Enter.root c.in-Enter.op c.in-Enter.count c.in-Enter.ints c.args.members.now c.args.inputs.now c.args.me
    c.in-Enter.is c.in-Allreduce.is c.requires.inputs)

pub pieces_for-requires : goal.pieces_for-requires
pieces_for-requires c =
    rw (c.place_of-place.ensures.value, c.as_slice-ranks.ensures, c.as_slice-lists.ensures)
    (alltoall_long c.args.enter.now c.in-Enter.comm c.in-Enter.kind c.in-Enter.root c.in-Enter.op c.in-Enter.count c.in-Enter.ints c.args.members.now c.args.inputs.now c.args.me
    c.in-Enter.is c.in-Alltoall.is c.requires.member c.requires.inputs)

pub slice_bounds-reduced-end : goal.slice_bounds-reduced-end
slice_bounds-reduced-end c =
    let within : place_of c.args.members.now c.args.me < length c.args.members.now = place_of-within c.args.members.now c.args.me c.requires.member in
    let many : length c.as_slice-lists.result.now ≡ length c.args.members.now = ap length c.as_slice-lists.ensures ∙ c.requires.inputs.as_many in
    let place : c.place_of-place.result ≡ place_of c.args.members.now c.args.me = c.place_of-place.ensures.value ∙ ap (λ (ranks : List ℕ). place_of ranks c.args.me) c.as_slice-ranks.ensures in
    sym (length-take-le (c.place_of-place.result + 1) c.as_slice-lists.result.now (omega arith))

pub reduced-requires-in-Scan : goal.reduced-requires-in-Scan
reduced-requires-in-Scan c =
    rw (c.place_of-place.ensures.value, c.as_slice-ranks.ensures, c.as_slice-lists.ensures)
    (scan_long c.args.enter.now c.in-Enter.comm c.in-Enter.kind c.in-Enter.root c.in-Enter.op c.in-Enter.count c.in-Enter.ints c.args.members.now c.args.inputs.now c.args.me
    c.in-Enter.is c.in-Scan.is c.requires.member c.requires.inputs)
