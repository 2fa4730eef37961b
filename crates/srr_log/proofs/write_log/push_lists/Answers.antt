use Rattle.std.proofs.Common.{◌≡◌, length, get_or, refl, sym, ap, ◌∙◌, arith}
use Rattle.std.specs.Prelude.{slice_index}
use Rattle.srr_log.proofs.WriteLaws.{lists_onward}
use Rattle.srr_log.proofs.write_log.push_lists.Goals as goal

pub loop-place-preserved : goal.loop-place-preserved
loop-place-preserved c =
    let is = c.index-lists-place.is in
    let ens = c.as_slice.ensures in
    lists_onward c.loop-place.out c.push_list.new.out _ c.args.group.now c.args.lists.now c.loop-place.place (slice_index c.args.group.now c.loop-place.place) c.as_slice.result.now c.loop-place-test.true
    (let many : length c.args.lists.now ≡ length c.args.group.now = c.requires in let within = c.loop-place-test.true in omega arith) refl (ens ∙ is ∙ ap (λ d. get_or c.args.lists.now c.loop-place.place d) (sym ens)) c.in_ok-push_list.ensures c.loop-place.invariant
