use Rattle.std.proofs.Common.{◌++◌, ◌∷◌, ◌∙◌, [], ap, arith, refl}
use Rattle.std.proofs.lemmas.Bool.{ne_eqb}
use Rattle.srr_entry.specs.Entries.{entries_from, entry_of}
use Rattle.srr_entry.proofs.Making.{noted, order_of, view_of-past}
use Rattle.plan_advice.specs.inside.Pieces.{ints_given}
use Rattle.plan_advice.proofs.Blocks.{rest_is}
use Rattle.plan_advice.proofs.Keeping.{pieces_more}
use Rattle.plan_advice.proofs.pieces.pieces_of.Goals as goal

pub add_reply-requires : goal.add_reply-requires
add_reply-requires c = (
  c.loop-rest.invariant.own,
  c.loop-rest.invariant.known,
  order_of c.args.owner.now.ranks c.args.owner.now.rank _ c.loop-rest.invariant.own _ c.requires c.loop-rest.invariant.seen,
)

pub loop-rest-preserved-in_ok-note : goal.loop-rest-preserved-in_ok-note
loop-rest-preserved-in_ok-note c =
    let n = c.args.owner.now.ranks in
    let rank = c.args.owner.now.rank in
    let own = c.loop-rest.invariant.own in
    let known = c.loop-rest.invariant.known in
    let event = c.event-item.result in
    let more = own ++ (event.call, event.reply) ∷ [] in
    let step = noted n [] rank _ own more (entries_from n [] rank [] own) (entries_from n [] rank [] own ++ entry_of n [] rank own event.call event.reply ∷ []) c.loop-rest.rest.now event
    (entry_of n [] rank own event.call event.reply)
    c.loop-rest.invariant.seen refl c.in-len1-up.len_at_least c.event-item.is c.if-event-owner.true refl refl refl in
    let front = ap (λ l. ints_given l) (rest_is c.loop-rest.rest.now event c.in-len1-up.len_at_least c.event-item.is) in
    let ints = c.in_ok-add_reply.ensures.ints in
    let few = c.loop-rest.invariant.few in
    record {
      own = more;
      known = c.in_ok-note.ensures _ own known;
      seen = step.seen;
      pieces = pieces_more c.args.owner.now own more event.call event.reply c.loop-rest.pieces c.add_reply.new.pieces refl c.loop-rest.invariant.pieces
          (c.in_ok-add_reply.ensures.grown own known);
      few = omega (arith, front, ints, few);
    }

pub loop-rest-preserved : goal.loop-rest-preserved
loop-rest-preserved c =
    let own = c.loop-rest.invariant.own in
    let event = c.event-item.result in
    let past = view_of-past c.loop-rest.rest.now c.args.owner.now.rank event _ c.in-len1-up.len_at_least c.event-item.is (ne_eqb _ _ c.if-event-owner.false) in
    let front = ap (λ l. ints_given l) (rest_is c.loop-rest.rest.now event c.in-len1-up.len_at_least c.event-item.is) in
    let few = c.loop-rest.invariant.few in
    record {
      own = own;
      known = c.loop-rest.invariant.known;
      seen = c.loop-rest.invariant.seen ∙ ap (λ v. own ++ v) past;
      pieces = c.loop-rest.invariant.pieces;
      few = omega (arith, front, few);
    }
