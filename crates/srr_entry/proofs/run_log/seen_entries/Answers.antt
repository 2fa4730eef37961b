use Rattle.std.proofs.Common.{◌++◌, ◌∷◌, ◌∙◌, [], ap, append_assoc, sym}
use Rattle.run_model.specs.Views.{View}
use Rattle.srr_entry.proofs.Making.{made_more, map_front, order_of}
use Rattle.srr_entry.proofs.run_log.seen_entries.Goals as goal

pub entry-requires : goal.entry-requires
entry-requires c = (
  c.loop-rest.invariant.own,
  c.loop-rest.invariant.known,
  order_of c.args.owner.now.ranks c.args.owner.now.rank _ c.loop-rest.invariant.own _ c.requires c.loop-rest.invariant.seen,
)

pub loop-rest-preserved : goal.loop-rest-preserved
loop-rest-preserved c =
    let own = c.loop-rest.invariant.own in
    let known = c.loop-rest.invariant.known in
    let event = c.event-item.result.now in
    let front = map_front (λ event. (event.now.call, event.now.reply)) c.loop-rest.rest.now c.event-item.result c.in-len1-up.len_at_least c.event-item.is in
    record {
      own = own ++ (event.call, event.reply) ∷ [];
      known = c.in_ok-note.ensures _ own known;
      seen = c.loop-rest.invariant.seen ∙ ap (λ (v : View). own ++ v) front ∙ sym (append_assoc own ((event.call, event.reply) ∷ []) _);
      made = made_more c.args.owner.now.ranks c.args.owner.now.group.now c.args.owner.now.rank own event.call event.reply c.loop-rest.entries c.push.new.self c.in_ok-entry.entry
          c.loop-rest.invariant.made (c.in_ok-entry.ensures own known) c.in_ok-push.ensures.ok;
    }
