use Rattle.std.proofs.Common.{◌∙◌, ◌∷◌, [], ap, map, sym}
use Rattle.std.proofs.lemmas.List.{map-append}
use Rattle.srr_entry.proofs.KnownLemmas.{known_other, known_start}
use Rattle.srr_entry.proofs.known.Known.note.Goals as goal

pub returns-in_ok-push : goal.returns-in_ok-push
returns-in_ok-push c = λ n own is.
    known_start n own c.args.call.now c.args.reply.now c.self.inside.world _ _ c.self.inside.members c.add_reply.new.self
    (sym c.is_start.ensures ∙ c.if-is_start.true)
    (ap (map (λ call. call.now)) c.in_ok-push.ensures.items ∙ map-append (λ call. call.now) c.self.inside.starts.items (c.args.call ∷ []))
    c.in_ok-add_reply.ensures.ok (rw (← c.self.view_is) at is)

pub returns-else-is_start : goal.returns-else-is_start
returns-else-is_start c = λ n own is.
    known_other n own c.args.call.now c.args.reply.now c.self.inside.world _ c.self.inside.members c.add_reply.new.self
    (sym c.is_start.ensures ∙ c.if-is_start.false)
    c.in_ok-add_reply.ensures.ok (rw (← c.self.view_is) at is)
