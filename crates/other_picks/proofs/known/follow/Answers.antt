use Rattle.std.proofs.Common.{◌∙◌, refl, sym}
use Rattle.other_picks.proofs.Following.{enter_other, known_send, no_message, not_start}
use Rattle.other_picks.proofs.known.follow.Goals as goal

pub send-requires : goal.send-requires
send-requires c = (sym c.is_send.ensures ∙ c.if-is_send.true, c.knows_on.ensures.below c.args.before.now c.requires.known)

pub returns-then-not-is_start : goal.returns-then-not-is_start
returns-then-not-is_start c =
    c.knows_on.ensures.others c.args.before.now c.args.event.now c.requires.known
    (not_start c.requires.event.0 c.args.before.now c.args.event.now c.requires.event.1 (sym c.is_start.ensures ∙ c.if-not-is_start.true))

pub returns-then-is_send : goal.returns-then-is_send
returns-then-is_send c =
    known_send c.requires.event.0 c.args.before.now c.args.event.now c.in_ok-send.field-0 c.send.new.self c.requires.event.1 (sym c.is_start.ensures ∙ c.if-not-is_start.false)
    (sym c.is_send.ensures ∙ c.if-is_send.true) (c.in_ok-send.ensures.added.knows c.args.before.now c.requires.known refl)

pub returns : goal.returns
returns c =
    c.knows_on.ensures.others c.args.before.now c.args.event.now c.requires.known
    (enter_other c.requires.event.0 c.args.before.now c.args.event.now c.requires.event.1 (sym c.is_start.ensures ∙ c.if-not-is_start.false)
    (no_message c.args.event.now.call (sym c.is_send.ensures ∙ c.if-is_send.false) (sym c.is_post.ensures ∙ c.if-is_post.false)))
