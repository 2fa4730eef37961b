use Rattle.std.proofs.Common.{refl}
use Rattle.other_picks.proofs.Following.{known_paired, known_post}
use Rattle.other_picks.proofs.known.follow_post.Goals as goal

pub post-requires : goal.post-requires
post-requires c = (c.requires.post, c.knows_on.ensures.below c.args.before.now c.requires.known)

pub returns-in-Some : goal.returns-in-Some
returns-in-Some c =
    known_paired c.requires.event.0 c.args.before.now c.args.event.now c.in-Some.mate c.post_from.result c.post_from.new.self c.requires.event.1 c.requires.start c.requires.post c.in-Some.is
    (rw c.rank_at-sender.ensures at (c.post_from.ensures.picked.knows c.args.before.now c.requires.known))

pub returns-in_ok-post-in-None : goal.returns-in_ok-post-in-None
returns-in_ok-post-in-None c =
    known_post c.requires.event.0 c.args.before.now c.args.event.now c.in_ok-post-in-None.field-0 c.post.new.self c.requires.event.1 c.requires.start c.requires.post c.in-None.is
    (c.in_ok-post-in-None.ensures.added.knows c.args.before.now c.requires.known refl)
