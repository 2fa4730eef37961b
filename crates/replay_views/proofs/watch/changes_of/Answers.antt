use Rattle.std.proofs.Common.{◌∙◌, ◌++◌, ap, arith, map, refl, subst, sym}
use Rattle.run_model.specs.Views.{View}
use Rattle.srr_entry.proofs.Making.{map_front}
use Rattle.replay_views.proofs.GivenLemmas.{got_asked, map_none, may_give, seen_length}
use Rattle.replay_views.proofs.WatchLemmas.{WatchedSoFar, room, watched_all, watched_more, watched_none}
use Rattle.replay_views.proofs.watch.changes_of.Goals as goal

pub loop-rest-init : goal.loop-rest-init
loop-rest-init g c =
    watched_none g.P.Program.next g.P.Program.variables c.args.name.now (g.R.RankRun.standing c.args.run.now) _ _ c.requires.fresh c.new-changes.ensures

pub give-requires-clause-shape : goal.give-requires-clause-shape
give-requires-clause-shape g c =
    let first = g.R.RankRun.standing c.args.run.now in
    let inv = c.loop-rest.invariant in
    let event = c.event-item.result.now in
    let front = map_front (λ event. (event.now.call, event.now.reply)) c.loop-rest.rest.now c.event-item.result c.in-len1-up.len_at_least c.event-item.is in
    let parts = sym (ap (λ (v : View). inv.before ++ v) front) ∙ inv.parts in
    may_give g.P.Program.next first.program first.ranks first.rank inv.before _ _ event.call event.reply (g.R.RankRun.standing c.look.new.run) c.requires.came parts
    (got_asked first.program first.ranks first.rank inv.before (g.R.RankRun.standing c.loop-rest.run) _ inv.got c.in_ok-look.ensures.run)

pub loop-rest-preserved : goal.loop-rest-preserved
loop-rest-preserved g c =
    let first = g.R.RankRun.standing c.args.run.now in
    let event = c.event-item.result.now in
    let front = map_front (λ event. (event.now.call, event.now.reply)) c.loop-rest.rest.now c.event-item.result c.in-len1-up.len_at_least c.event-item.is in
    let F : View → Type 0 = λ left. WatchedSoFar g.P.Program.next g.P.Program.variables c.args.name.now first (map (λ event. (event.now.call, event.now.reply)) c.args.own.now) left c.loop-rest.number c.loop-rest.last c.loop-rest.changes (g.R.RankRun.standing c.loop-rest.run) in
    watched_more g.P.Program.next g.P.Program.variables c.args.name.now first (map (λ event. (event.now.call, event.now.reply)) c.args.own.now) _ event.call event.reply c.loop-rest.number _ c.loop-rest.last _ c.loop-rest.changes _
    (g.R.RankRun.standing c.loop-rest.run) (g.R.RankRun.standing c.look.new.run) _ (subst F front c.loop-rest.invariant)
    c.in_ok-look.ensures.run c.in_ok-give.ensures.ok c.in_ok-look.ensures.last c.in_ok-look.ensures.changes refl

pub overflow_add-number : goal.overflow_add-number
overflow_add-number g c =
    let within = room g.P.Program.next g.P.Program.variables c.args.name.now _ _ _ c.loop-rest.number _ _ _ c.loop-rest.invariant in
    let rest = seen_length c.loop-rest.rest.now in
    let all = seen_length c.args.own.now in
    omega (arith, within, rest, all)

pub returns : goal.returns
returns g c =
    let first = g.R.RankRun.standing c.args.run.now in
    let none = map_none (λ event. (event.now.call, event.now.reply)) c.loop-rest.rest.now c.in_default.len_below in
    let F : View → Type 0 = λ left. WatchedSoFar g.P.Program.next g.P.Program.variables c.args.name.now first (map (λ event. (event.now.call, event.now.reply)) c.args.own.now) left c.loop-rest.number c.loop-rest.last c.loop-rest.changes (g.R.RankRun.standing c.loop-rest.run) in
    watched_all g.P.Program.next g.P.Program.variables c.args.name.now first (map (λ event. (event.now.call, event.now.reply)) c.args.own.now) c.loop-rest.number c.loop-rest.last c.loop-rest.changes _ (g.R.RankRun.standing c.loop-rest.run)
    (subst F none c.loop-rest.invariant) c.in_ok-look-2.ensures.changes
