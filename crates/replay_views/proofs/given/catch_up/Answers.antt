use Rattle.std.proofs.Common.{◌∙◌, ◌++◌, ◌∷◌, [], ap, refl, subst, sym}
use Rattle.std.proofs.lemmas.List.{append-nil}
use Rattle.run_model.specs.Views.{View}
use Rattle.srr_entry.proofs.Making.{map_front}
use Rattle.replay_views.specs.inside.Got.{HasGot}
use Rattle.replay_views.proofs.GivenLemmas.{got_more, got_none, map_none, may_give, parts_more}
use Rattle.replay_views.proofs.given.catch_up.Goals as goal

pub loop-rest-init : goal.loop-rest-init
loop-rest-init g c = record { before = []; parts = refl; got = got_none (g.R.RankRun.standing c.args.run.now) c.requires.fresh }

pub answer-requires : goal.answer-requires
answer-requires g c =
    let first = g.R.RankRun.standing c.args.run.now in
    let inv = c.loop-rest.invariant in
    let event = c.event-item.result.now in
    let front = map_front (λ event. (event.now.call, event.now.reply)) c.loop-rest.rest.now c.event-item.result c.in-len1-up.len_at_least c.event-item.is in
    let parts = sym (ap (λ (v : View). inv.before ++ v) front) ∙ inv.parts in
    may_give (g.P.Program.next) first.program first.ranks first.rank inv.before _ _ event.call event.reply (g.R.RankRun.standing c.loop-rest.run)
    c.requires.came parts inv.got

pub loop-rest-preserved : goal.loop-rest-preserved
loop-rest-preserved g c =
    let first = g.R.RankRun.standing c.args.run.now in
    let inv = c.loop-rest.invariant in
    let event = c.event-item.result.now in
    let front = map_front (λ event. (event.now.call, event.now.reply)) c.loop-rest.rest.now c.event-item.result c.in-len1-up.len_at_least c.event-item.is in
    record {
      before = inv.before ++ (event.call, event.reply) ∷ [];
      parts = parts_more inv.before _ _ event.call event.reply (sym (ap (λ (v : View). inv.before ++ v) front) ∙ inv.parts);
      got = got_more first.program first.ranks first.rank inv.before event.call event.reply (g.R.RankRun.standing c.loop-rest.run) _ inv.got c.in_ok-answer.ensures;
    }

pub returns : goal.returns
returns g c =
    let first = g.R.RankRun.standing c.args.run.now in
    let inv = c.loop-rest.invariant in
    let none = map_none (λ event. (event.now.call, event.now.reply)) c.loop-rest.rest.now c.in_default.len_below in
    let whole = sym (append-nil inv.before) ∙ sym (ap (λ (v : View). inv.before ++ v) none) ∙ inv.parts in
    let F : View → Type 0 = λ view. HasGot first.program first.ranks first.rank view (g.R.RankRun.standing c.loop-rest.run) in
    subst F whole inv.got
