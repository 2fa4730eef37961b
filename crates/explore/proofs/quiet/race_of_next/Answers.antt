use Rattle.std.proofs.Common.{◌∙◌, ℕ, List, sym}
use Rattle.run_model.specs.declared.event.Event.{Event}
use Rattle.run_model.specs.Views.{Next}
use Rattle.explore.specs.Explored.{events_of_turns}
use Rattle.explore.specs.inside.RaceFlags.{races_of}
use Rattle.explore.proofs.Begun.{asked_call, course_asked, none_is, stands_at}
use Rattle.explore.proofs.QuietLooked.{reckoned_more}
use Rattle.explore.proofs.RaceLaws.{next_reckoned}
use Rattle.explore.proofs.quiet.race_of_next.Goals as goal

pub loop-rank-preserved : goal.loop-rank-preserved
loop-rank-preserved g c =
    let next : Next = g.P.Program.next c.args.setting.now.program.now in
    let n : ℕ = c.args.setting.now.ranks in
    let program = c.args.setting.now.program.now in
    let before : List Event = events_of_turns next n c.args.turns.now in
    let rank : ℕ = c.loop-rank.rank in
    let machine = c.loop-rank.course.machine in
    let runs = c.loop-rank.course.runs.items in
    let run = c.index_mut.result.now in
    let is = c.loop-rank.invariant.course in
    let stands = stands_at g.R.RankRun.standing program n before machine runs rank run is c.loop-rank-test.true c.index_mut.ensures.value in
    let called = asked_call g.P.Program.next program n rank before (g.R.RankRun.standing run) c.in_ok-next.next stands c.in_ok-next.ensures.call in
    record {
      course = course_asked g.R.RankRun.standing program n before machine runs rank run c.call_of.new.run is c.loop-rank-test.true c.index_mut.ensures.value c.in_ok-next.ensures.run;
      reckoned = reckoned_more next n (races_of c.args.races.now) before rank c.in_ok-next.next called
          (next_reckoned c.args.races.now rank c.in_ok-next.next (sym c.race_next-race.ensures ∙ none_is c.race_next-race.result (sym c.is_some.ensures ∙ c.if-is_some.false))) c.loop-rank.invariant.reckoned;
    }
