use Rattle.std.proofs.Common.{◌∙◌, ℕ, List, sym}
use Rattle.run_model.specs.declared.event.Event.{Event}
use Rattle.run_model.specs.Views.{Next}
use Rattle.explore.specs.Explored.{events_of_turns}
use Rattle.explore.proofs.Again.{ahead_by}
use Rattle.explore.proofs.Begun.{answered_there, asked_call, asked_there, course_asked, course_held, held_there, stands_at}
use Rattle.explore.proofs.Noting.{went_not}
use Rattle.explore.proofs.Tried.{unanswered_ended, unanswered_held}
use Rattle.std.proofs.lemmas.Bool.Decides.{when_false, when_true}
use Rattle.srr_entry.specs.Outputs.{Output}
use Rattle.explore.proofs.tries.try_turn.Goals as goal

pub returns-in_default : goal.returns-in_default
returns-in_default g c =
    let next : Next = g.P.Program.next c.args.setting.now.program.now in
    let output : Output = g.P.Program.output c.args.setting.now.program.now in
    let n : ℕ = c.args.setting.now.ranks in
    let root : List Event = events_of_turns next n c.args.setting.now.under.now in
    let program = c.args.setting.now.program.now in
    let before : List Event = events_of_turns next n c.args.turns.now in
    let rank : ℕ = c.args.turn.rank in
    let run = c.index_mut.result.now in
    let stands = stands_at g.R.RankRun.standing program n before c.args.course.now.machine c.args.course.now.runs.items rank run c.requires.course c.requires.rank c.index_mut.ensures.value in
    let called = asked_call g.P.Program.next program n rank before (g.R.RankRun.standing run) c.in_ok-call.field-0 stands c.in_ok-call.ensures.call in
    let course = course_asked g.R.RankRun.standing program n before c.args.course.now.machine c.args.course.now.runs.items rank run c.call_of.new.run c.requires.course c.requires.rank c.index_mut.ensures.value c.in_ok-call.ensures.run in
    record {
      course = course;
      went = went_not next output n root c.args.met.now c.requires.met;
      tried = unanswered_ended next n before c.args.turn (called ∙ c.in_default.is);
    }

pub answer-requires-clause-next : goal.answer-requires-clause-next
answer-requires-clause-next g c =
    let next : Next = g.P.Program.next c.args.setting.now.program.now in
    let output : Output = g.P.Program.output c.args.setting.now.program.now in
    let n : ℕ = c.args.setting.now.ranks in
    let root : List Event = events_of_turns next n c.args.setting.now.under.now in
    let program = c.args.setting.now.program.now in
    let before : List Event = events_of_turns next n c.args.turns.now in
    let rank : ℕ = c.args.turn.rank in
    let run = c.index_mut.result.now in
    let stands = stands_at g.R.RankRun.standing program n before c.args.course.now.machine c.args.course.now.runs.items rank run c.requires.course c.requires.rank c.index_mut.ensures.value in
    let called = asked_call g.P.Program.next program n rank before (g.R.RankRun.standing run) c.in_ok-call.field-0 stands c.in_ok-call.ensures.call in
    let course = course_asked g.R.RankRun.standing program n before c.args.course.now.machine c.args.course.now.runs.items rank run c.call_of.new.run c.requires.course c.requires.rank c.index_mut.ensures.value c.in_ok-call.ensures.run in
    asked_there g.P.Program.next g.R.RankRun.standing program n before c.args.course.now.machine c.args.course.now.runs.items rank c.in-Some.call c.requires.course (called ∙ c.in-Some.is)

pub returns-then-not-branch : goal.returns-then-not-branch
returns-then-not-branch g c =
    let next : Next = g.P.Program.next c.args.setting.now.program.now in
    let output : Output = g.P.Program.output c.args.setting.now.program.now in
    let n : ℕ = c.args.setting.now.ranks in
    let root : List Event = events_of_turns next n c.args.setting.now.under.now in
    let program = c.args.setting.now.program.now in
    let before : List Event = events_of_turns next n c.args.turns.now in
    let rank : ℕ = c.args.turn.rank in
    let run = c.index_mut.result.now in
    let stands = stands_at g.R.RankRun.standing program n before c.args.course.now.machine c.args.course.now.runs.items rank run c.requires.course c.requires.rank c.index_mut.ensures.value in
    let called = asked_call g.P.Program.next program n rank before (g.R.RankRun.standing run) c.in_ok-call.field-0 stands c.in_ok-call.ensures.call in
    let course = course_asked g.R.RankRun.standing program n before c.args.course.now.machine c.args.course.now.runs.items rank run c.call_of.new.run c.requires.course c.requires.rank c.index_mut.ensures.value c.in_ok-call.ensures.run in
    let machine = c.args.course.now.machine in
    let held = held_there g.R.RankRun.standing program n before machine c.args.course.now.runs.items c.answer.new.machine.events rank c.in-Some.call c.args.turn.pick c.requires.course
    (when_false _ _ c.if-not-branch.true c.in_ok-answer.ensures.answered) in
    record {
      course = course_held g.R.RankRun.standing program n before machine c.answer.new.machine _ course c.in_ok-answer.ensures.program c.in_ok-answer.ensures.ranks (held.events_are ∙ sym c.requires.course.events_are);
      went = went_not next output n root c.args.met.now c.requires.met;
      tried = unanswered_held next n before c.answer.new.machine.events c.args.turn c.in-Some.call (called ∙ c.in-Some.is) held;
    }

pub note-requires-clause-made : goal.note-requires-clause-made
note-requires-clause-made g c =
    let next : Next = g.P.Program.next c.args.setting.now.program.now in
    let output : Output = g.P.Program.output c.args.setting.now.program.now in
    let n : ℕ = c.args.setting.now.ranks in
    let root : List Event = events_of_turns next n c.args.setting.now.under.now in
    let program = c.args.setting.now.program.now in
    let before : List Event = events_of_turns next n c.args.turns.now in
    let rank : ℕ = c.args.turn.rank in
    let run = c.index_mut.result.now in
    let stands = stands_at g.R.RankRun.standing program n before c.args.course.now.machine c.args.course.now.runs.items rank run c.requires.course c.requires.rank c.index_mut.ensures.value in
    let called = asked_call g.P.Program.next program n rank before (g.R.RankRun.standing run) c.in_ok-call.field-0 stands c.in_ok-call.ensures.call in
    let course = course_asked g.R.RankRun.standing program n before c.args.course.now.machine c.args.course.now.runs.items rank run c.call_of.new.run c.requires.course c.requires.rank c.index_mut.ensures.value c.in_ok-call.ensures.run in
    record {
      call = c.in-Some.call;
      asked = called ∙ c.in-Some.is;
      answered = answered_there g.P.Program.next g.R.RankRun.standing program n before c.args.course.now.machine c.args.course.now.runs.items c.answer.new.machine.events rank c.in-Some.call c.args.turn.pick
          c.requires.course (when_true _ _ c.if-not-branch.false c.in_ok-answer.ensures.answered);
    }

pub returns-clause-course : goal.returns-clause-course
returns-clause-course g c =
    let next : Next = g.P.Program.next c.args.setting.now.program.now in
    let output : Output = g.P.Program.output c.args.setting.now.program.now in
    let n : ℕ = c.args.setting.now.ranks in
    let root : List Event = events_of_turns next n c.args.setting.now.under.now in
    let program = c.args.setting.now.program.now in
    let before : List Event = events_of_turns next n c.args.turns.now in
    let rank : ℕ = c.args.turn.rank in
    let run = c.index_mut.result.now in
    let stands = stands_at g.R.RankRun.standing program n before c.args.course.now.machine c.args.course.now.runs.items rank run c.requires.course c.requires.rank c.index_mut.ensures.value in
    let called = asked_call g.P.Program.next program n rank before (g.R.RankRun.standing run) c.in_ok-call.field-0 stands c.in_ok-call.ensures.call in
    let course = course_asked g.R.RankRun.standing program n before c.args.course.now.machine c.args.course.now.runs.items rank run c.call_of.new.run c.requires.course c.requires.rank c.index_mut.ensures.value c.in_ok-call.ensures.run in
    let machine = c.args.course.now.machine in
    c.in_ok-take_back.ensures before
    (ahead_by next g.R.RankRun.standing program n before machine c.answer.new.machine _ rank c.in-Some.call c.args.turn.pick course c.in_ok-answer.ensures.program c.in_ok-answer.ensures.ranks
    (answered_there g.P.Program.next g.R.RankRun.standing program n before machine c.args.course.now.runs.items c.answer.new.machine.events rank c.in-Some.call c.args.turn.pick
    c.requires.course (when_true _ _ c.if-not-branch.false c.in_ok-answer.ensures.answered)))
