use Rattle.std.proofs.Common.{◌∙◌, ℕ, List, subst, sym}
use Rattle.run_model.specs.declared.event.Event.{Event}
use Rattle.run_model.specs.Run.{IsPromptRun}
use Rattle.run_model.specs.Views.{Next}
use Rattle.quiet_calls.specs.Quiet.{Races}
use Rattle.explore.specs.Courses.{IsQuietlyAnswered}
use Rattle.explore.specs.Explored.{events_of_turns}
use Rattle.explore.specs.QuietFirst.{IsLastAnswered}
use Rattle.explore.specs.inside.RaceFlags.{races_of}
use Rattle.explore.proofs.Begun.{run_of, stands_at}
use Rattle.explore.proofs.Noting.{went_not}
use Rattle.explore.proofs.QuietAlong.{after_here, after_there, quiet_here, stayed, went_along}
use Rattle.explore.proofs.QuietLooked.{not_both, quiet_met}
use Rattle.std.proofs.lemmas.Bool.Decides.{when_false, when_true}
use Rattle.srr_entry.specs.Outputs.{Output}
use Rattle.explore.proofs.quiet.make_quiet.Goals as goal

pub make-requires-clause-run : goal.make-requires-clause-run
make-requires-clause-run g c =
    let next : Next = g.P.Program.next c.args.setting.now.program.now in
    let output : Output = g.P.Program.output c.args.setting.now.program.now in
    let n : ℕ = c.args.setting.now.ranks in
    let root : List Event = events_of_turns next n c.args.setting.now.under.now in
    let program = c.args.setting.now.program.now in
    let before : List Event = events_of_turns next n c.args.turns.now in
    let rank : ℕ = c.args.rank in
    let races : Races = races_of c.args.races.now in
    let machine = c.args.course.now.machine in
    let runs = c.args.course.now.runs.items in
    let run = c.index_mut.result.now in
    after_there g.R.RankRun.standing program n before machine runs rank (g.R.RankRun.standing run) c.requires.course
    (stands_at g.R.RankRun.standing program n before machine runs rank run c.requires.course c.requires.rank c.index_mut.ensures.value)

pub returns-then-not-branch : goal.returns-then-not-branch
returns-then-not-branch g c =
    let next : Next = g.P.Program.next c.args.setting.now.program.now in
    let output : Output = g.P.Program.output c.args.setting.now.program.now in
    let n : ℕ = c.args.setting.now.ranks in
    let root : List Event = events_of_turns next n c.args.setting.now.under.now in
    let program = c.args.setting.now.program.now in
    let before : List Event = events_of_turns next n c.args.turns.now in
    let rank : ℕ = c.args.rank in
    let races : Races = races_of c.args.races.now in
    let machine = c.args.course.now.machine in
    let runs = c.args.course.now.runs.items in
    let run = c.index_mut.result.now in
    let after = after_here g.R.RankRun.standing program n before c.make.new.machine.events machine runs rank (g.R.RankRun.standing c.make.new.run) c.requires.course c.in_ok-make.ensures.run in
    record {
      course = λ made. stayed g.R.RankRun.standing program n before machine c.make.new.machine runs c.make.new.run rank c.requires.course c.requires.rank c.in_ok-make.ensures.program
          c.in_ok-make.ensures.ranks (when_false _ _ c.if-not-branch.true c.in_ok-make.ensures.made) after;
      along = λ made. not_both made;
      went = went_not next output n root c.args.met.now c.requires.met;
      followed = λ made. not_both made;
    }

pub returns-then-not-is_last_answered : goal.returns-then-not-is_last_answered
returns-then-not-is_last_answered g c =
    let next : Next = g.P.Program.next c.args.setting.now.program.now in
    let output : Output = g.P.Program.output c.args.setting.now.program.now in
    let n : ℕ = c.args.setting.now.ranks in
    let root : List Event = events_of_turns next n c.args.setting.now.under.now in
    let program = c.args.setting.now.program.now in
    let before : List Event = events_of_turns next n c.args.turns.now in
    let rank : ℕ = c.args.rank in
    let races : Races = races_of c.args.races.now in
    let machine = c.args.course.now.machine in
    let runs = c.args.course.now.runs.items in
    let run = c.index_mut.result.now in
    record {
      course = λ made. c.in_ok-make_anew.ensures;
      along = λ made. not_both made;
      went = went_not next output n root c.args.met.now c.requires.met;
      followed = λ made. not_both made;
    }

pub note-requires-clause-made : goal.note-requires-clause-made
note-requires-clause-made g c =
    let next : Next = g.P.Program.next c.args.setting.now.program.now in
    let output : Output = g.P.Program.output c.args.setting.now.program.now in
    let n : ℕ = c.args.setting.now.ranks in
    let root : List Event = events_of_turns next n c.args.setting.now.under.now in
    let program = c.args.setting.now.program.now in
    let before : List Event = events_of_turns next n c.args.turns.now in
    let rank : ℕ = c.args.rank in
    let races : Races = races_of c.args.races.now in
    let machine = c.args.course.now.machine in
    let runs = c.args.course.now.runs.items in
    let run = c.index_mut.result.now in
    let quiet : IsQuietlyAnswered next n races before c.make.new.machine.events rank =
    quiet_here g.P.Program.next g.R.RankRun.standing program n races before c.make.new.machine.events machine runs rank c.requires.course (when_true _ _ c.if-not-branch.false c.in_ok-make.ensures.made) in
    record { call = quiet.call; asked = quiet.asked; answered = quiet.answered }

pub returns : goal.returns
returns g c =
    let next : Next = g.P.Program.next c.args.setting.now.program.now in
    let output : Output = g.P.Program.output c.args.setting.now.program.now in
    let n : ℕ = c.args.setting.now.ranks in
    let root : List Event = events_of_turns next n c.args.setting.now.under.now in
    let program = c.args.setting.now.program.now in
    let before : List Event = events_of_turns next n c.args.turns.now in
    let rank : ℕ = c.args.rank in
    let races : Races = races_of c.args.races.now in
    let machine = c.args.course.now.machine in
    let runs = c.args.course.now.runs.items in
    let run = c.index_mut.result.now in
    let after = after_here g.R.RankRun.standing program n before c.make.new.machine.events machine runs rank (g.R.RankRun.standing c.make.new.run) c.requires.course c.in_ok-make.ensures.run in
    let quiet : IsQuietlyAnswered next n races before c.make.new.machine.events rank =
    quiet_here g.P.Program.next g.R.RankRun.standing program n races before c.make.new.machine.events machine runs rank c.requires.course (when_true _ _ c.if-not-branch.false c.in_ok-make.ensures.made) in
    let two = c.make.new.machine in
    let L : List Event → Type 0 = λ l. IsLastAnswered l in
    let last : IsLastAnswered two.events = subst L (c.as_slice.ensures.events ∙ c.history.ensures.events) (when_true _ _ c.if-not-is_last_answered.false c.is_last_answered.ensures) in
    let all : IsPromptRun next n two.events =
    run_of g.P.Program.next two.program program two.ranks n two.events (c.in_ok-make.ensures.program ∙ c.requires.course.program_is) (c.in_ok-make.ensures.ranks ∙ c.requires.course.ranks_are) c.history.ensures.run in
    record {
      course = λ made. not_both (sym made);
      along = λ made. went_along g.P.Program.next g.R.RankRun.standing program n root c.args.turns.now machine two runs c.make.new.run rank c.requires.state c.requires.course c.requires.rank
          c.in_ok-make.ensures.program c.in_ok-make.ensures.ranks all (record { call = quiet.call; asked = quiet.asked; answered = quiet.answered }) last after;
      went = c.in_ok-note.ensures.went;
      followed = λ made. quiet_met next output n c.args.bounds.polls races c.note.new.met before two.events rank quiet.call c.requires.rank quiet.asked quiet.kind quiet.answered last c.in_ok-note.ensures.tried;
    }
