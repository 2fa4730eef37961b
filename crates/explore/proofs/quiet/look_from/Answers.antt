use Rattle.std.proofs.Common.{◌++◌, ◌∷◌, ℕ, List, [], inl, inr, subst, sym}
use Rattle.run_model.specs.declared.event.Event.{Event}
use Rattle.run_model.specs.Views.{Next}
use Rattle.picked_runs.specs.declared.turn.Turn.{Turn}
use Rattle.srr_entry.specs.Outputs.{Output}
use Rattle.explore.specs.Courses.{IsCourse}
use Rattle.explore.specs.Explored.{events_of_turns}
use Rattle.explore.specs.Searching.{HasLookedAt, question_of}
use Rattle.explore.proofs.Noting.{went_not}
use Rattle.explore.proofs.QuietLooked.{hindered_not, not_both, opened_not, same_turn}
use Rattle.explore.proofs.RankTries.{went_trans}
use Rattle.explore.proofs.quiet.look_from.Goals as goal

pub returns-in-Some : goal.returns-in-Some
returns-in-Some g c =
    let next : Next = g.P.Program.next c.args.setting.now.program.now in
    let output : Output = g.P.Program.output c.args.setting.now.program.now in
    let n : ℕ = c.args.setting.now.ranks in
    let root : List Event = events_of_turns next n c.args.setting.now.under.now in
    record {
      went = went_not next output n root c.args.met.now c.requires.met;
      looked = λ h. not_both (sym h);
      along = λ turn h. hindered_not h;
    }

pub returns-in-Some-2 : goal.returns-in-Some-2
returns-in-Some-2 g c =
    let next : Next = g.P.Program.next c.args.setting.now.program.now in
    let output : Output = g.P.Program.output c.args.setting.now.program.now in
    let n : ℕ = c.args.setting.now.ranks in
    let root : List Event = events_of_turns next n c.args.setting.now.under.now in
    let made : Turn = c.in-Some-2.turn in
    let C : Turn → Type 0 = λ t. IsCourse g.R.RankRun.standing c.args.setting.now.program.now n (events_of_turns next n (c.args.turns.now ++ t ∷ [])) c.follow_quiet.new.course.machine c.follow_quiet.new.course.runs.items in
    record {
      went = c.in_ok-turn.ensures.went;
      looked = λ h. record { reckoned = c.in_ok-hindrance.ensures.met c.in_default.is; looked = inr (c.in_ok-turn.ensures.followed made c.in-Some-2.is) };
      along = λ turn h. subst C (same_turn made turn h) (c.in_ok-turn.ensures.along made c.in-Some-2.is);
    }

pub returns : goal.returns
returns g c =
    let next : Next = g.P.Program.next c.args.setting.now.program.now in
    let output : Output = g.P.Program.output c.args.setting.now.program.now in
    let n : ℕ = c.args.setting.now.ranks in
    let root : List Event = events_of_turns next n c.args.setting.now.under.now in
    let L : List Turn → Type 0 = λ l. HasLookedAt (question_of next output n c.args.bounds.polls) c.look_from.new.met l in
    record {
      went = went_trans next output n root c.args.met.now c.follow_quiet.new.met c.look_from.new.met c.in_ok-turn.ensures.went c.in_ok-look_from.ensures.went;
      looked = λ h. record { reckoned = c.in_ok-hindrance.ensures.met c.in_default.is; looked = inl (subst L c.in_ok-copy.ensures c.in_ok-look_from.ensures.looked) };
      along = λ turn h. opened_not h;
    }
