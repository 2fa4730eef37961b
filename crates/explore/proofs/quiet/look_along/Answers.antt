use Rattle.std.proofs.Common.{◌≡◌, ◌∙◌, ◌++◌, ◌∷◌, ℕ, List, [], Some, ap, slice_get, subst, sym}
use Rattle.run_model.specs.declared.event.Event.{Event}
use Rattle.run_model.specs.Views.{Next}
use Rattle.picked_runs.specs.declared.turn.Turn.{Turn}
use Rattle.srr_entry.specs.Outputs.{Output}
use Rattle.quiet_calls.specs.Quiet.{Races}
use Rattle.explore.specs.declared.met.Met.{Met}
use Rattle.explore.specs.Courses.{IsCourse}
use Rattle.explore.specs.Explored.{events_of_turns}
use Rattle.explore.specs.QuietFirst.{ArePassed, HasLookedAtQuietly, is_hindered}
use Rattle.explore.specs.inside.RaceFlags.{races_of}
use Rattle.explore.specs.Searching.{IsState, question_of}
use Rattle.explore.proofs.Looking.{got_in}
use Rattle.explore.proofs.QuietLooked.{followed_free, passed_by, passed_longer, quietly_longer}
use Rattle.explore.proofs.RankTries.{went_trans}
use Rattle.explore.proofs.quiet.look_along.Goals as goal

pub loop-init : goal.loop-init
loop-init g c =
    let next : Next = g.P.Program.next c.args.setting.now.program.now in
    let output : Output = g.P.Program.output c.args.setting.now.program.now in
    let n : ℕ = c.args.setting.now.ranks in
    let root : List Event = events_of_turns next n c.args.setting.now.under.now in
    let races : Races = races_of c.args.races.now in
    let ok = c.in_ok-look.ensures in
    let H : List Turn → Type 0 = λ l. HasLookedAtQuietly (question_of next output n c.args.bounds.polls) races c.look_from.new.met l in
    let C : List Turn → Turn → Type 0 = λ l t. IsCourse g.R.RankRun.standing c.args.setting.now.program.now n (events_of_turns next n (l ++ t ∷ [])) c.look_from.new.course.machine c.look_from.new.course.runs.items in
    record {
      went = ok.went;
      looked = λ free. subst H c.as_slice.ensures (ok.looked free);
      along = λ turn is. subst (λ l. C l turn) c.as_slice.ensures (ok.along turn is);
      passed = passed_longer next output n c.args.bounds.polls races c.args.met.now c.look_from.new.met c.args.passed.now ok.went.grows c.requires.passed;
    }

pub look_from-requires-in-loop-clause-state : goal.look_from-requires-in-loop-clause-state
look_from-requires-in-loop-clause-state g c =
    let next : Next = g.P.Program.next c.args.setting.now.program.now in
    let output : Output = g.P.Program.output c.args.setting.now.program.now in
    let n : ℕ = c.args.setting.now.ranks in
    let root : List Event = events_of_turns next n c.args.setting.now.under.now in
    let races : Races = races_of c.args.races.now in
    let got : slice_get c.loop.met.states c.in-Some.place ≡ Some c.as_slice-in-loop-2.result.now =
    ap (λ l. slice_get l c.in-Some.place) (sym c.as_slice-in-loop.ensures) ∙ c.last_place.ensures c.in-Some.place c.in-Some.is in
    let S : List Turn → Type 0 = λ l. IsState next n root l in
    subst S (c.as_slice-in-loop-2.ensures ∙ sym c.as_slice-in-loop-3.ensures)
    (c.loop.invariant.went.under_way.are_states c.as_slice-in-loop-2.result.now (got_in c.in-Some.place c.loop.met.states c.as_slice-in-loop-2.result.now got))

pub loop-preserved : goal.loop-preserved
loop-preserved g c =
    let next : Next = g.P.Program.next c.args.setting.now.program.now in
    let output : Output = g.P.Program.output c.args.setting.now.program.now in
    let n : ℕ = c.args.setting.now.ranks in
    let root : List Event = events_of_turns next n c.args.setting.now.under.now in
    let races : Races = races_of c.args.races.now in
    let inv = c.loop.invariant in
    let ok = c.in_ok-look-2.ensures in
    let new : Met = c.look_from-in-loop.new.met in
    let shown : List Turn = c.as_slice-in-loop-3.result.now in
    let got : slice_get c.loop.met.states c.in-Some.place ≡ Some c.as_slice-in-loop-2.result.now =
    ap (λ l. slice_get l c.in-Some.place) (sym c.as_slice-in-loop.ensures) ∙ c.last_place.ensures c.in-Some.place c.in-Some.is in
    let same : c.as_slice-in-loop-2.result.now ≡ shown = c.as_slice-in-loop-2.ensures ∙ sym c.as_slice-in-loop-3.ensures in
    let C : List Turn → Turn → Type 0 = λ l t. IsCourse g.R.RankRun.standing c.args.setting.now.program.now n (events_of_turns next n (l ++ t ∷ [])) c.look_from-in-loop.new.course.machine c.look_from-in-loop.new.course.runs.items in
    let A : List ℕ → Type 0 = λ l. ArePassed (question_of next output n c.args.bounds.polls) races new l in
    record {
      went = went_trans next output n root c.args.met.now c.loop.met new inv.went ok.went;
      looked = λ free. quietly_longer next output n c.args.bounds.polls races c.loop.met new c.args.turns.now ok.went.grows
          (inv.looked (followed_free c.loop.look c.in-Followed.turn c.in-Followed.is));
      along = λ turn is. subst (λ l. C l turn) c.as_slice-in-loop-3.ensures (ok.along turn is);
      passed = subst A (sym c.in_ok-note_passed.ensures)
          (passed_by next output n c.args.bounds.polls races c.loop.met new (is_hindered c.in_ok-look-2.look) c.loop.passed c.in-Some.place shown ok.went.grows inv.passed
          (got ∙ ap (λ l. Some l) same) ok.looked);
    }
