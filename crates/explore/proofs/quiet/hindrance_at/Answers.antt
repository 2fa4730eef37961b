use Rattle.std.proofs.Common.{◌≡◌, ◌∙◌, List, subst, sym, true, ℕ}
use Rattle.std.proofs.lemmas.Bool.Decides.{when_true}
use Rattle.run_model.specs.declared.event.Event.{Event}
use Rattle.run_model.specs.Views.{Next}
use Rattle.quiet_calls.specs.Closure.{IsFarBelow}
use Rattle.quiet_calls.specs.Quiet.{is_calm}
use Rattle.explore.specs.Explored.{events_of_turns}
use Rattle.explore.specs.inside.RaceFlags.{RaceFlags, races_of}
use Rattle.explore.proofs.RaceLaws.{in_calm}
use Rattle.explore.proofs.quiet.hindrance_at.Goals as goal

pub returns-in-None-clause-met : goal.returns-in-None-clause-met
returns-in-None-clause-met g c none =
    let next : Next = g.P.Program.next c.args.setting.now.program.now in
    let n : ℕ = c.args.setting.now.ranks in
    let flags : RaceFlags = c.args.races.now in
    let events : List Event = c.as_slice-events.result.now in
    let same : events ≡ events_of_turns next n c.args.turns.now = c.as_slice-events.ensures.events ∙ (c.history.ensures.events ∙ c.requires.course.events_are) in
    let B : List Event → Type 0 = λ l. IsFarBelow l in
    let C : List Event → Type 0 = λ l. is_calm (races_of flags) l ≡ true in
    record {
      below = subst B same (when_true _ _ c.if-not-is_far_below.false c.is_far_below.ensures);
      past = subst C same (in_calm flags events (sym c.race_in.ensures ∙ c.in_default.is));
      calls = c.in_ok-race.ensures.reckoned c.in-None.is;
    }
