use Rattle.std.proofs.Common.{◌∙◌, ℕ, List, subst, sym}
use Rattle.run_model.specs.declared.event.Event.{Event}
use Rattle.run_model.specs.Views.{Next}
use Rattle.picked_runs.specs.declared.turn.Turn.{Turn}
use Rattle.srr_entry.specs.Outputs.{Output}
use Rattle.quiet_calls.specs.Quiet.{Races}
use Rattle.explore.specs.Explored.{events_of_turns}
use Rattle.explore.specs.QuietFirst.{ArePassed, HasLookedAtQuietly}
use Rattle.explore.specs.inside.RaceFlags.{races_of}
use Rattle.explore.proofs.Noting.{went_not}
use Rattle.explore.proofs.QuietLooked.{same_state}
use Rattle.explore.specs.Searching.{question_of}
use Rattle.explore.proofs.quiet.look_once.Goals as goal

pub returns-then-comes_to : goal.returns-then-comes_to
returns-then-comes_to g c =
    let next : Next = g.P.Program.next c.args.setting.now.program.now in
    let output : Output = g.P.Program.output c.args.setting.now.program.now in
    let n : ℕ = c.args.setting.now.ranks in
    let root : List Event = events_of_turns next n c.args.setting.now.under.now in
    let races : Races = races_of c.args.races.now in
    let p = c.requires.passed c.args.place (c.comes_to.ensures.there c.if-comes_to.true) in
    let H : List Turn → Type 0 = λ l. HasLookedAtQuietly (question_of next output n c.args.bounds.polls) races c.args.met.now l in
    let A : List ℕ → Type 0 = λ l. ArePassed (question_of next output n c.args.bounds.polls) races c.args.met.now l in
    record {
      went = went_not next output n root c.args.met.now c.requires.met;
      looked = λ none. subst H (same_state p.0 c.args.turns (sym p.1 ∙ c.requires.place)) p.2;
      passed = subst A (sym c.comes_to.ensures.same) c.requires.passed;
    }
