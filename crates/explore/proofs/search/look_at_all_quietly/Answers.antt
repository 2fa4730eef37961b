use Rattle.std.proofs.Common.{arith, ◌≡◌, ◌≤◌, ◌∙◌, ℕ, List, Some, ap, length, slice_get, subst, sym}
use Rattle.run_model.specs.declared.event.Event.{Event}
use Rattle.run_model.specs.Views.{Next}
use Rattle.picked_runs.specs.declared.turn.Turn.{Turn}
use Rattle.srr_entry.specs.Outputs.{Output}
use Rattle.quiet_calls.specs.Quiet.{Races}
use Rattle.explore.specs.Explored.{events_of_turns}
use Rattle.explore.specs.QuietFirst.{HasLookedAtQuietly}
use Rattle.explore.specs.inside.RaceFlags.{races_of}
use Rattle.explore.proofs.Begun.{none_is}
use Rattle.explore.proofs.Looking.{got_at, got_in}
use Rattle.explore.proofs.QuietLooked.{all_quietly, hindered, not_below, quietly_more, some_none}
use Rattle.explore.proofs.RankTries.{went_trans}
use Rattle.explore.specs.Searching.{question_of}
use Rattle.explore.proofs.search.look_at_all_quietly.Goals as goal

pub look_once-requires-clause-state : goal.look_once-requires-clause-state
look_once-requires-clause-state g c =
    let next : Next = g.P.Program.next c.args.setting.now.program.now in
    let output : Output = g.P.Program.output c.args.setting.now.program.now in
    let n : ℕ = c.args.setting.now.ranks in
    let root : List Event = events_of_turns next n c.args.setting.now.under.now in
    let got : slice_get c.loop-at.met.states c.loop-at.at ≡ Some c.in_ok-turns.turns =
    ap (λ l. slice_get l c.loop-at.at) (sym c.as_slice.ensures) ∙ (got_at c.loop-at.at c.as_slice.result.now c.in-Some.turns.now c.in-Some.ensures.lookup.3.0 c.in-Some.ensures.lookup.1 ∙ ap (λ l. Some l) (sym (c.in_ok-turns.ensures ∙ c.as_slice-in-loop-at.ensures))) in
    c.loop-at.invariant.went.under_way.are_states c.in_ok-turns.turns (got_in c.loop-at.at c.loop-at.met.states c.in_ok-turns.turns got)

pub look_once-requires-clause-place : goal.look_once-requires-clause-place
look_once-requires-clause-place g c =
    ap (λ l. slice_get l c.loop-at.at) (sym c.as_slice.ensures) ∙ (got_at c.loop-at.at c.as_slice.result.now c.in-Some.turns.now c.in-Some.ensures.lookup.3.0 c.in-Some.ensures.lookup.1 ∙ ap (λ l. Some l) (sym (c.in_ok-turns.ensures ∙ c.as_slice-in-loop-at.ensures)))

pub loop-at-preserved : goal.loop-at-preserved
loop-at-preserved g c =
    let next : Next = g.P.Program.next c.args.setting.now.program.now in
    let output : Output = g.P.Program.output c.args.setting.now.program.now in
    let n : ℕ = c.args.setting.now.ranks in
    let root : List Event = events_of_turns next n c.args.setting.now.under.now in
    let races : Races = races_of c.args.races.now in
    let inv = c.loop-at.invariant in
    let ok = c.in_ok-hindrance.ensures in
    let got : slice_get c.loop-at.met.states c.loop-at.at ≡ Some c.in_ok-turns.turns =
    ap (λ l. slice_get l c.loop-at.at) (sym c.as_slice.ensures) ∙ (got_at c.loop-at.at c.as_slice.result.now c.in-Some.turns.now c.in-Some.ensures.lookup.3.0 c.in-Some.ensures.lookup.1 ∙ ap (λ l. Some l) (sym (c.in_ok-turns.ensures ∙ c.as_slice-in-loop-at.ensures))) in
    record {
      went = went_trans next output n root c.args.met.now c.loop-at.met c.look_once.new.met inv.went ok.went;
      looked = quietly_more next output n c.args.bounds.polls races c.loop-at.met c.look_once.new.met c.loop-at.at c.in_ok-turns.turns ok.went.grows got inv.looked
          (ok.looked (none_is c.in_ok-hindrance.hindrance (sym c.is_some.ensures ∙ c.if-is_some.false)));
      passed = ok.passed;
    }

pub returns-in_default : goal.returns-in_default
returns-in_default g c =
    let next : Next = g.P.Program.next c.args.setting.now.program.now in
    let output : Output = g.P.Program.output c.args.setting.now.program.now in
    let n : ℕ = c.args.setting.now.ranks in
    let root : List Event = events_of_turns next n c.args.setting.now.under.now in
    let inv = c.loop-at.invariant in
    let L : List Turn → Type 0 = λ l. HasLookedAtQuietly (question_of next output n c.args.bounds.polls) (races_of c.args.races.now) c.loop-at.met l in
    let G : List (List Turn) → Type 0 = λ l. length l ≤ c.loop-at.at in
    record {
      went = inv.went;
      looked = λ none. all_quietly L c.loop-at.at c.loop-at.met.states (subst G c.as_slice.ensures (not_below c.loop-at.at (length c.as_slice.result.now) c.in_default.ensures.lookup.0)) inv.looked;
    }

pub returns-then-is_some : goal.returns-then-is_some
returns-then-is_some g c =
    let next : Next = g.P.Program.next c.args.setting.now.program.now in
    let output : Output = g.P.Program.output c.args.setting.now.program.now in
    let n : ℕ = c.args.setting.now.ranks in
    let root : List Event = events_of_turns next n c.args.setting.now.under.now in
    let ok = c.in_ok-hindrance.ensures in
    record {
      went = went_trans next output n root c.args.met.now c.loop-at.met c.look_once.new.met c.loop-at.invariant.went ok.went;
      looked = λ none. hindered c.in_ok-hindrance.hindrance (sym c.is_some.ensures ∙ c.if-is_some.true) none;
    }

pub returns-then-as_slice-bounds : goal.returns-then-as_slice-bounds
returns-then-as_slice-bounds g c =
    let next : Next = g.P.Program.next c.args.setting.now.program.now in
    let output : Output = g.P.Program.output c.args.setting.now.program.now in
    let n : ℕ = c.args.setting.now.ranks in
    let root : List Event = events_of_turns next n c.args.setting.now.under.now in
    let inv = c.loop-at.invariant in
    let L : List Turn → Type 0 = λ l. HasLookedAtQuietly (question_of next output n c.args.bounds.polls) (races_of c.args.races.now) c.loop-at.met l in
    let all : c.loop-at.at ≡ c.args.bounds.most = omega (arith, c.loop-at.auto.at-end, c.loop-at-test.false) in
    let few : length c.as_slice-2.result.now ≤ c.args.bounds.most = c.if-as_slice-bounds.true in
    let within : length c.as_slice-2.result.now ≤ c.loop-at.at = omega (arith, few, all) in
    let G : List (List Turn) → Type 0 = λ l. length l ≤ c.loop-at.at in
    record {
      went = inv.went;
      looked = λ none. all_quietly L c.loop-at.at c.loop-at.met.states (subst G c.as_slice-2.ensures within) inv.looked;
    }

pub returns : goal.returns
returns g c = record { went = c.loop-at.invariant.went; looked = λ none. some_none none }
