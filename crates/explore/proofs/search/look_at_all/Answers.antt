use Rattle.std.proofs.Common.{◌≡◌, ◌<◌, ◌∙◌, ℕ, List, Some, ap, arith, length, sym, subst, take}
use Rattle.run_model.specs.declared.event.Event.{Event}
use Rattle.run_model.specs.Views.{Next}
use Rattle.picked_runs.specs.declared.turn.Turn.{Turn}
use Rattle.explore.specs.Explored.{events_of_turns}
use Rattle.std.proofs.Common.{slice_get}
use Rattle.mpi_call.specs.Lists.{IsIn}
use Rattle.srr_entry.specs.Outputs.{Output}
use Rattle.explore.specs.Searching.{HasLookedAt, question_of}
use Rattle.explore.proofs.Looking.{below_longer, got_at, got_below, got_in, looked_more}
use Rattle.explore.proofs.RankTries.{went_trans}
use Rattle.explore.proofs.search.look_at_all.Goals as goal

pub look_at-requires-clause-state : goal.look_at-requires-clause-state
look_at-requires-clause-state g c =
    let next : Next = g.P.Program.next c.args.setting.now.program.now in
    let output : Output = g.P.Program.output c.args.setting.now.program.now in
    let n : ℕ = c.args.setting.now.ranks in
    let root : List Event = events_of_turns next n c.args.setting.now.under.now in
    let got : slice_get c.loop-at.met.states c.loop-at.at ≡ Some c.in_ok-turns.turns =
    ap (λ l. slice_get l c.loop-at.at) (sym c.as_slice.ensures) ∙ (got_at c.loop-at.at c.as_slice.result.now c.in-Some.turns.now c.in-Some.ensures.lookup.3.0 c.in-Some.ensures.lookup.1 ∙ ap (λ l. Some l) (sym (c.in_ok-turns.ensures ∙ c.as_slice-in-loop-at.ensures))) in
    c.loop-at.invariant.went.under_way.are_states c.in_ok-turns.turns (got_in c.loop-at.at c.loop-at.met.states c.in_ok-turns.turns got)

pub loop-at-preserved : goal.loop-at-preserved
loop-at-preserved g c =
    let next : Next = g.P.Program.next c.args.setting.now.program.now in
    let output : Output = g.P.Program.output c.args.setting.now.program.now in
    let n : ℕ = c.args.setting.now.ranks in
    let root : List Event = events_of_turns next n c.args.setting.now.under.now in
    let inv = c.loop-at.invariant in
    let ok = c.in_ok-look_at.ensures in
    let got : slice_get c.loop-at.met.states c.loop-at.at ≡ Some c.in_ok-turns.turns =
    ap (λ l. slice_get l c.loop-at.at) (sym c.as_slice.ensures) ∙ (got_at c.loop-at.at c.as_slice.result.now c.in-Some.turns.now c.in-Some.ensures.lookup.3.0 c.in-Some.ensures.lookup.1 ∙ ap (λ l. Some l) (sym (c.in_ok-turns.ensures ∙ c.as_slice-in-loop-at.ensures))) in
    let below : c.loop-at.at < length c.loop-at.met.states = got_below c.loop-at.at c.loop-at.met.states c.in_ok-turns.turns got in
    record {
      went = went_trans next output n root c.args.met.now c.loop-at.met c.look_at.new.met inv.went ok.went;
      few = below_longer c.loop-at.at c.loop-at.met.states c.look_at.new.met.states ok.went.grows.states_stay below;
      looked = looked_more next output n c.args.bounds.polls c.loop-at.met c.look_at.new.met c.loop-at.at c.in_ok-turns.turns ok.went.grows got inv.looked ok.looked;
    }

pub returns-clause-looked : goal.returns-clause-looked
returns-clause-looked g c =
    let next : Next = g.P.Program.next c.args.setting.now.program.now in
    let output : Output = g.P.Program.output c.args.setting.now.program.now in
    let n : ℕ = c.args.setting.now.ranks in
    let root : List Event = events_of_turns next n c.args.setting.now.under.now in
    let all : c.loop-at.at ≡ c.args.bounds.most = omega (arith, c.loop-at.auto.at-end, c.loop-at-test.false) in
    let F : ℕ → Type 0 = λ k. (turns : List Turn) → IsIn turns (take k c.loop-at.met.states) → HasLookedAt (question_of next output n c.args.bounds.polls) c.loop-at.met turns in
    subst F all c.loop-at.invariant.looked
