use Rattle.std.proofs.Common.{Bool, ℕ, List, false, subst, true}
use Rattle.run_model.specs.declared.event.Event.{Event}
use Rattle.run_model.specs.Views.{Next}
use Rattle.picked_runs.specs.declared.turn.Turn.{Turn}
use Rattle.srr_entry.specs.Outputs.{Output}
use Rattle.explore.specs.Explored.{events_of_turns}
use Rattle.explore.specs.Searching.{HasTriedRanks, question_of}
use Rattle.explore.proofs.Looking.{idle_end, looked_idle, looked_made}
use Rattle.explore.proofs.RankTries.{went_trans}
use Rattle.explore.proofs.Trying.{on_ok_map, on_ok_two}
use Rattle.explore.proofs.tries.look_from.Goals as goal

pub returns-then-branch-clause-looked : goal.returns-then-branch-clause-looked
returns-then-branch-clause-looked g c =
    let next : Next = g.P.Program.next c.args.setting.now.program.now in
    let output : Output = g.P.Program.output c.args.setting.now.program.now in
    let n : ℕ = c.args.setting.now.ranks in
    let root : List Event = events_of_turns next n c.args.setting.now.under.now in
    let F : List Turn → Bool → Type 0 = λ l b. HasTriedRanks (question_of next output n c.args.bounds.polls) c.try_ranks.new.met (events_of_turns next n l) n b in
    looked_made next output n c.args.bounds.polls c.try_ranks.new.met root c.args.turns c.requires.state
    (subst (λ l. F l true) c.as_slice.ensures (subst (F c.as_slice.result.now) c.if-branch.true c.in_ok-try_ranks.ensures.tried))

pub note_end-requires-clause-end : goal.note_end-requires-clause-end
note_end-requires-clause-end g c =
    let next : Next = g.P.Program.next c.args.setting.now.program.now in
    let output : Output = g.P.Program.output c.args.setting.now.program.now in
    let n : ℕ = c.args.setting.now.ranks in
    let root : List Event = events_of_turns next n c.args.setting.now.under.now in
    let F : List Turn → Bool → Type 0 = λ l b. HasTriedRanks (question_of next output n c.args.bounds.polls) c.try_ranks.new.met (events_of_turns next n l) n b in
    idle_end next output n c.args.bounds.polls c.try_ranks.new.met (events_of_turns next n c.args.turns)
    (subst (λ l. F l false) c.as_slice.ensures (subst (F c.as_slice.result.now) c.if-branch.false c.in_ok-try_ranks.ensures.tried))

pub returns : goal.returns
returns g c =
    let next : Next = g.P.Program.next c.args.setting.now.program.now in
    let output : Output = g.P.Program.output c.args.setting.now.program.now in
    let n : ℕ = c.args.setting.now.ranks in
    let root : List Event = events_of_turns next n c.args.setting.now.under.now in
    let F : List Turn → Bool → Type 0 = λ l b. HasTriedRanks (question_of next output n c.args.bounds.polls) c.try_ranks.new.met (events_of_turns next n l) n b in
    let tried = subst (λ l. F l false) c.as_slice.ensures (subst (F c.as_slice.result.now) c.if-branch.false c.in_ok-try_ranks.ensures.tried) in
    record {
      went = on_ok_map _ _ c.note_end.result (λ more. went_trans next output n root c.args.met.now c.try_ranks.new.met c.note_end.new.met c.in_ok-try_ranks.ensures.went more) c.note_end.ensures.went;
      looked = on_ok_two _ _ _ c.note_end.result (λ more noted. looked_idle next output n c.args.bounds.polls c.try_ranks.new.met c.note_end.new.met root c.args.turns c.halts_decide_outcomes.ensures
          c.requires.state more.grows tried noted) c.note_end.ensures.went c.note_end.ensures.noted;
    }
