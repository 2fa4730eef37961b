use Rattle.std.proofs.Common.{◌≡◌, ◌+◌, Bool, ℕ, List, arith, inl, inr, sym, subst}
use Rattle.run_model.specs.declared.event.Event.{Event}
use Rattle.run_model.specs.Views.{Next}
use Rattle.explore.specs.Explored.{events_of_turns}
use Rattle.std.proofs.Common.{MatchBool}
use Rattle.picked_runs.specs.declared.turn.Pick.TheVariants.{Index}
use Rattle.srr_entry.specs.Outputs.{Output}
use Rattle.explore.specs.Searching.{HasTried, HasTriedPicks, IsIndexBelow, IsUnanswered, question_of}
use Rattle.explore.proofs.Joining.{picks_none}
use Rattle.explore.proofs.Noting.{went_not}
use Rattle.explore.proofs.RankTries.{index_more, joined, went_trans}
use Rattle.explore.proofs.tries.try_indices.Goals.{then-branch, else-branch}
use Rattle.explore.proofs.tries.try_indices.Goals as goal

pub loop-index-init : goal.loop-index-init
loop-index-init g c =
    let next : Next = g.P.Program.next c.args.setting.now.program.now in
    let output : Output = g.P.Program.output c.args.setting.now.program.now in
    let n : ℕ = c.args.setting.now.ranks in
    let root : List Event = events_of_turns next n c.args.setting.now.under.now in
    let before : List Event = events_of_turns next n c.args.turns.now in
    record {
      course = c.requires.course;
      went = went_not next output n root c.args.met.now c.requires.met;
      tried = picks_none next output n c.args.bounds.polls c.args.met.now before c.args.rank (IsIndexBelow 0) (λ pick is. absurd (omega (arith, is.2)));
    }

pub loop-index-preserved : goal.loop-index-preserved
loop-index-preserved g c =
    let next : Next = g.P.Program.next c.args.setting.now.program.now in
    let output : Output = g.P.Program.output c.args.setting.now.program.now in
    let n : ℕ = c.args.setting.now.ranks in
    let root : List Event = events_of_turns next n c.args.setting.now.under.now in
    let before : List Event = events_of_turns next n c.args.turns.now in
    let inv = c.loop-index.invariant in
    let ok = c.in_ok-try_turn.ensures in
    let made = joined c.in_ok-try_turn.field-0 c.loop-index.made c.if-branch.made
    (elim c.if-branch.branch [ then-branch w ↦ inl (w.if-branch.true, w.made-is) | else-branch w ↦ inr (w.if-branch.false, w.made-is) ]) in
    let F : Bool → Type 0 = λ b. HasTriedPicks (question_of next output n c.args.bounds.polls) c.try_turn.new.met before c.args.rank (IsIndexBelow (c.loop-index.index + 1)) b in
    let G : ℕ → Type 0 = λ k. MatchBool c.in_ok-try_turn.field-0 (HasTried (question_of next output n c.args.bounds.polls) c.try_turn.new.met before (record { rank = c.args.rank; pick = Index k }))
    (IsUnanswered next n before (record { rank = c.args.rank; pick = Index k })) in
    let same : c.in-Ok.index ≡ c.loop-index.index = omega (arith, c.in-Ok.ensures) in
    record {
      course = ok.course;
      went = went_trans next output n root c.args.met.now c.loop-index.met c.try_turn.new.met inv.went ok.went;
      tried = subst F (sym made) (index_more next output n c.args.bounds.polls c.loop-index.met c.try_turn.new.met before c.args.rank c.loop-index.index c.loop-index.made c.in_ok-try_turn.field-0
          c.requires.state.under.run c.requires.rank ok.went.grows inv.tried (subst G same ok.tried));
    }

pub returns-clause-tried : goal.returns-clause-tried
returns-clause-tried g c =
    let next : Next = g.P.Program.next c.args.setting.now.program.now in
    let output : Output = g.P.Program.output c.args.setting.now.program.now in
    let n : ℕ = c.args.setting.now.ranks in
    let root : List Event = events_of_turns next n c.args.setting.now.under.now in
    let all : c.loop-index.index ≡ c.args.count = omega (arith, c.loop-index.auto.index-end, c.loop-index-test.false) in
    let F : ℕ → Type 0 = λ k. HasTriedPicks (question_of next output n c.args.bounds.polls) c.loop-index.met (events_of_turns next n c.args.turns.now) c.args.rank (IsIndexBelow k) c.loop-index.made in
    subst F all c.loop-index.invariant.tried
