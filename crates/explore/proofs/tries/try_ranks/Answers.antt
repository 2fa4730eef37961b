use Rattle.std.proofs.Common.{◌≡◌, ◌+◌, ◌∙◌, Bool, ℕ, List, arith, inl, inr, sym, subst}
use Rattle.run_model.specs.declared.event.Event.{Event}
use Rattle.run_model.specs.Views.{Next}
use Rattle.srr_entry.specs.Outputs.{Output}
use Rattle.explore.specs.Explored.{events_of_turns}
use Rattle.explore.specs.Searching.{HasTriedRanks, question_of}
use Rattle.explore.proofs.Joining.{ranks_more, ranks_none}
use Rattle.explore.proofs.Noting.{went_not}
use Rattle.explore.proofs.RankTries.{joined, or_with, went_trans}
use Rattle.explore.proofs.tries.try_ranks.Goals.{then-branch, else-branch}
use Rattle.explore.proofs.tries.try_ranks.Goals as goal

pub loop-rank-init : goal.loop-rank-init
loop-rank-init g c =
    let next : Next = g.P.Program.next c.args.setting.now.program.now in
    let output : Output = g.P.Program.output c.args.setting.now.program.now in
    let n : ℕ = c.args.setting.now.ranks in
    let root : List Event = events_of_turns next n c.args.setting.now.under.now in
    record {
      course = c.requires.course;
      went = went_not next output n root c.args.met.now c.requires.met;
      tried = ranks_none next output n c.args.bounds.polls c.args.met.now (events_of_turns next n c.args.turns.now);
    }

pub loop-rank-preserved : goal.loop-rank-preserved
loop-rank-preserved g c =
    let next : Next = g.P.Program.next c.args.setting.now.program.now in
    let output : Output = g.P.Program.output c.args.setting.now.program.now in
    let n : ℕ = c.args.setting.now.ranks in
    let root : List Event = events_of_turns next n c.args.setting.now.under.now in
    let before : List Event = events_of_turns next n c.args.turns.now in
    let inv = c.loop-rank.invariant in
    let ok = c.in_ok-try_rank.ensures in
    let made = joined c.in_ok-try_rank.field-0 c.loop-rank.made c.if-branch.made
    (elim c.if-branch.branch [ then-branch w ↦ inl (w.if-branch.true, w.made-is) | else-branch w ↦ inr (w.if-branch.false, w.made-is) ]) in
    let F : Bool → Type 0 = λ b. HasTriedRanks (question_of next output n c.args.bounds.polls) c.try_rank.new.met before (c.loop-rank.rank + 1) b in
    record {
      course = ok.course;
      went = went_trans next output n root c.args.met.now c.loop-rank.met c.try_rank.new.met inv.went ok.went;
      tried = subst F (or_with c.loop-rank.made c.in_ok-try_rank.field-0 ∙ sym made)
          (ranks_more next output n c.args.bounds.polls c.loop-rank.met c.try_rank.new.met before c.loop-rank.rank c.loop-rank.made c.in_ok-try_rank.field-0 c.loop-rank-test.true ok.went.grows inv.tried ok.tried);
    }

pub returns-clause-tried : goal.returns-clause-tried
returns-clause-tried g c =
    let next : Next = g.P.Program.next c.args.setting.now.program.now in
    let output : Output = g.P.Program.output c.args.setting.now.program.now in
    let n : ℕ = c.args.setting.now.ranks in
    let root : List Event = events_of_turns next n c.args.setting.now.under.now in
    let all : c.loop-rank.rank ≡ n = omega (arith, c.loop-rank.auto.rank-end, c.loop-rank-test.false) in
    let F : ℕ → Type 0 = λ k. HasTriedRanks (question_of next output n c.args.bounds.polls) c.loop-rank.met (events_of_turns next n c.args.turns.now) k c.loop-rank.made in
    subst F all c.loop-rank.invariant.tried
