use Rattle.std.proofs.Common.{◌≡◌, ◌+◌, Bool, ℕ, List, arith, inl, inr, sym, subst}
use Rattle.run_model.specs.declared.event.Event.{Event}
use Rattle.run_model.specs.Views.{Next}
use Rattle.srr_entry.specs.Outputs.{Output}
use Rattle.explore.specs.Explored.{events_of_turns}
use Rattle.explore.specs.Searching.{HasTriedPicks, IsSenderBelow, question_of}
use Rattle.explore.proofs.Joining.{picks_none}
use Rattle.explore.proofs.Noting.{went_not}
use Rattle.explore.proofs.RankTries.{joined, sender_more, went_trans}
use Rattle.explore.proofs.tries.try_senders.Goals.{then-branch, else-branch}
use Rattle.explore.proofs.tries.try_senders.Goals as goal

pub loop-sender-init : goal.loop-sender-init
loop-sender-init g c =
    let next : Next = g.P.Program.next c.args.setting.now.program.now in
    let output : Output = g.P.Program.output c.args.setting.now.program.now in
    let n : ℕ = c.args.setting.now.ranks in
    let root : List Event = events_of_turns next n c.args.setting.now.under.now in
    let before : List Event = events_of_turns next n c.args.turns.now in
    record {
      course = c.requires.course;
      went = went_not next output n root c.args.met.now c.requires.met;
      tried = picks_none next output n c.args.bounds.polls c.args.met.now before c.args.rank (IsSenderBelow 0) (λ pick is. absurd (omega (arith, is.2)));
    }

pub loop-sender-preserved : goal.loop-sender-preserved
loop-sender-preserved g c =
    let next : Next = g.P.Program.next c.args.setting.now.program.now in
    let output : Output = g.P.Program.output c.args.setting.now.program.now in
    let n : ℕ = c.args.setting.now.ranks in
    let root : List Event = events_of_turns next n c.args.setting.now.under.now in
    let before : List Event = events_of_turns next n c.args.turns.now in
    let inv = c.loop-sender.invariant in
    let ok = c.in_ok-try_turn.ensures in
    let made = joined c.in_ok-try_turn.field-0 c.loop-sender.made c.if-branch.made
    (elim c.if-branch.branch [ then-branch w ↦ inl (w.if-branch.true, w.made-is) | else-branch w ↦ inr (w.if-branch.false, w.made-is) ]) in
    let F : Bool → Type 0 = λ b. HasTriedPicks (question_of next output n c.args.bounds.polls) c.try_turn.new.met before c.args.rank (IsSenderBelow (c.loop-sender.sender + 1)) b in
    record {
      course = ok.course;
      went = went_trans next output n root c.args.met.now c.loop-sender.met c.try_turn.new.met inv.went ok.went;
      tried = subst F (sym made) (sender_more next output n c.args.bounds.polls c.loop-sender.met c.try_turn.new.met before c.args.rank c.loop-sender.sender c.loop-sender.made c.in_ok-try_turn.field-0
          c.requires.state.under.run c.requires.rank ok.went.grows inv.tried ok.tried);
    }

pub returns-clause-tried : goal.returns-clause-tried
returns-clause-tried g c =
    let next : Next = g.P.Program.next c.args.setting.now.program.now in
    let output : Output = g.P.Program.output c.args.setting.now.program.now in
    let n : ℕ = c.args.setting.now.ranks in
    let root : List Event = events_of_turns next n c.args.setting.now.under.now in
    let all : c.loop-sender.sender ≡ c.args.count = omega (arith, c.loop-sender.auto.sender-end, c.loop-sender-test.false) in
    let F : ℕ → Type 0 = λ k. HasTriedPicks (question_of next output n c.args.bounds.polls) c.loop-sender.met (events_of_turns next n c.args.turns.now) c.args.rank (IsSenderBelow k) c.loop-sender.made in
    subst F all c.loop-sender.invariant.tried
