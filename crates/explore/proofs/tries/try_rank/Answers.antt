use Rattle.std.proofs.Common.{◌∙◌, Bool, ℕ, List, false, length, subst}
use Rattle.run_model.specs.declared.event.Event.{Event}
use Rattle.run_model.specs.Views.{Next}
use Rattle.explore.specs.Explored.{events_of_turns}
use Rattle.mpi_call.specs.declared.call.Call.{Call}
use Rattle.mpi_call.specs.Calls.{listed_by}
use Rattle.explore.specs.declared.met.Met.{Met}
use Rattle.std.proofs.Common.{MatchBool}
use Rattle.picked_runs.specs.declared.turn.Pick.TheVariants.{First}
use Rattle.srr_entry.specs.Outputs.{Output}
use Rattle.explore.specs.Searching.{HasTried, HasTriedPicks, IsAnyPick, IsIndexBelow, IsSenderBelow, IsUnanswered, question_of}
use Rattle.explore.proofs.Begun.{asked_call, course_asked, stands_at}
use Rattle.explore.proofs.Joining.{picks_ended}
use Rattle.explore.proofs.Noting.{went_not}
use Rattle.explore.proofs.Offering.{senders_of}
use Rattle.explore.proofs.RankTries.{rank_first, rank_indices, rank_senders, went_trans}
use Rattle.explore.proofs.Trying.{if_ok_map, on_ok_map}
use Rattle.explore.proofs.tries.try_rank.Goals as goal

pub returns-in_default : goal.returns-in_default
returns-in_default g c =
    let next : Next = g.P.Program.next c.args.setting.now.program.now in
    let output : Output = g.P.Program.output c.args.setting.now.program.now in
    let n : ℕ = c.args.setting.now.ranks in
    let root : List Event = events_of_turns next n c.args.setting.now.under.now in
    let program = c.args.setting.now.program.now in
    let before : List Event = events_of_turns next n c.args.turns.now in
    let rank : ℕ = c.args.rank in
    let run = c.index_mut.result.now in
    let stands = stands_at g.R.RankRun.standing program n before c.args.course.now.machine c.args.course.now.runs.items rank run c.requires.course c.requires.rank c.index_mut.ensures.value in
    let called = asked_call g.P.Program.next program n rank before (g.R.RankRun.standing run) c.in_ok-call.field-0 stands c.in_ok-call.ensures.call in
    record {
      course = course_asked g.R.RankRun.standing program n before c.args.course.now.machine c.args.course.now.runs.items rank run c.call_of.new.run c.requires.course c.requires.rank c.index_mut.ensures.value c.in_ok-call.ensures.run;
      went = went_not next output n root c.args.met.now c.requires.met;
      tried = picks_ended next output n c.args.bounds.polls c.args.met.now before rank (called ∙ c.in_default.is);
    }

pub try_senders-requires-clause-course : goal.try_senders-requires-clause-course
try_senders-requires-clause-course g c =
    let next : Next = g.P.Program.next c.args.setting.now.program.now in
    let output : Output = g.P.Program.output c.args.setting.now.program.now in
    let n : ℕ = c.args.setting.now.ranks in
    let root : List Event = events_of_turns next n c.args.setting.now.under.now in
    let program = c.args.setting.now.program.now in
    let before : List Event = events_of_turns next n c.args.turns.now in
    let rank : ℕ = c.args.rank in
    let run = c.index_mut.result.now in
    let stands = stands_at g.R.RankRun.standing program n before c.args.course.now.machine c.args.course.now.runs.items rank run c.requires.course c.requires.rank c.index_mut.ensures.value in
    let called = asked_call g.P.Program.next program n rank before (g.R.RankRun.standing run) c.in_ok-call.field-0 stands c.in_ok-call.ensures.call in
    course_asked g.R.RankRun.standing program n before c.args.course.now.machine c.args.course.now.runs.items rank run c.call_of.new.run c.requires.course c.requires.rank c.index_mut.ensures.value c.in_ok-call.ensures.run

pub returns-then-branch-clause-tried : goal.returns-then-branch-clause-tried
returns-then-branch-clause-tried g c =
    let next : Next = g.P.Program.next c.args.setting.now.program.now in
    let output : Output = g.P.Program.output c.args.setting.now.program.now in
    let n : ℕ = c.args.setting.now.ranks in
    let root : List Event = events_of_turns next n c.args.setting.now.under.now in
    let program = c.args.setting.now.program.now in
    let before : List Event = events_of_turns next n c.args.turns.now in
    let rank : ℕ = c.args.rank in
    let run = c.index_mut.result.now in
    let stands = stands_at g.R.RankRun.standing program n before c.args.course.now.machine c.args.course.now.runs.items rank run c.requires.course c.requires.rank c.index_mut.ensures.value in
    let called = asked_call g.P.Program.next program n rank before (g.R.RankRun.standing run) c.in_ok-call.field-0 stands c.in_ok-call.ensures.call in
    let call : Call = c.in-Some.call in
    let asked = called ∙ c.in-Some.is in
    let one : Met = c.try_senders.new.met in
    let T : ℕ → Bool → Type 0 = λ k b. HasTriedPicks (question_of next output n c.args.bounds.polls) one before rank (IsSenderBelow k) b in
    let senders : HasTriedPicks (question_of next output n c.args.bounds.polls) one before rank (IsSenderBelow (senders_of call n)) c.in_ok-try_senders.field-0 =
    subst (λ k. T k c.in_ok-try_senders.field-0) c.senders_for-senders.ensures c.in_ok-try_senders.ensures.tried in
    rank_senders next output n c.args.bounds.polls one before rank call c.requires.state.under.run asked (subst (T (senders_of call n)) c.if-branch.true senders)

pub returns-then-branch-2 : goal.returns-then-branch-2
returns-then-branch-2 g c =
    let next : Next = g.P.Program.next c.args.setting.now.program.now in
    let output : Output = g.P.Program.output c.args.setting.now.program.now in
    let n : ℕ = c.args.setting.now.ranks in
    let root : List Event = events_of_turns next n c.args.setting.now.under.now in
    let program = c.args.setting.now.program.now in
    let before : List Event = events_of_turns next n c.args.turns.now in
    let rank : ℕ = c.args.rank in
    let run = c.index_mut.result.now in
    let stands = stands_at g.R.RankRun.standing program n before c.args.course.now.machine c.args.course.now.runs.items rank run c.requires.course c.requires.rank c.index_mut.ensures.value in
    let called = asked_call g.P.Program.next program n rank before (g.R.RankRun.standing run) c.in_ok-call.field-0 stands c.in_ok-call.ensures.call in
    let call : Call = c.in-Some.call in
    let asked = called ∙ c.in-Some.is in
    let one : Met = c.try_senders.new.met in
    let T : ℕ → Bool → Type 0 = λ k b. HasTriedPicks (question_of next output n c.args.bounds.polls) one before rank (IsSenderBelow k) b in
    let senders : HasTriedPicks (question_of next output n c.args.bounds.polls) one before rank (IsSenderBelow (senders_of call n)) c.in_ok-try_senders.field-0 =
    subst (λ k. T k c.in_ok-try_senders.field-0) c.senders_for-senders.ensures c.in_ok-try_senders.ensures.tried in
    let two : Met = c.try_indices.new.met in
    let U : ℕ → Bool → Type 0 = λ k b. HasTriedPicks (question_of next output n c.args.bounds.polls) two before rank (IsIndexBelow k) b in
    let indices : HasTriedPicks (question_of next output n c.args.bounds.polls) two before rank (IsIndexBelow (length (listed_by call))) c.in_ok-try_indices.field-0 =
    subst (λ k. U k c.in_ok-try_indices.field-0) c.starts_for-starts.ensures c.in_ok-try_indices.ensures.tried in
    let none : HasTriedPicks (question_of next output n c.args.bounds.polls) one before rank (IsSenderBelow (senders_of call n)) false = subst (T (senders_of call n)) c.if-branch.false senders in
    record {
      course = c.in_ok-try_indices.ensures.course;
      went = went_trans next output n root c.args.met.now one two c.in_ok-try_senders.ensures.went c.in_ok-try_indices.ensures.went;
      tried = rank_indices next output n c.args.bounds.polls one two before rank call c.requires.state.under.run asked c.in_ok-try_indices.ensures.went.grows none
          (subst (U (length (listed_by call))) c.if-branch-2.true indices);
    }

pub returns : goal.returns
returns g c =
    let next : Next = g.P.Program.next c.args.setting.now.program.now in
    let output : Output = g.P.Program.output c.args.setting.now.program.now in
    let n : ℕ = c.args.setting.now.ranks in
    let root : List Event = events_of_turns next n c.args.setting.now.under.now in
    let program = c.args.setting.now.program.now in
    let before : List Event = events_of_turns next n c.args.turns.now in
    let rank : ℕ = c.args.rank in
    let run = c.index_mut.result.now in
    let stands = stands_at g.R.RankRun.standing program n before c.args.course.now.machine c.args.course.now.runs.items rank run c.requires.course c.requires.rank c.index_mut.ensures.value in
    let called = asked_call g.P.Program.next program n rank before (g.R.RankRun.standing run) c.in_ok-call.field-0 stands c.in_ok-call.ensures.call in
    let call : Call = c.in-Some.call in
    let asked = called ∙ c.in-Some.is in
    let one : Met = c.try_senders.new.met in
    let T : ℕ → Bool → Type 0 = λ k b. HasTriedPicks (question_of next output n c.args.bounds.polls) one before rank (IsSenderBelow k) b in
    let senders : HasTriedPicks (question_of next output n c.args.bounds.polls) one before rank (IsSenderBelow (senders_of call n)) c.in_ok-try_senders.field-0 =
    subst (λ k. T k c.in_ok-try_senders.field-0) c.senders_for-senders.ensures c.in_ok-try_senders.ensures.tried in
    let two : Met = c.try_indices.new.met in
    let U : ℕ → Bool → Type 0 = λ k b. HasTriedPicks (question_of next output n c.args.bounds.polls) two before rank (IsIndexBelow k) b in
    let indices : HasTriedPicks (question_of next output n c.args.bounds.polls) two before rank (IsIndexBelow (length (listed_by call))) c.in_ok-try_indices.field-0 =
    subst (λ k. U k c.in_ok-try_indices.field-0) c.starts_for-starts.ensures c.in_ok-try_indices.ensures.tried in
    let none : HasTriedPicks (question_of next output n c.args.bounds.polls) one before rank (IsSenderBelow (senders_of call n)) false = subst (T (senders_of call n)) c.if-branch.false senders in
    let three : Met = c.try_turn.new.met in
    let went = went_trans next output n root c.args.met.now one two c.in_ok-try_senders.ensures.went c.in_ok-try_indices.ensures.went in
    record {
      course = c.try_turn.ensures.course;
      went = on_ok_map _ _ c.try_turn.result (λ more. went_trans next output n root c.args.met.now two three went more) c.try_turn.ensures.went;
      tried = if_ok_map _ (λ made. MatchBool made (HasTried (question_of next output n c.args.bounds.polls) three before (record { rank = rank; pick = First })) (IsUnanswered next n before (record { rank = rank; pick = First })))
          (λ made. HasTriedPicks (question_of next output n c.args.bounds.polls) three before rank IsAnyPick made) c.try_turn.result
          (λ made more tried. (
          rank_first next output n c.args.bounds.polls one two three before rank call made c.requires.state.under.run c.requires.rank asked c.in_ok-try_indices.ensures.went.grows more.grows none
          (subst (U (length (listed_by call))) c.if-branch-2.false indices) tried))
          c.try_turn.ensures.went c.try_turn.ensures.tried;
    }
