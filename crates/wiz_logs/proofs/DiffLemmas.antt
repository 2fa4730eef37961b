-- Two logs that are compared: the ranks of a replay, and what the comparison says beside runs with the logs.
use Rattle.std.proofs.Common.{◌≡◌, ◌∙◌, ◌<◌, ◌++◌, inl, inr, ap, refl, sym, ℕ, List, [], ◌∷◌, None, All, false, slice_get, subst, true}
use Rattle.std.specs.List.{list_any}
use Rattle.std.proofs.lemmas.List.Elements.{All-append, All-nil, All-push}
use Rattle.c_program.specs.View.{pure_program}
use Rattle.c_program.specs.Tree.{Program}
use Rattle.c_program.specs.Program.{next_of, output_of}
use Rattle.c_types.specs.Checks.{IsProgramOf}
use Rattle.causes.specs.Clocks.{AreOfRanks}
use Rattle.explanation_text.specs.DiffTexts.{diff_text}
use Rattle.mpi_call.specs.Lists.{IsIn}
use Rattle.mpi_call.specs.Members.{is_member}
use Rattle.replay_model.specs.declared.replayed.Replayed.{Replayed}
use Rattle.replay_model.specs.declared.replayed.Stand.{Stand}
use Rattle.replay_model.specs.Laws.{IsStandAtEnd, IsRunWith}
use Rattle.replay_model.specs.Replays.{Breakpoint, IsReplayStep, IsWholeReplay, Replays}
use Rattle.replay_model.proofs.Cut.{HasAllOf-whole}
use Rattle.run_model.specs.declared.event.Event.{Event}
use Rattle.run_model.specs.Views.{Next, replies_in}
use Rattle.run_model.proofs.Along.{Along-keeps}
use Rattle.srr_entry.specs.declared.log.Log.{Log}
use Rattle.srr_replay.specs.Rounds.{IsReplayable}
use Rattle.srr_replay.proofs.LogLemmas.{below_at}
use Rattle.view_diff.specs.declared.compared.Compared.{Compared}
use Rattle.view_diff.specs.declared.compared.ViewRelation.{ViewRelation}
use Rattle.view_diff.specs.declared.compared.ViewRelation.TheVariants.{Alike, First, Follows}
use Rattle.view_diff.specs.Bare.{bares}
use Rattle.view_diff.specs.Compared.{AreCompared, IsWay, comes_first, is_first_way}
use Rattle.view_diff.specs.Comparing.{CanCompare}
use Rattle.view_diff.specs.Partings.{PartAt}
use Rattle.view_diff.specs.Laws.{PartsByAReply, PartsByAReplyAlone}
use Rattle.wiz_logs.specs.declared.comparing.subject.TwoRuns.{TwoRuns}
use Rattle.wiz_tool.specs.declared.status.Status.{Status}
use Rattle.wiz_tool.specs.declared.status.Status.TheVariants.{Done}
use Rattle.wiz_tool.specs.declared.status.Status.TheVariants as s
use Rattle.wiz_tool.specs.declared.report.Done.{Done as Told}
use Rattle.wiz_tool.specs.inside.Told.{outcome_written}
use Rattle.wiz_trace.specs.TraceTexts.{traces_text}
use Rattle.wiz_logs.specs.Regroupings.{traces_outcome}
use Rattle.wiz_tool.specs.Environment.{Environment}
use Rattle.wiz_tool.specs.Inputs.{AreHeld}
use Rattle.wiz_tool.specs.Outcomes.{TaskOutcome}
use Rattle.wiz_task.specs.Tasks.{IsDoneFor}
use Rattle.wiz_logs.specs.Logs.{join_inputs, diff_requirements, logs_task}
use Rattle.wiz_tool.specs.Statuses.{of_stands}
use Rattle.wiz_logs.specs.Comparisons.{Compares, compared_outcome, diff_outcome, diff_outcome_by, of_comparison}
use Rattle.wiz_logs.specs.inside.Comparing.{AreReplayedRuns, AreTwoRunsOf}
use Rattle.wiz_task.proofs.LogLemmas.{IsReplayable-text}
use Rattle.wiz_logs.proofs.RegroupLemmas.{done_stands, lawful}

-- ---- replays

-- the events of a replay are of ranks of its log
pub replay_ranks : (next : Next) (log : Log) (stop : Breakpoint) (events : List Event) → IsReplayable log → Replays next log stop events
    → AreOfRanks log.ranks events
replay_ranks next log stop events is all =
    Along-keeps (IsReplayStep next log stop) (λ (before : List Event). AreOfRanks log.ranks before)
    (λ before event holds step. All-push (λ (e : Event). e.rank < log.ranks) before event holds (below_at log.ranks log.group event.rank is.below step.member))
    [] events (All-nil (λ (e : Event). e.rank < log.ranks)) all

pub first_ranks : (runs : TwoRuns) (first second : Replayed) → AreReplayedRuns runs first second → AreOfRanks runs.one.ranks first.events.events
first_ranks runs first second are =
    replay_ranks (next_of (pure_program runs.program)) runs.one None first.events.events are.replayable (are.first_replay.shows (pure_program runs.program) are.is_program).whole.replays

pub other_program : (one other : Log) (program : Program) → CanCompare one other → IsProgramOf one.program program → IsProgramOf other.program program
other_program one other program can is = rw can.program is

-- logs that are compared can be replayed
pub runs_replayable : (texts : List (List ℕ)) (runs : TwoRuns) → AreTwoRunsOf texts runs → IsReplayable runs.one × IsReplayable runs.other
runs_replayable [] runs is = absurd is.are_logs
runs_replayable (bytes ∷ []) runs is = absurd is.are_logs
runs_replayable (bytes ∷ others ∷ more) runs is =
    (IsReplayable-text bytes runs.one is.are_logs.0, IsReplayable-text others runs.other is.are_logs.1)

-- ---- what is compared

-- where nothing parts, nothing parts first
none_first : (n : ℕ) (group : List ℕ) (one other : List Event) (ranks : List Compared)
    → ((rank : Compared) → IsIn rank ranks → IsWay n group one other rank)
    → ((rank number : ℕ) → PartAt group one other rank number → ⊥) → list_any comes_first ranks ≡ false
none_first n group one other [] each never = refl
none_first n group one other (rank ∷ ranks) each never =
    rw (head rank.way (each rank (inl refl)), none_first n group one other ranks (λ r at. each r (inr at)) never) refl
  where
    head : (way : ViewRelation) → IsWay n group one other (record { rank = rank.rank; same = rank.same; way = way }) → is_first_way way ≡ false
    head Alike is = refl
    head First is = absurd (never rank.rank rank.same is.parts)
    head Follows is = refl

-- whole replays of one run do not part
one_run_does_not_part : (program : Program) (first second : Log) (run one other : List Event) → second.group ≡ first.group
    → IsRunWith (next_of program) first run → IsRunWith (next_of program) second run → IsWholeReplay (next_of program) first None one
    → IsWholeReplay (next_of program) second None other → (rank number : ℕ) → PartAt first.group one other rank number → ⊥
one_run_does_not_part program first second run one other group is too whole others rank number part =
    let here = HasAllOf-whole (next_of program) (output_of program) first None run one refl (lawful program) is whole in
    let there = HasAllOf-whole (next_of program) (output_of program) second None run other refl (lawful program) too others in
    let F : List ℕ → Type 0 = λ group. is_member group rank ≡ true in
    let same = here.views rank part.member ∙ sym (there.views rank (subst F (sym group) part.member)) in
    part.parting.differ (ap (λ view. slice_get (bares view) number) same)

-- where both replays are done the comparison is told
told_whole : (first second : Replayed) (ranks : List Compared) (outcome : TaskOutcome) → All IsStandAtEnd first.ends → All IsStandAtEnd second.ends
    → outcome ≡ diff_outcome first second ranks → outcome ≡ compared_outcome first second ranks
told_whole first second ranks outcome done too is =
    is ∙ ap (λ (status : Status). diff_outcome_by status first second ranks)
    (done_stands (first.ends ++ second.ends) (All-append IsStandAtEnd first.ends second.ends done too))

same_status : (first second : Replayed) (ranks : List Compared) (outcome : TaskOutcome) → outcome ≡ compared_outcome first second ranks
    → list_any comes_first ranks ≡ false → outcome.status ≡ Done
same_status first second ranks outcome is none = rw (is, none) refl

-- each log was replayed with the program of both
pub both_replay : (runs : TwoRuns) (first second : Replayed) → AreReplayedRuns runs first second
    → Replays (next_of (pure_program runs.program)) runs.one None first.events.events × Replays (next_of (pure_program runs.program)) runs.other None second.events.events
both_replay runs first second are = (
  (are.first_replay.shows (pure_program runs.program) are.is_program).whole.replays,
  (are.second_replay.shows (pure_program runs.program) (other_program runs.one runs.other (pure_program runs.program) are.can_compare are.is_program)).whole.replays,
)

pub compares : (runs : TwoRuns) (first second : Replayed) (ranks : List Compared) (outcome : TaskOutcome) → AreReplayedRuns runs first second
    → AreCompared runs.one.ranks runs.one.group first.events.events second.events.events ranks
    → ((other : Program) → IsProgramOf runs.one.program other → pure_program runs.program ≡ other)
    → PartsByAReply (next_of (pure_program runs.program)) runs.one.ranks runs.one.group first.events.events second.events.events
    → PartsByAReplyAlone (next_of (pure_program runs.program)) runs.one.ranks runs.one.group first.events.events second.events.events
    → outcome ≡ diff_outcome first second ranks → Compares runs.one runs.other outcome
compares runs first second ranks outcome are compared same parts alone is =
    let one : Log = runs.one in
    let other : Log = runs.other in
    let can : CanCompare one other = are.can_compare in
    let told : (program : Program) (run other_run : List Event) → IsProgramOf one.program program → IsRunWith (next_of program) one run
    → IsRunWith (next_of program) other other_run → outcome ≡ compared_outcome first second ranks =
    λ program run other_run is_program with with_other.
    told_whole first second ranks outcome (((are.first_replay.shows program is_program).runs run with).ends refl)
    (((are.second_replay.shows program (other_program one other program can is_program)).runs other_run with_other).ends refl) is in
    record {
      can_compare = can;
      first = first;
      second = second;
      first_replay = are.first_replay;
      second_replay = are.second_replay;
      ranks = ranks;
      compared = compared;
      is_outcome = is;
      parts = λ program is_program. (
        subst (λ (one_program : Program). PartsByAReply (next_of one_program) one.ranks one.group first.events.events second.events.events) (same program is_program) parts,
        subst (λ (one_program : Program). PartsByAReplyAlone (next_of one_program) one.ranks one.group first.events.events second.events.events) (same program is_program) alone,
      );
      outputs = λ program rank is_program same. ap (λ view. output_of program one.ranks rank (replies_in view)) same;
      of_runs = told;
      of_one_run = λ program run is_program with too.
          let shows = are.first_replay.shows program is_program in
          let others = are.second_replay.shows program (other_program one other program can is_program) in
          same_status first second ranks outcome (told program run run is_program with too)
          (none_first one.ranks one.group first.events.events second.events.events ranks compared.each
          (one_run_does_not_part program one other run first.events.events second.events.events can.group with too shows.whole others.whole));
    }

pub diff_done : (name others : List ℕ) (before : Environment) (texts : List (List ℕ)) (runs : TwoRuns) (outcome : TaskOutcome)
    → AreHeld before.store.files (join_inputs name others) texts → AreTwoRunsOf texts runs → Compares runs.one runs.other outcome
    → IsDoneFor (logs_task name others diff_requirements Compares) before outcome
diff_done name others before texts runs outcome held is compares = (texts, held, (runs.one, runs.other, is.are_logs, compares))

-- ---- how it is told

-- where the ranks of both replays stand
pub status_is : (first second : Replayed) (ends others : List Stand) (status : Status) → ends ≡ first.ends → others ≡ second.ends
    → status ≡ of_stands (ends ++ others) → status ≡ of_stands (first.ends ++ second.ends)
status_is first second ends others status same too is = rw (same, too) at is

not_done : (status : Status) (first second : Replayed) (ranks : List Compared) → (status ≡ s.Done → ⊥)
    → diff_outcome_by status first second ranks ≡ traces_outcome status (first ∷ second ∷ [])
not_done s.Done first second ranks apart = absurd (apart refl)
not_done s.Words first second ranks apart = refl
not_done s.NoFile first second ranks apart = refl
not_done s.Unread first second ranks apart = refl
not_done s.Unwritten first second ranks apart = refl
not_done s.Program first second ranks apart = refl
not_done s.Plan first second ranks apart = refl
not_done s.Halted first second ranks apart = refl
not_done s.Log first second ranks apart = refl
not_done s.Diverged first second ranks apart = refl
not_done s.Starved first second ranks apart = refl
not_done s.OutOfMemory first second ranks apart = refl
not_done s.TooLong first second ranks apart = refl
not_done s.Groups first second ranks apart = refl
not_done s.TooMany first second ranks apart = refl
not_done s.Parted first second ranks apart = refl
not_done s.Incomplete first second ranks apart = refl

-- the comparison is told where both replays are done
pub compared_is : (first second : Replayed) (ranks : List Compared) (both status : Status) (text : List ℕ) (replays : List Replayed) (done : Told) → both ≡ s.Done
    → both ≡ of_stands (first.ends ++ second.ends) → text ≡ diff_text first.events.events second.events.events ranks → status ≡ of_comparison ranks
    → replays ≡ first ∷ second ∷ [] → done ≡ record { text = text; status = status; run = None; replays = replays }
    → outcome_written [] done ≡ diff_outcome first second ranks
compared_is first second ranks both status text replays done is_done is_both text_is status_is replays_is done_is =
    let stands : of_stands (first.ends ++ second.ends) ≡ s.Done = sym is_both ∙ is_done in
    rw (done_is, text_is, status_is, replays_is, stands) refl

-- and else their traces
pub traces_are : (first second : Replayed) (ranks : List Compared) (status : Status) (text : List ℕ) (replays : List Replayed) (done : Told) → (status ≡ s.Done → ⊥)
    → status ≡ of_stands (first.ends ++ second.ends) → replays ≡ first ∷ second ∷ [] → text ≡ traces_text replays
    → done ≡ record { text = text; status = status; run = None; replays = replays } → outcome_written [] done ≡ diff_outcome first second ranks
traces_are first second ranks status text replays done apart is replays_is text_is done_is =
    let stands : of_stands (first.ends ++ second.ends) ≡ status = sym is in
    let told = not_done status first second ranks apart in
    rw (done_is, text_is, replays_is, stands, told) refl
