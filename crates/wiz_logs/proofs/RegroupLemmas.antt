-- Logs that are refined and joined: beside a run all is done, and the logs that are made are those of the run.
use Rattle.std.proofs.Common.{◌≡◌, ◌≤◌, inl, inr, refl, subst, ℕ, suc, List, [], ◌∷◌, None, All, false, length}
use Rattle.std.specs.List.{AllByRecursion, list_any}
use Rattle.std.proofs.lemmas.List.Elements.{All-append, All-head, All-nil, All-tail}
use Rattle.c_program.specs.View.{pure_program}
use Rattle.c_program.specs.Tree.{Program}
use Rattle.c_program.specs.laws.ProgramLaws.{asks_in_bounds, ends_exactly, enters_in_form}
use Rattle.c_program.specs.Program.{next_of}
use Rattle.c_types.specs.Checks.{IsProgramOf}
use Rattle.group_plan.specs.Plans.{IsRisingGroup}
use Rattle.log_bounds.specs.RunBounds.{RepliesFit32}
use Rattle.srr_log.specs.declared.limits.TheConstants.{MOST_LOG_BYTES}
use Rattle.log_bounds.proofs.LogBytes.{log_bytes_are_short}
use Rattle.log_bounds.proofs.RunEntries.{InBounds}
use Rattle.replay_model.specs.declared.replayed.Replayed.{Replayed}
use Rattle.replay_model.specs.declared.replayed.Stand.{Stand}
use Rattle.replay_model.specs.declared.replayed.Stand.TheVariants.{Ended, LogEnded, AtBreak, Diverged as HasDiverged, Starved as IsStarved}
use Rattle.replay_model.specs.Laws.{IsStandAtEnd}
use Rattle.run_model.specs.declared.event.Event.{Event}
use Rattle.run_model.specs.Run.{IsRun}
use Rattle.run_model.proofs.RunLaws.{Lawful}
use Rattle.run_model.proofs.Views.{test_cases}
use Rattle.srr_entry.specs.declared.log.Log.{Log}
use Rattle.srr_entry.specs.Entries.{log_of}
use Rattle.srr_log2.specs.Formats.{IsTextOfLog}
use Rattle.srr_log2.specs.LogBytes.{log_bytes}
use Rattle.srr_regroup.specs.Joining.{CanJoin}
use Rattle.srr_regroup.specs.Refining.{CanRefine}
use Rattle.srr_regroup.specs.Regrouping.{IsPartOf, are_within, both_groups, joined_log, refined}
use Rattle.srr_regroup.proofs.Groups.{joined_is, refined_is}
use Rattle.srr_regroup.proofs.LogBounds.{joined_bound, refined_bound}
use Rattle.srr_replay.specs.Rounds.{IsReplayable}
use Rattle.srr_log.specs.Bounds.{IsInBounds}
use Rattle.wiz_trace.specs.RegroupTexts.{joined_text, refined_text}
use Rattle.wiz_logs.specs.declared.regrouping.subject.Pair.{Pair}
use Rattle.wiz_logs.specs.declared.regrouping.subject.Refinement.{Refinement}
use Rattle.wiz_tool.specs.declared.status.Status.{Status}
use Rattle.wiz_tool.specs.declared.status.Status.TheVariants.{Done}
use Rattle.wiz_task.specs.Tasks.{IsDoneFor}
use Rattle.wiz_logs.specs.Logs.{join_inputs, refine_inputs, join_requirements, logs_task, refine_task}
use Rattle.wiz_tool.specs.Files.{NamedFile}
use Rattle.wiz_tool.specs.Inputs.{AreHeld}
use Rattle.wiz_logs.specs.Regroupings.{AreShort, HoldLog, HoldTheirLogs, IsDoneWith, Joins, Refines, join_outcome, log_file, outcome_by, part_file, part_files, refine_outcome, stands_of}
use Rattle.wiz_task.specs.Replayings.{IsReplayOf}
use Rattle.wiz_tool.specs.Statuses.{is_diverged, is_starved, of_stands}
use Rattle.wiz_logs.specs.inside.Regrouping.{AreJoinable, ArePairOf, IsRefinementOf, IsRegroupable}
use Rattle.wiz_tool.specs.Environment.{Environment}
use Rattle.wiz_task.proofs.LogLemmas.{IsReplayable-text, bounds_of}

-- ---- stands

not_done_stand : {X : Type 0} (stand : Stand) → IsStandAtEnd stand → (stand ≡ Ended → ⊥) → (stand ≡ LogEnded → ⊥) → X
not_done_stand stand is apart never = elim is [ inl h ↦ absurd (apart h) | inr h ↦ absurd (never h) ]

none_left : (ends : List Stand) → All IsStandAtEnd ends → (list_any is_diverged ends ≡ false) × (list_any is_starved ends ≡ false)
none_left [] all = (refl, refl)
none_left (Ended ∷ ends) all = none_left ends (All-tail IsStandAtEnd Ended ends all)
none_left (LogEnded ∷ ends) all = none_left ends (All-tail IsStandAtEnd LogEnded ends all)
none_left (AtBreak variables ∷ ends) all = none_left ends (All-tail IsStandAtEnd (AtBreak variables) ends all)
none_left (HasDiverged divergence ∷ ends) all =
    not_done_stand (HasDiverged divergence) (All-head IsStandAtEnd (HasDiverged divergence) ends all) (λ h. cc) (λ h. cc)
none_left (IsStarved missing ∷ ends) all =
    not_done_stand (IsStarved missing) (All-head IsStandAtEnd (IsStarved missing) ends all) (λ h. cc) (λ h. cc)

pub done_stands : (ends : List Stand) → All IsStandAtEnd ends → of_stands ends ≡ Done
done_stands ends all = let none = none_left ends all in rw (none.0, none.1) refl

all_done : (replays : List Replayed) → AllByRecursion (λ (replayed : Replayed). All IsStandAtEnd replayed.ends) replays → All IsStandAtEnd (stands_of replays)
all_done [] all = All-nil IsStandAtEnd
all_done (replayed ∷ replays) all = All-append IsStandAtEnd replayed.ends (stands_of replays) all.0 (all_done replays all.1)

done_with : (status : Status) (files made : List NamedFile) (text : List ℕ) (replays : List Replayed) → status ≡ Done → made ≡ files
    → AreShort files → IsDoneWith files (outcome_by status made text replays)
done_with status files made text replays done same short = rw (done, same) (refl, refl, short)

-- ---- files

same_part : (prefix inside : List ℕ) (F G : List ℕ → Log) (k : ℕ) (part : List ℕ) → IsRisingGroup part → (IsPartOf inside part → F part ≡ G part)
    → part_file prefix inside F k part ≡ part_file prefix inside G k part
same_part prefix inside F G k part is same = elim (test_cases (are_within inside part)) [
  | inl h ↦ let e = same (record { some = is.0; rises = is.1; within = h }) in rw (h, e) refl
  | inr h ↦ rw h refl
]

same_parts : (prefix inside : List ℕ) (F G : List ℕ → Log) (k : ℕ) (parts : List (List ℕ)) → AllByRecursion IsRisingGroup parts
    → ((part : List ℕ) → IsPartOf inside part → F part ≡ G part) → part_files prefix inside F k parts ≡ part_files prefix inside G k parts
same_parts prefix inside F G k [] are same = refl
same_parts prefix inside F G k (part ∷ parts) are same =
    rw (same_part prefix inside F G k part are.0 (same part), same_parts prefix inside F G (suc k) parts are.1 same) refl

-- ---- texts

hold_log : (prefix inside : List ℕ) (F : List ℕ → Log) (k : ℕ) (part : List ℕ) → IsRisingGroup part → (IsPartOf inside part → IsInBounds (F part))
    → HoldLog (F part) (part_file prefix inside F k part)
hold_log prefix inside F k part is bounds = elim (test_cases (are_within inside part)) [
  | inl h ↦ rw h ((refl, bounds (record { some = is.0; rises = is.1; within = h })), tt)
  | inr h ↦ rw h tt
]

hold_logs : (prefix inside : List ℕ) (F : List ℕ → Log) (k : ℕ) (parts : List (List ℕ)) → AllByRecursion IsRisingGroup parts
    → ((part : List ℕ) → IsPartOf inside part → IsInBounds (F part)) → HoldTheirLogs prefix inside F k parts
hold_logs prefix inside F k [] are bounds = tt
hold_logs prefix inside F k (part ∷ parts) are bounds =
    (hold_log prefix inside F k part are.0 (bounds part), hold_logs prefix inside F (suc k) parts are.1 bounds)

are_short : (prefix inside : List ℕ) (F : List ℕ → Log) (k : ℕ) (parts : List (List ℕ)) → AllByRecursion IsRisingGroup parts
    → ((part : List ℕ) → IsPartOf inside part → length (log_bytes (F part)) ≤ MOST_LOG_BYTES) → AreShort (part_files prefix inside F k parts)
are_short prefix inside F k [] are short = tt
are_short prefix inside F k (part ∷ parts) are short =
    let rest = are_short prefix inside F (suc k) parts are.1 short in
    elim (test_cases (are_within inside part)) [
      | inl h ↦ rw h (short part (record { some = are.0.0; rises = are.0.1; within = h }), rest)
      | inr h ↦ rw h rest
    ]

-- ---- logs that can be regrouped

regroupable : (bytes : List ℕ) (log : Log) (replayed : Replayed) (program : Program) → IsTextOfLog bytes log → IsProgramOf log.program program
    → IsReplayOf log.program log None replayed → IsRegroupable log replayed.events.events
regroupable bytes log replayed program is_log is_program of = record {
  in_bounds = bounds_of bytes log is_log;
  replayable = IsReplayable-text bytes log is_log;
  replay = record {
    next = next_of program;
    asks = asks_in_bounds program;
    enters = enters_in_form program;
    whole = (of.shows program is_program).whole;
  };
}

pub refinement_regroupable : (texts : List (List ℕ)) (refinement : Refinement) (replayed : Replayed) → IsRefinementOf texts refinement
    → IsReplayOf refinement.log.program refinement.log None replayed → IsRegroupable refinement.log replayed.events.events
refinement_regroupable [] refinement replayed is of = absurd is.is_log
refinement_regroupable (bytes ∷ more) refinement replayed is of =
    regroupable bytes refinement.log replayed (pure_program refinement.program) is.is_log is.is_program of

pub pair_joinable : (texts : List (List ℕ)) (pair : Pair) (first second : Replayed) → ArePairOf texts pair
    → IsReplayOf pair.one.program pair.one None first → IsReplayOf pair.other.program pair.other None second
    → AreJoinable pair.one first.events.events pair.other second.events.events
pair_joinable [] pair first second is of too = absurd is.are_logs
pair_joinable (bytes ∷ []) pair first second is of too = absurd is.are_logs
pair_joinable (bytes ∷ others ∷ more) pair first second is of too =
    let same = is.can_join.0.1 in
    record {
      can_join = is.can_join;
      one_log = regroupable bytes pair.one first (pure_program pair.program) is.are_logs.0 is.is_program of;
      other_log = regroupable others pair.other second (pure_program pair.program) is.are_logs.1 (rw same at is.is_program) too;
    }

-- ---- what is done

pub lawful : (program : Program) → Lawful (next_of program)
lawful program = record { ends = ends_exactly program; enters = enters_in_form program }

-- the log of a run has a short text where it is within bounds
run_log_short : (program : Program) (n : ℕ) (run : List Event) (text group : List ℕ) (made : Log) → IsRun (next_of program) n run
    → made ≡ log_of text n run group → IsInBounds made → length (log_bytes (log_of text n run group)) ≤ MOST_LOG_BYTES
run_log_short program n run text group made is same bounds =
    let laws : InBounds (next_of program) = record { lawful = lawful program; asks = asks_in_bounds program } in
    log_bytes_are_short (next_of program) n laws run group text is (subst IsInBounds same bounds)

pub refines : (prefix : List ℕ) (log : Log) (groups : List (List ℕ)) (replayed : Replayed) → CanRefine log groups → AllByRecursion IsRisingGroup groups
    → IsReplayOf log.program log None replayed → IsRegroupable log replayed.events.events → RepliesFit32 replayed.events.events
    → Refines prefix log groups (refine_outcome prefix log groups replayed)
refines prefix log groups replayed can are is from words =
    let F : List ℕ → Log = λ part. refined log replayed.events.events part in
    let bounds : (part : List ℕ) → IsPartOf log.group part → IsInBounds (F part) = λ part is_part.
    refined_bound log replayed.events.events part from.replayable from.replay is_part from.in_bounds words in
    record {
      can_refine = can;
      replayed = replayed;
      replay = is;
      is_outcome = refl;
      texts = hold_logs prefix log.group F 0 groups are bounds;
      of_runs = λ program run is_program with.
          let shows = is.shows program is_program in
          let G : List ℕ → Log = λ part. log_of log.program log.ranks run part in
          let same : (part : List ℕ) → IsPartOf log.group part → F part ≡ G part = λ part is_part.
          refined_is (next_of program) log replayed.events.events run part (lawful program) shows.whole is_part with in
          done_with (of_stands (stands_of (replayed ∷ []))) (part_files prefix log.group G 0 groups) (part_files prefix log.group F 0 groups)
          (refined_text log.group groups) (replayed ∷ [])
          (done_stands (stands_of (replayed ∷ [])) (all_done (replayed ∷ []) ((shows.runs run with).ends refl, tt)))
          (same_parts prefix log.group F G 0 groups are same)
          (are_short prefix log.group G 0 groups are (λ part is_part.
          run_log_short program log.ranks run log.program part (F part) with.is_run (same part is_part) (bounds part is_part)));
    }

pub joins : (file : List ℕ) (one other : Log) (first second : Replayed) → CanJoin one other → IsReplayOf one.program one None first
    → IsReplayOf other.program other None second → AreJoinable one first.events.events other second.events.events
    → RepliesFit32 first.events.events → RepliesFit32 second.events.events → Joins file one other (join_outcome file one first other second)
joins file one other first second can is too from words other_words =
    let made : Log = joined_log one first.events.events other second.events.events in
    let bounds : IsInBounds made =
    joined_bound one first.events.events other second.events.events
    (record {
      first_log = from.one_log.replayable;
      second_log = from.other_log.replayable;
      apart = can;
      first_replay = from.one_log.replay;
      second_replay = from.other_log.replay;
    }) from.one_log.in_bounds from.other_log.in_bounds words other_words in
    record {
      can_join = can;
      first = first;
      second = second;
      first_replay = is;
      second_replay = too;
      is_outcome = refl;
      text = ((refl, bounds), tt);
      of_runs = λ program run is_program with_one with_other.
          let replays : List Replayed = first ∷ second ∷ [] in
          let shows = is.shows program is_program in
          let others = too.shows program (rw can.0.1 at is_program) in
          let log : Log = log_of one.program one.ranks run (both_groups one other) in
          let same : made ≡ log =
          joined_is (next_of program) one other first.events.events second.events.events run (lawful program) can shows.whole others.whole with_one with_other in
          done_with (of_stands (stands_of replays)) (log_file file log) (log_file file made) (joined_text (both_groups one other)) replays
          (done_stands (stands_of replays) (all_done replays ((shows.runs run with_one).ends refl, ((others.runs run with_other).ends refl, tt))))
          (rw same refl)
          (run_log_short program one.ranks run one.program (both_groups one other) made with_one.is_run same bounds, tt);
    }

pub refine_done : (name plan prefix : List ℕ) (before : Environment) (texts : List (List ℕ)) (refinement : Refinement) (replayed : Replayed)
    → AreHeld before.store.files (refine_inputs name plan) texts → IsRefinementOf texts refinement → AllByRecursion IsRisingGroup refinement.plan
    → IsReplayOf refinement.log.program refinement.log None replayed → RepliesFit32 replayed.events.events
    → IsDoneFor (refine_task name plan prefix) before (refine_outcome prefix refinement.log refinement.plan replayed)
refine_done name plan prefix before texts refinement replayed held is are of words = (
  texts,
  held,
  (
    refinement.log,
    refinement.plan,
    is.is_log,
    is.is_plan,
    refines prefix refinement.log refinement.plan replayed is.can_refine are of (refinement_regroupable texts refinement replayed is of) words,
  ),
)

pub join_done : (name others file : List ℕ) (before : Environment) (texts : List (List ℕ)) (pair : Pair) (first second : Replayed)
    → AreHeld before.store.files (join_inputs name others) texts → ArePairOf texts pair
    → IsReplayOf pair.one.program pair.one None first → IsReplayOf pair.other.program pair.other None second
    → RepliesFit32 first.events.events → RepliesFit32 second.events.events
    → IsDoneFor (logs_task name others join_requirements (Joins file)) before (join_outcome file pair.one first pair.other second)
join_done name others file before texts pair first second held is of too words other_words = (
  texts,
  held,
  (
    pair.one,
    pair.other,
    is.are_logs,
    joins file pair.one pair.other first second is.can_join of too (pair_joinable texts pair first second is of too) words other_words,
  ),
)

-- each log can be replayed
pub refinement_replayable : (texts : List (List ℕ)) (refinement : Refinement) → IsRefinementOf texts refinement → IsReplayable refinement.log
refinement_replayable [] refinement is = absurd is.is_log
refinement_replayable (bytes ∷ more) refinement is = IsReplayable-text bytes refinement.log is.is_log

pub pair_replayable : (texts : List (List ℕ)) (pair : Pair) → ArePairOf texts pair → IsReplayable pair.one × IsReplayable pair.other
pair_replayable [] pair is = absurd is.are_logs
pair_replayable (bytes ∷ []) pair is = absurd is.are_logs
pair_replayable (bytes ∷ others ∷ more) pair is =
    (IsReplayable-text bytes pair.one is.are_logs.0, IsReplayable-text others pair.other is.are_logs.1)

pub other_program : (one other : Log) (program : Program) → CanJoin one other → IsProgramOf one.program program → IsProgramOf other.program program
other_program one other program can is = rw can.0.1 at is
