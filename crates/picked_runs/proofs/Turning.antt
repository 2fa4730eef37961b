-- Turns: they make one run, and a run that picks make begins the run of its turns.
use Rattle.std.proofs.Common.{◌+◌, ◌++◌, ◌<◌, ◌==◌, ◌∙◌, ◌∷◌, ◌≡◌, ◌≤◌, ◌&&◌, List, None, Option, Some, [], ap, append-nil, append_assoc, arith, false, filter, inl, inr, not, refl, suc, sym, true, zero, ℕ}
use Rattle.std.proofs.lemmas.Bool.{or_parts}
use Rattle.mpi_call.specs.declared.call.Call.{Call}
use Rattle.run_model.specs.declared.event.Event.{Event}
use Rattle.run_model.specs.Allowed.{can_go}
use Rattle.run_model.specs.Chosen.{chosen_event, order_of}
use Rattle.run_model.specs.Lists.{Along, IsPrefixOf, world}
use Rattle.run_model.specs.MachineLaws.{has_stuck, is_stuck_reply}
use Rattle.run_model.specs.Run.{IsPromptEvent}
use Rattle.run_model.specs.Serial.{Stage, with_chosen_event, first_stage, attempt, attempt_with, attempts, call_after, is_stuck, others_wait, rounds}
use Rattle.run_model.specs.Views.{Next, view_of}
use Rattle.run_model.proofs.ChosenLaws.{cannot_go}
use Rattle.run_model.proofs.Prefixes.{prefix_append, prefix_refl, prefix_trans}
use Rattle.run_model.proofs.Prompt.{kept_prompt}
use Rattle.run_model.proofs.RunLaws.{Lawful}
use Rattle.run_model.proofs.Views.{test_cases}
use Rattle.picked_runs.specs.declared.turn.Pick.{Pick}
use Rattle.picked_runs.specs.declared.turn.Pick.TheVariants.{First, Sender, Index}
use Rattle.picked_runs.specs.declared.turn.Turn.{Turn}
use Rattle.picked_runs.specs.Picks.{has_pick, picked_event}
use Rattle.picked_runs.specs.Picked.{ArePicked, later_picks, next_pick}
use Rattle.picked_runs.specs.Turns.{IsRunByTurns, answered, take_turn, take_turns, turn_with, turns_of}
use Rattle.picked_runs.specs.Made.{picks_of}
use Rattle.picked_runs.specs.PickLaws.{EveryRunIsRecorded, OtherPickIsTaken, PicksBeginRun, TurnsEnd, TurnsFixRun}
use Rattle.picked_runs.proofs.Firsts.{first_event}
use Rattle.picked_runs.proofs.Making.{every_run_is_picked}

-- attempts take no event back
attempt_grows : (next : Next) (n : ℕ) (stage : Stage) (rank : ℕ) (asked : Option Call) → IsPrefixOf stage.events (attempt_with next n stage rank asked).events
attempt_grows next n stage rank None = prefix_refl stage.events
attempt_grows next n stage rank (Some call) =
    elim (test_cases (can_go n stage.events rank (view_of stage.events rank) call)) [
      | inl t ↦ rw t (prefix_append stage.events (chosen_event n stage.events rank call ∷ []))
      | inr t ↦ elim (test_cases (is_stuck next n stage.events && others_wait next n stage rank)) [
        | inl u ↦ rw (t, u) (prefix_append stage.events (chosen_event n stage.events rank call ∷ []))
        | inr u ↦ rw (t, u) (prefix_refl stage.events)
      ]
    ]

attempts_grow : (next : Next) (n : ℕ) (stage : Stage) (ranks : List ℕ) → IsPrefixOf stage.events (attempts next n stage ranks).events
attempts_grow next n stage [] = prefix_refl stage.events
attempts_grow next n stage (rank ∷ ranks) =
    let one : Stage = attempt next n stage rank in
    prefix_trans stage.events one.events (attempts next n one ranks).events (attempt_grows next n stage rank (call_after next n stage.events rank)) (attempts_grow next n one ranks)

rounds_grow : (next : Next) (n count : ℕ) (stage : Stage) → IsPrefixOf stage.events (rounds next n count stage).events
rounds_grow next n zero stage = prefix_refl stage.events
rounds_grow next n (suc count) stage =
    let one : Stage = attempts next n stage (world n 0) in
    prefix_trans stage.events one.events (rounds next n count one).events (attempts_grow next n stage (world n 0)) (rounds_grow next n count one)

-- where no rank is live, rounds change nothing
idle_attempts : (next : Next) (n : ℕ) (stage : Stage) → ((rank : ℕ) → rank < n → call_after next n stage.events rank ≡ None)
    → (left from : ℕ) → from + left ≤ n → attempts next n stage (world left from) ≡ stage
idle_attempts next n stage none zero from below = refl
idle_attempts next n stage none (suc left) from below =
    let idle : attempt next n stage from ≡ stage = ap (attempt_with next n stage from) (none from (omega arith)) in
    ap (λ s. attempts next n s (world left (from + 1))) idle ∙ idle_attempts next n stage none left (from + 1) (omega arith)

idle_rounds : (next : Next) (n count : ℕ) (stage : Stage) → ((rank : ℕ) → rank < n → call_after next n stage.events rank ≡ None)
    → rounds next n count stage ≡ stage
idle_rounds next n zero stage none = refl
idle_rounds next n (suc count) stage none =
    ap (rounds next n count) (idle_attempts next n stage none n 0 (omega arith)) ∙ idle_rounds next n count stage none

rounds_more : (next : Next) (n count more : ℕ) (stage : Stage) → rounds next n (count + more) stage ≡ rounds next n more (rounds next n count stage)
rounds_more next n zero more stage = (let e : 0 + more ≡ more = omega arith in rw e)
rounds_more next n (suc count) more stage =
    let e : suc count + more ≡ suc (count + more) = omega arith in
    rw e (rounds_more next n count more (attempts next n stage (world n 0)))

-- the run of turns stays as it is in further rounds
settled : (next : Next) (n : ℕ) (turns : List Turn) (events : List Event) (s : IsRunByTurns next n turns events) (more : ℕ)
    → (rounds next n (s.count + more) (take_turns next n first_stage turns)).events ≡ events
settled next n turns events s more =
    let last : Stage = rounds next n s.count (take_turns next n first_stage turns) in
    let none : (rank : ℕ) → rank < n → call_after next n last.events rank ≡ None =
    λ rank below. ap (λ l. call_after next n l rank) s.made ∙ s.ended rank below in
    ap (λ (x : Stage). x.events) (rounds_more next n s.count more (take_turns next n first_stage turns) ∙ idle_rounds next n more last none) ∙ s.made

pub turns_fix_run : (next : Next) (n : ℕ) → TurnsFixRun next n
turns_fix_run next n turns one other s t =
    let first : Stage = take_turns next n first_stage turns in
    let flip : s.count + t.count ≡ t.count + s.count = omega arith in
    sym (settled next n turns one s t.count) ∙ (ap (λ c. (rounds next n c first).events) flip ∙ settled next n turns other t s.count)

-- by the first law of programs
pub turns_end : (next : Next) (n : ℕ) → Lawful next → TurnsEnd next n
turns_end next n lawful turns events s run rank below =
    let kept = kept_prompt next n events lawful run in
    (lawful.ends n rank (view_of events rank) (run.some, run.few, below) (kept.came rank below)).0 (s.ended rank below)

-- a turn whose pick can be made and whose call can go
turned : (next : Next) (n : ℕ) (stage : Stage) (rank : ℕ) (call : Call) (pick : Pick) → has_pick n stage.events rank call pick ≡ true
    → can_go n stage.events rank (view_of stage.events rank) call ≡ true → turn_with next n stage rank pick (Some call) ≡ answered n stage rank call pick
turned next n stage rank call First offered goes =
    let left : List ℕ = filter (λ other. not (other == rank)) stage.waiting in
    let after : Event → Stage = λ e. record { events = stage.events ++ e ∷ []; waiting = left } in
    let went : attempt_with next n stage rank (Some call) ≡ with_chosen_event n stage rank call = rw goes in
    went ∙ ap after (sym (first_event n stage.events rank call))
turned next n stage rank call (Sender sender) offered goes = rw offered
turned next n stage rank call (Index index) offered goes = rw offered

-- turns by the order and the picks of a run make it again
follow : (next : Next) (n : ℕ) (before run : List Event) (picks : List Pick) (waiting : List ℕ) → Along (IsPromptEvent next n) before run → ArePicked n before picks run
    → has_stuck run ≡ false
    → (take_turns next n (record { events = before; waiting = waiting }) (turns_of (order_of run) picks)).events ≡ before ++ run
follow next n before [] picks waiting events picked free = sym (append-nil before)
follow next n before (event ∷ run) picks waiting events picked free =
    let parts = or_parts (is_stuck_reply event.reply) (has_stuck run) free in
    let pick : Pick = next_pick picks in
    let goes : can_go n before event.rank (view_of before event.rank) event.call ≡ true =
    elim (test_cases (can_go n before event.rank (view_of before event.rank) event.call)) [
      | inl t ↦ t
      | inr t ↦ (
          let stuck = cannot_go next n before event.rank event.call event.reply t events.0.reply in
          let no : true ≡ false = sym (ap is_stuck_reply stuck) ∙ parts.0 in
          absurd (cc))
    ] in
    let stage : Stage = record { events = before; waiting = waiting } in
    let left : List ℕ = filter (λ other. not (other == event.rank)) waiting in
    let after : Event → Stage = λ e. record { events = before ++ e ∷ []; waiting = left } in
    let turn : Turn = record { rank = event.rank; pick = pick } in
    let moved : take_turn next n stage turn ≡ after event =
    ap (turn_with next n stage event.rank pick) events.0.call ∙ (turned next n stage event.rank event.call pick picked.0.offered goes ∙ ap after (sym picked.0.event_is)) in
    let rest = follow next n (before ++ event ∷ []) run (later_picks picks) left events.1 picked.1 parts.1 in
    ap (λ s. (take_turns next n s (turns_of (order_of run) (later_picks picks))).events) moved ∙ (rest ∙ append_assoc before (event ∷ []) run)

pub picks_begin_run : (next : Next) (n : ℕ) → PicksBeginRun next n
picks_begin_run next n picks run events picked free s =
    let first : Stage = take_turns next n first_stage (turns_of (order_of run) picks) in
    let same : first.events ≡ run = follow next n [] run picks [] picked.run.along picked.along free in
    let longer = rounds_grow next n s.count first in
    (longer.0, ap (λ l. l ++ longer.0) (sym same) ∙ (longer.1 ∙ s.made))

pub every_run_is_recorded : (next : Next) (n : ℕ) → EveryRunIsRecorded next n
every_run_is_recorded next n run events is ordered free s =
    picks_begin_run next n (picks_of n run) run events (every_run_is_picked next n run is ordered) free s

turns_append : (next : Next) (n : ℕ) (stage : Stage) (xs ys : List Turn) → take_turns next n stage (xs ++ ys) ≡ take_turns next n (take_turns next n stage xs) ys
turns_append next n stage [] ys = refl
turns_append next n stage (x ∷ xs) ys = turns_append next n (take_turn next n stage x) xs ys

-- a turn that picks what is there
picked_turn : (next : Next) (n : ℕ) (stage : Stage) (run : List Event) (rank sender : ℕ) (call : Call) → stage.events ≡ run → call_after next n run rank ≡ Some call
    → has_pick n run rank call (Sender sender) ≡ true
    → (take_turn next n stage (record { rank = rank; pick = Sender sender })).events ≡ run ++ picked_event n run rank call (Sender sender) ∷ []
picked_turn next n stage run rank sender call same asked offered =
    let here : call_after next n stage.events rank ≡ Some call = rw same asked in
    let there : has_pick n stage.events rank call (Sender sender) ≡ true = rw same offered in
    let made : take_turn next n stage (record { rank = rank; pick = Sender sender }) ≡ answered n stage rank call (Sender sender) =
    ap (turn_with next n stage rank (Sender sender)) here ∙ rw there refl in
    ap (λ (s : Stage). s.events) made ∙ ap (λ l. l ++ picked_event n l rank call (Sender sender) ∷ []) same

pub other_pick_is_taken : (next : Next) (n : ℕ) → OtherPickIsTaken next n
other_pick_is_taken next n picks run events rank sender call picked free asked offered s =
    let turns : List Turn = turns_of (order_of run) picks in
    let other : Turn = record { rank = rank; pick = Sender sender } in
    let first : Stage = take_turns next n first_stage turns in
    let same : first.events ≡ run = follow next n [] run picks [] picked.run.along picked.along free in
    let last : Stage = take_turns next n first_stage (turns ++ other ∷ []) in
    let made : last.events ≡ run ++ picked_event n run rank call (Sender sender) ∷ [] =
    ap (λ (x : Stage). x.events) (turns_append next n first_stage turns (other ∷ [])) ∙ picked_turn next n first run rank sender call same asked offered in
    let longer = rounds_grow next n s.count last in
    (longer.0, ap (λ l. l ++ longer.0) (sym made) ∙ (longer.1 ∙ s.made))
