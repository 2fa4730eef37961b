-- Serial runs: they end, there is one for given turns, and the runs of an order begin it.
use Rattle.std.proofs.Common.{◌+◌, ◌++◌, ◌<◌, ◌==◌, ◌∙◌, ◌∷◌, ◌≡◌, ◌≤◌, ◌&&◌, List, None, Option, Some, [], ap, append-nil, append_assoc, arith, false, filter, inl, inr, not, refl, suc, sym, true, zero, ℕ}
use Rattle.std.proofs.lemmas.Bool.{or_parts}
use Rattle.mpi_call.specs.declared.call.Call.{Call}
use Rattle.run_model.specs.declared.event.Event.{Event}
use Rattle.run_model.specs.Allowed.{can_go}
use Rattle.run_model.specs.Chosen.{IsChosenEvent, chosen_event, order_of}
use Rattle.run_model.specs.Lists.{Along, IsPrefixOf, world}
use Rattle.run_model.specs.MachineLaws.{OrderBeginsSerial, SerialEnds, TurnsFixSerial, has_stuck, is_stuck_reply}
use Rattle.run_model.specs.Run.{IsPromptEvent}
use Rattle.run_model.specs.Serial.{IsSerial, Stage, with_chosen_event, first_stage, attempt, attempt_with, attempts, call_after, is_stuck, others_wait, rounds}
use Rattle.run_model.specs.Views.{Next, view_of}
use Rattle.run_model.proofs.ChosenLaws.{cannot_go}
use Rattle.run_model.proofs.Prefixes.{prefix_append, prefix_refl, prefix_trans}
use Rattle.run_model.proofs.Prompt.{kept_prompt}
use Rattle.run_model.proofs.RunLaws.{Lawful}
use Rattle.run_model.proofs.Views.{test_cases}

-- attempts take no event back
attempt_grows : (next : Next) (n : ℕ) (stage : Stage) (rank : ℕ) (asked : Option Call) → IsPrefixOf stage.events (attempt_with next n stage rank asked).events
attempt_grows next n stage rank None = prefix_refl stage.events
attempt_grows next n stage rank (Some call) =
    elim (test_cases (can_go n stage.events rank (view_of stage.events rank) call)) [
      | inl t ↦ rw t (prefix_append stage.events (chosen_event n stage.events rank call ∷ []))
      | inr t ↦ elim (test_cases (is_stuck next n stage.events && others_wait next n stage rank)) [
        | inl u ↦ rw (t, u) (prefix_append stage.events (chosen_event n stage.events rank call ∷ []))
        | inr u ↦ rw (t, u) (prefix_refl stage.events)
      ]
    ]

attempts_grow : (next : Next) (n : ℕ) (stage : Stage) (ranks : List ℕ) → IsPrefixOf stage.events (attempts next n stage ranks).events
attempts_grow next n stage [] = prefix_refl stage.events
attempts_grow next n stage (rank ∷ ranks) =
    let one : Stage = attempt next n stage rank in
    prefix_trans stage.events one.events (attempts next n one ranks).events (attempt_grows next n stage rank (call_after next n stage.events rank)) (attempts_grow next n one ranks)

rounds_grow : (next : Next) (n count : ℕ) (stage : Stage) → IsPrefixOf stage.events (rounds next n count stage).events
rounds_grow next n zero stage = prefix_refl stage.events
rounds_grow next n (suc count) stage =
    let one : Stage = attempts next n stage (world n 0) in
    prefix_trans stage.events one.events (rounds next n count one).events (attempts_grow next n stage (world n 0)) (rounds_grow next n count one)

-- where no rank is live, rounds change nothing
idle_attempts : (next : Next) (n : ℕ) (stage : Stage) → ((rank : ℕ) → rank < n → call_after next n stage.events rank ≡ None)
    → (left from : ℕ) → from + left ≤ n → attempts next n stage (world left from) ≡ stage
idle_attempts next n stage none zero from below = refl
idle_attempts next n stage none (suc left) from below =
    let idle : attempt next n stage from ≡ stage = ap (attempt_with next n stage from) (none from (omega arith)) in
    ap (λ s. attempts next n s (world left (from + 1))) idle ∙ idle_attempts next n stage none left (from + 1) (omega arith)

idle_rounds : (next : Next) (n count : ℕ) (stage : Stage) → ((rank : ℕ) → rank < n → call_after next n stage.events rank ≡ None)
    → rounds next n count stage ≡ stage
idle_rounds next n zero stage none = refl
idle_rounds next n (suc count) stage none =
    ap (rounds next n count) (idle_attempts next n stage none n 0 (omega arith)) ∙ idle_rounds next n count stage none

rounds_more : (next : Next) (n count more : ℕ) (stage : Stage) → rounds next n (count + more) stage ≡ rounds next n more (rounds next n count stage)
rounds_more next n zero more stage = (let e : 0 + more ≡ more = omega arith in rw e)
rounds_more next n (suc count) more stage =
    let e : suc count + more ≡ suc (count + more) = omega arith in
    rw e (rounds_more next n count more (attempts next n stage (world n 0)))

-- a serial run stays as it is in further rounds
settled : (next : Next) (n : ℕ) (turns : List ℕ) (events : List Event) (s : IsSerial next n turns events) (more : ℕ)
    → (rounds next n (s.count + more) (attempts next n first_stage turns)).events ≡ events
settled next n turns events s more =
    let last : Stage = rounds next n s.count (attempts next n first_stage turns) in
    let none : (rank : ℕ) → rank < n → call_after next n last.events rank ≡ None =
    λ rank below. ap (λ l. call_after next n l rank) s.made ∙ s.ended rank below in
    ap (λ (x : Stage). x.events) (rounds_more next n s.count more (attempts next n first_stage turns) ∙ idle_rounds next n more last none) ∙ s.made

pub turns_fix_serial : (next : Next) (n : ℕ) → TurnsFixSerial next n
turns_fix_serial next n turns one other s t =
    let first : Stage = attempts next n first_stage turns in
    let flip : s.count + t.count ≡ t.count + s.count = omega arith in
    sym (settled next n turns one s t.count) ∙ (ap (λ c. (rounds next n c first).events) flip ∙ settled next n turns other t s.count)

-- by the first law of programs
pub serial_ends : (next : Next) (n : ℕ) → Lawful next → SerialEnds next n
serial_ends next n lawful turns events s run rank below =
    let kept = kept_prompt next n events lawful run in
    (lawful.ends n rank (view_of events rank) (run.some, run.few, below) (kept.came rank below)).0 (s.ended rank below)

-- an attempt of a call that can go
went : (next : Next) (n : ℕ) (stage : Stage) (rank : ℕ) (call : Call) → can_go n stage.events rank (view_of stage.events rank) call ≡ true
    → attempt_with next n stage rank (Some call) ≡ with_chosen_event n stage rank call
went next n stage rank call goes = rw goes

-- turns in the order of a run of the machine make it again
follow : (next : Next) (n : ℕ) (before run : List Event) (waiting : List ℕ) → Along (IsPromptEvent next n) before run → Along (IsChosenEvent n) before run
    → has_stuck run ≡ false
    → (attempts next n (record { events = before; waiting = waiting }) (order_of run)).events ≡ before ++ run
follow next n before [] waiting events chosen free = sym (append-nil before)
follow next n before (event ∷ run) waiting events chosen free =
    let parts = or_parts (is_stuck_reply event.reply) (has_stuck run) free in
    let goes : can_go n before event.rank (view_of before event.rank) event.call ≡ true =
    elim (test_cases (can_go n before event.rank (view_of before event.rank) event.call)) [
      | inl t ↦ t
      | inr t ↦ (
          let stuck = cannot_go next n before event.rank event.call event.reply t events.0.reply in
          let no : true ≡ false = sym (ap is_stuck_reply stuck) ∙ parts.0 in
          absurd (cc))
    ] in
    let stage : Stage = record { events = before; waiting = waiting } in
    let left : List ℕ = filter (λ other. not (other == event.rank)) waiting in
    let after : Event → Stage = λ e. record { events = before ++ e ∷ []; waiting = left } in
    let moved : attempt next n stage event.rank ≡ after event =
    ap (attempt_with next n stage event.rank) events.0.call ∙ (went next n stage event.rank event.call goes ∙ ap after (sym chosen.0)) in
    let rest = follow next n (before ++ event ∷ []) run left events.1 chosen.1 parts.1 in
    ap (λ s. (attempts next n s (order_of run)).events) moved ∙ (rest ∙ append_assoc before (event ∷ []) run)

pub order_begins_serial : (next : Next) (n : ℕ) → OrderBeginsSerial next n
order_begins_serial next n run events chosen free s =
    let first : Stage = attempts next n first_stage (order_of run) in
    let same : first.events ≡ run = follow next n [] run [] chosen.run.along chosen.along free in
    let longer = rounds_grow next n s.count first in
    (longer.0, ap (λ l. l ++ longer.0) (sym same) ∙ (longer.1 ∙ s.made))
