-- What the recording by a state's turns comes to, with one more turn or without.
use Rattle.std.proofs.Common.{◌≡◌, ◌<◌, ◌==◌, ◌&&◌, ◌∙◌, ◌++◌, ◌∷◌, if◌then◌else◌, ℕ, zero, suc, List, [], Option, Some, None, true, append-nil, append_assoc, filter, inl, inr, not, refl, ap, sym, subst}
use Rattle.mpi_call.specs.declared.call.Call.{Call}
use Rattle.mpi_call.specs.declared.call.Halt.{Halt}
use Rattle.mpi_call.specs.declared.call.Halt.TheVariants.{Limit, Stuck}
use Rattle.mpi_call.specs.declared.reply.Reply.TheVariants.{Done, Stopped}
use Rattle.run_model.specs.declared.event.Event.{Event}
use Rattle.run_model.specs.Allowed.{IsAllowedBy, IsStuck, can_go}
use Rattle.run_model.specs.Chosen.{chosen_event}
use Rattle.run_model.specs.Due.{halt_at, halt_of_reply, halted, is_full, or_else}
use Rattle.run_model.specs.Lists.{Along, IsPrefixOf, world}
use Rattle.run_model.specs.Run.{IsPromptEvent, IsPromptRun}
use Rattle.run_model.specs.Serial.{Stage, with_chosen_event, first_stage, attempt, attempt_with, attempts, call_after, is_stuck, others_wait, rounds}
use Rattle.run_model.specs.Views.{Next, moment_at, view_of}
use Rattle.run_model.proofs.ChosenLaws.{cannot_go}
use Rattle.run_model.proofs.Prefixes.{prefix_append, prefix_refl, prefix_trans}
use Rattle.run_model.proofs.Prompt.{IsPromptRun-event}
use Rattle.run_model.proofs.Views.{test_cases}
use Rattle.picked_runs.specs.declared.turn.Pick.{Pick}
use Rattle.picked_runs.specs.declared.turn.Pick.TheVariants.{First, Sender, Index}
use Rattle.picked_runs.specs.declared.turn.Turn.{Turn}
use Rattle.picked_runs.specs.Picks.{has_pick, picked_event}
use Rattle.picked_runs.specs.Turns.{IsRunByTurns, answered, take_turn, take_turns, turn_with}
use Rattle.picked_runs.proofs.Firsts.{first_event}
use Rattle.srr_entry.specs.Outputs.{Output}
use Rattle.run_states.specs.Outcomes.{IsProbeKept, halted_outcome, outcome_of_run}
use Rattle.run_states.specs.StateLaws.{HaltsDecideOutcomes}
use Rattle.explore.specs.Explored.{events_of_turns}

-- 1. turns and rounds take no event back

attempt_grows : (next : Next) (n : ℕ) (stage : Stage) (rank : ℕ) (asked : Option Call) → IsPrefixOf stage.events (attempt_with next n stage rank asked).events
attempt_grows next n stage rank None = prefix_refl stage.events
attempt_grows next n stage rank (Some call) =
    elim (test_cases (can_go n stage.events rank (view_of stage.events rank) call)) [
      | inl t ↦ rw t (prefix_append stage.events (chosen_event n stage.events rank call ∷ []))
      | inr t ↦ elim (test_cases (is_stuck next n stage.events && others_wait next n stage rank)) [
        | inl u ↦ rw (t, u) (prefix_append stage.events (chosen_event n stage.events rank call ∷ []))
        | inr u ↦ rw (t, u) (prefix_refl stage.events)
      ]
    ]

attempts_grow : (next : Next) (n : ℕ) (stage : Stage) (ranks : List ℕ) → IsPrefixOf stage.events (attempts next n stage ranks).events
attempts_grow next n stage [] = prefix_refl stage.events
attempts_grow next n stage (rank ∷ ranks) =
    let one : Stage = attempt next n stage rank in
    prefix_trans stage.events one.events (attempts next n one ranks).events (attempt_grows next n stage rank (call_after next n stage.events rank)) (attempts_grow next n one ranks)

rounds_grow : (next : Next) (n count : ℕ) (stage : Stage) → IsPrefixOf stage.events (rounds next n count stage).events
rounds_grow next n zero stage = prefix_refl stage.events
rounds_grow next n (suc count) stage =
    let one : Stage = attempts next n stage (world n 0) in
    prefix_trans stage.events one.events (rounds next n count one).events (attempts_grow next n stage (world n 0)) (rounds_grow next n count one)

answered_grows : (next : Next) (n : ℕ) (stage : Stage) (rank : ℕ) (call : Call) (pick : Pick)
    → IsPrefixOf stage.events (if has_pick n stage.events rank call pick then answered n stage rank call pick else stage).events
answered_grows next n stage rank call pick =
    elim (test_cases (has_pick n stage.events rank call pick)) [
      | inl t ↦ rw t (prefix_append stage.events (picked_event n stage.events rank call pick ∷ []))
      | inr t ↦ rw t (prefix_refl stage.events)
    ]

turn_grows : (next : Next) (n : ℕ) (stage : Stage) (rank : ℕ) (pick : Pick) (asked : Option Call) → IsPrefixOf stage.events (turn_with next n stage rank pick asked).events
turn_grows next n stage rank First asked = attempt_grows next n stage rank asked
turn_grows next n stage rank (Sender sender) None = prefix_refl stage.events
turn_grows next n stage rank (Index index) None = prefix_refl stage.events
turn_grows next n stage rank (Sender sender) (Some call) = answered_grows next n stage rank call (Sender sender)
turn_grows next n stage rank (Index index) (Some call) = answered_grows next n stage rank call (Index index)

-- a recording begins with what its turns make
pub taken_begins : (next : Next) (n : ℕ) (turns : List Turn) (run : List Event) → IsRunByTurns next n turns run → IsPrefixOf (events_of_turns next n turns) run
taken_begins next n turns run taken =
    let longer = rounds_grow next n taken.count (take_turns next n first_stage turns) in
    (longer.0, longer.1 ∙ taken.made)

-- 2. one more turn

turns_append : (next : Next) (n : ℕ) (stage : Stage) (xs ys : List Turn) → take_turns next n stage (xs ++ ys) ≡ take_turns next n (take_turns next n stage xs) ys
turns_append next n stage [] ys = refl
turns_append next n stage (x ∷ xs) ys = turns_append next n (take_turn next n stage x) xs ys

pub turn_begins : (next : Next) (n : ℕ) (turns : List Turn) (turn : Turn) → IsPrefixOf (events_of_turns next n turns) (events_of_turns next n (turns ++ turn ∷ []))
turn_begins next n turns turn =
    let stage : Stage = take_turns next n first_stage turns in
    let F : Stage → Type 0 = λ s. IsPrefixOf stage.events s.events in
    subst F (sym (turns_append next n first_stage turns (turn ∷ []))) (turn_grows next n stage turn.rank turn.pick (call_after next n stage.events turn.rank))

turned : (next : Next) (n : ℕ) (stage : Stage) (rank : ℕ) (call : Call) (pick : Pick) → has_pick n stage.events rank call pick ≡ true
    → can_go n stage.events rank (view_of stage.events rank) call ≡ true → turn_with next n stage rank pick (Some call) ≡ answered n stage rank call pick
turned next n stage rank call First offered goes =
    let left : List ℕ = filter (λ other. not (other == rank)) stage.waiting in
    let after : Event → Stage = λ e. record { events = stage.events ++ e ∷ []; waiting = left } in
    let went : attempt_with next n stage rank (Some call) ≡ with_chosen_event n stage rank call = rw goes in
    went ∙ ap after (sym (first_event n stage.events rank call))
turned next n stage rank call (Sender sender) offered goes = rw offered
turned next n stage rank call (Index index) offered goes = rw offered

-- a turn whose call can go, and whose pick is there, makes its event
pub turn_made : (next : Next) (n : ℕ) (turns : List Turn) (turn : Turn) (call : Call) → call_after next n (events_of_turns next n turns) turn.rank ≡ Some call
    → has_pick n (events_of_turns next n turns) turn.rank call turn.pick ≡ true
    → can_go n (events_of_turns next n turns) turn.rank (view_of (events_of_turns next n turns) turn.rank) call ≡ true
    → events_of_turns next n (turns ++ turn ∷ []) ≡ events_of_turns next n turns ++ picked_event n (events_of_turns next n turns) turn.rank call turn.pick ∷ []
turn_made next n turns turn call asked offered goes =
    let stage : Stage = take_turns next n first_stage turns in
    let moved : take_turn next n stage turn ≡ answered n stage turn.rank call turn.pick =
    ap (turn_with next n stage turn.rank turn.pick) asked ∙ turned next n stage turn.rank call turn.pick offered goes in
    ap (λ (s : Stage). s.events) (turns_append next n first_stage turns (turn ∷ []) ∙ moved)

-- 3. what runs come to that go on from a history

abbrev HaveEnded : Next → ℕ → List Event → Type 0
HaveEnded next n events = (rank : ℕ) → rank < n → call_after next n events rank ≡ None

-- where each rank has ended nothing follows
none_behind : (next : Next) (n : ℕ) (before after : List Event) → IsPromptRun next n (before ++ after) → HaveEnded next n before → after ≡ []
none_behind next n before [] run ended = refl
none_behind next n before (event ∷ after) run ended =
    let step : IsPromptEvent next n before event = IsPromptRun-event next n before after event run in
    let no : Some event.call ≡ None = sym step.call ∙ ended event.rank step.rank in
    absurd (cc)

pub ended_comes : (next : Next) (output : Output) (n : ℕ) (before run : List Event) → IsPrefixOf before run → IsPromptRun next n run → HaveEnded next n before
    → outcome_of_run output n run ≡ outcome_of_run output n before
ended_comes next output n before run begins is ended =
    let R : List Event → Type 0 = λ l. IsPromptRun next n l in
    let none : begins.0 ≡ [] = none_behind next n before begins.0 (subst R (sym begins.1) is) ended in
    ap (outcome_of_run output n) (sym begins.1 ∙ (ap (λ l. before ++ l) none ∙ append-nil before))

-- a halt right behind it decides
halt_decides : (next : Next) (output : Output) (n : ℕ) → HaltsDecideOutcomes next output n → (before after run : List Event) (event : Event) (halt : Halt)
    → before ++ event ∷ after ≡ run → IsPromptRun next n run → HaveEnded next n run → halted before ≡ None → event.reply ≡ Stopped halt
    → outcome_of_run output n run ≡ halted_outcome next output n before halt
halt_decides next output n law before after run event halt whole is ended free stopped =
    let R : List Event → Type 0 = λ l. IsPromptRun next n l in
    let E : List Event → Type 0 = λ l. HaveEnded next n l in
    ap (outcome_of_run output n) (sym whole) ∙ law before after event halt (subst R (sym whole) is) (subst E (sym whole) ended) free stopped

pub halted_comes : (next : Next) (output : Output) (n : ℕ) → HaltsDecideOutcomes next output n → (before run : List Event) (event : Event) (halt : Halt)
    → IsPrefixOf (before ++ event ∷ []) run → IsPromptRun next n run → HaveEnded next n run → halted before ≡ None → event.reply ≡ Stopped halt
    → outcome_of_run output n run ≡ halted_outcome next output n before halt
halted_comes next output n law before run event halt begins is ended free stopped =
    halt_decides next output n law before begins.0 run event halt (sym (append_assoc before (event ∷ []) begins.0) ∙ begins.1) is ended free stopped

-- where nothing can go and a rank is live, the next event is Stuck
stuck_behind : (next : Next) (output : Output) (n : ℕ) → HaltsDecideOutcomes next output n → (before rest run : List Event) (rank : ℕ) (call : Call)
    → before ++ rest ≡ run → IsPromptRun next n run → HaveEnded next n run → halted before ≡ None → IsStuck next n before
    → rank < n → call_after next n before rank ≡ Some call → outcome_of_run output n run ≡ halted_outcome next output n before Stuck
stuck_behind next output n law before [] run rank call whole is ended free stuck below asked =
    let same : before ≡ run = sym (append-nil before) ∙ whole in
    let F : List Event → Type 0 = λ l. call_after next n l rank ≡ Some call in
    let no : None ≡ Some call = sym (ended rank below) ∙ subst F same asked in
    absurd (cc)
stuck_behind next output n law before (event ∷ rest) run rank call whole is ended free stuck below asked =
    let R : List Event → Type 0 = λ l. IsPromptRun next n l in
    let step : IsPromptEvent next n before event = IsPromptRun-event next n before rest event (subst R (sym whole) is) in
    let reply : event.reply ≡ Stopped Stuck = cannot_go next n before event.rank event.call event.reply (stuck event.rank event.call step.rank step.call) step.reply in
    halt_decides next output n law before rest run event Stuck whole is ended free reply

pub stuck_comes : (next : Next) (output : Output) (n : ℕ) → HaltsDecideOutcomes next output n → (before run : List Event) (rank : ℕ) (call : Call)
    → IsPrefixOf before run → IsPromptRun next n run → HaveEnded next n run → halted before ≡ None → IsStuck next n before
    → rank < n → call_after next n before rank ≡ Some call → outcome_of_run output n run ≡ halted_outcome next output n before Stuck
stuck_comes next output n law before run rank call begins is ended free stuck below asked =
    stuck_behind next output n law before begins.0 run rank call begins.1 is ended free stuck below asked

-- 4. behind a halt no receive is posted, so probes are kept

stopped_again : (next : Next) (n : ℕ) (now : List Event) (event : Event) (halt : Halt) → halted now ≡ Some halt → IsPromptEvent next n now event → event.reply ≡ Stopped halt
stopped_again next n now event halt h step =
    let F : Option Halt → Type 0 = λ o. IsAllowedBy
    (or_else o (if is_full now then Some Limit else halt_at n now event.rank (view_of now event.rank) event.call))
    (IsStuck next n now) (moment_at n now event.rank) event.call event.reply in
    subst F h step.reply

pub halted-append : (xs ys : List Event) → halted (xs ++ ys) ≡ or_else (halted xs) (halted ys)
halted-append [] ys = refl
halted-append (x ∷ xs) ys = rw (halted-append xs ys) (or_else-more (halt_of_reply x.reply) (halted xs) (halted ys))
  where
    or_else-more : (a b c : Option Halt) → or_else a (or_else b c) ≡ or_else (or_else a b) c
    or_else-more None b c = refl
    or_else-more (Some halt) b c = refl

pub kept_stopped : (before : List Event) (event : Event) (halt : Halt) → event.reply ≡ Stopped halt → IsProbeKept before event
kept_stopped before event halt stopped earlier comm source tag wait room sender start sent count view call done =
    let no : Stopped halt ≡ Done = sym stopped ∙ done in
    absurd (cc)

pub probes_behind : (next : Next) (n : ℕ) (now events : List Event) (halt : Halt) → halted now ≡ Some halt → Along (IsPromptEvent next n) now events → Along IsProbeKept now events
probes_behind next n now [] halt h steps = tt
probes_behind next n now (event ∷ events) halt h steps =
    let still : halted (now ++ event ∷ []) ≡ Some halt = halted-append now (event ∷ []) ∙ ap (λ o. or_else o (halted (event ∷ []))) h in
    (kept_stopped now event halt (stopped_again next n now event halt h steps.0), probes_behind next n (now ++ event ∷ []) events halt still steps.1)
