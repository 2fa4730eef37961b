-- A machine and its ranks after some turns.
use Rattle.std.proofs.Common.{◌≡◌, ◌<◌, ◌∙◌, ◌++◌, List, None, Option, Some, [], false, is_some, length, refl, replicate, ap, set, take, subst, suc, sym, true, zero, ℕ}
use Rattle.std.specs.List.{slice_index_or}
use Rattle.std.proofs.Math.Seq.{take-append_seam}
use Rattle.mpi_call.specs.declared.call.Call.{Call}
use Rattle.mpi_call.specs.declared.reply.Reply.{Reply}
use Rattle.run_model.specs.declared.event.Event.{Event}
use Rattle.run_model.specs.Program.{IsAfter, Standing}
use Rattle.run_model.specs.Run.{IsPromptRun}
use Rattle.run_model.specs.Serial.{first_stage, call_after}
use Rattle.run_model.specs.Views.{Next}
use Rattle.picked_runs.specs.declared.turn.Pick.{Pick}
use Rattle.picked_runs.specs.declared.turn.Turn.{Turn}
use Rattle.picked_runs.specs.Picked.{IsPicked}
use Rattle.picked_runs.specs.Turns.{take_turns}
use Rattle.mpi_machine.specs.Turns.{MachineState, IsAtStage, waiting_call}
use Rattle.srr_record.specs.Recordings.{AreRuns}
use Rattle.srr_record.specs.Rounds.{GoesByTurns}
use Rattle.srr_record.proofs.Running.{runs_set}
use Rattle.explore.specs.Courses.{IsAnswered, IsCourse, IsTurnHeldBack}
use Rattle.explore.specs.Explored.{events_of_turns}

none_kept : (n rank : ℕ) → is_some (waiting_call (replicate n None) rank) ≡ false
none_kept zero rank = refl
none_kept (suc n) zero = refl
none_kept (suc n) (suc rank) = none_kept n rank

first_stands : {P : Type 0} (program : P) (n : ℕ) → IsAtStage (record { program = program; ranks = n; events = []; kept = replicate n None }) first_stage
first_stands program n = record { events = refl; waiting = λ rank. sym (none_kept n rank) }

pub course_after : {P R : Type 0} (next : P → Next) (standing : R → Standing P) (program : P) (n ranks : ℕ) (turns : List Turn) (first after : MachineState P) (runs : List R)
    → first ≡ record { program = program; ranks = ranks; events = []; kept = replicate ranks None } → ranks ≡ n
    → GoesByTurns (next first.program) turns first after → AreRuns standing first.program first.ranks after.events runs
    → IsCourse standing program n (events_of_turns (next program) n turns) after runs
course_after {P} {R} next standing program n ranks turns first after runs is many goes are =
    let p : first.program ≡ program = ap (λ (m : MachineState P). m.program) is in
    let r : first.ranks ≡ n = ap (λ (m : MachineState P). m.ranks) is ∙ many in
    let S : MachineState P → Type 0 = λ m. IsAtStage m first_stage in
    let there = goes.stands first_stage (subst S (sym is) (first_stands program ranks)) in
    let E : P → ℕ → List Event = λ q m. (take_turns (next q) m first_stage turns).events in
    let events : after.events ≡ events_of_turns (next program) n turns = sym there.events ∙ (ap (λ q. E q first.ranks) p ∙ ap (E program) r) in
    let A : P → Type 0 = λ q. AreRuns standing q first.ranks after.events runs in
    let B : ℕ → Type 0 = λ m. AreRuns standing program m after.events runs in
    let C : List Event → Type 0 = λ l. AreRuns standing program n l runs in
    record {
      program_is = goes.program ∙ p;
      ranks_are = goes.ranks ∙ r;
      events_are = events;
      runs_are = subst C events (subst B r (subst A p are));
    }

-- a rank that was asked for its next call: it stands where it stood
abbrev next_by : {P : Type 0} → (P → Next) → P → ℕ → ℕ → List Reply → Option Call
next_by next program n rank replies = next program n rank replies

pub asked_call : {P : Type 0} (next : P → Next) (program : P) (n rank : ℕ) (events : List Event) (stands : Standing P) (call : Option Call) → IsAfter program n rank events stands
    → next stands.program stands.ranks stands.rank stands.replies ≡ call → call_after (next program) n events rank ≡ call
asked_call {P} next program n rank events stands call is said =
    let a : next stands.program stands.ranks stands.rank stands.replies ≡ next program stands.ranks stands.rank stands.replies =
    ap (λ p. next_by next p stands.ranks stands.rank stands.replies) is.same_program in
    let b : next program stands.ranks stands.rank stands.replies ≡ next program n stands.rank stands.replies =
    ap (λ m. next_by next program m stands.rank stands.replies) is.ranks in
    let c : next program n stands.rank stands.replies ≡ next program n rank stands.replies = ap (λ r. next_by next program n r stands.replies) is.rank_is in
    let d : next program n rank stands.replies ≡ call_after (next program) n events rank = ap (next_by next program n rank) is.replies_are in
    sym (a ∙ (b ∙ (c ∙ d))) ∙ said

is_asked : {P : Type 0} (program : P) (n rank : ℕ) (events : List Event) (before after : Standing P) → IsAfter program n rank events before
    → after ≡ record before { asked = true } → IsAfter program n rank events after
is_asked {P} program n rank events before after is same =
    let F : Standing P → Type 0 = λ s. IsAfter program n rank events s in
    subst F (sym same) (record { same_program = is.same_program; ranks = is.ranks; rank_is = is.rank_is; replies_are = is.replies_are })

-- where a rank of a course stands
pub stands_at : {P R : Type 0} (standing : R → Standing P) (program : P) (n : ℕ) (events : List Event) (machine : MachineState P) (runs : List R) (rank : ℕ) (run : R)
    → IsCourse standing program n events machine runs → rank < n → run ≡ slice_index_or runs rank run → IsAfter program n rank events (standing run)
stands_at {P} {R} standing program n events machine runs rank run is below there =
    let S : R → Type 0 = λ r. IsAfter program n rank events (standing r) in
    subst S (sym there) (is.runs_are.each rank run below)

-- what is asked and answered of a course is asked and answered of its machine
pub asked_there : {P R : Type 0} (next : P → Next) (standing : R → Standing P) (program : P) (n : ℕ) (events : List Event) (machine : MachineState P) (runs : List R) (rank : ℕ) (call : Call)
    → IsCourse standing program n events machine runs → call_after (next program) n events rank ≡ Some call → call_after (next machine.program) machine.ranks machine.events rank ≡ Some call
asked_there {P} {R} next standing program n events machine runs rank call is asked =
    let F : P → ℕ → List Event → Type 0 = λ q m l. call_after (next q) m l rank ≡ Some call in
    subst (λ q. F q machine.ranks machine.events) (sym is.program_is) (subst (λ m. F program m machine.events) (sym is.ranks_are) (subst (λ l. F program n l) (sym is.events_are) asked))

pub answered_there : {P R : Type 0} (next : P → Next) (standing : R → Standing P) (program : P) (n : ℕ) (events : List Event) (machine : MachineState P) (runs : List R) (after : List Event)
    (rank : ℕ) (call : Call) (pick : Pick) → IsCourse standing program n events machine runs
    → IsAnswered (next machine.program) machine.ranks machine.events after (record { rank = rank; pick = pick }) call → IsAnswered (next program) n events after (record { rank = rank; pick = pick }) call
answered_there {P} {R} next standing program n events machine runs after rank call pick is answered =
    let F : P → ℕ → List Event → Type 0 = λ q m l. IsAnswered (next q) m l after (record { rank = rank; pick = pick }) call in
    subst (λ l. F program n l) is.events_are (subst (λ m. F program m machine.events) is.ranks_are (subst (λ q. F q machine.ranks machine.events) is.program_is answered))

pub held_there : {P R : Type 0} (standing : R → Standing P) (program : P) (n : ℕ) (events : List Event) (machine : MachineState P) (runs : List R) (after : List Event)
    (rank : ℕ) (call : Call) (pick : Pick) → IsCourse standing program n events machine runs
    → IsTurnHeldBack machine.ranks machine.events after (record { rank = rank; pick = pick }) call → IsTurnHeldBack n events after (record { rank = rank; pick = pick }) call
held_there standing program n events machine runs after rank call pick is held =
    let F : ℕ → List Event → Type 0 = λ m l. IsTurnHeldBack m l after (record { rank = rank; pick = pick }) call in
    subst (λ l. F n l) is.events_are (subst (λ m. F m machine.events) is.ranks_are held)

pub course_asked : {P R : Type 0} (standing : R → Standing P) (program : P) (n : ℕ) (events : List Event) (machine : MachineState P) (runs : List R) (rank : ℕ) (before after : R)
    → IsCourse standing program n events machine runs → rank < n → before ≡ slice_index_or runs rank before → standing after ≡ record (standing before) { asked = true }
    → IsCourse standing program n events machine (set runs rank after)
course_asked {P} {R} standing program n events machine runs rank before after is below there asked =
    let was : IsAfter program n rank events (standing before) = stands_at standing program n events machine runs rank before is below there in
    record {
      program_is = is.program_is;
      ranks_are = is.ranks_are;
      events_are = is.events_are;
      runs_are = runs_set standing program n events events runs rank after is.runs_are below (record { others = λ other apart. refl })
          (is_asked program n rank events (standing before) (standing after) was asked);
    }

-- an attempt that held the call back left the machine where it stood
pub course_held : {P R : Type 0} (standing : R → Standing P) (program : P) (n : ℕ) (events : List Event) (one two : MachineState P) (runs : List R)
    → IsCourse standing program n events one runs → two.program ≡ one.program → two.ranks ≡ one.ranks → two.events ≡ one.events
    → IsCourse standing program n events two runs
course_held standing program n events one two runs is programs ranks same =
    record { program_is = programs ∙ is.program_is; ranks_are = ranks ∙ is.ranks_are; events_are = same ∙ is.events_are; runs_are = is.runs_are }

-- a machine of this program has made a run of it
pub run_of : {P : Type 0} (next : P → Next) (one other : P) (n m : ℕ) (events : List Event) → one ≡ other → n ≡ m → IsPromptRun (next one) n events → IsPromptRun (next other) m events
run_of {P} next one other n m events p r run =
    let F : P → Type 0 = λ q. IsPromptRun (next q) n events in
    let G : ℕ → Type 0 = λ k. IsPromptRun (next other) k events in
    subst G r (subst F p run)

-- what a slice of a whole list was changed to
pub whole_slice : {A : Type 0} (xs new rest : List A) (many : ℕ) → many ≡ length xs → length new ≡ length xs → take many (new ++ rest) ≡ new
whole_slice xs new rest many all same = ap (λ k. take k (new ++ rest)) (all ∙ sym same) ∙ take-append_seam new rest

-- and these picks have made it
pub picked_of : {P R : Type 0} (next : P → Next) (standing : R → Standing P) (program : P) (n : ℕ) (events made : List Event) (machine : MachineState P) (runs : List R) (picks : List Pick)
    → IsCourse standing program n events machine runs → made ≡ machine.events → IsPicked (next machine.program) machine.ranks picks made → IsPicked (next program) n picks events
picked_of {P} {R} next standing program n events made machine runs picks is same picked =
    let F : P → ℕ → List Event → Type 0 = λ q m l. IsPicked (next q) m picks l in
    subst (λ l. F program n l) (same ∙ is.events_are) (subst (λ m. F program m made) is.ranks_are (subst (λ q. F q machine.ranks made) is.program_is picked))

pub none_is : {A : Type 0} (o : Option A) → is_some o ≡ false → o ≡ None
none_is None h = refl
none_is (Some x) h = absurd (cc)

pub some_is : {A : Type 0} (o : Option A) → is_some o ≡ true → (x : A) × (o ≡ Some x)
some_is None h = absurd (cc)
some_is (Some x) h = (x, refl)
