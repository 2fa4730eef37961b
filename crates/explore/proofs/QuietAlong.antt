-- A course goes along with a quiet call that was made.
use Rattle.std.proofs.Common.{◌≡◌, ◌<◌, ◌∙◌, ◌++◌, ◌∷◌, ℕ, List, [], None, ap, set, subst, sym, refl}
use Rattle.run_model.specs.declared.event.Event.{Event}
use Rattle.run_model.specs.Due.{halted}
use Rattle.run_model.specs.Program.{IsAfter, Standing}
use Rattle.run_model.specs.Run.{IsPromptRun}
use Rattle.run_model.specs.Views.{Next}
use Rattle.picked_runs.specs.declared.turn.Pick.TheVariants.{First}
use Rattle.picked_runs.specs.declared.turn.Turn.{Turn}
use Rattle.picked_runs.specs.Picks.{picked_event}
use Rattle.mpi_machine.specs.Turns.{MachineState}
use Rattle.srr_record.specs.Recordings.{AreRuns}
use Rattle.srr_record.specs.Rounds.{IsOnlyOf}
use Rattle.srr_record.proofs.Running.{only_of, runs_set}
use Rattle.quiet_calls.specs.Quiet.{Races}
use Rattle.explore.specs.Courses.{IsCourse, IsQuietlyAnswered}
use Rattle.explore.specs.Explored.{events_of_turns}
use Rattle.explore.specs.QuietFirst.{IsLastAnswered}
use Rattle.explore.specs.Searching.{IsState, IsTurnMade}
use Rattle.explore.proofs.QuietLooked.{quietly_made}
use Rattle.explore.proofs.Tried.{halt_of_last, next_step}

-- what holds of a course's machine holds of the course, and the other way round
pub after_there : {P R : Type 0} (standing : R → Standing P) (program : P) (n : ℕ) (events : List Event) (machine : MachineState P) (runs : List R) (rank : ℕ) (stands : Standing P)
    → IsCourse standing program n events machine runs → IsAfter program n rank events stands → IsAfter machine.program machine.ranks rank machine.events stands
after_there {P} standing program n events machine runs rank stands is after =
    let F : P → ℕ → List Event → Type 0 = λ q m l. IsAfter q m rank l stands in
    subst (λ q. F q machine.ranks machine.events) (sym is.program_is) (subst (λ m. F program m machine.events) (sym is.ranks_are) (subst (λ l. F program n l) (sym is.events_are) after))

pub after_here : {P R : Type 0} (standing : R → Standing P) (program : P) (n : ℕ) (events after : List Event) (machine : MachineState P) (runs : List R) (rank : ℕ) (stands : Standing P)
    → IsCourse standing program n events machine runs → IsAfter machine.program machine.ranks rank after stands → IsAfter program n rank after stands
after_here {P} standing program n events after machine runs rank stands is there =
    let F : P → ℕ → Type 0 = λ q m. IsAfter q m rank after stands in
    subst (λ m. F program m) is.ranks_are (subst (λ q. F q machine.ranks) is.program_is there)

pub quiet_here : {P R : Type 0} (next : P → Next) (standing : R → Standing P) (program : P) (n : ℕ) (races : Races) (events after : List Event) (machine : MachineState P) (runs : List R) (rank : ℕ)
    → IsCourse standing program n events machine runs → IsQuietlyAnswered (next machine.program) machine.ranks races machine.events after rank
    → IsQuietlyAnswered (next program) n races events after rank
quiet_here {P} next standing program n races events after machine runs rank is there =
    let F : P → ℕ → List Event → Type 0 = λ q m l. IsQuietlyAnswered (next q) m races l after rank in
    subst (λ l. F program n l) is.events_are (subst (λ m. F program m machine.events) is.ranks_are (subst (λ q. F q machine.ranks machine.events) is.program_is there))

pub went_along : {P R : Type 0} (next : P → Next) (standing : R → Standing P) (program : P) (n : ℕ) (root : List Event) (turns : List Turn) (one two : MachineState P) (runs : List R) (run : R) (rank : ℕ)
    → IsState (next program) n root turns → IsCourse standing program n (events_of_turns (next program) n turns) one runs → rank < n → two.program ≡ one.program → two.ranks ≡ one.ranks
    → IsPromptRun (next program) n two.events → IsTurnMade (next program) n (events_of_turns (next program) n turns) two.events (record { rank = rank; pick = First }) → IsLastAnswered two.events
    → IsAfter program n rank two.events (standing run)
    → IsCourse standing program n (events_of_turns (next program) n (turns ++ (record { rank = rank; pick = First }) ∷ [])) two (set runs rank run)
went_along {P} {R} next standing program n root turns one two runs run rank state is below programs ranks all made last after =
    let before : List Event = events_of_turns (next program) n turns in
    let turn : Turn = record { rank = rank; pick = First } in
    let q : Event = picked_event n before rank made.call First in
    let none : halted two.events ≡ None =
    ap halted made.answered.events_are ∙ (halt_of_last before q state.free ∙ (quietly_made (next program) n before two.events rank made.call made.answered last).free) in
    let step = next_step (next program) n root turns two.events turn state below tt all made none in
    let same : events_of_turns (next program) n (turns ++ turn ∷ []) ≡ two.events = step.made in
    let O : List Event → Type 0 = λ l. IsOnlyOf rank before l in
    let A : List Event → Type 0 = λ l. AreRuns standing program n l (set runs rank run) in
    record {
      program_is = programs ∙ is.program_is;
      ranks_are = ranks ∙ is.ranks_are;
      events_are = sym same;
      runs_are = subst A (sym same) (runs_set standing program n before two.events runs rank run is.runs_are below (subst O (sym made.answered.events_are) (only_of rank before q refl)) after);
    }

-- a call that was not made left the course where it stood
pub stayed : {P R : Type 0} (standing : R → Standing P) (program : P) (n : ℕ) (events : List Event) (one two : MachineState P) (runs : List R) (run : R) (rank : ℕ)
    → IsCourse standing program n events one runs → rank < n → two.program ≡ one.program → two.ranks ≡ one.ranks → two.events ≡ one.events → IsAfter program n rank two.events (standing run)
    → IsCourse standing program n events two (set runs rank run)
stayed standing program n events one two runs run rank is below programs ranks same after =
    let F : List Event → Type 0 = λ l. IsAfter program n rank l (standing run) in
    record {
      program_is = programs ∙ is.program_is;
      ranks_are = ranks ∙ is.ranks_are;
      events_are = same ∙ is.events_are;
      runs_are = runs_set standing program n events events runs rank run is.runs_are below (record { others = λ other apart. refl }) (subst F (same ∙ is.events_are) after);
    }
