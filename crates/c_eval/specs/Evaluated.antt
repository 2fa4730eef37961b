-- What evaluation over some replies comes to, whatever follows.
use Rattle.std.specs.Prelude.{◌≡◌, ◌≤◌, List, Result, Ok, Err}
use Rattle.mpi_call.specs.declared.call.Call.{Call}
use Rattle.mpi_call.specs.declared.reply.Reply.{Reply}
use Rattle.c_program.specs.Courses.{Course, Asks, Over as OverCourse, after_replies, trapped}
use Rattle.c_program.specs.Meaning.{Passing}
use Rattle.c_program.specs.Performing.{Onward}
use Rattle.c_program.specs.State.{State}
use Rattle.c_run_cells.specs.declared.fail.Fail.{Fail}
use Rattle.c_run_cells.specs.declared.fail.Fail.TheVariants.{Memory as NoMemory, Trapped as FailsAt}
use Rattle.c_eval.specs.declared.outcome.Stop.{Stop}
use Rattle.c_eval.specs.declared.outcome.Stop.TheVariants.{Memory, Trapped, Waits, Over}

-- a part that fails stops evaluation
abbrev pub stop_of : Fail → Stop
stop_of NoMemory = Memory
stop_of (FailsAt fault) = Trapped fault

-- the course asks this, from this state
pub record AsksFrom (course : Course) (call : Call) (s : State) : Type 0 where
  pub go : Reply → Course
  pub is : course ≡ Asks s call go

-- where a course stands at which evaluation has stopped; out of memory nothing is known
abbrev pub StopsAt : Course → Stop → State → List Reply → Type 0
StopsAt course Memory t rest = Unit {0}
StopsAt course (Trapped fault) t rest = course ≡ after_replies (trapped fault t) rest
StopsAt course (Waits call) t rest = AsksFrom course call t
StopsAt course Over t rest = course ≡ OverCourse t

-- a meaning over these replies comes to this value, from which each `k` leads on
pub record LeadsOn {K A : Type 0} (leads : K → A → Onward) (m : State → K → Course) (s : State) (rest : List Reply) (v : A) (t : State) (rest' : List Reply) : Type 0 where
  pub at : (k : K) → after_replies (m s k) rest ≡ after_replies (leads k v t) rest'
  pub left : t.left ≤ s.left

-- it comes to a value, or stops
abbrev pub Evaluated : {K A : Type 0} → (K → A → Onward) → (State → K → Course) → State → List Reply → Result A Stop → State → List Reply → Type 0
Evaluated leads m s rest (Ok v) t rest' = LeadsOn leads m s rest v t rest'
Evaluated {K} leads m s rest (Err stop) t rest' = (k : K) → StopsAt (after_replies (m s k) rest) stop t rest'

-- with one way out
abbrev pub Passes : Passing → State → List Reply → Result (Unit {0}) Stop → State → List Reply → Type 0
Passes m s rest result t rest' = Evaluated (λ go done. go) m s rest result t rest'

-- with a value
abbrev pub EvaluatesTo : {A : Type 0} → (State → (A → Onward) → Course) → State → List Reply → Result A Stop → State → List Reply → Type 0
EvaluatesTo m s rest result t rest' = Evaluated (λ go v. go v) m s rest result t rest'
