-- What a part of evaluation comes to, whatever follows.
use Rattle.std.specs.Prelude.{◌≡◌, ◌≤◌, Result, Ok, Err}
use Rattle.c_program.specs.Courses.{Course, trapped}
use Rattle.c_program.specs.Meaning.{Passing}
use Rattle.c_program.specs.Performing.{Onward}
use Rattle.c_program.specs.State.{State}
use Rattle.c_run_cells.specs.declared.fail.Fail.{Fail}
use Rattle.c_run_cells.specs.declared.fail.Fail.TheVariants.{Memory, Trapped}

-- a course at which evaluation fails; out of memory nothing is known
abbrev pub FailsToEvaluate : Course → Fail → State → Type 0
FailsToEvaluate course Memory t = Unit {0}
FailsToEvaluate course (Trapped fault) t = course ≡ trapped fault t

-- a meaning comes to this value, from which each `k` leads on
pub record Leads {K A : Type 0} (leads : K → A → Onward) (m : State → K → Course) (s : State) (v : A) (t : State) : Type 0 where
  pub at : (k : K) → m s k ≡ leads k v t
  pub left : t.left ≤ s.left

-- a meaning comes to a value, or fails
abbrev pub Comes : {K A : Type 0} → (K → A → Onward) → (State → K → Course) → State → Result A Fail → State → Type 0
Comes leads m s (Ok v) t = Leads leads m s v t
Comes {K} leads m s (Err fail) t = (k : K) → FailsToEvaluate (m s k) fail t

-- with one way out
abbrev pub ComesOut : Passing → State → Result (Unit {0}) Fail → State → Type 0
ComesOut m s result t = Comes (λ go done. go) m s result t

-- with a value
abbrev pub ComesToValue : {A : Type 0} → (State → (A → Onward) → Course) → State → Result A Fail → State → Type 0
ComesToValue m s result t = Comes (λ go v. go v) m s result t
