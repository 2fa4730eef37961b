-- How what some meanings come to makes up what others come to.
use Rattle.std.proofs.Common.{◌≡◌, ◌≤◌, Bool, true, false, List, ◌∷◌, Result, Ok, Err, refl, sym, ◌∙◌, ap, subst, arith}
use Rattle.mpi_call.specs.declared.call.Call.{Call}
use Rattle.mpi_call.specs.declared.reply.Reply.{Reply}
use Rattle.run_model.specs.Program.{ends}
use Rattle.c_program.specs.Courses.{Course, Over as OverCourse, after_replies, asks_last}
use Rattle.c_program.specs.Performing.{Onward}
use Rattle.c_program.specs.State.{State}
use Rattle.c_run_replies.proofs.MoreReplies.{after-over}
use Rattle.c_eval.specs.declared.outcome.Stop.{Stop}
use Rattle.c_run_cells.specs.Comes.{FailsToEvaluate, Leads}
use Rattle.c_run_cells.specs.declared.fail.Fail.{Fail}
use Rattle.c_run_cells.specs.declared.fail.Fail.TheVariants.{Memory as NoMemory, Trapped as FailsAt}
use Rattle.c_eval.specs.Evaluated.{Evaluated, LeadsOn, StopsAt, stop_of}

-- ---- the end of a rank

-- a call that no other follows
pub after-last : (call : Call) (s : State) (reply : Reply) (rest : List Reply) → after_replies (asks_last call s) (reply ∷ rest) ≡ OverCourse s
after-last call s reply rest = by_end (ends (call, reply)) refl
  where
    by_end : (b : Bool) → ends (call, reply) ≡ b → after_replies (asks_last call s) (reply ∷ rest) ≡ OverCourse s
    by_end true is = rw is (after-over (OverCourse s) s rest refl)
    by_end false is = rw is (after-over (OverCourse s) s rest refl)

-- ---- meanings

pub stops-from : (course course' : Course) (stop : Stop) (t : State) (rest : List Reply) → course ≡ course' → StopsAt course' stop t rest → StopsAt course stop t rest
stops-from course course' stop t rest e h = let P : Course → Type 0 = λ c. StopsAt c stop t rest in subst P (sym e) h

-- a meaning that comes to where another one begins, with nothing left to do behind it
pub from : {K A : Type 0} (leads : K → A → Onward) (m m' : State → K → Course) (s t u : State) (r r' r'' : List Reply) (result : Result A Stop)
    → ((k : K) → after_replies (m s k) r ≡ after_replies (m' t k) r') → t.left ≤ s.left → Evaluated leads m' t r' result u r'' → Evaluated leads m s r result u r''
from leads m m' s t u r r' r'' (Ok v) e le h = record { at = λ k. e k ∙ h.at k; left = let l : u.left ≤ t.left = h.left in omega arith }
from leads m m' s t u r r' r'' (Err stop) e le h = λ k. stops-from _ _ stop u r'' (e k) (h k)

-- ---- parts

-- a part uses no reply up
pub lifted : {K A : Type 0} {leads : K → A → Onward} {m : State → K → Course} {s t : State} {v : A} → Leads leads m s v t → (rest : List Reply) → LeadsOn leads m s rest v t rest
lifted h rest = record { at = λ k. ap (λ course. after_replies course rest) (h.at k); left = h.left }

pub fails-stops : (course : Course) (fail : Fail) (t : State) (rest : List Reply) → FailsToEvaluate course fail t → StopsAt (after_replies course rest) (stop_of fail) t rest
fails-stops course NoMemory t rest h = tt
fails-stops course (FailsAt fault) t rest h = ap (λ course. after_replies course rest) h
