-- What a rank that uses replies up stands for.
use Rattle.std.specs.Prelude.{◌≡◌, ◌≢◌, ◌<◌, ◌≤◌, List, Option, Some, None, Bool, true, drop, length, map, take}
use Rattle.mpi_call.specs.declared.limits.TheConstants.{MOST_RANKS}
use Rattle.mpi_call.specs.declared.reply.Reply.{Reply}
use Rattle.c_program.specs.Courses.{Course, after_replies}
use Rattle.c_program.specs.Meaning.{course_of}
use Rattle.c_program.specs.Program.{course_after}
use Rattle.c_program.specs.State.{State}
use Rattle.c_program.specs.Tree.{Program}
use Rattle.c_program.specs.View.{pure_function}
use Rattle.c_run_replies.specs.Questions.{question_call}
use Rattle.c_run_replies.specs.declared.question.Reached.{Reached}
use Rattle.c_run_replies.specs.declared.question.Reached.TheVariants.{Done, Asks, Over}
use Rattle.run_model.specs.declared.program.Want.{Want}
use Rattle.run_model.specs.declared.program.Want.TheVariants.{Ask, Ended}
use Rattle.rank_machine.specs.declared.frame.Code.{Code}
use Rattle.rank_machine.specs.declared.going.Going.{Going}
use Rattle.rank_machine.specs.Frames.{IsAt}

-- no reply is left, and what is wanted is known
pub record HasNoReplyLeft (replies : List Reply) (going : Going) : Type 0 where
  pub used : going.used ≡ length replies
  pub stops : going.found ≢ Done

-- the replies that were not used have led on from there
pub record HasCaughtUp (code : Code) (replies : List Reply) (old new : Going) : Type 0 where
  pub at : (course : Course) → IsAt course code old.found old.stack → IsAt (after_replies course (drop old.used replies)) code new.found new.stack
  pub ready : HasNoReplyLeft replies new

-- it stands where the course does after the replies that are used
pub record IsGoing (program : Program) (code : Code) (replies : List Reply) (going : Going) : Type 0 where
  pub used : going.used ≤ length replies
  pub at : IsAt (after_replies (course_of program code.rank) (take going.used replies)) code going.found going.stack

-- the code is the program's, the replies were in shape; once the next call was handed out, no reply is left
pub record IsMachineAt (program : Program) (code : Code) (replies : List Reply) (asked : Bool) (going : Option Going) : Type 0 where
  pub functions : map pure_function code.functions.now ≡ program.functions
  pub member : code.rank.number < code.rank.ranks
  pub few : code.rank.ranks ≤ MOST_RANKS
  pub shaped : course_after program code.rank.ranks code.rank.number replies ≡ after_replies (course_of program code.rank) replies
  pub stands : (g : Going) → going ≡ Some g → IsGoing program code replies g
  pub ready : asked ≡ true → (g : Going) × (going ≡ Some g) × HasNoReplyLeft replies g

-- what is wanted there
abbrev pub IsWantAt : Reached → State → Want → Type 0
IsWantAt (Asks question) s want = want ≡ Ask (question_call question s)
IsWantAt Over s want = want ≡ Ended
IsWantAt Done s want = ⊥

-- something was kept, and what is wanted is known
abbrev pub HasKnownWant : Option Going → Type 0
HasKnownWant None = ⊥
HasKnownWant (Some going) = going.found ≢ Done

-- what is wanted where it was kept
abbrev pub TellsKept : Option Going → Want → Type 0
TellsKept None want = ⊥
TellsKept (Some going) want = IsWantAt going.found going.stack.state want
