-- Where a rank stands that evaluates anew at each call.
use Rattle.std.specs.Prelude.{◌≡◌, ◌<◌, ◌≤◌, List, Bool, true}
use Rattle.mpi_call.specs.declared.limits.TheConstants.{MOST_RANKS}
use Rattle.mpi_call.specs.declared.reply.Reply.{Reply}
use Rattle.run_model.specs.declared.program.Want.{Want}
use Rattle.run_model.specs.declared.program.Want.TheVariants.{Ask, Ended}
use Rattle.c_program.specs.declared.effect.Rank.{Rank}
use Rattle.c_program.specs.Courses.{Course, Over, after_replies, state_in}
use Rattle.c_program.specs.Meaning.{course_of}
use Rattle.c_program.specs.Program.{course_after}
use Rattle.c_program.specs.State.{State}
use Rattle.c_program.specs.Tree.{Program}
use Rattle.c_eval.specs.Evaluated.{AsksFrom}

-- the course makes this call next, from this state, or is over there
abbrev pub Wants : Course → Want → State → Type 0
Wants course (Ask call) s = AsksFrom course call s
Wants course Ended s = course ≡ Over s

-- the replies were in shape, and the state is that of the last call that was asked for
pub record IsRankAt (program : Program) (rank : Rank) (replies : List Reply) (asked : Bool) (state : State) : Type 0 where
  pub member : rank.number < rank.ranks
  pub few : rank.ranks ≤ MOST_RANKS
  pub shaped : course_after program rank.ranks rank.number replies ≡ after_replies (course_of program rank) replies
  pub stands : asked ≡ true → state_in (after_replies (course_of program rank) replies) ≡ state
