-- What the evaluation of a statement comes to.
use Rattle.std.specs.Prelude.{List, Result}
use Rattle.mpi_call.specs.declared.reply.Reply.{Reply}
use Rattle.c_program.specs.Meaning.{Exits, Meaning}
use Rattle.c_program.specs.Performing.{Onward}
use Rattle.c_program.specs.State.{State}
use Rattle.c_eval.specs.declared.outcome.Stop.{Stop}
use Rattle.c_eval.specs.Evaluated.{Evaluated}
use Rattle.c_eval.specs.declared.flow.Flow.{Flow}
use Rattle.c_eval.specs.declared.flow.Flow.TheVariants.{Next, Broke, Again, Back}

-- with the ways out of statements
abbrev pub exit : Exits → Flow → Onward
exit k Next = k.next
exit k Broke = k.broke
exit k Again = k.again
exit k (Back v) = k.back v

-- a meaning comes to a way out, with replies left, or stops
abbrev pub Leaves : Meaning → State → List Reply → Result Flow Stop → State → List Reply → Type 0
Leaves m s rest result t rest' = Evaluated exit m s rest result t rest'
