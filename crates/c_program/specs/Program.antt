-- A C program as a program: what its ranks do, have printed and hold, after the replies that they got.
use Rattle.std.specs.Prelude.{ℕ, List, [], Option}
use Rattle.mpi_call.specs.declared.call.Call.{Call}
use Rattle.mpi_call.specs.declared.reply.Reply.{Reply}
use Rattle.run_model.specs.declared.lists.Variable.{Variable}
use Rattle.c_program.specs.declared.effect.Rank.{Rank}
use Rattle.c_program.specs.Tree.{Program}
use Rattle.c_program.specs.Courses.{Course, call_in, shaped_after, state_in, variables_in}
use Rattle.c_program.specs.Meaning.{course_of}

-- rank `me` of n
abbrev pub rank_of : ℕ → ℕ → Rank
rank_of n me = record { ranks = n; number = me }

-- the course of a rank after some replies; one out of shape makes an end
abbrev pub course_after : Program → ℕ → ℕ → List Reply → Course
course_after program n me replies = shaped_after n me [] (course_of program (rank_of n me)) replies

-- the next call of a rank, if it makes one
abbrev pub next_of : Program → ℕ → ℕ → List Reply → Option Call
next_of program n me replies = call_in (course_after program n me replies)

-- what a rank has printed
abbrev pub output_of : Program → ℕ → ℕ → List Reply → List ℕ
output_of program n me replies = (state_in (course_after program n me replies)).printed

-- the listed variables of a rank
abbrev pub variables_of : Program → ℕ → ℕ → List Reply → List Variable
variables_of program n me replies = variables_in (course_after program n me replies)
