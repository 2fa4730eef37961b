-- What a rank asks, and what follows on the reply.
use Rattle.std.specs.Prelude.{pos}
use Rattle.mpi_call.specs.declared.call.Call.{Call}
use Rattle.mpi_call.specs.declared.call.Call.TheVariants.{Take, Peek, Abort as AbortCall, Trap as TrapCall, End as EndCall}
use Rattle.mpi_call.specs.declared.reply.Reply.{Reply}
use Rattle.c_program.specs.declared.effect.Into.TheVariants.{Nowhere}
use Rattle.c_program.specs.declared.effect.Rank.{Rank}
use Rattle.c_program.specs.Courses.{Course, Asks, Over as OverCourse}
use Rattle.c_program.specs.Meaning.{Passing}
use Rattle.c_program.specs.Performing.{Onward, active_in, after_take, begun, begun_by, completing_of, enter_call, first_got, number_of_next, post_call, probed, put_message, put_result, receiving, reply_items, send_call, sending, sent, start_call, starts_in, take_one, taking_message, taking_result, with_communicators}
use Rattle.c_program.specs.State.{State, put_some}
use Rattle.c_run_replies.specs.declared.question.Question.{Question}
use Rattle.c_run_replies.specs.declared.question.Question.TheVariants.{Starts, Sends, Receives, SendsAfter, TakesMessage, Completes, Probes, Joins, TakesResult, Trap, Abort, End}
use Rattle.c_run_replies.specs.declared.question.Reached.{Reached}
use Rattle.c_run_replies.specs.declared.question.Reached.TheVariants.{Done, Asks as AsksQuestion, Over}

-- the call
abbrev pub question_call : Question → State → Call
question_call (Starts start request) s = start_call start s
question_call (Sends message) s = send_call message s
question_call (Receives receive send status) s = post_call receive
question_call (SendsAfter message awaited) s = send_call message s
question_call (TakesMessage awaited) s = take_one awaited.number
question_call (Completes requests mode answer) s = Take (starts_in (active_in requests s)) mode
question_call (Probes comm source tag waits flag status) s = Peek comm source tag waits
question_call (Joins j) s = enter_call j s
question_call (TakesResult into number) s = take_one number
question_call (Trap fault) s = TrapCall fault
question_call (Abort code) s = AbortCall code
question_call End s = EndCall

-- what follows on a reply that does not end the rank
abbrev pub replied : Rank → Question → Reply → State → Onward → Course
replied rank (Starts start request) reply s go = go (put_some request (pos (number_of_next s)) (begun (begun_by start) s))
replied rank (Sends message) reply s go = taking_result Nowhere (number_of_next s) (begun (sent message.comm) s) go
replied rank (Receives receive send status) reply s go = sending send (begun (receiving receive) s) (λ t. taking_message rank.ranks receive (number_of_next s) status t go)
replied rank (SendsAfter message awaited) reply s go = taking_message rank.ranks awaited.receive awaited.number awaited.status (begun (sent message.comm) s) go
replied rank (TakesMessage awaited) reply s go = put_message rank.ranks (receiving awaited.receive) awaited.status (first_got (reply_items reply)) (with_communicators (reply_items reply) s) go
replied rank (Completes requests mode answer) reply s go = after_take (completing_of rank.ranks requests mode answer) (active_in requests s) reply s go
replied rank (Probes comm source tag waits flag status) reply s go = go (probed rank.ranks comm flag status reply s)
replied rank (Joins j) reply s go = taking_result j.into (number_of_next s) (begun (sent j.comm) s) go
replied rank (TakesResult into number) reply s go = go (put_result into (first_got (reply_items reply)) (with_communicators (reply_items reply) s))
replied rank (Trap fault) reply s go = OverCourse s
replied rank (Abort code) reply s go = OverCourse s
replied rank End reply s go = OverCourse s

-- the question, with what follows
abbrev pub asks : Rank → Question → Passing
asks rank question s go = Asks s (question_call question s) (λ reply. replied rank question reply s go)

-- where a rank has come to: it goes on, asks, or is over
abbrev pub reached : Rank → Reached → Passing
reached rank Done s go = go s
reached rank (AsksQuestion question) s go = asks rank question s go
reached rank Over s go = OverCourse s
