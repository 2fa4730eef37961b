-- What ranks print.
use Rattle.std.specs.Prelude.{ℕ, List}
use Rattle.mpi_call.specs.declared.reply.Reply.{Reply}
use Rattle.run_model.specs.declared.event.Event.{Event}
use Rattle.run_model.specs.Views.{replies_in, view_of}

-- what a program has printed before its next call: of the number of ranks, a rank, and the replies that it got
abbrev pub Output : Type 0
Output = ℕ → ℕ → List Reply → List ℕ

-- what a rank has printed after some events
abbrev pub printed_of : Output → ℕ → List Event → ℕ → List ℕ
printed_of output n events rank = output n rank (replies_in (view_of events rank))
