-- Which messages a receive or a probe accepts: its envelope matches the message's.
-- (MPI 3.1, Point-to-Point Communication, "Message Envelope" and "Blocking Receive".)
use Rattle.std.specs.Prelude.{ℕ, Bool, true, false, ◌&&◌, ◌==◌, Option, Some, None}
use Rattle.mpi_call.specs.declared.call.Call.{Call}
use Rattle.mpi_call.specs.declared.call.Call.TheVariants.{Send}
use Rattle.mpi_call.specs.declared.call.Source.{Source}
use Rattle.mpi_call.specs.declared.call.Source.TheVariants.{Any, From, Null}
use Rattle.mpi_call.specs.declared.call.Tag.{Tag}
use Rattle.mpi_call.specs.declared.call.Tag.TheVariants.{Any as AnyTag, Is}

-- a sender is one that the source names; the null process names none
abbrev pub source_agrees : Source → ℕ → Bool
source_agrees Any sender = true
source_agrees (From source) sender = source == sender
source_agrees Null sender = false

-- a message's tag is the one asked for
abbrev pub tag_agrees : Tag → ℕ → Bool
tag_agrees AnyTag sent = true
tag_agrees (Is tag) sent = tag == sent

-- the tag that a receive names, None for any
abbrev pub tag_named : Tag → Option ℕ
tag_named AnyTag = None
tag_named (Is tag) = Some tag

-- a receive or probe of `rank` accepts this call of `sender`: a Send on its communicator, to it, from its source, with its tag
abbrev pub accepts : ℕ → ℕ → Source → Tag → ℕ → Call → Bool
accepts rank comm source tag sender (Send c dest t ints sync) =
    (c == comm) && ((dest == rank) && (source_agrees source sender && tag_agrees tag t))
accepts rank comm source tag sender call = false
