-- The list of replies.
use Rattle.std.specs.Prelude.{◌≡◌, List, [], ◌∷◌, Option, Some, None}
use Rattle.mpi_call.specs.declared.reply.Reply.{Reply}

-- what the next reply is, and what is left of the list
abbrev pub IsNextReply : Option Reply → List Reply → List Reply → Type 0
IsNextReply None old new = (old ≡ []) × (new ≡ [])
IsNextReply (Some reply) old new = old ≡ reply ∷ new
