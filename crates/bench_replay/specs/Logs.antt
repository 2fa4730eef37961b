-- The log of the script's run on two ranks, for the group of both.
use Rattle.std.specs.Prelude.{ℕ, zero, suc, List, [], ◌∷◌, ◌++◌, replicate}
use Rattle.srr_entry.specs.declared.entry.Entry.{Entry}
use Rattle.srr_entry.specs.declared.entry.Entry.TheVariants.{Sent, Posted, Ended, Took}
use Rattle.srr_entry.specs.declared.entry.Mark.TheVariants.{Inside}
use Rattle.srr_entry.specs.declared.log.Log.{Log}

-- the entry of a receive that took the message of a start
abbrev pub took : ℕ → Entry
took start = Took ((record { index = 0; mark = Inside 0 start }) ∷ [])

-- rank 1's entries for a number of messages
abbrev pub receives : ℕ → List Entry
receives zero = []
receives (suc start) = receives start ++ Posted ∷ took start ∷ []

-- the log of the script with so many messages
abbrev pub log_of : ℕ → Log
log_of messages = record {
  ranks = 2;
  group = 0 ∷ 1 ∷ [];
  program = [];
  lists = (replicate messages Sent ++ Ended ∷ []) ∷ (receives messages ++ Ended ∷ []) ∷ [];
}
