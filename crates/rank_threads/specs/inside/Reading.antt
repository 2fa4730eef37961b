-- How threads read a locked value: which ranks run which program, and what an entry of theirs says.
use Rattle.std.specs.Prelude.{◌≡◌, ℕ, List, [], ◌∷◌, ◌++◌, Bool, map}
use Rattle.mpi_call.specs.declared.reply.Reply.{Reply}
use Rattle.rank_threads.specs.declared.attempts.Attempt.{Attempt}
use Rattle.rank_threads.specs.declared.attempts.Attempt.TheVariants.{Replied}

-- of a frame, the program, the number of ranks, which ranks run, and the seat of each; of an entry, its reply
pub record FrameReading (P E F : Type 0) : Type 0 where
  pub program : F → P
  pub ranks : F → ℕ
  pub runs : F → ℕ → Bool
  pub seat : F → ℕ → ℕ
  pub reply : E → Reply

module _ {P E F : Type 0} (reading : FrameReading P E F) where
  -- the program
  abbrev pub program_of : F → P
  program_of f = reading.program f

  -- how many ranks there are
  abbrev pub ranks_of : F → ℕ
  ranks_of f = reading.ranks f

  -- whether this rank runs
  abbrev pub is_run : F → ℕ → Bool
  is_run f rank = reading.runs f rank

  -- the number of this rank's seat
  abbrev pub seat_of : F → ℕ → ℕ
  seat_of f rank = reading.seat f rank

  -- the replies of a seat's own entries
  abbrev pub replies_of : List (ℕ × E) → List Reply
  replies_of own = map (λ (e : ℕ × E). reading.reply e.1) own

  -- a reply is one more entry of the seat; another answer adds none
  abbrev pub AddsReply : ℕ → List (ℕ × E) → List (ℕ × E) → Attempt → Type 0
  AddsReply seat before after (Replied reply) = (e : E) × (reading.reply e ≡ reply) × (after ≡ before ++ (seat, e) ∷ [])
  AddsReply seat before after answer = after ≡ before
