-- What a search looks a history up by: it decides what the history leaves to its future.
use Rattle.std.specs.Prelude.{◌≡◌, ℕ, List, [], Option, length, map}
use Rattle.run_model.specs.declared.event.Event.{Event}
use Rattle.run_model.specs.Lists.{world}
use Rattle.run_model.specs.Numbers.{Origin, communicators_of}
use Rattle.run_model.specs.Pairs.{Name, pairs_of, partner_of}
use Rattle.run_model.specs.Run.{IsPromptRun}
use Rattle.run_model.specs.Views.{Next, starts_of, view_of}
use Rattle.srr_entry.specs.declared.entry.Entry.{Entry}
use Rattle.srr_entry.specs.Entries.{log_of}
use Rattle.run_states.specs.Futures.{SameFuture}

-- the partner of each start of a rank, in order
abbrev pub partners_in : List Event → ℕ → List (Option Name)
partners_in events rank = map (λ k. partner_of (pairs_of events) (rank, k)) (world (length (starts_of (view_of events rank))) 0)

-- each rank's entries in the log of all ranks, which names messages and does not hold them; the partners of each rank's starts; the
-- communicators that were made
pub record Key : Type 0 where
  pub entries : List (List Entry)
  pub partners : List (List (Option Name))
  pub made : List Origin

-- the key of a history of n ranks
abbrev pub state_key : ℕ → List Event → Key
state_key n events =
    record {
      entries = (log_of [] n events (world n 0)).lists;
      partners = map (partners_in events) (world n 0);
      made = communicators_of n events;
    }

-- runs of one key leave the same
abbrev pub KeysFixFutures : Next → ℕ → Type 0
KeysFixFutures next n =
    (one other : List Event) → IsPromptRun next n one → IsPromptRun next n other → state_key n one ≡ state_key n other → SameFuture n one other

-- and histories that leave the same have one key
abbrev pub FuturesFixKeys : ℕ → Type 0
FuturesFixKeys n = (one other : List Event) → SameFuture n one other → state_key n one ≡ state_key n other
