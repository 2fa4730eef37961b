-- Moves, and calls that are answered by a halt, are the same after histories that leave the same.
use Rattle.std.proofs.Common.{◌≡◌, ◌∙◌, ◌⊎◌, ℕ, List, inl, inr, ap, sym, true}
use Rattle.mpi_call.specs.declared.call.Call.{Call}
use Rattle.mpi_call.specs.declared.call.Halt.{Halt}
use Rattle.run_model.specs.declared.event.Event.{Event}
use Rattle.run_model.specs.Allowed.{IsStuck, can_go}
use Rattle.run_model.specs.Due.{halt_of_reply}
use Rattle.run_model.specs.Serial.{call_after}
use Rattle.run_model.specs.Views.{Next, View, moment_at, replies_in, view_of}
use Rattle.picked_runs.specs.declared.turn.Pick.{Pick}
use Rattle.picked_runs.specs.Picks.{picked_event}
use Rattle.run_states.specs.Futures.{SameEvent, SameFuture}
use Rattle.run_states.specs.Moves.{IsHalting, IsMove}
use Rattle.run_states.proofs.Alike.{Alike, goes_same}
use Rattle.run_states.proofs.Offers.{offered_same, settled_same}
use Rattle.run_states.proofs.Events.{events_same}

pub asks_same : (next : Next) (n : ℕ) (one other : List Event) (rank : ℕ) → SameFuture n one other → call_after next n one rank ≡ call_after next n other rank
asks_same next n one other rank same = ap (λ (v : View). next n rank (replies_in v)) (same.views rank)

own_goes : (n : ℕ) (one other : List Event) → Alike n one other → (me : ℕ) (call : Call)
    → can_go n one me (view_of one me) call ≡ can_go n other me (view_of other me) call
own_goes n one other a me call =
    goes_same n one other a me (view_of one me) call ∙ ap (λ (v : ℕ → View). can_go n other me (v me) call) a.views

pub move_same : (next : Next) (n : ℕ) (one other : List Event) (rank : ℕ) (call : Call) (pick : Pick) → SameFuture n one other → Alike n one other
    → IsMove next n one rank call pick → IsMove next n other rank call pick
move_same next n one other rank call pick same a move =
    let event : SameEvent one other (picked_event n one rank call pick) (picked_event n other rank call pick) =
    events_same n one other same a rank call pick move.offered move.settled in
    record {
      below = move.below;
      asked = sym (asks_same next n one other rank same) ∙ move.asked;
      offered = sym (offered_same n one other same a rank call pick) ∙ move.offered;
      settled = settled_same n one other same a rank call pick move.settled;
      free = sym (ap halt_of_reply event.reply) ∙ move.free;
    }

stuck_same : (next : Next) (n : ℕ) (one other : List Event) → SameFuture n one other → Alike n one other → IsStuck next n one → IsStuck next n other
stuck_same next n one other same a stuck rank call below asked =
    sym (own_goes n one other a rank call) ∙ stuck rank call below (asks_same next n one other rank same ∙ asked)

-- a call that can go, or that none can
pub goes_or_stuck_same : (next : Next) (n : ℕ) (one other : List Event) (rank : ℕ) (call : Call) → SameFuture n one other → Alike n one other
    → (can_go n one rank (view_of one rank) call ≡ true) ⊎ IsStuck next n one → (can_go n other rank (view_of other rank) call ≡ true) ⊎ IsStuck next n other
goes_or_stuck_same next n one other rank call same a goes =
    elim goes [
      | inl t ↦ inl (sym (own_goes n one other a rank call) ∙ t)
      | inr s ↦ inr (stuck_same next n one other same a s)
    ]

pub halting_same : (next : Next) (n : ℕ) (one other : List Event) (rank : ℕ) (call : Call) (pick : Pick) (halt : Halt) → SameFuture n one other → Alike n one other
    → IsHalting next (moment_at n one rank) call pick halt → IsHalting next (moment_at n other rank) call pick halt
halting_same next n one other rank call pick halt same a h =
    let event : SameEvent one other (picked_event n one rank call pick) (picked_event n other rank call pick) =
    events_same n one other same a rank call pick h.offered h.settled in
    record {
      below = h.below;
      asked = sym (asks_same next n one other rank same) ∙ h.asked;
      offered = sym (offered_same n one other same a rank call pick) ∙ h.offered;
      settled = settled_same n one other same a rank call pick h.settled;
      halts = sym event.reply ∙ h.halts;
      goes = goes_or_stuck_same next n one other rank call same a h.goes;
    }
