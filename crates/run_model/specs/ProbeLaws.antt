-- What a probe binds, in every run. (MPI 3.1, "Probe and Cancel": a receive with the source and tag that a probe returned receives the
-- message that the probe matched, if no other receive comes between.)
use Rattle.std.specs.Prelude.{◌≡◌, ◌<◌, ◌≤◌, ℕ, List, ◌∷◌, ◌++◌, Some, length}
use Rattle.mpi_call.specs.declared.call.Call.TheVariants.{Post}
use Rattle.mpi_call.specs.declared.call.Source.TheVariants.{From}
use Rattle.mpi_call.specs.declared.call.Tag.TheVariants.{Is}
use Rattle.mpi_call.specs.declared.reply.Reply.TheVariants.{Peeked}
use Rattle.run_model.specs.declared.event.Event.{Event}
use Rattle.run_model.specs.Pairs.{Name, PostAccepts, named, pairs_of, partner_of}
use Rattle.run_model.specs.Run.{IsRun}
use Rattle.run_model.specs.Views.{Next, starts_of, view_of}

-- a message that a probe found is there until the rank of the probe posts a receive for it: the receive that gets it is one of that
-- rank, posted after the probe
abbrev pub ProbeStays : Next → ℕ → Type 0
ProbeStays next n =
    (before after : List Event) (probe : Event) (source start tag count : ℕ) (post : Name)
    → IsRun next n (before ++ probe ∷ after) → probe.reply ≡ Peeked source start tag count
    → partner_of (pairs_of (before ++ probe ∷ after)) (source, start) ≡ Some post
    → (post.0 ≡ probe.rank) × (length (starts_of (view_of before probe.rank)) ≤ post.1)

-- a receive for a message that a probe found: the rank posts it after the probe, with the source and the tag that the probe returned,
-- it accepts the message, and no receive of the rank between the two does
pub record AsksForProbed (before events : List Event) (post send : Name) (tag : ℕ) : Type 0 where
  pub later : length (starts_of (view_of before post.0)) ≤ post.1
  pub comm : ℕ
  pub room : ℕ
  pub posted : named events post ≡ Some (Post comm (From send.0) (Is tag) room)
  pub takes : PostAccepts (named events) post send
  pub first : (other : ℕ) → length (starts_of (view_of before post.0)) ≤ other → other < post.1 → PostAccepts (named events) (post.0, other) send → ⊥

-- a receive for a message that a probe found gets no other
abbrev pub ReceiveGetsProbed : Next → ℕ → Type 0
ReceiveGetsProbed next n =
    (before after : List Event) (probe : Event) (source start tag count number : ℕ) (send : Name)
    → IsRun next n (before ++ probe ∷ after) → probe.reply ≡ Peeked source start tag count
    → AsksForProbed before (before ++ probe ∷ after) (probe.rank, number) (source, start) tag
    → partner_of (pairs_of (before ++ probe ∷ after)) (probe.rank, number) ≡ Some send
    → send ≡ (source, start)
