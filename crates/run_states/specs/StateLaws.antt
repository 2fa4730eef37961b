-- What holds of histories that leave the same to their future.
use Rattle.std.specs.Prelude.{◌≡◌, ◌<◌, ◌⊎◌, ℕ, List, [], ◌∷◌, ◌++◌, Option, None, true}
use Rattle.mpi_call.specs.declared.call.Call.{Call}
use Rattle.mpi_call.specs.declared.call.Halt.{Halt}
use Rattle.mpi_call.specs.declared.reply.Reply.TheVariants.{Stopped}
use Rattle.mpi_call.specs.Lists.{IsIn}
use Rattle.run_model.specs.declared.event.Event.{Event}
use Rattle.run_model.specs.Allowed.{can_go, flags_of}
use Rattle.run_model.specs.Chosen.{got_of, order_of}
use Rattle.run_model.specs.Due.{due, halt_of_reply, halted}
use Rattle.run_model.specs.Lists.{Along}
use Rattle.run_model.specs.Run.{IsPromptRun}
use Rattle.run_model.specs.Serial.{call_after}
use Rattle.run_model.specs.Views.{Next, moment_at, view_of}
use Rattle.picked_runs.specs.declared.turn.Pick.{Pick}
use Rattle.picked_runs.specs.Picks.{has_pick, picked_event}
use Rattle.picked_runs.specs.Numbering.{AreNumberedInOrder}
use Rattle.srr_entry.specs.Outputs.{Output}
use Rattle.run_states.specs.Futures.{SameEvent, SameFuture}
use Rattle.run_states.specs.Outcomes.{IsPatientEvent, IsProbeKept, IsWholeRun, RunOutcome, halted_outcome, outcome_of_run}
use Rattle.run_states.specs.Moves.{AreClosed, IsHalting, IsVisited, IsMove, IsPickSettled}

-- after two histories the same halt is due, the same starts are ready and give the same, the same calls can go, and the same can be picked
pub record AnswerAlike (n : ℕ) (one other : List Event) : Type 0 where
  pub due : (me : ℕ) (call : Call) → due n one me (view_of one me) call ≡ due n other me (view_of other me) call
  pub flags : (me : ℕ) (starts : List ℕ) → flags_of (moment_at n one me) starts ≡ flags_of (moment_at n other me) starts
  pub gots : (me k : ℕ) (start : Option Call) → got_of (moment_at n one me) k start ≡ got_of (moment_at n other me) k start
  pub goes : (me : ℕ) (call : Call) → can_go n one me (view_of one me) call ≡ can_go n other me (view_of other me) call
  pub offered : (me : ℕ) (call : Call) (pick : Pick) → has_pick n one me call pick ≡ has_pick n other me call pick

-- of runs that leave the same
abbrev pub FuturesAnswerAlike : Next → ℕ → Type 0
FuturesAnswerAlike next n =
    (one other : List Event) → IsPromptRun next n one → IsPromptRun next n other → SameFuture n one other → AnswerAlike n one other

-- a pick that can be made, and leaves nothing to the order of events, makes the same event after both, and they then leave the same
pub record GoOnAlike (n : ℕ) (one other : List Event) (me : ℕ) (call : Call) (pick : Pick) : Type 0 where
  pub event : SameEvent one other (picked_event n one me call pick) (picked_event n other me call pick)
  pub future : SameFuture n (one ++ picked_event n one me call pick ∷ []) (other ++ picked_event n other me call pick ∷ [])

-- of runs that leave the same
abbrev pub FuturesGoOnAlike : Next → ℕ → Type 0
FuturesGoOnAlike next n =
    (one other : List Event) (me : ℕ) (call : Call) (pick : Pick) → IsPromptRun next n one → IsPromptRun next n other → SameFuture n one other
    → has_pick n one me call pick ≡ true → IsPickSettled n one me call pick → GoOnAlike n one other me call pick

-- a run that goes on from one history has its like, which goes on from the other: by the same ranks in the same order; it leaves the same,
-- comes to the same, and keeps its probes if the first does
pub record HasLike (next : Next) (output : Output) (n : ℕ) (one other more : List Event) : Type 0 where
  pub rest : List Event
  pub run : IsPromptRun next n (other ++ rest)
  pub numbered : AreNumberedInOrder n (other ++ rest)
  pub order : order_of rest ≡ order_of more
  pub future : SameFuture n (one ++ more) (other ++ rest)
  pub outcome : outcome_of_run output n (one ++ more) ≡ outcome_of_run output n (other ++ rest)
  pub probes : Along IsProbeKept one more → Along IsProbeKept other rest

-- of runs that leave the same
abbrev pub FuturesAreSame : Next → Output → ℕ → Type 0
FuturesAreSame next output n =
    (one other more : List Event) → IsPromptRun next n (one ++ more) → AreNumberedInOrder n (one ++ more) → IsPromptRun next n other → AreNumberedInOrder n other
    → SameFuture n one other → HasLike next output n one other more

-- a step after a history is a move, or a call that is answered by a halt
pub record IsMadeStep (next : Next) (n : ℕ) (before : List Event) (event : Event) : Type 0 where
  pub pick : Pick
  pub made : event ≡ picked_event n before event.rank event.call pick
  pub moves : halt_of_reply event.reply ≡ None → IsMove next n before event.rank event.call pick
  pub halts : (halt : Halt) → event.reply ≡ Stopped halt → IsHalting next (moment_at n before event.rank) event.call pick halt

-- each step of a run is, so what can come of a history comes of what its moves and its halts make
abbrev pub EveryStepIsMade : Next → ℕ → Type 0
EveryStepIsMade next n =
    (before after : List Event) (event : Event) → IsPromptRun next n (before ++ event ∷ after) → AreNumberedInOrder n (before ++ event ∷ after)
    → IsMadeStep next n before event

-- histories that are closed under the moves that keep probes have met each run from the first of them on that keeps them, up to its first
-- halt. The first may be the empty one
abbrev pub EveryRunIsMet : Next → ℕ → Type 0
EveryRunIsMet next n =
    (root more : List Event) (visited : List (List Event)) → AreClosed next n root IsProbeKept visited
    → IsPromptRun next n (root ++ more) → AreNumberedInOrder n (root ++ more) → Along IsProbeKept root more → halted (root ++ more) ≡ None
    → IsVisited n visited (root ++ more)

-- a step that keeps probes and is patient
abbrev pub IsPatientStep : ℕ → List Event → Event → Type 0
IsPatientStep most before event = IsProbeKept before event × IsPatientEvent most before event

-- those that are closed under the patient ones of these moves have met each run that is patient from there on
abbrev pub EveryPatientRunIsMet : Next → ℕ → Type 0
EveryPatientRunIsMet next n =
    (most : ℕ) (root more : List Event) (visited : List (List Event)) → AreClosed next n root (IsPatientStep most) visited
    → IsPromptRun next n (root ++ more) → AreNumberedInOrder n (root ++ more) → Along (IsPatientStep most) root more → halted (root ++ more) ≡ None
    → IsVisited n visited (root ++ more)

-- a run that has ended, and was first halted after these events, comes to what they and the halt decide
abbrev pub HaltsDecideOutcomes : Next → Output → ℕ → Type 0
HaltsDecideOutcomes next output n =
    (before after : List Event) (event : Event) (halt : Halt) → IsPromptRun next n (before ++ event ∷ after)
    → ((rank : ℕ) → rank < n → call_after next n (before ++ event ∷ after) rank ≡ None)
    → halted before ≡ None → event.reply ≡ Stopped halt
    → outcome_of_run output n (before ++ event ∷ after) ≡ halted_outcome next output n before halt

-- a history after which each rank has ended comes to this
pub record EndsInOutcome (next : Next) (output : Output) (n : ℕ) (events : List Event) (outcome : RunOutcome) : Type 0 where
  pub ended : (rank : ℕ) → rank < n → call_after next n events rank ≡ None
  pub outcome_is : outcome ≡ outcome_of_run output n events

-- a history after which a call is answered by a halt comes to this
pub record HaltsWith (next : Next) (output : Output) (n : ℕ) (events : List Event) (outcome : RunOutcome) : Type 0 where
  pub rank : ℕ
  pub call : Call
  pub pick : Pick
  pub halt : Halt
  pub halting : IsHalting next (moment_at n events rank) call pick halt
  pub outcome_is : outcome ≡ halted_outcome next output n events halt

-- one of these histories comes to this
abbrev pub IsOutcomeMet : Next → Output → ℕ → List (List Event) → RunOutcome → Type 0
IsOutcomeMet next output n visited outcome =
    (one : List Event) × IsIn one visited × (EndsInOutcome next output n one outcome ⊎ HaltsWith next output n one outcome)

-- histories that are closed under the moves that keep probes come to what each whole run from the first of them on comes to
abbrev pub EveryOutcomeIsMet : Next → Output → ℕ → Type 0
EveryOutcomeIsMet next output n =
    (root more : List Event) (visited : List (List Event)) → AreClosed next n root IsProbeKept visited
    → IsWholeRun next n (root ++ more) → halted root ≡ None → IsOutcomeMet next output n visited (outcome_of_run output n (root ++ more))

-- those that are closed under the patient ones of these moves come to what each does that is patient from there on
abbrev pub EveryPatientOutcomeIsMet : Next → Output → ℕ → Type 0
EveryPatientOutcomeIsMet next output n =
    (most : ℕ) (root more : List Event) (visited : List (List Event)) → AreClosed next n root (IsPatientStep most) visited
    → IsWholeRun next n (root ++ more) → Along (IsPatientEvent most) root more → halted root ≡ None
    → IsOutcomeMet next output n visited (outcome_of_run output n (root ++ more))
