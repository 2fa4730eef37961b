-- What a whole run comes to, and which whole runs are told apart.
use Rattle.std.specs.Prelude.{◌≡◌, ◌<◌, ℕ, suc, List, [], ◌∷◌, ◌++◌, Option, Some, None, Bool, map}
use Rattle.mpi_call.specs.declared.call.Call.{Call}
use Rattle.mpi_call.specs.declared.call.Call.TheVariants.{Post, Peek}
use Rattle.mpi_call.specs.declared.call.Halt.{Halt}
use Rattle.mpi_call.specs.declared.call.Halt.TheVariants.{Aborted, Trapped, Truncated, Mismatched, BadRequest, Stuck}
use Rattle.mpi_call.specs.declared.call.Source.{Source}
use Rattle.mpi_call.specs.declared.call.Tag.{Tag}
use Rattle.mpi_call.specs.declared.reply.Reply.{Reply}
use Rattle.mpi_call.specs.declared.reply.Reply.TheVariants.{Done, NotYet, Peeked, Stopped}
use Rattle.run_model.specs.declared.ending.Ending.{Ending}
use Rattle.run_model.specs.declared.ending.Ending.TheVariants.{Finished, Halted}
use Rattle.run_model.specs.declared.event.Event.{Event}
use Rattle.run_model.specs.Endings.{ending_of}
use Rattle.run_model.specs.Lists.{Along, world}
use Rattle.run_model.specs.Run.{IsPromptRun}
use Rattle.run_model.specs.Serial.{call_after}
use Rattle.run_model.specs.Views.{Next, View, replies_in, view_of}
use Rattle.picked_runs.specs.Numbering.{AreNumberedInOrder}
use Rattle.srr_entry.specs.Outputs.{Output}
use Rattle.run_states.specs.Futures.{mate_name}

-- how a run ended, and what ranks printed, each with its rank
pub record RunOutcome : Type 0 where
  pub ending : Ending
  pub printed : List (ℕ × List ℕ)

-- the ranks whose outputs tell a run with this ending from others: all of them where no rank was stopped on its way, else the one that
-- brought the halt; what others had printed by then is chance
abbrev pub reported_ranks : ℕ → Ending → List ℕ
reported_ranks n Finished = world n 0
reported_ranks n (Halted Stuck) = world n 0
reported_ranks n (Halted (Aborted rank code)) = rank ∷ []
reported_ranks n (Halted (Trapped rank fault)) = rank ∷ []
reported_ranks n (Halted (Truncated rank start)) = rank ∷ []
reported_ranks n (Halted (BadRequest rank start)) = rank ∷ []
reported_ranks n (Halted halt) = []

-- the ending as it is told: that of a mismatch without its rank, which is whoever entered second
abbrev pub reported_ending : Ending → Ending
reported_ending (Halted (Mismatched rank)) = Halted (Mismatched 0)
reported_ending ending = ending

-- what a run comes to
abbrev pub outcome_of_run : Output → ℕ → List Event → RunOutcome
outcome_of_run output n run =
    record {
      ending = reported_ending (ending_of run);
      printed = map (λ rank. (rank, output n rank (replies_in (view_of run rank)))) (reported_ranks n (ending_of run));
    }

-- a receive that a rank posts right after a probe which asked for the same takes the message that the probe found
-- (MPI 3.1, Point-to-Point Communication, "Probe".)
abbrev pub IsProbeKept : List Event → Event → Type 0
IsProbeKept before event =
    (earlier : View) (comm : ℕ) (source : Source) (tag : Tag) (wait : Bool) (room sender start sent count : ℕ)
    → view_of before event.rank ≡ earlier ++ (Peek comm source tag wait, Peeked sender start sent count) ∷ []
    → event.call ≡ Post comm source tag room → event.reply ≡ Done
    → mate_name before event.mate ≡ Some (sender, start)

-- each such receive of a run does
abbrev pub KeepsProbes : List Event → Type 0
KeepsProbes run = Along IsProbeKept [] run

-- a run in which nothing is late and each rank has ended, with a recording machine's numbers
pub record IsWholeRun (next : Next) (n : ℕ) (events : List Event) : Type 0 where
  pub run : IsPromptRun next n events
  pub ended : (rank : ℕ) → rank < n → call_after next n events rank ≡ None
  pub numbered : AreNumberedInOrder n events
  pub probes : KeepsProbes events

-- how many of a view's last replies are NotYet, one after the other, where so many stood before it
abbrev pub vain_after : ℕ → View → ℕ
vain_after count [] = count
vain_after count ((call, NotYet) ∷ view) = vain_after (suc count) view
vain_after count ((call, reply) ∷ view) = vain_after 0 view

-- the same, of a whole view
abbrev pub vain_in : View → ℕ
vain_in view = vain_after 0 view

-- a rank that is answered NotYet was not answered so as many times in a row before
abbrev pub IsPatientEvent : ℕ → List Event → Event → Type 0
IsPatientEvent most before event = event.reply ≡ NotYet → vain_in (view_of before event.rank) < most

-- no rank of a run looks in vain more than so many times in a row
abbrev pub IsPatient : ℕ → List Event → Type 0
IsPatient most run = Along (IsPatientEvent most) [] run

-- the replies of a rank that gets this halt to its next call, if it has one
abbrev pub replies_and : List Reply → Halt → Option Call → List Reply
replies_and replies halt None = replies
replies_and replies halt (Some call) = replies ++ Stopped halt ∷ []

-- the replies of a rank where nothing but this halt comes any more
abbrev pub last_replies : Next → ℕ → List Event → Halt → ℕ → List Reply
last_replies next n before halt rank = replies_and (replies_in (view_of before rank)) halt (call_after next n before rank)

-- what a run comes to that goes so far, and then is halted
abbrev pub halted_outcome : Next → Output → ℕ → List Event → Halt → RunOutcome
halted_outcome next output n before halt =
    record {
      ending = reported_ending (Halted halt);
      printed = map (λ rank. (rank, output n rank (last_replies next n before halt rank))) (reported_ranks n (Halted halt));
    }
