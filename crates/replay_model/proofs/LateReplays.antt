-- Replays that make the late runs again, from their logs: in the order of the run, and once in another.
use Rattle.std.proofs.Common.{◌≡◌, ℕ, List, [], ◌∷◌, ◌++◌, Option, Some, None, true, pos, refl}
use Rattle.std.specs.Prelude.{map}
use Rattle.std.specs.List.{list_all}
use Rattle.std.proofs.lemmas.Bool.{and_parts}
use Rattle.mpi_call.specs.declared.call.Call.{Call}
use Rattle.mpi_call.specs.declared.call.Call.TheVariants.{End}
use Rattle.mpi_call.specs.declared.call.Source.TheVariants.{Any}
use Rattle.mpi_call.specs.declared.reply.Reply.TheVariants.{Done}
use Rattle.mpi_call.specs.Collectives.{is_member}
use Rattle.run_model.specs.declared.event.Event.{Event}
use Rattle.run_model.specs.Lists.{Along}
use Rattle.run_model.specs.Views.{Next, replies_in, view_of}
use Rattle.srr_entry.specs.declared.log.Log.{Log}
use Rattle.replay_model.specs.declared.step.Step.{Step}
use Rattle.replay_model.specs.declared.step.Step.TheVariants.{Replied}
use Rattle.replay_model.specs.Fits.{entry_fits}
use Rattle.replay_model.specs.Replays.{IsReplayStep, Replays, replay_answer, replied_event}
use Rattle.replay_model.proofs.TablePrograms.{asks}
use Rattle.replay_model.proofs.LateRuns.{barrier, crooked, crooked_calls, flight, flight_calls, given, late, late_calls, left, message, receive, take_one, waiting, waiting_calls, whole_log}

-- what a replay has of an event: no pair is told
abbrev bare : Event → Event
bare event = replied_event event.rank event.call event.reply

-- the calls that the program makes, and the answers of the log, after the events before
abbrev asked_along : Next → ℕ → List Event → List Event → List (Option Call)
asked_along next n before [] = []
asked_along next n before (event ∷ events) = next n event.rank (replies_in (view_of before event.rank)) ∷ asked_along next n (before ++ bare event ∷ []) events

abbrev answered_along : Log → List Event → List Event → List Step
answered_along log before [] = []
answered_along log before (event ∷ events) =
    replay_answer log None (view_of before) event.rank (view_of before event.rank) event.call ∷ answered_along log (before ++ bare event ∷ []) events

replays_along : (next : Next) (log : Log) (before events : List Event) → list_all (λ (event : Event). is_member log.group event.rank) events ≡ true
    → asked_along next log.ranks before events ≡ map (λ (event : Event). Some event.call) events
    → answered_along log before events ≡ map (λ (event : Event). Replied event.reply) events → Along (IsReplayStep next log None) before (map bare events)
replays_along next log before [] members asked answered = tt
replays_along next log before (event ∷ events) members asked answered =
    let parts = and_parts (is_member log.group event.rank) (list_all (λ (event : Event). is_member log.group event.rank) events) members in
    let call : next log.ranks event.rank (replies_in (view_of before event.rank)) ≡ Some event.call = cc in
    let calls : asked_along next log.ranks (before ++ bare event ∷ []) events ≡ map (λ (event : Event). Some event.call) events = cc in
    let reply : replay_answer log None (view_of before) event.rank (view_of before event.rank) event.call ≡ Replied event.reply = cc in
    let replies : answered_along log (before ++ bare event ∷ []) events ≡ map (λ (event : Event). Replied event.reply) events = cc in
    (record { member = parts.0; call = call; reply = reply; mate = refl; alone = refl }, replays_along next log (before ++ bare event ∷ []) events parts.1 calls replies)

crooked_again : Replays (asks crooked_calls) (whole_log crooked) None (map bare crooked)
unfolding entry_fits
crooked_again = replays_along (asks crooked_calls) (whole_log crooked) [] crooked refl refl refl

-- in another order: rank 0 goes first, and leaves the barrier last
abbrev crooked_other : List Event
crooked_other =
    replied_event 0 (message 1 1 (pos 100)) Done
    ∷ replied_event 0 barrier Done
    ∷ replied_event 2 barrier Done
    ∷ replied_event 1 (receive Any 1) Done
    ∷ replied_event 1 barrier Done
    ∷ replied_event 1 (take_one 1) left
    ∷ replied_event 1 (receive Any 1) Done
    ∷ replied_event 1 (take_one 2) (given 0 0 1 (pos 100))
    ∷ replied_event 2 (take_one 0) left
    ∷ replied_event 2 (message 1 1 (pos 200)) Done
    ∷ replied_event 2 End Done
    ∷ replied_event 1 (take_one 0) (given 2 1 1 (pos 200))
    ∷ replied_event 1 End Done
    ∷ replied_event 0 (take_one 1) left
    ∷ replied_event 0 End Done
    ∷ []

crooked_other_again : Replays (asks crooked_calls) (whole_log crooked) None crooked_other
unfolding entry_fits
crooked_other_again = replays_along (asks crooked_calls) (whole_log crooked) [] crooked_other refl refl refl

waiting_again : Replays (asks waiting_calls) (whole_log waiting) None (map bare waiting)
unfolding entry_fits
waiting_again = replays_along (asks waiting_calls) (whole_log waiting) [] waiting refl refl refl

late_again : Replays (asks late_calls) (whole_log late) None (map bare late)
unfolding entry_fits
late_again = replays_along (asks late_calls) (whole_log late) [] late refl refl refl

flight_again : Replays (asks flight_calls) (whole_log flight) None (map bare flight)
unfolding entry_fits
flight_again = replays_along (asks flight_calls) (whole_log flight) [] flight refl refl refl
