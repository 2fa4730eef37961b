-- What a search has looked at, and why nothing is missed once it has looked at every state.
use Rattle.std.specs.Prelude.{◌≡◌, ◌≢◌, ◌<◌, ◌⊎◌, ℕ, ℤ, List, [], ◌∷◌, ◌++◌, Some, None, Bool, true, false, All, map}
use Rattle.mpi_call.specs.declared.call.Call.{Call}
use Rattle.mpi_call.specs.declared.call.Halt.{Halt}
use Rattle.mpi_call.specs.declared.call.Halt.TheVariants.{Stuck}
use Rattle.mpi_call.specs.declared.reply.Reply.TheVariants.{Stopped}
use Rattle.mpi_call.specs.Lists.{IsIn}
use Rattle.run_model.specs.declared.event.Event.{Event}
use Rattle.run_model.specs.Allowed.{IsStuck, can_go}
use Rattle.run_model.specs.Due.{halt_of_reply, halted}
use Rattle.run_model.specs.Lists.{Along, IsPrefixOf}
use Rattle.run_model.specs.Run.{IsPromptRun}
use Rattle.run_model.specs.Serial.{call_after, next_can_go}
use Rattle.run_model.specs.Views.{Next, moment_at, view_of}
use Rattle.picked_runs.specs.declared.turn.Pick.{Pick}
use Rattle.picked_runs.specs.declared.turn.Pick.TheVariants.{First, Sender, Index}
use Rattle.picked_runs.specs.declared.turn.Turn.{Turn}
use Rattle.picked_runs.specs.Numbering.{AreNumberedInOrder}
use Rattle.picked_runs.specs.Picks.{has_pick, picked_event, picked_reply}
use Rattle.picked_runs.specs.Turns.{IsPickOf}
use Rattle.srr_entry.specs.Outputs.{Output}
use Rattle.run_states.specs.Codes.{key_code}
use Rattle.run_states.specs.Keys.{state_key}
use Rattle.run_states.specs.Moves.{IsHalting, IsVisited, IsMove}
use Rattle.run_states.specs.Outcomes.{IsPatientEvent, IsProbeKept, RunOutcome, halted_outcome, outcome_of_run}
use Rattle.explore.specs.declared.found.FoundOutcome.{FoundOutcome}
use Rattle.explore.specs.declared.met.Met.{Met}
use Rattle.explore.specs.Courses.{ComesTo, IsAnswered}
use Rattle.explore.specs.Explored.{OutcomesDiffer, IsFoundOutcome, IsListed, events_of_turns}

-- the histories of some states, each of which is kept as the turns that make it
abbrev pub histories : Next → ℕ → List (List Turn) → List (List Event)
histories next n states = map (events_of_turns next n) states

-- the code of a state's key
abbrev pub code_at : Next → ℕ → List Turn → List ℤ
code_at next n turns = key_code (state_key n (events_of_turns next n turns))

-- what a search is to answer: what the runs of a program on so many ranks come to, in which nothing is late and a rank looks in vain at most `polls`
-- times in a row
pub record Question : Type 0 where
  pub next : Next
  pub output : Output
  pub ranks : ℕ
  pub polls : ℕ

-- the question with these parts
abbrev pub question_of : Next → Output → ℕ → ℕ → Question
question_of next output n polls = record { next = next; output = output; ranks = n; polls = polls }

-- how far a search is: the states that it met, what it found, and whether a rank was held back
pub record Seen : Type 0 where
  pub states : List (List Turn)
  pub listed : List FoundOutcome
  pub polled : Bool

-- what was seen, of its parts
abbrev pub seen_of : List (List Turn) → List FoundOutcome → Bool → Seen
seen_of states listed polled = record { states = states; listed = listed; polled = polled }

-- what a search has seen that has met this
abbrev pub seen_by : Met → Seen
seen_by met = seen_of met.states met.found met.polled

-- where a move leads is met, or a rank was held back that is not patient
abbrev pub IsFollowed : Next → ℕ → ℕ → Seen → List Event → Event → Type 0
IsFollowed next n polls seen before event =
    IsVisited n (histories next n seen.states) (before ++ event ∷ []) ⊎ ((seen.polled ≡ true) × (IsPatientEvent polls before event → ⊥))

-- a state was looked at: each move that keeps its probe was followed; what each halt comes to is listed, and what the state itself comes to
-- where each rank has ended
pub record IsLookedAt (question : Question) (seen : Seen) (before : List Event) : Type 0 where
  pub moves : (rank : ℕ) (call : Call) (pick : Pick) → IsMove question.next question.ranks before rank call pick → IsProbeKept before (picked_event question.ranks before rank call pick)
      → IsFollowed question.next question.ranks question.polls seen before (picked_event question.ranks before rank call pick)
  pub halts : (rank : ℕ) (call : Call) (pick : Pick) (halt : Halt) → IsHalting question.next (moment_at question.ranks before rank) call pick halt
      → IsListed seen.listed (halted_outcome question.next question.output question.ranks before halt)
  pub ends : ((rank : ℕ) → rank < question.ranks → call_after question.next question.ranks before rank ≡ None) → IsListed seen.listed (outcome_of_run question.output question.ranks before)

-- every state was looked at, and the root is met
pub record IsSearched (question : Question) (root : List Event) (seen : Seen) : Type 0 where
  pub first : IsVisited question.ranks (histories question.next question.ranks seen.states) root
  pub looked : (turns : List Turn) → IsIn turns seen.states → IsLookedAt question seen (events_of_turns question.next question.ranks turns)

-- what is met stays met: states, outcomes, and that a rank was held back
pub record StaysMet (states states' : List (List Turn)) (listed listed' : List FoundOutcome) (polled polled' : Bool) : Type 0 where
  pub states_stay : IsPrefixOf states states'
  pub listed_stay : IsPrefixOf listed listed'
  pub polled_stays : polled ≡ true → polled' ≡ true

-- one turn was tried after a state, and was answered: its move was followed, or what its halt comes to is listed
pub record IsTried (question : Question) (seen : Seen) (before : List Event) (turn : Turn) : Type 0 where
  pub call : Call
  pub asked : call_after question.next question.ranks before turn.rank ≡ Some call
  pub offered : has_pick question.ranks before turn.rank call turn.pick ≡ true
  pub goes : turn.pick ≡ First → (can_go question.ranks before turn.rank (view_of before turn.rank) call ≡ true) ⊎ IsStuck question.next question.ranks before
  pub moves : halt_of_reply (picked_reply question.ranks before turn.rank call turn.pick) ≡ None → IsProbeKept before (picked_event question.ranks before turn.rank call turn.pick)
      → IsFollowed question.next question.ranks question.polls seen before (picked_event question.ranks before turn.rank call turn.pick)
  pub halts : (halt : Halt) → picked_reply question.ranks before turn.rank call turn.pick ≡ Stopped halt → IsListed seen.listed (halted_outcome question.next question.output question.ranks before halt)

-- it was not answered: the rank has ended, or its pick is not there, or its call cannot go
pub record IsUnanswered (next : Next) (n : ℕ) (before : List Event) (turn : Turn) : Type 0 where
  pub absent : (call : Call) → call_after next n before turn.rank ≡ Some call → turn.pick ≢ First → has_pick n before turn.rank call turn.pick ≡ false
  pub held : (call : Call) → call_after next n before turn.rank ≡ Some call → turn.pick ≡ First → can_go n before turn.rank (view_of before turn.rank) call ≡ false

-- the turns of a rank were tried that pick one of these; `made` tells whether one of them was answered
pub record ArePicksTried (question : Question) (seen : Seen) (before : List Event) (rank : ℕ) (IsOne : Pick → Type 0) (made : Bool) : Type 0 where
  pub moves : (call : Call) (pick : Pick) → IsOne pick → IsMove question.next question.ranks before rank call pick → IsProbeKept before (picked_event question.ranks before rank call pick)
      → IsFollowed question.next question.ranks question.polls seen before (picked_event question.ranks before rank call pick)
  pub halts : (call : Call) (pick : Pick) (halt : Halt) → IsOne pick → IsHalting question.next (moment_at question.ranks before rank) call pick halt
      → (pick ≡ First → can_go question.ranks before rank (view_of before rank) call ≡ true) → IsListed seen.listed (halted_outcome question.next question.output question.ranks before halt)
  pub absent : made ≡ false → (call : Call) (pick : Pick) → IsOne pick → call_after question.next question.ranks before rank ≡ Some call → pick ≢ First → has_pick question.ranks before rank call pick ≡ false
  pub held : made ≡ false → (call : Call) → IsOne First → call_after question.next question.ranks before rank ≡ Some call → can_go question.ranks before rank (view_of before rank) call ≡ false
  pub some : made ≡ true → (call : Call) × (pick : Pick) × IsOne pick × (call_after question.next question.ranks before rank ≡ Some call) × (has_pick question.ranks before rank call pick ≡ true)
  pub stuck : made ≡ true → IsStuck question.next question.ranks before → IsListed seen.listed (halted_outcome question.next question.output question.ranks before Stuck)

-- a sender below a count
abbrev pub IsSenderBelow : ℕ → Pick → Type 0
IsSenderBelow count pick = (sender : ℕ) × (pick ≡ Sender sender) × (sender < count)

-- an index below a count
abbrev pub IsIndexBelow : ℕ → Pick → Type 0
IsIndexBelow count pick = (index : ℕ) × (pick ≡ Index index) × (index < count)

-- all turns of the ranks below a number were tried; `made` tells whether one was answered
pub record AreRanksTried (question : Question) (seen : Seen) (before : List Event) (below : ℕ) (made : Bool) : Type 0 where
  pub moves : (rank : ℕ) (call : Call) (pick : Pick) → rank < below → IsMove question.next question.ranks before rank call pick → IsProbeKept before (picked_event question.ranks before rank call pick)
      → IsFollowed question.next question.ranks question.polls seen before (picked_event question.ranks before rank call pick)
  pub halts : (rank : ℕ) (call : Call) (pick : Pick) (halt : Halt) → rank < below → IsHalting question.next (moment_at question.ranks before rank) call pick halt
      → (pick ≡ First → can_go question.ranks before rank (view_of before rank) call ≡ true) → IsListed seen.listed (halted_outcome question.next question.output question.ranks before halt)
  pub idle : made ≡ false → (rank : ℕ) → rank < below → next_can_go question.ranks before rank (call_after question.next question.ranks before rank) ≡ false
  pub some : made ≡ true → (rank : ℕ) × (call : Call) × (rank < question.ranks) × (call_after question.next question.ranks before rank ≡ Some call)
  pub stuck : made ≡ true → IsStuck question.next question.ranks before → IsListed seen.listed (halted_outcome question.next question.output question.ranks before Stuck)

-- turns of ranks that make a run in which nothing is late, with a recording machine's numbers, which goes on from the root and keeps its probes from
-- there on
pub record IsUnder (next : Next) (n : ℕ) (root : List Event) (turns : List Turn) : Type 0 where
  pub more : List Event
  pub made : events_of_turns next n turns ≡ root ++ more
  pub ranks : All (λ turn. turn.rank < n) turns
  pub picks : All (λ turn. IsPickOf n turn.pick) turns
  pub run : IsPromptRun next n (events_of_turns next n turns)
  pub numbered : AreNumberedInOrder n (events_of_turns next n turns)
  pub probes : Along IsProbeKept root more

-- a state under a root: such turns, without a halt
pub record IsState (next : Next) (n : ℕ) (root : List Event) (turns : List Turn) : Type 0 where
  pub under : IsUnder next n root turns
  pub free : halted (events_of_turns next n turns) ≡ None

-- nothing but halts follows: no call can go, or there is a halt
abbrev pub IsAtEnd : Next → ℕ → List Event → Type 0
IsAtEnd next n events = IsStuck next n events ⊎ ((halt : Halt) × (halted events ≡ Some halt))

-- a search under way: its states are states under the root, and each code that it has is that of one of them; what is listed was found, once
pub record IsUnderWay (next : Next) (output : Output) (n : ℕ) (root : List Event) (met : Met) : Type 0 where
  pub are_states : (turns : List Turn) → IsIn turns met.states → IsState next n root turns
  pub coded : (code : List ℤ) → IsIn code met.codes → (turns : List Turn) × IsIn turns met.states × (code_at next n turns ≡ code)
  pub found : (found : FoundOutcome) → IsIn found met.found → IsFoundOutcome next output n root found
  pub apart : OutcomesDiffer met.found

-- a search went on: it is under way, and what it has met stays met
pub record WentOn (next : Next) (output : Output) (n : ℕ) (root : List Event) (met met' : Met) : Type 0 where
  pub under_way : IsUnderWay next output n root met'
  pub grows : StaysMet met.states met'.states met.found met'.found met.polled met'.polled

-- what the recording by these turns comes to is listed
pub record IsOutcomeListed (next : Next) (output : Output) (n : ℕ) (turns : List Turn) (listed : List FoundOutcome) : Type 0 where
  pub outcome : RunOutcome
  pub comes : ComesTo next output n turns outcome
  pub listed_is : IsListed listed outcome

-- these events, a run in which nothing is late, are those that a state's turns make, and one more, which is no halt
pub record IsSearchStep (next : Next) (n : ℕ) (root : List Event) (turns : List Turn) (events : List Event) : Type 0 where
  pub before : List Event
  pub event : Event
  pub whole : events ≡ before ++ event ∷ []
  pub made : events_of_turns next n turns ≡ events
  pub more : List Event
  pub begins : before ≡ root ++ more
  pub probes : Along IsProbeKept root more
  pub ranks : All (λ turn. turn.rank < n) turns
  pub picks : All (λ turn. IsPickOf n turn.pick) turns
  pub run : IsPromptRun next n events
  pub numbered : AreNumberedInOrder n events
  pub free : halted events ≡ None

-- of events with one more behind these before, that one was followed
abbrev pub IsStepFollowed : Next → ℕ → ℕ → Met → List Event → Type 0
IsStepFollowed next n polls met events =
    (before : List Event) (event : Event) → events ≡ before ++ event ∷ [] → IsProbeKept before event → IsFollowed next n polls (seen_by met) before event

-- a rank's turn was made: its next call was answered with what it picks
pub record IsTurnMade (next : Next) (n : ℕ) (before after : List Event) (turn : Turn) : Type 0 where
  pub call : Call
  pub asked : call_after next n before turn.rank ≡ Some call
  pub answered : IsAnswered next n before after turn call

-- any pick
abbrev pub IsAnyPick : Pick → Type 0
IsAnyPick pick = Unit {0}

-- what was tried of a search that has met this: one turn
abbrev pub HasTried : Question → Met → List Event → Turn → Type 0
HasTried question met before turn = IsTried question (seen_by met) before turn

-- what was tried: all turns of a rank that pick one of these
abbrev pub HasTriedPicks : Question → Met → List Event → ℕ → (Pick → Type 0) → Bool → Type 0
HasTriedPicks question met before rank IsOne made = ArePicksTried question (seen_by met) before rank IsOne made

-- what was tried: all turns of the ranks below a number
abbrev pub HasTriedRanks : Question → Met → List Event → ℕ → Bool → Type 0
HasTriedRanks question met before below made = AreRanksTried question (seen_by met) before below made

-- a state was looked at
abbrev pub HasLookedAt : Question → Met → List Turn → Type 0
HasLookedAt question met turns = IsLookedAt question (seen_by met) (events_of_turns question.next question.ranks turns)

-- where a search begins: the root is met, or it is halted, and what it comes to is listed
pub record HasBegun (next : Next) (output : Output) (n : ℕ) (under : List Turn) (met : Met) : Type 0 where
  pub free : halted (events_of_turns next n under) ≡ None → IsVisited n (histories next n met.states) (events_of_turns next n under)
  pub ended : (halt : Halt) → halted (events_of_turns next n under) ≡ Some halt → IsOutcomeListed next output n under met.found
