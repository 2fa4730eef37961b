-- The waits text of a run: who waits for whom where it is stuck.
use Rattle.std.specs.Prelude.{ℕ, List, [], ◌∷◌, ◌++◌, Bool, true, false, Option, Some, None, codes, flat_map, if◌then◌else◌}
use Rattle.mpi_call.specs.declared.call.Call.{Call}
use Rattle.mpi_call.specs.declared.call.Call.TheVariants.{Peek, Post}
use Rattle.mpi_call.specs.declared.call.Halt.TheVariants.{Stuck}
use Rattle.mpi_call.specs.declared.call.Source.{Source}
use Rattle.mpi_call.specs.declared.call.Tag.{Tag}
use Rattle.mpi_call.specs.Acceptance.{source_agrees}
use Rattle.run_model.specs.declared.ending.Ending.{Ending}
use Rattle.run_model.specs.declared.ending.Ending.TheVariants.{Halted}
use Rattle.run_model.specs.declared.event.Event.{Event}
use Rattle.run_model.specs.Allowed.{Probe, probe_of}
use Rattle.run_model.specs.Lists.{world}
use Rattle.run_model.specs.Views.{View, view_of}
use Rattle.run_text.specs.CallTexts.{call_text}
use Rattle.run_text.specs.GroupTexts.{spaced_ranks_text}
use Rattle.run_text.specs.RecordTexts.{ending_text}
use Rattle.srr_log.specs.EntryText.{name_text}
use Rattle.wait_graph.specs.declared.difference.Difference.{Difference}
use Rattle.wait_graph.specs.declared.difference.Difference.TheVariants.{Comm, Source as BySource, Tag as ByTag}
use Rattle.wait_graph.specs.declared.graph.Blocked.{Blocked}
use Rattle.wait_graph.specs.declared.graph.Graph.{Graph}
use Rattle.wait_graph.specs.declared.message.Open.{Open}
use Rattle.wait_graph.specs.declared.message.Taken.{Taken}
use Rattle.wait_graph.specs.declared.wait.Wait.{Wait}
use Rattle.wait_graph.specs.Going.{going}
use Rattle.wait_graph.specs.Graph.{is_live}
use Rattle.wait_graph.specs.Opens.{differences, opens_to}
use Rattle.wait_graph.specs.Taken.{taken_last}
use Rattle.wiz_base.specs.Decimals.{decimal_text}

-- start S CALL; a probe has no such line
abbrev pub start_text : Option ℕ → Call → List ℕ
start_text None call = []
start_text (Some start) call = codes "start " ++ decimal_text start ++ codes " " ++ call_text call ++ codes "\n"

-- ` ended` for a rank that has ended
abbrev pub ended_text : Bool → List ℕ
ended_text true = []
ended_text false = codes " ended"

-- Q · Q ended, a blank before each
abbrev pub awaited_text : ℕ → List Event → ℕ → List ℕ
awaited_text n G rank = codes " " ++ decimal_text rank ++ ended_text (is_live n G rank)

-- from Q Q ended ..
abbrev pub from_ranks_text : ℕ → List Event → List ℕ → List ℕ
from_ranks_text n G ranks = codes "from" ++ flat_map (awaited_text n G) ranks ++ codes "\n"

-- the same; from none, where there is nobody
abbrev pub awaited_ranks_text : ℕ → List Event → List ℕ → List ℕ
awaited_ranks_text n G [] = codes "from none\n"
awaited_ranks_text n G (rank ∷ ranks) = from_ranks_text n G (rank ∷ ranks)

-- taken S.K at R:C, where a message of the sender was taken
abbrev pub taken_text : ℕ → Option Taken → List ℕ
taken_text me None = []
taken_text me (Some taken) =
    codes "taken " ++ name_text taken.name.rank taken.name.start ++ codes " at " ++ decimal_text me ++ codes ":" ++ decimal_text taken.call ++ codes "\n"

-- the message of a sender that rank me took last, where the source names the sender
abbrev pub taken_text_from : View → ℕ → ℕ → Source → Tag → ℕ → List ℕ
taken_text_from own me comm source tag sender = if source_agrees source sender then taken_text me (taken_last own comm tag sender) else []

-- the same of each sender
abbrev pub taken_texts : View → ℕ → ℕ → Source → Tag → List ℕ → List ℕ
taken_texts own me comm source tag senders = flat_map (taken_text_from own me comm source tag) senders

-- in what a message and a receive differ
abbrev pub difference_text : Difference → List ℕ
difference_text Comm = codes " comm"
difference_text BySource = codes " source"
difference_text ByTag = codes " tag"

-- open S.K tag=T differs in comm source tag
abbrev pub open_text : ℕ → Source → Tag → Open → List ℕ
open_text comm source tag found =
    codes "open " ++ name_text found.name.rank found.name.start ++ codes " tag=" ++ decimal_text found.tag ++ codes " differs in"
    ++ flat_map difference_text (differences comm source tag found.comm found.name.rank found.tag) ++ codes "\n"

-- the messages that a receive or a probe has missed, and those that are open to it
abbrev pub messages_text : ℕ → List Event → List Open → Probe → List ℕ
messages_text n G opens probe =
    taken_texts (view_of G probe.me) probe.me probe.comm probe.source probe.tag (world n 0)
    ++ flat_map (open_text probe.comm probe.source probe.tag) opens

-- the same, where the call is a receive or a probe
abbrev pub call_messages_text : ℕ → List Event → ℕ → List Open → Call → List ℕ
call_messages_text n G me opens (Post comm source tag room) = messages_text n G opens (probe_of me comm source tag)
call_messages_text n G me opens (Peek comm source tag wait) = messages_text n G opens (probe_of me comm source tag)
call_messages_text n G me opens call = []

-- one thing that rank me waits for: the start, from whom it could come, what was taken and what is open
abbrev pub wait_text : ℕ → List Event → ℕ → List Open → Wait → List ℕ
wait_text n G me opens wait =
    start_text wait.start wait.call ++ awaited_ranks_text n G wait.awaited ++ call_messages_text n G me opens wait.call

-- rank R call K CALL
abbrev pub blocked_head_text : Blocked → List ℕ
blocked_head_text blocked =
    codes "rank " ++ decimal_text blocked.rank ++ codes " call " ++ decimal_text blocked.number ++ codes " " ++ call_text blocked.call ++ codes "\n"

-- a blocked rank, and what it waits for
abbrev pub blocked_text : ℕ → List Event → Blocked → List ℕ
blocked_text n G blocked =
    blocked_head_text blocked ++ flat_map (wait_text n G blocked.rank (opens_to n G blocked.rank)) blocked.waits

-- the ranks that wait in a run that is stuck
abbrev pub waiting_text : ℕ → List Event → Graph → List ℕ
waiting_text n events graph = flat_map (blocked_text n (going events)) graph.blocked

-- cycle R R ..
abbrev pub cycle_text : List ℕ → List ℕ
cycle_text ranks = codes "cycle" ++ spaced_ranks_text ranks ++ codes "\n"

-- hopeless R R ..
abbrev pub hopeless_ranks_text : List ℕ → List ℕ
hopeless_ranks_text ranks = codes "hopeless" ++ spaced_ranks_text ranks ++ codes "\n"

-- the same, where there are any
abbrev pub hopeless_text : List ℕ → List ℕ
hopeless_text [] = []
hopeless_text (rank ∷ ranks) = hopeless_ranks_text (rank ∷ ranks)

-- the ranks that wait, the cycles and the hopeless ranks
abbrev pub graph_text : ℕ → List Event → Graph → List ℕ
graph_text n G graph = flat_map (blocked_text n G) graph.blocked ++ flat_map cycle_text graph.cycles ++ hopeless_text graph.hopeless

-- a run that is not stuck has the last line alone
abbrev pub stuck_text : ℕ → List Event → Graph → Ending → List ℕ
stuck_text n events graph (Halted Stuck) = graph_text n (going events) graph
stuck_text n events graph ending = []

-- who waits for whom, and how the run ended
abbrev pub waits_text : ℕ → List Event → Graph → Ending → List ℕ
waits_text n events graph ending = stuck_text n events graph ending ++ ending_text ending
