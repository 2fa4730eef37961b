-- The drawing of a run as trace events in JSON: a group is a process, a rank a thread, a column a microsecond.
use Rattle.std.specs.Prelude.{◌+◌, ℕ, List, [], ◌∷◌, ◌++◌, Option, Some, None, codes, flat_map, length, max, slice_get, slice_index}
use Rattle.mpi_call.specs.declared.call.Call.{Call}
use Rattle.mpi_call.specs.declared.call.Call.TheVariants.{Send, Post, Enter, Take, Peek, Abort, Trap, End}
use Rattle.mpi_call.specs.declared.reply.Reply.{Reply}
use Rattle.mpi_call.specs.declared.reply.Reply.TheVariants.{Stopped}
use Rattle.msg_races.specs.Listing.{lists_below as for_ranks}
use Rattle.run_drawing.specs.declared.drawing.DrawnMark.{DrawnMark}
use Rattle.run_drawing.specs.declared.drawing.DrawnMessage.{DrawnMessage}
use Rattle.run_drawing.specs.declared.drawing.Point.{Point}
use Rattle.run_drawing.specs.declared.drawing.DrawnReceive.{DrawnReceive}
use Rattle.run_drawing.specs.Drawn.{Drawn}
use Rattle.run_model.specs.declared.event.Event.{Event}
use Rattle.run_model.specs.Views.{View, view_of}
use Rattle.run_text.specs.CallTexts.{call_text, reply_text}
use Rattle.wiz_base.specs.Decimals.{decimal_text}

-- the names of groups, the first of which begins the list
abbrev pub trace_head_text : List ℕ
trace_head_text = codes "{\"traceEvents\":[\n{\"name\":\"process_name\",\"ph\":\"M\",\"pid\":0,\"tid\":0,\"args\":{\"name\":\"group 0\"}}"

-- the name of a group
abbrev pub group_name_text : ℕ → List ℕ
group_name_text group =
    codes ",\n{\"name\":\"process_name\",\"ph\":\"M\",\"pid\":" ++ decimal_text group ++ codes ",\"tid\":0,\"args\":{\"name\":\"group " ++ decimal_text group ++ codes "\"}}"

-- the greatest number of a group
abbrev pub last_group : List ℕ → ℕ
last_group [] = 0
last_group (group ∷ groups) = max group (last_group groups)

-- the names of all groups
abbrev pub groups_text : List ℕ → List ℕ
groups_text groups = trace_head_text ++ for_ranks (λ before. group_name_text (before + 1)) (last_group groups)

-- the name of a rank
abbrev pub rank_name_text : List ℕ → ℕ → List ℕ
rank_name_text groups rank =
    codes ",\n{\"name\":\"thread_name\",\"ph\":\"M\",\"pid\":" ++ decimal_text (slice_index groups rank) ++ codes ",\"tid\":" ++ decimal_text rank
    ++ codes ",\"args\":{\"name\":\"rank " ++ decimal_text rank ++ codes "\"}}"

-- a call is a span of one microsecond with the name of its call, or stopped
abbrev pub verb_text : Call → List ℕ
verb_text (Send comm dest tag ints sync) = codes "send"
verb_text (Post comm source tag room) = codes "post"
verb_text (Enter comm kind root op count ints) = codes "enter"
verb_text (Take starts mode) = codes "take"
verb_text (Peek comm source tag wait) = codes "peek"
verb_text (Abort code) = codes "abort"
verb_text (Trap fault) = codes "trap"
verb_text End = codes "end"

-- the name of a call, or that it stopped its rank
abbrev pub event_name_text : Call → Reply → List ℕ
event_name_text call (Stopped halt) = codes "stopped"
event_name_text call reply = verb_text call

-- where and when it is: the column, the group and the rank
abbrev pub place_text : List ℕ → ℕ → ℕ → List ℕ
place_text groups rank column =
    codes "\"ts\":" ++ decimal_text column ++ codes ",\"pid\":" ++ decimal_text (slice_index groups rank) ++ codes ",\"tid\":" ++ decimal_text rank

-- what is told of a call besides: its number, itself and its reply
abbrev pub args_text : ℕ → Call → Reply → List ℕ
args_text number call reply =
    codes ",\"args\":{\"number\":" ++ decimal_text number ++ codes ",\"call\":\"" ++ call_text call ++ codes "\",\"reply\":\"" ++ reply_text reply ++ codes "\"}}"

-- a call and its reply, of one microsecond
abbrev pub span_by : List ℕ → DrawnMark → Call → Reply → List ℕ
span_by groups mark call reply =
    codes ",\n{\"name\":\"" ++ event_name_text call reply ++ codes "\",\"ph\":\"X\",\"dur\":1," ++ place_text groups mark.rank mark.column
    ++ args_text mark.number call reply

-- the same, where the rank has seen such a call
abbrev pub span_in : List ℕ → DrawnMark → Option (Call × Reply) → List ℕ
span_in groups mark None = []
span_in groups mark (Some (call, reply)) = span_by groups mark call reply

-- the call at a mark, which its rank has made
abbrev pub span_text : List ℕ → (ℕ → View) → DrawnMark → List ℕ
span_text groups views mark = span_in groups mark (slice_get (views mark.rank) mark.number)

-- a message is a flow; it raced where the receive could have taken another one
abbrev pub flow_name : List Point → List ℕ
flow_name [] = codes ",\n{\"name\":\"message\",\"cat\":\"message\","
flow_name (choice ∷ choices) = codes ",\n{\"name\":\"raced\",\"cat\":\"message\","

-- its two ends: the Send, and the completion of the receive
abbrev pub flow_text : List ℕ → ℕ → DrawnMessage → ℕ → ℕ → List ℕ
flow_text groups number message rank column =
    flow_name message.choices ++ codes "\"ph\":\"s\",\"id\":" ++ decimal_text number ++ codes "," ++ place_text groups message.sender.rank message.sender.column ++ codes "}"
    ++ flow_name message.choices ++ codes "\"ph\":\"f\",\"bp\":\"e\",\"id\":" ++ decimal_text number ++ codes "," ++ place_text groups rank column ++ codes "}"

-- the arrow of a message that may have come
abbrev pub flow_by : List ℕ → ℕ → ℕ → ℕ → Option DrawnMessage → List ℕ
flow_by groups number rank column None = []
flow_by groups number rank column (Some message) = flow_text groups number message rank column

-- the flows of these receives, numbered from one on by the receives
abbrev pub flows_text : List ℕ → ℕ → List DrawnReceive → List ℕ
flows_text groups number [] = []
flows_text groups number (receive ∷ receives) =
    flow_by groups number receive.rank receive.to receive.message ++ flows_text groups (number + 1) receives

-- all of it
abbrev pub trace_json : List Event → Drawn → List ℕ
trace_json events drawing =
    groups_text drawing.groups
    ++ for_ranks (rank_name_text drawing.groups) (length drawing.groups)
    ++ flat_map (span_text drawing.groups (view_of events)) drawing.marks
    ++ flows_text drawing.groups 0 drawing.receives
    ++ codes "\n]}\n"
