-- The effect of each MPI function keeps what effects have to.
use Rattle.std.proofs.Common.{◌≡◌, ◌<◌, ◌≤◌, ◌^◌, ◌==◌, ℕ, ℤ, Bool, true, false, List, Option, Some, None, Result, Ok, if◌then◌else◌, refl, sym, ◌∙◌, arith}
use Rattle.std.specs.Prelude.{IfSome}
use Rattle.mpi_call.specs.declared.limits.TheConstants.{MOST_INTS}
use Rattle.mpi_call.specs.declared.call.Call.TheVariants.{Enter}
use Rattle.mpi_call.specs.declared.call.Fault.{Fault}
use Rattle.mpi_call.specs.declared.call.Kind.{Kind}
use Rattle.mpi_call.specs.declared.call.Kind.TheVariants.{Barrier, Bcast, Reduce, Allreduce, Gather, Allgather, Scatter, Alltoall, Scan, Split, Dup}
use Rattle.mpi_call.specs.declared.call.Op.{Op}
use Rattle.mpi_call.specs.declared.call.Source.{Source}
use Rattle.mpi_call.specs.declared.call.Tag.{Tag}
use Rattle.mpi_call.specs.declared.call.TakeMode.{TakeMode}
use Rattle.mpi_call.specs.declared.call.TakeMode.TheVariants.{All, Any as AnyOne, Several, TestAll, TestAny, TestSeveral}
use Rattle.mpi_call.specs.Collectives.{is_member, input_length, result_length}
use Rattle.mpi_call.specs.Needs.{has_form}
use Rattle.run_model.specs.Program.{IsSourceBelow, IsTagInBounds}
use Rattle.run_model.specs.Views.{View}
use Rattle.c_program.specs.declared.constants.TheConstants.{MOST_CELLS}
use Rattle.c_program.specs.declared.effect.AnswerCells.{AnswerCells}
use Rattle.c_program.specs.declared.effect.Effect.{Effect}
use Rattle.c_program.specs.declared.effect.Effect.TheVariants.{Starts, Receives, Completes, Probes}
use Rattle.c_program.specs.declared.effect.EnterInput.{EnterInput}
use Rattle.c_program.specs.declared.effect.EnterInput.TheVariants.{Nothing as EntersNothing, Cells as EntersCells, Pair}
use Rattle.c_program.specs.declared.effect.Into.{Into}
use Rattle.c_program.specs.declared.effect.Into.TheVariants.{Nowhere, Cells as IntoCells, Handle}
use Rattle.c_program.specs.declared.effect.Message.{Message}
use Rattle.c_program.specs.declared.effect.Start.TheVariants.{Receive as StartReceive}
use Rattle.c_program.specs.Tree as t
use Rattle.c_program.specs.Tree.{Buffer, CollectiveCall, CommunicatorCall, CompletionCall, TypedExpr, Incoming, MessageCall, MpiCall, Outgoing, ProbeCall, Reduction, Reference, SomeRequests}
use Rattle.c_program.specs.Cells.{Cells}
use Rattle.c_program.specs.Effects.{Communicator, answers, at_root, cell_of_answer, colour, completes_some, effect_of, enters, first_of_range, gets, handles_of, is_me, is_given_root, isend_effect, joins, optional, ints_for_all_members, receive, same_count, shape_of, send_after, send_effect, sends, sends_from, status}
use Rattle.c_program.specs.laws.Keeping.{IsGoodState}
use Rattle.c_program.specs.Performing.{entered_ints}
use Rattle.c_program.specs.Program.{rank_of}
use Rattle.c_program.specs.laws.Proper.{HoldsUnlessFault, IsKnownCommunicator, IsProperMessage, IsProperEffect, below, given_free, given_holds, if_holds, length-entered, entered_length, of_holds, on_comm, on_count, on_destination, on_first, on_member, on_range, on_source, on_tag, on_wanted}
use Rattle.c_program.specs.State.{State}
use Rattle.c_program.specs.Values.{given, range, value}

-- ---- sends, receives and probes

-- the effect of each function keeps this, from a good state
abbrev HasProperEffect : MpiCall → Type 0
HasProperEffect call = (n me : ℕ) (own : View) (s : State) → IsGoodState n me own s → HoldsUnlessFault (IsProperEffect n me own) (effect_of (rank_of n me) call s)

sends_proper : (n me : ℕ) (own : View) (comm : Communicator) (dest : Option ℕ) (tag : ℕ) (ints : Cells) (sync : Bool) → IfSome dest (λ rank. rank < n) → tag < 2 ^ 31 → ints.length ≤ MOST_INTS → IsProperEffect n me own (sends comm dest tag ints sync)
sends_proper n me own comm None tag ints sync low small few = tt
sends_proper n me own comm (Some dest) tag ints false low small few = record { dest = low; tag = small; ints = few }
sends_proper n me own comm (Some dest) tag ints true low small few = record { dest = low; tag = small; ints = few }

sends_from_proper : (n me : ℕ) (own : View) (comm : Communicator) (dest : Option ℕ) (tag : ℕ) (ints : Cells) (sync : Bool) (request : ℕ) → IfSome dest (λ rank. rank < n) → tag < 2 ^ 31 → ints.length ≤ MOST_INTS → IsProperEffect n me own (sends_from comm dest tag ints sync request)
sends_from_proper n me own comm None tag ints sync request low small few = record { source = tt; tag = small }
sends_from_proper n me own comm (Some dest) tag ints sync request low small few = record { dest = low; tag = small; ints = few }

send_after_proper : (n : ℕ) (comm : Communicator) (dest : Option ℕ) (tag : ℕ) (ints : Cells) → IfSome dest (λ rank. rank < n) → tag < 2 ^ 31 → ints.length ≤ MOST_INTS → IfSome (send_after comm dest tag ints) (λ m. IsProperMessage n m)
send_after_proper n comm None tag ints low small few = tt
send_after_proper n comm (Some dest) tag ints low small few = record { dest = low; tag = small; ints = few }

receives_proper : (n me : ℕ) (own : View) (comm : Communicator) (source : Source) (tag : Tag) (cells : Cells) (send : Option Message) (status : Option ℕ) → IsSourceBelow n source → IsTagInBounds tag → IfSome send (λ m. IsProperMessage n m) → IsProperEffect n me own (Receives (receive comm source tag cells) send status)
receives_proper n me own comm source tag cells send status low small is = (record { source = low; tag = small }, is)

starts_proper : (n me : ℕ) (own : View) (comm : Communicator) (source : Source) (tag : Tag) (cells : Cells) (request : ℕ) → IsSourceBelow n source → IsTagInBounds tag → IsProperEffect n me own (Starts (StartReceive (receive comm source tag cells)) (Some request))
starts_proper n me own comm source tag cells request low small = record { source = low; tag = small }

probes_proper : (n me : ℕ) (own : View) (comm : Communicator) (source : Source) (tag : Tag) (waits : Bool) (flag status : Option ℕ) → IsSourceBelow n source → IsTagInBounds tag → IsProperEffect n me own (Probes comm.number source tag waits flag status)
probes_proper n me own comm source tag waits flag status low small = record { source = low; tag = small }

send_proper : (outgoing : Outgoing) (comm : TypedExpr) (sync : Bool) (n me : ℕ) (own : View) (s : State) → IsGoodState n me own s → HoldsUnlessFault (IsProperEffect n me own) (send_effect (rank_of n me) outgoing comm sync s)
send_proper outgoing comm sync n me own s good =
    let P : Effect → Type 0 = IsProperEffect n me own in
    given_free P (range outgoing.buffer.cells s) _ (λ buffer_cells. given_free P (value outgoing.buffer.count s) _ (λ buffer_count. given_free P (value outgoing.dest s) _ (λ dest.
    given_free P (value outgoing.tag s) _ (λ tag. given_free P (value comm s) _ (λ comm.
    on_comm P n me own s good comm _ (λ comm known.
    on_count P buffer_count _ (λ buffer_count buffer_count_few.
    on_destination P n me own comm known dest _ (λ dest dest_low.
    on_tag P tag _ (λ tag tag_small.
    on_first P buffer_count buffer_cells _ (λ buffer_cells buffer_cells_first.
    sends_proper n me own comm dest tag buffer_cells sync dest_low tag_small (omega (arith, buffer_count_few, buffer_cells_first.length))))))))))))

recv_proper : (incoming : Incoming) (comm : TypedExpr) (kept : Option Reference) → HasProperEffect (t.message (t.recv incoming comm kept))
recv_proper incoming comm kept n me own s good =
    let P : Effect → Type 0 = IsProperEffect n me own in
    given_free P (range incoming.buffer.cells s) _ (λ buffer_cells. given_free P (value incoming.buffer.count s) _ (λ buffer_count. given_free P (value incoming.source s) _ (λ source.
    given_free P (value incoming.tag s) _ (λ tag. given_free P (value comm s) _ (λ comm. given_free P (status kept s) _ (λ kept.
    on_comm P n me own s good comm _ (λ comm known.
    on_count P buffer_count _ (λ buffer_count buffer_count_few.
    on_source P n me own comm known source _ (λ source source_low.
    on_wanted P tag _ (λ tag tag_small.
    on_first P buffer_count buffer_cells _ (λ buffer_cells buffer_cells_first.
    given_free P (optional cell_of_answer kept) _ (λ kept.
    receives_proper n me own comm source tag buffer_cells None kept source_low tag_small tt))))))))))))

isend_proper : (outgoing : Outgoing) (comm : TypedExpr) (request : Reference) (sync : Bool) (n me : ℕ) (own : View) (s : State) → IsGoodState n me own s → HoldsUnlessFault (IsProperEffect n me own) (isend_effect (rank_of n me) outgoing comm request sync s)
isend_proper outgoing comm request sync n me own s good =
    let P : Effect → Type 0 = IsProperEffect n me own in
    given_free P (range outgoing.buffer.cells s) _ (λ buffer_cells. given_free P (value outgoing.buffer.count s) _ (λ buffer_count. given_free P (value outgoing.dest s) _ (λ dest.
    given_free P (value outgoing.tag s) _ (λ tag. given_free P (value comm s) _ (λ comm. given_free P (range request s) _ (λ request.
    on_comm P n me own s good comm _ (λ comm known.
    on_count P buffer_count _ (λ buffer_count buffer_count_few.
    on_destination P n me own comm known dest _ (λ dest dest_low.
    on_tag P tag _ (λ tag tag_small.
    on_first P buffer_count buffer_cells _ (λ buffer_cells buffer_cells_first.
    given_free P (cell_of_answer request) _ (λ request.
    sends_from_proper n me own comm dest tag buffer_cells sync request dest_low tag_small (omega (arith, buffer_count_few, buffer_cells_first.length))))))))))))))

irecv_proper : (incoming : Incoming) (comm : TypedExpr) (request : Reference) → HasProperEffect (t.message (t.irecv incoming comm request))
irecv_proper incoming comm request n me own s good =
    let P : Effect → Type 0 = IsProperEffect n me own in
    given_free P (range incoming.buffer.cells s) _ (λ buffer_cells. given_free P (value incoming.buffer.count s) _ (λ buffer_count. given_free P (value incoming.source s) _ (λ source.
    given_free P (value incoming.tag s) _ (λ tag. given_free P (value comm s) _ (λ comm. given_free P (range request s) _ (λ request.
    on_comm P n me own s good comm _ (λ comm known.
    on_count P buffer_count _ (λ buffer_count buffer_count_few.
    on_source P n me own comm known source _ (λ source source_low.
    on_wanted P tag _ (λ tag tag_small.
    on_first P buffer_count buffer_cells _ (λ buffer_cells buffer_cells_first.
    given_free P (cell_of_answer request) _ (λ request.
    starts_proper n me own comm source tag buffer_cells request source_low tag_small))))))))))))

sendrecv_proper : (outgoing : Outgoing) (incoming : Incoming) (comm : TypedExpr) (kept : Option Reference) → HasProperEffect (t.message (t.sendrecv outgoing incoming comm kept))
sendrecv_proper outgoing incoming comm kept n me own s good =
    let P : Effect → Type 0 = IsProperEffect n me own in
    given_free P (range outgoing.buffer.cells s) _ (λ out_cells. given_free P (value outgoing.buffer.count s) _ (λ out_count. given_free P (value outgoing.dest s) _ (λ dest.
    given_free P (value outgoing.tag s) _ (λ send_tag. given_free P (range incoming.buffer.cells s) _ (λ buffer_cells. given_free P (value incoming.buffer.count s) _ (λ buffer_count.
    given_free P (value incoming.source s) _ (λ source. given_free P (value incoming.tag s) _ (λ tag. given_free P (value comm s) _ (λ comm. given_free P (status kept s) _ (λ kept.
    on_comm P n me own s good comm _ (λ comm known.
    on_count P out_count _ (λ out_count out_count_few.
    on_count P buffer_count _ (λ buffer_count buffer_count_few.
    on_destination P n me own comm known dest _ (λ dest dest_low.
    on_source P n me own comm known source _ (λ source source_low.
    on_tag P send_tag _ (λ send_tag send_tag_small.
    on_wanted P tag _ (λ tag tag_small.
    on_first P out_count out_cells _ (λ out_cells out_cells_first.
    on_first P buffer_count buffer_cells _ (λ buffer_cells buffer_cells_first.
    given_free P (optional cell_of_answer kept) _ (λ kept.
    receives_proper n me own comm source tag buffer_cells (send_after comm dest send_tag out_cells) kept source_low tag_small
    (send_after_proper n comm dest send_tag out_cells dest_low send_tag_small (omega (arith, out_count_few, out_cells_first.length)))))))))))))))))))))))

message_kept : (call : MessageCall) → HasProperEffect (t.message call)
message_kept (t.send outgoing comm) n me own s good = send_proper outgoing comm false n me own s good
message_kept (t.ssend outgoing comm) n me own s good = send_proper outgoing comm true n me own s good
message_kept (t.recv incoming comm kept) n me own s good = recv_proper incoming comm kept n me own s good
message_kept (t.isend outgoing comm request) n me own s good = isend_proper outgoing comm request false n me own s good
message_kept (t.issend outgoing comm request) n me own s good = isend_proper outgoing comm request true n me own s good
message_kept (t.irecv incoming comm request) n me own s good = irecv_proper incoming comm request n me own s good
message_kept (t.sendrecv outgoing incoming comm kept) n me own s good = sendrecv_proper outgoing incoming comm kept n me own s good

probe_proper : (source tag comm : TypedExpr) (kept : Option Reference) → HasProperEffect (t.probing (t.probe source tag comm kept))
probe_proper source tag comm kept n me own s good =
    let P : Effect → Type 0 = IsProperEffect n me own in
    given_free P (value source s) _ (λ source. given_free P (value tag s) _ (λ tag. given_free P (value comm s) _ (λ comm. given_free P (status kept s) _ (λ kept.
    on_comm P n me own s good comm _ (λ comm known.
    on_source P n me own comm known source _ (λ source source_low.
    on_wanted P tag _ (λ tag tag_small.
    given_free P (optional cell_of_answer kept) _ (λ kept.
    probes_proper n me own comm source tag true None kept source_low tag_small))))))))

iprobe_proper : (source tag comm : TypedExpr) (flag : Reference) (kept : Option Reference) → HasProperEffect (t.probing (t.iprobe source tag comm flag kept))
iprobe_proper source tag comm flag kept n me own s good =
    let P : Effect → Type 0 = IsProperEffect n me own in
    given_free P (value source s) _ (λ source. given_free P (value tag s) _ (λ tag. given_free P (value comm s) _ (λ comm. given_free P (range flag s) _ (λ flag.
    given_free P (status kept s) _ (λ kept.
    on_comm P n me own s good comm _ (λ comm known.
    on_source P n me own comm known source _ (λ source source_low.
    on_wanted P tag _ (λ tag tag_small.
    given_free P (cell_of_answer flag) _ (λ flag. given_free P (optional cell_of_answer kept) _ (λ kept.
    probes_proper n me own comm source tag false (Some flag) kept source_low tag_small))))))))))

get_count_proper : (kept : Option Reference) (into : Reference) → HasProperEffect (t.probing (t.get_count kept into))
get_count_proper kept into n me own s good =
    let P : Effect → Type 0 = IsProperEffect n me own in
    given_free P (status kept s) _ (λ kept. given_free P (range into s) _ (λ into. given_free P (optional cell_of_answer kept) _ (λ kept. given_free P (cell_of_answer into) _ (λ into.
    tt))))

probe_kept : (call : ProbeCall) → HasProperEffect (t.probing call)
probe_kept (t.probe source tag comm kept) n me own s good = probe_proper source tag comm kept n me own s good
probe_kept (t.iprobe source tag comm flag kept) n me own s good = iprobe_proper source tag comm flag kept n me own s good
probe_kept (t.get_count kept into) n me own s good = get_count_proper kept into n me own s good

-- ---- completions

completes_proper : (n me : ℕ) (own : View) (requests : Cells) (mode : TakeMode) (answer : AnswerCells) → requests.length ≤ MOST_CELLS → IsProperEffect n me own (Completes requests mode answer)
completes_proper n me own requests mode answer few = few

wait_proper : (requests : Reference) (kept : Option Reference) → HasProperEffect (t.completion (t.wait requests kept))
wait_proper requests kept n me own s good =
    let P : Effect → Type 0 = IsProperEffect n me own in
    given_free P (range requests s) _ (λ requests. given_free P (status kept s) _ (λ kept.
    on_first P 1 requests _ (λ requests requests_first.
    given_free P (optional (first_of_range 1) kept) _ (λ kept.
    completes_proper n me own requests All (record answers { statuses = kept }) (omega (arith, requests_first.length))))))

test_proper : (requests flag : Reference) (kept : Option Reference) → HasProperEffect (t.completion (t.test requests flag kept))
test_proper requests flag kept n me own s good =
    let P : Effect → Type 0 = IsProperEffect n me own in
    given_free P (range requests s) _ (λ requests. given_free P (range flag s) _ (λ flag. given_free P (status kept s) _ (λ kept.
    on_first P 1 requests _ (λ requests requests_first.
    given_free P (cell_of_answer flag) _ (λ flag. given_free P (optional (first_of_range 1) kept) _ (λ kept.
    completes_proper n me own requests TestAll (record answers { flag = Some flag; statuses = kept }) (omega (arith, requests_first.length))))))))

waitany_proper : (count : TypedExpr) (requests index : Reference) (kept : Option Reference) → HasProperEffect (t.completion (t.waitany count requests index kept))
waitany_proper count requests index kept n me own s good =
    let P : Effect → Type 0 = IsProperEffect n me own in
    given_free P (value count s) _ (λ count.
    on_range P s good.slots requests _ (λ requests requests_few.
    given_free P (range index s) _ (λ index. given_free P (status kept s) _ (λ kept. given_free P (handles_of count) _ (λ count.
    on_first P count requests _ (λ requests requests_first.
    given_free P (cell_of_answer index) _ (λ index. given_free P (optional (first_of_range 1) kept) _ (λ kept.
    completes_proper n me own requests AnyOne (record answers { index = Some index; statuses = kept }) (omega (arith, requests_first.length, requests_first.within, requests_few))))))))))

testany_proper : (count : TypedExpr) (requests index flag : Reference) (kept : Option Reference) → HasProperEffect (t.completion (t.testany count requests index flag kept))
testany_proper count requests index flag kept n me own s good =
    let P : Effect → Type 0 = IsProperEffect n me own in
    given_free P (value count s) _ (λ count.
    on_range P s good.slots requests _ (λ requests requests_few.
    given_free P (range index s) _ (λ index. given_free P (range flag s) _ (λ flag. given_free P (status kept s) _ (λ kept. given_free P (handles_of count) _ (λ count.
    on_first P count requests _ (λ requests requests_first.
    given_free P (cell_of_answer index) _ (λ index. given_free P (cell_of_answer flag) _ (λ flag. given_free P (optional (first_of_range 1) kept) _ (λ kept.
    completes_proper n me own requests TestAny (record answers { flag = Some flag; index = Some index; statuses = kept }) (omega (arith, requests_first.length, requests_first.within, requests_few))))))))))))

waitall_proper : (count : TypedExpr) (requests : Reference) (kept : Option Reference) → HasProperEffect (t.completion (t.waitall count requests kept))
waitall_proper count requests kept n me own s good =
    let P : Effect → Type 0 = IsProperEffect n me own in
    given_free P (value count s) _ (λ count.
    on_range P s good.slots requests _ (λ requests requests_few.
    given_free P (status kept s) _ (λ kept. given_free P (handles_of count) _ (λ count.
    on_first P count requests _ (λ requests requests_first.
    given_free P (optional (first_of_range count) kept) _ (λ kept.
    completes_proper n me own requests All (record answers { statuses = kept }) (omega (arith, requests_first.length, requests_first.within, requests_few))))))))

testall_proper : (count : TypedExpr) (requests flag : Reference) (kept : Option Reference) → HasProperEffect (t.completion (t.testall count requests flag kept))
testall_proper count requests flag kept n me own s good =
    let P : Effect → Type 0 = IsProperEffect n me own in
    given_free P (value count s) _ (λ count.
    on_range P s good.slots requests _ (λ requests requests_few.
    given_free P (range flag s) _ (λ flag. given_free P (status kept s) _ (λ kept. given_free P (handles_of count) _ (λ count.
    on_first P count requests _ (λ requests requests_first.
    given_free P (cell_of_answer flag) _ (λ flag. given_free P (optional (first_of_range count) kept) _ (λ kept.
    completes_proper n me own requests TestAll (record answers { flag = Some flag; statuses = kept }) (omega (arith, requests_first.length, requests_first.within, requests_few))))))))))

completes_some_proper : (mode : TakeMode) (several : SomeRequests) (n me : ℕ) (own : View) (s : State) → IsGoodState n me own s → HoldsUnlessFault (IsProperEffect n me own) (completes_some mode several s)
completes_some_proper mode several n me own s good =
    let P : Effect → Type 0 = IsProperEffect n me own in
    given_free P (value several.count s) _ (λ count.
    on_range P s good.slots several.requests _ (λ requests requests_few.
    given_free P (range several.outcount s) _ (λ outcount. given_free P (range several.indices s) _ (λ indices. given_free P (status several.statuses s) _ (λ kept.
    given_free P (handles_of count) _ (λ count.
    on_first P count requests _ (λ requests requests_first.
    given_free P (cell_of_answer outcount) _ (λ outcount.
    on_first P count indices _ (λ indices indices_first.
    given_free P (optional (first_of_range count) kept) _ (λ kept.
    completes_proper n me own requests mode (record answers { outcount = Some outcount; indices = Some indices; statuses = kept }) (omega (arith, requests_first.length, requests_first.within, requests_few))))))))))))

completion_kept : (call : CompletionCall) → HasProperEffect (t.completion call)
completion_kept (t.wait requests kept) n me own s good = wait_proper requests kept n me own s good
completion_kept (t.test requests flag kept) n me own s good = test_proper requests flag kept n me own s good
completion_kept (t.waitany count requests index kept) n me own s good = waitany_proper count requests index kept n me own s good
completion_kept (t.testany count requests index flag kept) n me own s good = testany_proper count requests index flag kept n me own s good
completion_kept (t.waitall count requests kept) n me own s good = waitall_proper count requests kept n me own s good
completion_kept (t.testall count requests flag kept) n me own s good = testall_proper count requests flag kept n me own s good
completion_kept (t.waitsome several) n me own s good = completes_some_proper Several several n me own s good
completion_kept (t.testsome several) n me own s good = completes_some_proper TestSeveral several n me own s good

-- ---- collectives and communicators

root_below : (n me : ℕ) (own : View) (comm : Communicator) (root : Option ℕ) → IsKnownCommunicator n me own comm → IfSome root (λ rank. is_member comm.members rank ≡ true) → IfSome root (λ rank. rank < n)
root_below n me own comm None known is = tt
root_below n me own comm (Some rank) known is = below n me own comm rank known is

-- where the Enter has its form, as many ints as the tables say, and a result that is not too long
join_holds : (n me : ℕ) (own : View) (comm : Communicator) (kind : Kind) (root : Option ℕ) (op : Option Op) (count : ℕ) (entered : EnterInput) (into : Into) → IsKnownCommunicator n me own comm → IfSome root (λ rank. is_member comm.members rank ≡ true)
    → ((ints : List ℤ) → has_form (Enter comm.number kind root op count ints) comm.members ≡ true)
    → ((ints : List ℤ) → input_length (Enter comm.number kind root op count ints) comm.members me ≡ entered_length entered)
    → ((ints : List ℤ) → result_length (Enter comm.number kind root op count ints) comm.members me ≤ MOST_CELLS)
    → HoldsUnlessFault (IsProperEffect n me own) (joins comm (shape_of kind root op count) entered into)
join_holds n me own comm kind root op count entered into known is form input result =
    record {
      root = root_below n me own comm root known is;
      form = λ s. (comm.members, known.known, record { form = form (entered_ints entered s); ints = length-entered entered s ∙ sym (input (entered_ints entered s)) }, result (entered_ints entered s));
    }

-- what only the root enters, and a length that matters at the root alone
entered_if : (b : Bool) (cells : Cells) (count : ℕ) → cells.length ≡ count → (if b then count else 0) ≡ entered_length (if b then EntersCells cells else EntersNothing)
entered_if true cells count is = sym is
entered_if false cells count is = refl

few_if : (b : Bool) (count : ℕ) → (b ≡ true → count ≤ MOST_CELLS) → (if b then count else 0) ≤ MOST_CELLS
few_if true count few = few refl
few_if false count few = omega arith

at_root_holds : {A : Type 0} (P : A → Type 0) (b : Bool) (other : A) (rooted : Result A Fault) → (b ≡ false → P other) → (b ≡ true → HoldsUnlessFault P rooted) → HoldsUnlessFault P (at_root b other rooted)
at_root_holds P true other rooted spared checked = checked refl
at_root_holds P false other rooted spared checked = spared refl

enters_is : (count : ℕ) (cells : Cells) → HoldsUnlessFault (λ entered. entered_length entered ≡ count) (enters count cells)
enters_is count cells = on_first (λ entered. entered_length entered ≡ count) count cells _ (λ part first_of_range. first_of_range.length)

gets_within : (count : ℕ) (cells : Cells) → HoldsUnlessFault (λ into. count ≤ cells.length) (gets count cells)
gets_within count cells = on_first (λ into. count ≤ cells.length) count cells _ (λ part first_of_range. first_of_range.within)

same_is : (count : ℕ) (v : ℤ) → HoldsUnlessFault (λ same. same ≡ count) (same_count count v)
same_is count v = on_count (λ same. same ≡ count) v _ (λ m few. if_holds (λ same. same ≡ count) (count == m) _ _ (λ t. refl) (λ f. tt))

on_enters : {B : Type 0} (P : B → Type 0) (count : ℕ) (cells : Cells) (go : EnterInput → Result B Fault) → ((entered : EnterInput) → entered_length entered ≡ count → HoldsUnlessFault P (go entered)) → HoldsUnlessFault P (given (enters count cells) go)
on_enters P count cells go on = given_holds P (λ entered. entered_length entered ≡ count) (enters count cells) go (enters_is count cells) on

on_gets : {B : Type 0} (P : B → Type 0) (count : ℕ) (cells : Cells) (go : Into → Result B Fault) → ((into : Into) → count ≤ cells.length → HoldsUnlessFault P (go into)) → HoldsUnlessFault P (given (gets count cells) go)
on_gets P count cells go on = given_holds P (λ into. count ≤ cells.length) (gets count cells) go (gets_within count cells) on

on_same : {B : Type 0} (P : B → Type 0) (count : ℕ) (v : ℤ) (go : ℕ → Result B Fault) → ((same : ℕ) → same ≡ count → HoldsUnlessFault P (go same)) → HoldsUnlessFault P (given (same_count count v) go)
on_same P count v go on = given_holds P (λ same. same ≡ count) (same_count count v) go (same_is count v) on

on_root_count : {B : Type 0} (P : B → Type 0) (b : Bool) (count : ℕ) (v : ℤ) (go : ℕ → Result B Fault) → ((same : ℕ) → same ≡ count → HoldsUnlessFault P (go same)) → HoldsUnlessFault P (given (at_root b count (same_count count v)) go)
on_root_count P b count v go on =
    given_holds P (λ same. same ≡ count) (at_root b count (same_count count v)) go
    (at_root_holds (λ same. same ≡ count) b count (same_count count v) (λ f. refl) (λ t. same_is count v)) on

on_root_gets : {B : Type 0} (P : B → Type 0) (b : Bool) (count : ℕ) (cells : Cells) (go : Into → Result B Fault) → ((into : Into) → (b ≡ true → count ≤ cells.length) → HoldsUnlessFault P (go into)) → HoldsUnlessFault P (given (at_root b Nowhere (gets count cells)) go)
on_root_gets P b count cells go on =
    given_holds P (λ into. b ≡ true → count ≤ cells.length) (at_root b Nowhere (gets count cells)) go
    (at_root_holds (λ into. b ≡ true → count ≤ cells.length) b Nowhere (gets count cells) (λ f t. absurd (cc)) (λ t. on_first (λ into. b ≡ true → count ≤ cells.length) count cells _ (λ part first_of_range same. first_of_range.within))) on

on_root_enters : {B : Type 0} (P : B → Type 0) (b : Bool) (count : ℕ) (cells : Cells) (go : EnterInput → Result B Fault) → ((entered : EnterInput) → entered_length entered ≡ (if b then count else 0) → HoldsUnlessFault P (go entered)) → HoldsUnlessFault P (given (at_root b EntersNothing (enters count cells)) go)
on_root_enters P b count cells go on =
    given_holds P (λ entered. entered_length entered ≡ (if b then count else 0)) (at_root b EntersNothing (enters count cells)) go
    (at_root_holds (λ entered. entered_length entered ≡ (if b then count else 0)) b EntersNothing (enters count cells) (λ f. rw f refl)
    (λ t. on_first (λ entered. entered_length entered ≡ (if b then count else 0)) count cells _ (λ part first_of_range. rw t first_of_range.length))) on

barrier_proper : (comm : TypedExpr) → HasProperEffect (t.collective (t.barrier comm))
barrier_proper comm n me own s good =
    let P : Effect → Type 0 = IsProperEffect n me own in
    given_free P (value comm s) _ (λ comm.
    on_comm P n me own s good comm _ (λ comm known.
    join_holds n me own comm Barrier None None 0 EntersNothing Nowhere known tt
    (λ ints. refl) (λ ints. refl)
    (λ ints. omega arith)))

bcast_proper : (buffer : Buffer) (root comm : TypedExpr) → HasProperEffect (t.collective (t.bcast buffer root comm))
bcast_proper buffer root comm n me own s good =
    let P : Effect → Type 0 = IsProperEffect n me own in
    given_free P (range buffer.cells s) _ (λ buffer_cells. given_free P (value buffer.count s) _ (λ buffer_count. given_free P (value root s) _ (λ root.
    given_free P (value comm s) _ (λ comm.
    on_comm P n me own s good comm _ (λ comm known.
    on_count P buffer_count _ (λ buffer_count buffer_count_few.
    on_member P comm root _ (λ root root_is.
    on_first P buffer_count buffer_cells _ (λ buffer_cells buffer_cells_first.
    join_holds n me own comm Bcast (Some root) None buffer_count (if is_me (rank_of n me) root then EntersCells buffer_cells else EntersNothing) (IntoCells buffer_cells) known root_is
    (λ ints. rw root_is refl) (λ ints. entered_if (root == me) buffer_cells buffer_count buffer_cells_first.length)
    (λ ints. omega (arith, buffer_count_few))))))))))

gather_proper : (out buffer : Buffer) (root comm : TypedExpr) → HasProperEffect (t.collective (t.gather out buffer root comm))
gather_proper out buffer root comm n me own s good =
    let P : Effect → Type 0 = IsProperEffect n me own in
    given_free P (range out.cells s) _ (λ out_cells. given_free P (value out.count s) _ (λ out_count.
    on_range P s good.slots buffer.cells _ (λ buffer_cells buffer_cells_few.
    given_free P (value buffer.count s) _ (λ buffer_count. given_free P (value root s) _ (λ root. given_free P (value comm s) _ (λ comm.
    on_comm P n me own s good comm _ (λ comm known.
    on_count P out_count _ (λ out_count out_count_few.
    on_root_count P (is_given_root (rank_of n me) comm root) out_count buffer_count _ (λ count count_same.
    on_member P comm root _ (λ root root_is.
    on_enters P count out_cells _ (λ entered entered_is.
    on_root_gets P (is_me (rank_of n me) root) (ints_for_all_members comm count) buffer_cells _ (λ into into_within.
    join_holds n me own comm Gather (Some root) None count entered into known root_is
    (λ ints. rw root_is refl) (λ ints. sym entered_is)
    (λ ints. few_if (root == me) (ints_for_all_members comm count) (λ t. let within = into_within t in omega (arith, within, buffer_cells_few)))))))))))))))

scatter_proper : (out buffer : Buffer) (root comm : TypedExpr) → HasProperEffect (t.collective (t.scatter out buffer root comm))
scatter_proper out buffer root comm n me own s good =
    let P : Effect → Type 0 = IsProperEffect n me own in
    given_free P (range out.cells s) _ (λ out_cells. given_free P (value out.count s) _ (λ out_count. given_free P (range buffer.cells s) _ (λ buffer_cells.
    given_free P (value buffer.count s) _ (λ buffer_count. given_free P (value root s) _ (λ root. given_free P (value comm s) _ (λ comm.
    on_comm P n me own s good comm _ (λ comm known.
    on_count P buffer_count _ (λ buffer_count buffer_count_few.
    on_root_count P (is_given_root (rank_of n me) comm root) buffer_count out_count _ (λ count count_same.
    on_member P comm root _ (λ root root_is.
    on_root_enters P (is_me (rank_of n me) root) (ints_for_all_members comm count) out_cells _ (λ entered entered_is.
    on_gets P count buffer_cells _ (λ into into_within.
    join_holds n me own comm Scatter (Some root) None count entered into known root_is
    (λ ints. rw root_is refl) (λ ints. sym entered_is)
    (λ ints. omega (arith, count_same, buffer_count_few))))))))))))))

allgather_proper : (out buffer : Buffer) (comm : TypedExpr) → HasProperEffect (t.collective (t.allgather out buffer comm))
allgather_proper out buffer comm n me own s good =
    let P : Effect → Type 0 = IsProperEffect n me own in
    given_free P (range out.cells s) _ (λ out_cells. given_free P (value out.count s) _ (λ out_count.
    on_range P s good.slots buffer.cells _ (λ buffer_cells buffer_cells_few.
    given_free P (value buffer.count s) _ (λ buffer_count. given_free P (value comm s) _ (λ comm.
    on_comm P n me own s good comm _ (λ comm known.
    on_count P out_count _ (λ out_count out_count_few.
    on_same P out_count buffer_count _ (λ count count_same.
    on_enters P count out_cells _ (λ entered entered_is.
    on_gets P (ints_for_all_members comm count) buffer_cells _ (λ into into_within.
    join_holds n me own comm Allgather None None count entered into known tt
    (λ ints. refl) (λ ints. sym entered_is)
    (λ ints. omega (arith, into_within, buffer_cells_few))))))))))))

alltoall_proper : (out buffer : Buffer) (comm : TypedExpr) → HasProperEffect (t.collective (t.alltoall out buffer comm))
alltoall_proper out buffer comm n me own s good =
    let P : Effect → Type 0 = IsProperEffect n me own in
    given_free P (range out.cells s) _ (λ out_cells. given_free P (value out.count s) _ (λ out_count.
    on_range P s good.slots buffer.cells _ (λ buffer_cells buffer_cells_few.
    given_free P (value buffer.count s) _ (λ buffer_count. given_free P (value comm s) _ (λ comm.
    on_comm P n me own s good comm _ (λ comm known.
    on_count P out_count _ (λ out_count out_count_few.
    on_same P out_count buffer_count _ (λ count count_same.
    on_enters P (ints_for_all_members comm count) out_cells _ (λ entered entered_is.
    on_gets P (ints_for_all_members comm count) buffer_cells _ (λ into into_within.
    join_holds n me own comm Alltoall None None count entered into known tt
    (λ ints. refl) (λ ints. sym entered_is)
    (λ ints. omega (arith, into_within, buffer_cells_few))))))))))))

reduce_proper : (reduction : Reduction) (root comm : TypedExpr) → HasProperEffect (t.collective (t.reduce reduction root comm))
reduce_proper reduction root comm n me own s good =
    let P : Effect → Type 0 = IsProperEffect n me own in
    given_free P (range reduction.send s) _ (λ out. given_free P (range reduction.receive s) _ (λ buffer. given_free P (value reduction.count s) _ (λ count. given_free P (value root s) _ (λ root.
    given_free P (value comm s) _ (λ comm.
    on_comm P n me own s good comm _ (λ comm known.
    on_count P count _ (λ count count_few.
    on_member P comm root _ (λ root root_is.
    on_enters P count out _ (λ entered entered_is.
    on_root_gets P (is_me (rank_of n me) root) count buffer _ (λ into into_within.
    join_holds n me own comm Reduce (Some root) (Some reduction.op) count entered into known root_is
    (λ ints. rw root_is refl) (λ ints. sym entered_is)
    (λ ints. few_if (root == me) count (λ t. omega (arith, count_few)))))))))))))

allreduce_proper : (reduction : Reduction) (comm : TypedExpr) → HasProperEffect (t.collective (t.allreduce reduction comm))
allreduce_proper reduction comm n me own s good =
    let P : Effect → Type 0 = IsProperEffect n me own in
    given_free P (range reduction.send s) _ (λ out. given_free P (range reduction.receive s) _ (λ buffer. given_free P (value reduction.count s) _ (λ count. given_free P (value comm s) _ (λ comm.
    on_comm P n me own s good comm _ (λ comm known.
    on_count P count _ (λ count count_few.
    on_enters P count out _ (λ entered entered_is.
    on_gets P count buffer _ (λ into into_within.
    join_holds n me own comm Allreduce None (Some reduction.op) count entered into known tt
    (λ ints. refl) (λ ints. sym entered_is)
    (λ ints. omega (arith, count_few))))))))))

scan_proper : (reduction : Reduction) (comm : TypedExpr) → HasProperEffect (t.collective (t.scan reduction comm))
scan_proper reduction comm n me own s good =
    let P : Effect → Type 0 = IsProperEffect n me own in
    given_free P (range reduction.send s) _ (λ out. given_free P (range reduction.receive s) _ (λ buffer. given_free P (value reduction.count s) _ (λ count. given_free P (value comm s) _ (λ comm.
    on_comm P n me own s good comm _ (λ comm known.
    on_count P count _ (λ count count_few.
    on_enters P count out _ (λ entered entered_is.
    on_gets P count buffer _ (λ into into_within.
    join_holds n me own comm Scan None (Some reduction.op) count entered into known tt
    (λ ints. refl) (λ ints. sym entered_is)
    (λ ints. omega (arith, count_few))))))))))

collective_kept : (call : CollectiveCall) → HasProperEffect (t.collective call)
collective_kept (t.barrier comm) n me own s good = barrier_proper comm n me own s good
collective_kept (t.bcast buffer root comm) n me own s good = bcast_proper buffer root comm n me own s good
collective_kept (t.gather out buffer root comm) n me own s good = gather_proper out buffer root comm n me own s good
collective_kept (t.scatter out buffer root comm) n me own s good = scatter_proper out buffer root comm n me own s good
collective_kept (t.allgather out buffer comm) n me own s good = allgather_proper out buffer comm n me own s good
collective_kept (t.alltoall out buffer comm) n me own s good = alltoall_proper out buffer comm n me own s good
collective_kept (t.reduce reduction root comm) n me own s good = reduce_proper reduction root comm n me own s good
collective_kept (t.allreduce reduction comm) n me own s good = allreduce_proper reduction comm n me own s good
collective_kept (t.scan reduction comm) n me own s good = scan_proper reduction comm n me own s good

comm_size_proper : (comm : TypedExpr) (into : Reference) → HasProperEffect (t.communicator (t.comm_size comm into))
comm_size_proper comm into n me own s good =
    let P : Effect → Type 0 = IsProperEffect n me own in
    given_free P (value comm s) _ (λ comm. given_free P (range into s) _ (λ into.
    on_comm P n me own s good comm _ (λ comm known.
    given_free P (cell_of_answer into) _ (λ into.
    tt))))

comm_rank_proper : (comm : TypedExpr) (into : Reference) → HasProperEffect (t.communicator (t.comm_rank comm into))
comm_rank_proper comm into n me own s good =
    let P : Effect → Type 0 = IsProperEffect n me own in
    given_free P (value comm s) _ (λ comm. given_free P (range into s) _ (λ into.
    on_comm P n me own s good comm _ (λ comm known.
    given_free P (cell_of_answer into) _ (λ into.
    tt))))

comm_dup_proper : (comm : TypedExpr) (into : Reference) → HasProperEffect (t.communicator (t.comm_dup comm into))
comm_dup_proper comm into n me own s good =
    let P : Effect → Type 0 = IsProperEffect n me own in
    given_free P (value comm s) _ (λ comm. given_free P (range into s) _ (λ into.
    on_comm P n me own s good comm _ (λ comm known.
    given_free P (cell_of_answer into) _ (λ into.
    join_holds n me own comm Dup None None 0 EntersNothing (Handle into) known tt
    (λ ints. refl) (λ ints. refl)
    (λ ints. omega arith)))))

comm_split_proper : (comm color key : TypedExpr) (into : Reference) → HasProperEffect (t.communicator (t.comm_split comm color key into))
comm_split_proper comm color key into n me own s good =
    let P : Effect → Type 0 = IsProperEffect n me own in
    given_free P (value comm s) _ (λ comm. given_free P (value color s) _ (λ color. given_free P (value key s) _ (λ key. given_free P (range into s) _ (λ into.
    on_comm P n me own s good comm _ (λ comm known.
    given_free P (colour color) _ (λ color. given_free P (cell_of_answer into) _ (λ into.
    join_holds n me own comm Split None None 0 (Pair color key) (Handle into) known tt
    (λ ints. refl) (λ ints. refl)
    (λ ints. omega arith))))))))

comm_free_proper : (into : Reference) → HasProperEffect (t.communicator (t.comm_free into))
comm_free_proper into n me own s good =
    let P : Effect → Type 0 = IsProperEffect n me own in
    given_free P (range into s) _ (λ into. given_free P (cell_of_answer into) _ (λ into.
    tt))

communicator_kept : (call : CommunicatorCall) → HasProperEffect (t.communicator call)
communicator_kept (t.comm_size comm into) n me own s good = comm_size_proper comm into n me own s good
communicator_kept (t.comm_rank comm into) n me own s good = comm_rank_proper comm into n me own s good
communicator_kept (t.comm_dup comm into) n me own s good = comm_dup_proper comm into n me own s good
communicator_kept (t.comm_split comm color key into) n me own s good = comm_split_proper comm color key into n me own s good
communicator_kept (t.comm_free into) n me own s good = comm_free_proper into n me own s good

-- ---- all

abort_proper : (comm code : TypedExpr) → HasProperEffect (t.abort comm code)
abort_proper comm code n me own s good =
    let P : Effect → Type 0 = IsProperEffect n me own in
    given_free P (value comm s) _ (λ comm. given_free P (value code s) _ (λ code.
    on_comm P n me own s good comm _ (λ comm known.
    tt)))

effect_kept : (call : MpiCall) → HasProperEffect call
effect_kept t.init n me own s good = tt
effect_kept t.finalize n me own s good = tt
effect_kept (t.abort comm code) n me own s good = abort_proper comm code n me own s good
effect_kept (t.message call) n me own s good = message_kept call n me own s good
effect_kept (t.completion call) n me own s good = completion_kept call n me own s good
effect_kept (t.probing call) n me own s good = probe_kept call n me own s good
effect_kept (t.collective call) n me own s good = collective_kept call n me own s good
effect_kept (t.communicator call) n me own s good = communicator_kept call n me own s good

pub effect_proper : (n me : ℕ) (call : MpiCall) (effect : Effect) (own : View) (s : State) → IsGoodState n me own s → effect_of (rank_of n me) call s ≡ Ok effect → IsProperEffect n me own effect
effect_proper n me call effect own s good is = of_holds (IsProperEffect n me own) (effect_of (rank_of n me) call s) effect (effect_kept call n me own s good) is
