-- Arrows go right: they are steps from starts.
use Rattle.std.proofs.Common.{◌≡◌, ◌≤◌, ◌<◌, ◌==◌, ◌&&◌, ◌∷◌, [], ℕ, zero, suc, Bool, List, Option, Some, None, true, false, find, flat_map, inl, inr, refl, ap, sym, ◌∙◌, arith, get_or, length, length-take-le, slice_get, subst, take}
use Rattle.std.specs.Option.{option_to_list}
use Rattle.std.proofs.lemmas.Bool.{and_parts, eqb-true}
use Rattle.mpi_call.specs.declared.call.Call.{Call}
use Rattle.mpi_call.specs.declared.call.Call.TheVariants.{Abort, End, Enter, Peek, Post, Send, Take, Trap}
use Rattle.mpi_call.specs.declared.call.Source.{Source}
use Rattle.mpi_call.specs.declared.call.Source.TheVariants.{Any, From, Null}
use Rattle.mpi_call.specs.declared.call.Tag.{Tag}
use Rattle.mpi_call.specs.declared.reply.Got.{Got}
use Rattle.mpi_call.specs.declared.reply.Got.TheVariants.{Joined, Made, Message as GotMessage, Nothing, Sent}
use Rattle.mpi_call.specs.declared.reply.Item.{Item}
use Rattle.mpi_call.specs.declared.reply.Reply.{Reply}
use Rattle.mpi_call.specs.declared.reply.Reply.TheVariants.{Done, NotYet, Peeked, Stopped, Took}
use Rattle.mpi_call.specs.Calls.{is_starting, listed_by}
use Rattle.mpi_call.specs.Lists.{IsIn}
use Rattle.mpi_call.specs.Needs.{needs}
use Rattle.run_model.specs.declared.event.Event.{Event}
use Rattle.run_model.specs.Communicators.{is_enter_of, is_on, members_for_rank}
use Rattle.run_model.specs.Due.{stops}
use Rattle.run_model.specs.Views.{is_done, is_start, view_of}
use Rattle.run_model.proofs.StartLemmas.{slice_get-below}
use Rattle.run_model.proofs.Views.{test_cases}
use Rattle.causes.specs.Before.{PrecedesDirectly}
use Rattle.causes.specs.Before.IsBefore.{step}
use Rattle.causes.specs.Positions.{enter_position, enter_instance_at, is_event_of, is_start_of, positions, start_position}
use Rattle.causes.specs.Steps.{collected_from, completed_from, needed_enters, entered_one, given_at, given_by, given_from, received_at, rests_on, given_by_items}
use Rattle.causes.proofs.PositionLemmas.{placed-in}
use Rattle.msg_races.specs.Listing.{lists_below}
use Rattle.msg_races.proofs.SortedLists.{in_back, in_front, in_parts}
use Rattle.group_plan.specs.Plans.{number_of_ranks}
use Rattle.run_drawing.specs.declared.drawing.Arrow.{Arrow}
use Rattle.run_drawing.specs.declared.drawing.DrawnCollective.{DrawnCollective}
use Rattle.run_drawing.specs.declared.drawing.DrawnMessage.{DrawnMessage}
use Rattle.run_drawing.specs.declared.drawing.Point.{Point}
use Rattle.run_drawing.specs.declared.drawing.DrawnReceive.{DrawnReceive}
use Rattle.run_drawing.specs.declared.links.CompletedStart.{CompletedStart}
use Rattle.run_drawing.specs.Basis.{Basis}
use Rattle.run_drawing.specs.Columns.{column, point}
use Rattle.run_drawing.specs.Depths.{AreDepths}
use Rattle.run_drawing.specs.Drawings.{arrow_from, collective_at, collective_by, collective_in, collective_of, bar_end, latest_of, completed_message, drawn_message, of_events, of_starts, probe_at, probe_by, probe_in, receive_at, receive_by, receive_in, drawn_receive}
use Rattle.run_drawing.specs.Drawn.{Drawn}
use Rattle.run_drawing.specs.Laws.{ArrowsGoRight}
use Rattle.run_drawing.specs.Links.{cause_at, cause_in, completion_in, deepest, link_by, links, links_at, links_by, event_links, links_in}
use Rattle.run_drawing.proofs.ColumnLemmas.{columns_rise}
use Rattle.run_drawing.proofs.Deepest.{deepest_among}
use Rattle.run_drawing.proofs.DepthLemmas.{get_taken}
use Rattle.run_drawing.specs.Choices.{posted_at}

-- elements of joined lists
pub in_joined : {A : Type 0} (f : ℕ → List A) (n : ℕ) (a : A) → IsIn a (lists_below f n) → (k : ℕ) × IsIn a (f k) × (k < n)
in_joined f zero a h = absurd h
in_joined f (suc n) a h = elim (in_parts a (lists_below f n) (f n) h) [
  | inl l ↦ (let rest = in_joined f n a l in let low = rest.2 in (rest.0, rest.1, omega (arith, low)))
  | inr r ↦ (n, r, omega arith)
]

in_mapped : {A : Type 0} (f : ℕ → List A) (xs : List ℕ) (a : A) → IsIn a (flat_map f xs) → (x : ℕ) × IsIn a (f x)
in_mapped f [] a h = absurd h
in_mapped f (x ∷ xs) a h = elim (in_parts a (f x) (flat_map f xs) h) [
  | inl l ↦ (x, l)
  | inr r ↦ in_mapped f xs a r
]

found_in : (test : CompletedStart → Bool) (xs : List CompletedStart) (link : CompletedStart) → find test xs ≡ Some link → IsIn link xs × (test link ≡ true)
found_in test [] link h = absurd (cc)
found_in test (x ∷ xs) link h = elim (test_cases (test x)) [
  | inl t ↦ (
      let some : Some x ≡ Some link = rw t at h in
      let same : x ≡ link = cc in
      (inl same, ap test (sym same) ∙ t))
  | inr t ↦ (let rest = found_in test xs link (rw t at h) in (inr rest.0, rest.1))
]

-- a start among these events
record IsStarted (before : List Event) (s : ℕ) : Type 0 where
  event : Event
  there : slice_get before s ≡ Some event
  start : is_start (event.call, event.reply) ≡ true

pub listed_is : (o : Option ℕ) (s : ℕ) → IsIn s (option_to_list o) → o ≡ Some s
listed_is None s h = absurd h
listed_is (Some p) s h = elim h [ inl e ↦ ap Some e | inr never ↦ absurd never ]

pub get_in : (xs : List ℕ) (k x : ℕ) → slice_get xs k ≡ Some x → IsIn x xs
get_in [] k x h = absurd (cc)
get_in (y ∷ xs) zero x h = (let e : y ≡ x = cc in inl e)
get_in (y ∷ xs) (suc k) x h = inr (get_in xs k x h)

start_there : (before : List Event) (rank number s : ℕ) → start_position before rank number ≡ Some s → IsStarted before s
start_there before rank number s h =
    let placed = placed-in (is_start_of rank) before s (get_in (positions (is_start_of rank) 0 before) number s h) in
    record { event = placed.event; there = placed.there; start = (and_parts (is_start (placed.event.call, placed.event.reply)) (placed.event.rank == rank) placed.passes).0 }

enter_there : (before : List Event) (rank comm instance s : ℕ) → enter_position before rank comm instance ≡ Some s → IsStarted before s
enter_there before rank comm instance s h =
    let placed = placed-in (is_enter_of rank comm) before s (get_in (positions (is_enter_of rank comm) 0 before) instance s h) in
    record { event = placed.event; there = placed.there; start = (and_parts (is_start (placed.event.call, placed.event.reply)) (is_on comm placed.event.call && (placed.event.rank == rank)) placed.passes).0 }

entered_one_there : (before : List Event) (comm instance : ℕ) (needed : ℕ → Bool) (m s : ℕ) → IsIn s (entered_one before comm instance needed m) → IsStarted before s
entered_one_there before comm instance needed m s h = elim (test_cases (needed m)) [
  | inl t ↦ enter_there before m comm instance s (listed_is (enter_position before m comm instance) s (rw t at h))
  | inr t ↦ (let none : IsIn s [] = rw t at h in absurd none)
]

entered_there : (before : List Event) (comm instance : ℕ) (needed : ℕ → Bool) (members : List ℕ) (s : ℕ) → IsIn s (needed_enters before comm instance needed members) → IsStarted before s
entered_there before comm instance needed [] s h = absurd h
entered_there before comm instance needed (m ∷ members) s h =
    elim (in_parts s (entered_one before comm instance needed m) (needed_enters before comm instance needed members) h) [
      | inl l ↦ entered_one_there before comm instance needed m s l
      | inr r ↦ entered_there before comm instance needed members s r
    ]

collected_there : (n : ℕ) (before : List Event) (me at : ℕ) (call : Call) (s : ℕ) → IsIn s (collected_from n before me at call) → IsStarted before s
collected_there n before me at (Enter comm kind root op count ints) s h =
    entered_there before comm (enter_instance_at before me comm at) (needs (Enter comm kind root op count ints) (members_for_rank n (view_of before me) comm) me) (members_for_rank n (view_of before me) comm) s h
collected_there n before me at (Send comm dest tag ints sync) s h = absurd h
collected_there n before me at (Post comm source tag room) s h = absurd h
collected_there n before me at (Take starts mode) s h = absurd h
collected_there n before me at (Peek comm source tag wait) s h = absurd h
collected_there n before me at (Abort code) s h = absurd h
collected_there n before me at (Trap fault) s h = absurd h
collected_there n before me at End s h = absurd h

-- a receive or a collective
abbrev IsReceiving : Call → Type 0
IsReceiving (Post comm source tag room) = Unit {0}
IsReceiving (Enter comm kind root op count ints) = Unit {0}
IsReceiving call = ⊥

none_received : (before : List Event) (at : ℕ) (call : Call) (s : ℕ) → IsReceiving call → IsIn s (received_at before at call) → ⊥
none_received before at (Post comm source tag room) s is h = h
none_received before at (Enter comm kind root op count ints) s is h = h
none_received before at (Send comm dest tag ints sync) s is h = is
none_received before at (Take starts mode) s is h = is
none_received before at (Peek comm source tag wait) s is h = is
none_received before at (Abort code) s is h = is
none_received before at (Trap fault) s is h = is
none_received before at End s is h = is

given_there : (n : ℕ) (before : List Event) (me at : ℕ) (start : Event) (got : Got) (s : ℕ) → IsReceiving start.call → IsIn s (given_from n before me at start got) → IsStarted before s
given_there n before me at start (GotMessage source number tag ints) s is h = start_there before source number s (listed_is (start_position before source number) s h)
given_there n before me at start (Joined ints) s is h = collected_there n before me at start.call s h
given_there n before me at start (Made comm members) s is h = collected_there n before me at start.call s h
given_there n before me at start Sent s is h = absurd (none_received before at start.call s is h)
given_there n before me at start Nothing s is h = absurd h

-- what the completion of a receive or a collective had to wait for is a start
completed_there : (n : ℕ) (before : List Event) (me number p : ℕ) (start : Event) (got : Got) (s : ℕ) → start_position before me number ≡ Some p → slice_get before p ≡ Some start
    → IsReceiving start.call → IsIn s (completed_from n before me number got) → IsStarted before s
completed_there n before me number p start got s at there is h =
    let P : Option ℕ → Type 0 = λ o. IsIn s (given_by n before me o got) in
    let Q : Option Event → Type 0 = λ o. IsIn s (given_at n before me p o got) in
    given_there n before me p start got s is (subst Q there (subst P at h))

-- a start stops no rank
done_goes : (reply : Reply) → is_done reply ≡ true → stops reply ≡ false
done_goes Done h = refl
done_goes (Took items) h = absurd (cc)
done_goes NotYet h = absurd (cc)
done_goes (Peeked source start tag count) h = absurd (cc)
done_goes (Stopped halt) h = absurd (cc)

-- what makes a link
record IsLinked (n : ℕ) (depths : List ℕ) (before : List Event) (me : ℕ) (starts : List ℕ) (items : List Item) (link : CompletedStart) : Type 0 where
  number : ℕ
  got : Got
  start : start_position before me number ≡ Some link.start
  at : link.at ≡ length before
  cause : link.cause ≡ deepest depths (completed_from n before me number got)
  among : (t : ℕ) → IsIn t (completed_from n before me number got) → IsIn t (given_by_items n before me starts items)

linked_by : (o : Option ℕ) (at : ℕ) (cause : Option ℕ) (link : CompletedStart) → IsIn link (link_by o at cause) → (o ≡ Some link.start) × (link.at ≡ at) × (link.cause ≡ cause)
linked_by None at cause link h = absurd h
linked_by (Some start) at cause link h = elim h [
  | inl e ↦ (ap (λ (l : CompletedStart). Some l.start) e, sym (ap (λ (l : CompletedStart). l.at) e), sym (ap (λ (l : CompletedStart). l.cause) e))
  | inr never ↦ absurd never
]

linked_in : (n : ℕ) (depths : List ℕ) (before : List Event) (me : ℕ) (starts : List ℕ) (items : List Item) (link : CompletedStart) → IsIn link (links_in n depths before me starts items)
    → IsLinked n depths before me starts items link
linked_in n depths before me starts [] link h = absurd h
linked_in n depths before me starts (item ∷ items) link h =
    let number : ℕ = get_or starts item.index 0 in
    let rests : List ℕ = completed_from n before me number item.got in
    let later : List ℕ = given_by_items n before me starts items in
    elim (in_parts link (link_by (start_position before me number) (length before) (deepest depths rests)) (links_in n depths before me starts items) h) [
      | inl l ↦ (
          let is = linked_by (start_position before me number) (length before) (deepest depths rests) link l in
          record { number = number; got = item.got; start = is.0; at = is.1; cause = is.2; among = λ t there. in_front t rests later there })
      | inr r ↦ (
          let rest = linked_in n depths before me starts items link r in
          record {
            number = rest.number;
            got = rest.got;
            start = rest.start;
            at = rest.at;
            cause = rest.cause;
            among = λ t there. in_back t rests later (rest.among t there);
          })
    ]

by_reply : (n : ℕ) (depths : List ℕ) (before : List Event) (me : ℕ) (call : Call) (reply : Reply) (link : CompletedStart) → IsIn link (links_by n depths before me call reply)
    → (items : List Item) × IsLinked n depths before me (listed_by call) items link × (reply ≡ Took items)
by_reply n depths before me call (Took items) link h = (items, linked_in n depths before me (listed_by call) items link h, refl)
by_reply n depths before me call Done link h = absurd h
by_reply n depths before me call NotYet link h = absurd h
by_reply n depths before me call (Peeked source start tag count) link h = absurd h
by_reply n depths before me call (Stopped halt) link h = absurd h

by_event : (n : ℕ) (depths : List ℕ) (before : List Event) (o : Option Event) (link : CompletedStart) → IsIn link (event_links n depths before o)
    → (event : Event) × IsIn link (links_by n depths before event.rank event.call event.reply) × (o ≡ Some event)
by_event n depths before None link h = absurd h
by_event n depths before (Some event) link h = (event, h, refl)

-- a step from a start that stops no rank
record IsRight (basis : Basis) (s u : ℕ) : Type 0 where
  event : Event
  there : slice_get basis.events s ≡ Some event
  goes : stops event.reply ≡ false
  step : PrecedesDirectly basis.ranks basis.events s u

right_of : (basis : Basis) (s u : ℕ) → AreDepths basis.ranks basis.events basis.depths → IsRight basis s u → column basis s < column basis u
right_of basis s u are right = columns_rise basis s u right.event are right.there right.goes (step s u right.step)

started_goes : (events : List Event) (k s : ℕ) → (started : IsStarted (take k events) s) → (slice_get events s ≡ Some started.event) × (stops started.event.reply ≡ false)
started_goes events k s started = (
  get_taken events k s started.event started.there,
  done_goes started.event.reply (and_parts (is_starting started.event.call) (is_done started.event.reply) started.start).1,
)

long_taken : {A : Type 0} (k : ℕ) (xs : List A) → k ≤ length xs → length (take k xs) ≡ k
long_taken k xs low = length-take-le k xs low

-- a link of a receive or a collective: from its cause to its completion
link_right : (basis : Basis) (link : CompletedStart) (start : Event) (s : ℕ) → AreDepths basis.ranks basis.events basis.depths → IsIn link (links basis)
    → slice_get basis.events link.start ≡ Some start → IsReceiving start.call → link.cause ≡ Some s → IsRight basis s link.at
link_right basis link start s are among there receiving cause =
    let n : ℕ = basis.ranks in
    let events : List Event = basis.events in
    let depths : List ℕ = basis.depths in
    let found = in_joined (links_at n events depths) (length events) link among in
    let k : ℕ = found.0 in
    let low = found.2 in
    let at_event = by_event n (take k depths) (take k events) (slice_get events k) link found.1 in
    let event : Event = at_event.0 in
    let at_reply = by_reply n (take k depths) (take k events) event.rank event.call event.reply link at_event.1 in
    let linked = at_reply.1 in
    let many = are.as_many in
    let long = long_taken k events (omega (arith, low)) in
    let deep = long_taken k depths (omega (arith, low, many)) in
    let is : deepest (take k depths) (completed_from n (take k events) event.rank linked.number linked.got) ≡ Some s = sym linked.cause ∙ cause in
    let one = deepest_among (take k depths) (completed_from n (take k events) event.rank linked.number linked.got) s is in
    let within = one.1 in
    let placed = start_there (take k events) event.rank linked.number link.start linked.start in
    let same_start : Some placed.event ≡ Some start = sym (get_taken events k link.start placed.event placed.there) ∙ there in
    let start_is : placed.event ≡ start = cc in
    let R : Event → Type 0 = λ e. IsReceiving e.call in
    let started = completed_there n (take k events) event.rank linked.number link.start placed.event linked.got s linked.start placed.there (subst R (sym start_is) receiving) one.0 in
    let goes = started_goes events k s started in
    let rests : IsIn s (rests_on n (take k events) event.rank event.call event.reply) =
    (let P : Reply → Type 0 = λ r. IsIn s (rests_on n (take k events) event.rank event.call r) in subst P (sym at_reply.2) (linked.among s one.0)) in
    let at_k : link.at ≡ k = linked.at ∙ long in
    let S : ℕ → Type 0 = λ u. PrecedesDirectly n events s u in
    record {
      event = started.event;
      there = goes.0;
      goes = goes.1;
      step = subst S (sym at_k) (record {
        event = event;
        at = at_event.2;
        direct = record { less = omega (arith, within, deep, long); why = inr rests };
      });
    }

-- the message of a receive
message_right : (basis : Basis) (rank comm : ℕ) (source : Source) (tag : Tag) (p : ℕ) (start : Event) (completion : Option CompletedStart) (message : DrawnMessage)
    → AreDepths basis.ranks basis.events basis.depths → slice_get basis.events p ≡ Some start → IsReceiving start.call
    → completion_in (links basis) p ≡ completion → completed_message basis (posted_at p rank comm source tag) completion ≡ Some message → message.sender.column < bar_end basis rank completion
message_right basis rank comm source tag p start None message are there receiving is h = absurd (cc)
message_right basis rank comm source tag p start (Some link) message are there receiving is h =
    by_cause link.cause refl h
  where
    by_cause : (cause : Option ℕ) → link.cause ≡ cause → drawn_message basis (posted_at p rank comm source tag) link.at cause ≡ Some message → message.sender.column < column basis link.at
    by_cause None e m = absurd (cc)
    by_cause (Some s) e m =
        let found = found_in (λ (l : CompletedStart). l.start == p) (links basis) link is in
        let at : link.start ≡ p = eqb-true link.start p found.1 in
        let here : slice_get basis.events link.start ≡ Some start = ap (slice_get basis.events) at ∙ there in
        let right = right_of basis s link.at are (link_right basis link start s are found.0 here receiving e) in
        let sender : Some (point basis s) ≡ Some message.sender = ap some_sender m in
        let same : point basis s ≡ message.sender = cc in
        let value : message.sender.column ≡ column basis s = ap (λ (q : Point). q.column) (sym same) in
        omega (arith, right, value)
      where
        some_sender : Option DrawnMessage → Option Point
        some_sender None = None
        some_sender (Some m) = Some m.sender

-- a receive that is posted
posted_right : (basis : Basis) (p rank comm : ℕ) (source : Source) (tag : Tag) (room : ℕ) (start : Event) (receive : DrawnReceive) (message : DrawnMessage) → AreDepths basis.ranks basis.events basis.depths
    → slice_get basis.events p ≡ Some start → start.call ≡ Post comm source tag room
    → IsIn receive (drawn_receive basis (posted_at p rank comm source tag) (completion_in (links basis) p) ∷ []) → receive.message ≡ Some message → message.sender.column < receive.to
posted_right basis p rank comm source tag room start receive message are there call h m = elim h [
  | inl e ↦ (
      let R : Call → Type 0 = λ c. IsReceiving c in
      let is : completed_message basis (posted_at p rank comm source tag) (completion_in (links basis) p) ≡ Some message = ap (λ (r : DrawnReceive). r.message) e ∙ m in
      let right = message_right basis rank comm source tag p start (completion_in (links basis) p) message are there (subst R (sym call) tt) refl is in
      let end : bar_end basis rank (completion_in (links basis) p) ≡ receive.to = ap (λ (r : DrawnReceive). r.to) e in
      omega (arith, right, end))
  | inr never ↦ absurd never
]

-- a receive of an event
receive_right : (basis : Basis) (p rank : ℕ) (start : Event) (call : Call) (receive : DrawnReceive) (message : DrawnMessage) → AreDepths basis.ranks basis.events basis.depths
    → slice_get basis.events p ≡ Some start → start.call ≡ call → IsIn receive (receive_by basis p rank call) → receive.message ≡ Some message
    → message.sender.column < receive.to
receive_right basis p rank start (Post comm Null tag room) receive message are there call h m = absurd h
receive_right basis p rank start (Post comm Any tag room) receive message are there call h m =
    posted_right basis p rank comm Any tag room start receive message are there call h m
receive_right basis p rank start (Post comm (From q) tag room) receive message are there call h m =
    posted_right basis p rank comm (From q) tag room start receive message are there call h m
receive_right basis p rank start (Send comm dest tag ints sync) receive message are there call h m = absurd h
receive_right basis p rank start (Enter comm kind root op count ints) receive message are there call h m = absurd h
receive_right basis p rank start (Take starts mode) receive message are there call h m = absurd h
receive_right basis p rank start (Peek comm source tag wait) receive message are there call h m = absurd h
receive_right basis p rank start (Abort code) receive message are there call h m = absurd h
receive_right basis p rank start (Trap fault) receive message are there call h m = absurd h
receive_right basis p rank start End receive message are there call h m = absurd h

receives_right : (basis : Basis) (p : ℕ) (o : Option Event) (receive : DrawnReceive) (message : DrawnMessage) → AreDepths basis.ranks basis.events basis.depths
    → slice_get basis.events p ≡ o → IsIn receive (receive_in basis p o) → receive.message ≡ Some message → message.sender.column < receive.to
receives_right basis p None receive message are there h m = absurd h
receives_right basis p (Some event) receive message are there h m = receive_right basis p event.rank event event.call receive message are there refl h m

-- the last Enter that a collective had to wait for
latest_right : (basis : Basis) (p : ℕ) (cause : Option ℕ) (latest : Point) → latest_of basis p cause ≡ Some latest → (s : ℕ) × (cause ≡ Some s) × (point basis s ≡ latest)
latest_right basis p None latest h = absurd (cc)
latest_right basis p (Some q) latest h = elim (test_cases (q == p)) [
  | inl t ↦ (let none : None ≡ Some latest = rw t at h in absurd (cc))
  | inr t ↦ (
      let some : Some (point basis q) ≡ Some latest = rw t at h in
      let same : point basis q ≡ latest = cc in
      (q, refl, same))
]

entered_right : (basis : Basis) (p rank : ℕ) (start : Event) (completion : Option CompletedStart) (collective : DrawnCollective) (latest : Point) → AreDepths basis.ranks basis.events basis.depths
    → slice_get basis.events p ≡ Some start → IsReceiving start.call → completion_in (links basis) p ≡ completion
    → IsIn collective (collective_of basis p rank completion) → collective.latest ≡ Some latest → latest.column < collective.to
entered_right basis p rank start None collective latest are there receiving is h l = absurd h
entered_right basis p rank start (Some link) collective latest are there receiving is h l = elim h [
  | inl e ↦ (
      let found = found_in (λ (x : CompletedStart). x.start == p) (links basis) link is in
      let at : link.start ≡ p = eqb-true link.start p found.1 in
      let here : slice_get basis.events link.start ≡ Some start = ap (slice_get basis.events) at ∙ there in
      let one = latest_right basis p link.cause latest (ap (λ (c : DrawnCollective). c.latest) e ∙ l) in
      let right = right_of basis one.0 link.at are (link_right basis link start one.0 are found.0 here receiving one.1) in
      let left : column basis one.0 ≡ latest.column = ap (λ (q : Point). q.column) one.2 in
      let end : column basis link.at ≡ collective.to = ap (λ (c : DrawnCollective). c.to) e in
      omega (arith, right, left, end))
  | inr never ↦ absurd never
]

collective_right : (basis : Basis) (p rank : ℕ) (start : Event) (call : Call) (collective : DrawnCollective) (latest : Point) → AreDepths basis.ranks basis.events basis.depths
    → slice_get basis.events p ≡ Some start → start.call ≡ call → IsIn collective (collective_by basis p rank call) → collective.latest ≡ Some latest
    → latest.column < collective.to
collective_right basis p rank start (Enter comm kind root op count ints) collective latest are there call h l =
    let R : Call → Type 0 = λ c. IsReceiving c in
    entered_right basis p rank start (completion_in (links basis) p) collective latest are there (subst R (sym call) tt) refl h l
collective_right basis p rank start (Post comm source tag room) collective latest are there call h l = absurd h
collective_right basis p rank start (Send comm dest tag ints sync) collective latest are there call h l = absurd h
collective_right basis p rank start (Take starts mode) collective latest are there call h l = absurd h
collective_right basis p rank start (Peek comm source tag wait) collective latest are there call h l = absurd h
collective_right basis p rank start (Abort code) collective latest are there call h l = absurd h
collective_right basis p rank start (Trap fault) collective latest are there call h l = absurd h
collective_right basis p rank start End collective latest are there call h l = absurd h

collectives_right : (basis : Basis) (p : ℕ) (o : Option Event) (collective : DrawnCollective) (latest : Point) → AreDepths basis.ranks basis.events basis.depths
    → slice_get basis.events p ≡ o → IsIn collective (collective_in basis p o) → collective.latest ≡ Some latest → latest.column < collective.to
collectives_right basis p None collective latest are there h l = absurd h
collectives_right basis p (Some event) collective latest are there h l = collective_right basis p event.rank event event.call collective latest are there refl h l

-- a message that a probe found
found_right : (basis : Basis) (p : ℕ) (event : Event) (source number tag count : ℕ) (cause : Option ℕ) (probe : Arrow) → AreDepths basis.ranks basis.events basis.depths
    → slice_get basis.events p ≡ Some event → event.reply ≡ Peeked source number tag count → cause_at basis.ranks basis.events basis.depths p ≡ cause
    → IsIn probe (arrow_from basis cause p) → probe.from.column < probe.to.column
found_right basis p event source number tag count None probe are there reply is h = absurd h
found_right basis p event source number tag count (Some s) probe are there reply is h = elim h [
  | inl e ↦ (
      let n : ℕ = basis.ranks in
      let events : List Event = basis.events in
      let depths : List ℕ = basis.depths in
      let before : List Event = take p events in
      let C : Reply → Type 0 = λ r. deepest (take p depths) (rests_on n before event.rank event.call r) ≡ Some s in
      let O : Option Event → Type 0 = λ o. cause_in n (take p depths) before o ≡ Some s in
      let rests : List ℕ = option_to_list (start_position before source number) in
      let value : deepest (take p depths) rests ≡ Some s = subst C reply (subst O there is) in
      let one = deepest_among (take p depths) rests s value in
      let within = one.1 in
      let low = slice_get-below events p event there in
      let many = are.as_many in
      let long = long_taken p events (omega (arith, low)) in
      let deep = long_taken p depths (omega (arith, low, many)) in
      let started = start_there before source number s (listed_is (start_position before source number) s one.0) in
      let goes = started_goes events p s started in
      let R : Reply → Type 0 = λ r. IsIn s (rests_on n before event.rank event.call r) in
      let among : IsIn s (rests_on n before event.rank event.call event.reply) = subst R (sym reply) one.0 in
      let right : IsRight basis s p = record {
        event = started.event;
        there = goes.0;
        goes = goes.1;
        step = record { event = event; at = there; direct = record { less = omega (arith, within, deep, long); why = inr among } };
      } in
      let less = right_of basis s p are right in
      let left : column basis s ≡ probe.from.column = ap (λ (a : Arrow). a.from.column) e in
      let end : column basis p ≡ probe.to.column = ap (λ (a : Arrow). a.to.column) e in
      omega (arith, less, left, end))
  | inr never ↦ absurd never
]

probe_right : (basis : Basis) (p : ℕ) (event : Event) (reply : Reply) (probe : Arrow) → AreDepths basis.ranks basis.events basis.depths
    → slice_get basis.events p ≡ Some event → event.reply ≡ reply → IsIn probe (probe_by basis p reply) → probe.from.column < probe.to.column
probe_right basis p event (Peeked source number tag count) probe are there reply h =
    found_right basis p event source number tag count (cause_at basis.ranks basis.events basis.depths p) probe are there reply refl h
probe_right basis p event Done probe are there reply h = absurd h
probe_right basis p event (Took items) probe are there reply h = absurd h
probe_right basis p event NotYet probe are there reply h = absurd h
probe_right basis p event (Stopped halt) probe are there reply h = absurd h

probes_right : (basis : Basis) (p : ℕ) (o : Option Event) (probe : Arrow) → AreDepths basis.ranks basis.events basis.depths
    → slice_get basis.events p ≡ o → IsIn probe (probe_in basis p o) → probe.from.column < probe.to.column
probes_right basis p None probe are there h = absurd h
probes_right basis p (Some event) probe are there h = probe_right basis p event event.reply probe are there refl h

pub arrows_go_right : ArrowsGoRight
arrows_go_right plan events drawing is =
    let basis : Basis = record { ranks = number_of_ranks plan; events = events; depths = is.depths; before = is.before } in
    let n : ℕ = number_of_ranks plan in
    record {
      messages = λ receive message among m.
          let R : List DrawnReceive → Type 0 = λ l. IsIn receive l in
          let there = subst R (ap (λ (d : Drawn). d.receives) is.is) among in
          let of_rank = in_joined (of_starts (receive_at basis) events) n receive there in
          let of_start = in_mapped (receive_at basis) (positions (is_start_of of_rank.0) 0 events) receive of_rank.1 in
          receives_right basis of_start.0 (slice_get events of_start.0) receive message is.are_depths refl of_start.1 m;
      collectives = λ collective latest among l.
          let C : List DrawnCollective → Type 0 = λ l. IsIn collective l in
          let there = subst C (ap (λ (d : Drawn). d.collectives) is.is) among in
          let of_rank = in_joined (of_starts (collective_at basis) events) n collective there in
          let of_start = in_mapped (collective_at basis) (positions (is_start_of of_rank.0) 0 events) collective of_rank.1 in
          collectives_right basis of_start.0 (slice_get events of_start.0) collective latest is.are_depths refl of_start.1 l;
      probes = λ probe among.
          let A : List Arrow → Type 0 = λ l. IsIn probe l in
          let there = subst A (ap (λ (d : Drawn). d.probes) is.is) among in
          let of_rank = in_joined (of_events (probe_at basis) events) n probe there in
          let of_event = in_mapped (probe_at basis) (positions (is_event_of of_rank.0) 0 events) probe of_rank.1 in
          probes_right basis of_event.0 (slice_get events of_event.0) probe is.are_depths refl of_event.1;
    }
