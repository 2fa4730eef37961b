-- Who took a message: the links whose cause is a Send.
use Rattle.std.proofs.Common.{◌≡◌, ◌≤◌, ◌==◌, ◌&&◌, ◌∷◌, [], ℕ, ℤ, zero, suc, Bool, List, Option, Some, None, true, false, inl, inr, refl, ap, sym, ◌∙◌, arith, length, slice_get, slice_index, subst, take}
use Rattle.std.proofs.lemmas.Bool.{and_parts, eq-eqb, eqb-true}
use Rattle.mpi_call.specs.declared.call.Call.{Call}
use Rattle.mpi_call.specs.declared.call.Call.TheVariants.{Abort, End, Enter, Peek, Post, Send, Take, Trap}
use Rattle.mpi_call.specs.declared.reply.Got.{Got}
use Rattle.mpi_call.specs.declared.reply.Got.TheVariants.{Joined, Made, Message as GotMessage, Nothing, Sent}
use Rattle.mpi_call.specs.Acceptance.{source_agrees, tag_agrees}
use Rattle.mpi_call.specs.Calls.{listed_by}
use Rattle.mpi_call.specs.Lists.{IsIn}
use Rattle.mpi_call.specs.Needs.{needs}
use Rattle.run_model.specs.declared.event.Event.{Event}
use Rattle.run_model.specs.Communicators.{is_enter_of, is_on, members_for_rank}
use Rattle.run_model.specs.Pairs.{Name, name_at, named, pairs_of, partner_of, post_accepts}
use Rattle.run_model.specs.Run.{IsRun}
use Rattle.run_model.specs.Views.{Next, is_start, start_at, view_of}
use Rattle.run_model.proofs.Taken.{event_there}
use Rattle.run_model.proofs.Views.{test_cases}
use Rattle.causes.specs.Positions.{enter_position, enter_instance_at, is_start_of, is_at_position, mates_of, positions, start_position}
use Rattle.causes.specs.Steps.{collected_from, completed_from, needed_enters, entered_one, given_at, given_by, given_from, received_at}
use Rattle.causes.proofs.PositionLemmas.{placed-in}
use Rattle.msg_races.proofs.SortedLists.{in_parts}
use Rattle.run_drawing.specs.declared.links.CompletedStart.{CompletedStart}
use Rattle.run_drawing.specs.Depths.{AreDepths}
use Rattle.run_drawing.specs.Links.{deepest, taker_in}
use Rattle.run_drawing.proofs.Alike.{IsAlike, alike_found, alike_some}
use Rattle.run_drawing.proofs.ArrowLemmas.{get_in, listed_is}
use Rattle.run_drawing.proofs.Deepest.{deepest_among}
use Rattle.run_drawing.proofs.Grounds.{IsCompleted, from_partner, item_completed, sync_paired}
use Rattle.run_drawing.proofs.LaneLemmas.{get_take}
use Rattle.run_drawing.proofs.Mates.{HasMates, IsPlaced, run_mates}
use Rattle.run_drawing.proofs.Twins.{IsTwin, longer_passing, one_twin, said, turned}
use Rattle.run_drawing.proofs.TwinLinks.{AreTwinSides, IsLink, IsTwinLink, cut_at, link_found, link_over, links_of, one_of_name, same_parts, turned_sides}
use Rattle.run_drawing.proofs.TwinRuns.{call_there, front_run, partner_later, whole_agree}
use Rattle.run_drawing.proofs.TwinStarts.{named_start, start_named}

-- 1. a completion that rests on a Send got its message

-- a Send
abbrev pub IsSending : Call → Type 0
IsSending (Send comm dest tag ints sync) = Unit {0}
IsSending call = ⊥

no_enter : (comm : ℕ) (call : Call) → IsSending call → is_on comm call ≡ true → ⊥
no_enter comm (Send c dest tag ints sync) is h = cc
no_enter comm (Post c source tag room) is h = is
no_enter comm (Enter c kind root op count ints) is h = is
no_enter comm (Take starts mode) is h = is
no_enter comm (Peek c source tag wait) is h = is
no_enter comm (Abort code) is h = is
no_enter comm (Trap fault) is h = is
no_enter comm End is h = is

no_post : (rank : ℕ) (call : Call) (sender : ℕ) (sent : Call) → IsSending call → post_accepts rank call sender sent ≡ true → ⊥
no_post rank (Send c dest tag ints sync) sender sent is h = cc
no_post rank (Post c source tag room) sender sent is h = is
no_post rank (Enter c kind root op count ints) sender sent is h = is
no_post rank (Take starts mode) sender sent is h = is
no_post rank (Peek c source tag wait) sender sent is h = is
no_post rank (Abort code) sender sent is h = is
no_post rank (Trap fault) sender sent is h = is
no_post rank End sender sent is h = is

one_event : (events : List Event) (s : ℕ) (a b : Event) → slice_get events s ≡ Some a → slice_get events s ≡ Some b → a ≡ b
one_event events s a b h h' = (let both : Some a ≡ Some b = sym h ∙ h' in cc)

-- the position of an Enter is not that of a Send
not_entered : (before : List Event) (m comm instance s : ℕ) (send : Event) → slice_get before s ≡ Some send → IsSending send.call → enter_position before m comm instance ≡ Some s → ⊥
not_entered before m comm instance s send there is h =
    let placed = placed-in (is_enter_of m comm) before s (get_in (positions (is_enter_of m comm) 0 before) instance s h) in
    let parts = and_parts (is_start (placed.event.call, placed.event.reply)) (is_on comm placed.event.call && (placed.event.rank == m)) placed.passes in
    let on = and_parts (is_on comm placed.event.call) (placed.event.rank == m) parts.1 in
    let same = one_event before s placed.event send placed.there there in
    no_enter comm send.call is (ap (λ (e : Event). is_on comm e.call) (sym same) ∙ on.0)

none_entered : (before : List Event) (comm instance : ℕ) (needed : ℕ → Bool) (members : List ℕ) (s : ℕ) (send : Event) → slice_get before s ≡ Some send → IsSending send.call
    → IsIn s (needed_enters before comm instance needed members) → ⊥
none_entered before comm instance needed [] s send there is h = h
none_entered before comm instance needed (m ∷ members) s send there is h =
    elim (in_parts s (entered_one before comm instance needed m) (needed_enters before comm instance needed members) h) [
      | inl l ↦ elim (test_cases (needed m)) [
        | inl t ↦ not_entered before m comm instance s send there is (listed_is (enter_position before m comm instance) s (rw t at l))
        | inr t ↦ (let none : IsIn s [] = rw t at l in none)
      ]
      | inr r ↦ none_entered before comm instance needed members s send there is r
    ]

none_collected : (n : ℕ) (before : List Event) (me at : ℕ) (call : Call) (s : ℕ) (send : Event) → slice_get before s ≡ Some send → IsSending send.call → IsIn s (collected_from n before me at call) → ⊥
none_collected n before me at (Enter comm kind root op count ints) s send there is h =
    none_entered before comm (enter_instance_at before me comm at) (needs (Enter comm kind root op count ints) (members_for_rank n (view_of before me) comm) me) (members_for_rank n (view_of before me) comm) s send there is h
none_collected n before me at (Send comm dest tag ints sync) s send there is h = h
none_collected n before me at (Post comm source tag room) s send there is h = h
none_collected n before me at (Take starts mode) s send there is h = h
none_collected n before me at (Peek comm source tag wait) s send there is h = h
none_collected n before me at (Abort code) s send there is h = h
none_collected n before me at (Trap fault) s send there is h = h
none_collected n before me at End s send there is h = h

-- two Sends are no pair
not_both : (events : List Event) (a b : Name) (one other : Call) → HasMates events → partner_of (pairs_of events) a ≡ Some b → named events a ≡ Some one → named events b ≡ Some other
    → IsSending one → IsSending other → ⊥
not_both events a b one other has paired first second is too = elim (has.matched.pairs_accept a b paired) [
  | inl takes ↦ (
      let calls : Some takes.post_call ≡ Some one = sym takes.post_is ∙ first in
      let same : takes.post_call ≡ one = cc in
      let S : Call → Type 0 = λ c. IsSending c in
      no_post a.0 takes.post_call b.0 takes.send_call (subst S (sym same) is) takes.accepted)
  | inr takes ↦ (
      let calls : Some takes.post_call ≡ Some other = sym takes.post_is ∙ second in
      let same : takes.post_call ≡ other = cc in
      let S : Call → Type 0 = λ c. IsSending c in
      no_post b.0 takes.post_call a.0 takes.send_call (subst S (sym same) too) takes.accepted)
]

none_received : (n : ℕ) (before : List Event) (me number at : ℕ) (got : Got) (call : Call) (s : ℕ) (send : Event) → HasMates before → IsCompleted n before me number got
    → start_position before me number ≡ Some at → start_at (view_of before me) number ≡ Some call → slice_get before s ≡ Some send → IsSending send.call
    → IsIn s (received_at before at call) → ⊥
none_received n before me number at got (Send comm dest tag ints true) s send has completed here called there is h =
    let mate = sync_paired n before me number got comm dest tag ints completed called in
    let P : Option Name → Type 0 = λ o. IsPlaced before o (mates_of before at) in
    let placed = subst P mate.1 (has.placed at (me, number) (start_named before me number at here)) in
    let L : List ℕ → Type 0 = λ l. IsIn s l in
    let same : placed.0 ≡ s = elim (subst L placed.1 h) [ inl e ↦ e | inr never ↦ absurd never ] in
    let N : ℕ → Type 0 = λ k. name_at before k ≡ Some mate.0 in
    let name_is : name_at before s ≡ Some mate.0 = subst N same placed.2 in
    let sent = call_there before mate.0.0 mate.0.1 s send (named_start before mate.0.0 mate.0.1 s name_is) there in
    not_both before (me, number) mate.0 (Send comm dest tag ints true) send.call has mate.1 called sent tt is
none_received n before me number at got (Send comm dest tag ints false) s send has completed here called there is h = h
none_received n before me number at got (Post comm source tag room) s send has completed here called there is h = h
none_received n before me number at got (Enter comm kind root op count ints) s send has completed here called there is h = h
none_received n before me number at got (Take starts mode) s send has completed here called there is h = h
none_received n before me number at got (Peek comm source tag wait) s send has completed here called there is h = h
none_received n before me number at got (Abort code) s send has completed here called there is h = h
none_received n before me number at got (Trap fault) s send has completed here called there is h = h
none_received n before me number at got End s send has completed here called there is h = h

-- the start that completes is paired with the Send
pub record IsPairedWith (before : List Event) (me number s : ℕ) : Type 0 where
  pub name : Name
  pub named : name_at before s ≡ Some name
  pub paired : partner_of (pairs_of before) (me, number) ≡ Some name

given_by_send : (n : ℕ) (before : List Event) (me number at : ℕ) (start : Event) (got : Got) (s : ℕ) (send : Event) → HasMates before → IsCompleted n before me number got
    → start_position before me number ≡ Some at → start_at (view_of before me) number ≡ Some start.call → slice_get before s ≡ Some send → IsSending send.call
    → IsIn s (given_from n before me at start got) → IsPairedWith before me number s
given_by_send n before me number at start (GotMessage source count tag ints) s send has completed here called there is h =
    let place = listed_is (start_position before source count) s h in
    let from = from_partner n before me number source count tag ints completed in
    record { name = (source, count); named = start_named before source count s place; paired = from.paired }
given_by_send n before me number at start (Joined ints) s send has completed here called there is h = absurd (none_collected n before me at start.call s send there is h)
given_by_send n before me number at start (Made comm members) s send has completed here called there is h = absurd (none_collected n before me at start.call s send there is h)
given_by_send n before me number at start Sent s send has completed here called there is h =
    absurd (none_received n before me number at Sent start.call s send has completed here called there is h)
given_by_send n before me number at start Nothing s send has completed here called there is h = absurd h

given_there : (n : ℕ) (before : List Event) (me number at : ℕ) (o : Option Event) (got : Got) (s : ℕ) (send : Event) → HasMates before → IsCompleted n before me number got
    → start_position before me number ≡ Some at → slice_get before at ≡ o → slice_get before s ≡ Some send → IsSending send.call
    → IsIn s (given_at n before me at o got) → IsPairedWith before me number s
given_there n before me number at None got s send has completed here start there is h = absurd h
given_there n before me number at (Some event) got s send has completed here start there is h =
    given_by_send n before me number at event got s send has completed here (call_there before me number at event here start) there is h

given_where : (n : ℕ) (before : List Event) (me number : ℕ) (o : Option ℕ) (got : Got) (s : ℕ) (send : Event) → HasMates before → IsCompleted n before me number got
    → start_position before me number ≡ o → slice_get before s ≡ Some send → IsSending send.call
    → IsIn s (given_by n before me o got) → IsPairedWith before me number s
given_where n before me number None got s send has completed here there is h = absurd h
given_where n before me number (Some at) got s send has completed here there is h = given_there n before me number at (slice_get before at) got s send has completed here refl there is h

-- 2. the takers of a Send

-- the start of the link is paired with the Send, and is of the rank to which it was sent
pub record IsTaker (events : List Event) (me number s dest : ℕ) : Type 0 where
  pub name : Name
  pub named : name_at events s ≡ Some name
  pub paired : partner_of (pairs_of events) (me, number) ≡ Some name
  pub receiver : dest ≡ me

sent_to : (me : ℕ) (post : Call) (sender comm dest tag : ℕ) (ints : List ℤ) (sync : Bool) → post_accepts me post sender (Send comm dest tag ints sync) ≡ true → dest ≡ me
sent_to me (Post c source t room) sender comm dest tag ints sync h =
    let one = and_parts (comm == c) ((dest == me) && (source_agrees source sender && tag_agrees t tag)) h in
    eqb-true dest me (and_parts (dest == me) (source_agrees source sender && tag_agrees t tag) one.1).0
sent_to me call sender comm dest tag ints sync h = absurd (cc)

name_stays : (events : List Event) (k s rank number : ℕ) → name_at (take k events) s ≡ Some (rank, number) → name_at events s ≡ Some (rank, number)
name_stays events k s rank number h = start_named events rank number s (longer_passing (is_start_of rank) events k number s (named_start (take k events) rank number s h))

pub taker_of : (next : Next) (n : ℕ) (events : List Event) (depths : List ℕ) (link : CompletedStart) (made : IsLink n events depths link) (s : ℕ) (send : Event) (comm dest tag : ℕ) (ints : List ℤ) (sync : Bool)
    → IsRun next n events → AreDepths n events depths → slice_get events s ≡ Some send → send.call ≡ Send comm dest tag ints sync → link.cause ≡ Some s
    → IsTaker events made.event.rank (slice_index (listed_by made.event.call) made.item.index) s dest
taker_of next n events depths link made s send comm dest tag ints sync run are there called cause =
    let at : ℕ = made.at in
    let before : List Event = take at events in
    let me : ℕ = made.event.rank in
    let number : ℕ = slice_index (listed_by made.event.call) made.item.index in
    let is : deepest (take at depths) (completed_from n before me number made.item.got) ≡ Some s = sym (ap (λ (l : CompletedStart). l.cause) made.is) ∙ cause in
    let among = deepest_among (take at depths) (completed_from n before me number made.item.got) s is in
    let low = taken_length depths at in
    let within = among.1 in
    let here = get_take events at s send (omega (arith, within, low)) there in
    let completed = item_completed next n before made.event made.items made.item (event_there next n events at made.event run made.there) made.took made.among in
    let S : Call → Type 0 = λ c. IsSending c in
    let sending : IsSending send.call = subst S (sym called) tt in
    let mates = run_mates next n before (front_run next n events at run) in
    let with = given_where n before me number (start_position before me number) made.item.got s send mates completed refl here sending among.0 in
    let paired = partner_later events at (me, number) with.name with.paired in
    let name_is = name_stays events at s with.name.0 with.name.1 with.named in
    let sent = call_there events with.name.0 with.name.1 s send (named_start events with.name.0 with.name.1 s name_is) there in
    let whole = run_mates next n events run in
    record {
      name = with.name;
      named = name_is;
      paired = paired;
      receiver = elim (whole.matched.pairs_accept (me, number) with.name paired) [
        | inl takes ↦ (
            let calls : Some takes.send_call ≡ Some send.call = sym takes.send_is ∙ sent in
            let same : takes.send_call ≡ send.call = cc in
            let A : Call → Type 0 = λ c. post_accepts me takes.post_call with.name.0 c ≡ true in
            sent_to me takes.post_call with.name.0 comm dest tag ints sync (subst A (same ∙ called) takes.accepted))
        | inr takes ↦ (
            let calls : Some takes.post_call ≡ Some send.call = sym takes.post_is ∙ sent in
            let same : takes.post_call ≡ send.call = cc in
            absurd (no_post with.name.0 takes.post_call me takes.send_call (subst S (sym same) sending) takes.accepted))
      ];
    }
  where
    taken_length : (xs : List ℕ) (k : ℕ) → length (take k xs) ≤ k
    taken_length xs zero = omega arith
    taken_length [] (suc k) = omega arith
    taken_length (x ∷ xs) (suc k) = (let rest = taken_length xs k in omega (arith, rest))

-- a Send has one taker
one_taker : (next : Next) (n : ℕ) (events : List Event) (depths : List ℕ) (one other : CompletedStart) (s : ℕ) (send : Event) (comm dest tag : ℕ) (ints : List ℤ) (sync : Bool)
    → IsRun next n events → AreDepths n events depths → slice_get events s ≡ Some send → send.call ≡ Send comm dest tag ints sync
    → IsIn one (links_of n events depths) → IsIn other (links_of n events depths) → one.cause ≡ Some s → other.cause ≡ Some s → one ≡ other
one_taker next n events depths one other s send comm dest tag ints sync run are there called first second cause also =
    let a = link_found n events depths one first in
    let b = link_found n events depths other second in
    let x = taker_of next n events depths one a s send comm dest tag ints sync run are there called cause in
    let y = taker_of next n events depths other b s send comm dest tag ints sync run are there called also in
    let both : Some x.name ≡ Some y.name = sym x.named ∙ y.named in
    let name : x.name ≡ y.name = cc in
    let whole = run_mates next n events run in
    let my : Name = (a.event.rank, slice_index (listed_by a.event.call) a.item.index) in
    let its : Name = (b.event.rank, slice_index (listed_by b.event.call) b.item.index) in
    let back : partner_of (pairs_of events) x.name ≡ Some my = whole.matched.one_partner my x.name x.paired in
    let back_too : partner_of (pairs_of events) y.name ≡ Some its = whole.matched.one_partner its y.name y.paired in
    let names = same_parts my its (sym back ∙ (ap (partner_of (pairs_of events)) name ∙ back_too)) in
    one_of_name next n events depths one other a b run names.0 names.1

is_cause : (o : Option ℕ) (s : ℕ) → is_at_position o s ≡ true → o ≡ Some s
is_cause None s h = absurd (cc)
is_cause (Some p) s h = ap (λ k. Some k) (eqb-true p s h)

cause_is : (o : Option ℕ) (s : ℕ) → o ≡ Some s → is_at_position o s ≡ true
cause_is o s h = ap (λ c. is_at_position c s) h ∙ eq-eqb s s refl

pub taker_twins : (next : Next) (n : ℕ) (one other : List Event) (depths depths' : List ℕ) (p q : ℕ) (send : Event) (comm dest tag : ℕ) (ints : List ℤ) (sync : Bool)
    → AreTwinSides next n one other depths depths' → IsTwin one other p q → slice_get one p ≡ Some send → send.call ≡ Send comm dest tag ints sync
    → IsAlike (IsTwinLink one other) (taker_in (links_of n one depths) p) (taker_in (links_of n other depths') q)
taker_twins next n one other depths depths' p q send comm dest tag ints sync sides twin there called =
    let both = said one other p q (whole_agree one other sides.runs.views) twin in
    let same = one_event one p both.event send both.there there in
    let called_too : both.twin.call ≡ Send comm dest tag ints sync = both.call_is ∙ (ap (λ (e : Event). e.call) same ∙ called) in
    alike_found (IsTwinLink one other) (λ (link : CompletedStart). is_at_position link.cause p) (λ (link : CompletedStart). is_at_position link.cause q) (links_of n one depths) (links_of n other depths')
    (taker_in (links_of n one depths) p) (taker_in (links_of n other depths') q)
    (λ link among passes. (
    let over = link_over next n one other depths depths' link sides among in
    let cause = alike_some (IsTwin one other) link.cause over.link'.cause p over.twin.cause (is_cause link.cause p passes) in
    let is : cause.0 ≡ q = one_twin one other p cause.0 p q cause.2 twin refl in
    (over.link', over.among, cause_is over.link'.cause q (cause.1 ∙ ap (λ k. Some k) is), over.twin)))
    (λ link among passes. (
    let over = link_over next n other one depths' depths link (turned_sides next n one other depths depths' sides) among in
    let cause = alike_some (IsTwin other one) link.cause over.link'.cause q over.twin.cause (is_cause link.cause q passes) in
    let is : cause.0 ≡ p = one_twin other one q cause.0 q p cause.2 (turned one other p q twin) refl in
    (over.link', over.among, cause_is over.link'.cause p (cause.1 ∙ ap (λ k. Some k) is))))
    (λ link another first second passes also.
    one_taker next n other depths' link another q both.twin comm dest tag ints sync sides.runs.second sides.second both.twin_there called_too first second
    (is_cause link.cause q passes) (is_cause another.cause q also))
    refl refl

-- a taker stands at the receiver
pub taker_rank : (next : Next) (n : ℕ) (events : List Event) (depths : List ℕ) (link : CompletedStart) (s : ℕ) (send : Event) (comm dest tag : ℕ) (ints : List ℤ) (sync : Bool)
    → IsRun next n events → AreDepths n events depths → slice_get events s ≡ Some send → send.call ≡ Send comm dest tag ints sync
    → IsIn link (links_of n events depths) → is_at_position link.cause s ≡ true → (event : Event) × (slice_get events link.at ≡ Some event) × (event.rank ≡ dest)
taker_rank next n events depths link s send comm dest tag ints sync run are there called among passes =
    let made = link_found n events depths link among in
    let taker = taker_of next n events depths link made s send comm dest tag ints sync run are there called (is_cause link.cause s passes) in
    let at : link.at ≡ made.at = ap (λ (l : CompletedStart). l.at) made.is ∙ cut_at events made.at made.event made.there in
    let G : ℕ → Type 0 = λ k. slice_get events k ≡ Some made.event in
    (made.event, subst G (sym at) made.there, sym taker.receiver)
