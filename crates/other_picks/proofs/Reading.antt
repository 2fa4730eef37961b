-- The other picks of a history as they are found: event by event, and sender by sender.
use Rattle.std.proofs.Common.{◌≡◌, ◌+◌, ◌==◌, ◌∙◌, ◌&&◌, ◌++◌, ◌∷◌, ℕ, zero, suc, List, [], Option, Some, None, Bool, true, false, inl, inr, if◌then◌else◌, length, map, filter, not, take, slice_get, ap, refl, subst, sym, append-nil, append_assoc, arith}
use Rattle.std.proofs.lemmas.List.{map-append}
use Rattle.std.proofs.lemmas.List.Elements.{filter-append}
use Rattle.mpi_call.specs.declared.call.Call.{Call}
use Rattle.mpi_call.specs.declared.call.Call.TheVariants.{Post}
use Rattle.mpi_call.specs.declared.call.Source.TheVariants.{Any, From, Null}
use Rattle.mpi_call.specs.declared.call.Tag.{Tag}
use Rattle.mpi_call.specs.declared.reply.Reply.TheVariants.{Done}
use Rattle.run_model.specs.declared.event.Event.{Event}
use Rattle.run_model.specs.Due.{due}
use Rattle.run_model.specs.Lists.{world}
use Rattle.run_model.specs.Views.{is_start, starts_of, view_of, rank_of_event}
use Rattle.run_model.proofs.CommunicatorLaws.{world-last}
use Rattle.run_model.proofs.Views.{test_cases}
use Rattle.picked_runs.specs.declared.turn.Pick.{Pick}
use Rattle.picked_runs.specs.declared.turn.Pick.TheVariants.{Sender}
use Rattle.picked_runs.specs.Picks.{has_pick}
use Rattle.picked_runs.specs.Picked.{ArePicked, later_picks, next_pick}
use Rattle.other_picks.specs.declared.listing.PairedReceive.{PairedReceive}
use Rattle.other_picks.specs.declared.listing.Wildcard.{Wildcard}
use Rattle.other_picks.specs.declared.other.OtherPick.{OtherPick}
use Rattle.other_picks.specs.inside.Known.{IsEventOf, any_in, could_take, with_sender}
use Rattle.other_picks.specs.Others.{could_pick, other_of, others_at, others_by, others_from}
use Rattle.other_picks.proofs.Cutting.{take_more}
use Rattle.other_picks.proofs.Following.{idle_mate, none_due, start_done}
use Rattle.other_picks.proofs.Looking.{offered_by}

-- ---- events

-- the event at a position, after those before it
pub event_at : (n : ℕ) (before events : List Event) (picks : List Pick) (at : ℕ) (event : Event) → ArePicked n before picks events → slice_get events at ≡ Some event
    → IsEventOf n (before ++ take at events) event
event_at n before [] picks at event all h = absurd (cc)
event_at n before (first ∷ events) picks zero event all h =
    let same : first ≡ event = cc in
    let F : Event → Type 0 = λ e. IsEventOf n (before ++ []) e in
    let G : List Event → Type 0 = λ l. IsEventOf n l first in
    subst F same (subst G (sym (append-nil before)) (record { pick = next_pick picks; picked = all.0 }))
event_at n before (first ∷ events) picks (suc at) event all h =
    let rest = event_at n (before ++ first ∷ []) events (later_picks picks) at event all.1 h in
    let F : List Event → Type 0 = λ l. IsEventOf n l event in
    subst F (append_assoc before (first ∷ []) (take at events)) rest

pub next_taken : (events : List Event) (at : ℕ) (event : Event) → slice_get events at ≡ Some event → take (at + 1) events ≡ take at events ++ event ∷ []
next_taken events at event h =
    let next : at + 1 ≡ suc at = omega arith in
    ap (λ k. take k events) next ∙ longer events at event h
  where
    longer : (events : List Event) (at : ℕ) (event : Event) → slice_get events at ≡ Some event → take (suc at) events ≡ take at events ++ event ∷ []
    longer [] at event h = absurd (cc)
    longer (x ∷ events) zero event h = (let same : x ≡ event = cc in ap (λ (e : Event). e ∷ []) same)
    longer (x ∷ events) (suc at) event h = ap (λ (l : List Event). x ∷ l) (longer events at event h)

pub others_push : (n : ℕ) (before events : List Event) (event : Event)
    → others_from n before (events ++ event ∷ []) ≡ others_from n before events ++ others_at n (before ++ events) event
others_push n before [] event = append-nil (others_at n before event) ∙ ap (λ l. others_at n l event) (sym (append-nil before))
others_push n before (first ∷ events) event =
    let rest = others_push n (before ++ first ∷ []) events event in
    ap (λ l. others_at n before first ++ l) rest
    ∙ (ap (λ l. others_at n before first ++ (others_from n (before ++ first ∷ []) events ++ others_at n l event)) (append_assoc before (first ∷ []) events)
    ∙ sym (append_assoc (others_at n before first) (others_from n (before ++ first ∷ []) events) (others_at n (before ++ first ∷ events) event)))

-- those that are found, after one more event
pub found_more : (n most : ℕ) (before : List Event) (event : Event) (found more : List OtherPick) → found ≡ take most (others_from n [] before)
    → more ≡ take most (found ++ others_at n before event) → more ≡ take most (others_from n [] (before ++ event ∷ []))
found_more n most before event found more was is =
    is ∙ (take_more most found [] (others_from n [] before) (others_at n before event) was ∙ ap (take most) (sym (others_push n [] before event)))

-- ---- senders

listed_more : (f : ℕ → OtherPick) (test : ℕ → Bool) (sender : ℕ)
    → map f (filter test (world (sender + 1) 0)) ≡ map f (filter test (world sender 0)) ++ map f (filter test (sender ∷ []))
listed_more f test sender =
    ap (λ l. map f (filter test l)) (world-last sender)
    ∙ (ap (map f) (filter-append test (world sender 0) (sender ∷ [])) ∙ map-append f (filter test (world sender 0)) (filter test (sender ∷ [])))

-- a sender that passes is added
pub sender_on : (most : ℕ) (f : ℕ → OtherPick) (test : ℕ → Bool) (sender : ℕ) (found old : List OtherPick) → test sender ≡ true
    → found ≡ take most (old ++ map f (filter test (world sender 0)))
    → take most (found ++ f sender ∷ []) ≡ take most (old ++ map f (filter test (world (sender + 1) 0)))
sender_on most f test sender found old passes was =
    let one : map f (filter test (sender ∷ [])) ≡ f sender ∷ [] = rw passes in
    take_more most found old (map f (filter test (world sender 0))) (f sender ∷ []) was
    ∙ ap (λ l. take most (old ++ l)) (ap (λ l. map f (filter test (world sender 0)) ++ l) (sym one) ∙ sym (listed_more f test sender))

-- one that does not is left out
pub sender_off : (most : ℕ) (f : ℕ → OtherPick) (test : ℕ → Bool) (sender : ℕ) (found old : List OtherPick) → test sender ≡ false
    → found ≡ take most (old ++ map f (filter test (world sender 0)))
    → found ≡ take most (old ++ map f (filter test (world (sender + 1) 0)))
sender_off most f test sender found old fails was =
    let none : map f (filter test (sender ∷ [])) ≡ [] = rw fails in
    was
    ∙ ap (λ l. take most (old ++ l))
    (sym (append-nil (map f (filter test (world sender 0)))) ∙ (ap (λ l. map f (filter test (world sender 0)) ++ l) (sym none) ∙ sym (listed_more f test sender)))

-- ---- a receive

mate_done : (n : ℕ) (before : List Event) (event : Event) (mate : ℕ) → IsEventOf n before event → event.mate ≡ Some mate → event.reply ≡ Done
mate_done n before event mate is some =
    elim (test_cases (is_start (event.call, event.reply))) [
      | inl t ↦ start_done event t
      | inr t ↦ (let no : Some mate ≡ None = sym some ∙ idle_mate n before event is.pick is.picked t in absurd (cc))
    ]

-- the receive that an event is
abbrev pub receive_of : List Event → Event → ℕ → Tag → ℕ → PairedReceive
receive_of before event comm tag mate = record {
  at = length before;
  rank = event.rank;
  start = length (starts_of (view_of before event.rank));
  wildcard = record { comm = comm; tag = tag };
  took = rank_of_event (slice_get before mate);
}

takes_same : (n : ℕ) (before : List Event) (event : Event) (comm : ℕ) (tag : Tag) (room mate : ℕ) → IsEventOf n before event → event.call ≡ Post comm Any tag room
    → event.mate ≡ Some mate → (sender : ℕ) → could_take before (receive_of before event comm tag mate) sender ≡ could_pick n before event mate sender
takes_same n before event comm tag room mate is call_is some sender =
    let none = none_due n before event is.pick is.picked (mate_done n before event mate is some) in
    let free : due n before event.rank (view_of before event.rank) (Post comm Any tag room) ≡ None =
    ap (λ c. due n before event.rank (view_of before event.rank) c) (sym call_is) ∙ none in
    ap (λ b. not (sender == rank_of_event (slice_get before mate)) && b)
    (sym (ap (λ c. has_pick n before event.rank c (Sender sender)) call_is ∙ offered_by n before event.rank comm tag room sender free))

pub receive_listed : (n : ℕ) (before : List Event) (event : Event) (comm : ℕ) (tag : Tag) (room mate : ℕ) → IsEventOf n before event → event.call ≡ Post comm Any tag room
    → event.mate ≡ Some mate
    → map (with_sender (receive_of before event comm tag mate)) (filter (could_take before (receive_of before event comm tag mate)) (world n 0)) ≡ others_at n before event
receive_listed n before event comm tag room mate is call_is some =
    let same : could_take before (receive_of before event comm tag mate) ≡ could_pick n before event mate =
    λ i. λ sender. (takes_same n before event comm tag room mate is call_is some sender) i in
    ap (λ test. map (other_of before event) (filter test (world n 0))) same
    ∙ (ap (λ c. others_by n before event c (Some mate)) (sym call_is) ∙ ap (others_by n before event event.call) (sym some))

-- what is a receive from any source
any_parts : (call : Call) (comm : ℕ) (tag : Tag) → any_in call ≡ Some (record { comm = comm; tag = tag }) → (room : ℕ) × (call ≡ Post comm Any tag room)
any_parts (Post c Any t room) comm tag h =
    let F : Option Wildcard → ℕ = λ o. elim o [ None ↦ 0 | Some w ↦ w.comm ] in
    let G : Option Wildcard → Tag = λ o. elim o [ None ↦ t | Some w ↦ w.tag ] in
    let comms : c ≡ comm = ap F h in
    let tags : t ≡ tag = ap G h in
    (room, ap (λ x. Post x Any t room) comms ∙ ap (λ x. Post comm Any x room) tags)
any_parts (Post c (From rank) t room) comm tag h = absurd (cc)
any_parts (Post c Null t room) comm tag h = absurd (cc)
any_parts call comm tag h = absurd (cc)

-- what is none has no other picks
none_any : (n : ℕ) (before : List Event) (event : Event) (call : Call) (mate : Option ℕ) → any_in call ≡ None → others_by n before event call mate ≡ []
none_any n before event (Post comm Any tag room) mate h = absurd (cc)
none_any n before event (Post comm (From rank) tag room) mate h = refl
none_any n before event (Post comm Null tag room) mate h = refl
none_any n before event call mate h = refl

pub named_none : (n : ℕ) (before : List Event) (event : Event) → any_in event.call ≡ None → others_at n before event ≡ []
named_none n before event h = none_any n before event event.call event.mate h

pub receive_found : (n : ℕ) (before : List Event) (event : Event) (wildcard : Wildcard) (mate : ℕ) → IsEventOf n before event → any_in event.call ≡ Some wildcard
    → event.mate ≡ Some mate
    → map (with_sender (receive_of before event wildcard.comm wildcard.tag mate)) (filter (could_take before (receive_of before event wildcard.comm wildcard.tag mate)) (world n 0)) ≡ others_at n before event
receive_found n before event wildcard mate is any some =
    let parts = any_parts event.call wildcard.comm wildcard.tag any in
    receive_listed n before event wildcard.comm wildcard.tag parts.0 mate is parts.1 some

-- a sender is added or left out
pub sender_next : (most : ℕ) (f : ℕ → OtherPick) (test : ℕ → Bool) (sender : ℕ) (found more old : List OtherPick)
    → found ≡ take most (old ++ map f (filter test (world sender 0)))
    → more ≡ (if test sender then take most (found ++ f sender ∷ []) else found)
    → more ≡ take most (old ++ map f (filter test (world (sender + 1) 0)))
sender_next most f test sender found more old was is =
    elim (test_cases (test sender)) [
      | inl t ↦ (let here : more ≡ take most (found ++ f sender ∷ []) = rw t at is in here ∙ sender_on most f test sender found old t was)
      | inr t ↦ (let here : more ≡ found = rw t at is in here ∙ sender_off most f test sender found old t was)
    ]

-- what has no mate has no other picks
none_by : (n : ℕ) (before : List Event) (event : Event) (call : Call) → others_by n before event call None ≡ []
none_by n before event (Post comm Any tag room) = refl
none_by n before event call = refl

pub alone_none : (n : ℕ) (before : List Event) (event : Event) → event.mate ≡ None → others_at n before event ≡ []
alone_none n before event none = ap (others_by n before event event.call) none ∙ none_by n before event event.call
