-- The listed others of a receive are its others.
use Rattle.std.proofs.Common.{◌≡◌, ◌≤◌, ◌<◌, ◌+◌, ◌==◌, ◌&&◌, ◌∷◌, [], ℕ, zero, suc, List, Bool, Option, Some, true, false, inl, inr, ap, arith, slice_get, subst, sym, take, ◌∙◌, refl}
use Rattle.std.proofs.lemmas.Bool.{and_from, and_parts, eq-eqb, eqb-true, false_from_ne_true}
use Rattle.mpi_call.specs.declared.call.Call.{Call}
use Rattle.mpi_call.specs.declared.call.Source.TheVariants.{Any}
use Rattle.mpi_call.specs.declared.call.Tag.{Tag}
use Rattle.mpi_call.specs.declared.call.Tag.TheVariants.{Any as AnyTag, Is}
use Rattle.mpi_call.specs.Acceptance.{accepts, tag_named}
use Rattle.mpi_call.specs.Lists.{IsIn, Rises, count_below}
use Rattle.run_model.specs.declared.event.Event.{Event}
use Rattle.run_model.specs.Views.{is_start}
use Rattle.run_model.proofs.Positions.{name_at-rises}
use Rattle.run_model.proofs.StartLemmas.{slice_get-below}
use Rattle.run_model.proofs.Views.{test_cases}
use Rattle.causes.specs.Before.{PrecedesDirectly}
use Rattle.causes.specs.Before.IsBefore.{path}
use Rattle.causes.specs.Clocks.{AreOfRanks, Observed, TellsBefore, comes_before}
use Rattle.causes.specs.Positions.{is_start_of, positions}
use Rattle.causes.proofs.PositionLemmas.{in-placed, placed-in, positions-rise}
use Rattle.msg_races.specs.declared.arrival.Arrival.{Arrival}
use Rattle.msg_races.specs.declared.names.Name.{Name}
use Rattle.msg_races.specs.Listing.{open_names, racing_below, racing_from, unless_taken, way_from}
use Rattle.msg_races.specs.Names.{AreSorted, same_start}
use Rattle.msg_races.specs.Races.{IsRacingSend}
use Rattle.msg_races.specs.Ways.{goes_way, named_tag}
use Rattle.msg_races.proofs.SortedLists.{in_back, in_front, in_joined, in_parts, joined_in, sorted_append, sorted_joined}
use Rattle.msg_races.proofs.StartNames.{name_there, start_of_name}

-- names
pub same_name : (rank rank' start start' : ℕ) → rank ≡ rank' → start ≡ start' → (let a : Name = record { rank = rank; start = start } in let b : Name = record { rank = rank'; start = start' } in a ≡ b)
same_name rank rank' start start' ranks starts = cc

pub same_start-is : (a b : Name) → same_start a b ≡ true → a ≡ b
same_start-is a b h =
    let parts = and_parts (a.rank == b.rank) (a.start == b.start) h in
    same_name a.rank b.rank a.start b.start (eqb-true a.rank b.rank parts.0) (eqb-true a.start b.start parts.1)

pub same_start-refl : (a b : Name) → a ≡ b → same_start a b ≡ true
same_start-refl a b e =
    and_from (a.rank == b.rank) (a.start == b.start) (eq-eqb a.rank b.rank (ap (λ (n : Name). n.rank) e)) (eq-eqb a.start b.start (ap (λ (n : Name). n.start) e))

-- the listed names of a sender
pub record IsOpen (is_late : ℕ → Bool) (sender : ℕ) (starts : List ℕ) (took : Name) (places : List ℕ) (name : Name) : Type 0 where
  pub place : ℕ
  pub among : IsIn place places
  pub open_is : is_late place ≡ false
  pub rank_is : name.rank ≡ sender
  pub start_is : name.start ≡ count_below place starts
  pub other : same_start name took ≡ false

later_open : (is_late : ℕ → Bool) (sender : ℕ) (starts : List ℕ) (took : Name) (first : ℕ) (places : List ℕ) (name : Name) → IsOpen is_late sender starts took places name → IsOpen is_late sender starts took (first ∷ places) name
later_open is_late sender starts took first places name is =
    record { place = is.place; among = inr is.among; open_is = is.open_is; rank_is = is.rank_is; start_is = is.start_is; other = is.other }

in_one : (took one name : Name) → IsIn name (unless_taken took one) → (one ≡ name) × (same_start one took ≡ false)
in_one took one name h = elim (test_cases (same_start one took)) [
  | inl t ↦ absurd (rw t at h)
  | inr t ↦ elim (rw t at h) [ inl e ↦ (e, t) | inr never ↦ absurd never ]
]

pub in_open : (is_late : ℕ → Bool) (sender : ℕ) (starts : List ℕ) (took : Name) (places : List ℕ) (name : Name)
    → IsIn name (open_names is_late sender starts took places) → IsOpen is_late sender starts took places name
in_open is_late sender starts took [] name h = absurd h
in_open is_late sender starts took (place ∷ places) name h = elim (test_cases (is_late place)) [
  | inl t ↦ absurd (rw t at h)
  | inr t ↦ (
      let one : Name = record { rank = sender; start = count_below place starts } in
      let more = open_names is_late sender starts took places in
      elim (in_parts name (unless_taken took one) more (rw t at h)) [
        | inl here ↦ (
            let is = in_one took one name here in
            let S : Name → Type 0 = λ n. same_start n took ≡ false in
            record {
              place = place;
              among = inl refl;
              open_is = t;
              rank_is = ap (λ (n : Name). n.rank) (sym is.0);
              start_is = ap (λ (n : Name). n.start) (sym is.0);
              other = subst S is.0 is.1;
            })
        | inr later ↦ later_open is_late sender starts took place places name (in_open is_late sender starts took places name later)
      ])
]

rises_above : (low x : ℕ) (xs : List ℕ) → Rises low xs → IsIn x xs → low ≤ x
rises_above low x [] rises h = absurd h
rises_above low x (y ∷ ys) rises h = elim h [
  | inl e ↦ (let first = rises.0 in omega (arith, e, first))
  | inr later ↦ (let first = rises.0 in let rest = rises_above (y + 1) x ys rises.1 later in omega (arith, first, rest))
]

-- what is late stays late
pub StaysLate : (ℕ → Bool) → List ℕ → Type 0
StaysLate is_late places = (p q : ℕ) → IsIn p places → IsIn q places → p < q → is_late p ≡ true → is_late q ≡ true

pub open_in : (is_late : ℕ → Bool) (sender : ℕ) (starts : List ℕ) (took : Name) (low : ℕ) (places : List ℕ) (place : ℕ)
    → Rises low places → ((p q : ℕ) → IsIn p places → IsIn q places → p < q → is_late p ≡ true → is_late q ≡ true)
    → IsIn place places → is_late place ≡ false → (let name : Name = record { rank = sender; start = count_below place starts } in same_start name took ≡ false → IsIn name (open_names is_late sender starts took places))
open_in is_late sender starts took low [] place rises stays there not_late other = absurd there
open_in is_late sender starts took low (first ∷ places) place rises stays there not_late other =
    let one : Name = record { rank = sender; start = count_below first starts } in
    let name : Name = record { rank = sender; start = count_below place starts } in
    let more : List Name = open_names is_late sender starts took places in
    elim (test_cases (is_late first)) [
      | inl t ↦ absurd (elim there [
        | inl e ↦ (let no : true ≡ false = sym t ∙ ap is_late e ∙ not_late in cc)
        | inr later ↦ (
            let low = rises_above (first + 1) place places rises.1 later in
            let no : true ≡ false = sym (stays first place (inl refl) (inr later) (omega (arith, low)) t) ∙ not_late in
            cc)
      ])
      | inr t ↦ rw t (elim there [
        | inl e ↦ in_front name (unless_taken took one) more (
            let same : one ≡ name = ap (λ (p : ℕ). (let n : Name = record { rank = sender; start = count_below p starts } in n)) e in
            let S : Name → Type 0 = λ n. same_start n took ≡ false in
            let apart : same_start one took ≡ false = subst S (sym same) other in
            rw apart (inl same))
        | inr later ↦ in_back name (unless_taken took one) more
            (open_in is_late sender starts took (first + 1) places place rises.1 (λ p q at_p at_q. stays p q (inr at_p) (inr at_q)) later not_late other)
      ])
    ]

one_sorted : (took one : Name) → AreSorted (λ (n : Name). n) (unless_taken took one)
one_sorted took one = elim (test_cases (same_start one took)) [
  | inl t ↦ rw t tt
  | inr t ↦ rw t (λ later never. absurd never, tt)
]

pub sorted_open : (is_late : ℕ → Bool) (sender : ℕ) (starts : List ℕ) (took : Name) (low : ℕ) (places : List ℕ) → Rises low places
    → ((p q : ℕ) → IsIn p places → IsIn q places → p < q → count_below p starts < count_below q starts)
    → AreSorted (λ (n : Name). n) (open_names is_late sender starts took places)
sorted_open is_late sender starts took low [] rises more = tt
sorted_open is_late sender starts took low (first ∷ places) rises more = elim (test_cases (is_late first)) [
  | inl t ↦ rw t tt
  | inr t ↦ rw t (
      let one : Name = record { rank = sender; start = count_below first starts } in
      sorted_append (λ (n : Name). n) (unless_taken took one) (open_names is_late sender starts took places)
      (one_sorted took one)
      (sorted_open is_late sender starts took (first + 1) places rises.1 (λ p q at_p at_q. more p q (inr at_p) (inr at_q)))
      (λ a b in_a in_b. (
      let is = in_one took one a in_a in
      let of_b = in_open is_late sender starts took places b in_b in
      let low = rises_above (first + 1) of_b.place places rises.1 of_b.among in
      let count = more first of_b.place (inl refl) (inr of_b.among) (omega (arith, low)) in
      let rank = of_b.rank_is in
      let start = of_b.start_is in
      let own_rank : a.rank ≡ sender = ap (λ (n : Name). n.rank) (sym is.0) in
      let own_start : a.start ≡ count_below first starts = ap (λ (n : Name). n.start) (sym is.0) in
      inr (own_rank ∙ sym rank, omega (arith, count, start, own_start)))))
]

-- the Sends that go a way
tag_back : (tag : Tag) → named_tag (tag_named tag) ≡ tag
tag_back AnyTag = refl
tag_back (Is tag) = refl

pub record IsSend (events : List Event) (arrival : Arrival) (sender place : ℕ) : Type 0 where
  pub event : Event
  pub there : slice_get events place ≡ Some event
  pub own : event.rank ≡ sender
  pub passes : is_start_of sender event ≡ true
  pub accepted : accepts arrival.rank arrival.comm Any arrival.tag event.rank event.call ≡ true

pub goes_parts : (events : List Event) (arrival : Arrival) (sender place : ℕ) → IsIn place (positions (goes_way (way_from arrival sender)) 0 events) → IsSend events arrival sender place
goes_parts events arrival sender place h =
    let placed = placed-in (goes_way (way_from arrival sender)) events place h in
    let event : Event = placed.event in
    let T : Tag → Bool = λ t. accepts arrival.rank arrival.comm Any t event.rank event.call in
    let parts = and_parts (is_start (event.call, event.reply)) ((event.rank == sender) && T (named_tag (tag_named arrival.tag))) placed.passes in
    let more = and_parts (event.rank == sender) (T (named_tag (tag_named arrival.tag))) parts.1 in
    record {
      event = event;
      there = placed.there;
      own = eqb-true event.rank sender more.0;
      passes = and_from (is_start (event.call, event.reply)) (event.rank == sender) parts.0 more.0;
      accepted = ap T (sym (tag_back arrival.tag)) ∙ more.1;
    }

pub goes_from : (events : List Event) (arrival : Arrival) (sender place : ℕ) (event : Event) → slice_get events place ≡ Some event → is_start (event.call, event.reply) ≡ true
    → event.rank ≡ sender → accepts arrival.rank arrival.comm Any arrival.tag event.rank event.call ≡ true → IsIn place (positions (goes_way (way_from arrival sender)) 0 events)
goes_from events arrival sender place event there start own accepted =
    let T : Tag → Bool = λ t. accepts arrival.rank arrival.comm Any t event.rank event.call in
    in-placed (goes_way (way_from arrival sender)) events place event there
    (and_from (is_start (event.call, event.reply)) ((event.rank == sender) && T (named_tag (tag_named arrival.tag))) start
    (and_from (event.rank == sender) (T (named_tag (tag_named arrival.tag))) (eq-eqb event.rank sender own) (ap T (tag_back arrival.tag) ∙ accepted)))

-- later events of a rank come after what earlier ones come after
get_taken : {A : Type 0} (xs : List A) (p s : ℕ) (x : A) → s < p → slice_get xs s ≡ Some x → slice_get (take p xs) s ≡ Some x
get_taken [] p s x less h = absurd (cc)
get_taken (y ∷ ys) zero s x less h = absurd (omega (arith, less))
get_taken (y ∷ ys) (suc p) zero x less h = h
get_taken (y ∷ ys) (suc p) (suc s) x less h = get_taken ys p s x (omega (arith, less)) h

own_step : (n : ℕ) (events : List Event) (p q : ℕ) (one other : Event) → slice_get events p ≡ Some one → slice_get events q ≡ Some other → one.rank ≡ other.rank → p < q → PrecedesDirectly n events p q
own_step n events p q one other at_p at_q own less =
    let taken = get_taken events q p one less at_p in
    record {
      event = other;
      at = at_q;
      direct = record { less = slice_get-below (take q events) p one taken; why = inl (record { earlier = one; at = taken; own = own }) };
    }

stays_late : (seen : Observed) (arrival : Arrival) (sender p q : ℕ) → TellsBefore (comes_before seen) seen.ranks seen.events
    → IsIn p (positions (goes_way (way_from arrival sender)) 0 seen.events) → IsIn q (positions (goes_way (way_from arrival sender)) 0 seen.events) → p < q
    → comes_before seen arrival.at p ≡ true → comes_before seen arrival.at q ≡ true
stays_late seen arrival sender p q tells at_p at_q less late =
    let one = goes_parts seen.events arrival sender p at_p in
    let other = goes_parts seen.events arrival sender q at_q in
    let before = (tells arrival.at p).0 late in
    (tells arrival.at q).1 (path arrival.at p q before (own_step seen.ranks seen.events p q one.event other.event one.there other.there (one.own ∙ sym other.own) less))

more_starts : (events : List Event) (arrival : Arrival) (sender p q : ℕ) → IsIn p (positions (goes_way (way_from arrival sender)) 0 events) → IsIn q (positions (goes_way (way_from arrival sender)) 0 events) → p < q
    → count_below p (positions (is_start_of sender) 0 events) < count_below q (positions (is_start_of sender) 0 events)
more_starts events arrival sender p q at_p at_q less =
    let one = goes_parts events arrival sender p at_p in
    let other = goes_parts events arrival sender q at_q in
    let starts : List ℕ = positions (is_start_of sender) 0 events in
    name_at-rises events p q (sender, count_below p starts) (sender, count_below q starts)
    (name_there events sender p one.event one.there one.passes) (name_there events sender q other.event other.there other.passes) refl less

own_rank : (seen : Observed) (arrival : Arrival) (sender : ℕ) (name : Name) → IsIn name (racing_from seen arrival sender) → name.rank ≡ sender
own_rank seen arrival sender name h =
    (in_open (comes_before seen arrival.at) sender (positions (is_start_of sender) 0 seen.events) arrival.took (positions (goes_way (way_from arrival sender)) 0 seen.events) name h).rank_is

pub others_sorted : (seen : Observed) (arrival : Arrival) (ranks : ℕ) → AreSorted (λ (n : Name). n) (racing_below seen arrival ranks)
others_sorted seen arrival ranks =
    sorted_joined (λ (n : Name). n) (racing_from seen arrival) ranks
    (λ sender. sorted_open (comes_before seen arrival.at) sender (positions (is_start_of sender) 0 seen.events) arrival.took 0 (positions (goes_way (way_from arrival sender)) 0 seen.events)
    (positions-rise (goes_way (way_from arrival sender)) 0 seen.events)
    (λ p q at_p at_q less. more_starts seen.events arrival sender p q at_p at_q less))
    (own_rank seen arrival)

pub listed_is_other : (seen : Observed) (arrival : Arrival) (name : Name) → TellsBefore (comes_before seen) seen.ranks seen.events
    → IsIn name (racing_below seen arrival seen.ranks) → IsRacingSend seen.ranks seen.events arrival name
listed_is_other seen arrival name tells h =
    let given = in_joined (racing_from seen arrival) seen.ranks name h in
    let sender : ℕ = given.rank in
    let starts : List ℕ = positions (is_start_of sender) 0 seen.events in
    let is = in_open (comes_before seen arrival.at) sender starts arrival.took (positions (goes_way (way_from arrival sender)) 0 seen.events) name given.given in
    let send = goes_parts seen.events arrival sender is.place is.among in
    let N : ℕ → ℕ → Option (ℕ × ℕ) = λ r k. Some (r, k) in
    let A : ℕ → Bool = λ r. accepts arrival.rank arrival.comm Any arrival.tag r send.event.call in
    record {
      place = is.place;
      call = send.event.call;
      sent = record {
        event = send.event;
        there = send.there;
        call_is = refl;
        named = name_there seen.events sender is.place send.event send.there send.passes ∙ ap (λ k. N sender k) (sym is.start_is) ∙ ap (λ r. N r name.start) (sym is.rank_is);
      };
      accepted = ap A (is.rank_is ∙ sym send.own) ∙ send.accepted;
      other = λ e. (let no : true ≡ false = sym (same_start-refl name arrival.took e) ∙ is.other in cc);
      free = λ before. (let no : true ≡ false = sym ((tells arrival.at is.place).1 before) ∙ is.open_is in cc);
    }

pub rank_below : (n : ℕ) (events : List Event) (place : ℕ) (event : Event) → AreOfRanks n events → slice_get events place ≡ Some event → event.rank < n
rank_below n [] place event all h = absurd (cc)
rank_below n (x ∷ xs) zero event all h =
    let same : x ≡ event = cc in
    let low : x.rank < n = all 0 x (omega arith) in
    let ranks = ap (λ (e : Event). e.rank) same in
    omega (arith, low, ranks)
rank_below n (x ∷ xs) (suc place) event all h = rank_below n xs place event (λ i d within. all (suc i) d (omega (arith, within))) h

pub other_is_listed : (seen : Observed) (arrival : Arrival) (name : Name) → TellsBefore (comes_before seen) seen.ranks seen.events → AreOfRanks seen.ranks seen.events
    → IsRacingSend seen.ranks seen.events arrival name → IsIn name (racing_below seen arrival seen.ranks)
other_is_listed seen arrival name tells ranks other =
    let start = start_of_name seen.events name.rank name.start other.place other.sent.named in
    let some : Some start.event ≡ Some other.sent.event = sym start.there ∙ other.sent.there in
    let same : start.event ≡ other.sent.event = cc in
    let call : start.event.call ≡ other.call = ap (λ (e : Event). e.call) same ∙ other.sent.call_is in
    let A : ℕ → Call → Bool = λ r c. accepts arrival.rank arrival.comm Any arrival.tag r c in
    let accepted : A start.event.rank start.event.call ≡ true = ap (λ r. A r start.event.call) start.own ∙ ap (A name.rank) call ∙ other.accepted in
    let low : start.event.rank < seen.ranks = rank_below seen.ranks seen.events other.place start.event ranks start.there in
    let sender : ℕ = name.rank in
    let starts : List ℕ = positions (is_start_of sender) 0 seen.events in
    let places : List ℕ = positions (goes_way (way_from arrival sender)) 0 seen.events in
    let listed : Name = record { rank = sender; start = count_below other.place starts } in
    let is : name ≡ listed = same_name name.rank sender name.start (count_below other.place starts) refl start.number_is in
    let apart : same_start listed arrival.took ≡ false = false_from_ne_true (same_start listed arrival.took) (λ t. other.other (is ∙ same_start-is listed arrival.took t)) in
    let not_late : comes_before seen arrival.at other.place ≡ false = false_from_ne_true (comes_before seen arrival.at other.place) (λ t. other.free ((tells arrival.at other.place).0 t)) in
    let among = goes_from seen.events arrival sender other.place start.event start.there start.start start.own accepted in
    let inside = open_in (comes_before seen arrival.at) sender starts arrival.took 0 places other.place (positions-rise (goes_way (way_from arrival sender)) 0 seen.events)
    (λ p q at_p at_q less. stays_late seen arrival sender p q tells at_p at_q less) among not_late apart in
    let P : Name → Type 0 = λ n. IsIn n (racing_from seen arrival sender) in
    let own = start.own in
    joined_in (racing_from seen arrival) seen.ranks sender name (omega (arith, low, own)) (subst P (sym is) inside)
