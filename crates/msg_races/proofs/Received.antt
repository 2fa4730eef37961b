-- The listed receives are the races.
use Rattle.std.proofs.Common.{◌≡◌, ◌≤◌, ◌<◌, ◌+◌, ◌∷◌, [], ℕ, List, Option, Some, None, inl, inr, ap, arith, slice_get, subst, sym, ◌∙◌, refl}
use Rattle.mpi_call.specs.declared.call.Call.{Call}
use Rattle.mpi_call.specs.declared.call.Call.TheVariants.{Send, Post, Enter, Take, Peek, Abort, Trap, End}
use Rattle.mpi_call.specs.declared.call.Source.TheVariants.{Any, From, Null}
use Rattle.mpi_call.specs.Lists.{IsIn}
use Rattle.run_model.specs.declared.event.Event.{Event}
use Rattle.run_model.specs.Pairs.{name_at}
use Rattle.causes.specs.Clocks.{AreOfRanks, Observed, TellsBefore, comes_before}
use Rattle.causes.specs.Positions.{is_start_of, positions}
use Rattle.causes.proofs.PositionLemmas.{in-placed}
use Rattle.msg_races.specs.declared.arrival.Arrival.{Arrival}
use Rattle.msg_races.specs.declared.completions.ReceiveCompletion.{ReceiveCompletion}
use Rattle.msg_races.specs.declared.names.Name.{Name}
use Rattle.msg_races.specs.declared.receives.WildcardReceive.{WildcardReceive}
use Rattle.msg_races.specs.inside.Completions.{completion_of}
use Rattle.msg_races.specs.Listing.{arrival_at, arrival_by, raced_receive, received, receives_at, receives_below, receives_of}
use Rattle.msg_races.specs.Names.{AreSorted, receive_name}
use Rattle.msg_races.specs.Races.{AreRaces, IsCompletion, IsRace, IsNamedStart, IsWildcard}
use Rattle.msg_races.proofs.Completed.{completion_is, completion_known}
use Rattle.msg_races.proofs.Others.{listed_is_other, other_is_listed, others_sorted, rank_below, same_name}
use Rattle.msg_races.proofs.SortedLists.{in_back, in_front, in_joined, in_parts, joined_in, sorted_append, sorted_joined}
use Rattle.msg_races.proofs.StartNames.{AreNumbered, start_of_name, starts_numbered}

-- a wildcard receive that was completed, by its start at a position
pub record IsArrival (events : List Event) (name : Name) (place : ℕ) (arrival : Arrival) : Type 0 where
  pub event : Event
  pub there : slice_get events place ≡ Some event
  pub room : ℕ
  pub call_is : event.call ≡ Post arrival.comm Any arrival.tag room
  pub rank_is : arrival.rank ≡ name.rank
  pub start_is : arrival.start ≡ name.start
  pub completion : ReceiveCompletion
  pub known : completion_of events name ≡ Some completion
  pub at_is : completion.at ≡ arrival.at
  pub took_is : completion.took ≡ arrival.took

record IsArrivalBy (name : Name) (call : Call) (known : Option ReceiveCompletion) (arrival : Arrival) : Type 0 where
  room : ℕ
  call_is : call ≡ Post arrival.comm Any arrival.tag room
  rank_is : arrival.rank ≡ name.rank
  start_is : arrival.start ≡ name.start
  completion : ReceiveCompletion
  known_is : known ≡ Some completion
  at_is : completion.at ≡ arrival.at
  took_is : completion.took ≡ arrival.took

arrival_parts : (name : Name) (call : Call) (known : Option ReceiveCompletion) (arrival : Arrival) → arrival_by name call known ≡ Some arrival → IsArrivalBy name call known arrival
arrival_parts name (Post comm Any tag room) (Some completion) arrival h =
    let made : Arrival = record { rank = name.rank; start = name.start; comm = comm; tag = tag; at = completion.at; took = completion.took } in
    let same : made ≡ arrival = cc in
    record {
      room = room;
      call_is = ap (λ (a : Arrival). Post a.comm Any a.tag room) same;
      rank_is = ap (λ (a : Arrival). a.rank) (sym same);
      start_is = ap (λ (a : Arrival). a.start) (sym same);
      completion = completion;
      known_is = refl;
      at_is = ap (λ (a : Arrival). a.at) same;
      took_is = ap (λ (a : Arrival). a.took) same;
    }
arrival_parts name (Post comm Any tag room) None arrival h = absurd (cc)
arrival_parts name (Post comm (From rank) tag room) known arrival h = absurd (cc)
arrival_parts name (Post comm Null tag room) known arrival h = absurd (cc)
arrival_parts name (Send comm dest tag ints sync) known arrival h = absurd (cc)
arrival_parts name (Enter comm kind root op count ints) known arrival h = absurd (cc)
arrival_parts name (Take starts mode) known arrival h = absurd (cc)
arrival_parts name (Peek comm source tag wait) known arrival h = absurd (cc)
arrival_parts name (Abort code) known arrival h = absurd (cc)
arrival_parts name (Trap fault) known arrival h = absurd (cc)
arrival_parts name End known arrival h = absurd (cc)

some_event : (events : List Event) (name : Name) (place : ℕ) (arrival : Arrival) (found : Option Event) → slice_get events place ≡ found → arrival_at events name place ≡ Some arrival → IsArrival events name place arrival
some_event events name place arrival None none h = absurd (let no : None ≡ Some arrival = rw none at h in cc)
some_event events name place arrival (Some event) there h =
    let parts = arrival_parts name event.call (completion_of events name) arrival (rw there at h) in
    record {
      event = event;
      there = there;
      room = parts.room;
      call_is = parts.call_is;
      rank_is = parts.rank_is;
      start_is = parts.start_is;
      completion = parts.completion;
      known = parts.known_is;
      at_is = parts.at_is;
      took_is = parts.took_is;
    }

-- a listed receive comes from a start
pub record IsReceived (seen : Observed) (rank number : ℕ) (places : List ℕ) (receive : WildcardReceive) : Type 0 where
  pub place : ℕ
  pub start : ℕ
  pub high : number ≤ start
  pub named : name_at seen.events place ≡ Some (rank, start)
  pub arrival : Arrival
  pub arrives : (let name : Name = record { rank = rank; start = start } in IsArrival seen.events name place arrival)
  pub is : raced_receive seen arrival ≡ receive

in_received : (seen : Observed) (found : Option Arrival) (receive : WildcardReceive) → IsIn receive (received seen found) → (arrival : Arrival) × (found ≡ Some arrival) × (raced_receive seen arrival ≡ receive)
in_received seen None receive h = absurd h
in_received seen (Some arrival) receive h = elim h [ inl e ↦ (arrival, refl, e) | inr never ↦ absurd never ]

in_receives : (seen : Observed) (rank number : ℕ) (places : List ℕ) (receive : WildcardReceive) → AreNumbered seen.events rank number places
    → IsIn receive (receives_at seen rank number places) → IsReceived seen rank number places receive
in_receives seen rank number [] receive numbered h = absurd h
in_receives seen rank number (place ∷ places) receive numbered h =
    let name : Name = record { rank = rank; start = number } in
    elim (in_parts receive (received seen (arrival_at seen.events name place)) (receives_at seen rank (number + 1) places) h) [
      | inl here ↦ (
          let is = in_received seen (arrival_at seen.events name place) receive here in
          record {
            place = place;
            start = number;
            high = omega arith;
            named = numbered.0;
            arrival = is.0;
            arrives = some_event seen.events name place is.0 (slice_get seen.events place) refl is.1;
            is = is.2;
          })
      | inr later ↦ (
          let rest = in_receives seen rank (number + 1) places receive numbered.1 later in
          let high = rest.high in
          record { place = rest.place; start = rest.start; high = omega (arith, high); named = rest.named; arrival = rest.arrival; arrives = rest.arrives; is = rest.is })
    ]

received_rank : (seen : Observed) (rank number : ℕ) (places : List ℕ) (receive : WildcardReceive) (is : IsReceived seen rank number places receive) → receive.rank ≡ rank
received_rank seen rank number places receive is = ap (λ (r : WildcardReceive). r.rank) (sym is.is) ∙ is.arrives.rank_is

received_start : (seen : Observed) (rank number : ℕ) (places : List ℕ) (receive : WildcardReceive) (is : IsReceived seen rank number places receive) → receive.start ≡ is.start
received_start seen rank number places receive is = ap (λ (r : WildcardReceive). r.start) (sym is.is) ∙ is.arrives.start_is

-- they are sorted
one_sorted : (seen : Observed) (found : Option Arrival) → AreSorted receive_name (received seen found)
one_sorted seen None = tt
one_sorted seen (Some arrival) = (λ later never. absurd never, tt)

receives_sorted : (seen : Observed) (rank number : ℕ) (places : List ℕ) → AreNumbered seen.events rank number places → AreSorted receive_name (receives_at seen rank number places)
receives_sorted seen rank number [] numbered = tt
receives_sorted seen rank number (place ∷ places) numbered =
    let name : Name = record { rank = rank; start = number } in
    sorted_append receive_name (received seen (arrival_at seen.events name place)) (receives_at seen rank (number + 1) places)
    (one_sorted seen (arrival_at seen.events name place))
    (receives_sorted seen rank (number + 1) places numbered.1)
    (λ a b in_a in_b. (
    let first = in_received seen (arrival_at seen.events name place) a in_a in
    let arrives = some_event seen.events name place first.0 (slice_get seen.events place) refl first.1 in
    let is = in_receives seen rank (number + 1) places b numbered.1 in_b in
    let rank_a : a.rank ≡ rank = ap (λ (r : WildcardReceive). r.rank) (sym first.2) ∙ arrives.rank_is in
    let start_a : a.start ≡ number = ap (λ (r : WildcardReceive). r.start) (sym first.2) ∙ arrives.start_is in
    let rank_b = received_rank seen rank (number + 1) places b is in
    let start_b = received_start seen rank (number + 1) places b is in
    let high = is.high in
    inr (rank_a ∙ sym rank_b, omega (arith, start_a, start_b, high))))

rank_of_receive : (seen : Observed) (rank : ℕ) (receive : WildcardReceive) → IsIn receive (receives_of seen rank) → receive.rank ≡ rank
rank_of_receive seen rank receive h =
    let places : List ℕ = positions (is_start_of rank) 0 seen.events in
    received_rank seen rank 0 places receive (in_receives seen rank 0 places receive (starts_numbered seen.events rank) h)

all_sorted : (seen : Observed) → AreSorted receive_name (receives_below seen seen.ranks)
all_sorted seen =
    sorted_joined receive_name (receives_of seen) seen.ranks
    (λ rank. receives_sorted seen rank 0 (positions (is_start_of rank) 0 seen.events) (starts_numbered seen.events rank))
    (λ rank receive h. rank_of_receive seen rank receive h)

-- each of them is a race
race_of : (seen : Observed) (rank : ℕ) (receive : WildcardReceive) (number : ℕ) (places : List ℕ) → TellsBefore (comes_before seen) seen.ranks seen.events → AreOfRanks seen.ranks seen.events
    → IsReceived seen rank number places receive → IsRace seen.ranks seen.events receive
race_of seen rank receive number places tells ranks is =
    let arrives = is.arrives in
    let arrival = is.arrival in
    let name : Name = record { rank = rank; start = is.start } in
    let own : name ≡ receive_name (raced_receive seen arrival) = same_name rank arrival.rank is.start arrival.start (sym arrives.rank_is) (sym arrives.start_is) in
    let C : Name → Type 0 = λ n. IsCompletion seen.events n arrives.completion.at arrives.completion.took in
    let D : ℕ → Type 0 = λ k. IsCompletion seen.events (receive_name (raced_receive seen arrival)) k arrives.completion.took in
    let E : Name → Type 0 = λ n. IsCompletion seen.events (receive_name (raced_receive seen arrival)) arrival.at n in
    let N : Name → Type 0 = λ n. IsWildcard seen.events n arrival.comm arrival.tag in
    let start : IsNamedStart seen.events name is.place (Post arrival.comm Any arrival.tag arrives.room) = record { event = arrives.event; there = arrives.there; call_is = arrives.call_is; named = is.named } in
    let R : WildcardReceive → Type 0 = λ r. IsRace seen.ranks seen.events r in
    let race : IsRace seen.ranks seen.events (raced_receive seen arrival) = record {
      comm = arrival.comm;
      tag = arrival.tag;
      wildcard = subst N own (record { at = is.place; room = arrives.room; post = start });
      at = arrival.at;
      completion = subst E arrives.took_is (subst D arrives.at_is (subst C own (completion_is seen.events name arrives.completion arrives.known)));
      sorted = others_sorted seen arrival seen.ranks;
      others = λ send. (listed_is_other seen arrival send tells, other_is_listed seen arrival send tells ranks);
    } in
    subst R is.is race

-- and each completed wildcard receive is there
numbered_in : (seen : Observed) (rank number : ℕ) (places : List ℕ) (start place : ℕ) (arrival : Arrival) → AreNumbered seen.events rank number places → IsIn place places → name_at seen.events place ≡ Some (rank, start)
    → (let name : Name = record { rank = rank; start = start } in arrival_at seen.events name place ≡ Some arrival) → IsIn (raced_receive seen arrival) (receives_at seen rank number places)
numbered_in seen rank number [] start place arrival numbered there named arrives = absurd there
numbered_in seen rank number (first ∷ places) start place arrival numbered there named arrives =
    let own : Name = record { rank = rank; start = number } in
    let one : List WildcardReceive = received seen (arrival_at seen.events own first) in
    let more : List WildcardReceive = receives_at seen rank (number + 1) places in
    elim there [
      | inl e ↦ (
          let F : ℕ → Type 0 = λ p. name_at seen.events p ≡ Some (rank, number) in
          let both : Some (rank, number) ≡ Some (rank, start) = sym (subst F e numbered.0) ∙ named in
          let pairs : (rank, number) ≡ (rank, start) = cc in
          let same : number ≡ start = ap (λ (n : ℕ × ℕ). n.1) pairs in
          let G : ℕ → Type 0 = λ k. (let name : Name = record { rank = rank; start = k } in arrival_at seen.events name place ≡ Some arrival) in
          let H : ℕ → Type 0 = λ p. arrival_at seen.events own p ≡ Some arrival in
          let here : arrival_at seen.events own first ≡ Some arrival = subst H (sym e) (subst G (sym same) arrives) in
          in_front (raced_receive seen arrival) one more (rw here (inl refl)))
      | inr later ↦ in_back (raced_receive seen arrival) one more (numbered_in seen rank (number + 1) places start place arrival numbered.1 later named arrives)
    ]

race_there : (seen : Observed) (name : Name) (comm : ℕ) (tag : _) (at : ℕ) (took : Name) → AreOfRanks seen.ranks seen.events → IsWildcard seen.events name comm tag → IsCompletion seen.events name at took
    → (receive : WildcardReceive) × IsIn receive (receives_below seen seen.ranks) × (receive_name receive ≡ name)
race_there seen name comm tag at took ranks wildcard completed =
    let post = wildcard.post in
    let known = completion_known seen.events name at took completed in
    let start = start_of_name seen.events name.rank name.start wildcard.at post.named in
    let low : start.event.rank < seen.ranks = rank_below seen.ranks seen.events wildcard.at start.event ranks start.there in
    let own = start.own in
    let arrival : Arrival = record { rank = name.rank; start = name.start; comm = comm; tag = tag; at = known.0.at; took = known.0.took } in
    let places : List ℕ = positions (is_start_of name.rank) 0 seen.events in
    let there : IsIn wildcard.at places = in-placed (is_start_of name.rank) seen.events wildcard.at start.event start.there start.passes in
    let arrives : arrival_at seen.events name wildcard.at ≡ Some arrival = rw (post.there, post.call_is, known.1) refl in (
      raced_receive seen arrival,
      joined_in (receives_of seen) seen.ranks name.rank (raced_receive seen arrival) (omega (arith, low, own)) (numbered_in seen name.rank 0 places name.start wildcard.at arrival (starts_numbered seen.events name.rank) there post.named arrives),
      refl,
    )

pub listed_are_races : (seen : Observed) → TellsBefore (comes_before seen) seen.ranks seen.events → AreOfRanks seen.ranks seen.events → AreRaces seen.ranks seen.events (receives_below seen seen.ranks)
listed_are_races seen tells ranks = record {
  sorted = all_sorted seen;
  each = λ receive h. (
      let given = in_joined (receives_of seen) seen.ranks receive h in
      let places : List ℕ = positions (is_start_of given.rank) 0 seen.events in
      race_of seen given.rank receive 0 places tells ranks (in_receives seen given.rank 0 places receive (starts_numbered seen.events given.rank) given.given));
  all = λ name comm tag at took wildcard completed. race_there seen name comm tag at took ranks wildcard completed;
}

-- the same, of n ranks and these events
pub races_of : (seen : Observed) (n : ℕ) (events : List Event) → seen.ranks ≡ n → seen.events ≡ events → TellsBefore (comes_before seen) seen.ranks seen.events → AreOfRanks n events
    → AreRaces n events (receives_below seen n)
races_of seen n events ranks same tells below =
    let P : ℕ → Type 0 = λ k. AreOfRanks k seen.events in
    let Q : List Event → Type 0 = λ l. AreOfRanks n l in
    let R : ℕ → Type 0 = λ k. AreRaces k seen.events (receives_below seen k) in
    let S : List Event → Type 0 = λ l. AreRaces n l (receives_below seen n) in
    subst S same (subst R ranks (listed_are_races seen tells (subst P (sym ranks) (subst Q (sym same) below))))
