-- A run has one list of races.
use Rattle.std.proofs.Common.{◌≡◌, ◌∷◌, ◌==◌, ◌∙◌, [], ℕ, List, Some, true, false, inl, inr, ap, arith, refl, slice_get, slice_index, subst, sym, take}
use Rattle.std.proofs.lemmas.Bool.{cases_order, eq-eqb, or_left, or_right}
use Rattle.mpi_call.specs.declared.call.Call.{Call}
use Rattle.mpi_call.specs.declared.call.Call.TheVariants.{Post}
use Rattle.mpi_call.specs.declared.call.Source.TheVariants.{Any}
use Rattle.mpi_call.specs.declared.call.Tag.{Tag}
use Rattle.mpi_call.specs.declared.reply.Got.TheVariants.{Message}
use Rattle.mpi_call.specs.declared.reply.Item.{Item}
use Rattle.mpi_call.specs.declared.reply.Reply.TheVariants.{Took}
use Rattle.mpi_call.specs.Calls.{listed_by}
use Rattle.mpi_call.specs.Lists.{IsIn}
use Rattle.mpi_call.specs.Members.{is_distinct, is_member}
use Rattle.run_model.specs.declared.event.Event.{Event}
use Rattle.run_model.specs.Pairs.{name_at}
use Rattle.run_model.specs.Run.{IsRun}
use Rattle.run_model.specs.Views.{Next, items_taken}
use Rattle.run_model.proofs.Positions.{name_at-rises}
use Rattle.run_model.proofs.Taken.{TakesAt, distinct_parts, event_there, reply_taken, taken_once}
use Rattle.msg_races.specs.declared.names.Name.{Name}
use Rattle.msg_races.specs.declared.receives.WildcardReceive.{WildcardReceive}
use Rattle.msg_races.specs.Names.{receive_name}
use Rattle.msg_races.specs.Races.{AreRaces, IsCompletion, IsRacingSend, IsRace, IsWildcard, RunsHaveOneList, arrival_of}
use Rattle.msg_races.proofs.Others.{same_name}
use Rattle.msg_races.proofs.SortedLists.{AreWithin, same_sorted}

-- 1. a name is of one start

one_event : (events : List Event) (i j : ℕ) (one other : Event) → slice_get events i ≡ Some one → slice_get events j ≡ Some other → i ≡ j → one ≡ other
one_event events i j one other here there same =
    let F : ℕ → Type 0 = λ k. slice_get events k ≡ Some one in
    let both : Some one ≡ Some other = sym (subst F same here) ∙ there in
    cc

one_position : (events : List Event) (name : ℕ × ℕ) (i j : ℕ) → name_at events i ≡ Some name → name_at events j ≡ Some name → i ≡ j
one_position events name i j here there = elim (cases_order i j) [
  | inl same ↦ same
  | inr other ↦ elim other [
    | inl less ↦ absurd (let no = name_at-rises events i j name name here there refl less in omega (arith, no))
    | inr more ↦ absurd (let no = name_at-rises events j i name name there here refl more in omega (arith, no))
  ]
]

one_wildcard : (events : List Event) (name : Name) (comm comm' : ℕ) (tag tag' : Tag) → IsWildcard events name comm tag → IsWildcard events name comm' tag'
    → (comm ≡ comm') × (tag ≡ tag')
one_wildcard events name comm comm' tag tag' is too =
    let place = one_position events (name.rank, name.start) is.at too.at is.post.named too.post.named in
    let same = one_event events is.at too.at is.post.event too.post.event is.post.there too.post.there place in
    let calls : Post comm Any tag is.room ≡ Post comm' Any tag' too.room = sym is.post.call_is ∙ (ap (λ (e : Event). e.call) same ∙ too.post.call_is) in
    (cc, cc)

-- 2. it is completed once

number_in : (starts : List ℕ) (items : List Item) (item : Item) → IsIn item items → is_member (items_taken starts items) (slice_index starts item.index) ≡ true
number_in starts [] item there = absurd there
number_in starts (first ∷ items) item there =
    let number : Item → ℕ = λ i. slice_index starts i.index in
    elim there [
      | inl same ↦ or_left (number first == number item) (is_member (items_taken starts items) (number item)) (eq-eqb (number first) (number item) (ap number same))
      | inr later ↦ or_right (number first == number item) (is_member (items_taken starts items) (number item)) (number_in starts items item later)
    ]

not_again : (starts : List ℕ) (first : Item) (items : List Item) (item : Item) → is_distinct (items_taken starts (first ∷ items)) ≡ true → IsIn item items
    → slice_index starts first.index ≡ slice_index starts item.index → ⊥
not_again starts first items item distinct there same =
    let F : ℕ → Type 0 = λ k. is_member (items_taken starts items) k ≡ true in
    let again : is_member (items_taken starts items) (slice_index starts first.index) ≡ true = subst F (sym same) (number_in starts items item there) in
    let no : true ≡ false = sym again ∙ (distinct_parts (slice_index starts first.index) (items_taken starts items) distinct).0 in
    cc

one_item : (starts : List ℕ) (items : List Item) (a b : Item) → is_distinct (items_taken starts items) ≡ true → IsIn a items → IsIn b items
    → slice_index starts a.index ≡ slice_index starts b.index → a ≡ b
one_item starts [] a b distinct at_a at_b same = absurd at_a
one_item starts (first ∷ items) a b distinct at_a at_b same =
    let number : Item → ℕ = λ i. slice_index starts i.index in
    elim at_a [
      | inl is_a ↦ elim at_b [
        | inl is_b ↦ sym is_a ∙ is_b
        | inr later ↦ absurd (not_again starts first items b distinct later (ap number is_a ∙ same))
      ]
      | inr later ↦ elim at_b [
        | inl is_b ↦ absurd (not_again starts first items a distinct later (ap number is_b ∙ sym same))
        | inr behind ↦ one_item starts items a b (distinct_parts (number first) (items_taken starts items) distinct).1 later behind same
      ]
    ]

takes : (events : List Event) (name : Name) (at : ℕ) (took : Name) → IsCompletion events name at took → TakesAt events name.rank name.start at
takes events name at took is =
    let F : ℕ → Type 0 = λ k. is_member (items_taken (listed_by is.event.call) is.items) k ≡ true in
    record {
      event = is.event;
      there = is.there;
      own = is.own;
      items = is.items;
      reply = is.reply;
      takes = subst F is.completes (number_in (listed_by is.event.call) is.items is.item is.among);
    }

one_took : (next : Next) (n : ℕ) (events : List Event) (name : Name) (at : ℕ) (took took' : Name) → IsRun next n events → IsCompletion events name at took
    → IsCompletion events name at took' → took ≡ took'
one_took next n events name at took took' run is too =
    let same = one_event events at at is.event too.event is.there too.there refl in
    let replies : Took is.items ≡ Took too.items = sym is.reply ∙ (ap (λ (e : Event). e.reply) same ∙ too.reply) in
    let items : too.items ≡ is.items = cc in
    let F : List Item → Type 0 = λ l. IsIn too.item l in
    let number : Call → Item → ℕ = λ call i. slice_index (listed_by call) i.index in
    let numbers : number is.event.call is.item ≡ number is.event.call too.item =
    is.completes ∙ sym (ap (λ (e : Event). number e.call too.item) same ∙ too.completes) in
    let taken = reply_taken next n (take at events) is.event is.items (event_there next n events at is.event run is.there) is.reply in
    let item = one_item (listed_by is.event.call) is.items is.item too.item taken.once is.among (subst F items too.among) numbers in
    let gots : Message took.rank took.start is.tag is.ints ≡ Message took'.rank took'.start too.tag too.ints = sym is.gives ∙ (ap (λ (i : Item). i.got) item ∙ too.gives) in
    same_name took.rank took'.rank took.start took'.start (cc) (cc)

one_completion : (next : Next) (n : ℕ) (events : List Event) (name : Name) (at at' : ℕ) (took took' : Name) → IsRun next n events → IsCompletion events name at took
    → IsCompletion events name at' took' → (at ≡ at') × (took ≡ took')
one_completion next n events name at at' took took' run is too =
    let place = taken_once next n events name.rank name.start at at' run (takes events name at took is) (takes events name at' took' too) in
    let F : ℕ → Type 0 = λ k. IsCompletion events name k took in
    (place, one_took next n events name at' took took' run (subst F place is) too)

-- 3. so a name is of one race

other_moves : (n : ℕ) (events : List Event) (receive receive' : WildcardReceive) (comm comm' : ℕ) (tag tag' : Tag) (at at' : ℕ) (send : Name)
    → receive.rank ≡ receive'.rank → comm ≡ comm' → tag ≡ tag' → at ≡ at' → receive.took ≡ receive'.took
    → IsRacingSend n events (arrival_of receive comm tag at) send → IsRacingSend n events (arrival_of receive' comm' tag' at') send
other_moves n events receive receive' comm comm' tag tag' at at' send ranks comms tags places tooks is = record {
  place = is.place;
  call = is.call;
  sent = is.sent;
  accepted = rw (← ranks, ← comms, ← tags) is.accepted;
  other = rw (← tooks) is.other;
  free = rw (← places) is.free;
}

same_parts : (rank rank' start start' : ℕ) (took took' : Name) (others others' : List Name) → rank ≡ rank' → start ≡ start' → took ≡ took' → others ≡ others'
    → (let a : WildcardReceive = record { rank = rank; start = start; took = took; others = others } in
    let b : WildcardReceive = record { rank = rank'; start = start'; took = took'; others = others' } in
    a ≡ b)
same_parts rank rank' start start' took took' others others' ranks starts tooks same = cc

same_receive : (one other : WildcardReceive) → receive_name one ≡ receive_name other → one.took ≡ other.took → one.others ≡ other.others → one ≡ other
same_receive one other names tooks others =
    same_parts one.rank other.rank one.start other.start one.took other.took one.others other.others
    (ap (λ (n : Name). n.rank) names) (ap (λ (n : Name). n.start) names) tooks others

-- what two races of one name have in common
record AreSame {n : ℕ} {events : List Event} {one other : WildcardReceive} (is : IsRace n events one) (too : IsRace n events other) : Type 0 where
  rank : one.rank ≡ other.rank
  comm : is.comm ≡ too.comm
  tag : is.tag ≡ too.tag
  at : is.at ≡ too.at
  took : one.took ≡ other.took

are_same : (next : Next) (n : ℕ) (events : List Event) (one other : WildcardReceive) (is : IsRace n events one) (too : IsRace n events other) → IsRun next n events
    → receive_name one ≡ receive_name other → AreSame is too
are_same next n events one other is too run names =
    let W : Name → Type 0 = λ name. IsWildcard events name is.comm is.tag in
    let C : Name → Type 0 = λ name. IsCompletion events name is.at one.took in
    let wildcard = one_wildcard events (receive_name other) is.comm too.comm is.tag too.tag (subst W names is.wildcard) too.wildcard in
    let completion = one_completion next n events (receive_name other) is.at too.at one.took other.took run (subst C names is.completion) too.completion in
    record { rank = ap (λ (name : Name). name.rank) names; comm = wildcard.0; tag = wildcard.1; at = completion.0; took = completion.1 }

others_within : (n : ℕ) (events : List Event) (one other : WildcardReceive) (is : IsRace n events one) (too : IsRace n events other) → AreSame is too
    → AreWithin one.others other.others
others_within n events one other is too same send there =
    (too.others send).1
    (other_moves n events one other is.comm too.comm is.tag too.tag is.at too.at send same.rank same.comm same.tag same.at same.took ((is.others send).0 there))

one_race : (next : Next) (n : ℕ) (events : List Event) (one other : WildcardReceive) → IsRun next n events → IsRace n events one → IsRace n events other
    → receive_name one ≡ receive_name other → one ≡ other
one_race next n events one other run is too names =
    let same = are_same next n events one other is too run names in
    let back = are_same next n events other one too is run (sym names) in
    same_receive one other names same.took
    (same_sorted (λ (name : Name). name) one.others other.others is.sorted too.sorted (others_within n events one other is too same) (others_within n events other one too is back))

-- 4. lists

races_within : (next : Next) (n : ℕ) (events : List Event) (one other : List WildcardReceive) → IsRun next n events → AreRaces n events one → AreRaces n events other
    → AreWithin one other
races_within next n events one other run are too receive there =
    let race = are.each receive there in
    let found = too.all (receive_name receive) race.comm race.tag race.at receive.took race.wildcard race.completion in
    let F : WildcardReceive → Type 0 = λ r. IsIn r other in
    subst F (one_race next n events found.0 receive run (too.each found.0 found.1) race found.2) found.1

pub one_list : RunsHaveOneList
one_list next n events one other run are too =
    same_sorted receive_name one other are.sorted too.sorted (races_within next n events one other run are too) (races_within next n events other one run too are)
