-- The completions that are looked up are the completions.
use Rattle.std.proofs.Common.{◌≡◌, ◌⊎◌, ◌+◌, ◌∷◌, [], ℕ, ℤ, zero, suc, List, Option, Some, None, inl, inr, ap, arith, slice_get, get_or, subst, sym, ◌∙◌, refl}
use Rattle.mpi_call.specs.declared.call.Call.{Call}
use Rattle.mpi_call.specs.declared.reply.Got.{Got}
use Rattle.mpi_call.specs.declared.reply.Got.TheVariants.{Sent, Nothing, Message, Joined, Made}
use Rattle.mpi_call.specs.declared.reply.Item.{Item}
use Rattle.mpi_call.specs.declared.reply.Reply.{Reply}
use Rattle.mpi_call.specs.declared.reply.Reply.TheVariants.{Done, Took, NotYet, Peeked, Stopped}
use Rattle.mpi_call.specs.Calls.{listed_by}
use Rattle.mpi_call.specs.Lists.{IsIn}
use Rattle.run_model.specs.declared.event.Event.{Event}
use Rattle.run_model.proofs.Views.{test_cases}
use Rattle.msg_races.specs.declared.completions.ReceiveCompletion.{ReceiveCompletion}
use Rattle.msg_races.specs.declared.names.Name.{Name}
use Rattle.msg_races.specs.inside.Completions.{after_events, completion_after_got, completion_after_items, completion_after_reply, completion_of}
use Rattle.msg_races.specs.Names.{same_start}
use Rattle.msg_races.specs.Races.{IsCompletion}
use Rattle.msg_races.proofs.Others.{same_name, same_start-is, same_start-refl}

-- an item gives the message of `took` to the start `name`
record GivesTo (name took : Name) (rank number : ℕ) (got : Got) : Type 0 where
  rank_is : rank ≡ name.rank
  start_is : number ≡ name.start
  tag : ℕ
  ints : List ℤ
  gives : got ≡ Message took.rank took.start tag ints

-- what is known after an item was known before, or the item gives it
got_tells : (name : Name) (at rank number : ℕ) (got : Got) (known : Option ReceiveCompletion) (c : ReceiveCompletion) → completion_after_got name at rank number got known ≡ Some c
    → (known ≡ Some c) ⊎ ((c.at ≡ at) × GivesTo name c.took rank number got)
got_tells name at rank number (Message source start tag ints) known c h =
    let own : Name = record { rank = rank; start = number } in
    elim (test_cases (same_start own name)) [
      | inl t ↦ (
          let new : ReceiveCompletion = record { at = at; took = record { rank = source; start = start } } in
          let some : Some new ≡ Some c = rw t at h in
          let same : new ≡ c = cc in
          let is : own ≡ name = same_start-is own name t in
          let places : at ≡ c.at = ap (λ (x : ReceiveCompletion). x.at) same in
          let M : ℕ → ℕ → Got = λ r k. Message r k tag ints in
          inr (
            sym places,
            record {
              rank_is = ap (λ (x : Name). x.rank) is;
              start_is = ap (λ (x : Name). x.start) is;
              tag = tag;
              ints = ints;
              gives = ap (λ (r : ℕ). M r start) (ap (λ (x : ReceiveCompletion). x.took.rank) same) ∙ ap (M c.took.rank) (ap (λ (x : ReceiveCompletion). x.took.start) same);
            },
          ))
      | inr t ↦ inl (rw t at h)
    ]
got_tells name at rank number Sent known c h = inl h
got_tells name at rank number Nothing known c h = inl h
got_tells name at rank number (Joined ints) known c h = inl h
got_tells name at rank number (Made comm members) known c h = inl h

record ItemGives (name took : Name) (rank : ℕ) (starts : List ℕ) (items : List Item) : Type 0 where
  item : Item
  among : IsIn item items
  to : GivesTo name took rank (get_or starts item.index 0) item.got

items_tell : (name : Name) (at rank : ℕ) (starts : List ℕ) (items : List Item) (known : Option ReceiveCompletion) (c : ReceiveCompletion) → completion_after_items name at rank starts items known ≡ Some c
    → (known ≡ Some c) ⊎ ((c.at ≡ at) × ItemGives name c.took rank starts items)
items_tell name at rank starts [] known c h = inl h
items_tell name at rank starts (item ∷ items) known c h =
    elim (items_tell name at rank starts items (completion_after_got name at rank (get_or starts item.index 0) item.got known) c h) [
      | inl was ↦ elim (got_tells name at rank (get_or starts item.index 0) item.got known c was) [
        | inl old ↦ inl old
        | inr new ↦ inr (new.0, record { item = item; among = inl refl; to = new.1 })
      ]
      | inr later ↦ inr (later.0, record { item = later.1.item; among = inr later.1.among; to = later.1.to })
    ]

-- the event gives the message of `took` to the start `name`
record EventGives (name took : Name) (event : Event) : Type 0 where
  items : List Item
  reply : event.reply ≡ Took items
  by : ItemGives name took event.rank (listed_by event.call) items

reply_tells : (name : Name) (at rank : ℕ) (call : Call) (reply : Reply) (known : Option ReceiveCompletion) (c : ReceiveCompletion) → completion_after_reply name at rank call reply known ≡ Some c
    → (known ≡ Some c) ⊎ ((c.at ≡ at) × (items : List Item) × (reply ≡ Took items) × ItemGives name c.took rank (listed_by call) items)
reply_tells name at rank call (Took items) known c h = elim (items_tell name at rank (listed_by call) items known c h) [
  | inl old ↦ inl old
  | inr new ↦ inr (new.0, items, refl, new.1)
]
reply_tells name at rank call Done known c h = inl h
reply_tells name at rank call NotYet known c h = inl h
reply_tells name at rank call (Peeked source start tag count) known c h = inl h
reply_tells name at rank call (Stopped halt) known c h = inl h

record IsGivenAt (name took : Name) (at from : ℕ) (events : List Event) : Type 0 where
  place : ℕ
  at_is : at ≡ from + place
  event : Event
  there : slice_get events place ≡ Some event
  by : EventGives name took event

events_tell : (name : Name) (from : ℕ) (events : List Event) (known : Option ReceiveCompletion) (c : ReceiveCompletion) → after_events name from events known ≡ Some c
    → (known ≡ Some c) ⊎ IsGivenAt name c.took c.at from events
events_tell name from [] known c h = inl h
events_tell name from (event ∷ events) known c h =
    elim (events_tell name (from + 1) events (completion_after_reply name from event.rank event.call event.reply known) c h) [
      | inl was ↦ elim (reply_tells name from event.rank event.call event.reply known c was) [
        | inl old ↦ inl old
        | inr new ↦ (let at = new.0 in inr (record { place = 0; at_is = omega (arith, at); event = event; there = refl; by = record { items = new.1; reply = new.2; by = new.3 } }))
      ]
      | inr later ↦ (let at = later.at_is in inr (record { place = suc later.place; at_is = omega (arith, at); event = later.event; there = later.there; by = later.by }))
    ]

pub completion_is : (events : List Event) (name : Name) (c : ReceiveCompletion) → completion_of events name ≡ Some c → IsCompletion events name c.at c.took
completion_is events name c h = elim (events_tell name 0 events None c h) [
  | inl never ↦ absurd (cc)
  | inr is ↦ (
      let place = is.at_is in
      let same : is.place ≡ c.at = omega (arith, place) in
      let P : ℕ → Type 0 = λ k. slice_get events k ≡ Some is.event in
      record {
        event = is.event;
        there = subst P same is.there;
        own = is.by.by.to.rank_is;
        items = is.by.items;
        reply = is.by.reply;
        item = is.by.by.item;
        among = is.by.by.among;
        completes = is.by.by.to.start_is;
        tag = is.by.by.to.tag;
        ints = is.by.by.to.ints;
        gives = is.by.by.to.gives;
      })
]

-- and each completion is known
abbrev IsKnown : Option ReceiveCompletion → Type 0
IsKnown known = (c : ReceiveCompletion) × (known ≡ Some c)

got_keeps : (name : Name) (at rank number : ℕ) (got : Got) (known : Option ReceiveCompletion) → IsKnown known → IsKnown (completion_after_got name at rank number got known)
got_keeps name at rank number (Message source start tag ints) known is =
    let own : Name = record { rank = rank; start = number } in
    elim (test_cases (same_start own name)) [
      | inl t ↦ rw t (record { at = at; took = record { rank = source; start = start } }, refl)
      | inr t ↦ rw t is
    ]
got_keeps name at rank number Sent known is = is
got_keeps name at rank number Nothing known is = is
got_keeps name at rank number (Joined ints) known is = is
got_keeps name at rank number (Made comm members) known is = is

items_keep : (name : Name) (at rank : ℕ) (starts : List ℕ) (items : List Item) (known : Option ReceiveCompletion) → IsKnown known → IsKnown (completion_after_items name at rank starts items known)
items_keep name at rank starts [] known is = is
items_keep name at rank starts (item ∷ items) known is =
    items_keep name at rank starts items (completion_after_got name at rank (get_or starts item.index 0) item.got known) (got_keeps name at rank (get_or starts item.index 0) item.got known is)

reply_keeps : (name : Name) (at rank : ℕ) (call : Call) (reply : Reply) (known : Option ReceiveCompletion) → IsKnown known → IsKnown (completion_after_reply name at rank call reply known)
reply_keeps name at rank call (Took items) known is = items_keep name at rank (listed_by call) items known is
reply_keeps name at rank call Done known is = is
reply_keeps name at rank call NotYet known is = is
reply_keeps name at rank call (Peeked source start tag count) known is = is
reply_keeps name at rank call (Stopped halt) known is = is

events_keep : (name : Name) (from : ℕ) (events : List Event) (known : Option ReceiveCompletion) → IsKnown known → IsKnown (after_events name from events known)
events_keep name from [] known is = is
events_keep name from (event ∷ events) known is =
    events_keep name (from + 1) events (completion_after_reply name from event.rank event.call event.reply known) (reply_keeps name from event.rank event.call event.reply known is)

got_adds : (name : Name) (at rank number source start tag : ℕ) (ints : List ℤ) (known : Option ReceiveCompletion) → rank ≡ name.rank → number ≡ name.start → IsKnown (completion_after_got name at rank number (Message source start tag ints) known)
got_adds name at rank number source start tag ints known ranks starts =
    let own : Name = record { rank = rank; start = number } in
    let is : own ≡ name = same_name rank name.rank number name.start ranks starts in
    rw (same_start-refl own name is) (record { at = at; took = record { rank = source; start = start } }, refl)

items_add : (name : Name) (at rank : ℕ) (starts : List ℕ) (items : List Item) (known : Option ReceiveCompletion) (item : Item) (source start tag : ℕ) (ints : List ℤ)
    → IsIn item items → rank ≡ name.rank → get_or starts item.index 0 ≡ name.start → item.got ≡ Message source start tag ints → IsKnown (completion_after_items name at rank starts items known)
items_add name at rank starts [] known item source start tag ints among ranks numbers gives = absurd among
items_add name at rank starts (first ∷ items) known item source start tag ints among ranks numbers gives = elim among [
  | inl e ↦ (
      let number : get_or starts first.index 0 ≡ name.start = ap (λ (i : Item). get_or starts i.index 0) e ∙ numbers in
      let got : first.got ≡ Message source start tag ints = ap (λ (i : Item). i.got) e ∙ gives in
      let G : Got → Type 0 = λ g. IsKnown (completion_after_got name at rank (get_or starts first.index 0) g known) in
      items_keep name at rank starts items (completion_after_got name at rank (get_or starts first.index 0) first.got known)
      (subst G (sym got) (got_adds name at rank (get_or starts first.index 0) source start tag ints known ranks number)))
  | inr later ↦ items_add name at rank starts items (completion_after_got name at rank (get_or starts first.index 0) first.got known) item source start tag ints later ranks numbers gives
]

events_add : (name : Name) (from : ℕ) (events : List Event) (known : Option ReceiveCompletion) (at : ℕ) (took : Name) → IsCompletion events name at took → IsKnown (after_events name from events known)
events_add name from [] known at took is = absurd (let there = is.there in cc)
events_add name from (event ∷ events) known zero took is =
    let there = is.there in
    let same : event ≡ is.event = cc in
    let reply : event.reply ≡ Took is.items = ap (λ (e : Event). e.reply) same ∙ is.reply in
    let rank : event.rank ≡ name.rank = ap (λ (e : Event). e.rank) same ∙ is.own in
    let number : get_or (listed_by event.call) is.item.index 0 ≡ name.start = ap (λ (e : Event). get_or (listed_by e.call) is.item.index 0) same ∙ is.completes in
    let R : Reply → Type 0 = λ r. IsKnown (completion_after_reply name from event.rank event.call r known) in
    events_keep name (from + 1) events (completion_after_reply name from event.rank event.call event.reply known)
    (subst R (sym reply) (items_add name from event.rank (listed_by event.call) is.items known is.item took.rank took.start is.tag is.ints is.among rank number is.gives))
events_add name from (event ∷ events) known (suc at) took is =
    events_add name (from + 1) events (completion_after_reply name from event.rank event.call event.reply known) at took (record {
      event = is.event;
      there = is.there;
      own = is.own;
      items = is.items;
      reply = is.reply;
      item = is.item;
      among = is.among;
      completes = is.completes;
      tag = is.tag;
      ints = is.ints;
      gives = is.gives;
    })

pub completion_known : (events : List Event) (name : Name) (at : ℕ) (took : Name) → IsCompletion events name at took → (c : ReceiveCompletion) × (completion_of events name ≡ Some c)
completion_known events name at took is = events_add name 0 events None at took is
