-- In two such runs the links of twins are twins.
use Rattle.std.proofs.Common.{◌≡◌, ◌<◌, ◌==◌, ◌++◌, ◌∷◌, [], ℕ, zero, suc, List, Option, Some, None, true, false, inl, inr, refl, ap, sym, ◌∙◌, arith, get_or, length, length-take-le, nat_lt, slice_get, slice_index, subst, take}
use Rattle.std.proofs.lemmas.Bool.{eq-eqb, eqb-true}
use Rattle.mpi_call.specs.declared.call.Call.{Call}
use Rattle.mpi_call.specs.declared.reply.Item.{Item}
use Rattle.mpi_call.specs.declared.reply.Reply.{Reply}
use Rattle.mpi_call.specs.declared.reply.Reply.TheVariants.{Done, NotYet, Peeked, Stopped, Took}
use Rattle.mpi_call.specs.Calls.{listed_by}
use Rattle.mpi_call.specs.Lists.{IsIn}
use Rattle.mpi_call.specs.Members.{is_distinct, is_member}
use Rattle.run_model.specs.declared.event.Event.{Event}
use Rattle.run_model.specs.Pairs.{Name, name_at}
use Rattle.run_model.specs.Run.{IsRun}
use Rattle.run_model.specs.Views.{Next, items_taken}
use Rattle.run_model.proofs.StartLemmas.{slice_get-below}
use Rattle.run_model.proofs.Taken.{TakesAt, distinct_parts, event_there, reply_taken, taken_once}
use Rattle.run_model.proofs.Views.{test_cases}
use Rattle.causes.specs.Positions.{is_start_of, start_position}
use Rattle.causes.specs.Steps.{completed_from}
use Rattle.msg_races.specs.Listing.{lists_below}
use Rattle.msg_races.proofs.SortedLists.{in_back, in_front, in_parts, joined_in}
use Rattle.run_drawing.specs.declared.links.CompletedStart.{CompletedStart}
use Rattle.run_drawing.specs.Depths.{AreDepths}
use Rattle.run_drawing.specs.Links.{completion_in, deeper, deepest, link_by, links_at, links_by, event_links, links_in, with_depth}
use Rattle.run_drawing.proofs.Alike.{AreAlike, IsAlike, alike_found, alike_some}
use Rattle.run_drawing.proofs.ArrowLemmas.{in_joined}
use Rattle.run_drawing.proofs.Deepest.{there_known}
use Rattle.run_drawing.proofs.Twins.{IsTwin, longer_passing, longer_twins, one_twin, place_of, turned, twin_there}
use Rattle.run_drawing.proofs.TwinRuns.{AreTwinRuns, item_taken, item_twins, moment, same_depth, turned_runs}
use Rattle.run_drawing.proofs.TwinStarts.{start_named, start_twins}

-- 1. the deepest of twins

-- twins that both have a depth, and the same
abbrev pub AreAsDeep : List ℕ → List ℕ → ℕ → ℕ → Type 0
AreAsDeep depths depths' p q = (p < length depths) × (q < length depths') × (get_or depths p 0 ≡ get_or depths' q 0)

deeper_twins : (Like : ℕ → ℕ → Type 0) (depths depths' : List ℕ) (a b a' b' : Option ℕ) → ((p q : ℕ) → Like p q → AreAsDeep depths depths' p q) → IsAlike Like a a' → IsAlike Like b b'
    → IsAlike Like (deeper depths a b) (deeper depths' a' b')
deeper_twins Like depths depths' None b None b' deep first second = second
deeper_twins Like depths depths' None b (Some y) b' deep first second = absurd first
deeper_twins Like depths depths' (Some x) b None b' deep first second = absurd first
deeper_twins Like depths depths' (Some x) None (Some y) None deep first second = first
deeper_twins Like depths depths' (Some x) None (Some y) (Some z) deep first second = absurd second
deeper_twins Like depths depths' (Some x) (Some z) (Some y) None deep first second = absurd second
deeper_twins Like depths depths' (Some x) (Some z) (Some y) (Some w) deep first second =
    let one = (deep x y first).2 in
    let other = (deep z w second).2 in
    let tests : nat_lt (get_or depths x 0) (get_or depths z 0) ≡ nat_lt (get_or depths' y 0) (get_or depths' w 0) =
    ap (λ k. nat_lt k (get_or depths z 0)) one ∙ ap (nat_lt (get_or depths' y 0)) other in
    elim (test_cases (nat_lt (get_or depths x 0) (get_or depths z 0))) [
      | inl t ↦ (let u = sym tests ∙ t in rw (t, u) second)
      | inr t ↦ (let u = sym tests ∙ t in rw (t, u) first)
    ]

pub deepest_twins : (Like : ℕ → ℕ → Type 0) (depths depths' : List ℕ) (places places' : List ℕ) → ((p q : ℕ) → Like p q → AreAsDeep depths depths' p q) → AreAlike Like places places'
    → IsAlike Like (deepest depths places) (deepest depths' places')
deepest_twins Like depths depths' [] [] deep are = tt
deepest_twins Like depths depths' [] (q ∷ places') deep are = absurd are
deepest_twins Like depths depths' (p ∷ places) [] deep are = absurd are
deepest_twins Like depths depths' (p ∷ places) (q ∷ places') deep are =
    let known = there_known depths p (deep p q are.0).0 in
    let known_too = there_known depths' q (deep p q are.0).1 in
    let rest = deepest_twins Like depths depths' places places' deep are.1 in
    let A : Option ℕ → Type 0 = λ o. IsAlike Like (deeper depths o (deepest depths places)) (deeper depths' (Some q) (deepest depths' places')) in
    let B : Option ℕ → Type 0 = λ o. IsAlike Like (deeper depths (with_depth depths p) (deepest depths places)) (deeper depths' o (deepest depths' places')) in
    subst B (sym known_too) (subst A (sym known) (deeper_twins Like depths depths' (Some p) (deepest depths places) (Some q) (deepest depths' places') deep are.0 rest))

-- runs and the depths of their events
pub record AreTwinSides (next : Next) (n : ℕ) (one other : List Event) (depths depths' : List ℕ) : Type 0 where
  pub runs : AreTwinRuns next n one other
  pub first : AreDepths n one depths
  pub second : AreDepths n other depths'

abbrev pub turned_sides : (next : Next) (n : ℕ) (one other : List Event) (depths depths' : List ℕ) → AreTwinSides next n one other depths depths' → AreTwinSides next n other one depths' depths
turned_sides next n one other depths depths' sides = record { runs = turned_runs next n one other sides.runs; first = sides.second; second = sides.first }

pub as_deep : (next : Next) (n : ℕ) (one other : List Event) (depths depths' : List ℕ) (p q : ℕ) → AreTwinSides next n one other depths depths' → IsTwin one other p q → AreAsDeep depths depths' p q
as_deep next n one other depths depths' p q sides twin =
    let a = place_of one twin.rank twin.number p twin.first in
    let b = place_of other twin.rank twin.number q twin.second in
    let low = slice_get-below one p a.event a.there in
    let low' = slice_get-below other q b.event b.there in
    let many = sides.first.as_many in
    let many' = sides.second.as_many in
    (omega (arith, low, many), omega (arith, low', many'), same_depth next n one other p q (get_or depths p 0) (get_or depths' q 0) sides.runs twin (sides.first.each p low) (sides.second.each q low'))

get_front : (xs : List ℕ) (k t : ℕ) → t < k → get_or (take k xs) t 0 ≡ get_or xs t 0
get_front [] zero t low = refl
get_front [] (suc k) t low = refl
get_front (x ∷ xs) zero t low = absurd (omega (arith, low))
get_front (x ∷ xs) (suc k) zero low = refl
get_front (x ∷ xs) (suc k) (suc t) low = get_front xs k t (omega (arith, low))

-- the same, of the events before twins
pub fronts_deep : (next : Next) (n : ℕ) (one other : List Event) (depths depths' : List ℕ) (p q : ℕ) → AreTwinSides next n one other depths depths' → IsTwin one other p q
    → (t s : ℕ) → IsTwin (take p one) (take q other) t s → AreAsDeep (take p depths) (take q depths') t s
fronts_deep next n one other depths depths' p q sides twin t s its =
    let deep = as_deep next n one other depths depths' t s sides (longer_twins one other p q t s its) in
    let end = as_deep next n one other depths depths' p q sides twin in
    let low = end.0 in
    let low' = end.1 in
    let many = sides.first.as_many in
    let many' = sides.second.as_many in
    let a = place_of (take p one) its.rank its.number t its.first in
    let b = place_of (take q other) its.rank its.number s its.second in
    let less = slice_get-below (take p one) t a.event a.there in
    let less' = slice_get-below (take q other) s b.event b.there in
    let cut = length-take-le p one (omega (arith, low, many)) in
    let cut' = length-take-le q other (omega (arith, low', many')) in
    let long = length-take-le p depths (omega (arith, low)) in
    let long' = length-take-le q depths' (omega (arith, low')) in
    let before : t < p = omega (arith, less, cut) in
    let before' : s < q = omega (arith, less', cut') in
    (omega (arith, before, long), omega (arith, before', long'), get_front depths p t before ∙ (deep.2 ∙ sym (get_front depths' q s before')))

-- 2. the links of a history

abbrev pub links_of : ℕ → List Event → List ℕ → List CompletedStart
links_of n events depths = lists_below (links_at n events depths) (length events)

-- the link that an item of the event at a position makes
abbrev pub made_link : ℕ → List Event → List ℕ → ℕ → ℕ → ℕ → Item → ℕ → CompletedStart
made_link n events depths at rank number item start = record {
  start = start;
  at = length (take at events);
  cause = deepest (take at depths) (completed_from n (take at events) rank number item.got);
}

pub record IsLink (n : ℕ) (events : List Event) (depths : List ℕ) (link : CompletedStart) : Type 0 where
  pub at : ℕ
  pub event : Event
  pub items : List Item
  pub item : Item
  pub there : slice_get events at ≡ Some event
  pub took : event.reply ≡ Took items
  pub among : IsIn item items
  pub start : start_position (take at events) event.rank (slice_index (listed_by event.call) item.index) ≡ Some link.start
  pub is : link ≡ made_link n events depths at event.rank (slice_index (listed_by event.call) item.index) item link.start

one_link : (o : Option ℕ) (at : ℕ) (cause : Option ℕ) (link : CompletedStart) → IsIn link (link_by o at cause) → (o ≡ Some link.start) × (link ≡ record { start = link.start; at = at; cause = cause })
one_link None at cause link h = absurd h
one_link (Some start) at cause link h = elim h [
  | inl e ↦ (
      let by : ℕ → CompletedStart = λ s. record { start = s; at = at; cause = cause } in
      let starts : start ≡ link.start = ap (λ (l : CompletedStart). l.start) e in
      (ap (λ s. Some s) starts, sym e ∙ ap by starts))
  | inr never ↦ absurd never
]

-- what one item gives
record IsItemLink (n : ℕ) (depths : List ℕ) (before : List Event) (me : ℕ) (starts : List ℕ) (items : List Item) (link : CompletedStart) : Type 0 where
  item : Item
  among : IsIn item items
  start : start_position before me (slice_index starts item.index) ≡ Some link.start
  is : link ≡ record { start = link.start; at = length before; cause = deepest depths (completed_from n before me (slice_index starts item.index) item.got) }

item_link : (n : ℕ) (depths : List ℕ) (before : List Event) (me : ℕ) (starts : List ℕ) (items : List Item) (link : CompletedStart) → IsIn link (links_in n depths before me starts items)
    → IsItemLink n depths before me starts items link
item_link n depths before me starts [] link h = absurd h
item_link n depths before me starts (item ∷ items) link h =
    let number : ℕ = slice_index starts item.index in
    let cause : Option ℕ = deepest depths (completed_from n before me number item.got) in
    elim (in_parts link (link_by (start_position before me number) (length before) cause) (links_in n depths before me starts items) h) [
      | inl l ↦ (let made = one_link (start_position before me number) (length before) cause link l in record { item = item; among = inl refl; start = made.0; is = made.1 })
      | inr r ↦ (let rest = item_link n depths before me starts items link r in record { item = rest.item; among = inr rest.among; start = rest.start; is = rest.is })
    ]

reply_link : (n : ℕ) (depths : List ℕ) (before : List Event) (me : ℕ) (call : Call) (reply : Reply) (link : CompletedStart) → IsIn link (links_by n depths before me call reply)
    → (items : List Item) × (reply ≡ Took items) × IsItemLink n depths before me (listed_by call) items link
reply_link n depths before me call (Took items) link h = (items, refl, item_link n depths before me (listed_by call) items link h)
reply_link n depths before me call Done link h = absurd h
reply_link n depths before me call NotYet link h = absurd h
reply_link n depths before me call (Peeked source start tag count) link h = absurd h
reply_link n depths before me call (Stopped halt) link h = absurd h

event_link : (n : ℕ) (depths : List ℕ) (before : List Event) (o : Option Event) (link : CompletedStart) → IsIn link (event_links n depths before o)
    → (event : Event) × (o ≡ Some event) × IsIn link (links_by n depths before event.rank event.call event.reply)
event_link n depths before None link h = absurd h
event_link n depths before (Some event) link h = (event, refl, h)

pub link_found : (n : ℕ) (events : List Event) (depths : List ℕ) (link : CompletedStart) → IsIn link (links_of n events depths) → IsLink n events depths link
link_found n events depths link h =
    let found = in_joined (links_at n events depths) (length events) link h in
    let by_event = event_link n (take found.0 depths) (take found.0 events) (slice_get events found.0) link found.1 in
    let event : Event = by_event.0 in
    let by_reply = reply_link n (take found.0 depths) (take found.0 events) event.rank event.call event.reply link by_event.2 in
    record {
      at = found.0;
      event = event;
      items = by_reply.0;
      item = by_reply.2.item;
      there = by_event.1;
      took = by_reply.1;
      among = by_reply.2.among;
      start = by_reply.2.start;
      is = by_reply.2.is;
    }

-- and each item of a completed start makes one
item_makes : (n : ℕ) (depths : List ℕ) (before : List Event) (me : ℕ) (starts : List ℕ) (items : List Item) (item : Item) (start : ℕ) → IsIn item items
    → start_position before me (slice_index starts item.index) ≡ Some start
    → IsIn (record { start = start; at = length before; cause = deepest depths (completed_from n before me (slice_index starts item.index) item.got) }) (links_in n depths before me starts items)
item_makes n depths before me starts [] item start h there = absurd h
item_makes n depths before me starts (x ∷ items) item start h there =
    let made : Item → CompletedStart = λ i. record { start = start; at = length before; cause = deepest depths (completed_from n before me (slice_index starts i.index) i.got) } in
    let cause : Option ℕ = deepest depths (completed_from n before me (slice_index starts x.index) x.got) in
    let first : List CompletedStart = link_by (start_position before me (slice_index starts x.index)) (length before) cause in
    let rest : List CompletedStart = links_in n depths before me starts items in
    elim h [
      | inl e ↦ (
          let S : Item → Type 0 = λ i. start_position before me (slice_index starts i.index) ≡ Some start in
          let here : start_position before me (slice_index starts x.index) ≡ Some start = subst S (sym e) there in
          let L : Option ℕ → Type 0 = λ o. IsIn (made x) (link_by o (length before) cause) in
          let M : Item → Type 0 = λ i. IsIn (made i) (first ++ rest) in
          subst M e (in_front (made x) first rest (subst L (sym here) (inl refl))))
      | inr later ↦ in_back (made item) first rest (item_makes n depths before me starts items item start later there)
    ]

pub link_made : (n : ℕ) (events : List Event) (depths : List ℕ) (at : ℕ) (event : Event) (items : List Item) (item : Item) (start : ℕ) → slice_get events at ≡ Some event → event.reply ≡ Took items
    → IsIn item items → start_position (take at events) event.rank (slice_index (listed_by event.call) item.index) ≡ Some start
    → IsIn (made_link n events depths at event.rank (slice_index (listed_by event.call) item.index) item start) (links_of n events depths)
link_made n events depths at event items item start there took among here =
    let link : CompletedStart = made_link n events depths at event.rank (slice_index (listed_by event.call) item.index) item start in
    let R : Reply → Type 0 = λ r. IsIn link (links_by n (take at depths) (take at events) event.rank event.call r) in
    let by_reply = subst R (sym took) (item_makes n (take at depths) (take at events) event.rank (listed_by event.call) items item start among here) in
    let E : Option Event → Type 0 = λ o. IsIn link (event_links n (take at depths) (take at events) o) in
    joined_in (links_at n events depths) (length events) at link (slice_get-below events at event there) (subst E (sym there) by_reply)

-- 3. twin links

pub record IsTwinLink (one other : List Event) (link link' : CompletedStart) : Type 0 where
  pub start : IsTwin one other link.start link'.start
  pub at : IsTwin one other link.at link'.at
  pub cause : IsAlike (IsTwin one other) link.cause link'.cause

pub longer_alike : (one other : List Event) (j k : ℕ) (o o' : Option ℕ) → IsAlike (IsTwin (take j one) (take k other)) o o' → IsAlike (IsTwin one other) o o'
longer_alike one other j k None None is = tt
longer_alike one other j k None (Some q) is = absurd is
longer_alike one other j k (Some p) None is = absurd is
longer_alike one other j k (Some p) (Some q) is = longer_twins one other j k p q is

pub cut_at : (events : List Event) (at : ℕ) (event : Event) → slice_get events at ≡ Some event → length (take at events) ≡ at
cut_at events at event there = (let low = slice_get-below events at event there in length-take-le at events (omega (arith, low)))

-- a link has a twin
pub record HasTwinLink (n : ℕ) (one other : List Event) (depths' : List ℕ) (link : CompletedStart) : Type 0 where
  pub link' : CompletedStart
  pub among : IsIn link' (links_of n other depths')
  pub twin : IsTwinLink one other link link'

pub link_over : (next : Next) (n : ℕ) (one other : List Event) (depths depths' : List ℕ) (link : CompletedStart) → AreTwinSides next n one other depths depths' → IsIn link (links_of n one depths)
    → HasTwinLink n one other depths' link
link_over next n one other depths depths' link sides h =
    let made = link_found n one depths link h in
    let p : ℕ = made.at in
    let event : Event = made.event in
    let found = twin_there one other p event (sides.runs.views event.rank) made.there in
    let q : ℕ = found.0 in
    let twin : IsTwin one other p q = found.1 in
    let is = moment next n one other p q sides.runs twin in
    let both : Some event ≡ Some is.said.event = sym made.there ∙ is.said.there in
    let same : event ≡ is.said.event = cc in
    let me : ℕ = is.said.event.rank in
    let number : ℕ = slice_index (listed_by is.said.event.call) made.item.index in
    let S : Event → Type 0 = λ e. start_position (take p one) e.rank (slice_index (listed_by e.call) made.item.index) ≡ Some link.start in
    let start : start_position (take p one) me number ≡ Some link.start = subst S same made.start in
    let other_start = alike_some (IsTwin (take p one) (take q other)) (start_position (take p one) me number) (start_position (take q other) me number) link.start
    (start_twins (take p one) (take q other) me number is.fronts.own) start in
    let took : is.said.event.reply ≡ Took made.items = ap (λ (e : Event). e.reply) (sym same) ∙ made.took in
    let items = item_twins next n one other p q sides.runs is made.items made.item took made.among in
    let causes = longer_alike one other p q (deepest (take p depths) (completed_from n (take p one) me number made.item.got)) (deepest (take q depths') (completed_from n (take q other) me number made.item.got))
    (deepest_twins (IsTwin (take p one) (take q other)) (take p depths) (take q depths') (completed_from n (take p one) me number made.item.got) (completed_from n (take q other) me number made.item.got)
    (fronts_deep next n one other depths depths' p q sides twin) items) in
    let link_too : CompletedStart = made_link n other depths' q me number made.item other_start.0 in
    let T : ℕ → Type 0 = λ r. start_position (take q other) r (slice_index (listed_by is.said.twin.call) made.item.index) ≡ Some other_start.0 in
    let C : Call → Type 0 = λ c. start_position (take q other) me (slice_index (listed_by c) made.item.index) ≡ Some other_start.0 in
    let its_start = subst T (sym is.said.rank_is) (subst C (sym is.said.call_is) other_start.1) in
    let its = link_made n other depths' q is.said.twin made.items made.item other_start.0 is.said.twin_there (is.said.reply_is ∙ took) made.among its_start in
    let D : ℕ → Type 0 = λ r. IsIn (made_link n other depths' q r (slice_index (listed_by is.said.twin.call) made.item.index) made.item other_start.0) (links_of n other depths') in
    let E : Call → Type 0 = λ c. IsIn (made_link n other depths' q me (slice_index (listed_by c) made.item.index) made.item other_start.0) (links_of n other depths') in
    let among : IsIn link_too (links_of n other depths') = subst E is.said.call_is (subst D is.said.rank_is its) in
    let L : Event → Type 0 = λ e. link ≡ made_link n one depths p e.rank (slice_index (listed_by e.call) made.item.index) made.item link.start in
    let link_is : link ≡ made_link n one depths p me number made.item link.start = subst L same made.is in
    let at : link.at ≡ p = ap (λ (l : CompletedStart). l.at) link_is ∙ cut_at one p event made.there in
    let at_too : length (take q other) ≡ q = cut_at other q is.said.twin is.said.twin_there in
    let A : ℕ → Type 0 = λ k. IsTwin one other k q in
    let B : ℕ → Type 0 = λ k. IsTwin one other link.at k in
    let K : Option ℕ → Type 0 = λ o. IsAlike (IsTwin one other) o link_too.cause in
    record {
      link' = link_too;
      among = among;
      twin = record {
        start = longer_twins one other p q link.start other_start.0 other_start.2;
        at = subst B (sym at_too) (subst A (sym at) twin);
        cause = subst K (sym (ap (λ (l : CompletedStart). l.cause) link_is)) causes;
      };
    }

-- 4. a start has one link

not_again : (starts : List ℕ) (first : Item) (items : List Item) (item : Item) → is_distinct (items_taken starts (first ∷ items)) ≡ true → IsIn item items
    → slice_index starts first.index ≡ slice_index starts item.index → ⊥
not_again starts first items item distinct there same =
    let F : ℕ → Type 0 = λ k. is_member (items_taken starts items) k ≡ true in
    let again : is_member (items_taken starts items) (slice_index starts first.index) ≡ true = subst F (sym same) (item_taken starts items item there) in
    let no : true ≡ false = sym again ∙ (distinct_parts (slice_index starts first.index) (items_taken starts items) distinct).0 in
    cc

one_item : (starts : List ℕ) (items : List Item) (a b : Item) → is_distinct (items_taken starts items) ≡ true → IsIn a items → IsIn b items
    → slice_index starts a.index ≡ slice_index starts b.index → a ≡ b
one_item starts [] a b distinct at_a at_b same = absurd at_a
one_item starts (first ∷ items) a b distinct at_a at_b same =
    let number : Item → ℕ = λ i. slice_index starts i.index in
    elim at_a [
      | inl is_a ↦ elim at_b [
        | inl is_b ↦ sym is_a ∙ is_b
        | inr later ↦ absurd (not_again starts first items b distinct later (ap number is_a ∙ same))
      ]
      | inr later ↦ elim at_b [
        | inl is_b ↦ absurd (not_again starts first items a distinct later (ap number is_b ∙ sym same))
        | inr behind ↦ one_item starts items a b (distinct_parts (number first) (items_taken starts items) distinct).1 later behind same
      ]
    ]

link_takes : (n : ℕ) (events : List Event) (depths : List ℕ) (link : CompletedStart) (made : IsLink n events depths link)
    → TakesAt events made.event.rank (slice_index (listed_by made.event.call) made.item.index) made.at
link_takes n events depths link made =
    record { event = made.event; there = made.there; own = refl; items = made.items; reply = made.took; takes = item_taken (listed_by made.event.call) made.items made.item made.among }

-- links of one start's name are one
pub one_of_name : (next : Next) (n : ℕ) (events : List Event) (depths : List ℕ) (one other : CompletedStart) (a : IsLink n events depths one) (b : IsLink n events depths other) → IsRun next n events
    → a.event.rank ≡ b.event.rank → slice_index (listed_by a.event.call) a.item.index ≡ slice_index (listed_by b.event.call) b.item.index → one ≡ other
one_of_name next n events depths one other a b run ranks numbers =
    let rank : ℕ = b.event.rank in
    let number : ℕ = slice_index (listed_by b.event.call) b.item.index in
    let T : ℕ → Type 0 = λ r. TakesAt events r (slice_index (listed_by a.event.call) a.item.index) a.at in
    let U : ℕ → Type 0 = λ k. TakesAt events rank k a.at in
    let at : a.at ≡ b.at = taken_once next n events rank number a.at b.at run (subst U numbers (subst T ranks (link_takes n events depths one a))) (link_takes n events depths other b) in
    let G : ℕ → Type 0 = λ k. slice_get events k ≡ Some a.event in
    let both : Some a.event ≡ Some b.event = sym (subst G at a.there) ∙ b.there in
    let event : a.event ≡ b.event = cc in
    let replies : Took a.items ≡ Took b.items = sym a.took ∙ (ap (λ (e : Event). e.reply) event ∙ b.took) in
    let items : a.items ≡ b.items = cc in
    let taken = reply_taken next n (take b.at events) b.event b.items (event_there next n events b.at b.event run b.there) b.took in
    let I : List Item → Type 0 = λ l. IsIn a.item l in
    let F : Event → Type 0 = λ e. slice_index (listed_by e.call) a.item.index ≡ number in
    let item : a.item ≡ b.item = one_item (listed_by b.event.call) b.items a.item b.item taken.once (subst I items a.among) b.among (subst F event numbers) in
    let S : ℕ → Type 0 = λ k. start_position (take k events) b.event.rank number ≡ Some one.start in
    let R : ℕ → Type 0 = λ r. start_position (take a.at events) r number ≡ Some one.start in
    let N : ℕ → Type 0 = λ k. start_position (take a.at events) a.event.rank k ≡ Some one.start in
    let here : start_position (take b.at events) rank number ≡ Some one.start = subst S at (subst R ranks (subst N numbers a.start)) in
    let starts_both : Some one.start ≡ Some other.start = sym here ∙ b.start in
    let start : one.start ≡ other.start = cc in
    let by : ℕ → ℕ → ℕ → Item → ℕ → CompletedStart = λ at r k i s. made_link n events depths at r k i s in
    a.is
    ∙ (ap (λ at. by at a.event.rank (slice_index (listed_by a.event.call) a.item.index) a.item one.start) at
    ∙ (ap (λ r. by b.at r (slice_index (listed_by a.event.call) a.item.index) a.item one.start) ranks
    ∙ (ap (λ k. by b.at rank k a.item one.start) numbers
    ∙ (ap (λ i. by b.at rank number i one.start) item
    ∙ (ap (by b.at rank number b.item) start ∙ sym b.is)))))

-- the name of a link's start
link_named : (n : ℕ) (events : List Event) (depths : List ℕ) (link : CompletedStart) (made : IsLink n events depths link)
    → name_at events link.start ≡ Some (made.event.rank, slice_index (listed_by made.event.call) made.item.index)
link_named n events depths link made =
    let number : ℕ = slice_index (listed_by made.event.call) made.item.index in
    start_named events made.event.rank number link.start (longer_passing (is_start_of made.event.rank) events made.at number link.start made.start)

pub same_parts : (a b : Name) → Some a ≡ Some b → (a.0 ≡ b.0) × (a.1 ≡ b.1)
same_parts a b h = (let same : a ≡ b = cc in (ap (λ (n : Name). n.0) same, ap (λ (n : Name). n.1) same))

pub one_link_of : (next : Next) (n : ℕ) (events : List Event) (depths : List ℕ) (one other : CompletedStart) → IsRun next n events → IsIn one (links_of n events depths) → IsIn other (links_of n events depths)
    → one.start ≡ other.start → one ≡ other
one_link_of next n events depths one other run first second same =
    let a = link_found n events depths one first in
    let b = link_found n events depths other second in
    let names = same_parts (a.event.rank, slice_index (listed_by a.event.call) a.item.index) (b.event.rank, slice_index (listed_by b.event.call) b.item.index)
    (sym (link_named n events depths one a) ∙ (ap (name_at events) same ∙ link_named n events depths other b)) in
    one_of_name next n events depths one other a b run names.0 names.1

pub completion_twins : (next : Next) (n : ℕ) (one other : List Event) (depths depths' : List ℕ) (p q : ℕ) → AreTwinSides next n one other depths depths' → IsTwin one other p q
    → IsAlike (IsTwinLink one other) (completion_in (links_of n one depths) p) (completion_in (links_of n other depths') q)
completion_twins next n one other depths depths' p q sides twin =
    alike_found (IsTwinLink one other) (λ (link : CompletedStart). link.start == p) (λ (link : CompletedStart). link.start == q) (links_of n one depths) (links_of n other depths')
    (completion_in (links_of n one depths) p) (completion_in (links_of n other depths') q)
    (λ link among passes. (
    let over = link_over next n one other depths depths' link sides among in
    let same : over.link'.start ≡ q = one_twin one other link.start over.link'.start p q over.twin.start twin (eqb-true link.start p passes) in
    (over.link', over.among, eq-eqb over.link'.start q same, over.twin)))
    (λ link among passes. (
    let over = link_over next n other one depths' depths link (turned_sides next n one other depths depths' sides) among in
    let same : over.link'.start ≡ p = one_twin other one link.start over.link'.start q p over.twin.start (turned one other p q twin) (eqb-true link.start q passes) in
    (over.link', over.among, eq-eqb over.link'.start p same)))
    (λ link another first second passes also. (
    let same : link.start ≡ another.start = eqb-true link.start q passes ∙ sym (eqb-true another.start q also) in
    one_link_of next n other depths' link another sides.runs.second first second same))
    refl refl
