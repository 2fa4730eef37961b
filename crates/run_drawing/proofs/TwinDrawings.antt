-- Two such runs have one drawing.
use Rattle.std.proofs.Common.{◌≡◌, ◌≤◌, ◌+◌, ◌-◌, ◌==◌, ◌&&◌, ◌⊎◌, ◌↔◌, ◌∷◌, [], ℕ, ℤ, zero, suc, Bool, List, Option, Some, None, true, false, not, if◌then◌else◌, inl, inr, refl, ap, sym, ◌∙◌, arith, get_or, length, map, max, slice_get, slice_index, subst, take}
use Rattle.std.proofs.lemmas.Bool.{and_parts, cases_lt, eqb-true, false_from_ne_true}
use Rattle.std.specs.List.{list_any}
use Rattle.mpi_call.specs.declared.call.Call.{Call}
use Rattle.mpi_call.specs.declared.call.Call.TheVariants.{Abort, End, Enter, Peek, Post, Send, Take, Trap}
use Rattle.mpi_call.specs.declared.call.Source.{Source}
use Rattle.mpi_call.specs.declared.call.Source.TheVariants.{Any, From, Null}
use Rattle.mpi_call.specs.declared.call.Tag.{Tag}
use Rattle.mpi_call.specs.declared.reply.Item.{Item}
use Rattle.mpi_call.specs.declared.reply.Reply.{Reply}
use Rattle.mpi_call.specs.declared.reply.Reply.TheVariants.{Done, NotYet, Peeked, Stopped, Took}
use Rattle.mpi_call.specs.Acceptance.{accepts}
use Rattle.mpi_call.specs.Calls.{is_wildcard, listed_by}
use Rattle.mpi_call.specs.Lists.{IsIn}
use Rattle.run_model.specs.declared.event.Event.{Event}
use Rattle.run_model.specs.Due.{stops}
use Rattle.run_model.specs.Views.{Next, View, is_start, rank_of_event}
use Rattle.run_model.proofs.ChosenGots.{accepted_send}
use Rattle.run_model.proofs.StartLemmas.{slice_get-below}
use Rattle.run_model.proofs.Views.{test_cases}
use Rattle.group_plan.specs.Plans.{number_of_ranks}
use Rattle.causes.specs.Before.{IsBefore}
use Rattle.causes.specs.Clocks.{TellsBefore}
use Rattle.causes.specs.Positions.{is_event_of, is_start_of, positions, start_position}
use Rattle.causes.specs.Steps.{rests_on}
use Rattle.causes.proofs.PositionLemmas.{placed-in}
use Rattle.msg_races.specs.declared.sends.Way.{Way}
use Rattle.msg_races.specs.Listing.{lists_below}
use Rattle.msg_races.specs.Ways.{goes_way, named_tag}
use Rattle.run_drawing.specs.declared.drawing.Arrow.{Arrow}
use Rattle.run_drawing.specs.declared.drawing.DrawnCollective.{DrawnCollective}
use Rattle.run_drawing.specs.declared.drawing.DrawnMark.{DrawnMark}
use Rattle.run_drawing.specs.declared.drawing.DrawnMessage.{DrawnMessage}
use Rattle.run_drawing.specs.declared.drawing.Point.{Point}
use Rattle.run_drawing.specs.declared.drawing.DrawnReceive.{DrawnReceive}
use Rattle.run_drawing.specs.declared.drawing.Unreceived.{Unreceived}
use Rattle.run_drawing.specs.declared.links.CompletedStart.{CompletedStart}
use Rattle.run_drawing.specs.Basis.{Basis}
use Rattle.run_drawing.specs.Choices.{choice_beside, first_untaken, is_done_before, is_untaken, unless_late, message_way, posted_at}
use Rattle.run_drawing.specs.Columns.{behind_all, behind_first, column, column_behind, column_by, columns_of, point}
use Rattle.run_drawing.specs.Drawings.{arrow_from, wildcard_choices, collective_at, collective_by, collective_in, collective_of, column_in, drawn, bar_end, rank_groups, is_any, is_wildcard_at, is_wildcard_in, latest_of, mark_at, marks_from, drawn_marks, completed_message, drawn_message, of_events, of_starts, probe_at, probe_by, probe_in, receive_at, receive_by, receive_in, drawn_receive, takes_wildcard, takes_wildcard_in, unreceived_at, unreceived_by, unreceived_in, unreceived_of}
use Rattle.run_drawing.specs.Drawn.{Drawn}
use Rattle.run_drawing.specs.Laws.{SameDrawing}
use Rattle.run_drawing.specs.Links.{cause_at, cause_in, completion_in, deepest, last_position, taker_in}
use Rattle.run_drawing.proofs.Alike.{AreAlike, IsAlike, alike_find, find_found, same_flat, same_joined}
use Rattle.run_drawing.proofs.ColumnLemmas.{going_behind}
use Rattle.run_drawing.proofs.Twins.{AreSaid, IsTwin, as_many_seen, own_twins, place_of, said, same_less, same_test, turned, twin_there}
use Rattle.run_drawing.proofs.TwinLinks.{AreTwinSides, IsTwinLink, as_deep, completion_twins, deepest_twins, fronts_deep, links_of, longer_alike, turned_sides}
use Rattle.run_drawing.proofs.TwinRuns.{before_over, moment, rests_twins, turned_runs, whole_agree}
use Rattle.run_drawing.proofs.TwinStarts.{IsTestOf, all_passing, both_or_none, start_test, start_twins}
use Rattle.run_drawing.proofs.TwinTakers.{taker_rank, taker_twins}

-- 1. what the two drawings are made from

abbrev basis_by : ℕ → List Event → List ℕ → (ℕ → ℕ → Bool) → Basis
basis_by n events depths before = record { ranks = n; events = events; depths = depths; before = before }

-- the sides, and the tests of what is before what
record AreTwinBases (next : Next) (n : ℕ) (one other : List Event) (depths depths' : List ℕ) (before before' : ℕ → ℕ → Bool) : Type 0 where
  sides : AreTwinSides next n one other depths depths'
  tells : TellsBefore before n one
  tells_too : TellsBefore before' n other

-- all that both are made from
record Pair : Type 0 where
  next : Next
  n : ℕ
  one : List Event
  other : List Event
  depths : List ℕ
  depths' : List ℕ
  before : ℕ → ℕ → Bool
  before' : ℕ → ℕ → Bool
  are : AreTwinBases next n one other depths depths' before before'

abbrev left : Pair → Basis
left pair = basis_by pair.n pair.one pair.depths pair.before

abbrev right : Pair → Basis
right pair = basis_by pair.n pair.other pair.depths' pair.before'

abbrev Twin : Pair → ℕ → ℕ → Type 0
Twin pair p q = IsTwin pair.one pair.other p q

abbrev TwinLink : Pair → CompletedStart → CompletedStart → Type 0
TwinLink pair l l' = IsTwinLink pair.one pair.other l l'

both_said : (pair : Pair) (p q : ℕ) → Twin pair p q → AreSaid pair.one pair.other p q
both_said pair p q twin = said pair.one pair.other p q (whole_agree pair.one pair.other pair.are.sides.runs.views) twin

-- 2. what is before what

same_tests : (a b : Bool) (P Q : Type 0) → (a ≡ true) ↔ P → (b ≡ true) ↔ Q → (P → Q) → (Q → P) → a ≡ b
same_tests a b P Q first second on back = elim (test_cases a) [
  | inl t ↦ (let u : b ≡ true = second.1 (on (first.0 t)) in t ∙ sym u)
  | inr t ↦ (
      let u : b ≡ false = false_from_ne_true b (λ is. (
      let yes_is : a ≡ true = first.1 (back (second.0 is)) in
      let no : true ≡ false = sym yes_is ∙ t in
      cc)) in
      t ∙ sym u)
]

before_same : (pair : Pair) (t s p q : ℕ) → Twin pair t s → Twin pair p q → pair.before t p ≡ pair.before' s q
before_same pair t s p q twin twin' =
    let runs = pair.are.sides.runs in
    same_tests (pair.before t p) (pair.before' s q) (IsBefore pair.n pair.one t p) (IsBefore pair.n pair.other s q) (pair.are.tells t p) (pair.are.tells_too s q)
    (before_over pair.next pair.n pair.one pair.other t s p q runs twin twin')
    (before_over pair.next pair.n pair.other pair.one s t q p (turned_runs pair.next pair.n pair.one pair.other runs) (turned pair.one pair.other t s twin) (turned pair.one pair.other p q twin'))

-- 3. columns

-- the column behind the first events is 0, or that behind one of them
data IsBehind (events : List Event) (depths : List ℕ) (k : ℕ) : Type 0 where
  nothing : behind_first events depths k ≡ 0 → IsBehind events depths k
  one_of : (p : ℕ) (event : Event) → slice_get events p ≡ Some event → stops event.reply ≡ false → behind_first events depths k ≡ suc (get_or depths p 0) → IsBehind events depths k

max_cases : (a b : ℕ) → (max a b ≡ a) ⊎ (max a b ≡ b)
max_cases a b = elim (cases_lt a b) [ inl l ↦ inr (omega (arith, l)) | inr l ↦ inl (omega (arith, l)) ]

last_behind : (events : List Event) (depths : List ℕ) (k d c : ℕ) (o : Option Event) → slice_get events k ≡ o → d ≡ get_or depths k 0 → c ≡ column_behind o d → behind_first events depths (suc k) ≡ c → IsBehind events depths (suc k)
last_behind events depths k d c None there depth is last = nothing (last ∙ is)
last_behind events depths k d c (Some event) there depth is last = elim (test_cases (stops event.reply)) [
  | inl t ↦ (let none : c ≡ 0 = is ∙ rw t refl in nothing (last ∙ none))
  | inr t ↦ (let some : c ≡ suc d = is ∙ rw t refl in one_of k event there t (last ∙ (some ∙ ap suc depth)))
]

is_behind : (events : List Event) (depths : List ℕ) (k : ℕ) → IsBehind events depths k
is_behind events depths zero = nothing refl
is_behind events depths (suc k) = elim (max_cases (behind_first events depths k) (column_behind (slice_get events k) (get_or depths k 0))) [
  | inl e ↦ elim (is_behind events depths k) [
    | nothing none ↦ nothing (e ∙ none)
    | one_of p event there goes_on is ↦ one_of p event there goes_on (e ∙ is)
  ]
  | inr e ↦ last_behind events depths k (get_or depths k 0) (column_behind (slice_get events k) (get_or depths k 0)) (slice_get events k) refl refl refl e
]

behind_low : (next : Next) (n : ℕ) (one other : List Event) (depths depths' : List ℕ) → AreTwinSides next n one other depths depths' → behind_all one depths ≤ behind_all other depths'
behind_low next n one other depths depths' sides = elim (is_behind one depths (length one)) [
  | nothing none ↦ omega (arith, none)
  | one_of p event there goes_on is ↦ (
      let found = twin_there one other p event (sides.runs.views event.rank) there in
      let both = said one other p found.0 (whole_agree one other sides.runs.views) found.1 in
      let events : Some both.event ≡ Some event = sym both.there ∙ there in
      let same : both.event ≡ event = cc in
      let goes_too : stops both.twin.reply ≡ false = ap stops (both.reply_is ∙ ap (λ (e : Event). e.reply) same) ∙ goes_on in
      let low = slice_get-below other found.0 both.twin both.twin_there in
      let far = going_behind other depths' found.0 (length other) both.twin both.twin_there goes_too low in
      let deep = (as_deep next n one other depths depths' p found.0 sides found.1).2 in
      omega (arith, is, far, deep))
]

behind_same : (pair : Pair) → behind_all pair.one pair.depths ≡ behind_all pair.other pair.depths'
behind_same pair =
    let sides = pair.are.sides in
    let low = behind_low pair.next pair.n pair.one pair.other pair.depths pair.depths' sides in
    let high = behind_low pair.next pair.n pair.other pair.one pair.depths' pair.depths (turned_sides pair.next pair.n pair.one pair.other pair.depths pair.depths' sides) in
    omega (arith, low, high)

column_same : (pair : Pair) (p q : ℕ) → Twin pair p q → column (left pair) p ≡ column (right pair) q
column_same pair p q twin =
    let both = both_said pair p q twin in
    let deep = (as_deep pair.next pair.n pair.one pair.other pair.depths pair.depths' p q pair.are.sides twin).2 in
    let B : ℕ = behind_all pair.one pair.depths in
    let C : ℕ = behind_all pair.other pair.depths' in
    let stop : ℕ → ℕ → Bool → ℕ = λ b d s. if s then b else d in
    ap (column_by B (get_or pair.depths p 0)) both.there
    ∙ (ap (stop B (get_or pair.depths p 0)) (ap stops (sym both.reply_is))
    ∙ (ap (λ b. stop b (get_or pair.depths p 0) (stops both.twin.reply)) (behind_same pair)
    ∙ (ap (λ d. stop C d (stops both.twin.reply)) deep
    ∙ ap (column_by C (get_or pair.depths' q 0)) (sym both.twin_there))))

rank_same : (pair : Pair) (p q : ℕ) → Twin pair p q → rank_of_event (slice_get pair.one p) ≡ rank_of_event (slice_get pair.other q)
rank_same pair p q twin =
    let both = both_said pair p q twin in
    ap rank_of_event both.there ∙ (sym both.rank_is ∙ ap rank_of_event (sym both.twin_there))

point_same : (pair : Pair) (p q : ℕ) → Twin pair p q → point (left pair) p ≡ point (right pair) q
point_same pair p q twin =
    let at : ℕ → ℕ → Point = λ r c. record { rank = r; column = c } in
    ap (λ r. at r (column (left pair) p)) (rank_same pair p q twin) ∙ ap (at (rank_of_event (slice_get pair.other q))) (column_same pair p q twin)

-- the number of columns
any_found : {A : Type 0} (test : A → Bool) (xs : List A) → list_any test xs ≡ true → (k : ℕ) × (x : A) × (slice_get xs k ≡ Some x) × (test x ≡ true)
any_found test [] h = absurd (cc)
any_found test (x ∷ xs) h = elim (test_cases (test x)) [
  | inl t ↦ (0, x, refl, t)
  | inr t ↦ (let rest = any_found test xs (rw t at h) in (suc rest.0, rest.1, rest.2, rest.3))
]

any_there : {A : Type 0} (test : A → Bool) (xs : List A) (k : ℕ) (x : A) → slice_get xs k ≡ Some x → test x ≡ true → list_any test xs ≡ true
any_there test [] k x h passes = absurd (cc)
any_there test (y ∷ xs) zero x h passes = (let same : y ≡ x = cc in let t : test y ≡ true = ap test same ∙ passes in rw t refl)
any_there test (y ∷ xs) (suc k) x h passes = (let rest = any_there test xs k x h passes in elim (test_cases (test y)) [ inl t ↦ rw t refl | inr t ↦ rw t rest ])

stops_over : (next : Next) (n : ℕ) (one other : List Event) (depths depths' : List ℕ) → AreTwinSides next n one other depths depths'
    → list_any (λ (event : Event). stops event.reply) one ≡ true → list_any (λ (event : Event). stops event.reply) other ≡ true
stops_over next n one other depths depths' sides h =
    let found = any_found (λ (event : Event). stops event.reply) one h in
    let twin = twin_there one other found.0 found.1 (sides.runs.views found.1.rank) found.2 in
    let both = said one other found.0 twin.0 (whole_agree one other sides.runs.views) twin.1 in
    let events : Some both.event ≡ Some found.1 = sym both.there ∙ found.2 in
    let same : both.event ≡ found.1 = cc in
    any_there (λ (event : Event). stops event.reply) other twin.0 both.twin both.twin_there (ap stops (both.reply_is ∙ ap (λ (e : Event). e.reply) same) ∙ found.3)

same_by_both : (a b : Bool) → (a ≡ true → b ≡ true) → (b ≡ true → a ≡ true) → a ≡ b
same_by_both a b on back = elim (test_cases a) [
  | inl t ↦ t ∙ sym (on t)
  | inr t ↦ t ∙ sym (false_from_ne_true b (λ u. (let no : true ≡ false = sym (back u) ∙ t in cc)))
]

columns_same : (pair : Pair) → columns_of pair.one pair.depths ≡ columns_of pair.other pair.depths'
columns_same pair =
    let sides = pair.are.sides in
    let stopped : List Event → Bool = λ l. list_any (λ (event : Event). stops event.reply) l in
    let sum : ℕ → Bool → ℕ = λ b s. b + (if s then 1 else 0) in
    let tests : stopped pair.one ≡ stopped pair.other = same_by_both (stopped pair.one) (stopped pair.other)
    (stops_over pair.next pair.n pair.one pair.other pair.depths pair.depths' sides)
    (stops_over pair.next pair.n pair.other pair.one pair.depths' pair.depths (turned_sides pair.next pair.n pair.one pair.other pair.depths pair.depths' sides)) in
    ap (λ b. sum b (stopped pair.one)) (behind_same pair) ∙ ap (sum (behind_all pair.other pair.depths')) tests

-- 4. marks

wildcard_same : (pair : Pair) (o o' : Option ℕ) → IsAlike (Twin pair) o o' → is_wildcard_at pair.one o ≡ is_wildcard_at pair.other o'
wildcard_same pair None None is = refl
wildcard_same pair None (Some q) is = absurd is
wildcard_same pair (Some p) None is = absurd is
wildcard_same pair (Some p) (Some q) is =
    let both = both_said pair p q is in
    ap is_wildcard_in both.there ∙ (ap is_wildcard (sym both.call_is) ∙ ap is_wildcard_in (sym both.twin_there))

any_same : {A : Type 0} (f g : A → Bool) (xs : List A) → ((x : A) → f x ≡ g x) → list_any f xs ≡ list_any g xs
any_same f g [] same = refl
any_same f g (x ∷ xs) same =
    let rest = any_same f g xs same in
    elim (test_cases (f x)) [
      | inl t ↦ (let u : g x ≡ true = sym (same x) ∙ t in rw (t, u) refl)
      | inr t ↦ (let u : g x ≡ false = sym (same x) ∙ t in rw (t, u) rest)
    ]

takes_same : (pair : Pair) (rank : ℕ) (call : Call) (reply : Reply) → takes_wildcard pair.one rank call reply ≡ takes_wildcard pair.other rank call reply
takes_same pair rank call (Took items) =
    any_same (λ (item : Item). is_wildcard_at pair.one (start_position pair.one rank (slice_index (listed_by call) item.index)))
    (λ (item : Item). is_wildcard_at pair.other (start_position pair.other rank (slice_index (listed_by call) item.index))) items
    (λ item. wildcard_same pair (start_position pair.one rank (slice_index (listed_by call) item.index)) (start_position pair.other rank (slice_index (listed_by call) item.index))
    (start_twins pair.one pair.other rank (slice_index (listed_by call) item.index) (pair.are.sides.runs.views rank)))
takes_same pair rank call Done = refl
takes_same pair rank call NotYet = refl
takes_same pair rank call (Peeked source start tag count) = refl
takes_same pair rank call (Stopped halt) = refl

takes_same_in : (pair : Pair) (p q : ℕ) → Twin pair p q → takes_wildcard_in pair.one (slice_get pair.one p) ≡ takes_wildcard_in pair.other (slice_get pair.other q)
takes_same_in pair p q twin =
    let both = both_said pair p q twin in
    let e : Event = both.event in
    let t : Event = both.twin in
    ap (takes_wildcard_in pair.one) both.there
    ∙ (takes_same pair e.rank e.call e.reply
    ∙ (ap (λ r. takes_wildcard pair.other r e.call e.reply) (sym both.rank_is)
    ∙ (ap (λ c. takes_wildcard pair.other t.rank c e.reply) (sym both.call_is)
    ∙ (ap (takes_wildcard pair.other t.rank t.call) (sym both.reply_is)
    ∙ ap (takes_wildcard_in pair.other) (sym both.twin_there)))))

mark_same : (pair : Pair) (rank number p q : ℕ) → Twin pair p q → mark_at (left pair) rank number p ≡ mark_at (right pair) rank number q
mark_same pair rank number p q twin =
    let at : ℕ → Bool → DrawnMark = λ c w. record { rank = rank; number = number; column = c; is_wild = w } in
    ap (λ c. at c (takes_wildcard_in pair.one (slice_get pair.one p))) (column_same pair p q twin) ∙ ap (at (column (right pair) q)) (takes_same_in pair p q twin)

marks_same : (pair : Pair) (rank number : ℕ) (places places' : List ℕ) → AreAlike (Twin pair) places places' → marks_from (left pair) rank number places ≡ marks_from (right pair) rank number places'
marks_same pair rank number [] [] are = refl
marks_same pair rank number [] (q ∷ places') are = absurd are
marks_same pair rank number (p ∷ places) [] are = absurd are
marks_same pair rank number (p ∷ places) (q ∷ places') are =
    ap (λ m. m ∷ marks_from (left pair) rank (number + 1) places) (mark_same pair rank number p q are.0)
    ∙ ap (λ l. mark_at (right pair) rank number q ∷ l) (marks_same pair rank (number + 1) places places' are.1)

-- 5. choices

twin_rank : (one other : List Event) (p q : ℕ) (event : Event) (twin : IsTwin one other p q) → slice_get one p ≡ Some event → twin.rank ≡ event.rank
twin_rank one other p q event twin there =
    let place = place_of one twin.rank twin.number p twin.first in
    let events : Some place.event ≡ Some event = sym place.there ∙ there in
    let same : place.event ≡ event = cc in
    sym place.own ∙ ap (λ (e : Event). e.rank) same

done_same : (pair : Pair) (p q s s' : ℕ) (rank : ℕ) (send : Event) (comm dest tag : ℕ) (ints : List ℤ) (sync : Bool) (o o' : Option CompletedStart) (twin : Twin pair p q) → twin.rank ≡ rank
    → slice_get pair.one s ≡ Some send → send.call ≡ Send comm dest tag ints sync → dest ≡ rank
    → taker_in (links_of pair.n pair.one pair.depths) s ≡ o → IsAlike (TwinLink pair) o o' → is_done_before p o ≡ is_done_before q o'
done_same pair p q s s' rank send comm dest tag ints sync None None twin own there called to is alike = refl
done_same pair p q s s' rank send comm dest tag ints sync None (Some l) twin own there called to is alike = absurd alike
done_same pair p q s s' rank send comm dest tag ints sync (Some l) None twin own there called to is alike = absurd alike
done_same pair p q s s' rank send comm dest tag ints sync (Some l) (Some l') twin own there called to is alike =
    let found = find_found _ (links_of pair.n pair.one pair.depths) l is in
    let at = taker_rank pair.next pair.n pair.one pair.depths l s send comm dest tag ints sync pair.are.sides.runs.first pair.are.sides.first there called found.0 found.1 in
    let ranks : alike.at.rank ≡ twin.rank = twin_rank pair.one pair.other l.at l'.at at.0 alike.at at.1 ∙ (at.2 ∙ (to ∙ sym own)) in
    same_less pair.one pair.other l.at l'.at p q alike.at twin ranks

-- the Sends of a way are those of a rank
goes_test : (way : Way) → IsTestOf (goes_way way) (λ (seen : Call × Reply). is_start seen && accepts way.receiver way.comm Any (named_tag way.tag) way.sender seen.0) way.sender
goes_test way event = elim (test_cases (event.rank == way.sender)) [
  | inl t ↦ (
      let same : event.rank ≡ way.sender = eqb-true event.rank way.sender t in
      let A : ℕ → Bool = λ r. accepts way.receiver way.comm Any (named_tag way.tag) r event.call in
      let moved : A event.rank ≡ A way.sender = ap A same in
      by_parts (is_start (event.call, event.reply)) (event.rank == way.sender) (A event.rank) (A way.sender) t moved)
  | inr t ↦ no_parts (is_start (event.call, event.reply)) (event.rank == way.sender) (accepts way.receiver way.comm Any (named_tag way.tag) event.rank event.call)
      (accepts way.receiver way.comm Any (named_tag way.tag) way.sender event.call) t
]
  where
    by_parts : (s r a b : Bool) → r ≡ true → a ≡ b → (s && (r && a)) ≡ ((s && b) && r)
    by_parts true true a b t e = e ∙ sym (and_true b)
      where
        and_true : (x : Bool) → (x && true) ≡ x
        and_true true = refl
        and_true false = refl
    by_parts true false a b t e = absurd (cc)
    by_parts false r a b t e = refl

    no_parts : (s r a b : Bool) → r ≡ false → (s && (r && a)) ≡ ((s && b) && r)
    no_parts true true a b t = absurd (cc)
    no_parts true false a true t = refl
    no_parts true false a false t = refl
    no_parts false r a b t = refl

-- a Send that goes to a rank
record IsSentTo (events : List Event) (s rank : ℕ) : Type 0 where
  send : Event
  comm : ℕ
  dest : ℕ
  tag : ℕ
  ints : List ℤ
  sync : Bool
  there : slice_get events s ≡ Some send
  called : send.call ≡ Send comm dest tag ints sync
  receiver : dest ≡ rank

sent_to : (events : List Event) (way : Way) (s : ℕ) → IsIn s (positions (goes_way way) 0 events) → IsSentTo events s way.receiver
sent_to events way s among =
    let placed = placed-in (goes_way way) events s among in
    let e : Event = placed.event in
    let parts = and_parts (is_start (e.call, e.reply)) ((e.rank == way.sender) && accepts way.receiver way.comm Any (named_tag way.tag) e.rank e.call) placed.passes in
    let accepted = (and_parts (e.rank == way.sender) (accepts way.receiver way.comm Any (named_tag way.tag) e.rank e.call) parts.1).1 in
    let is = accepted_send way.receiver way.comm Any (named_tag way.tag) e.rank e.call accepted in
    let A : Call → Type 0 = λ c. accepts way.receiver way.comm Any (named_tag way.tag) e.rank c ≡ true in
    let by_parts = and_parts (is.comm == way.comm) ((is.dest == way.receiver) && _) (subst A is.is accepted) in
    record {
      send = e;
      comm = is.comm;
      dest = is.dest;
      tag = is.tag;
      ints = is.ints;
      sync = is.sync;
      there = placed.there;
      called = is.is;
      receiver = eqb-true is.dest way.receiver (and_parts (is.dest == way.receiver) _ by_parts.1).0;
    }

open_same : (pair : Pair) (p q rank s s' : ℕ) (twin : Twin pair p q) → twin.rank ≡ rank → IsSentTo pair.one s rank → Twin pair s s' → is_untaken (left pair) p s ≡ is_untaken (right pair) q s'
open_same pair p q rank s s' twin own sent its =
    let sides = pair.are.sides in
    let takers = taker_twins pair.next pair.n pair.one pair.other pair.depths pair.depths' s s' sent.send sent.comm sent.dest sent.tag sent.ints sent.sync sides its sent.there sent.called in
    ap not (done_same pair p q s s' rank sent.send sent.comm sent.dest sent.tag sent.ints sent.sync (taker_in (links_of pair.n pair.one pair.depths) s) (taker_in (links_of pair.n pair.other pair.depths') s')
    twin own sent.there sent.called sent.receiver refl takers)

late_same : (pair : Pair) (at at' : ℕ) (o o' : Option ℕ) → Twin pair at at' → IsAlike (Twin pair) o o'
    → map (point (left pair)) (unless_late (pair.before at) o) ≡ map (point (right pair)) (unless_late (pair.before' at') o')
late_same pair at at' None None twin alike = refl
late_same pair at at' None (Some q) twin alike = absurd alike
late_same pair at at' (Some p) None twin alike = absurd alike
late_same pair at at' (Some p) (Some q) twin alike =
    let tests = before_same pair at at' p q twin alike in
    elim (test_cases (pair.before at p)) [
      | inl t ↦ (let u : pair.before' at' q ≡ true = sym tests ∙ t in rw (t, u) refl)
      | inr t ↦ (let u : pair.before' at' q ≡ false = sym tests ∙ t in rw (t, u) (ap (λ x. x ∷ []) (point_same pair p q alike)))
    ]

beside_same : (pair : Pair) (rank comm : ℕ) (tag : Tag) (p q at at' took sender : ℕ) (twin : Twin pair p q) → twin.rank ≡ rank → Twin pair at at'
    → choice_beside (left pair) (posted_at p rank comm Any tag) at took sender ≡ choice_beside (right pair) (posted_at q rank comm Any tag) at' took sender
beside_same pair rank comm tag p q at at' took sender twin own its =
    let way : Way = message_way rank comm tag sender in
    let passes : Call × Reply → Bool = λ (seen : Call × Reply). is_start seen && accepts way.receiver way.comm Any (named_tag way.tag) way.sender seen.0 in
    let sends = all_passing (goes_way way) passes sender pair.one pair.other (goes_test way) (pair.are.sides.runs.views sender) in
    let open_ones = alike_find (Twin pair) (is_untaken (left pair) p) (is_untaken (right pair) q) (positions (goes_way way) 0 pair.one) (positions (goes_way way) 0 pair.other)
    (λ s s' among twins. open_same pair p q rank s s' twin own (sent_to pair.one way s among) twins) sends in
    let same = late_same pair at at' (first_untaken (left pair) p (positions (goes_way way) 0 pair.one)) (first_untaken (right pair) q (positions (goes_way way) 0 pair.other)) its open_ones in
    elim (test_cases (sender == took)) [
      | inl t ↦ rw t refl
      | inr t ↦ rw t same
    ]

choices_same : (pair : Pair) (rank comm : ℕ) (source : Source) (tag : Tag) (p q at at' took : ℕ) (twin : Twin pair p q) → twin.rank ≡ rank → Twin pair at at'
    → wildcard_choices (left pair) (posted_at p rank comm source tag) at took ≡ wildcard_choices (right pair) (posted_at q rank comm source tag) at' took
choices_same pair rank comm Any tag p q at at' took twin own its =
    same_joined (choice_beside (left pair) (posted_at p rank comm Any tag) at took) (choice_beside (right pair) (posted_at q rank comm Any tag) at' took) pair.n (λ sender. beside_same pair rank comm tag p q at at' took sender twin own its)
choices_same pair rank comm (From from) tag p q at at' took twin own its = refl
choices_same pair rank comm Null tag p q at at' took twin own its = refl

-- 6. receives

message_same : (pair : Pair) (rank comm : ℕ) (source : Source) (tag : Tag) (p q at at' : ℕ) (o o' : Option ℕ) (twin : Twin pair p q) → twin.rank ≡ rank → Twin pair at at' → IsAlike (Twin pair) o o'
    → drawn_message (left pair) (posted_at p rank comm source tag) at o ≡ drawn_message (right pair) (posted_at q rank comm source tag) at' o'
message_same pair rank comm source tag p q at at' None None twin own its alike = refl
message_same pair rank comm source tag p q at at' None (Some s') twin own its alike = absurd alike
message_same pair rank comm source tag p q at at' (Some s) None twin own its alike = absurd alike
message_same pair rank comm source tag p q at at' (Some s) (Some s') twin own its alike =
    let by : Point → List Point → Option DrawnMessage = λ x l. Some (record { sender = x; choices = l }) in
    let took : ℕ = rank_of_event (slice_get pair.one s) in
    ap (λ x. by x (wildcard_choices (left pair) (posted_at p rank comm source tag) at took)) (point_same pair s s' alike)
    ∙ (ap (by (point (right pair) s')) (choices_same pair rank comm source tag p q at at' took twin own its)
    ∙ ap (λ t. by (point (right pair) s') (wildcard_choices (right pair) (posted_at q rank comm source tag) at' t)) (rank_same pair s s' alike))

received_same : (pair : Pair) (rank comm : ℕ) (source : Source) (tag : Tag) (p q : ℕ) (o o' : Option CompletedStart) (twin : Twin pair p q) → twin.rank ≡ rank → IsAlike (TwinLink pair) o o'
    → completed_message (left pair) (posted_at p rank comm source tag) o ≡ completed_message (right pair) (posted_at q rank comm source tag) o'
received_same pair rank comm source tag p q None None twin own alike = refl
received_same pair rank comm source tag p q None (Some l') twin own alike = absurd alike
received_same pair rank comm source tag p q (Some l) None twin own alike = absurd alike
received_same pair rank comm source tag p q (Some l) (Some l') twin own alike =
    message_same pair rank comm source tag p q l.at l'.at l.cause l'.cause twin own alike.at alike.cause

column_in_same : (pair : Pair) (o o' : Option ℕ) → IsAlike (Twin pair) o o' → column_in (left pair) o ≡ column_in (right pair) o'
column_in_same pair None None alike = refl
column_in_same pair None (Some q) alike = absurd alike
column_in_same pair (Some p) None alike = absurd alike
column_in_same pair (Some p) (Some q) alike = column_same pair p q alike

last_twins : (pair : Pair) (rank : ℕ) → IsAlike (Twin pair) (last_position pair.one rank) (last_position pair.other rank)
last_twins pair rank =
    let places : List ℕ = positions (is_event_of rank) 0 pair.one in
    let places' : List ℕ = positions (is_event_of rank) 0 pair.other in
    let long : length places ≡ length places' = as_many_seen rank 0 pair.one ∙ (ap (λ (v : View). length v) (pair.are.sides.runs.views rank) ∙ sym (as_many_seen rank 0 pair.other)) in
    let same = both_or_none places places' (length places - 1) (Twin pair) long (λ p q h h'. record { rank = rank; number = length places - 1; first = h; second = h' }) in
    let P : ℕ → Type 0 = λ k. IsAlike (Twin pair) (last_position pair.one rank) (slice_get places' (k - 1)) in
    subst P long same

end_same : (pair : Pair) (rank : ℕ) (o o' : Option CompletedStart) → IsAlike (TwinLink pair) o o' → bar_end (left pair) rank o ≡ bar_end (right pair) rank o'
end_same pair rank None None alike = column_in_same pair (last_position pair.one rank) (last_position pair.other rank) (last_twins pair rank)
end_same pair rank None (Some l') alike = absurd alike
end_same pair rank (Some l) None alike = absurd alike
end_same pair rank (Some l) (Some l') alike = column_same pair l.at l'.at alike.at

completions : (pair : Pair) (p q : ℕ) → Twin pair p q → IsAlike (TwinLink pair) (completion_in (links_of pair.n pair.one pair.depths) p) (completion_in (links_of pair.n pair.other pair.depths') q)
completions pair p q twin = completion_twins pair.next pair.n pair.one pair.other pair.depths pair.depths' p q pair.are.sides twin

receive_same : (pair : Pair) (rank comm : ℕ) (source : Source) (tag : Tag) (p q : ℕ) (twin : Twin pair p q) → twin.rank ≡ rank
    → drawn_receive (left pair) (posted_at p rank comm source tag) (completion_in (links_of pair.n pair.one pair.depths) p) ≡ drawn_receive (right pair) (posted_at q rank comm source tag) (completion_in (links_of pair.n pair.other pair.depths') q)
receive_same pair rank comm source tag p q twin own =
    let o : Option CompletedStart = completion_in (links_of pair.n pair.one pair.depths) p in
    let o' : Option CompletedStart = completion_in (links_of pair.n pair.other pair.depths') q in
    let alike = completions pair p q twin in
    let by : ℕ → ℕ → Option DrawnMessage → DrawnReceive = λ f t m. record { rank = rank; from = f; to = t; is_wild = is_any source; message = m } in
    ap (λ f. by f (bar_end (left pair) rank o) (completed_message (left pair) (posted_at p rank comm source tag) o)) (column_same pair p q twin)
    ∙ (ap (λ t. by (column (right pair) q) t (completed_message (left pair) (posted_at p rank comm source tag) o)) (end_same pair rank o o' alike)
    ∙ ap (by (column (right pair) q) (bar_end (right pair) rank o')) (received_same pair rank comm source tag p q o o' twin own alike))

receive_same_by : (pair : Pair) (rank : ℕ) (call : Call) (p q : ℕ) (twin : Twin pair p q) → twin.rank ≡ rank → receive_by (left pair) p rank call ≡ receive_by (right pair) q rank call
receive_same_by pair rank (Post comm Null tag room) p q twin own = refl
receive_same_by pair rank (Post comm Any tag room) p q twin own = ap (λ r. r ∷ []) (receive_same pair rank comm Any tag p q twin own)
receive_same_by pair rank (Post comm (From from) tag room) p q twin own = ap (λ r. r ∷ []) (receive_same pair rank comm (From from) tag p q twin own)
receive_same_by pair rank (Send comm dest tag ints sync) p q twin own = refl
receive_same_by pair rank (Enter comm kind root op count ints) p q twin own = refl
receive_same_by pair rank (Take starts mode) p q twin own = refl
receive_same_by pair rank (Peek comm source tag wait) p q twin own = refl
receive_same_by pair rank (Abort code) p q twin own = refl
receive_same_by pair rank (Trap fault) p q twin own = refl
receive_same_by pair rank End p q twin own = refl

receives_same : (pair : Pair) (p q : ℕ) → Twin pair p q → receive_at (left pair) p ≡ receive_at (right pair) q
receives_same pair p q twin =
    let both = both_said pair p q twin in
    let e : Event = both.event in
    ap (receive_in (left pair) p) both.there
    ∙ (receive_same_by pair e.rank e.call p q twin (twin_rank pair.one pair.other p q e twin both.there)
    ∙ (ap (λ r. receive_by (right pair) q r e.call) (sym both.rank_is)
    ∙ (ap (receive_by (right pair) q both.twin.rank) (sym both.call_is)
    ∙ ap (receive_in (right pair) q) (sym both.twin_there))))

-- 7. collectives

latest_same : (pair : Pair) (p q : ℕ) (o o' : Option ℕ) → Twin pair p q → IsAlike (Twin pair) o o' → latest_of (left pair) p o ≡ latest_of (right pair) q o'
latest_same pair p q None None twin alike = refl
latest_same pair p q None (Some s') twin alike = absurd alike
latest_same pair p q (Some s) None twin alike = absurd alike
latest_same pair p q (Some s) (Some s') twin alike =
    let tests = same_test pair.one pair.other s s' p q alike twin in
    elim (test_cases (s == p)) [
      | inl t ↦ (let u : (s' == q) ≡ true = sym tests ∙ t in rw (t, u) refl)
      | inr t ↦ (let u : (s' == q) ≡ false = sym tests ∙ t in rw (t, u) (ap (λ x. Some x) (point_same pair s s' alike)))
    ]

collective_same : (pair : Pair) (rank p q : ℕ) (o o' : Option CompletedStart) → Twin pair p q → IsAlike (TwinLink pair) o o' → collective_of (left pair) p rank o ≡ collective_of (right pair) q rank o'
collective_same pair rank p q None None twin alike = refl
collective_same pair rank p q None (Some l') twin alike = absurd alike
collective_same pair rank p q (Some l) None twin alike = absurd alike
collective_same pair rank p q (Some l) (Some l') twin alike =
    let by : ℕ → ℕ → Option Point → List DrawnCollective = λ f t x. record { rank = rank; from = f; to = t; latest = x } ∷ [] in
    ap (λ f. by f (column (left pair) l.at) (latest_of (left pair) p l.cause)) (column_same pair p q twin)
    ∙ (ap (λ t. by (column (right pair) q) t (latest_of (left pair) p l.cause)) (column_same pair l.at l'.at alike.at)
    ∙ ap (by (column (right pair) q) (column (right pair) l'.at)) (latest_same pair p q l.cause l'.cause twin alike.cause))

collective_same_by : (pair : Pair) (rank : ℕ) (call : Call) (p q : ℕ) → Twin pair p q → collective_by (left pair) p rank call ≡ collective_by (right pair) q rank call
collective_same_by pair rank (Enter comm kind root op count ints) p q twin =
    collective_same pair rank p q (completion_in (links_of pair.n pair.one pair.depths) p) (completion_in (links_of pair.n pair.other pair.depths') q) twin (completions pair p q twin)
collective_same_by pair rank (Send comm dest tag ints sync) p q twin = refl
collective_same_by pair rank (Post comm source tag room) p q twin = refl
collective_same_by pair rank (Take starts mode) p q twin = refl
collective_same_by pair rank (Peek comm source tag wait) p q twin = refl
collective_same_by pair rank (Abort code) p q twin = refl
collective_same_by pair rank (Trap fault) p q twin = refl
collective_same_by pair rank End p q twin = refl

collectives_same : (pair : Pair) (p q : ℕ) → Twin pair p q → collective_at (left pair) p ≡ collective_at (right pair) q
collectives_same pair p q twin =
    let both = both_said pair p q twin in
    let e : Event = both.event in
    ap (collective_in (left pair) p) both.there
    ∙ (collective_same_by pair e.rank e.call p q twin
    ∙ (ap (λ r. collective_by (right pair) q r e.call) (sym both.rank_is)
    ∙ (ap (collective_by (right pair) q both.twin.rank) (sym both.call_is)
    ∙ ap (collective_in (right pair) q) (sym both.twin_there))))

-- 8. Sends that nobody took

unreceived_same : (pair : Pair) (rank dest p q : ℕ) (o o' : Option CompletedStart) → Twin pair p q → IsAlike (TwinLink pair) o o' → unreceived_of (left pair) p rank dest o ≡ unreceived_of (right pair) q rank dest o'
unreceived_same pair rank dest p q None None twin alike =
    let by : ℕ → List Unreceived = λ c. record { rank = rank; column = c; receiver = dest } ∷ [] in
    ap by (column_same pair p q twin)
unreceived_same pair rank dest p q None (Some l') twin alike = absurd alike
unreceived_same pair rank dest p q (Some l) None twin alike = absurd alike
unreceived_same pair rank dest p q (Some l) (Some l') twin alike = refl

unreceived_same_by : (pair : Pair) (rank : ℕ) (event : Event) (call : Call) (p q : ℕ) → Twin pair p q → slice_get pair.one p ≡ Some event → event.call ≡ call
    → unreceived_by (left pair) p rank call ≡ unreceived_by (right pair) q rank call
unreceived_same_by pair rank event (Send comm dest tag ints sync) p q twin there called =
    unreceived_same pair rank dest p q (taker_in (links_of pair.n pair.one pair.depths) p) (taker_in (links_of pair.n pair.other pair.depths') q) twin
    (taker_twins pair.next pair.n pair.one pair.other pair.depths pair.depths' p q event comm dest tag ints sync pair.are.sides twin there called)
unreceived_same_by pair rank event (Post comm source tag room) p q twin there called = refl
unreceived_same_by pair rank event (Enter comm kind root op count ints) p q twin there called = refl
unreceived_same_by pair rank event (Take starts mode) p q twin there called = refl
unreceived_same_by pair rank event (Peek comm source tag wait) p q twin there called = refl
unreceived_same_by pair rank event (Abort code) p q twin there called = refl
unreceived_same_by pair rank event (Trap fault) p q twin there called = refl
unreceived_same_by pair rank event End p q twin there called = refl

all_unreceived_same : (pair : Pair) (p q : ℕ) → Twin pair p q → unreceived_at (left pair) p ≡ unreceived_at (right pair) q
all_unreceived_same pair p q twin =
    let both = both_said pair p q twin in
    let e : Event = both.event in
    ap (unreceived_in (left pair) p) both.there
    ∙ (unreceived_same_by pair e.rank e e.call p q twin both.there refl
    ∙ (ap (λ r. unreceived_by (right pair) q r e.call) (sym both.rank_is)
    ∙ (ap (unreceived_by (right pair) q both.twin.rank) (sym both.call_is)
    ∙ ap (unreceived_in (right pair) q) (sym both.twin_there))))

-- 9. probes

arrow_same : (pair : Pair) (p q : ℕ) (o o' : Option ℕ) → Twin pair p q → IsAlike (Twin pair) o o' → arrow_from (left pair) o p ≡ arrow_from (right pair) o' q
arrow_same pair p q None None twin alike = refl
arrow_same pair p q None (Some s') twin alike = absurd alike
arrow_same pair p q (Some s) None twin alike = absurd alike
arrow_same pair p q (Some s) (Some s') twin alike =
    let by : Point → Point → List Arrow = λ f t. record { from = f; to = t } ∷ [] in
    ap (λ f. by f (point (left pair) p)) (point_same pair s s' alike) ∙ ap (by (point (right pair) s')) (point_same pair p q twin)

probe_same_by : (pair : Pair) (reply : Reply) (p q : ℕ) → Twin pair p q → IsAlike (Twin pair) (cause_at pair.n pair.one pair.depths p) (cause_at pair.n pair.other pair.depths' q)
    → probe_by (left pair) p reply ≡ probe_by (right pair) q reply
probe_same_by pair (Peeked source start tag count) p q twin causes = arrow_same pair p q (cause_at pair.n pair.one pair.depths p) (cause_at pair.n pair.other pair.depths' q) twin causes
probe_same_by pair Done p q twin causes = refl
probe_same_by pair NotYet p q twin causes = refl
probe_same_by pair (Took items) p q twin causes = refl
probe_same_by pair (Stopped halt) p q twin causes = refl

causes_same : (pair : Pair) (p q : ℕ) → Twin pair p q → IsAlike (Twin pair) (cause_at pair.n pair.one pair.depths p) (cause_at pair.n pair.other pair.depths' q)
causes_same pair p q twin =
    let is = moment pair.next pair.n pair.one pair.other p q pair.are.sides.runs twin in
    let a : List Event = take p pair.one in
    let b : List Event = take q pair.other in
    let e : Event = is.said.event in
    let t : Event = is.said.twin in
    let rests = rests_on pair.n a e.rank e.call e.reply in
    let rests' = rests_on pair.n b t.rank t.call t.reply in
    let deep = deepest_twins (IsTwin a b) (take p pair.depths) (take q pair.depths') rests rests'
    (fronts_deep pair.next pair.n pair.one pair.other pair.depths pair.depths' p q pair.are.sides twin) (rests_twins pair.next pair.n pair.one pair.other p q pair.are.sides.runs is) in
    let alike = longer_alike pair.one pair.other p q (deepest (take p pair.depths) rests) (deepest (take q pair.depths') rests') deep in
    let A : Option Event → Type 0 = λ o. IsAlike (Twin pair) (cause_in pair.n (take p pair.depths) a o) (deepest (take q pair.depths') rests') in
    let B : Option Event → Type 0 = λ o. IsAlike (Twin pair) (cause_at pair.n pair.one pair.depths p) (cause_in pair.n (take q pair.depths') b o) in
    subst B (sym is.said.twin_there) (subst A (sym is.said.there) alike)

probes_same : (pair : Pair) (p q : ℕ) → Twin pair p q → probe_at (left pair) p ≡ probe_at (right pair) q
probes_same pair p q twin =
    let both = both_said pair p q twin in
    ap (probe_in (left pair) p) both.there
    ∙ (probe_same_by pair both.event.reply p q twin (causes_same pair p q twin)
    ∙ (ap (probe_by (right pair) q) (sym both.reply_is)
    ∙ ap (probe_in (right pair) q) (sym both.twin_there)))

-- 10. the drawing

starts_same : {A : Type 0} (pair : Pair) (f g : ℕ → List A) → ((p q : ℕ) → Twin pair p q → f p ≡ g q) → lists_below (of_starts f pair.one) pair.n ≡ lists_below (of_starts g pair.other) pair.n
starts_same pair f g same =
    same_joined (of_starts f pair.one) (of_starts g pair.other) pair.n (λ rank.
    same_flat (Twin pair) f g same (positions (is_start_of rank) 0 pair.one) (positions (is_start_of rank) 0 pair.other)
    (all_passing (is_start_of rank) is_start rank pair.one pair.other (start_test rank) (pair.are.sides.runs.views rank)))

events_same : {A : Type 0} (pair : Pair) (f g : ℕ → List A) → ((p q : ℕ) → Twin pair p q → f p ≡ g q) → lists_below (of_events f pair.one) pair.n ≡ lists_below (of_events g pair.other) pair.n
events_same pair f g same =
    same_joined (of_events f pair.one) (of_events g pair.other) pair.n (λ rank.
    same_flat (Twin pair) f g same (positions (is_event_of rank) 0 pair.one) (positions (is_event_of rank) 0 pair.other)
    (own_twins pair.one pair.other rank (pair.are.sides.runs.views rank)))

lanes_same : (pair : Pair) → lists_below (drawn_marks (left pair)) pair.n ≡ lists_below (drawn_marks (right pair)) pair.n
lanes_same pair =
    same_joined (drawn_marks (left pair)) (drawn_marks (right pair)) pair.n (λ rank.
    marks_same pair rank 0 (positions (is_event_of rank) 0 pair.one) (positions (is_event_of rank) 0 pair.other) (own_twins pair.one pair.other rank (pair.are.sides.runs.views rank)))

drawn_same : (plan : List (List ℕ)) (pair : Pair) → drawn plan (left pair) ≡ drawn plan (right pair)
drawn_same plan pair =
    let by : ℕ → List DrawnMark → List DrawnReceive → List DrawnCollective → List Arrow → List Unreceived → Drawn =
    λ c m r k a u. record { groups = rank_groups plan; columns = c; marks = m; receives = r; collectives = k; probes = a; unreceived = u } in
    let x : Drawn = drawn plan (left pair) in
    let y : Drawn = drawn plan (right pair) in
    let columns : x.columns ≡ y.columns = columns_same pair in
    let marks : x.marks ≡ y.marks = lanes_same pair in
    let receives : x.receives ≡ y.receives = starts_same pair (receive_at (left pair)) (receive_at (right pair)) (receives_same pair) in
    let collectives : x.collectives ≡ y.collectives = starts_same pair (collective_at (left pair)) (collective_at (right pair)) (collectives_same pair) in
    let probes : x.probes ≡ y.probes = events_same pair (probe_at (left pair)) (probe_at (right pair)) (probes_same pair) in
    let unreceived : x.unreceived ≡ y.unreceived = starts_same pair (unreceived_at (left pair)) (unreceived_at (right pair)) (all_unreceived_same pair) in
    ap (λ c. by c x.marks x.receives x.collectives x.probes x.unreceived) columns
    ∙ (ap (λ m. by y.columns m x.receives x.collectives x.probes x.unreceived) marks
    ∙ (ap (λ r. by y.columns y.marks r x.collectives x.probes x.unreceived) receives
    ∙ (ap (λ k. by y.columns y.marks y.receives k x.probes x.unreceived) collectives
    ∙ (ap (λ a. by y.columns y.marks y.receives y.collectives a x.unreceived) probes
    ∙ ap (by y.columns y.marks y.receives y.collectives y.probes) unreceived))))

pub same_drawing : (next : Next) → SameDrawing next
same_drawing next plan one other drawing another first second views mates is too =
    let n : ℕ = number_of_ranks plan in
    let pair : Pair = record {
      next = next;
      n = n;
      one = one;
      other = other;
      depths = is.depths;
      depths' = too.depths;
      before = is.before;
      before' = too.before;
      are = record {
        sides = record { runs = record { first = first; second = second; views = views; mates = mates }; first = is.are_depths; second = too.are_depths };
        tells = is.tells;
        tells_too = too.tells;
      };
    } in
    is.is ∙ (drawn_same plan pair ∙ sym too.is)
