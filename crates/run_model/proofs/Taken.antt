-- A reply takes no start twice, none that was taken before, and no more than its call lists. So in a run each start is taken once.
use Rattle.std.proofs.Common.{◌≡◌, ◌≤◌, ◌<◌, ◌+◌, ◌++◌, ◌∷◌, ◌==◌, ◌∙◌, ◌&&◌, Bool, List, None, Option, Some, [], ap, arith, false, if◌then◌else◌, inl, inr, length, map, nat_le, nat_lt, not, refl, slice_get, slice_index, subst, suc, sym, take, true, zero, ℕ}
use Rattle.std.proofs.Math.Seq.{take-length}
use Rattle.std.proofs.lemmas.Bool.{and_parts, cases_order, eq-eqb, eqb-true, false_from_ne_true, leb-true, ltb-true, or_cases, or_from, or_left, or_right}
use Rattle.std.proofs.lemmas.List.{length-map}
use Rattle.std.proofs.lemmas.List.Folds.{list_any-append}
use Rattle.std.specs.Prelude.{is_some}
use Rattle.mpi_call.specs.declared.call.Call.{Call}
use Rattle.mpi_call.specs.declared.call.Call.TheVariants.{Abort, End, Enter, Peek, Post, Send, Take, Trap}
use Rattle.mpi_call.specs.declared.call.Halt.{Halt}
use Rattle.mpi_call.specs.declared.call.Halt.TheVariants.{Limit}
use Rattle.mpi_call.specs.declared.call.Source.{Source}
use Rattle.mpi_call.specs.declared.call.Tag.{Tag}
use Rattle.mpi_call.specs.declared.call.TakeMode.{TakeMode}
use Rattle.mpi_call.specs.declared.reply.Item.{Item}
use Rattle.mpi_call.specs.declared.reply.Reply.{Reply}
use Rattle.mpi_call.specs.declared.reply.Reply.TheVariants.{Done, NotYet, Peeked, Stopped, Took}
use Rattle.mpi_call.specs.Calls.{listed_by}
use Rattle.mpi_call.specs.Members.{is_distinct, is_member}
use Rattle.mpi_call.proofs.MemberLemmas.{is_member_at}
use Rattle.run_model.specs.declared.event.Event.{Event}
use Rattle.run_model.specs.Allowed.{IsAllowed, IsAllowedBy, IsAnswer, IsDeadlock, IsHeld, IsLate, IsPeekAnswer, IsTakeAnswer, first_long, flags_of, has_open, mode_holds, probe_of, taken_reply}
use Rattle.run_model.specs.Due.{bad_halt, bad_request, due, halt_at, halted, is_full, or_else}
use Rattle.run_model.specs.Readiness.{AreGots}
use Rattle.run_model.specs.Run.{IsEvent, IsRun}
use Rattle.run_model.specs.Shape.{is_test, rise_within}
use Rattle.run_model.specs.Views.{Next, View, items_taken, moment_at, moment_of, start_at, taken_of, view_of}
use Rattle.run_model.proofs.Halts.{is_stopped}
use Rattle.run_model.proofs.Positions.{longer}
use Rattle.run_model.proofs.RunLaws.{IsRun-event}
use Rattle.run_model.proofs.StartLemmas.{slice_get-below}
use Rattle.run_model.proofs.TakeShapes.{chosen_fit}
use Rattle.run_model.proofs.Views.{option_cases, test_cases, view_of-append}

-- 1. listed starts

pub distinct_parts : (x : ℕ) (xs : List ℕ) → is_distinct (x ∷ xs) ≡ true → (is_member xs x ≡ false) × (is_distinct xs ≡ true)
distinct_parts x xs h =
    elim (test_cases (is_member xs x)) [
      | inl t ↦ absurd (let no : false ≡ true = rw t at h in cc)
      | inr t ↦ (t, rw t at h)
    ]

-- a list that brings no halt lists no start twice, and none that was taken
record IsListedOnce (own : View) (earlier starts : List ℕ) : Type 0 where
  once : is_distinct starts ≡ true
  apart : (k : ℕ) → is_member earlier k ≡ true → is_member starts k ≡ false
  fresh : (k : ℕ) → is_member starts k ≡ true → is_member (taken_of own) k ≡ false

not_true : (b : Bool) → not b ≡ true → b ≡ false
not_true b h = false_from_ne_true b (λ t. (let no : false ≡ true = rw t at h in cc))

listed_once : (own : View) (earlier starts : List ℕ) → bad_request own earlier starts ≡ None → IsListedOnce own earlier starts
listed_once own earlier [] h = record { once = refl; apart = λ k there. refl; fresh = λ k there. absurd (cc) }
listed_once own earlier (x ∷ starts) h =
    elim (test_cases (is_some (start_at own x) && (not (is_member (taken_of own) x) && not (is_member earlier x)))) [
      | inl t ↦ (
          let one = and_parts (is_some (start_at own x)) (not (is_member (taken_of own) x) && not (is_member earlier x)) t in
          let two = and_parts (not (is_member (taken_of own) x)) (not (is_member earlier x)) one.1 in
          let rest = listed_once own (x ∷ earlier) starts (rw t at h) in
          let once = rest.apart x (or_left (x == x) (is_member earlier x) (eq-eqb x x refl)) in
          record {
            once = rw once rest.once;
            apart = λ k there. or_from (x == k) (is_member starts k)
                (false_from_ne_true (x == k) (λ e. (
                let F : ℕ → Type 0 = λ y. is_member earlier y ≡ true in
                let early : is_member earlier x ≡ true = subst F (sym (eqb-true x k e)) there in
                let no : false ≡ true = rw early at two.1 in
                cc)))
                (rest.apart k (or_right (x == k) (is_member earlier k) there));
            fresh = λ k there. elim (or_cases (x == k) (is_member starts k) there) [
              | inl e ↦ (
                  let F : ℕ → Type 0 = λ y. is_member (taken_of own) y ≡ false in
                  subst F (eqb-true x k e) (not_true (is_member (taken_of own) x) two.0))
              | inr later ↦ rest.fresh k later
            ];
          })
      | inr t ↦ absurd (let no : Some x ≡ None = rw t at h in cc)
    ]

-- different places of such a list have different starts
apart_at : (starts : List ℕ) (i j : ℕ) → is_distinct starts ≡ true → i < j → j < length starts → slice_index starts i ≡ slice_index starts j → ⊥
apart_at [] i j distinct less within same = absurd (omega (arith, within))
apart_at (x ∷ starts) i zero distinct less within same = absurd (omega (arith, less))
apart_at (x ∷ starts) zero (suc j) distinct less within same =
    let there : is_member starts (slice_index starts j) ≡ true = is_member_at starts j (omega (arith, within)) in
    let F : ℕ → Type 0 = λ y. is_member starts y ≡ true in
    let here : is_member starts x ≡ true = subst F (sym same) there in
    let no : true ≡ false = sym here ∙ (distinct_parts x starts distinct).0 in
    cc
apart_at (x ∷ starts) (suc i) (suc j) distinct less within same =
    apart_at starts i j (distinct_parts x starts distinct).1 (omega (arith, less)) (omega (arith, within)) same

-- 2. items that rise

abbrev indices_of : List Item → List ℕ
indices_of items = map (λ (item : Item). item.index) items

-- the first of some items that rise, and those behind it
record Rising (low len : ℕ) (item : Item) (items : List Item) : Type 0 where
  above : low ≤ item.index
  within : item.index < len
  rest : rise_within (item.index + 1) len (indices_of items) ≡ true

rising : (low len : ℕ) (item : Item) (items : List Item) → rise_within low len (indices_of (item ∷ items)) ≡ true → Rising low len item items
rising low len item items h =
    let one = and_parts (nat_le low item.index) (nat_lt item.index len && rise_within (item.index + 1) len (indices_of items)) h in
    let two = and_parts (nat_lt item.index len) (rise_within (item.index + 1) len (indices_of items)) one.1 in
    record { above = leb-true low item.index one.0; within = ltb-true item.index len two.0; rest = two.1 }

place_taken : (starts : List ℕ) (items : List Item) (low k : ℕ) → rise_within low (length starts) (indices_of items) ≡ true → is_member (items_taken starts items) k ≡ true
    → (at : ℕ) × (low ≤ at) × (at < length starts) × (slice_index starts at ≡ k)
place_taken starts [] low k h there = absurd (cc)
place_taken starts (item ∷ items) low k h there =
    let first = rising low (length starts) item items h in
    elim (or_cases (slice_index starts item.index == k) (is_member (items_taken starts items) k) there) [
      | inl t ↦ (item.index, first.above, first.within, eqb-true (slice_index starts item.index) k t)
      | inr t ↦ (
          let rest = place_taken starts items (item.index + 1) k first.rest t in
          let above = rest.1 in
          let lower = first.above in
          (rest.0, omega (arith, above, lower), rest.2, rest.3))
    ]

items_distinct : (starts : List ℕ) (items : List Item) (low : ℕ) → is_distinct starts ≡ true → rise_within low (length starts) (indices_of items) ≡ true
    → is_distinct (items_taken starts items) ≡ true
items_distinct starts [] low distinct h = refl
items_distinct starts (item ∷ items) low distinct h =
    let first = rising low (length starts) item items h in
    let k : ℕ = slice_index starts item.index in
    let fresh : is_member (items_taken starts items) k ≡ false = false_from_ne_true (is_member (items_taken starts items) k) (λ t. (
    let again = place_taken starts items (item.index + 1) k first.rest t in
    let above = again.1 in
    apart_at starts item.index again.0 distinct (omega (arith, above)) again.2 (sym again.3))) in
    rw fresh (items_distinct starts items (item.index + 1) distinct first.rest)

few_items : (len low : ℕ) (items : List Item) → low ≤ len → rise_within low len (indices_of items) ≡ true → low + length items ≤ len
few_items len low [] within h = omega (arith, within)
few_items len low (item ∷ items) within h =
    let first = rising low len item items h in
    let lower = first.above in
    let below = first.within in
    let rest = few_items len (item.index + 1) items (omega (arith, below)) first.rest in
    omega (arith, lower, rest)

-- a start that is listed at such an item's place is listed
listed_there : (starts : List ℕ) (items : List Item) (k : ℕ) → rise_within 0 (length starts) (indices_of items) ≡ true → is_member (items_taken starts items) k ≡ true
    → is_member starts k ≡ true
listed_there starts items k h there =
    let at = place_taken starts items 0 k h there in
    let F : ℕ → Type 0 = λ y. is_member starts y ≡ true in
    subst F at.3 (is_member_at starts at.0 at.2)

-- 3. a reply that takes

pub none_parts : (a b : Option Halt) → or_else a b ≡ None → (a ≡ None) × (b ≡ None)
none_parts None b h = (refl, h)
none_parts (Some halt) b h = absurd (cc)

-- a reply that is no halt comes where none is due
nothing_due : (next : Next) (n : ℕ) (before : List Event) (me : ℕ) (call : Call) (reply : Reply) → IsAllowed next n before me call reply
    → is_stopped reply ≡ false → due n before me (view_of before me) call ≡ None
nothing_due next n before me call reply is going =
    let own : View = view_of before me in
    let F : Option Halt → Type 0 = λ x. IsAllowedBy x (IsDeadlock next n before) (moment_of n before me own) call reply in
    elim is [
      | inl given ↦ elim (option_cases (due n before me own call)) [
        | inl some ↦ (
            let stopped : reply ≡ Stopped some.0 = subst F some.1 given.0 in
            absurd (let no : true ≡ false = rw stopped at going in cc))
        | inr none ↦ none
      ]
      | inr late ↦ late.0
    ]

good_list : (own : View) (me : ℕ) (starts : List ℕ) (found : Option ℕ) → bad_request own [] starts ≡ found → bad_halt me found ≡ None
    → bad_request own [] starts ≡ None
good_list own me starts None is h = is
good_list own me starts (Some k) is h = absurd (cc)

good_request : (n : ℕ) (before : List Event) (me : ℕ) (starts : List ℕ) (mode : TakeMode) → due n before me (view_of before me) (Take starts mode) ≡ None
    → bad_request (view_of before me) [] starts ≡ None
good_request n before me starts mode free =
    let own : View = view_of before me in
    let late = (none_parts (halted before) (if is_full before then Some Limit else halt_at n before me own (Take starts mode)) free).1 in
    elim (test_cases (is_full before)) [
      | inl t ↦ absurd (let no : Some Limit ≡ None = rw t at late in cc)
      | inr t ↦ good_list own me starts (bad_request own [] starts) refl (rw t at late)
    ]

-- the items of a reply are those that were chosen of its call's starts
record AreOf (n : ℕ) (before : List Event) (me : ℕ) (starts : List ℕ) (items : List Item) : Type 0 where
  rising : rise_within 0 (length starts) (indices_of items) ≡ true
  gots : AreGots (moment_at n before me) starts items

chosen_items : (me : ℕ) (long : Option ℕ) (chosen items : List Item) → Took items ≡ taken_reply me long chosen → chosen ≡ items
chosen_items me None chosen items h = cc
chosen_items me (Some k) chosen items h = absurd (cc)

held_takes : (test : Bool) (stuck : Type 0) (items : List Item) → IsHeld test stuck (Took items) → ⊥
held_takes true stuck items is = cc
held_takes false stuck items is = (let no = is.1 in cc)

take_of : (condition : Bool) (stuck : Type 0) (n : ℕ) (before : List Event) (me : ℕ) (starts : List ℕ) (mode : TakeMode) (items : List Item)
    → mode_holds mode (flags_of (moment_at n before me) starts) ≡ condition → IsTakeAnswer condition stuck (moment_at n before me) starts mode (Took items)
    → AreOf n before me starts items
take_of true stuck n before me starts mode items condition is =
    let own : View = view_of before me in
    let flags : List Bool = flags_of (moment_of n before me own) starts in
    let same : is.items ≡ items = chosen_items me (first_long own starts is.items) is.items items is.reply_is in
    let as_many : length flags ≡ length starts = length-map starts (λ k. _) in
    let L : ℕ → Type 0 = λ len. rise_within 0 len (indices_of is.items) ≡ true in
    let F : List Item → Type 0 = λ l. rise_within 0 (length starts) (indices_of l) ≡ true in
    let G : List Item → Type 0 = λ l. AreGots (moment_of n before me own) starts l in
    record {
      rising = subst F same (subst L as_many (chosen_fit mode flags (indices_of is.items) is.chosen condition).rising);
      gots = subst G same is.gots;
    }
take_of false stuck n before me starts mode items condition is = absurd (held_takes (is_test mode) stuck items is)

peek_takes : (found : Bool) (stuck : Type 0) (before : List Event) (me comm : ℕ) (source : Source) (tag : Tag) (wait : Bool) (items : List Item)
    → IsPeekAnswer found stuck before (probe_of me comm source tag) wait (Took items) → ⊥
peek_takes true stuck before me comm source tag wait items is = (let no = is.reply_is in cc)
peek_takes false stuck before me comm source tag wait items is = held_takes (not wait) stuck items is

-- what is known of the items of a reply
pub record AreTaken (n : ℕ) (before : List Event) (me : ℕ) (starts : List ℕ) (items : List Item) : Type 0 where
  pub gots : AreGots (moment_at n before me) starts items
  pub once : is_distinct (items_taken starts items) ≡ true
  pub few : length items ≤ length starts
  pub fresh : (k : ℕ) → is_member (items_taken starts items) k ≡ true → is_member (taken_of (view_of before me)) k ≡ false

taken_as : (n : ℕ) (before : List Event) (me : ℕ) (starts : List ℕ) (mode : TakeMode) (items : List Item) → due n before me (view_of before me) (Take starts mode) ≡ None
    → AreOf n before me starts items → AreTaken n before me starts items
taken_as n before me starts mode items free of =
    let own : View = view_of before me in
    let listed = listed_once own [] starts (good_request n before me starts mode free) in
    let many = few_items (length starts) 0 items (omega arith) of.rising in
    record {
      gots = of.gots;
      once = items_distinct starts items 0 listed.once of.rising;
      few = omega (arith, many);
      fresh = λ k there. listed.fresh k (listed_there starts items k of.rising there);
    }

late_taken : (n : ℕ) (before : List Event) (me : ℕ) (call : Call) (items : List Item) → due n before me (view_of before me) call ≡ None
    → IsLate (moment_at n before me) call (Took items) → AreTaken n before me (listed_by call) items
late_taken n before me (Take starts mode) items free is = elim is [
  | inl not_yet ↦ absurd (let no : Took items ≡ NotYet = not_yet.2 in cc)
  | inr part ↦ (
      let own : View = view_of before me in
      let same : part.items ≡ items = chosen_items me (first_long own starts part.items) part.items items part.reply_is in
      let F : List Item → Type 0 = λ l. rise_within 0 (length starts) (indices_of l) ≡ true in
      let G : List Item → Type 0 = λ l. AreGots (moment_of n before me own) starts l in
      taken_as n before me starts mode items free (record { rising = subst F same part.rising; gots = subst G same part.gots }))
]
late_taken n before me (Peek comm source tag wait) items free is = absurd (let no : Took items ≡ NotYet = is.1 in cc)
late_taken n before me (Send comm dest tag ints sync) items free is = absurd is
late_taken n before me (Post comm source tag room) items free is = absurd is
late_taken n before me (Enter comm kind root op count ints) items free is = absurd is
late_taken n before me (Abort code) items free is = absurd is
late_taken n before me (Trap fault) items free is = absurd is
late_taken n before me End items free is = absurd is

are_taken : (stuck : Type 0) (n : ℕ) (before : List Event) (me : ℕ) (call : Call) (items : List Item) → due n before me (view_of before me) call ≡ None
    → IsAnswer stuck (moment_at n before me) call (Took items) → AreTaken n before me (listed_by call) items
are_taken stuck n before me (Take starts mode) items free is =
    taken_as n before me starts mode items free (take_of (mode_holds mode (flags_of (moment_at n before me) starts)) stuck n before me starts mode items refl is)
are_taken stuck n before me (Send comm dest tag ints sync) items free is = absurd (let no : Took items ≡ Done = is in cc)
are_taken stuck n before me (Post comm source tag room) items free is = absurd (let no : Took items ≡ Done = is in cc)
are_taken stuck n before me (Enter comm kind root op count ints) items free is = absurd (let no : Took items ≡ Done = is in cc)
are_taken stuck n before me (Peek comm source tag wait) items free is =
    absurd (peek_takes (has_open n before me comm source tag) stuck before me comm source tag wait items is)
are_taken stuck n before me (Abort code) items free is = absurd (let no : Took items ≡ Done = is in cc)
are_taken stuck n before me (Trap fault) items free is = absurd (let no : Took items ≡ Done = is in cc)
are_taken stuck n before me End items free is = absurd (let no : Took items ≡ Done = is in cc)

pub reply_taken : (next : Next) (n : ℕ) (before : List Event) (event : Event) (items : List Item) → IsEvent next n before event → event.reply ≡ Took items
    → AreTaken n before event.rank (listed_by event.call) items
reply_taken next n before event items step took =
    let me : ℕ = event.rank in
    let own : View = view_of before me in
    let A : Reply → Type 0 = λ reply. IsAllowed next n before me event.call reply in
    let allowed : A (Took items) = subst A took step.reply in
    let free = nothing_due next n before me event.call (Took items) allowed refl in
    let F : Option Halt → Type 0 = λ x. IsAllowedBy x (IsDeadlock next n before) (moment_of n before me own) event.call (Took items) in
    elim allowed [
      | inl given ↦ are_taken (IsDeadlock next n before) n before me event.call items free (subst F free given.0)
      | inr late ↦ late_taken n before me event.call items late.0 late.1
    ]

-- 4. runs

in_front : (xs ys : List ℕ) (k : ℕ) → is_member xs k ≡ true → is_member (xs ++ ys) k ≡ true
in_front xs ys k h = list_any-append (λ x. x == k) xs ys ∙ or_left (is_member xs k) (is_member ys k) h

in_back : (xs ys : List ℕ) (k : ℕ) → is_member ys k ≡ true → is_member (xs ++ ys) k ≡ true
in_back xs ys k h = list_any-append (λ x. x == k) xs ys ∙ or_right (is_member xs k) (is_member ys k) h

-- what was taken stays taken
stays_taken : (xs ys : View) (call : Call) (items : List Item) (k : ℕ) → is_member (items_taken (listed_by call) items) k ≡ true
    → is_member (taken_of (xs ++ (call, Took items) ∷ ys)) k ≡ true
stays_taken [] ys call items k h = in_front (items_taken (listed_by call) items) (taken_of ys) k h
stays_taken ((c, Took more) ∷ xs) ys call items k h =
    in_back (items_taken (listed_by c) more) (taken_of (xs ++ (call, Took items) ∷ ys)) k (stays_taken xs ys call items k h)
stays_taken ((c, Done) ∷ xs) ys call items k h = stays_taken xs ys call items k h
stays_taken ((c, NotYet) ∷ xs) ys call items k h = stays_taken xs ys call items k h
stays_taken ((c, Peeked source start tag count) ∷ xs) ys call items k h = stays_taken xs ys call items k h
stays_taken ((c, Stopped halt) ∷ xs) ys call items k h = stays_taken xs ys call items k h

-- the event at a position takes this start of the rank
pub record TakesAt (events : List Event) (rank k at : ℕ) : Type 0 where
  pub event : Event
  pub there : slice_get events at ≡ Some event
  pub own : event.rank ≡ rank
  pub items : List Item
  pub reply : event.reply ≡ Took items
  pub takes : is_member (items_taken (listed_by event.call) items) k ≡ true

-- the event at a position of a run, after those before it
pub event_there : (next : Next) (n : ℕ) (events : List Event) (at : ℕ) (event : Event) → IsRun next n events → slice_get events at ≡ Some event
    → IsEvent next n (take at events) event
event_there next n events at event run there =
    let split = longer events at (length events) event there (slice_get-below events at event there) in
    let R : List Event → Type 0 = λ l. IsRun next n l in
    IsRun-event next n (take at events) split.0 event (subst R (sym (take-length events) ∙ split.1) run)

never_later : (next : Next) (n : ℕ) (events : List Event) (rank k i j : ℕ) → IsRun next n events → TakesAt events rank k i → TakesAt events rank k j → i < j → ⊥
never_later next n events rank k i j run first second less =
    let split = longer events i j first.event first.there less in
    let event : Event = second.event in
    let taken = reply_taken next n (take j events) event second.items (event_there next n events j event run second.there) second.reply in
    let seen : View = view_of (take i events) event.rank in
    let later : View = view_of split.0 event.rank in
    let same : first.event.rank ≡ event.rank = first.own ∙ sym second.own in
    let view : view_of (take j events) event.rank ≡ seen ++ (first.event.call, first.event.reply) ∷ later =
    ap (λ l. view_of l event.rank) split.1 ∙ (view_of-append (take i events) (first.event ∷ split.0) event.rank ∙ rw (eq-eqb first.event.rank event.rank same) refl) in
    let replied : taken_of (seen ++ (first.event.call, first.event.reply) ∷ later) ≡ taken_of (seen ++ (first.event.call, Took first.items) ∷ later) =
    ap (λ (r : Reply). taken_of (seen ++ (first.event.call, r) ∷ later)) first.reply in
    let all : taken_of (view_of (take j events) event.rank) ≡ taken_of (seen ++ (first.event.call, Took first.items) ∷ later) = ap taken_of view ∙ replied in
    let there : is_member (taken_of (view_of (take j events) event.rank)) k ≡ true =
    ap (λ l. is_member l k) all ∙ stays_taken seen later first.event.call first.items k first.takes in
    let no : true ≡ false = sym there ∙ taken.fresh k second.takes in
    cc

-- a start of a run is taken at one position
pub taken_once : (next : Next) (n : ℕ) (events : List Event) (rank k i j : ℕ) → IsRun next n events → TakesAt events rank k i → TakesAt events rank k j → i ≡ j
taken_once next n events rank k i j run first second =
    elim (cases_order i j) [
      | inl same ↦ same
      | inr other ↦ elim other [
        | inl less ↦ absurd (never_later next n events rank k i j run first second less)
        | inr more ↦ absurd (never_later next n events rank k j i run second first more)
      ]
    ]
