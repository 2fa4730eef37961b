-- Columns rise along the lanes of a run.
use Rattle.std.proofs.Common.{◌≡◌, ◌≤◌, ◌<◌, ◌+◌, ◌==◌, ◌++◌, ◌∷◌, [], ℕ, zero, suc, List, Some, None, true, false, inl, inr, refl, ap, sym, ◌∙◌, arith, drop, slice_get, subst, take}
use Rattle.std.proofs.lemmas.Bool.{eq-eqb, eqb-true, false_from_ne_true, or_left, or_right}
use Rattle.std.specs.List.{list_any}
use Rattle.mpi_call.specs.declared.call.Call.{Call}
use Rattle.mpi_call.specs.declared.reply.Reply.{Reply}
use Rattle.mpi_call.specs.declared.reply.Reply.TheVariants.{Done, NotYet, Peeked, Stopped, Took}
use Rattle.mpi_call.specs.Lists.{IsIn, Rises}
use Rattle.run_model.specs.declared.event.Event.{Event}
use Rattle.run_model.specs.Due.{stops}
use Rattle.run_model.specs.Program.{ends}
use Rattle.run_model.specs.Run.{IsRun}
use Rattle.run_model.specs.Views.{Next, view_of}
use Rattle.run_model.proofs.RunLaws.{IsRun-event, IsRun-front, Lawful, kept_run}
use Rattle.run_model.proofs.Views.{test_cases}
use Rattle.group_plan.specs.Plans.{number_of_ranks}
use Rattle.causes.specs.Before.{IsEventOfRank}
use Rattle.causes.specs.Before.IsBefore.{step}
use Rattle.causes.specs.Positions.{is_event_of, positions}
use Rattle.causes.proofs.NewClocks.{own_step}
use Rattle.causes.proofs.PositionLemmas.{placed-in, positions-rise}
use Rattle.run_drawing.specs.declared.drawing.DrawnMark.{DrawnMark}
use Rattle.run_drawing.specs.Basis.{Basis}
use Rattle.run_drawing.specs.Columns.{column}
use Rattle.run_drawing.specs.Drawings.{marks_from, drawn_marks}
use Rattle.run_drawing.specs.Drawn.{Drawn}
use Rattle.run_drawing.specs.Laws.{LanesRise}
use Rattle.run_drawing.proofs.ArrowLemmas.{get_in, in_joined}
use Rattle.run_drawing.proofs.ColumnLemmas.{columns_rise}

-- what a mark is of
record IsMarked (basis : Basis) (rank number : ℕ) (places : List ℕ) (mark : DrawnMark) : Type 0 where
  index : ℕ
  place : ℕ
  at : slice_get places index ≡ Some place
  rank_is : mark.rank ≡ rank
  number_is : mark.number ≡ number + index
  column_is : mark.column ≡ column basis place

marked : (basis : Basis) (rank number : ℕ) (places : List ℕ) (mark : DrawnMark) → IsIn mark (marks_from basis rank number places) → IsMarked basis rank number places mark
marked basis rank number [] mark h = absurd h
marked basis rank number (p ∷ places) mark h = elim h [
  | inl e ↦ (
      let is = ap (λ (m : DrawnMark). m.number) e in
      record {
        index = 0;
        place = p;
        at = refl;
        rank_is = sym (ap (λ (m : DrawnMark). m.rank) e);
        number_is = omega (arith, is);
        column_is = sym (ap (λ (m : DrawnMark). m.column) e);
      })
  | inr later ↦ (
      let rest = marked basis rank (number + 1) places mark later in
      let is = rest.number_is in
      record { index = suc rest.index; place = rest.place; at = rest.at; rank_is = rest.rank_is; number_is = omega (arith, is); column_is = rest.column_is })
]

-- rising numbers
rising_at : (low : ℕ) (xs : List ℕ) (j q : ℕ) → Rises low xs → slice_get xs j ≡ Some q → low ≤ q
rising_at low [] j q rises h = absurd (cc)
rising_at low (x ∷ xs) zero q rises h = (let same : x ≡ q = cc in let first = rises.0 in omega (arith, same, first))
rising_at low (x ∷ xs) (suc j) q rises h = (let first = rises.0 in let rest = rising_at (x + 1) xs j q rises.1 h in omega (arith, first, rest))

pub rising_less : (low : ℕ) (xs : List ℕ) (i j p q : ℕ) → Rises low xs → i < j → slice_get xs i ≡ Some p → slice_get xs j ≡ Some q → p < q
rising_less low [] i j p q rises h one other = absurd (cc)
rising_less low (x ∷ xs) i zero p q rises h one other = absurd (omega (arith, h))
rising_less low (x ∷ xs) zero (suc j) p q rises h one other =
    (let same : x ≡ p = cc in let rest = rising_at (x + 1) xs j q rises.1 other in omega (arith, same, rest))
rising_less low (x ∷ xs) (suc i) (suc j) p q rises h one other = rising_less (x + 1) xs i j p q rises.1 (omega (arith, h)) one other

-- a rank that was stopped has ended
ends_by : (call : Call) (reply : Reply) → stops reply ≡ true → ends (call, reply) ≡ true
ends_by call (Stopped halt) h = refl
ends_by call Done h = absurd (cc)
ends_by call NotYet h = absurd (cc)
ends_by call (Took items) h = absurd (cc)
ends_by call (Peeked source start tag count) h = absurd (cc)

has_ended : (events : List Event) (rank t : ℕ) (event : Event) → slice_get events t ≡ Some event → event.rank ≡ rank → stops event.reply ≡ true → list_any ends (view_of events rank) ≡ true
has_ended [] rank t event at own h = absurd (cc)
has_ended (x ∷ events) rank zero event at own h =
    let same : event ≡ x = cc in
    let mine : (x.rank == rank) ≡ true = eq-eqb x.rank rank (ap (λ (e : Event). e.rank) (sym same) ∙ own) in
    let ended : ends (x.call, x.reply) ≡ true = ends_by x.call x.reply (ap (λ (e : Event). stops e.reply) (sym same) ∙ h) in
    rw mine (or_left (ends (x.call, x.reply)) (list_any ends (view_of events rank)) ended)
has_ended (x ∷ events) rank (suc t) event at own h =
    let rest = has_ended events rank t event at own h in
    elim (test_cases (x.rank == rank)) [
      | inl m ↦ rw m (or_right (ends (x.call, x.reply)) (list_any ends (view_of events rank)) rest)
      | inr m ↦ rw m rest
    ]

-- the events before a position, the one there, and those behind it
pub parted : {A : Type 0} (xs : List A) (u : ℕ) (x : A) → slice_get xs u ≡ Some x → take u xs ++ x ∷ drop (suc u) xs ≡ xs
parted [] u x h = absurd (cc)
parted (y ∷ xs) zero x h = (let same : x ≡ y = cc in ap (λ z. z ∷ xs) same)
parted (y ∷ xs) (suc u) x h = ap (λ l. y ∷ l) (parted xs u x h)

pub get_take : {A : Type 0} (xs : List A) (u t : ℕ) (x : A) → t < u → slice_get xs t ≡ Some x → slice_get (take u xs) t ≡ Some x
get_take [] u t x less h = absurd (cc)
get_take (y ∷ xs) zero t x less h = absurd (omega (arith, less))
get_take (y ∷ xs) (suc u) zero x less h = h
get_take (y ∷ xs) (suc u) (suc t) x less h = get_take xs u t x (omega (arith, less)) h

-- a rank that makes a call was not stopped before
goes_on : (next : Next) (n : ℕ) (events : List Event) (t u : ℕ) (one other : Event) → Lawful next → IsRun next n events → slice_get events t ≡ Some one → slice_get events u ≡ Some other
    → one.rank ≡ other.rank → t < u → stops one.reply ≡ false
goes_on next n events t u one other lawful run first second same less =
    let before : List Event = take u events in
    let R : List Event → Type 0 = λ l. IsRun next n l in
    let whole = subst R (sym (parted events u other second)) run in
    let front = IsRun-front next n before (other ∷ drop (suc u) events) whole in
    let event = IsRun-event next n before (drop (suc u) events) other whole in
    let kept = kept_run next n before lawful front in
    false_from_ne_true (stops one.reply) (λ stopped.
    let ended = has_ended before other.rank t one (get_take events u t one less first) same stopped in
    let none = (lawful.ends n other.rank (view_of before other.rank) (run.some, run.few, event.rank) (kept.came other.rank event.rank)).1 ended in
    let no : Some other.call ≡ None = sym event.call ∙ none in
    cc)

own_at : (events : List Event) (rank p : ℕ) → IsIn p (positions (is_event_of rank) 0 events) → IsEventOfRank events rank p
own_at events rank p among =
    let placed = placed-in (is_event_of rank) events p among in
    record { earlier = placed.event; at = placed.there; own = eqb-true placed.event.rank rank placed.passes }

pub lanes_rise : (next : Next) → Lawful next → LanesRise next
lanes_rise next lawful plan events drawing one other run is first second same less =
    let n : ℕ = number_of_ranks plan in
    let basis : Basis = record { ranks = n; events = events; depths = is.depths; before = is.before } in
    let M : DrawnMark → List DrawnMark → Type 0 = λ m l. IsIn m l in
    let marks = ap (λ (d : Drawn). d.marks) is.is in
    let of_one = in_joined (drawn_marks basis) n one (subst (M one) marks first) in
    let of_other = in_joined (drawn_marks basis) n other (subst (M other) marks second) in
    let left = marked basis of_one.0 0 (positions (is_event_of of_one.0) 0 events) one of_one.1 in
    let right = marked basis of_other.0 0 (positions (is_event_of of_other.0) 0 events) other of_other.1 in
    let ranks : of_other.0 ≡ of_one.0 = sym right.rank_is ∙ sym same ∙ left.rank_is in
    let G : ℕ → Type 0 = λ r. slice_get (positions (is_event_of r) 0 events) right.index ≡ Some right.place in
    let there = subst G ranks right.at in
    let rank : ℕ = of_one.0 in
    let places : List ℕ = positions (is_event_of rank) 0 events in
    let a = left.number_is in
    let b = right.number_is in
    let before = rising_less 0 places left.index right.index left.place right.place (positions-rise (is_event_of rank) 0 events) (omega (arith, a, b, less)) left.at there in
    let earlier = own_at events rank left.place (get_in places left.index left.place left.at) in
    let later = own_at events rank right.place (get_in places right.index right.place there) in
    let goes = goes_on next n events left.place right.place earlier.earlier later.earlier lawful run earlier.at later.at (earlier.own ∙ sym later.own) before in
    let rises = columns_rise basis left.place right.place earlier.earlier is.are_depths earlier.at goes
    (step left.place right.place (own_step n events rank left.place right.place earlier later before)) in
    let c = left.column_is in
    let d = right.column_is in
    omega (arith, rises, c, d)
