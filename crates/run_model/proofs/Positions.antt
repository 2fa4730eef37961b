-- Positions and names of the starts of a history.
use Rattle.std.proofs.Common.{◌≡◌, ◌<◌, ℕ, zero, suc, List, [], ◌∷◌, ◌++◌, Option, Some, None, true, inl, inr, length, length-append, slice_get, take, refl, ap, sym, ◌∙◌, subst, arith}
use Rattle.std.proofs.lemmas.Bool.{and_parts, cases_order, eq-eqb}
use Rattle.std.proofs.Math.Seq.{take-append_seam}
use Rattle.mpi_call.specs.declared.call.Call.{Call}
use Rattle.mpi_call.specs.declared.reply.Reply.{Reply}
use Rattle.mpi_call.specs.declared.reply.Reply.TheVariants.{Done, NotYet, Peeked, Stopped, Took}
use Rattle.mpi_call.specs.Calls.{is_starting}
use Rattle.run_model.specs.declared.event.Event.{Event}
use Rattle.run_model.specs.Pairs.{Name, name_at, name_of_start, named}
use Rattle.run_model.specs.Views.{View, is_done, is_start, start_at, starts_of, view_of}
use Rattle.run_model.proofs.Places.{place}
use Rattle.run_model.proofs.StartLemmas.{slice_get-below, starts_of-append}
use Rattle.run_model.proofs.Views.{test_cases, view_of-append}

-- the name of an event that starts something
abbrev pub new_name : List Event → Event → Name
new_name before event = (event.rank, length (starts_of (view_of before event.rank)))

-- the event that a name comes from
pub record IsNamed (before : List Event) (found : Option Event) (name : Name) : Type 0 where
  pub event : Event
  pub there : found ≡ Some event
  pub start : is_start (event.call, event.reply) ≡ true
  pub name_is : new_name before event ≡ name

pub name_parts : (before : List Event) (found : Option Event) (name : Name) → name_of_start before found ≡ Some name → IsNamed before found name
name_parts before None name h = absurd (cc)
name_parts before (Some event) name h =
    elim (test_cases (is_start (event.call, event.reply))) [
      | inl t ↦
          let e : Some (new_name before event) ≡ Some name = rw t at h in
          let same : new_name before event ≡ name = cc in
          record { event = event; there = refl; start = t; name_is = same }
      | inr t ↦ (let no : None ≡ Some name = rw t at h in absurd (cc))
    ]

pub name_at-below : (events : List Event) (at : ℕ) (name : Name) → name_at events at ≡ Some name → at < length events
name_at-below events at name h =
    let p = name_parts (take at events) (slice_get events at) name h in
    slice_get-below events at p.event p.there

-- the events before a later position begin with those before an earlier one and its event
pub longer : (events : List Event) (i j : ℕ) (event : Event) → slice_get events i ≡ Some event → i < j → (rest : List Event) × (take j events ≡ take i events ++ event ∷ rest)
longer [] i j event h less = absurd (cc)
longer (x ∷ events) zero zero event h less = absurd (omega arith)
longer (x ∷ events) zero (suc j) event h less = (take j events, (let same : x ≡ event = cc in ap (λ (e : Event). e ∷ take j events) same))
longer (x ∷ events) (suc i) zero event h less = absurd (omega arith)
longer (x ∷ events) (suc i) (suc j) event h less =
    let rest = longer events i j event h (omega arith) in
    (rest.0, ap (λ (l : List Event). x ∷ l) rest.1)

more_starts : (front rest : List Event) (event : Event) (rank : ℕ) → event.rank ≡ rank → is_start (event.call, event.reply) ≡ true
    → length (starts_of (view_of front rank)) < length (starts_of (view_of (front ++ event ∷ rest) rank))
more_starts front rest event rank same t =
    rw (view_of-append front (event ∷ rest) rank, eq-eqb event.rank rank same, starts_of-append (view_of front rank) ((event.call, event.reply) ∷ view_of rest rank), t, length-append (starts_of (view_of front rank)) (event.call ∷ starts_of (view_of rest rank))) (omega arith)

-- a later start of the same rank has a greater number
pub name_at-rises : (events : List Event) (i j : ℕ) (a b : Name) → name_at events i ≡ Some a → name_at events j ≡ Some b → a.0 ≡ b.0 → i < j → a.1 < b.1
name_at-rises events i j a b h k same less =
    let p = name_parts (take i events) (slice_get events i) a h in
    let q = name_parts (take j events) (slice_get events j) b k in
    let front : List Event = take i events in
    let back : List Event = take j events in
    let split = longer events i j p.event p.there less in
    let count : List Event → ℕ → ℕ = λ l r. length (starts_of (view_of l r)) in
    let ranks : q.event.rank ≡ p.event.rank = ap (λ (n : Name). n.0) q.name_is ∙ (sym same ∙ ap (λ (n : Name). n.0) (sym p.name_is)) in
    let low : count front p.event.rank ≡ a.1 = ap (λ (n : Name). n.1) p.name_is in
    let high : count back q.event.rank ≡ b.1 = ap (λ (n : Name). n.1) q.name_is in
    let moved : count back q.event.rank ≡ count back p.event.rank = ap (λ (r : ℕ). count back r) ranks in
    let grown : count back p.event.rank ≡ count (front ++ p.event ∷ split.0) p.event.rank = ap (λ (l : List Event). count l p.event.rank) split.1 in
    let more : count front p.event.rank < count (front ++ p.event ∷ split.0) p.event.rank = more_starts front split.0 p.event p.event.rank refl p.start in
    omega arith

-- a lower number of the same rank stands at a lower position
pub name_at-lower : (events : List Event) (i j : ℕ) (a b : Name) → name_at events i ≡ Some a → name_at events j ≡ Some b → a.0 ≡ b.0 → a.1 < b.1 → i < j
name_at-lower events i j a b h k rank less =
    elim (cases_order i j) [
      | inl e ↦
          let F : ℕ → Type 0 = λ x. name_at events x ≡ Some b in
          let both : Some a ≡ Some b = sym h ∙ subst F (sym e) k in
          let same : a ≡ b = cc in
          let number : a.1 ≡ b.1 = ap (λ (n : Name). n.1) same in
          absurd (omega arith)
      | inr other ↦ elim other [
        | inl below ↦ below
        | inr above ↦ (let no : b.1 < a.1 = name_at-rises events j i b a k h (sym rank) above in absurd (omega arith))
      ]
    ]

-- where a start stands in a view
record StartPlace (view : View) (k : ℕ) (call : Call) : Type 0 where
  before : View
  after : View
  whole : view ≡ before ++ (call, Done) ∷ after
  starting : is_starting call ≡ true
  number : length (starts_of before) ≡ k

done_is : (reply : Reply) → is_done reply ≡ true → reply ≡ Done
done_is Done h = refl
done_is NotYet h = absurd (cc)
done_is (Took items) h = absurd (cc)
done_is (Peeked source start tag count) h = absurd (cc)
done_is (Stopped halt) h = absurd (cc)

start_place : (view : View) (k : ℕ) (call : Call) → start_at view k ≡ Some call → StartPlace view k call
start_place [] k call h = absurd (cc)
start_place ((c, reply) ∷ view) zero call h =
    elim (test_cases (is_start (c, reply))) [
      | inl t ↦
          let parts = and_parts (is_starting c) (is_done reply) t in
          let found : Some c ≡ Some call = rw t at h in
          let same : c ≡ call = cc in
          let done : reply ≡ Done = done_is reply parts.1 in
          let pair : Call → Reply → Call × Reply = λ a b. (a, b) in
          record {
            before = [];
            after = view;
            whole = ap (λ p. p ∷ view) (ap (λ a. pair a reply) same ∙ ap (pair call) done);
            starting = (let F : Call → Type 0 = λ a. is_starting a ≡ true in subst F same parts.0);
            number = refl;
          }
      | inr t ↦
          let p = start_place view zero call (rw t at h) in
          record { before = (c, reply) ∷ p.before; after = p.after; whole = ap (λ v. (c, reply) ∷ v) p.whole; starting = p.starting; number = rw t p.number }
    ]
start_place ((c, reply) ∷ view) (suc k) call h =
    elim (test_cases (is_start (c, reply))) [
      | inl t ↦
          let p = start_place view k call (rw t at h) in
          record { before = (c, reply) ∷ p.before; after = p.after; whole = ap (λ v. (c, reply) ∷ v) p.whole; starting = p.starting; number = rw t (ap suc p.number) }
      | inr t ↦
          let p = start_place view (suc k) call (rw t at h) in
          record { before = (c, reply) ∷ p.before; after = p.after; whole = ap (λ v. (c, reply) ∷ v) p.whole; starting = p.starting; number = rw t p.number }
    ]

slice_get-seam : (xs ys : List Event) (x : Event) → slice_get (xs ++ x ∷ ys) (length xs) ≡ Some x
slice_get-seam [] ys x = refl
slice_get-seam (y ∷ xs) ys x = slice_get-seam xs ys x

seam_name : (before ys : List Event) (event : Event) → is_start (event.call, event.reply) ≡ true
    → name_at (before ++ event ∷ ys) (length before) ≡ Some (new_name before event)
seam_name before ys event t = rw (take-append_seam before (event ∷ ys), slice_get-seam before ys event, t) refl

-- each start has a position
pub name_position : (events : List Event) (name : Name) (call : Call) → named events name ≡ Some call → (at : ℕ) × (name_at events at ≡ Some name)
name_position events name call h =
    let p = start_place (view_of events name.0) name.1 call h in
    let q = place events name.0 p.before call Done p.after p.whole in
    let is : Call → Reply → Type 0 = λ a b. is_start (a, b) ≡ true in
    let here : is call Done = rw p.starting in
    let moved : is q.event.call Done = (let F : Call → Type 0 = λ a. is a Done in subst F (sym q.call_is) here) in
    let starts : is q.event.call q.event.reply = (let F : Reply → Type 0 = λ b. is q.event.call b in subst F (sym q.reply_is) moved) in
    let pair : ℕ → ℕ → Name = λ x y. (x, y) in
    let count : ℕ → ℕ = λ r. length (starts_of (view_of q.before r)) in
    let number : count name.0 ≡ name.1 = ap (λ (v : View). length (starts_of v)) q.view_is ∙ p.number in
    let name_is : new_name q.before q.event ≡ name = ap (λ r. pair r (count r)) q.rank_is ∙ ap (pair name.0) number in
    (length q.before, ap (λ l. name_at l (length q.before)) q.whole ∙ (seam_name q.before q.after q.event starts ∙ ap (λ (m : Name). Some m) name_is))
