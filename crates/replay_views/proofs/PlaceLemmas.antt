-- The places of a message, call by call.
use Rattle.std.proofs.Common.{◌≡◌, ◌∙◌, ◌+◌, ◌≤◌, ◌++◌, ◌∷◌, ℕ, List, [], Some, ap, append_assoc, arith, flat_map, inl, inr, length, length-append, refl, slice_get, sym, take}
use Rattle.std.proofs.lemmas.List.{append-nil}
use Rattle.mpi_call.specs.declared.call.Call.{Call}
use Rattle.mpi_call.specs.declared.reply.Reply.{Reply}
use Rattle.msg_races.specs.declared.names.Name.{Name}
use Rattle.run_model.specs.Lists.{world}
use Rattle.run_model.specs.Views.{View, is_start, starts_of}
use Rattle.run_model.proofs.StartLemmas.{starts_of-append}
use Rattle.run_model.proofs.Views.{test_cases}
use Rattle.replay_views.specs.Places.{MessagePlace, place_at, place_of_seen, place_with, places_in_view, role_of}
use Rattle.replay_views.proofs.GivenLemmas.{parts_more}
use Rattle.replay_views.proofs.WatchLemmas.{calls_before}

-- the places so far: of the calls before this number, which made so many starts
pub record PlacedSoFar (name : Name) (rank : ℕ) (view left : View) (number made : ℕ) (first places : List MessagePlace) : Type 0 where
  pub before : View
  pub parts : before ++ left ≡ view
  pub count : number ≡ length before
  pub made_is : made ≡ length (starts_of before)
  pub places_are : places ++ flat_map (place_at name rank view) (world (length left) number) ≡ first ++ places_in_view name rank view

seam : (before left : View) (seen : Call × Reply) → slice_get (before ++ seen ∷ left) (length before) ≡ Some seen
seam [] left seen = refl
seam (x ∷ before) left seen = seam before left seen

call_at : (before left view : View) (number : ℕ) (seen : Call × Reply) → before ++ seen ∷ left ≡ view → number ≡ length before → slice_get view number ≡ Some seen
call_at before left view number seen parts count =
    ap (λ (k : ℕ). slice_get view k) count ∙ ap (λ (v : View). slice_get v (length before)) (sym parts) ∙ seam before left seen

-- the place at the next call
place_is : (name : Name) (rank : ℕ) (before left view : View) (number made : ℕ) (call : Call) (reply : Reply) → before ++ (call, reply) ∷ left ≡ view
    → number ≡ length before → made ≡ length (starts_of before)
    → place_with rank number (call, reply) (role_of name rank made (call, reply)) ≡ place_at name rank view number
place_is name rank before left view number made call reply parts count made_is =
    let front = calls_before before ((call, reply) ∷ left) view number parts count in
    let here = call_at before left view number (call, reply) parts count in
    ap (λ (m : ℕ). place_with rank number (call, reply) (role_of name rank m (call, reply))) (made_is ∙ ap (λ (v : View). length (starts_of v)) (sym front))
    ∙ ap (place_of_seen name rank number (length (starts_of (take number view)))) (sym here)

pub placed_more : (name : Name) (rank : ℕ) (view left : View) (call : Call) (reply : Reply) (number more made made' : ℕ) (first places places' : List MessagePlace)
    → PlacedSoFar name rank view ((call, reply) ∷ left) number made first places
    → places' ≡ places ++ place_with rank number (call, reply) (role_of name rank made (call, reply)) → more ≡ number + 1
    → made' ≡ made + length (starts_of ((call, reply) ∷ [])) → PlacedSoFar name rank view left more made' first places'
placed_more name rank view left call reply number more made made' first places places' so_far places_is more_is made_is =
    let same = place_is name rank so_far.before left view number made call reply so_far.parts so_far.count so_far.made_is in
    let length_is = length-append so_far.before ((call, reply) ∷ []) in
    let count_is = so_far.count in
    let starts = ap length (starts_of-append so_far.before ((call, reply) ∷ [])) in
    let starts_length = length-append (starts_of so_far.before) (starts_of ((call, reply) ∷ [])) in
    let before_is = so_far.made_is in
    record {
      before = so_far.before ++ (call, reply) ∷ [];
      parts = parts_more so_far.before left view call reply so_far.parts;
      count = omega (arith, length_is, count_is, more_is);
      made_is = omega (arith, starts, starts_length, before_is, made_is);
      places_are =
          ap (λ (l : List MessagePlace). l ++ flat_map (place_at name rank view) (world (length left) more)) (places_is ∙ ap (λ (l : List MessagePlace). places ++ l) same)
          ∙ append_assoc places (place_at name rank view number) (flat_map (place_at name rank view) (world (length left) more))
          ∙ ap (λ (m : ℕ). places ++ (place_at name rank view number ++ flat_map (place_at name rank view) (world (length left) m))) more_is
          ∙ so_far.places_are;
    }

pub placed_none : (name : Name) (rank : ℕ) (view : View) (places : List MessagePlace) → PlacedSoFar name rank view view 0 0 places places
placed_none name rank view places = record { before = []; parts = refl; count = refl; made_is = refl; places_are = refl }

pub placed_all : (name : Name) (rank : ℕ) (view : View) (number made : ℕ) (first places : List MessagePlace) → PlacedSoFar name rank view [] number made first places
    → places ≡ first ++ places_in_view name rank view
placed_all name rank view number made first places so_far = sym (append-nil places) ∙ so_far.places_are

-- a rank made no more starts than calls
few_starts : (view : View) → length (starts_of view) ≤ length view
few_starts [] = omega arith
few_starts (seen ∷ view) =
    elim (test_cases (is_start seen)) [
      | inl h ↦ rw h (let rest = few_starts view in omega (arith, rest))
      | inr h ↦ rw h (let rest = few_starts view in omega (arith, rest))
    ]

-- there is room for one number more, and for one start
pub number_room : (name : Name) (rank : ℕ) (view left : View) (number made : ℕ) (first places : List MessagePlace) → PlacedSoFar name rank view left number made first places
    → number + length left ≤ length view
number_room name rank view left number made first places so_far =
    let all = ap length so_far.parts in
    let length_is = length-append so_far.before left in
    let count_is = so_far.count in
    omega (arith, all, length_is, count_is)

pub made_room : (name : Name) (rank : ℕ) (view left : View) (number made : ℕ) (first places : List MessagePlace) → PlacedSoFar name rank view left number made first places
    → made + length left ≤ length view
made_room name rank view left number made first places so_far =
    let few = few_starts so_far.before in
    let within = number_room name rank view left number made first places so_far in
    let count_is = so_far.count in
    let made_is = so_far.made_is in
    omega (arith, few, within, count_is, made_is)
