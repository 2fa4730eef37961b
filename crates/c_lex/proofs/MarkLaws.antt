-- A mark ends within the text.
use Rattle.std.proofs.Common.{◌≡◌, ℕ, ◌+◌, ◌≤◌, Bool, true, false, List, [], ◌∷◌, length, drop, slice_index, refl, ap, ◌∙◌, arith, length-drop}
use Rattle.std.specs.Prelude.{if◌then◌else◌, nat_eq, take, min}
use Rattle.std.specs.List.{starts_with}
use Rattle.std.proofs.lemmas.List.{get_or_past, length-take}
use Rattle.std.proofs.lemmas.Slice.Eq.{bytes_eq-Decides}
use Rattle.c_lex.specs.Marks.{marks, first_length, mark_length}

-- after a text's end there are zeros
pub past_is_zero : (text : List ℕ) (k : ℕ) → length text ≤ k → slice_index text k ≡ 0
past_is_zero text k past = get_or_past text k 0 past

-- a list that is another's front is no longer
pointwise_short : (mark rest : List ℕ) → starts_with nat_eq rest mark ≡ true → length mark ≤ length rest
pointwise_short mark rest h =
    let e : mark ≡ take (length mark) rest = (bytes_eq-Decides mark (take (length mark) rest)).0 h in
    let lengths : length mark ≡ min (length mark) (length rest) = ap length e ∙ length-take (length mark) rest in
    omega arith

one_more : (a : Bool) (m n len : ℕ) → (a ≡ true → m ≤ len) → n ≤ len → (if a then m else n) ≤ len
one_more true m n len fits rest = fits refl
one_more false m n len fits rest = rest

first_length-le : (list : List (List ℕ)) (rest : List ℕ) → first_length list rest ≤ length rest
first_length-le [] rest = omega arith
first_length-le (mark ∷ others) rest =
    one_more _ (length mark) _ (length rest) (λ t. pointwise_short mark rest t) (first_length-le others rest)

pub mark_length-within : (text : List ℕ) (at : ℕ) → at ≤ length text → at + mark_length text at ≤ length text
unfolding mark_length
mark_length-within text at low =
    let fits = first_length-le marks (drop at text) in
    let rest = length-drop at text in
    omega arith
