-- Codes of lists, as their functions make them.
use Rattle.std.proofs.Common.{◌≡◌, ◌==◌, ◌+◌, ◌∙◌, ◌++◌, ◌∷◌, inl, inr, ℕ, zero, suc, ℤ, pos, List, [], Some, slice_get, take, append-nil, append_assoc, arith, length, map, refl, ap, sym}
use Rattle.run_model.specs.declared.event.Event.{Event}
use Rattle.run_model.specs.Lists.{world}
use Rattle.run_model.specs.Pairs.{Name, pairs_of, partner_of}
use Rattle.run_model.specs.Views.{is_start, starts_of, view_of}
use Rattle.run_model.proofs.CommunicatorLaws.{world-last}
use Rattle.run_model.proofs.Views.{test_cases}
use Rattle.run_states.specs.Codes.{code_of_list, code_of_partner, codes_of}
use Rattle.run_states.specs.Keys.{partners_in}

-- the codes of a list and of one more
pub codes_more : {A : Type 0} (code : A → List ℤ) (xs : List A) (x : A) → codes_of code (xs ++ x ∷ []) ≡ codes_of code xs ++ code x
codes_more code [] x = append-nil (code x)
codes_more code (y ∷ xs) x = ap (λ l. code y ++ l) (codes_more code xs x) ∙ sym (append_assoc (code y) (codes_of code xs) (code x))

map_last : {A B : Type 0} (f : A → B) (xs : List A) (x : A) → map f (xs ++ x ∷ []) ≡ map f xs ++ f x ∷ []
map_last f [] x = refl
map_last f (y ∷ xs) x = ap (λ l. f y ∷ l) (map_last f xs x)

-- the codes of what a function makes of these numbers, and of the next one
pub codes_next : {A : Type 0} (code : A → List ℤ) (f : ℕ → A) (count : ℕ)
    → codes_of code (map f (world (count + 1) 0)) ≡ codes_of code (map f (world count 0)) ++ code (f count)
codes_next code f count =
    ap (λ l. codes_of code (map f l)) (world-last count) ∙ (ap (codes_of code) (map_last f (world count 0) count) ∙ codes_more code (map f (world count 0)) (f count))

-- a row that grew by a code, when it stood behind others
pub row_more : (first xs ys zs ws : List ℤ) → xs ≡ first ++ zs → ys ≡ xs ++ ws → ys ≡ first ++ (zs ++ ws)
row_more first xs ys zs ws a b = b ∙ (ap (λ l. l ++ ws) a ∙ append_assoc first zs ws)

-- the starts of an event and of those behind it
pub starts_front : (event : Event) (after : List Event) (rank : ℕ)
    → length (starts_of (view_of (event ∷ after) rank)) ≡ length (starts_of (view_of (event ∷ []) rank)) + length (starts_of (view_of after rank))
starts_front event after rank =
    elim (test_cases (event.rank == rank)) [
      | inl t ↦ rw t (elim (test_cases (is_start (event.call, event.reply))) [
        | inl s ↦ rw s (omega arith)
        | inr s ↦ rw s (omega arith)
      ])
      | inr f ↦ rw f (omega arith)
    ]

length_made : {A : Type 0} (f : ℕ → A) (count from : ℕ) → length (map f (world count from)) ≡ count
length_made f zero from = refl
length_made f (suc count) from = ap suc (length_made f count (from + 1))

-- how many numbers there are, and the codes of what a function makes of them
pub list_made : {A : Type 0} (code : A → List ℤ) (f : ℕ → A) (count : ℕ) → pos count ∷ codes_of code (map f (world count 0)) ≡ code_of_list code (map f (world count 0))
list_made code f count = ap (λ m. pos m ∷ codes_of code (map f (world count 0))) (sym (length_made f count 0))

-- the partners of a rank's starts
pub rank_row : (pairs : List (Name × Name)) (events : List Event) (rank count : ℕ) → pairs ≡ pairs_of events → count ≡ length (starts_of (view_of events rank))
    → pos count ∷ codes_of code_of_partner (map (λ k. partner_of pairs (rank, k)) (world count 0)) ≡ code_of_list code_of_partner (partners_in events rank)
rank_row pairs events rank count same many =
    let F : List (Name × Name) → ℕ → List ℤ = λ p c. pos c ∷ codes_of code_of_partner (map (λ k. partner_of p (rank, k)) (world c 0)) in
    ap (λ p. F p count) same ∙ (ap (F (pairs_of events)) many
    ∙ list_made code_of_partner (λ k. partner_of (pairs_of events) (rank, k)) (length (starts_of (view_of events rank))))

-- a row that grew by a number and by what stands behind it
pub row_two : (xs ys zs ws : List ℤ) (x : ℤ) → ys ≡ xs ++ x ∷ [] → zs ≡ ys ++ ws → zs ≡ xs ++ x ∷ ws
row_two xs ys zs ws x a b = b ∙ (ap (λ l. l ++ ws) a ∙ append_assoc xs (x ∷ []) ws)

-- the events up to a place, and the one there
pub next_taken : (events : List Event) (at : ℕ) (event : Event) → slice_get events at ≡ Some event → take (at + 1) events ≡ take at events ++ event ∷ []
next_taken events at event h =
    let next : at + 1 ≡ suc at = omega arith in
    ap (λ k. take k events) next ∙ longer events at event h
  where
    longer : (events : List Event) (at : ℕ) (event : Event) → slice_get events at ≡ Some event → take (suc at) events ≡ take at events ++ event ∷ []
    longer [] at event h = absurd (cc)
    longer (x ∷ events) zero event h = (let same : x ≡ event = cc in ap (λ (e : Event). e ∷ []) same)
    longer (x ∷ events) (suc at) event h = ap (λ (l : List Event). x ∷ l) (longer events at event h)
