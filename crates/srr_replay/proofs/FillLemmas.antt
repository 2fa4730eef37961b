-- Replies that are made piece by piece.
use Rattle.std.proofs.Common.{◌≡◌, ℕ, ℤ, List, [], ◌∷◌, ◌++◌, refl, sym, ap, append_assoc, Result, Ok, Err}
use Rattle.mpi_call.specs.declared.reply.Got.{Got}
use Rattle.mpi_call.specs.declared.reply.Item.{Item}
use Rattle.run_model.specs.Inputs.{push_ints}
use Rattle.replay_model.specs.declared.step.Missing.{Missing}
use Rattle.replay_model.specs.Filling.{push_item}

-- items before those of the others
abbrev pub items_before : List Item → Result (List Item) Missing → Result (List Item) Missing
items_before items (Ok others) = Ok (items ++ others)
items_before items (Err missing) = Err missing

pub items_before-none : (rest : Result (List Item) Missing) → items_before [] rest ≡ rest
items_before-none (Ok others) = refl
items_before-none (Err missing) = refl

pub items_before-more : (items : List Item) (index : ℕ) (first : Result Got Missing) (got : Got) (rest : Result (List Item) Missing) → first ≡ Ok got → items_before items (push_item index first rest) ≡ items_before (items ++ (record { index = index; got = got }) ∷ []) rest
items_before-more items index (Ok other) got (Ok others) is =
    let same : other ≡ got = cc in
    rw same (ap (λ all. Ok all) (sym (append_assoc items ((record { index = index; got = got }) ∷ []) others)))
items_before-more items index (Ok other) got (Err missing) is = refl
items_before-more items index (Err missing) got rest is = absurd (cc)

-- inputs before those of the others
abbrev pub inputs_before : List (List ℤ) → Result (List (List ℤ)) ℕ → Result (List (List ℤ)) ℕ
inputs_before inputs (Ok others) = Ok (inputs ++ others)
inputs_before inputs (Err member) = Err member

pub inputs_before-none : (rest : Result (List (List ℤ)) ℕ) → inputs_before [] rest ≡ rest
inputs_before-none (Ok others) = refl
inputs_before-none (Err member) = refl

pub inputs_before-more : (inputs : List (List ℤ)) (ints : List ℤ) (rest : Result (List (List ℤ)) ℕ) → inputs_before inputs (push_ints ints rest) ≡ inputs_before (inputs ++ ints ∷ []) rest
inputs_before-more inputs ints (Ok others) = ap (λ all. Ok all) (sym (append_assoc inputs (ints ∷ []) others))
inputs_before-more inputs ints (Err member) = refl
