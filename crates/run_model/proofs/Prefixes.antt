-- Lists that begin others, and views that go on.
use Rattle.std.proofs.Common.{◌++◌, ◌∷◌, ◌≡◌, List, [], append-nil, append_assoc, refl, sym, ℕ}
use Rattle.run_model.specs.declared.event.Event.{Event}
use Rattle.run_model.specs.Lists.{IsPrefixOf}
use Rattle.run_model.specs.Views.{View, view_of}
use Rattle.run_model.proofs.Views.{view_of-append}

-- each rank has seen, in the second, all that it has in the first
abbrev pub Begins : (ℕ → View) → (ℕ → View) → Type 0
Begins V W = (rank : ℕ) → IsPrefixOf (V rank) (W rank)

pub prefix_refl : {A : Type 0} (xs : List A) → IsPrefixOf xs xs
prefix_refl xs = ([], append-nil xs)

pub prefix_append : {A : Type 0} (xs ys : List A) → IsPrefixOf xs (xs ++ ys)
prefix_append xs ys = (ys, refl)

pub prefix_trans : {A : Type 0} (xs ys zs : List A) → IsPrefixOf xs ys → IsPrefixOf ys zs → IsPrefixOf xs zs
prefix_trans xs ys zs p q = (p.0 ++ q.0, rw (← append_assoc, p.1, q.1))

pub Begins-more : (before events : List Event) → Begins (view_of before) (view_of (before ++ events))
Begins-more before events rank = (view_of events rank, sym (view_of-append before events rank))

pub append-nil_left : {A : Type 0} (xs ys : List A) → xs ++ ys ≡ [] → xs ≡ []
append-nil_left [] ys h = refl
append-nil_left (x ∷ xs) ys h = absurd (cc)

pub append-same : {A : Type 0} (xs ys : List A) → xs ++ ys ≡ xs → ys ≡ []
append-same [] ys h = h
append-same (x ∷ xs) ys h = append-same xs ys (cc)

pub prefix-both : {A : Type 0} (xs ys : List A) → IsPrefixOf xs ys → IsPrefixOf ys xs → xs ≡ ys
prefix-both xs ys p q =
    let rest : p.0 ++ q.0 ≡ [] = append-same xs (p.0 ++ q.0) (rw (← append_assoc, p.1) q.1) in
    let none : p.0 ≡ [] = append-nil_left p.0 q.0 rest in
    rw (← append-nil xs, ← none) p.1

pub append-cancel : {A : Type 0} (xs ys zs : List A) → xs ++ ys ≡ xs ++ zs → ys ≡ zs
append-cancel [] ys zs h = h
append-cancel (x ∷ xs) ys zs h = append-cancel xs ys zs (cc)
