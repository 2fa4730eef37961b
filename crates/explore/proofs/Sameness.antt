-- Whether codes, and whether what ranks printed, are the same.
use Rattle.std.proofs.Common.{◌≡◌, ◌&&◌, Bool, MatchBool, true, false, ℕ, ℤ, List, ap, nat_eq, int_eq, refl}
use Rattle.std.specs.Bool.{Decides}
use Rattle.std.specs.Cmp.Lexicographic.{pointwise}
use Rattle.std.proofs.lemmas.Bool.Decides.{Decides-and, Decides-eqb, Decides-int_eq, Decides-like}
use Rattle.std.proofs.lemmas.Slice.Eq.{bytes_eq-Decides, slice_eq-Decides}

pub ints_same : (xs ys : List ℤ) → pointwise int_eq xs ys ≡ true → xs ≡ ys
ints_same xs ys h = (slice_eq-Decides Decides-int_eq xs ys (pointwise int_eq xs ys) refl).0 h

abbrev pub printed_eq : ℕ × List ℕ → ℕ × List ℕ → Bool
printed_eq one other = nat_eq one.0 other.0 && pointwise nat_eq one.1 other.1

one_decides : (one other : ℕ × List ℕ) → Decides (printed_eq one other) (one ≡ other)
one_decides (rank, bytes) (rank', bytes') =
    Decides-like _ (λ h. (let a = h.0 in let b = h.1 in cc)) (λ e. (ap (λ (p : ℕ × List ℕ). p.0) e, ap (λ (p : ℕ × List ℕ). p.1) e))
    (Decides-and _ _ (Decides-eqb rank rank') (bytes_eq-Decides bytes bytes'))

pub tells : {P : Type 0} (b : Bool) → Decides b P → MatchBool b P (P → ⊥)
tells true d = d.0 refl
tells false d = (λ p. (let no : false ≡ true = d.1 p in cc))

pub printed_tells : (one other : List (ℕ × List ℕ)) (said : Bool) → said ≡ pointwise printed_eq one other → MatchBool said (one ≡ other) (one ≡ other → ⊥)
printed_tells one other said is = tells said (slice_eq-Decides one_decides one other said is)
