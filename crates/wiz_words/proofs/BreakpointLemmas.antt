-- Where the colon of R:C and the point of S.K stand.
use Rattle.std.proofs.Common.{◌≡◌, ◌≢◌, ◌+◌, refl, true, ℕ, ◌<◌, List, ◌∷◌, ◌++◌, length, get_or, arith, length-append}
use Rattle.std.specs.Prelude.{◌==◌}
use Rattle.std.specs.List.{after_first, before_first, position_or_len}
use Rattle.std.proofs.lemmas.List.Sums.{position_or_len_is}
use Rattle.std.proofs.lemmas.List.{get_or_append_left}
use Rattle.std.proofs.lemmas.Bool.{eq-eqb, ne_eqb}
use Rattle.std.proofs.Math.Seq.{get_or-append_seam}
use Rattle.clap.proofs.CutLemmas.{after_first-at, before_first-at}
use Rattle.std.specs.Char.{IsAsciiDigit}
use Rattle.wiz_base.specs.Decimals.{decimal_text}
use Rattle.wiz_base.proofs.DecimalLaws.{decimal_text-excludes}

-- a mark that is no digit
abbrev pub IsNoDigit : ℕ → Type 0
IsNoDigit mark = IsAsciiDigit mark → ⊥

no_mark : (mark : ℕ) → IsNoDigit mark → (n : ℕ) (i : ℕ) → i < length (decimal_text n) → get_or (decimal_text n) i 0 ≢ mark
no_mark mark apart n i below = decimal_text-excludes n mark apart i 0 below

pub mark_stands : (mark : ℕ) → IsNoDigit mark → (rank call : ℕ) (text : List ℕ) → text ≡ decimal_text rank ++ mark ∷ decimal_text call
    → position_or_len (λ b. b == mark) text < length text
mark_stands mark apart rank call text is =
    let n = length (decimal_text rank) in
    let len : length (decimal_text rank ++ mark ∷ decimal_text call) ≡ n + length (mark ∷ decimal_text call) = length-append (decimal_text rank) _ in
    let here : (mark == mark) ≡ true = eq-eqb mark mark refl in
    let at = position_or_len_is (λ b. b == mark) (decimal_text rank ++ mark ∷ decimal_text call) n 0 (omega (arith, len))
    (λ k below. rw (get_or_append_left (decimal_text rank) (mark ∷ decimal_text call) 0 k below) (ne_eqb _ mark (no_mark mark apart rank k below)))
    (λ below. rw (get_or-append_seam (decimal_text rank) mark (decimal_text call) 0) here) in
    rw (is, at) (omega (arith, len))

pub rank_before : (mark : ℕ) → IsNoDigit mark → (rank call : ℕ) (text : List ℕ) → text ≡ decimal_text rank ++ mark ∷ decimal_text call
    → before_first (λ b. b == mark) text ≡ decimal_text rank
rank_before mark apart rank call text is = rw is (before_first-at mark (decimal_text rank) (decimal_text call) (no_mark mark apart rank))

pub call_after : (mark : ℕ) → IsNoDigit mark → (rank call : ℕ) (text : List ℕ) → text ≡ decimal_text rank ++ mark ∷ decimal_text call
    → after_first (λ b. b == mark) text ≡ decimal_text call
call_after mark apart rank call text is = rw is (after_first-at mark (decimal_text rank) (decimal_text call) (no_mark mark apart rank))
