-- How the digits of a number fill a buffer from its end.
use Rattle.std.proofs.Common.{◌≡◌, ℕ, ◌+◌, ◌-◌, ◌/◌, ◌%◌, ◌^◌, ◌<◌, ◌≤◌, List, [], ◌∷◌, ◌++◌, length, drop, set, refl, sym, ◌∙◌, ap, arith, append_assoc, length-append}
use Rattle.std.proofs.lemmas.List.{drop-set, append-nil}
use Rattle.std.proofs.Math.Seq.{drop-length}
use Rattle.wiz_base.specs.Decimals.{decimal_text}
use Rattle.wiz_base.proofs.DecimalLaws.{decimal_text-digit, decimal_text-step, decimal_text-nonempty, length-decimal_text-le}

-- 20 digits are enough
pub first_fits : (value room : ℕ) → value < 2 ^ 64 → 20 < room → length (decimal_text value) ≤ room - 1
first_fits value room below enough = omega (arith, length-decimal_text-le 20 value (omega arith) (omega arith))

-- nothing is written at first
pub all_written : (value : ℕ) (room : List ℕ) → 20 < length room → decimal_text value ++ drop (length room - 1 + 1) room ≡ decimal_text value
all_written value room enough =
    let end : length room - 1 + 1 ≡ length room = omega arith in
    rw (end, drop-length room) (append-nil (decimal_text value))

pub above_one : (left at : ℕ) → length (decimal_text left) ≤ at → 0 < at
above_one left at fits = omega (arith, decimal_text-nonempty left)

pub digit_fits : (left at : ℕ) → 10 ≤ left → length (decimal_text left) ≤ at → length (decimal_text (left / 10)) ≤ at - 1
digit_fits left at above fits =
    let more : length (decimal_text left) ≡ length (decimal_text (left / 10)) + 1 =
    ap length (decimal_text-step left above) ∙ length-append (decimal_text (left / 10)) ((48 + left % 10) ∷ []) in
    omega arith

-- one digit more
pub digit_written : (left at : ℕ) (room text : List ℕ) → 10 ≤ left → 0 < at → at < length room → decimal_text left ++ drop (at + 1) room ≡ text
    → decimal_text (left / 10) ++ drop (at - 1 + 1) (set room at (48 + left % 10)) ≡ text
digit_written left at room text above some within written =
    let here : at - 1 + 1 ≡ at = omega arith in
    rw (here, drop-set room at (48 + left % 10) within, ← written, decimal_text-step left above)
    (sym (append_assoc (decimal_text (left / 10)) ((48 + left % 10) ∷ []) (drop (at + 1) room)))

-- and the last one
pub last_written : (left at : ℕ) (room text : List ℕ) → left < 10 → at < length room → decimal_text left ++ drop (at + 1) room ≡ text
    → drop at (set room at (48 + left)) ≡ text
last_written left at room text below within written =
    rw (drop-set room at (48 + left) within, ← written, decimal_text-digit left below) refl
