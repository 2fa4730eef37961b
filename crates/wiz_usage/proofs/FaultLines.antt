-- The line that is shown is that of the text's fault, and a fault has one.
use Rattle.std.proofs.Common.{◌≡◌, ◌≤◌, ◌==◌, ◌⊎◌, ℕ, suc, List, Option, Some, None, Result, Ok, Err, IfOk, MatchOption, ap, arith, count_by, inl, inr, length, refl, take}
use Rattle.c_lex.specs.NoMemory.{no_memory_fault}
use Rattle.c_lex.specs.Places.{IsPlaceOf}
use Rattle.c_lex.specs.declared.fault.SourceFault.{SourceFault}
use Rattle.c_lex.specs.declared.fault.Why.TheVariants.{NoMemory}
use Rattle.c_lex.specs.declared.limits.TheConstants.{MOST_BYTES}
use Rattle.c_types.specs.Checks.{IsFaultOf}
use Rattle.c_types.specs.Checks as checks
use Rattle.wiz_usage.specs.Marks.{IsLineOf, IsMarked}
use Rattle.wiz_usage.proofs.LineLaws.{same_line}
use Rattle.wiz_usage.proofs.PlaceLines.{line_of_place}

place_line : (text : List ℕ) (place line column : ℕ) → IsPlaceOf text place line column → (found : List ℕ) × IsLineOf text line found
place_line text place line column is =
    let found = line_of_place text place in
    (found.0, same_line text text (suc (count_by (λ byte. byte == 10) (take place text))) line found.0 refl (omega (arith, is.line_is)) found.1)

fault_has_line : (text : List ℕ) (fault : SourceFault) → IsFaultOf text fault → (found : List ℕ) × IsLineOf text fault.line found
fault_has_line text fault (checks.of_tokens (place, reads, is)) = place_line text place fault.line fault.column is
fault_has_line text fault (checks.of_tree tokens lexed (rest, syntax, is)) = place_line text _ fault.line fault.column is
fault_has_line text fault (checks.of_types tokens tree lexed parsed first) = place_line text _ fault.line fault.column first.place

of_a_fault : (text : List ℕ) (fault : SourceFault) (shown : Option (List ℕ)) → (fault.why ≡ NoMemory → ⊥)
    → (fault ≡ no_memory_fault) ⊎ IsFaultOf text fault
    → MatchOption shown ((line : List ℕ) → IsLineOf text fault.line line → ⊥) (IsMarked text fault.line fault.column)
    → MatchOption shown (length text ≤ MOST_BYTES → (found : SourceFault) → IsFaultOf text found → ⊥)
    (λ line. (found : SourceFault) × IsFaultOf text found × IsMarked text found.line found.column line)
of_a_fault text fault shown known (inl memory) marked = absurd (known (ap (λ (fault : SourceFault). fault.why) memory))
of_a_fault text fault None known (inr is) marked = let line = fault_has_line text fault is in absurd (marked line.0 line.1)
of_a_fault text fault (Some line) known (inr is) marked = (fault, is, marked)

pub of_the_fault : {E : Type 0} (text : List ℕ) (fault : SourceFault) (result : Result (Option (List ℕ)) E) → (fault.why ≡ NoMemory → ⊥)
    → (fault ≡ no_memory_fault) ⊎ IsFaultOf text fault
    → IfOk result (λ shown. MatchOption shown ((line : List ℕ) → IsLineOf text fault.line line → ⊥) (IsMarked text fault.line fault.column))
    → IfOk result
    (λ shown. MatchOption shown (length text ≤ MOST_BYTES → (found : SourceFault) → IsFaultOf text found → ⊥)
    (λ line. (found : SourceFault) × IsFaultOf text found × IsMarked text found.line found.column line))
of_the_fault text fault (Ok shown) known told marked = of_a_fault text fault shown known told marked
of_the_fault text fault (Err e) known told marked = tt
