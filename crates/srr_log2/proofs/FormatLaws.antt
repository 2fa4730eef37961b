-- One reading of a text in either format.
use Rattle.std.proofs.Common.{◌≡◌, ◌∙◌, ◌⊎◌, ℕ, List, [], ◌++◌, Bool, true, false, ap, get_or, inl, inr, refl, sym, arith}
use Rattle.srr_entry.specs.declared.log.Log.{Log}
use Rattle.srr_log.specs.declared.fault.LogFault.{LogFault}
use Rattle.std.proofs.lemmas.Bool.{cases_Bool}
use Rattle.srr_log.proofs.FaultLaws as one
use Rattle.srr_log.proofs.LogOrFault as each
use Rattle.srr_log.specs.LogText.{IsLogText, log_text}
use Rattle.srr_log2.specs.Formats.{IsFaultOfLog, IsTextOfLog, is_format2}
use Rattle.srr_log2.specs.LogBytes.{AreLogBytes, body_bytes, log_bytes}
use Rattle.srr_log2.proofs.GroupExact as two
use Rattle.srr_log2.proofs.ReadLaws.{one_fault}

-- the fifth byte is the format's number
text_of_1 : (log : Log) → is_format2 (log_text log) ≡ false
text_of_1 log = refl

text_of_2 : (log : Log) → is_format2 (log_bytes log) ≡ true
unfolding body_bytes
text_of_2 log = refl

pub is_1 : (text : List ℕ) (log : Log) → IsLogText text log → is_format2 text ≡ false
is_1 text log is = ap is_format2 is.0 ∙ text_of_1 log

pub is_2 : (text : List ℕ) (log : Log) → AreLogBytes text log → is_format2 text ≡ true
is_2 text log is = ap is_format2 is.0 ∙ text_of_2 log

-- whatever comes after a text, in the other format it is none
text_then : (log other : Log) (more : List ℕ) → log_text log ++ more ≡ log_bytes other → ⊥
unfolding body_bytes
text_then log other more e = let byte : ◌≡◌ {A = ℕ} 49 50 = ap (λ xs. get_or xs 4 0) e in absurd (omega arith)

bytes_then : (log other : Log) (more : List ℕ) → log_bytes log ++ more ≡ log_text other → ⊥
unfolding body_bytes
bytes_then log other more e = let byte : ◌≡◌ {A = ℕ} 50 49 = ap (λ xs. get_or xs 4 0) e in absurd (omega arith)

pub differ : (b : Bool) → b ≡ true → b ≡ false → ⊥
differ b is_so is_not = absurd (cc)

pub alone : (text more : List ℕ) (log other : Log) → IsTextOfLog text log → IsTextOfLog (text ++ more) other → (log ≡ other) × (more ≡ [])
alone text more log other (inl is) (inl is') = one.no_beginning log other more is.1 is'.1 (ap (λ xs. xs ++ more) (sym is.0) ∙ is'.0)
alone text more log other (inl is) (inr is') = absurd (text_then log other more (ap (λ xs. xs ++ more) (sym is.0) ∙ is'.0))
alone text more log other (inr is) (inl is') = absurd (bytes_then log other more (ap (λ xs. xs ++ more) (sym is.0) ∙ is'.0))
alone text more log other (inr is) (inr is') = two.no_beginning log other more is.1 is'.1 (ap (λ xs. xs ++ more) (sym is.0) ∙ is'.0)

-- a text has one log
pub one_log : (text : List ℕ) (log other : Log) → IsTextOfLog text log → IsTextOfLog text other → log ≡ other
one_log text log other (inl is) (inl is') = one.one_log text log other is is'
one_log text log other (inl is) (inr is') = absurd (differ (is_format2 text) (is_2 text other is') (is_1 text log is))
one_log text log other (inr is) (inl is') = absurd (differ (is_format2 text) (is_2 text log is) (is_1 text other is'))
one_log text log other (inr is) (inr is') = two.same_log text log other is is'

-- or one first fault
pub one_first_fault : (text : List ℕ) (fault other : LogFault) → IsFaultOfLog text fault → IsFaultOfLog text other → fault ≡ other
one_first_fault text fault other (inl is) (inl is') = one.one_first_fault text fault other is.1 is'.1
one_first_fault text fault other (inl is) (inr is') = absurd (differ (is_format2 text) is'.0 is.0)
one_first_fault text fault other (inr is) (inl is') = absurd (differ (is_format2 text) is.0 is'.0)
one_first_fault text fault other (inr is) (inr is') = one_fault text fault other is.1 is'.1

-- never both
pub never_both : (text : List ℕ) (log : Log) (fault : LogFault) → IsTextOfLog text log → IsFaultOfLog text fault → ⊥
never_both text log fault (inl is) (inl is') = one.fault_or_log text log fault is is'.1
never_both text log fault (inl is) (inr is') = differ (is_format2 text) is'.0 (is_1 text log is)
never_both text log fault (inr is) (inl is') = differ (is_format2 text) (is_2 text log is) is'.0
never_both text log fault (inr is) (inr is') = two.fault_or_log text log fault is is'.1

-- always one of both
pub log_or_fault : (text : List ℕ) → ((log : Log) × IsTextOfLog text log) ⊎ ((fault : LogFault) × IsFaultOfLog text fault)
log_or_fault text =
    elim (cases_Bool (is_format2 text)) [
      | inl chosen ↦ elim (two.either text) [
        | inl found ↦ inl (found.0, inr found.1)
        | inr first ↦ inr (first.0, inr (chosen, first.1))
      ]
      | inr other ↦ elim (each.log_or_fault text) [
        | inl found ↦ inl (found.0, inl found.1)
        | inr first ↦ inr (first.0, inl (other, first.1))
      ]
    ]
