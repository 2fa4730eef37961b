-- The group's field, both ways, and with it the whole.
use Rattle.std.proofs.Common.{◌≡◌, ℕ, ◌^◌, ◌<◌, ◌≤◌, ◌⊎◌, inl, inr, List, [], ◌∷◌, ◌++◌, refl, sym, ap, subst, ◌∙◌, arith}
use Rattle.std.proofs.lemmas.Bool.{and_parts, ltb-true}
use Rattle.byteorder.specs.Endian.{big_bytes}
use Rattle.byteorder.specs.Numbers.{length-bytes_high_first}
use Rattle.srr_entry.specs.declared.log.Log.{Log}
use Rattle.srr_log.specs.declared.fault.LogFault.{LogFault}
use Rattle.srr_log.specs.declared.fault.LogWhy.TheVariants.{BadGroup}
use Rattle.srr_log.specs.Bounds.{IsGroup, IsInBounds}
use Rattle.srr_log2.specs.LogBytes.{bits_from, group_bytes, log_bytes, AreLogBytes}
use Rattle.srr_log2.specs.Fields.{reads, give, number_of, coded_field}
use Rattle.srr_log2.specs.Reading.{bits_set, coded_group, coded_log, IsFirstFieldFault}
use Rattle.srr_log2.proofs.FieldLaws.{onward_reads, given, field_reads, number_was}
use Rattle.srr_log2.proofs.TopLaws.{are_bits, group_found}
use Rattle.srr_log2.proofs.Exact.{IsExact}
use Rattle.srr_log2.proofs.GroupLaws.{set_of_bits, bits_small, bits_some, bits_of_set, set_rises, set_below, set_some}
use Rattle.srr_log2.proofs.BodyExact.{body_read, body_written}
use Rattle.srr_log2.proofs.WholeLaws as whole
use Rattle.srr_log2.proofs.ReadLaws.{never_both, one_log, log_or_fault}

some_bits : (n : ℕ) (group : List ℕ) → IsGroup n group → n ≤ 64 → 0 < bits_from 64 0 group
some_bits n [] ok few = let some' = ok.0 in absurd (omega arith)
some_bits n (rank ∷ ranks) ok few = bits_some 64 0 n rank ranks ok.1 ok.2 (omega arith)

group_written : (n : ℕ) (group rest : List ℕ) → n ≤ 64 → IsGroup n group → coded_group n (group_bytes group ++ rest) ≡ reads group rest
unfolding group_bytes
group_written n group rest few ok =
    group_found n (bits_from 64 0 group) group (big_bytes 8 (bits_from 64 0 group)) rest (big_bytes 8 (bits_from 64 0 group) ++ rest) refl refl (length-bytes_high_first 8 (bits_from 64 0 group))
    (bits_small 64 64 0 n group (omega arith) ok.2 (omega arith)) (some_bits n group ok few, bits_small n 64 0 n group few ok.2 (omega arith)) (sym (set_of_bits n 64 0 n group few ok.1 ok.2 (omega arith)))

group_read : (n : ℕ) (text rest group : List ℕ) → n ≤ 64 → coded_group n text ≡ reads group rest → (text ≡ group_bytes group ++ rest) × IsGroup n group
unfolding group_bytes coded_group
group_read n text rest group few e =
    let a = onward_reads (coded_field 8 (λ _. BadGroup) (number_of 8 (are_bits n)) text) (λ bits. give (bits_set n 0 bits)) group rest e in
    let f = field_reads 8 (λ _. BadGroup) (number_of 8 (are_bits n)) text a.1 a.0 a.2 in
    let w = number_was 8 a.0 (are_bits n) f.0 f.2 in
    let p = and_parts _ _ w.1 in
    let some' : 0 < a.0 = ltb-true _ _ p.0 in
    let small : a.0 < 2 ^ n = ltb-true _ _ p.1 in
    let g = given (bits_set n 0 a.0) group a.1 rest a.3 in
    let P : List ℕ → Type 0 = λ g. (text ≡ big_bytes 8 (bits_from 64 0 g) ++ rest) × IsGroup n g in
    subst P g.0 (
      f.3 ∙ ap (λ xs. xs ++ a.1) w.0 ∙ ap (λ k. big_bytes 8 k ++ a.1) (sym (bits_of_set n 64 0 a.0 few small)) ∙ ap (λ xs. big_bytes 8 (bits_from 64 0 (bits_set n 0 a.0)) ++ xs) g.1,
      (set_some n 0 a.0 small some', set_rises n 0 a.0, set_below n 0 a.0 n (omega arith)),
    )

pub group_exact : (n : ℕ) → 1 ≤ n → n ≤ 64 → IsExact (coded_group n) group_bytes (IsGroup n)
group_exact n some' few = record { written = λ group rest ok. group_written n group rest few ok; read = λ text rest group e. group_read n text rest group few e }

pub log_written : (text : List ℕ) (log : Log) → AreLogBytes text log → coded_log text ≡ reads log []
log_written text log is = whole.log_written (body_written group_exact) (body_read group_exact) text log is

pub log_read : (text rest : List ℕ) (log : Log) → coded_log text ≡ reads log rest → AreLogBytes text log
log_read text rest log e = whole.log_read (body_written group_exact) (body_read group_exact) text rest log e

pub no_beginning : (log other : Log) (more : List ℕ) → IsInBounds log → IsInBounds other → log_bytes log ++ more ≡ log_bytes other → (log ≡ other) × (more ≡ [])
no_beginning log other more ok ok' e = whole.no_beginning (body_written group_exact) (body_read group_exact) log other more ok ok' e

pub fault_or_log : (text : List ℕ) (log : Log) (fault : LogFault) → AreLogBytes text log → IsFirstFieldFault text fault → ⊥
fault_or_log text log fault is first = never_both text log fault (log_written text log is) first

pub same_log : (text : List ℕ) (log other : Log) → AreLogBytes text log → AreLogBytes text other → log ≡ other
same_log text log other is is' = one_log text log other (log_written text log is) (log_written text other is')

-- each text has a log or a first fault
pub either : (text : List ℕ) → ((log : Log) × AreLogBytes text log) ⊎ ((fault : LogFault) × IsFirstFieldFault text fault)
either text =
    elim (log_or_fault text) [
      | inl found ↦ inl (found.0, log_read text found.1 found.0 found.2)
      | inr first ↦ inr first
    ]
