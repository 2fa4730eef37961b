-- Entries by records: what was written is read, and what was read was written so, given the same of a record.
use Rattle.std.proofs.Common.{◌≡◌, ℕ, suc, ◌+◌, ◌<◌, ◌≤◌, Bool, true, false, List, [], ◌∷◌, ◌++◌, length, refl, ap, ◌∙◌, append_assoc, arith}
use Rattle.srr_entry.specs.declared.entry.Entry.{Entry}
use Rattle.srr_entry.specs.declared.entry.Entry.TheVariants.{Sent, Posted, Entered, Ended, Took, NotYet, PeekedInside, PeekedOutside, Stopped}
use Rattle.srr_log.specs.Bounds.{IsEntry, AreEntries, is_last}
use Rattle.srr_log2.specs.EntryBytes.{is_not_yet, not_yets, record_bytes, records_bytes}
use Rattle.srr_log2.specs.Fields.{reads, onward, ◌>>=◌, give}
use Rattle.srr_log2.specs.EntryReading.{coded_record, coded_entries}

-- so many more entries than the record's own are counted by it
abbrev pub more_of : Entry → ℕ → ℕ
more_of NotYet more = more
more_of entry more = 0

-- how many of them are counted before
abbrev pub if_counted : Bool → ℕ → ℕ
if_counted true more = more
if_counted false more = 0

module _ (n : ℕ) (group : List ℕ)
    (record_written : (counted : Bool) (entry : Entry) (more others : ℕ) (rest : List ℕ) → others < 4294967295 → IsEntry n group entry → (is_last entry ≡ true → others ≡ 0) → (is_not_yet entry ≡ true → (counted ≡ false) × (more ≤ others))
    → coded_record n group counted others (record_bytes entry more ++ rest) ≡ reads (entry, more_of entry more) rest) where
  few : (entries : List Entry) → not_yets entries ≤ length entries
  few [] = omega arith
  few (NotYet ∷ entries) = let f = few entries in omega arith
  few (Sent ∷ entries) = omega arith
  few (Posted ∷ entries) = omega arith
  few (Entered ∷ entries) = omega arith
  few (Ended ∷ entries) = omega arith
  few (Took items ∷ entries) = omega arith
  few (PeekedInside source start ∷ entries) = omega arith
  few (PeekedOutside source start tag count ∷ entries) = omega arith
  few (Stopped halt ∷ entries) = omega arith

  -- the entry's own record, and then the others
  own_record : (counted : Bool) (entry : Entry) (entries : List Entry) (rest : List ℕ) → length entries < 4294967295 → IsEntry n group entry → (is_last entry ≡ true → entries ≡ []) → (is_not_yet entry ≡ true → counted ≡ false)
      → coded_entries n group (is_not_yet entry) (more_of entry (not_yets entries)) (length entries) (records_bytes (is_not_yet entry) entries ++ rest) ≡ reads entries rest
      → coded_entries n group counted 0 (length (entry ∷ entries)) ((record_bytes entry (not_yets entries) ++ records_bytes (is_not_yet entry) entries) ++ rest) ≡ reads (entry ∷ entries) rest
  own_record counted entry entries rest short ok last fresh others =
      let behind = records_bytes (is_not_yet entry) entries ++ rest in
      let first = record_written counted entry (not_yets entries) (length entries) behind short ok (λ e. ap length (last e)) (λ e. (fresh e, few entries)) in
      rw (append_assoc (record_bytes entry (not_yets entries)) (records_bytes (is_not_yet entry) entries) rest)
      (ap (λ o. onward o (λ v. coded_entries n group (is_not_yet v.0) v.1 (length entries) >>= λ values. give (v.0 ∷ values))) first
      ∙ ap (λ o. onward o (λ values. give (entry ∷ values))) others)

  -- the first ones that found nothing are counted by the record before, where that is of their kind
  pub entries_written : (counted : Bool) (entries : List Entry) (rest : List ℕ) → length entries < 4294967296 → AreEntries n group entries
      → coded_entries n group counted (if_counted counted (not_yets entries)) (length entries) (records_bytes counted entries ++ rest) ≡ reads entries rest
  entries_written false [] rest short ok = refl
  entries_written true [] rest short ok = refl
  entries_written true (NotYet ∷ entries) rest short ok =
      let one : not_yets entries + 1 ≡ suc (not_yets entries) = omega arith in
      let others = entries_written true entries rest (omega arith) ok.2 in
      rw one (ap (λ o. onward o (λ values. give (NotYet ∷ values))) others)
  entries_written false (NotYet ∷ entries) rest short ok = own_record false NotYet entries rest (omega arith) ok.0 ok.1 (λ e. refl) (entries_written true entries rest (omega arith) ok.2)
  entries_written false (Sent ∷ entries) rest short ok = own_record false Sent entries rest (omega arith) ok.0 ok.1 (λ e. refl) (entries_written false entries rest (omega arith) ok.2)
  entries_written true (Sent ∷ entries) rest short ok = own_record true Sent entries rest (omega arith) ok.0 ok.1 (λ e. absurd cc) (entries_written false entries rest (omega arith) ok.2)
  entries_written false (Posted ∷ entries) rest short ok = own_record false Posted entries rest (omega arith) ok.0 ok.1 (λ e. refl) (entries_written false entries rest (omega arith) ok.2)
  entries_written true (Posted ∷ entries) rest short ok = own_record true Posted entries rest (omega arith) ok.0 ok.1 (λ e. absurd cc) (entries_written false entries rest (omega arith) ok.2)
  entries_written false (Entered ∷ entries) rest short ok = own_record false Entered entries rest (omega arith) ok.0 ok.1 (λ e. refl) (entries_written false entries rest (omega arith) ok.2)
  entries_written true (Entered ∷ entries) rest short ok = own_record true Entered entries rest (omega arith) ok.0 ok.1 (λ e. absurd cc) (entries_written false entries rest (omega arith) ok.2)
  entries_written false (Ended ∷ entries) rest short ok = own_record false Ended entries rest (omega arith) ok.0 ok.1 (λ e. refl) (entries_written false entries rest (omega arith) ok.2)
  entries_written true (Ended ∷ entries) rest short ok = own_record true Ended entries rest (omega arith) ok.0 ok.1 (λ e. absurd cc) (entries_written false entries rest (omega arith) ok.2)
  entries_written false (Took items ∷ entries) rest short ok = own_record false (Took items) entries rest (omega arith) ok.0 ok.1 (λ e. refl) (entries_written false entries rest (omega arith) ok.2)
  entries_written true (Took items ∷ entries) rest short ok = own_record true (Took items) entries rest (omega arith) ok.0 ok.1 (λ e. absurd cc) (entries_written false entries rest (omega arith) ok.2)
  entries_written false (PeekedInside source start ∷ entries) rest short ok = own_record false (PeekedInside source start) entries rest (omega arith) ok.0 ok.1 (λ e. refl) (entries_written false entries rest (omega arith) ok.2)
  entries_written true (PeekedInside source start ∷ entries) rest short ok = own_record true (PeekedInside source start) entries rest (omega arith) ok.0 ok.1 (λ e. absurd cc) (entries_written false entries rest (omega arith) ok.2)
  entries_written false (PeekedOutside source start tag count ∷ entries) rest short ok = own_record false (PeekedOutside source start tag count) entries rest (omega arith) ok.0 ok.1 (λ e. refl) (entries_written false entries rest (omega arith) ok.2)
  entries_written true (PeekedOutside source start tag count ∷ entries) rest short ok = own_record true (PeekedOutside source start tag count) entries rest (omega arith) ok.0 ok.1 (λ e. absurd cc) (entries_written false entries rest (omega arith) ok.2)
  entries_written false (Stopped halt ∷ entries) rest short ok = own_record false (Stopped halt) entries rest (omega arith) ok.0 ok.1 (λ e. refl) (entries_written false entries rest (omega arith) ok.2)
  entries_written true (Stopped halt ∷ entries) rest short ok = own_record true (Stopped halt) entries rest (omega arith) ok.0 ok.1 (λ e. absurd cc) (entries_written false entries rest (omega arith) ok.2)
