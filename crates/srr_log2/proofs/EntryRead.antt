-- Entries that were read were written so, given the same of a record.
use Rattle.std.proofs.Common.{◌≡◌, ℕ, zero, suc, ◌≤◌, Bool, true, false, List, [], ◌∷◌, ◌++◌, length, refl, sym, ap, subst, ◌∙◌, append_assoc, arith}
use Rattle.srr_entry.specs.declared.entry.Entry.{Entry}
use Rattle.srr_entry.specs.declared.entry.Entry.TheVariants.{Sent, Posted, Entered, Ended, Took, NotYet, PeekedInside, PeekedOutside, Stopped}
use Rattle.srr_log.specs.Bounds.{IsEntry, AreEntries, is_last}
use Rattle.srr_log2.specs.EntryBytes.{is_not_yet, not_yets, record_bytes, records_bytes}
use Rattle.srr_log2.specs.Fields.{reads, ◌>>=◌, give}
use Rattle.srr_log2.specs.EntryReading.{coded_record, coded_entries}
use Rattle.srr_log2.proofs.FieldLaws.{onward_reads, given}
use Rattle.srr_log2.proofs.EntryLaws.{if_counted}

-- a record that was read
pub record WasRecord (n : ℕ) (group : List ℕ) (counted : Bool) (others : ℕ) (text middle : List ℕ) (entry : Entry) (more : ℕ) : Type 0 where
  pub written : text ≡ record_bytes entry more ++ middle
  pub ok : IsEntry n group entry
  pub last : is_last entry ≡ true → others ≡ 0
  pub fresh : is_not_yet entry ≡ true → (counted ≡ false) × (more ≤ others)
  pub alone : is_not_yet entry ≡ false → more ≡ 0

-- entries that were read
pub record WereEntries (n : ℕ) (group : List ℕ) (counted : Bool) (more left : ℕ) (text rest : List ℕ) (entries : List Entry) : Type 0 where
  pub written : text ≡ records_bytes counted entries ++ rest
  pub ok : AreEntries n group entries
  pub many : length entries ≡ left
  pub before : if_counted counted (not_yets entries) ≡ more

none : (entries : List Entry) → length entries ≡ 0 → entries ≡ []
none [] e = refl
none (entry ∷ entries) e = absurd (omega arith)

-- an entry with a record of its own
own : (counted : Bool) (entry : Entry) (entries : List Entry) → (is_not_yet entry ≡ true → counted ≡ false) → records_bytes counted (entry ∷ entries) ≡ record_bytes entry (not_yets entries) ++ records_bytes (is_not_yet entry) entries
own false Sent entries fresh = refl
own true Sent entries fresh = refl
own false Posted entries fresh = refl
own true Posted entries fresh = refl
own false Entered entries fresh = refl
own true Entered entries fresh = refl
own false Ended entries fresh = refl
own true Ended entries fresh = refl
own false (Took items) entries fresh = refl
own true (Took items) entries fresh = refl
own false NotYet entries fresh = refl
own true NotYet entries fresh = let no = fresh refl in absurd cc
own false (PeekedInside source start) entries fresh = refl
own true (PeekedInside source start) entries fresh = refl
own false (PeekedOutside source start tag count) entries fresh = refl
own true (PeekedOutside source start tag count) entries fresh = refl
own false (Stopped halt) entries fresh = refl
own true (Stopped halt) entries fresh = refl

no_count : (counted : Bool) (entry : Entry) (entries : List Entry) → (is_not_yet entry ≡ true → counted ≡ false) → if_counted counted (not_yets (entry ∷ entries)) ≡ 0
no_count false Sent entries fresh = refl
no_count true Sent entries fresh = refl
no_count false Posted entries fresh = refl
no_count true Posted entries fresh = refl
no_count false Entered entries fresh = refl
no_count true Entered entries fresh = refl
no_count false Ended entries fresh = refl
no_count true Ended entries fresh = refl
no_count false (Took items) entries fresh = refl
no_count true (Took items) entries fresh = refl
no_count false NotYet entries fresh = refl
no_count true NotYet entries fresh = let no = fresh refl in absurd cc
no_count false (PeekedInside source start) entries fresh = refl
no_count true (PeekedInside source start) entries fresh = refl
no_count false (PeekedOutside source start tag count) entries fresh = refl
no_count true (PeekedOutside source start tag count) entries fresh = refl
no_count false (Stopped halt) entries fresh = refl
no_count true (Stopped halt) entries fresh = refl

same_record : (entry : Entry) (more : ℕ) (entries : List Entry) → if_counted (is_not_yet entry) (not_yets entries) ≡ more → record_bytes entry more ≡ record_bytes entry (not_yets entries)
same_record Sent more entries is = refl
same_record Posted more entries is = refl
same_record Entered more entries is = refl
same_record Ended more entries is = refl
same_record (Took items) more entries is = refl
same_record NotYet more entries is = ap (λ k. record_bytes NotYet k) (sym is)
same_record (PeekedInside source start) more entries is = refl
same_record (PeekedOutside source start tag count) more entries is = refl
same_record (Stopped halt) more entries is = refl

module _ (n : ℕ) (group : List ℕ)
    (record_read : (counted : Bool) (others : ℕ) (text middle : List ℕ) (first : Entry × ℕ) → coded_record n group counted others text ≡ reads first middle → WasRecord n group counted others text middle first.0 first.1) where
  alone_fits : (entry : Entry) (more others : ℕ) → (is_not_yet entry ≡ true → more ≤ others) → (is_not_yet entry ≡ false → more ≡ 0) → (more ≤ others) × (is_not_yet entry ≡ false → more ≡ 0)
  alone_fits Sent more others fits alone = (let no = alone refl in omega arith, alone)
  alone_fits Posted more others fits alone = (let no = alone refl in omega arith, alone)
  alone_fits Entered more others fits alone = (let no = alone refl in omega arith, alone)
  alone_fits Ended more others fits alone = (let no = alone refl in omega arith, alone)
  alone_fits (Took items) more others fits alone = (let no = alone refl in omega arith, alone)
  alone_fits NotYet more others fits alone = (fits refl, alone)
  alone_fits (PeekedInside source start) more others fits alone = (let no = alone refl in omega arith, alone)
  alone_fits (PeekedOutside source start tag count) more others fits alone = (let no = alone refl in omega arith, alone)
  alone_fits (Stopped halt) more others fits alone = (let no = alone refl in omega arith, alone)

  pub entries_read : (counted : Bool) (more left : ℕ) (text rest : List ℕ) (entries : List Entry) → (counted ≡ false → more ≡ 0) → more ≤ left
      → coded_entries n group counted more left text ≡ reads entries rest → WereEntries n group counted more left text rest entries
  entries_read false more zero text rest entries free fits e =
      let g = given {A = List Entry} [] entries text rest (nothing false more text e) in
      let P : List Entry → Type 0 = λ es. WereEntries n group false more 0 text rest es in
      subst P g.0 record { written = g.1; ok = tt; many = refl; before = sym (free refl) }
    where
      nothing : (c : Bool) (m : ℕ) (t : List ℕ) → coded_entries n group c m 0 t ≡ reads entries rest → give [] t ≡ reads entries rest
      nothing c zero t e = e
      nothing c (suc m) t e = e
  entries_read true more zero text rest entries free fits e =
      let g = given {A = List Entry} [] entries text rest (nothing true more text e) in
      let P : List Entry → Type 0 = λ es. WereEntries n group true more 0 text rest es in
      subst P g.0 record { written = g.1; ok = tt; many = refl; before = omega arith }
    where
      nothing : (c : Bool) (m : ℕ) (t : List ℕ) → coded_entries n group c m 0 t ≡ reads entries rest → give [] t ≡ reads entries rest
      nothing c zero t e = e
      nothing c (suc m) t e = e
  entries_read false (suc more) (suc left) text rest entries free fits e = let no = free refl in absurd (omega arith)
  entries_read true (suc more) (suc left) text rest entries free fits e =
      let a = onward_reads (coded_entries n group true more left text) (λ es. give (NotYet ∷ es)) entries rest e in
      let g = given (NotYet ∷ a.0) entries a.1 rest a.3 in
      let ih = entries_read true more left text a.1 a.0 (λ no. absurd cc) (omega arith) a.2 in
      let P : List Entry → Type 0 = λ es. WereEntries n group true (suc more) (suc left) text rest es in
      subst P g.0 record {
        written = ih.written ∙ ap (λ xs. records_bytes true a.0 ++ xs) g.1;
        ok = (tt, (λ no. absurd cc), ih.ok);
        many = let m = ih.many in omega arith;
        before = let b = ih.before in omega arith;
      }
  entries_read counted zero (suc left) text rest entries free fits e =
      let a = onward_reads (coded_record n group counted left text) (λ v. coded_entries n group (is_not_yet v.0) v.1 left >>= λ values. give (v.0 ∷ values)) entries rest e in
      let r = record_read counted left text a.1 a.0 a.2 in
      let b = onward_reads (coded_entries n group (is_not_yet a.0.0) a.0.1 left a.1) (λ values. give (a.0.0 ∷ values)) entries rest a.3 in
      let g = given (a.0.0 ∷ b.0) entries b.1 rest b.3 in
      let fit = alone_fits a.0.0 a.0.1 left (λ yes. (r.fresh yes).1) r.alone in
      let ih = entries_read (is_not_yet a.0.0) a.0.1 left a.1 b.1 b.0 fit.1 fit.0 b.2 in
      let fresh : is_not_yet a.0.0 ≡ true → counted ≡ false = λ yes. (r.fresh yes).0 in
      let P : List Entry → Type 0 = λ es. WereEntries n group counted 0 (suc left) text rest es in
      subst P g.0 record {
        written = r.written ∙ ap (λ xs. xs ++ a.1) (same_record a.0.0 a.0.1 b.0 ih.before)
            ∙ ap (λ xs. record_bytes a.0.0 (not_yets b.0) ++ xs) (ih.written ∙ ap (λ xs. records_bytes (is_not_yet a.0.0) b.0 ++ xs) g.1)
            ∙ sym (append_assoc (record_bytes a.0.0 (not_yets b.0)) (records_bytes (is_not_yet a.0.0) b.0) rest)
            ∙ ap (λ xs. xs ++ rest) (sym (own counted a.0.0 b.0 fresh));
        ok = (r.ok, (λ is. none b.0 (ih.many ∙ r.last is)), ih.ok);
        many = let m = ih.many in omega arith;
        before = no_count counted a.0.0 b.0 fresh;
      }
