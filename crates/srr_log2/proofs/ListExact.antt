-- Lists and members, both ways.
use Rattle.std.proofs.Common.{◌≡◌, ℕ, ◌<◌, ◌≤◌, true, false, List, [], ◌∷◌, ◌++◌, length, refl, sym, ap, ◌∙◌, append_assoc, arith}
use Rattle.std.specs.Prelude.{All}
use Rattle.std.proofs.lemmas.Bool.{lt-ltb, ltb-true, and_parts}
use Rattle.std.proofs.lemmas.List.Elements.{All-head, All-tail, All-cons, All-nil}
use Rattle.run_model.specs.Lists.{are_below}
use Rattle.srr_log.specs.declared.fault.LogWhy.TheVariants.{BadEntry, BadNumber}
use Rattle.srr_log.specs.Bounds.{IsMark, IsList}
use Rattle.srr_log2.specs.EntryBytes.{word_bytes, mark_bytes, records_bytes, list_bytes}
use Rattle.srr_log2.specs.Fields.{onward, coded_word, coded_many, coded_byte, only_if}
use Rattle.srr_log2.specs.EntryReading.{between, coded_rank, coded_members, coded_mark, coded_entries, coded_rank_list}
use Rattle.srr_log2.proofs.FieldLaws.{onward_reads, word_reads, word_written, byte_reads, only_if_some, between_holds, holds_between}
use Rattle.srr_log2.proofs.Exact.{IsExact, along, spell_all, many_written, many_read}
use Rattle.srr_log2.proofs.MarkExact.{mark_read, mark_written}
use Rattle.srr_log2.proofs.HaltExact.{rank_exact}
use Rattle.srr_log2.proofs.RecordExact.{record_read, record_written}
use Rattle.srr_log2.proofs.EntryLaws.{entries_written}
use Rattle.srr_log2.proofs.EntryRead.{entries_read}

abbrev one : ℕ → List ℕ
one rank = rank ∷ []

all_ones : (ranks : List ℕ) → spell_all one ranks ≡ ranks
all_ones [] = refl
all_ones (rank ∷ ranks) = ap (λ xs. rank ∷ xs) (all_ones ranks)

abbrev IsBelow : ℕ → ℕ → Type 0
IsBelow n rank = rank < n

below : (n : ℕ) (ranks : List ℕ) → All (IsBelow n) ranks → are_below n ranks ≡ true
below n [] ok = refl
below n (rank ∷ ranks) ok = rw (lt-ltb _ _ (All-head (IsBelow n) rank ranks ok), below n ranks (All-tail (IsBelow n) rank ranks ok)) refl

all_below : (n : ℕ) (ranks : List ℕ) → are_below n ranks ≡ true → All (IsBelow n) ranks
all_below n [] e = All-nil (IsBelow n)
all_below n (rank ∷ ranks) e = let p = and_parts _ _ e in All-cons (IsBelow n) rank ranks (ltb-true _ _ p.0) (all_below n ranks p.1)

pub members_exact : (n : ℕ) → IsExact (coded_members n) (λ ms. length ms ∷ ms) (λ ms. (0 < length ms) × (length ms ≤ 64) × (are_below n ms ≡ true))
unfolding coded_members
members_exact n = record {
  written = λ ms rest ok.
      rw (holds_between 1 64 (length ms) (omega (arith, ok.0)) ok.1)
      (ap (λ xs. coded_many (coded_rank n) (length ms) (xs ++ rest)) (sym (all_ones ms)) ∙ many_written (coded_rank n) one (IsBelow n) (rank_exact n) ms rest (all_below n ms ok.2));
  read = λ text rest ms e.
      let a = onward_reads (coded_byte BadEntry (λ count. only_if (between 1 64 count) count) text) (λ count. coded_many (coded_rank n) count) ms rest e in
      let b = byte_reads BadEntry (λ count. only_if (between 1 64 count) count) text a.1 a.0 a.2 in
      let w = only_if_some (between 1 64 b.0) b.0 a.0 b.2 in
      let h = between_holds 1 64 b.0 w.0 in
      let m = many_read (coded_rank n) one (IsBelow n) (rank_exact n) a.0 a.1 rest ms a.3 in
      let many : length ms ≡ b.0 = m.1 ∙ sym w.1 in
      (b.1 ∙ ap (λ k. k ∷ a.1) (sym many) ∙ ap (λ xs. length ms ∷ xs) (m.0 ∙ ap (λ xs. xs ++ rest) (all_ones ms)), (omega (arith, h.0, many), omega (arith, h.1, many), below n ms m.2));
}

pub mark_exact : (n : ℕ) (group : List ℕ) → IsExact (coded_mark n group) mark_bytes (IsMark n group)
mark_exact n group = record { written = λ mark rest ok. mark_written n group (members_exact n) mark rest ok; read = λ text rest mark e. mark_read n group (members_exact n) text rest mark e }

pub list_exact : (n : ℕ) (group : List ℕ) → IsExact (coded_rank_list n group) list_bytes (IsList n group)
unfolding coded_rank_list
list_exact n group = record {
  written = λ entries rest ok.
      rw (append_assoc (word_bytes (length entries)) (records_bytes false entries) rest)
      (ap (λ o. onward o (λ count. coded_entries n group false 0 count)) (word_written BadNumber (between 0 999064) (length entries) (records_bytes false entries ++ rest) (omega (arith, ok.0)) (holds_between 0 999064 (length entries) (omega arith) ok.0))
      ∙ entries_written n group (record_written n group (mark_exact n group)) false entries rest (omega (arith, ok.0)) ok.1);
  read = λ text rest entries e.
      let a = onward_reads (coded_word BadNumber (between 0 999064) text) (λ count. coded_entries n group false 0 count) entries rest e in
      let w = word_reads BadNumber (between 0 999064) text a.1 a.0 a.2 in
      let h = between_holds 0 999064 a.0 w.1 in
      let r = entries_read n group (record_read n group (mark_exact n group)) false 0 a.0 a.1 rest entries (λ e. refl) (omega arith) a.3 in
      (along text (word_bytes (length entries)) a.1 (records_bytes false entries) rest (w.0 ∙ ap (λ k. word_bytes k ++ a.1) (sym r.many)) r.written, (let m = r.many in omega (arith, h.1), r.ok));
}
