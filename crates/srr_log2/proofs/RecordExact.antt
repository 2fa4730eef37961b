-- Records, both ways, given the same of a mark.
use Rattle.std.proofs.Common.{◌≡◌, ℕ, zero, suc, ◌+◌, ◌-◌, ◌<◌, ◌≤◌, Bool, true, false, List, ◌∷◌, ◌++◌, length, refl, sym, ap, subst, ◌∙◌, append_assoc, arith, Option, Some, None}
use Rattle.std.specs.Prelude.{not}
use Rattle.std.proofs.lemmas.Bool.{eqb-true}
use Rattle.srr_entry.specs.declared.entry.Entry.{Entry}
use Rattle.srr_entry.specs.declared.entry.Entry.TheVariants.{Sent, Posted, Entered, Ended, Took, NotYet, PeekedInside, PeekedOutside, Stopped}
use Rattle.srr_log.specs.declared.fault.LogWhy.TheVariants.{BadEntry}
use Rattle.srr_log.specs.Bounds.{IsEntry, IsMark, is_last}
use Rattle.srr_log2.specs.declared.kind.RecordKind.{RecordKind}
use Rattle.srr_log2.specs.declared.kind.RecordKind.TheVariants.{Sent as SentKind, Posted as PostedKind, Entered as EnteredKind, Ended as EndedKind, Took as TookKind, NotYet as NotYetKind, PeekedInside as PeekedInsideKind, PeekedOutside as PeekedOutsideKind, Stopped as StoppedKind}
use Rattle.srr_log2.specs.Kinds.{record_kind_of}
use Rattle.srr_log2.specs.EntryBytes.{word_bytes, mark_bytes, items_bytes, halt_bytes, record_bytes, is_not_yet}
use Rattle.srr_log2.specs.Fields.{reads, onward, ◌>>=◌, give, coded_word}
use Rattle.srr_log2.specs.EntryReading.{between, coded_small_number, coded_tag, coded_count, coded_mark, coded_some_items, coded_halt, may_stand, standing, coded_record_kind, record_of, coded_record}
use Rattle.srr_log2.proofs.FieldLaws.{some, onward_reads, given, byte_reads, only_if_some, word_reads, between_holds}
use Rattle.srr_log2.proofs.Exact.{IsExact, along, numbers, small_exact, tag_exact, go, put}
use Rattle.srr_log2.proofs.MarkExact.{sender_exact}
use Rattle.srr_log2.proofs.ItemExact.{some_items_written, some_items_read}
use Rattle.srr_log2.proofs.HaltExact.{halt_read, halt_written}
use Rattle.srr_log2.proofs.EntryLaws.{more_of}
use Rattle.srr_log2.proofs.EntryRead.{WasRecord}

abbrev kind_byte : RecordKind → ℕ
kind_byte SentKind = 1
kind_byte PostedKind = 2
kind_byte EnteredKind = 3
kind_byte EndedKind = 4
kind_byte TookKind = 5
kind_byte NotYetKind = 6
kind_byte PeekedInsideKind = 7
kind_byte PeekedOutsideKind = 8
kind_byte StoppedKind = 9

kind_was : (byte : ℕ) (kind : RecordKind) → record_kind_of byte ≡ some kind → byte ≡ kind_byte kind
kind_was zero kind e = absurd cc
kind_was (suc zero) kind e = let k : SentKind ≡ kind = cc in ap kind_byte k
kind_was (suc (suc zero)) kind e = let k : PostedKind ≡ kind = cc in ap kind_byte k
kind_was (suc (suc (suc zero))) kind e = let k : EnteredKind ≡ kind = cc in ap kind_byte k
kind_was (suc (suc (suc (suc zero)))) kind e = let k : EndedKind ≡ kind = cc in ap kind_byte k
kind_was (suc (suc (suc (suc (suc zero))))) kind e = let k : TookKind ≡ kind = cc in ap kind_byte k
kind_was (suc (suc (suc (suc (suc (suc zero)))))) kind e = let k : NotYetKind ≡ kind = cc in ap kind_byte k
kind_was (suc (suc (suc (suc (suc (suc (suc zero))))))) kind e = let k : PeekedInsideKind ≡ kind = cc in ap kind_byte k
kind_was (suc (suc (suc (suc (suc (suc (suc (suc zero)))))))) kind e = let k : PeekedOutsideKind ≡ kind = cc in ap kind_byte k
kind_was (suc (suc (suc (suc (suc (suc (suc (suc (suc zero))))))))) kind e = let k : StoppedKind ≡ kind = cc in ap kind_byte k
kind_was (suc (suc (suc (suc (suc (suc (suc (suc (suc (suc byte)))))))))) kind e = absurd cc

standing_was : (counted : Bool) (others : ℕ) (said : Option RecordKind) (kind : RecordKind) → standing counted others said ≡ some kind → (said ≡ some kind) × (may_stand counted others kind ≡ true)
standing_was counted others None kind e = absurd cc
standing_was counted others (Some k) kind e =
    let w = only_if_some (may_stand counted others k) k kind e in
    (ap (λ x. some x) w.1, ap (may_stand counted others) (sym w.1) ∙ w.0)

not_true : (b : Bool) → not b ≡ true → b ≡ false
not_true false e = refl
not_true true e = absurd cc

count_exact : (most : ℕ) → most < 4294967296 → IsExact (coded_count most) word_bytes (λ n. (0 ≤ n) × (n ≤ most))
unfolding coded_count
count_exact most small = numbers 0 most small

abbrev pair : Entry → ℕ → Entry × ℕ
pair entry more = (entry, more)

module _ (n : ℕ) (group : List ℕ) (mark_exact : IsExact (coded_mark n group) mark_bytes (IsMark n group)) where
  abbrev Was : Bool → ℕ → ℕ → List ℕ → List ℕ → Entry × ℕ → Type 0
  Was counted others byte text middle first = WasRecord n group counted others (byte ∷ text) middle first.0 first.1

  record_was : (counted : Bool) (others : ℕ) (kind : RecordKind) (text middle : List ℕ) (first : Entry × ℕ) → may_stand counted others kind ≡ true → record_of n group others kind text ≡ reads first middle
      → Was counted others (kind_byte kind) text middle first
  record_was counted others SentKind text middle first may e =
      let g = given (pair Sent 0) first text middle e in
      subst (Was counted others 1 text middle) g.0 record { written = ap (λ xs. 1 ∷ xs) g.1; ok = tt; last = λ e. absurd cc; fresh = λ e. absurd cc; alone = λ e. refl }
  record_was counted others PostedKind text middle first may e =
      let g = given (pair Posted 0) first text middle e in
      subst (Was counted others 2 text middle) g.0 record { written = ap (λ xs. 2 ∷ xs) g.1; ok = tt; last = λ e. absurd cc; fresh = λ e. absurd cc; alone = λ e. refl }
  record_was counted others EnteredKind text middle first may e =
      let g = given (pair Entered 0) first text middle e in
      subst (Was counted others 3 text middle) g.0 record { written = ap (λ xs. 3 ∷ xs) g.1; ok = tt; last = λ e. absurd cc; fresh = λ e. absurd cc; alone = λ e. refl }
  record_was counted others EndedKind text middle first may e =
      let g = given (pair Ended 0) first text middle e in
      subst (Was counted others 4 text middle) g.0 record { written = ap (λ xs. 4 ∷ xs) g.1; ok = tt; last = λ e. eqb-true _ _ may; fresh = λ e. absurd cc; alone = λ e. refl }
  record_was counted others TookKind text middle first may e =
      let a = onward_reads (coded_some_items n group text) (λ items. give (pair (Took items) 0)) first middle e in
      let i = some_items_read n group mark_exact text a.1 a.0 a.2 in
      let g = given (pair (Took a.0) 0) first a.1 middle a.3 in
      subst (Was counted others 5 text middle) g.0 record { written = ap (λ xs. 5 ∷ xs) (i.0 ∙ ap (λ xs. (word_bytes (length a.0) ++ items_bytes a.0) ++ xs) g.1); ok = (i.1, i.2, i.3); last = λ e. absurd cc; fresh = λ e. absurd cc; alone = λ e. refl }
  record_was counted others NotYetKind text middle first may e =
      let a = onward_reads (coded_word BadEntry (between 1 (others + 1)) text) (λ count. give (pair NotYet (count - 1))) first middle e in
      let w = word_reads BadEntry (between 1 (others + 1)) text a.1 a.0 a.2 in
      let h = between_holds 1 (others + 1) a.0 w.1 in
      let g = given (pair NotYet (a.0 - 1)) first a.1 middle a.3 in
      let one : a.0 ≡ (a.0 - 1) + 1 = let low = h.0 in omega arith in
      subst (Was counted others 6 text middle) g.0 record {
        written = ap (λ xs. 6 ∷ xs) (w.0 ∙ ap (λ xs. word_bytes a.0 ++ xs) g.1 ∙ ap (λ k. word_bytes k ++ middle) one);
        ok = tt;
        last = λ e. absurd cc;
        fresh = λ e. (not_true counted may, let high = h.1 in omega arith);
        alone = λ e. absurd cc;
      }
  record_was counted others PeekedInsideKind text middle first may e =
      let a = go (sender_exact n group true) (λ source. coded_small_number >>= λ start. give (pair (PeekedInside source start) 0)) text middle first e in
      let b = go small_exact (λ start. give (pair (PeekedInside a.0 start) 0)) a.1 middle first a.4 in
      let g = given (pair (PeekedInside a.0 b.0) 0) first b.1 middle b.4 in
      subst (Was counted others 7 text middle) g.0 record { written = ap (λ xs. 7 ∷ xs) (a.2 ∙ ap (λ xs. a.0 ∷ xs) (b.2 ∙ ap (λ xs. word_bytes b.0 ++ xs) g.1)); ok = (a.3, b.3); last = λ e. absurd cc; fresh = λ e. absurd cc; alone = λ e. refl }
  record_was counted others PeekedOutsideKind text middle first may e =
      let a = go (sender_exact n group false) (λ source. coded_small_number >>= λ start. coded_tag >>= λ tag. coded_count 65536 >>= λ count. give (pair (PeekedOutside source start tag count) 0)) text middle first e in
      let b = go small_exact (λ start. coded_tag >>= λ tag. coded_count 65536 >>= λ count. give (pair (PeekedOutside a.0 start tag count) 0)) a.1 middle first a.4 in
      let c = go tag_exact (λ tag. coded_count 65536 >>= λ count. give (pair (PeekedOutside a.0 b.0 tag count) 0)) b.1 middle first b.4 in
      let d = go (count_exact 65536 (omega arith)) (λ count. give (pair (PeekedOutside a.0 b.0 c.0 count) 0)) c.1 middle first c.4 in
      let g = given (pair (PeekedOutside a.0 b.0 c.0 d.0) 0) first d.1 middle d.4 in
      let name : 8 ∷ text ≡ (8 ∷ a.0 ∷ word_bytes b.0) ++ b.1 = ap (λ xs. 8 ∷ xs) (a.2 ∙ ap (λ xs. a.0 ∷ xs) b.2) in
      let tagged = along (8 ∷ text) (8 ∷ a.0 ∷ word_bytes b.0) b.1 (word_bytes c.0) c.1 name c.2 in
      let all = along (8 ∷ text) ((8 ∷ a.0 ∷ word_bytes b.0) ++ word_bytes c.0) c.1 (word_bytes d.0) middle tagged (d.2 ∙ ap (λ xs. word_bytes d.0 ++ xs) g.1) in
      subst (Was counted others 8 text middle) g.0 record { written = all; ok = (a.3, b.3, c.3, d.3.1); last = λ e. absurd cc; fresh = λ e. absurd cc; alone = λ e. refl }
  record_was counted others StoppedKind text middle first may e =
      let a = onward_reads (coded_halt n text) (λ halt. give (pair (Stopped halt) 0)) first middle e in
      let h = halt_read n text a.1 a.0 a.2 in
      let g = given (pair (Stopped a.0) 0) first a.1 middle a.3 in
      subst (Was counted others 9 text middle) g.0 record { written = ap (λ xs. 9 ∷ xs) (h.0 ∙ ap (λ xs. halt_bytes a.0 ++ xs) g.1); ok = h.1; last = λ e. eqb-true _ _ may; fresh = λ e. absurd cc; alone = λ e. refl }

  pub record_read : (counted : Bool) (others : ℕ) (text middle : List ℕ) (first : Entry × ℕ) → coded_record n group counted others text ≡ reads first middle → WasRecord n group counted others text middle first.0 first.1
  unfolding coded_record coded_record_kind
  record_read counted others text middle first e =
      let a = onward_reads (coded_record_kind counted others text) (record_of n group others) first middle e in
      let b = byte_reads BadEntry (λ byte. standing counted others (record_kind_of byte)) text a.1 a.0 a.2 in
      let k = standing_was counted others (record_kind_of b.0) a.0 b.2 in
      let was = record_was counted others a.0 a.1 middle first k.1 a.3 in
      let P : List ℕ → Type 0 = λ t. WasRecord n group counted others t middle first.0 first.1 in
      subst P (sym (b.1 ∙ ap (λ x. x ∷ a.1) (kind_was b.0 a.0 k.0))) was

  pub record_written : (counted : Bool) (entry : Entry) (more others : ℕ) (rest : List ℕ) → others < 4294967295 → IsEntry n group entry → (is_last entry ≡ true → others ≡ 0) → (is_not_yet entry ≡ true → (counted ≡ false) × (more ≤ others))
      → coded_record n group counted others (record_bytes entry more ++ rest) ≡ reads (entry, more_of entry more) rest
  unfolding coded_record coded_record_kind
  record_written counted Sent more others rest less ok last fresh = refl
  record_written counted Posted more others rest less ok last fresh = refl
  record_written counted Entered more others rest less ok last fresh = refl
  record_written counted Ended more others rest less ok last fresh = rw (last refl) refl
  record_written counted (Took items) more others rest less ok last fresh = ap (λ o. onward o (λ items. give (pair (Took items) 0))) (some_items_written n group mark_exact items rest ok.0 ok.1 ok.2)
  record_written counted NotYet more others rest less ok last fresh =
      let f = fresh refl in
      let back : (more + 1) - 1 ≡ more = omega arith in
      let within : (1 ≤ more + 1) × (more + 1 ≤ others + 1) = (omega arith, let h = f.1 in omega arith) in
      rw f.0 (put (numbers 1 (others + 1) (omega arith)) (λ count. give (pair NotYet (count - 1))) (more + 1) rest within ∙ ap (λ k. give (pair NotYet k) rest) back)
  record_written counted (PeekedInside source start) more others rest less ok last fresh =
      put (sender_exact n group true) (λ source. coded_small_number >>= λ start. give (pair (PeekedInside source start) 0)) source (word_bytes start ++ rest) ok.0 ∙ put small_exact (λ start. give (pair (PeekedInside source start) 0)) start rest ok.1
  record_written counted (PeekedOutside source start tag count) more others rest less ok last fresh =
      rw (append_assoc (word_bytes start ++ word_bytes tag) (word_bytes count) rest, append_assoc (word_bytes start) (word_bytes tag) (word_bytes count ++ rest))
      (put (sender_exact n group false) (λ source. coded_small_number >>= λ start. coded_tag >>= λ tag. coded_count 65536 >>= λ count. give (pair (PeekedOutside source start tag count) 0)) source (word_bytes start ++ (word_bytes tag ++ (word_bytes count ++ rest))) ok.0
      ∙ put small_exact (λ start. coded_tag >>= λ tag. coded_count 65536 >>= λ count. give (pair (PeekedOutside source start tag count) 0)) start (word_bytes tag ++ (word_bytes count ++ rest)) ok.1
      ∙ put tag_exact (λ tag. coded_count 65536 >>= λ count. give (pair (PeekedOutside source start tag count) 0)) tag (word_bytes count ++ rest) ok.2
      ∙ put (count_exact 65536 (omega arith)) (λ count. give (pair (PeekedOutside source start tag count) 0)) count rest (omega arith, ok.3))
  record_written counted (Stopped halt) more others rest less ok last fresh = rw (last refl) (ap (λ o. onward o (λ halt. give (pair (Stopped halt) 0))) (halt_written n halt rest ok))
