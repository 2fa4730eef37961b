-- Completed starts, both ways, given the same of a mark.
use Rattle.std.proofs.Common.{◌≡◌, ℕ, zero, suc, ◌+◌, ◌<◌, ◌≤◌, List, [], ◌∷◌, ◌++◌, length, map, refl, sym, ap, subst, ◌∙◌, append_assoc, arith}
use Rattle.std.specs.Prelude.{All, nat_lt}
use Rattle.std.proofs.lemmas.Bool.{lt-ltb, ltb-true}
use Rattle.std.proofs.lemmas.List.Elements.{All-head, All-tail, All-cons, All-nil}
use Rattle.srr_entry.specs.declared.entry.Marked.{Marked}
use Rattle.srr_log.specs.declared.fault.LogWhy.TheVariants.{BadEntry}
use Rattle.mpi_call.specs.Lists.{Rises}
use Rattle.srr_log.specs.Bounds.{IsMark}
use Rattle.srr_log2.specs.EntryBytes.{word_bytes, mark_bytes, items_bytes}
use Rattle.srr_log2.specs.Fields.{reads, onward, ◌>>=◌, give, coded_word}
use Rattle.srr_log2.specs.EntryReading.{coded_mark, coded_item, coded_items, coded_some_items}
use Rattle.srr_log2.proofs.FieldLaws.{onward_reads, given, word_reads, word_written}
use Rattle.srr_log2.proofs.Exact.{IsExact, along, numbers, go, put}
use Rattle.srr_log2.proofs.Short.{IsItem, few_items}

abbrev item_bytes : Marked → List ℕ
item_bytes item = word_bytes item.index ++ mark_bytes item.mark

module _ (n : ℕ) (group : List ℕ) (mark_exact : IsExact (coded_mark n group) mark_bytes (IsMark n group)) where
  item_exact : (least : ℕ) → IsExact (coded_item n group least) item_bytes (λ item. (least ≤ item.index) × IsItem n group item)
  unfolding coded_item
  item_exact least = record {
    written = λ item rest ok.
        rw (append_assoc (word_bytes item.index) (mark_bytes item.mark) rest)
        (put (numbers least 999999 (omega arith)) (λ index. coded_mark n group >>= λ mark. give (record { index = index; mark = mark })) item.index (mark_bytes item.mark ++ rest) (ok.0, ok.1.0)
        ∙ put mark_exact (λ mark. give (record { index = item.index; mark = mark })) item.mark rest ok.1.1);
    read = λ text rest item e.
        let a = go (numbers least 999999 (omega arith)) (λ index. coded_mark n group >>= λ mark. give (record { index = index; mark = mark })) text rest item e in
        let b = go mark_exact (λ mark. give (record { index = a.0; mark = mark })) a.1 rest item a.4 in
        let g = given {A = Marked} (record { index = a.0; mark = b.0 }) item b.1 rest b.4 in
        let P : Marked → Type 0 = λ i. (text ≡ item_bytes i ++ rest) × ((least ≤ i.index) × IsItem n group i) in
        subst P g.0 (along text (word_bytes a.0) a.1 (mark_bytes b.0) rest a.2 (b.2 ∙ ap (λ xs. mark_bytes b.0 ++ xs) g.1), (a.3.0, (a.3.1, b.3)));
  }

  pub items_written : (least : ℕ) (items : List Marked) (rest : List ℕ) → Rises least (map (λ item. item.index) items) → All (IsItem n group) items
      → coded_items n group least (length items) (items_bytes items ++ rest) ≡ reads items rest
  items_written least [] rest rise ok = refl
  items_written least (item ∷ items) rest rise ok =
      let first = (item_exact least).written item (items_bytes items ++ rest) (rise.0, All-head (IsItem n group) item items ok) in
      let others = items_written (item.index + 1) items rest rise.1 (All-tail (IsItem n group) item items ok) in
      rw (append_assoc (item_bytes item) (items_bytes items) rest)
      (ap (λ o. onward o (λ v. coded_items n group (v.index + 1) (length items) >>= λ values. give (v ∷ values))) first ∙ ap (λ o. onward o (λ values. give (item ∷ values))) others)

  abbrev WereItems : ℕ → ℕ → List ℕ → List ℕ → List Marked → Type 0
  WereItems least count text rest items = (text ≡ items_bytes items ++ rest) × (length items ≡ count) × Rises least (map (λ item. item.index) items) × All (IsItem n group) items

  pub items_read : (least count : ℕ) (text rest : List ℕ) (items : List Marked) → coded_items n group least count text ≡ reads items rest → WereItems least count text rest items
  items_read least zero text rest items e = let g = given {A = List Marked} [] items text rest e in subst (WereItems least 0 text rest) g.0 (g.1, refl, tt, All-nil (IsItem n group))
  items_read least (suc count) text rest items e =
      let a = go (item_exact least) (λ v. coded_items n group (v.index + 1) count >>= λ values. give (v ∷ values)) text rest items e in
      let b = onward_reads (coded_items n group (a.0.index + 1) count a.1) (λ values. give (a.0 ∷ values)) items rest a.4 in
      let g = given (a.0 ∷ b.0) items b.1 rest b.3 in
      let others = items_read (a.0.index + 1) count a.1 b.1 b.0 b.2 in
      subst (WereItems least (suc count) text rest) g.0
      (along text (item_bytes a.0) a.1 (items_bytes b.0) rest a.2 (others.0 ∙ ap (λ xs. items_bytes b.0 ++ xs) g.1), (let m = others.1 in omega arith), (a.3.0, others.2), All-cons (IsItem n group) a.0 b.0 a.3.1 others.3)

  -- how many, and then these
  pub some_items_written : (items : List Marked) (rest : List ℕ) → 0 < length items → Rises 0 (map (λ item. item.index) items) → All (IsItem n group) items
      → coded_some_items n group ((word_bytes (length items) ++ items_bytes items) ++ rest) ≡ reads items rest
  unfolding coded_some_items
  some_items_written items rest some' rise ok =
      let few = few_items n group 0 items rise ok (omega arith) in
      rw (append_assoc (word_bytes (length items)) (items_bytes items) rest)
      (ap (λ o. onward o (λ count. coded_items n group 0 count)) (word_written BadEntry (λ count. nat_lt 0 count) (length items) (items_bytes items ++ rest) (omega (arith, few)) (lt-ltb _ _ some')) ∙ items_written 0 items rest rise ok)

  pub some_items_read : (text rest : List ℕ) (items : List Marked) → coded_some_items n group text ≡ reads items rest
      → (text ≡ (word_bytes (length items) ++ items_bytes items) ++ rest) × (0 < length items) × Rises 0 (map (λ item. item.index) items) × All (IsItem n group) items
  unfolding coded_some_items
  some_items_read text rest items e =
      let a = onward_reads (coded_word BadEntry (λ count. nat_lt 0 count) text) (λ count. coded_items n group 0 count) items rest e in
      let w = word_reads BadEntry (λ count. nat_lt 0 count) text a.1 a.0 a.2 in
      let i = items_read 0 a.0 a.1 rest items a.3 in
      let some' : 0 < a.0 = ltb-true _ _ w.1 in
      (along text (word_bytes (length items)) a.1 (items_bytes items) rest (w.0 ∙ ap (λ k. word_bytes k ++ a.1) (sym i.1)) i.0, (let m = i.1 in omega arith), i.2, i.3)
