-- All but the digest, both ways, given the same of the group's bits.
use Rattle.std.proofs.Common.{◌≡◌, ℕ, ◌≤◌, List, [], ◌∷◌, ◌++◌, length, refl, sym, ap, subst, ◌∙◌, append_assoc, arith, Some}
use Rattle.std.specs.Prelude.{codes}
use Rattle.std.specs.Str.{bytes_eq}
use Rattle.std.proofs.lemmas.Slice.Eq.{bytes_eq-Decides}
use Rattle.srr_entry.specs.declared.entry.Entry.{Entry}
use Rattle.srr_entry.specs.declared.log.Log.{Log}
use Rattle.srr_log.specs.declared.fault.LogWhy.TheVariants.{BadNumber, Short}
use Rattle.srr_log.specs.Bounds.{IsGroup, IsList, IsInBounds}
use Rattle.srr_log2.specs.EntryBytes.{word_bytes, list_bytes}
use Rattle.srr_log2.specs.LogBytes.{group_bytes, head_bytes, program_bytes, lists_bytes, body_bytes}
use Rattle.srr_log2.specs.Fields.{reads, onward, ◌>>=◌, give, coded_word, coded_field, coded_many, only_if}
use Rattle.srr_log2.specs.EntryReading.{between, coded_rank_list}
use Rattle.srr_log2.specs.Reading.{coded_head, head_why, coded_rank_count, coded_group, coded_program, coded_body}
use Rattle.srr_log2.proofs.FieldLaws.{onward_reads, given, word_reads, word_written, byte_reads, only_if_some, field_reads, field_here, between_holds, holds_between}
use Rattle.srr_log2.proofs.TopLaws.{head_found}
use Rattle.srr_log2.proofs.Exact.{IsExact, along, spell_all, many_written, many_read, go, put}
use Rattle.srr_log2.proofs.ListExact.{list_exact}

abbrev name : List ℕ
name = codes "srr 2\n"

head_exact : IsExact coded_head (λ u. codes "srr 2\n") (λ u. Unit {0})
unfolding coded_head
head_exact = record {
  written = λ u rest ok. head_found (codes "srr 2\n") rest (codes "srr 2\n" ++ rest) refl refl refl;
  read = λ text rest u e.
      let f = field_reads 6 head_why (λ bytes. only_if (bytes_eq bytes (codes "srr 2\n")) (tt {0})) text rest u e in
      let w = only_if_some (bytes_eq f.0 (codes "srr 2\n")) (tt {0}) u f.2 in
      (f.3 ∙ ap (λ xs. xs ++ rest) ((bytes_eq-Decides f.0 (codes "srr 2\n")).0 w.0), tt);
}

ranks_exact : IsExact coded_rank_count (λ n. n ∷ []) (λ n. (1 ≤ n) × (n ≤ 64))
unfolding coded_rank_count
ranks_exact = record {
  written = λ n rest ok. rw (holds_between 1 64 n ok.0 ok.1) refl;
  read = λ text rest n e.
      let b = byte_reads BadNumber (λ ranks. only_if (between 1 64 ranks) ranks) text rest n e in
      let w = only_if_some (between 1 64 b.0) b.0 n b.2 in
      let P : ℕ → Type 0 = λ k. (text ≡ k ∷ rest) × ((1 ≤ k) × (k ≤ 64)) in
      subst P w.1 (b.1, between_holds 1 64 b.0 w.0);
}

program_exact : IsExact coded_program program_bytes (λ program. length program ≤ 65536)
unfolding coded_program
program_exact = record {
  written = λ program rest ok.
      rw (append_assoc (word_bytes (length program)) program rest)
      (ap (λ o. onward o (λ size. coded_field size (λ _. Short) (λ bytes. Some bytes))) (word_written BadNumber (between 0 65536) (length program) (program ++ rest) (omega (arith, ok)) (holds_between 0 65536 (length program) (omega arith) ok))
      ∙ field_here {A = List ℕ} (length program) (λ _. Short) (λ bytes. Some bytes) program rest refl);
  read = λ text rest program e.
      let a = onward_reads (coded_word BadNumber (between 0 65536) text) (λ size. coded_field size (λ _. Short) (λ bytes. Some bytes)) program rest e in
      let w = word_reads BadNumber (between 0 65536) text a.1 a.0 a.2 in
      let h = between_holds 0 65536 a.0 w.1 in
      let f = field_reads {A = List ℕ} a.0 (λ _. Short) (λ bytes. Some bytes) a.1 rest program a.3 in
      let is : f.0 ≡ program = cc in
      let long : length program ≡ a.0 = ap length (sym is) ∙ f.1 in
      (along text (word_bytes (length program)) a.1 program rest (w.0 ∙ ap (λ k. word_bytes k ++ a.1) (sym long)) (f.3 ∙ ap (λ xs. xs ++ rest) is), omega (arith, h.1, long));
}

all_lists : (lists : List (List Entry)) → spell_all list_bytes lists ≡ lists_bytes lists
all_lists [] = refl
all_lists (entries ∷ lists) = ap (λ xs. list_bytes entries ++ xs) (all_lists lists)

abbrev log_of : ℕ → List ℕ → List ℕ → List (List Entry) → Log
log_of ranks group program lists = record { ranks = ranks; group = group; program = program; lists = lists }

module _ (group_exact : (n : ℕ) → 1 ≤ n → n ≤ 64 → IsExact (coded_group n) group_bytes (IsGroup n)) where
  pub body_read : (text rest : List ℕ) (log : Log) → coded_body text ≡ reads log rest → (text ≡ body_bytes log ++ rest) × IsInBounds log
  unfolding coded_body body_bytes
  body_read text rest log e =
      let h = go head_exact (λ u. coded_rank_count >>= λ ranks. coded_group ranks >>= λ group. coded_program >>= λ program. coded_many (coded_rank_list ranks group) (length group) >>= λ lists. give (log_of ranks group program lists)) text rest log e in
      let n = go ranks_exact (λ ranks. coded_group ranks >>= λ group. coded_program >>= λ program. coded_many (coded_rank_list ranks group) (length group) >>= λ lists. give (log_of ranks group program lists)) h.1 rest log h.4 in
      let g = go (group_exact n.0 n.3.0 n.3.1) (λ group. coded_program >>= λ program. coded_many (coded_rank_list n.0 group) (length group) >>= λ lists. give (log_of n.0 group program lists)) n.1 rest log n.4 in
      let p = go program_exact (λ program. coded_many (coded_rank_list n.0 g.0) (length g.0) >>= λ lists. give (log_of n.0 g.0 program lists)) g.1 rest log g.4 in
      let l = onward_reads (coded_many (coded_rank_list n.0 g.0) (length g.0) p.1) (λ lists. give (log_of n.0 g.0 p.0 lists)) log rest p.4 in
      let m = many_read (coded_rank_list n.0 g.0) list_bytes (IsList n.0 g.0) (list_exact n.0 g.0) (length g.0) p.1 l.1 l.0 l.2 in
      let i = given (log_of n.0 g.0 p.0 l.0) log l.1 rest l.3 in
      let start : text ≡ head_bytes n.0 g.0 ++ g.1 = h.2 ∙ ap (λ xs. name ++ xs) (n.2 ∙ ap (λ xs. n.0 ∷ xs) g.2) in
      let front = along text (head_bytes n.0 g.0) g.1 (program_bytes p.0) p.1 start p.2 in
      let all = along text (head_bytes n.0 g.0 ++ program_bytes p.0) p.1 (lists_bytes l.0) rest front (m.0 ∙ ap (λ xs. xs ++ l.1) (all_lists l.0) ∙ ap (λ xs. lists_bytes l.0 ++ xs) i.1) in
      let P : Log → Type 0 = λ log. (text ≡ body_bytes log ++ rest) × IsInBounds log in
      let low = n.3.0 in
      subst P i.0 (all, record { ranks = (omega arith, n.3.1); group = g.3; program = p.3; as_many = m.1; lists = m.2 })

  pub body_written : (log : Log) (rest : List ℕ) → IsInBounds log → coded_body (body_bytes log ++ rest) ≡ reads log rest
  unfolding coded_body body_bytes
  body_written log rest ok =
      let lists = lists_bytes log.lists ++ rest in
      let m = many_written (coded_rank_list log.ranks log.group) list_bytes (IsList log.ranks log.group) (list_exact log.ranks log.group) log.lists rest ok.lists in
      let low = ok.ranks.0 in
      let parts : body_bytes log ++ rest ≡ name ++ (log.ranks ∷ (group_bytes log.group ++ (program_bytes log.program ++ lists))) =
      append_assoc (head_bytes log.ranks log.group ++ program_bytes log.program) (lists_bytes log.lists) rest ∙ append_assoc (head_bytes log.ranks log.group) (program_bytes log.program) lists in
      ap coded_body parts
      ∙ put head_exact (λ u. coded_rank_count >>= λ ranks. coded_group ranks >>= λ group. coded_program >>= λ program. coded_many (coded_rank_list ranks group) (length group) >>= λ lists. give (log_of ranks group program lists)) (tt {0}) (log.ranks ∷ (group_bytes log.group ++ (program_bytes log.program ++ lists))) tt
      ∙ put ranks_exact (λ ranks. coded_group ranks >>= λ group. coded_program >>= λ program. coded_many (coded_rank_list ranks group) (length group) >>= λ lists. give (log_of ranks group program lists)) log.ranks (group_bytes log.group ++ (program_bytes log.program ++ lists)) (omega arith, ok.ranks.1)
      ∙ put (group_exact log.ranks (omega arith) ok.ranks.1) (λ group. coded_program >>= λ program. coded_many (coded_rank_list log.ranks group) (length group) >>= λ lists. give (log_of log.ranks group program lists)) log.group (program_bytes log.program ++ lists) ok.group
      ∙ put program_exact (λ program. coded_many (coded_rank_list log.ranks log.group) (length log.group) >>= λ lists. give (log_of log.ranks log.group program lists)) log.program lists ok.program
      ∙ ap (λ k. onward (coded_many (coded_rank_list log.ranks log.group) k lists) (λ lists. give (log_of log.ranks log.group log.program lists))) (sym ok.as_many)
      ∙ ap (λ xs. onward (coded_many (coded_rank_list log.ranks log.group) (length log.lists) (xs ++ rest)) (λ lists. give (log_of log.ranks log.group log.program lists))) (sym (all_lists log.lists))
      ∙ ap (λ o. onward o (λ lists. give (log_of log.ranks log.group log.program lists))) m
