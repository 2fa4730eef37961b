-- A log's parts, read one after the other.
use Rattle.std.proofs.Common.{◌≡◌, ℕ, ◌<◌, inl, inr, List, [], ◌∷◌, ◌++◌, map, length, drop, refl, sym, ◌∙◌, ap, subst, arith, append_assoc}
use Rattle.std.specs.Prelude.{Err}
use Rattle.std.proofs.Math.Seq.{drop-length}
use Rattle.std.proofs.lemmas.Bool.{cases_lt}
use Rattle.std.proofs.lemmas.List.{nil_from_length}
use Rattle.srr_entry.specs.declared.entry.Entry.{Entry}
use Rattle.srr_log.specs.declared.fault.LogWhy.TheVariants.{Extra}
use Rattle.srr_log.specs.declared.read_error.ReadError.{ReadError}
use Rattle.srr_log.specs.declared.read_error.ReadError.TheVariants.{Fault}
use Rattle.srr_log.specs.Parts.{LogPart, head_line, ranks_line, group_line, size_line, program_bytes, rank_line, entry_part, end_line, lists_parts}
use Rattle.srr_log.specs.inside.Reading.{ReadingState, Reads, after, at_end, at_group, at_head, at_list, at_ranks, at_size}
use Rattle.srr_log.proofs.StateLaws.{AreRead, read_then, reads_behind, after_lists, after_append}

pub read_ranks : (text first second : List ℕ) → text ≡ first → AreRead at_head (head_line ∷ []) first second → AreRead at_head (head_line ∷ []) text second
read_ranks text first second is read = (read.0, is ∙ read.1)

pub read_group : (n : ℕ) (text first second : List ℕ) → AreRead at_head (head_line ∷ []) text first → AreRead at_ranks (ranks_line n ∷ []) first second → AreRead at_head (head_line ∷ ranks_line n ∷ []) text second
read_group n text first second front read = read_then at_head (head_line ∷ []) (ranks_line n ∷ []) text first second front read

pub read_program : (n : ℕ) (group text first second : List ℕ) → AreRead at_head (head_line ∷ ranks_line n ∷ []) text first → AreRead (at_group n) (group_line group ∷ []) first second
    → AreRead at_head (head_line ∷ ranks_line n ∷ group_line group ∷ []) text second
read_program n group text first second front read = read_then at_head (head_line ∷ ranks_line n ∷ []) (group_line group ∷ []) text first second front read

pub read_lists : (n : ℕ) (group program text first second : List ℕ) → AreRead at_head (head_line ∷ ranks_line n ∷ group_line group ∷ []) text first
    → AreRead (at_size n group) (size_line (length program) ∷ program_bytes program ∷ []) first second
    → AreRead at_head (head_line ∷ ranks_line n ∷ group_line group ∷ size_line (length program) ∷ program_bytes program ∷ []) text second
read_lists n group program text first second front read =
    read_then at_head (head_line ∷ ranks_line n ∷ group_line group ∷ []) (size_line (length program) ∷ program_bytes program ∷ []) text first second front read

pub lists_before : (group : List ℕ) (lists : List (List Entry)) (parts : List LogPart) → lists_parts group lists [] ++ parts ≡ lists_parts group lists parts
lists_before [] lists parts = refl
lists_before (rank ∷ group) [] parts = refl
lists_before (rank ∷ group) (entries ∷ lists) parts =
    ap (λ ps. rank_line rank (length entries) ∷ ps) (append_assoc (map entry_part entries) (lists_parts group lists []) parts ∙ ap (λ ps. map entry_part entries ++ ps) (lists_before group lists parts))

-- the lists, and the last line after them
module _ (n : ℕ) (group text first : List ℕ) where
  pub lists_stopped : (rest : List ℕ) (stop : ReadError) → Reads {A = List (List Entry)} (at_list n group group) (λ lists. lists_parts group lists []) text (Err stop) rest
      → Reads (at_list n group group) (λ lists. lists_parts group lists (end_line ∷ [])) text (Err stop) []
  lists_stopped rest stop fault =
      reads_behind (at_list n group group) [] (λ lists. lists_parts group lists []) (λ lists. lists_parts group lists (end_line ∷ [])) text text rest [] stop tt refl fault

  after_all : (lists : List (List Entry)) → length lists ≡ length group → after (at_list n group group) (lists_parts group lists []) ≡ at_list n group []
  after_all lists many = after_lists n group group lists (omega arith) ∙ ap (at_list n group) (ap (λ k. drop k group) many ∙ drop-length group)

  pub end_stopped : (rest : List ℕ) (lists : List (List Entry)) (stop : ReadError) → length lists ≡ length group → AreRead (at_list n group group) (lists_parts group lists []) text first
      → Reads {A = Unit {0}} (at_list n group []) (λ _. end_line ∷ []) first (Err stop) rest → Reads (at_list n group group) (λ lists. lists_parts group lists (end_line ∷ [])) text (Err stop) []
  end_stopped rest lists stop many front fault =
      let P : ReadingState → Type 0 = λ s. Reads {A = Unit {0}} s (λ _. end_line ∷ []) first (Err stop) rest in
      reads_behind {A = Unit {0}} (at_list n group group) (lists_parts group lists []) (λ _. end_line ∷ []) (λ lists. lists_parts group lists (end_line ∷ [])) text first rest [] stop front.0 front.1 (subst P (sym (after_all lists many)) fault)

  pub end_read : (second : List ℕ) (lists : List (List Entry)) → length lists ≡ length group → AreRead (at_list n group group) (lists_parts group lists []) text first
      → AreRead (at_list n group []) (end_line ∷ []) first second
      → AreRead (at_list n group group) (lists_parts group lists (end_line ∷ [])) text second × (after (at_list n group group) (lists_parts group lists (end_line ∷ [])) ≡ at_end)
  end_read second lists many front read =
      let P : ReadingState → Type 0 = λ s. AreRead s (end_line ∷ []) first second in
      let to = after_all lists many in
      let both = read_then (at_list n group group) (lists_parts group lists []) (end_line ∷ []) text first second front (subst P (sym to) read) in
      let last : after (at_list n group group) (lists_parts group lists [] ++ end_line ∷ []) ≡ at_end = after_append (at_list n group group) (lists_parts group lists []) (end_line ∷ []) ∙ ap (λ s. after s (end_line ∷ [])) to in
      let Q : List LogPart → Type 0 = λ parts. AreRead (at_list n group group) parts text second × (after (at_list n group group) parts ≡ at_end) in
      subst Q (lists_before group lists (end_line ∷ [])) (both, last)

module _ {A : Type 0} (state : ReadingState) (spelled : A → List LogPart) (parts : List LogPart) (text second rest : List ℕ) where
  pub reads_extra : (left : ℕ) → AreRead state parts text second × (after state parts ≡ at_end) → rest ≡ second → left ≡ length rest → 0 < left → Reads state spelled text (Err (Fault Extra left)) []
  reads_extra left (read, to) same long some' =
      (parts, second, read.0, read.1, inr (long ∙ ap length same, inl (refl, to, λ none. let l : length second ≡ 0 = ap length none in let m : length rest ≡ length second = ap length same in omega arith)))

  pub read_all : AreRead state parts text second × (after state parts ≡ at_end) → rest ≡ second → ¬ (0 < length rest) → AreRead state parts text []
  read_all (read, to) same none =
      let empty : second ≡ [] = nil_from_length second (let m : length rest ≡ length second = ap length same in elim (cases_lt 0 (length rest)) [ inl more ↦ absurd (none more) | inr few ↦ omega arith ]) in
      let P : List ℕ → Type 0 = λ xs. AreRead state parts text xs in
      subst P empty read
