-- Each line, both ways.
use Rattle.std.proofs.Common.{◌≡◌, ◌≢◌, ℕ, ◌<◌, ◌≤◌, inl, inr, true, false, List, [], ◌∷◌, ◌++◌, map, length, refl, sym, ◌∙◌, ap, subst, arith, eq-eqb}
use Rattle.std.specs.Prelude.{◌==◌, ◌&&◌, codes, None, nat_lt, if◌then◌else◌}
use Rattle.std.proofs.lemmas.Bool.{eqb-true, lt-ltb, ltb-true, ltb-false, and_cases, false_from_ne_true, and_parts, true≢false}
use Rattle.std.proofs.lemmas.List.{append_cancel_right}
use Rattle.srr_entry.specs.declared.entry.Entry.{Entry}
use Rattle.wiz_base.specs.Decimals.{decimal_text}
use Rattle.wiz_base.specs.Readings.{IsDecimal}
use Rattle.wiz_base.proofs.DecimalLaws.{decimal_text-digit}
use Rattle.srr_log.specs.declared.fault.LogWhy.TheVariants.{BadHead, BadVersion}
use Rattle.srr_log.specs.EntryText.{each_after, entry_line}
use Rattle.srr_log.specs.Bounds.{IsGroup, IsEntry, is_last}
use Rattle.srr_log.specs.Faults.{IsReason}
use Rattle.srr_log.specs.Parts.{head_line}
use Rattle.srr_log.specs.inside.Pieces.{◌>>=◌, after_word, split_once, number_in}
use Rattle.mpi_call.specs.Lists.{rises}
use Rattle.srr_log.specs.inside.EntryReading.{ranks_in, entry_in}
use Rattle.srr_log.specs.inside.LineReading.{ranks_line_in, group_line_in, size_line_in, rank_line_in, entry_line_in}
use Rattle.srr_log.proofs.PieceLaws.{some, bind_some, guard_some, guard_none, behind_word, behind_some, split_once_at, split_once_some, number_read, number_said}
use Rattle.srr_log.proofs.NoByteLaws.{no_byte_decimal}
use Rattle.srr_log.proofs.MarkLaws.{rises_rise, rise_rises, ranks_read, ranks_said}
use Rattle.srr_log.proofs.EntryLaws.{entry_read, entry_said}

-- the number of ranks
pub ranks_line_read : (ranks : ℕ) → (0 < ranks) → (ranks ≤ 64) → ranks_line_in (codes "ranks " ++ decimal_text ranks) ≡ some ranks
unfolding ranks_line_in
ranks_line_read ranks above few = rw (behind_word (codes "ranks ") (decimal_text ranks), number_read 64 ranks few, lt-ltb 0 ranks above) refl

pub ranks_line_said : (line : List ℕ) (ranks : ℕ) → ranks_line_in line ≡ some ranks → (0 < ranks) × (ranks ≤ 64) × (line ≡ codes "ranks " ++ decimal_text ranks)
unfolding ranks_line_in
ranks_line_said line ranks e =
    let a = bind_some (after_word (codes "ranks ") line) (λ text. number_in 64 text >>= λ ranks. if nat_lt 0 ranks then some ranks else None) ranks e in
    let b = bind_some (number_in 64 a.0) (λ ranks. if nat_lt 0 ranks then some ranks else None) ranks a.2 in
    let g = guard_some (nat_lt 0 b.0) b.0 ranks b.2 in
    let said = number_said 64 a.0 b.0 b.1 in
    let P : ℕ → Type 0 = λ ranks. (0 < ranks) × (ranks ≤ 64) × (line ≡ codes "ranks " ++ decimal_text ranks) in
    subst P g.1 (ltb-true 0 b.0 g.0, said.0, behind_some (codes "ranks ") line a.0 a.1 ∙ ap (λ xs. codes "ranks " ++ xs) said.1)

-- the group
pub group_line_read : (n : ℕ) (group : List ℕ) → n ≤ 256 → IsGroup n group → group_line_in n (codes "group" ++ each_after 32 (map decimal_text group)) ≡ some group
unfolding group_line_in
group_line_read n [] few good = absurd (let some' = good.0 in omega arith)
group_line_read n (rank ∷ group) few good =
    rw (behind_word (codes "group ") (decimal_text rank ++ each_after 32 (map decimal_text group)), ranks_read 32 n rank group (omega arith) few good.2, rise_rises 0 (rank ∷ group) good.1) refl

pub group_line_said : (n : ℕ) (line group : List ℕ) → group_line_in n line ≡ some group → IsGroup n group × (line ≡ codes "group" ++ each_after 32 (map decimal_text group))
unfolding group_line_in
group_line_said n line group e =
    let a = bind_some (after_word (codes "group ") line) (λ text. ranks_in 32 n text >>= λ group. if rises 0 group then some group else None) group e in
    let b = bind_some (ranks_in 32 n a.0) (λ group. if rises 0 group then some group else None) group a.2 in
    let g = guard_some (rises 0 b.0) b.0 group b.2 in
    let said = ranks_said 32 n a.0 b.0 b.1 in
    let long : 0 < length b.0 = let many : length b.0 ≡ length (said.0 ∷ said.1) = ap length said.2 in omega arith in
    let P : List ℕ → Type 0 = λ group. IsGroup n group × (line ≡ codes "group" ++ each_after 32 (map decimal_text group)) in
    subst P g.1 ((long, rises_rise 0 b.0 g.0, said.3), behind_some (codes "group ") line a.0 a.1 ∙ ap (λ xs. codes "group " ++ xs) said.4 ∙ ap (λ xs. codes "group" ++ each_after 32 (map decimal_text xs)) (sym said.2))

-- the program's size
pub size_line_read : (size : ℕ) → size ≤ 65536 → size_line_in (codes "program " ++ decimal_text size) ≡ some size
unfolding size_line_in
size_line_read size fits = rw (behind_word (codes "program ") (decimal_text size)) (number_read 65536 size fits)

pub size_line_said : (line : List ℕ) (size : ℕ) → size_line_in line ≡ some size → (size ≤ 65536) × (line ≡ codes "program " ++ decimal_text size)
unfolding size_line_in
size_line_said line size e =
    let a = bind_some (after_word (codes "program ") line) (λ text. number_in 65536 text) size e in
    let said = number_said 65536 a.0 size a.2 in
    (said.0, behind_some (codes "program ") line a.0 a.1 ∙ ap (λ xs. codes "program " ++ xs) said.1)

-- a rank's line
pub rank_line_read : (rank count : ℕ) → rank ≤ 255 → count ≤ 999064 → rank_line_in rank (codes "rank " ++ decimal_text rank ++ (32 ∷ decimal_text count)) ≡ some count
unfolding rank_line_in
rank_line_read rank count small fits =
    rw (
      behind_word (codes "rank ") (decimal_text rank ++ 32 ∷ decimal_text count),
      split_once_at 32 (decimal_text rank) (decimal_text count) (no_byte_decimal 32 rank (omega arith)),
      number_read 255 rank small,
      number_read 999064 count fits,
      eq-eqb rank rank refl,
    ) refl

pub rank_line_said : (rank : ℕ) (line : List ℕ) (count : ℕ) → rank_line_in rank line ≡ some count → (count ≤ 999064) × (line ≡ codes "rank " ++ decimal_text rank ++ (32 ∷ decimal_text count))
unfolding rank_line_in
rank_line_said rank line count e =
    let a = bind_some (after_word (codes "rank ") line) (λ text. split_once 32 text >>= λ parts. number_in 255 parts.0 >>= λ named. number_in 999064 parts.1 >>= λ count. if named == rank then some count else None) count e in
    let b = bind_some (split_once 32 a.0) (λ parts. number_in 255 parts.0 >>= λ named. number_in 999064 parts.1 >>= λ count. if named == rank then some count else None) count a.2 in
    let d = bind_some (number_in 255 b.0.0) (λ named. number_in 999064 b.0.1 >>= λ count. if named == rank then some count else None) count b.2 in
    let f = bind_some (number_in 999064 b.0.1) (λ count. if d.0 == rank then some count else None) count d.2 in
    let g = guard_some (d.0 == rank) f.0 count f.2 in
    let named = number_said 255 b.0.0 d.0 d.1 in
    let said = number_said 999064 b.0.1 f.0 f.1 in
    let P : ℕ → Type 0 = λ count. (count ≤ 999064) × (line ≡ codes "rank " ++ decimal_text rank ++ (32 ∷ decimal_text count)) in
    subst P g.1 (
      said.0,
      behind_some (codes "rank ") line a.0 a.1
          ∙ ap (λ xs. codes "rank " ++ xs) (split_once_some 32 a.0 b.0.0 b.0.1 b.1 ∙ ap (λ xs. xs ++ 32 ∷ b.0.1) (named.1 ∙ ap decimal_text (eqb-true d.0 rank g.0)) ∙ ap (λ xs. decimal_text rank ++ 32 ∷ xs) said.1),
    )

no_others : (others : ℕ) → nat_lt 0 others ≡ false → others ≡ 0
no_others others none = let few = ltb-false 0 others none in omega arith

-- an entry before others
pub entry_line_read : (n : ℕ) (group : List ℕ) (others : ℕ) (entry : Entry) → n ≤ 256 → IsEntry n group entry → (is_last entry ≡ true → others ≡ 0)
    → entry_line_in n group others (entry_line entry) ≡ some entry
unfolding entry_line_in
entry_line_read n group others entry few good last =
    let test : (is_last entry && nat_lt 0 others) ≡ false = false_from_ne_true (is_last entry && nat_lt 0 others) (λ e.
    let parts = and_parts (is_last entry) (nat_lt 0 others) e in
    let none = last parts.0 in
    let some' = ltb-true 0 others parts.1 in omega arith) in
    rw (entry_read n group few entry good, test) refl

pub entry_line_said : (n : ℕ) (group : List ℕ) (others : ℕ) (line : List ℕ) (entry : Entry) → entry_line_in n group others line ≡ some entry
    → IsEntry n group entry × (is_last entry ≡ true → others ≡ 0) × (line ≡ entry_line entry)
unfolding entry_line_in
entry_line_said n group others line entry e =
    let a = bind_some (entry_in n group line) (λ entry. if is_last entry && nat_lt 0 others then None else some entry) entry e in
    let g = guard_none (is_last a.0 && nat_lt 0 others) a.0 entry a.2 in
    let said = entry_said n group line a.0 a.1 in
    let alone : is_last a.0 ≡ true → others ≡ 0 = λ last. elim (and_cases (is_last a.0) (nat_lt 0 others) g.0) [
      | inl not_last ↦ absurd (true≢false (sym last ∙ not_last))
      | inr none ↦ no_others others none
    ] in
    let P : Entry → Type 0 = λ entry. IsEntry n group entry × (is_last entry ≡ true → others ≡ 0) × (line ≡ entry_line entry) in
    subst P g.1 (said.0, alone, said.1)

-- why a first line is refused
version_line : (line : List ℕ) (version : ℕ) → line ++ 10 ∷ [] ≡ codes "srr " ++ decimal_text version ++ 10 ∷ [] → line ≡ codes "srr " ++ decimal_text version
version_line line version e = append_cancel_right line (codes "srr " ++ decimal_text version) (10 ∷ []) e

pub other_version : (line text : List ℕ) → line ≢ codes "srr 1" → after_word (codes "srr ") line ≡ some text → IsDecimal text → IsReason head_line (line ++ 10 ∷ []) BadVersion
other_version line text apart is (version, spelled) =
    let whole : line ≡ codes "srr " ++ decimal_text version = behind_some (codes "srr ") line text is ∙ ap (λ xs. codes "srr " ++ xs) spelled in
    inl (refl, (version, λ one. apart (whole ∙ ap (λ v. codes "srr " ++ decimal_text v) one ∙ ap (λ xs. codes "srr " ++ xs) (decimal_text-digit 1 (omega arith))), ap (λ xs. xs ++ 10 ∷ []) whole))

pub no_version : (line : List ℕ) → ((version : ℕ) → line ≢ codes "srr " ++ decimal_text version) → IsReason head_line (line ++ 10 ∷ []) BadHead
no_version line none = inr (refl, λ (version, other, is). none version (version_line line version is))

pub none_behind : (line : List ℕ) → after_word (codes "srr ") line ≡ None → (version : ℕ) → line ≢ codes "srr " ++ decimal_text version
none_behind line none version e =
    let found : some (decimal_text version) ≡ None = sym (behind_word (codes "srr ") (decimal_text version)) ∙ ap (after_word (codes "srr ")) (sym e) ∙ none in
    absurd (cc)

pub no_decimal : (line text : List ℕ) → after_word (codes "srr ") line ≡ some text → ¬ (IsDecimal text) → (version : ℕ) → line ≢ codes "srr " ++ decimal_text version
no_decimal line text is none version e =
    let same : some text ≡ some (decimal_text version) = sym is ∙ ap (after_word (codes "srr ")) e ∙ behind_word (codes "srr ") (decimal_text version) in
    none (version, cc)
