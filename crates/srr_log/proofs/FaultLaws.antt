-- A text has one log or one first fault, never both.
use Rattle.std.proofs.Common.{◌≡◌, ℕ, ◌+◌, ◌<◌, ◌≤◌, ◌⊎◌, inl, inr, List, [], ◌∷◌, ◌++◌, map, length, drop, get_or, replicate, refl, sym, ◌∙◌, ap, subst, arith, append_assoc, length-append}
use Rattle.std.specs.Prelude.{codes, Err}
use Rattle.std.proofs.lemmas.List.{append_cancel_right, append-nil, get_or-append-add, length-replicate}
use Rattle.srr_entry.specs.declared.entry.Entry.{Entry}
use Rattle.srr_entry.specs.declared.log.Log.{Log}
use Rattle.wiz_base.specs.Lines.{HasNoNewline}
use Rattle.srr_log.specs.declared.fault.LogFault.{LogFault}
use Rattle.srr_log.specs.declared.fault.LogWhy.{LogWhy}
use Rattle.srr_log.specs.declared.fault.LogWhy.TheVariants.{Short}
use Rattle.srr_log.specs.LogText.{log_text, IsLogText}
use Rattle.srr_log.specs.Bounds.{IsInBounds}
use Rattle.srr_log.specs.Parts.{LogPart, head_line, ranks_line, group_line, size_line, program_bytes, rank_line, entry_part, end_line, part_line, part_text, parts_text, lists_parts, log_parts, line}
use Rattle.srr_log.specs.Faults.{IsWhole, HasNoEnd, IsReason, IsShort, IsBad, IsExtra, IsFirstPartFault, no_memory}
use Rattle.srr_log.specs.inside.Reading.{ReadingState, at_head, at_ranks, at_group, at_size, at_program, at_list, at_entry, at_end, Allows, next, after, Runs, expected, IsOpen, FaultAt, FaultFrom, Reads}
use Rattle.srr_log.specs.Refused.{IsPlaced, IsWithin}
use Rattle.srr_log.proofs.PieceLaws.{some, split_once_at}
use Rattle.std.proofs.Math.Seq.{drop-length}
use Rattle.srr_log.specs.declared.read_error.ReadError.{ReadError}
use Rattle.srr_log.specs.declared.read_error.ReadError.TheVariants.{NoMemory, Fault}
use Rattle.srr_log.specs.inside.Pieces.{split_once}
use Rattle.srr_log.proofs.ReadLaws.{lists_before}
use Rattle.std.proofs.lemmas.Option.{some_pair_parts}
use Rattle.srr_log.proofs.StateLaws.{IsLineState, IsSmallState, line_in, line_read, no_newline, AreRead, after_lists, after_append, runs_split}
use Rattle.srr_log.proofs.LogLaws.{RunsTo, log_runs, some_log_runs, runs_some_log, IsReached, reached_next, reached_after, reached_small, expected_ok, goes_on, went_on}

-- pieces of one length, and lines, are told apart from what follows them
same_length : (xs ys rest rest' : List ℕ) → length xs ≡ length ys → xs ++ rest ≡ ys ++ rest' → (xs ≡ ys) × (rest ≡ rest')
same_length [] [] rest rest' many e = (refl, e)
same_length [] (y ∷ ys) rest rest' many e = absurd (omega arith)
same_length (x ∷ xs) [] rest rest' many e = absurd (omega arith)
same_length (x ∷ xs) (y ∷ ys) rest rest' many e =
    let same : (xs ≡ ys) × (rest ≡ rest') = same_length xs ys rest rest' (omega arith) (cc) in
    let first : x ≡ y = cc in
    let others = same.0 in
    (cc, same.1)

same_line : (xs ys rest rest' : List ℕ) → HasNoNewline xs → HasNoNewline ys → xs ++ 10 ∷ rest ≡ ys ++ 10 ∷ rest' → (xs ≡ ys) × (rest ≡ rest')
same_line xs ys rest rest' none none' e =
    some_pair_parts xs ys rest rest' (sym (split_once_at 10 xs rest none) ∙ ap (split_once 10) e ∙ split_once_at 10 ys rest' none')

newline_in : (xs rest : List ℕ) → HasNoNewline (xs ++ 10 ∷ rest) → ⊥
newline_in xs rest none =
    let long : length xs < length (xs ++ 10 ∷ rest) = let l = length-append xs (10 ∷ rest) in omega arith in
    let here : get_or (xs ++ 10 ∷ rest) (length xs) 0 ≡ 10 = ap (λ k. get_or (xs ++ 10 ∷ rest) k 0) (let z : length xs ≡ length xs + 0 = omega arith in z) ∙ get_or-append-add xs (10 ∷ rest) 0 0 in
    none (length xs) 0 long here

-- the parts that may come at one state are alike
record Alike (state : ReadingState) (part : LogPart) : Type 0 where
  ends : (rest : List ℕ) → HasNoEnd part rest → HasNoEnd (expected state) rest
  ends' : (rest : List ℕ) → HasNoEnd (expected state) rest → HasNoEnd part rest
  whole : (found : List ℕ) → IsWhole part found → IsWhole (expected state) found
  whole' : (found : List ℕ) → IsWhole (expected state) found → IsWhole part found
  reason : (found : List ℕ) (why : LogWhy) → IsReason part found why → IsReason (expected state) found why
  is_open : IsOpen state

alike : (state : ReadingState) (part : LogPart) → Allows state part → Alike state part
alike at_head head_line ok = record { ends = λ rest h. h; ends' = λ rest h. h; whole = λ found h. h; whole' = λ found h. h; reason = λ found why h. h; is_open = tt }
alike at_ranks (ranks_line ranks) ok = record { ends = λ rest h. h; ends' = λ rest h. h; whole = λ found h. h; whole' = λ found h. h; reason = λ found why h. h; is_open = tt }
alike (at_group n) (group_line group) ok = record { ends = λ rest h. h; ends' = λ rest h. h; whole = λ found h. h; whole' = λ found h. h; reason = λ found why h. h; is_open = tt }
alike (at_size n group) (size_line size) ok = record { ends = λ rest h. h; ends' = λ rest h. h; whole = λ found h. h; whole' = λ found h. h; reason = λ found why h. h; is_open = tt }
alike (at_program n group size) (program_bytes program) ok =
    let same : length program ≡ length (replicate size 0) = ok ∙ sym (length-replicate size 0) in
    record {
      ends = λ rest h. subst (λ k. length rest ≤ k) same h;
      ends' = λ rest h. subst (λ k. length rest ≤ k) (sym same) h;
      whole = λ found h. h ∙ ap (λ k. k + 1) same;
      whole' = λ found h. h ∙ ap (λ k. k + 1) (sym same);
      reason = λ found why h. h;
      is_open = tt;
    }
alike (at_list n group (rank ∷ ranks)) (rank_line named count) ok = record { ends = λ rest h. h; ends' = λ rest h. h; whole = λ found h. h; whole' = λ found h. h; reason = λ found why h. h; is_open = tt }
alike (at_list n group []) end_line ok = record { ends = λ rest h. h; ends' = λ rest h. h; whole = λ found h. h; whole' = λ found h. h; reason = λ found why h. h; is_open = tt }
alike (at_entry n group others ranks) (entry_part entry) ok = record { ends = λ rest h. h; ends' = λ rest h. h; whole = λ found h. h; whole' = λ found h. h; reason = λ found why h. h; is_open = tt }
alike state part ok = absurd ok

-- a part's end is one place
one_whole : (part : LogPart) (found found' behind behind' : List ℕ) → IsWhole part found → IsWhole part found' → found ++ behind ≡ found' ++ behind' → (found ≡ found') × (behind ≡ behind')
one_whole (program_bytes program) found found' behind behind' whole whole' e = same_length found found' behind behind' (whole ∙ sym whole') e
one_whole part found found' behind behind' (bytes, none, is) (bytes', none', is') e =
    let lines : bytes ++ 10 ∷ behind ≡ bytes' ++ 10 ∷ behind' =
    sym (append_assoc bytes (10 ∷ []) behind) ∙ ap (λ xs. xs ++ behind) (sym is) ∙ e ∙ ap (λ xs. xs ++ behind') is' ∙ append_assoc bytes' (10 ∷ []) behind' in
    let same = same_line bytes bytes' behind behind' none none' lines in
    (is ∙ ap (λ xs. xs ++ 10 ∷ []) same.0 ∙ sym is', same.1)

no_end_whole : (part : LogPart) (rest found behind : List ℕ) → HasNoEnd part rest → IsWhole part found → rest ≡ found ++ behind → ⊥
no_end_whole (program_bytes program) rest found behind none whole is =
    let long : length rest ≡ length found + length behind = ap length is ∙ length-append found behind in omega arith
no_end_whole part rest found behind none (bytes, plain, whole) is =
    newline_in bytes behind (subst HasNoNewline (is ∙ ap (λ xs. xs ++ behind) whole ∙ append_assoc bytes (10 ∷ []) behind) none)

one_reason : (part : LogPart) (found : List ℕ) (why why' : LogWhy) → IsReason part found why → IsReason part found why' → why ≡ why'
one_reason head_line found why why' (inl (is, other)) (inl (is', other')) = is ∙ sym is'
one_reason head_line found why why' (inl (is, other)) (inr (is', none)) = absurd (none other)
one_reason head_line found why why' (inr (is, none)) (inl (is', other)) = absurd (none other)
one_reason head_line found why why' (inr (is, none)) (inr (is', none')) = is ∙ sym is'
one_reason (ranks_line ranks) found why why' is is' = is ∙ sym is'
one_reason (group_line group) found why why' is is' = is ∙ sym is'
one_reason (size_line size) found why why' is is' = is ∙ sym is'
one_reason (program_bytes program) found why why' is is' = is ∙ sym is'
one_reason (rank_line rank count) found why why' is is' = is ∙ sym is'
one_reason (entry_part entry) found why why' is is' = is ∙ sym is'
one_reason end_line found why why' is is' = is ∙ sym is'

-- a part that may come is whole
part_whole : (state : ReadingState) (part : LogPart) → Allows state part → IsWhole part (part_text part)
part_whole at_head head_line ok = (codes "srr 1", no_newline at_head head_line tt ok, refl)
part_whole at_ranks (ranks_line ranks) ok = (part_line (ranks_line ranks), no_newline at_ranks (ranks_line ranks) tt ok, refl)
part_whole (at_group n) (group_line group) ok = (part_line (group_line group), no_newline (at_group n) (group_line group) tt ok, refl)
part_whole (at_size n group) (size_line size) ok = (part_line (size_line size), no_newline (at_size n group) (size_line size) tt ok, refl)
part_whole (at_program n group size) (program_bytes program) ok = length-append program (10 ∷ [])
part_whole (at_list n group (rank ∷ ranks)) (rank_line named count) ok = (part_line (rank_line named count), no_newline (at_list n group (rank ∷ ranks)) (rank_line named count) tt ok, refl)
part_whole (at_list n group []) end_line ok = (codes "end", no_newline (at_list n group []) end_line tt ok, refl)
part_whole (at_entry n group others ranks) (entry_part entry) ok = (part_line (entry_part entry), no_newline (at_entry n group others ranks) (entry_part entry) tt ok, refl)
part_whole state part ok = absurd ok

part_before : (part : LogPart) (behind : List ℕ) → part_text part ++ behind ≡ line (part_line part) behind
part_before part behind = append_assoc (part_line part) (10 ∷ []) behind

-- one part is first
same_by_line : (state : ReadingState) (part other : LogPart) → IsSmallState state → IsLineState state → Allows state part → Allows state other → part_text part ≡ part_text other → part ≡ other
same_by_line state part other small is ok ok' e =
    let lines = append_cancel_right (part_line part) (part_line other) (10 ∷ []) e in
    let both : some part ≡ some other = sym (line_read state part small is ok) ∙ ap (line_in state) lines ∙ line_read state other small is ok' in
    cc

same_text : (state : ReadingState) (part other : LogPart) → IsReached state → Allows state part → Allows state other → part_text part ≡ part_text other → part ≡ other
same_text (at_program n group size) (program_bytes program) (program_bytes program') reached ok ok' e = ap program_bytes (append_cancel_right program program' (10 ∷ []) e)
same_text (at_program n group size) (program_bytes program) other reached ok ok' e = absurd ok'
same_text (at_program n group size) part other reached ok ok' e = absurd ok
same_text at_end part other reached ok ok' e = absurd ok
same_text at_head part other reached ok ok' e = same_by_line at_head part other tt tt ok ok' e
same_text at_ranks part other reached ok ok' e = same_by_line at_ranks part other tt tt ok ok' e
same_text (at_group n) part other reached ok ok' e = same_by_line (at_group n) part other (reached_small (at_group n) reached) tt ok ok' e
same_text (at_size n group) part other reached ok ok' e = same_by_line (at_size n group) part other tt tt ok ok' e
same_text (at_list n group ranks) part other reached ok ok' e = same_by_line (at_list n group ranks) part other (reached_small (at_list n group ranks) reached) tt ok ok' e
same_text (at_entry n group others ranks) part other reached ok ok' e = same_by_line (at_entry n group others ranks) part other (reached_small (at_entry n group others ranks) reached) tt ok ok' e

first_part : (state : ReadingState) (part other : LogPart) (rest rest' : List ℕ) → IsReached state → Allows state part → Allows state other → line (part_line part) rest ≡ line (part_line other) rest' → (part ≡ other) × (rest ≡ rest')
first_part state part other rest rest' reached ok ok' e =
    let a = alike state part ok in
    let b = alike state other ok' in
    let texts : part_text part ++ rest ≡ part_text other ++ rest' = part_before part rest ∙ e ∙ sym (part_before other rest') in
    let same = one_whole (expected state) (part_text part) (part_text other) rest rest' (a.whole (part_text part) (part_whole state part ok)) (b.whole (part_text other) (part_whole state other ok')) texts in
    (same_text state part other reached ok ok' same.0, same.1)

-- so of two lists of parts in one text one begins the other
abbrev Begins : List LogPart → List LogPart → List ℕ → List ℕ → Type 0
Begins parts others rest rest' = (more : List LogPart) × (others ≡ parts ++ more) × (rest ≡ parts_text more rest')

compare : (state : ReadingState) (parts others : List LogPart) (rest rest' : List ℕ) → IsReached state → Runs state parts → Runs state others → parts_text parts rest ≡ parts_text others rest'
    → Begins parts others rest rest' ⊎ Begins others parts rest' rest
compare state [] others rest rest' reached run run' e = inl (others, refl, e)
compare state (part ∷ parts) [] rest rest' reached run run' e = inr (part ∷ parts, refl, sym e)
compare state (part ∷ parts) (other ∷ others) rest rest' reached (ok, run) (ok', run') e =
    let first = first_part state part other (parts_text parts rest) (parts_text others rest') reached ok ok' e in
    let run'' : Runs (next state part) others = subst (λ p. Runs (next state p) others) (sym first.0) run' in
    elim (compare (next state part) parts others rest rest' (reached_next state part reached ok) run run'' first.1) [
      | inl (more, is, left) ↦ inl (more, ap (λ ps. other ∷ ps) is ∙ ap (λ p. p ∷ (parts ++ more)) (sym first.0), left)
      | inr (more, is, left) ↦ inr (more, ap (λ ps. part ∷ ps) is ∙ ap (λ p. p ∷ (others ++ more)) first.0, left)
    ]

-- where there is a fault, no part that may come is there
fault_no_part : (state : ReadingState) (part : LogPart) (rest behind : List ℕ) (why : LogWhy) (left : ℕ) → FaultAt state rest why left → Allows state part → rest ≡ line (part_line part) behind → ⊥
fault_no_part state part rest behind why left (inl (short, end, open', none)) ok is =
    no_end_whole part rest (part_text part) behind ((alike state part ok).ends' rest none) (part_whole state part ok) (is ∙ sym (part_before part behind))
fault_no_part state part rest behind why left (inr (long, inl (extra, ended, some'))) ok is = let P : ReadingState → Type 0 = λ s. Allows s part in subst P ended ok
fault_no_part state part rest behind why left (inr (long, inr bad)) ok is =
    let a = alike state part ok in
    let same = one_whole (expected state) (part_text part) bad.found behind bad.behind (a.whole (part_text part) (part_whole state part ok)) bad.whole (part_before part behind ∙ sym is ∙ bad.is) in
    bad.none part ok same.0

open_end : (state : ReadingState) → IsOpen state → state ≡ at_end → ⊥
open_end state open' ended = subst IsOpen ended open'

-- there is one fault there
fault_one : (state : ReadingState) (rest : List ℕ) (why why' : LogWhy) (left left' : ℕ) → FaultAt state rest why left → FaultAt state rest why' left' → (why ≡ why') × (left ≡ left')
fault_one state rest why why' left left' (inl (short, end, open', none)) (inl (short', end', open'', none')) = (short ∙ sym short', end ∙ sym end')
fault_one state rest why why' left left' (inl (short, end, open', none)) (inr (long, inl (extra, ended, some'))) = absurd (open_end state open' ended)
fault_one state rest why why' left left' (inl (short, end, open', none)) (inr (long, inr bad)) = absurd (no_end_whole (expected state) rest bad.found bad.behind none bad.whole bad.is)
fault_one state rest why why' left left' (inr (long, inl (extra, ended, some'))) (inl (short, end, open', none)) = absurd (open_end state open' ended)
fault_one state rest why why' left left' (inr (long, inl (extra, ended, some'))) (inr (long', inl (extra', ended', some''))) = (extra ∙ sym extra', long ∙ sym long')
fault_one state rest why why' left left' (inr (long, inl (extra, ended, some'))) (inr (long', inr bad)) = absurd (open_end state bad.open' ended)
fault_one state rest why why' left left' (inr (long, inr bad)) (inl (short, end, open', none)) = absurd (no_end_whole (expected state) rest bad.found bad.behind none bad.whole bad.is)
fault_one state rest why why' left left' (inr (long, inr bad)) (inr (long', inl (extra, ended, some'))) = absurd (open_end state bad.open' ended)
fault_one state rest why why' left left' (inr (long, inr bad)) (inr (long', inr bad')) =
    let same = one_whole (expected state) bad.found bad'.found bad.behind bad'.behind bad.whole bad'.whole (sym bad.is ∙ bad'.is) in
    (one_reason (expected state) bad'.found why why' (subst (λ f. IsReason (expected state) f why) same.0 bad.reason) bad'.reason, long ∙ sym long')

-- of a whole text
begun_fault : (state : ReadingState) (parts others : List LogPart) (rest rest' : List ℕ) (why why' : LogWhy) (left left' : ℕ) → Runs state parts → Runs state others → Begins parts others rest rest'
    → FaultAt (after state parts) rest why left → FaultAt (after state others) rest' why' left' → (why ≡ why') × (left ≡ left')
begun_fault state parts others rest rest' why why' left left' run run' ([], is, same) fault fault' =
    let here : FaultAt (after state parts) rest' why' left' = subst (λ ps. FaultAt (after state ps) rest' why' left') (is ∙ append-nil parts) fault' in
    fault_one (after state parts) rest why why' left left' fault (subst (λ xs. FaultAt (after state parts) xs why' left') (sym same) here)
begun_fault state parts others rest rest' why why' left left' run run' (part ∷ more, is, same) fault fault' =
    let both = runs_split state parts (part ∷ more) (subst (Runs state) is run') in
    absurd (fault_no_part (after state parts) part rest (parts_text more rest') why left fault both.1.0 same)

pub one_fault_from : (text : List ℕ) (why why' : LogWhy) (left left' : ℕ) → FaultFrom at_head text why left → FaultFrom at_head text why' left' → (why ≡ why') × (left ≡ left')
one_fault_from text why why' left left' (parts, rest, run, is, fault) (others, rest', run', is', fault') =
    elim (compare at_head parts others rest rest' tt run run' (sym is ∙ is')) [
      | inl begins ↦ begun_fault at_head parts others rest rest' why why' left left' run run' begins fault fault'
      | inr begins ↦ let same = begun_fault at_head others parts rest' rest why' why left' left run' run begins fault' fault in (sym same.0, sym same.1)
    ]

-- parts that run to the end, before other bytes
to_the_end : (parts others : List LogPart) (rest rest' : List ℕ) → RunsTo at_head parts → Runs at_head others → Begins parts others rest rest' → (others ≡ parts) × (rest ≡ rest')
to_the_end parts others rest rest' to run ([], is, same) = (is ∙ append-nil parts, same)
to_the_end parts others rest rest' to run (part ∷ more, is, same) =
    let both = runs_split at_head parts (part ∷ more) (subst (Runs at_head) is run) in
    let P : ReadingState → Type 0 = λ s. Allows s part in absurd (subst P to.1 both.1.0)

none_at_end : (why : LogWhy) (left : ℕ) → FaultAt at_end [] why left → ⊥
none_at_end why left (inl (short, end, open', none)) = open'
none_at_end why left (inr (long, inl (extra, ended, some'))) = some' refl
none_at_end why left (inr (long, inr bad)) = bad.open'

begun_none : (parts others : List LogPart) (rest : List ℕ) (why : LogWhy) (left : ℕ) → Runs at_head parts → RunsTo at_head others → Begins parts others rest [] → FaultAt (after at_head parts) rest why left → ⊥
begun_none parts others rest why left run to ([], is, same) fault =
    let here : FaultAt (after at_head others) rest why left = subst (λ ps. FaultAt (after at_head ps) rest why left) (sym (is ∙ append-nil parts)) fault in
    none_at_end why left (subst (λ xs. FaultAt at_end xs why left) same (subst (λ s. FaultAt s rest why left) to.1 here))
begun_none parts others rest why left run to (part ∷ more, is, same) fault =
    let both = runs_split at_head parts (part ∷ more) (subst (Runs at_head) is to.0) in
    fault_no_part (after at_head parts) part rest (parts_text more []) why left fault both.1.0 same

pub whole_or_none : (text : List ℕ) (others : List LogPart) (why : LogWhy) (left : ℕ) → RunsTo at_head others → text ≡ parts_text others [] → FaultFrom at_head text why left → ⊥
whole_or_none text others why left to is' (parts, rest, run, is, fault) =
    elim (compare at_head parts others rest [] tt run to.0 (sym is ∙ is')) [
      | inl begins ↦ begun_none parts others rest why left run to begins fault
      | inr begins ↦
          let same = to_the_end others parts [] rest to run begins in
          begun_none parts others rest why left run to ([], sym same.0 ∙ sym (append-nil parts), sym same.1) fault
    ]

pub whole_one : (parts others : List LogPart) (more : List ℕ) → RunsTo at_head parts → RunsTo at_head others → parts_text parts more ≡ parts_text others [] → (others ≡ parts) × (more ≡ [])
whole_one parts others more to to' e =
    elim (compare at_head parts others more [] tt to.0 to'.0 e) [
      | inl begins ↦ to_the_end parts others more [] to to'.0 begins
      | inr begins ↦ let same = to_the_end others parts [] more to' to.0 begins in (sym same.0, sym same.1)
    ]

-- one log has these parts
entries_one : (entries others : List Entry) (parts parts' : List LogPart) → length entries ≡ length others → map entry_part entries ++ parts ≡ map entry_part others ++ parts' → (entries ≡ others) × (parts ≡ parts')
entries_one [] [] parts parts' many e = (refl, e)
entries_one [] (other ∷ others) parts parts' many e = absurd (omega arith)
entries_one (entry ∷ entries) [] parts parts' many e = absurd (omega arith)
entries_one (entry ∷ entries) (other ∷ others) parts parts' many e =
    let later : map entry_part entries ++ parts ≡ map entry_part others ++ parts' = cc in
    let first : entry ≡ other = cc in
    let same = entries_one entries others parts parts' (omega arith) later in
    let behind = same.0 in
    (cc, same.1)

lists_one : (group : List ℕ) (lists others : List (List Entry)) (parts : List LogPart) → length lists ≡ length group → length others ≡ length group → lists_parts group lists parts ≡ lists_parts group others parts → lists ≡ others
lists_one [] [] [] parts many many' e = refl
lists_one [] (list ∷ lists) others parts many many' e = absurd (omega arith)
lists_one [] [] (other ∷ others) parts many many' e = absurd (omega arith)
lists_one (rank ∷ group) [] others parts many many' e = absurd (omega arith)
lists_one (rank ∷ group) (list ∷ lists) [] parts many many' e = absurd (omega arith)
lists_one (rank ∷ group) (list ∷ lists) (other ∷ others) parts many many' e =
    let count : length list ≡ length other = cc in
    let later : map entry_part list ++ lists_parts group lists parts ≡ map entry_part other ++ lists_parts group others parts = cc in
    let same = entries_one list other (lists_parts group lists parts) (lists_parts group others parts) count later in
    let behind = lists_one group lists others parts (omega arith) (omega arith) same.1 in
    let here = same.0 in cc

same_log : (n n' : ℕ) (group group' program program' : List ℕ) (lists lists' : List (List Entry)) → n ≡ n' → group ≡ group' → program ≡ program' → lists ≡ lists'
    → ◌≡◌ {A = Log} (record { ranks = n; group = group; program = program; lists = lists }) (record { ranks = n'; group = group'; program = program'; lists = lists' })
same_log n n' group group' program program' lists lists' a b c d = cc

pub one_log_of : (log other : Log) → length log.lists ≡ length log.group → length other.lists ≡ length other.group → log_parts log ≡ log_parts other → log ≡ other
one_log_of log other many many' e =
    let ranks : log.ranks ≡ other.ranks = cc in
    let groups : log.group ≡ other.group = cc in
    let programs : log.program ≡ other.program = cc in
    let listed : lists_parts log.group log.lists (end_line ∷ []) ≡ lists_parts other.group other.lists (end_line ∷ []) = cc in
    let listed' = listed ∙ ap (λ g. lists_parts g other.lists (end_line ∷ [])) (sym groups) in
    same_log log.ranks other.ranks log.group other.group log.program other.program log.lists other.lists ranks groups programs
    (lists_one log.group log.lists other.lists (end_line ∷ []) many (many' ∙ ap length (sym groups)) listed')

-- by the texts of logs alone
pub first_fault : (text : List ℕ) (at left : ℕ) (why : LogWhy) → FaultFrom at_head text why left → at + left ≡ length text → IsFirstPartFault text (record { at = at; why = why })
first_fault text at left why (parts, rest, run, is, fault) place = (parts, rest, is, by fault)
  where
    by : FaultAt (after at_head parts) rest why left → ((why ≡ Short) × (at ≡ length text) × IsShort parts rest) ⊎ ((at + length rest ≡ length text) × (IsExtra parts rest why ⊎ IsBad parts rest why))
    by (inl (short, end, open', none)) =
        let ok = expected_ok (after at_head parts) (reached_after at_head parts tt run) open' in
        let on = goes_on parts (expected (after at_head parts)) run ok in
        inl (short, omega arith, record { next = expected (after at_head parts); more = on.0; goes_on = on.1; no_end = none })
    by (inr (long, inl (extra, ended, some'))) = inr (omega arith, inl (extra, runs_some_log parts (run, ended), some'))
    by (inr (long, inr bad)) =
        let ok = expected_ok (after at_head parts) (reached_after at_head parts tt run) bad.open' in
        let on = goes_on parts (expected (after at_head parts)) run ok in
        inr (
          omega arith,
          inr record {
            next = expected (after at_head parts);
            more = on.0;
            goes_on = on.1;
            found = bad.found;
            behind = bad.behind;
            whole = bad.whole;
            is = bad.is;
            none = λ part more some' e. bad.none part (went_on parts part more some').1 e;
            reason = bad.reason;
          },
        )

pub fault_first : (text : List ℕ) (fault : LogFault) → IsFirstPartFault text fault → (left : ℕ) × (fault.at + left ≡ length text) × FaultFrom at_head text fault.why left
fault_first text fault (parts, rest, is, inl (short, at, there)) =
    let went = went_on parts there.next there.more there.goes_on in
    let a = alike (after at_head parts) there.next went.1 in
    (0, omega arith, (parts, rest, went.0, is, inl (short, refl, a.is_open, a.ends rest there.no_end)))
fault_first text fault (parts, rest, is, inr (place, inl (extra, log, some'))) =
    let to = some_log_runs parts log in
    (length rest, place, (parts, rest, to.0, is, inr (refl, inl (extra, to.1, some'))))
fault_first text fault (parts, rest, is, inr (place, inr there)) =
    let went = went_on parts there.next there.more there.goes_on in
    let a = alike (after at_head parts) there.next went.1 in (
      length rest,
      place,
      (
        parts,
        rest,
        went.0,
        is,
        inr (
          refl,
          inr record {
            open' = a.is_open;
            found = there.found;
            behind = there.behind;
            whole = a.whole there.found there.whole;
            is = there.is;
            none = λ part ok e. let on = goes_on parts part went.0 ok in there.none part on.0 on.1 e;
            reason = a.reason there.found fault.why there.reason;
          },
        ),
      ),
    )

-- the laws
same_fault : (at at' : ℕ) (why why' : LogWhy) → at ≡ at' → why ≡ why' → ◌≡◌ {A = LogFault} (record { at = at; why = why }) (record { at = at'; why = why' })
same_fault at at' why why' p q = cc

pub one_first_fault : (text : List ℕ) (fault other : LogFault) → IsFirstPartFault text fault → IsFirstPartFault text other → fault ≡ other
one_first_fault text fault other is is' =
    let a = fault_first text fault is in
    let b = fault_first text other is' in
    let same = one_fault_from text fault.why other.why a.0 b.0 a.2 b.2 in
    let place : fault.at ≡ other.at = let p = a.1 in let q = b.1 in let r = same.1 in omega arith in
    same_fault fault.at other.at fault.why other.why place same.0

pub fault_or_log : (text : List ℕ) (log : Log) (fault : LogFault) → IsLogText text log → IsFirstPartFault text fault → ⊥
fault_or_log text log fault (is, bounds) first =
    let a = fault_first text fault first in
    whole_or_none text (log_parts log) fault.why a.0 (log_runs log bounds) is a.2

parts_text-behind : (parts : List LogPart) (behind more : List ℕ) → parts_text parts behind ++ more ≡ parts_text parts (behind ++ more)
parts_text-behind [] behind more = refl
parts_text-behind (part ∷ parts) behind more = append_assoc (part_line part) (10 ∷ parts_text parts behind) more ∙ ap (line (part_line part)) (parts_text-behind parts behind more)

pub no_beginning : (log other : Log) (more : List ℕ) → IsInBounds log → IsInBounds other → log_text log ++ more ≡ log_text other → (log ≡ other) × (more ≡ [])
no_beginning log other more bounds bounds' e =
    let texts : parts_text (log_parts log) more ≡ parts_text (log_parts other) [] =
    sym (parts_text-behind (log_parts log) [] more) ∙ e in
    let same = whole_one (log_parts log) (log_parts other) more (log_runs log bounds) (log_runs other bounds') texts in
    (one_log_of log other bounds.as_many bounds'.as_many (sym same.0), same.1)

pub one_log : (text : List ℕ) (log other : Log) → IsLogText text log → IsLogText text other → log ≡ other
one_log text log other (is, bounds) (is', bounds') = (no_beginning log other [] bounds bounds' (append-nil (log_text log) ∙ sym is ∙ is')).0

-- what the reader of parts answers
parts_text_long : (parts : List LogPart) (rest : List ℕ) → length rest ≤ length (parts_text parts rest)
parts_text_long [] rest = omega arith
parts_text_long (part ∷ parts) rest =
    let later = parts_text_long parts rest in
    let long = length-append (part_line part) (10 ∷ parts_text parts rest) in omega arith

pub fault_within : (text : List ℕ) (why : LogWhy) (left : ℕ) → FaultFrom at_head text why left → left ≤ length text
fault_within text why left (parts, rest, run, is, fault) =
    let long : length rest ≤ length text = subst (λ xs. length rest ≤ length xs) (sym is) (parts_text_long parts rest) in
    elim fault [
      | inl short ↦ let none = short.1 in omega arith
      | inr (whole, other) ↦ omega arith
    ]

pub stop_within : (text rest : List ℕ) (stop : ReadError) → Reads at_head log_parts text (Err stop) rest → IsWithin stop (length text)
stop_within text rest NoMemory fault = tt
stop_within text rest (Fault why left) fault = fault_within text why left fault

pub stop_fault : (text rest : List ℕ) (stop : ReadError) (fault : LogFault) → Reads at_head log_parts text (Err stop) rest → IsPlaced stop (length text) fault → (fault ≡ no_memory) ⊎ IsFirstPartFault text fault
stop_fault text rest NoMemory fault read placed = inl placed
stop_fault text rest (Fault why left) fault read placed =
    inr (subst (IsFirstPartFault text) (same_fault fault.at fault.at why fault.why refl (sym placed.0)) (first_fault text fault.at left why read placed.1))

after_log : (log : Log) → length log.lists ≡ length log.group → after at_head (log_parts log) ≡ at_end
after_log log many =
    ap (after (at_list log.ranks log.group log.group)) (sym (lists_before log.group log.lists (end_line ∷ [])))
    ∙ after_append (at_list log.ranks log.group log.group) (lists_parts log.group log.lists []) (end_line ∷ [])
    ∙ ap (λ s. after s (end_line ∷ [])) (after_lists log.ranks log.group log.group log.lists (omega arith) ∙ ap (at_list log.ranks log.group) (ap (λ k. drop k log.group) many ∙ drop-length log.group))

bounds_from : (log : Log) → Runs at_head (log_parts log) → length log.lists ≡ length log.group → IsInBounds log
bounds_from log run many =
    let some' = runs_some_log (log_parts log) (run, after_log log many) in
    subst IsInBounds (one_log_of some'.0 log some'.1.as_many many some'.2) some'.1

pub read_is_log : (text : List ℕ) (log : Log) → AreRead at_head (log_parts log) text [] → length log.lists ≡ length log.group → IsLogText text log
read_is_log text log read many = (read.1, bounds_from log read.0 many)
