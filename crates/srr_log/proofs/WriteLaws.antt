-- A text grows list by list.
use Rattle.std.proofs.Common.{◌≡◌, ℕ, suc, ◌+◌, ◌<◌, List, [], ◌∷◌, ◌++◌, map, length, get_or, drop, refl, sym, ◌∙◌, ap, arith, append_assoc}
use Rattle.std.specs.Prelude.{codes}
use Rattle.std.proofs.Math.Seq.{drop-cons}
use Rattle.srr_entry.specs.declared.entry.Entry.{Entry}
use Rattle.srr_entry.specs.declared.log.Log.{Log}
use Rattle.wiz_base.specs.Decimals.{decimal_text}
use Rattle.srr_log.specs.EntryText.{entry_line, each_after}
use Rattle.srr_log.specs.LogText.{log_text}
use Rattle.srr_log.specs.Parts.{LogPart, end_line, entry_part, line, lists_parts, parts_text}
use Rattle.srr_log.specs.inside.Written.{head_text, group_text, program_text, entries_text, list_head_text, list_text, lists_text, written_text}
use Rattle.srr_log.proofs.StateLaws.{parts_text-append}

line_append : (bytes behind more : List ℕ) → line bytes behind ++ more ≡ line bytes (behind ++ more)
line_append bytes behind more = append_assoc bytes (10 ∷ behind) more

entries_append : (entries : List Entry) (behind more : List ℕ) → entries_text entries behind ++ more ≡ entries_text entries (behind ++ more)
entries_append [] behind more = refl
entries_append (entry ∷ entries) behind more = line_append (entry_line entry) (entries_text entries behind) more ∙ ap (line (entry_line entry)) (entries_append entries behind more)

list_append : (rank : ℕ) (entries : List Entry) (more : List ℕ) → list_text rank entries [] ++ more ≡ list_text rank entries more
list_append rank entries more =
    line_append (codes "rank " ++ decimal_text rank ++ (32 ∷ decimal_text (length entries))) (entries_text entries []) more ∙ ap (list_head_text rank (length entries)) (entries_append entries [] more)

-- one list more
pub lists_onward : (out now all : List ℕ) (group : List ℕ) (lists : List (List Entry)) (index rank : ℕ) (entries : List Entry) → index < length group → index < length lists
    → rank ≡ get_or group index 0 → entries ≡ get_or lists index entries → now ≡ out ++ list_text rank entries []
    → out ++ lists_text (drop index group) (drop index lists) [] ≡ all → now ++ lists_text (drop (index + 1) group) (drop (index + 1) lists) [] ≡ all
lists_onward out now all group lists index rank entries within within' named listed grown so_far =
    let others = lists_text (drop (index + 1) group) (drop (index + 1) lists) [] in
    let next : suc index ≡ index + 1 = omega arith in
    let lists_are : drop index lists ≡ entries ∷ drop (index + 1) lists = drop-cons lists index entries within' ∙ ap (λ e. e ∷ drop (suc index) lists) (sym listed) ∙ ap (λ k. entries ∷ drop k lists) next in
    let group_is : drop index group ≡ rank ∷ drop (index + 1) group = drop-cons group index 0 within ∙ ap (λ r. r ∷ drop (suc index) group) (sym named) ∙ ap (λ k. rank ∷ drop k group) next in
    let here : lists_text (drop index group) (drop index lists) [] ≡ list_text rank entries others =
    ap (λ g. lists_text g (drop index lists) []) group_is ∙ ap (λ ls. lists_text (rank ∷ drop (index + 1) group) ls []) lists_are in
    ap (λ xs. xs ++ others) grown ∙ append_assoc out (list_text rank entries []) others ∙ ap (λ xs. out ++ xs) (list_append rank entries others ∙ sym here) ∙ so_far

lists_append : (group : List ℕ) (lists : List (List Entry)) (behind more : List ℕ) → lists_text group lists behind ++ more ≡ lists_text group lists (behind ++ more)
lists_append [] lists behind more = refl
lists_append (rank ∷ group) [] behind more = refl
lists_append (rank ∷ group) (entries ∷ lists) behind more =
    line_append (codes "rank " ++ decimal_text rank ++ (32 ∷ decimal_text (length entries))) (entries_text entries (lists_text group lists behind)) more
    ∙ ap (list_head_text rank (length entries)) (entries_append entries (lists_text group lists behind) more ∙ ap (entries_text entries) (lists_append group lists behind more))

-- what is written is the text of the log's parts
entries_text-is : (entries : List Entry) (behind : List ℕ) → entries_text entries behind ≡ parts_text (map entry_part entries) behind
entries_text-is [] behind = refl
entries_text-is (entry ∷ entries) behind = ap (line (entry_line entry)) (entries_text-is entries behind)

lists_text-is : (group : List ℕ) (lists : List (List Entry)) (parts : List LogPart) (behind : List ℕ) → lists_text group lists (parts_text parts behind) ≡ parts_text (lists_parts group lists parts) behind
lists_text-is [] lists parts behind = refl
lists_text-is (rank ∷ group) [] parts behind = refl
lists_text-is (rank ∷ group) (entries ∷ lists) parts behind =
    ap (list_head_text rank (length entries)) (ap (entries_text entries) (lists_text-is group lists parts behind)
    ∙ entries_text-is entries (parts_text (lists_parts group lists parts) behind) ∙ sym (parts_text-append (map entry_part entries) (lists_parts group lists parts) behind))

pub written_text-is : (log : Log) → written_text log ≡ log_text log
written_text-is log = ap (λ xs. head_text log.ranks (group_text log.group (program_text log.program xs))) (lists_text-is log.group log.lists (end_line ∷ []) [])

-- the whole, piece by piece
pub whole_text : (log : Log) (start first second third fourth out : List ℕ) → first ≡ start ++ head_text log.ranks [] → second ≡ first ++ group_text log.group [] → third ≡ second ++ program_text log.program []
    → fourth ≡ third ++ lists_text log.group log.lists [] → out ≡ fourth ++ codes "end\n" → out ≡ start ++ log_text log
whole_text log start first second third fourth out a b c d e =
    let last = codes "end\n" in
    let rest = lists_text log.group log.lists last in
    let program : program_text log.program [] ++ rest ≡ program_text log.program rest =
    line_append (codes "program " ++ decimal_text (length log.program)) (line log.program []) rest ∙ ap (line (codes "program " ++ decimal_text (length log.program))) (line_append log.program [] rest) in
    let group : group_text log.group [] ++ program_text log.program rest ≡ group_text log.group (program_text log.program rest) =
    line_append (codes "group" ++ each_after 32 (map decimal_text log.group)) [] (program_text log.program rest) in
    let head : head_text log.ranks [] ++ group_text log.group (program_text log.program rest) ≡ written_text log =
    line_append (codes "srr 1") (line (codes "ranks " ++ decimal_text log.ranks) []) (group_text log.group (program_text log.program rest))
    ∙ ap (line (codes "srr 1")) (line_append (codes "ranks " ++ decimal_text log.ranks) [] (group_text log.group (program_text log.program rest))) in
    e ∙ ap (λ xs. xs ++ last) d ∙ append_assoc third (lists_text log.group log.lists []) last ∙ ap (λ xs. third ++ xs) (lists_append log.group log.lists [] last)
    ∙ ap (λ xs. xs ++ rest) c ∙ append_assoc second (program_text log.program []) rest ∙ ap (λ xs. second ++ xs) program
    ∙ ap (λ xs. xs ++ program_text log.program rest) b ∙ append_assoc first (group_text log.group []) (program_text log.program rest) ∙ ap (λ xs. first ++ xs) group
    ∙ ap (λ xs. xs ++ group_text log.group (program_text log.program rest)) a ∙ append_assoc start (head_text log.ranks []) (group_text log.group (program_text log.program rest)) ∙ ap (λ xs. start ++ xs) (head ∙ written_text-is log)
