-- The name of the order of a recording is apart from those of its logs.
use Rattle.std.proofs.Common.{◌≡◌, ◌≢◌, ℕ, suc, List, [], ◌∷◌, ◌++◌, sym, ap, ◌∙◌, codes, arith, get_or, append_assoc}
use Rattle.std.specs.Char.{IsAsciiDigit}
use Rattle.std.proofs.lemmas.List.{append_cancel_left}
use Rattle.std.proofs.Math.ListN.{get_or-append}
use Rattle.srr_entry.specs.declared.log.Log.{Log}
use Rattle.wiz_base.specs.Decimals.{decimal_text}
use Rattle.wiz_base.proofs.DecimalLaws.{decimal_text-bytes, decimal_text-nonempty}
use Rattle.wiz_runs.specs.RecordFiles.{order_name}
use Rattle.wiz_tool.specs.LogFiles.{log_files, log_name}
use Rattle.wiz_tool.proofs.FileLemmas.{AreApart, names_of}

no_number : (group : ℕ) → decimal_text group ++ codes ".srr" ≡ codes "order" → ⊥
no_number group e =
    let some = decimal_text-nonempty group in
    let range : IsAsciiDigit (get_or (decimal_text group) 0 0) = decimal_text-bytes group 0 0 some in
    let first : get_or (decimal_text group) 0 0 ≡ 111 = sym (get_or-append (decimal_text group) (codes ".srr") 0 0 some) ∙ ap (λ text. get_or text 0 0) e in
    omega (arith, range.0, range.1, first)

log_is_no_order : (prefix : List ℕ) (group : ℕ) → log_name prefix group ≢ order_name prefix
log_is_no_order prefix group = λ e.
    let dotted : List ℕ = prefix ++ codes "." in
    let same : dotted ++ (decimal_text group ++ codes ".srr") ≡ dotted ++ codes "order" =
    sym (append_assoc dotted (decimal_text group) (codes ".srr")) ∙ e ∙ sym (append_assoc prefix (codes ".") (codes "order")) in
    no_number group (append_cancel_left dotted (decimal_text group ++ codes ".srr") (codes "order") same)

pub logs_apart : (prefix : List ℕ) (group : ℕ) (logs : List Log) → AreApart (names_of (log_files prefix group logs)) (order_name prefix ∷ [])
logs_apart prefix group [] = tt
logs_apart prefix group (log ∷ logs) = ((log_is_no_order prefix group, tt), logs_apart prefix (suc group) logs)
