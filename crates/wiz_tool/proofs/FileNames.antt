-- The names of the files of logs are apart.
use Rattle.std.proofs.Common.{◌≡◌, ◌≢◌, ◌≤◌, ℕ, suc, List, [], ◌∷◌, ◌++◌, sym, ap, ◌∙◌, codes, arith, append_assoc, ◌+◌, ◌<◌, ◌^◌, ◌%◌}
use Rattle.std.specs.Char.{IsAsciiDigit}
use Rattle.std.specs.List.{AllByRecursion}
use Rattle.std.proofs.lemmas.List.{append_cancel_left}
use Rattle.std.proofs.lemmas.Fmt.{decimal_by_steps}
use Rattle.std.specs.Fmt.{decimal}
use Rattle.srr_entry.specs.declared.log.Log.{Log}
use Rattle.wiz_base.specs.Decimals.{decimal_text}
use Rattle.wiz_base.proofs.DecimalLaws.{decimal_text-and_rest, decimal_text-digit, decimal_text-step}
use Rattle.wiz_tool.specs.LogFiles.{log_files, log_name}
use Rattle.wiz_tool.proofs.FileLemmas.{AreApart, names_of}

-- a number as it is formatted
pub decimal-decimal_text : (n : ℕ) → n < 2 ^ 64 → decimal_text n ≡ decimal n
decimal-decimal_text n below =
    decimal_by_steps (λ m ds. decimal_text m ≡ ds) decimal_text-digit
    (λ m ds many so_far. decimal_text-step m many ∙ ap (λ (xs : List ℕ). xs ++ (48 + m % 10) ∷ []) so_far) n below

dot_is_no_digit : ¬ (IsAsciiDigit 46)
dot_is_no_digit = λ range. omega (arith, range.0)

pub log_name-injective : (prefix : List ℕ) (group other : ℕ) → log_name prefix group ≡ log_name prefix other → group ≡ other
log_name-injective prefix group other e =
    let dotted : List ℕ = prefix ++ codes "." in
    let same : dotted ++ (decimal_text group ++ codes ".srr") ≡ dotted ++ (decimal_text other ++ codes ".srr") =
    sym (append_assoc dotted (decimal_text group) (codes ".srr")) ∙ e ∙ append_assoc dotted (decimal_text other) (codes ".srr") in
    (decimal_text-and_rest group other (codes ".srr") (codes ".srr") dot_is_no_digit dot_is_no_digit
    (append_cancel_left dotted (decimal_text group ++ codes ".srr") (decimal_text other ++ codes ".srr") same)).0

-- a name that no later log has
apart_from_logs : (prefix name : List ℕ) (group : ℕ) (logs : List Log) → ((later : ℕ) → group ≤ later → name ≢ log_name prefix later) → AllByRecursion (λ other. name ≢ other) (names_of (log_files prefix group logs))
apart_from_logs prefix name group [] none = tt
apart_from_logs prefix name group (log ∷ logs) none =
    (none group (omega arith), apart_from_logs prefix name (suc group) logs (λ later above. none later (omega (arith, above))))

pub log_apart : (prefix : List ℕ) (group : ℕ) (log : Log) (logs : List Log) → AreApart (names_of (log_files prefix group (log ∷ []))) (names_of (log_files prefix (suc group) logs))
log_apart prefix group log logs = (
  apart_from_logs prefix (log_name prefix group) (suc group) logs (λ later above e.
      let same : group ≡ later = log_name-injective prefix group later e in omega (arith, same, above)),
  tt,
)
