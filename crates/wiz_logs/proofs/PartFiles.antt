-- The files of a plan's groups, written one after the other.
use Rattle.std.proofs.Common.{◌≡◌, ◌≢◌, ◌<◌, ◌≤◌, ◌+◌, ◌++◌, ℕ, suc, List, [], ◌∷◌, Option, inl, inr, refl, arith, length, drop, get_or, drop-cons, append-nil}
use Rattle.std.specs.List.{AllByRecursion}
use Rattle.run_model.proofs.Views.{test_cases}
use Rattle.srr_entry.specs.declared.log.Log.{Log}
use Rattle.srr_regroup.specs.Regrouping.{are_within}
use Rattle.wiz_tool.specs.declared.writing.Unwritten.{Unwritten}
use Rattle.wiz_tool.specs.Files.{AreWritten}
use Rattle.wiz_tool.specs.LogFiles.{log_name}
use Rattle.wiz_logs.specs.Regroupings.{part_file, part_files}
use Rattle.wiz_tool.specs.inside.Told.{IsStopped}
use Rattle.wiz_tool.proofs.FileLemmas.{AreApart, AreWritten-append, IsStopped-behind, names_of}
use Rattle.wiz_tool.proofs.FileNames.{log_name-injective}
use Rattle.wiz_io.specs.Files.{Files, ObservedFiles}

-- a name that no later part has
apart_from_parts : (prefix inside : List ℕ) (F : List ℕ → Log) (name : List ℕ) (k : ℕ) (parts : List (List ℕ)) → ((later : ℕ) → k ≤ later → name ≢ log_name prefix later)
    → AllByRecursion (λ other. name ≢ other) (names_of (part_files prefix inside F k parts))
apart_from_parts prefix inside F name k [] none = tt
apart_from_parts prefix inside F name k (part ∷ parts) none =
    let rest = apart_from_parts prefix inside F name (suc k) parts (λ later above. none later (omega (arith, above))) in
    elim (test_cases (are_within inside part)) [
      | inl h ↦ rw h (none k (omega arith), rest)
      | inr h ↦ rw h rest
    ]

part_apart : (prefix inside : List ℕ) (F : List ℕ → Log) (k : ℕ) (part : List ℕ) (parts : List (List ℕ))
    → AreApart (names_of (part_file prefix inside F k part)) (names_of (part_files prefix inside F (suc k) parts))
part_apart prefix inside F k part parts =
    let apart = apart_from_parts prefix inside F (log_name prefix k) (suc k) parts (λ later above e.
    let same : k ≡ later = log_name-injective prefix k later e in omega (arith, same, above)) in
    elim (test_cases (are_within inside part)) [
      | inl h ↦ rw h (apart, tt)
      | inr h ↦ rw h tt
    ]

-- the files from a group on: its own, and those after it
split_parts : (prefix inside : List ℕ) (F : List ℕ → Log) (k : ℕ) (groups : List (List ℕ)) → k < length groups
    → part_files prefix inside F k (drop k groups) ≡ part_file prefix inside F k (get_or groups k []) ++ part_files prefix inside F (suc k) (drop (suc k) groups)
split_parts prefix inside F k groups within = rw (drop-cons groups k [] within) refl

pub parts_written : (prefix inside : List ℕ) (F : List ℕ → Log) (k : ℕ) (groups : List (List ℕ)) (before mid after : Option Files) → k < length groups
    → AreWritten before mid (part_file prefix inside F k (get_or groups k [])) []
    → AreWritten mid after (part_files prefix inside F (k + 1) (drop (k + 1) groups)) []
    → AreWritten before after (part_files prefix inside F k (drop k groups)) []
parts_written prefix inside F k groups before mid after within first second =
    let next : suc k ≡ k + 1 = omega arith in
    rw (split_parts prefix inside F k groups within)
    (AreWritten-append before mid after (part_file prefix inside F k (get_or groups k [])) (part_files prefix inside F (suc k) (drop (suc k) groups)) [] first (rw next second)
    (rw (append-nil (names_of (part_files prefix inside F (suc k) (drop (suc k) groups)))) (part_apart prefix inside F k (get_or groups k []) (drop (suc k) groups))))

pub parts_stopped : (prefix inside : List ℕ) (F : List ℕ → Log) (k : ℕ) (groups : List (List ℕ)) (before mid after : ObservedFiles) (why : Unwritten)
    → k < length groups → AreWritten before.files mid.files (part_file prefix inside F k (get_or groups k [])) []
    → IsStopped mid after (part_files prefix inside F (k + 1) (drop (k + 1) groups)) why → before.writes ≤ mid.writes
    → IsStopped before after (part_files prefix inside F k (drop k groups)) why
parts_stopped prefix inside F k groups before mid after why within first stopped later =
    let next : suc k ≡ k + 1 = omega arith in
    rw (split_parts prefix inside F k groups within)
    (IsStopped-behind before mid after (part_file prefix inside F k (get_or groups k [])) (part_files prefix inside F (suc k) (drop (suc k) groups)) why
    first (rw next stopped) later (part_apart prefix inside F k (get_or groups k []) (drop (suc k) groups)))
