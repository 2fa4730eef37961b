-- The order files of a search, written one after the other.
use Rattle.std.proofs.Common.{◌≡◌, ◌≢◌, ◌<◌, ◌≤◌, ◌+◌, ◌∙◌, ◌++◌, ◌∷◌, ℕ, suc, List, [], Option, Some, append_assoc, codes, get_or, length, take, drop, slice_get, ap, subst, sym, arith}
use Rattle.std.specs.Char.{IsAsciiDigit}
use Rattle.std.specs.List.{AllByRecursion}
use Rattle.std.specs.Prelude.{option_map}
use Rattle.std.proofs.lemmas.List.{append-nil, append_cancel_left, length-map, length-take-le}
use Rattle.std.proofs.lemmas.Option.{slice_get-map}
use Rattle.explore.specs.declared.found.FoundOutcome.{FoundOutcome}
use Rattle.std.proofs.Math.ListN.{get_or-append}
use Rattle.picked_runs.specs.declared.turn.Turn.{Turn}
use Rattle.wiz_base.specs.Decimals.{decimal_text}
use Rattle.wiz_base.proofs.DecimalLaws.{decimal_text-and_rest, decimal_text-bytes, decimal_text-nonempty}
use Rattle.wiz_searches.specs.Explorations.{found_turns, left_prefix, numbered_file, numbered_files, numbered_name}
use Rattle.wiz_io.specs.Files.{Files, ObservedFiles}
use Rattle.wiz_tool.specs.declared.writing.Unwritten.{Unwritten}
use Rattle.wiz_tool.specs.Files.{AreWritten, NamedFile}
use Rattle.wiz_tool.specs.inside.Told.{IsStopped}
use Rattle.wiz_tool.proofs.FileLemmas.{AreApart, AreWritten-append, IsStopped-behind, IsStopped-front, names_of}
use Rattle.wiz_runs.proofs.RaceFiles.{split_at}

-- ---- names

dot_is_no_digit : ¬ (IsAsciiDigit 46)
dot_is_no_digit = λ range. omega (arith, range.0)

numbered_name-injective : (prefix : List ℕ) (m n : ℕ) → numbered_name prefix m ≡ numbered_name prefix n → m ≡ n
numbered_name-injective prefix m n e =
    let tail : ℕ → List ℕ = λ k. codes "." ++ (decimal_text k ++ codes ".order") in
    let same : tail m ≡ tail n = append_cancel_left prefix (tail m) (tail n) e in
    (decimal_text-and_rest m n (codes ".order") (codes ".order") dot_is_no_digit dot_is_no_digit
    (append_cancel_left (codes ".") (decimal_text m ++ codes ".order") (decimal_text n ++ codes ".order") same)).0

-- the file of an outcome is not that of a state
found_is_not_left : (prefix : List ℕ) (m n : ℕ) → numbered_name prefix m ≢ numbered_name (left_prefix prefix) n
found_is_not_left prefix m n = λ e.
    let rest : List ℕ = codes "." ++ (decimal_text n ++ codes ".order") in
    let left : numbered_name (left_prefix prefix) n ≡ prefix ++ (codes ".left" ++ rest) = append_assoc prefix (codes ".left") rest in
    let same : codes "." ++ (decimal_text m ++ codes ".order") ≡ codes ".left" ++ rest =
    append_cancel_left prefix (codes "." ++ (decimal_text m ++ codes ".order")) (codes ".left" ++ rest) (e ∙ left) in
    let some = decimal_text-nonempty m in
    let range : IsAsciiDigit (get_or (decimal_text m) 0 0) = decimal_text-bytes m 0 0 some in
    let first : get_or (decimal_text m) 0 0 ≡ 108 = sym (get_or-append (decimal_text m) (codes ".order") 0 0 some) ∙ ap (λ text. get_or text 1 0) same in
    omega (arith, range.0, range.1, first)

-- a name that no file of some turns has
apart_from_files : (prefix name : List ℕ) (number : ℕ) (all : List (List Turn)) → ((k : ℕ) → name ≢ numbered_name prefix k)
    → AllByRecursion (λ other. name ≢ other) (names_of (numbered_files prefix number all))
apart_from_files prefix name number [] none = tt
apart_from_files prefix name number (turns ∷ all) none = (none number, apart_from_files prefix name (suc number) all none)

pub found_apart : (prefix : List ℕ) (number : ℕ) (all left : List (List Turn))
    → AreApart (names_of (numbered_files prefix number all)) (names_of (numbered_files (left_prefix prefix) 0 left))
found_apart prefix number [] left = tt
found_apart prefix number (turns ∷ all) left =
    (apart_from_files (left_prefix prefix) (numbered_name prefix number) 0 left (λ k. found_is_not_left prefix number k), found_apart prefix (suc number) all left)

-- the same, as it is asked for
pub found_apart_all : (prefix : List ℕ) (all left : List (List Turn))
    → AreApart (names_of (numbered_files prefix 0 all)) (names_of (numbered_files (left_prefix prefix) 0 left) ++ [])
found_apart_all prefix all left =
    let F : List (List ℕ) → Type 0 = λ names. AreApart (names_of (numbered_files prefix 0 all)) names in
    subst F (sym (append-nil (names_of (numbered_files (left_prefix prefix) 0 left)))) (found_apart prefix 0 all left)

-- the files of earlier numbers have other names
earlier_apart : (prefix : List ℕ) (number later : ℕ) (all : List (List Turn)) → number + length all ≤ later
    → AreApart (names_of (numbered_files prefix number all)) (numbered_name prefix later ∷ [])
earlier_apart prefix number later [] below = tt
earlier_apart prefix number later (turns ∷ all) below = (
  ((λ e. (let same : number ≡ later = numbered_name-injective prefix number later e in omega (arith, same, below))), tt),
  earlier_apart prefix (suc number) later all (omega (arith, below)),
)

-- ---- files

numbered-append : (prefix : List ℕ) (number behind : ℕ) (one other : List (List Turn)) → behind ≡ number + length one
    → numbered_files prefix number (one ++ other) ≡ numbered_files prefix number one ++ numbered_files prefix behind other
numbered-append prefix number behind [] other same = (let here : behind ≡ number = omega (arith, same) in ap (λ k. numbered_files prefix k other) (sym here))
numbered-append prefix number behind (turns ∷ one) other same =
    ap (λ (files : List NamedFile). numbered_file prefix number turns ∷ files) (numbered-append prefix (suc number) behind one other (omega (arith, same)))

-- the files up to one, it, and those behind it
first_files : (prefix : List ℕ) (all : List (List Turn)) (k : ℕ) (turns : List Turn) → k ≤ length all → slice_get all k ≡ Some turns
    → numbered_files prefix 0 (take (suc k) all) ≡ numbered_files prefix 0 (take k all) ++ numbered_file prefix k turns ∷ []
first_files prefix all k turns below there =
    let few : length (take k all) ≡ k = length-take-le k all below in
    ap (numbered_files prefix 0) (split_at all k turns there).0 ∙ numbered-append prefix 0 k (take k all) (turns ∷ []) (omega (arith, few))

all_files : (prefix : List ℕ) (all : List (List Turn)) (k : ℕ) (turns : List Turn) → k ≤ length all → slice_get all k ≡ Some turns
    → numbered_files prefix 0 all
    ≡ (numbered_files prefix 0 (take k all) ++ numbered_file prefix k turns ∷ []) ++ numbered_files prefix (length (take (suc k) all)) (drop (suc k) all)
all_files prefix all k turns below there =
    let split = split_at all k turns there in
    let whole : all ≡ take (suc k) all ++ drop (suc k) all = split.1 ∙ ap (λ front. front ++ drop (suc k) all) (sym split.0) in
    ap (numbered_files prefix 0) whole
    ∙ (numbered-append prefix 0 (length (take (suc k) all)) (take (suc k) all) (drop (suc k) all) (omega arith)
    ∙ ap (λ files. files ++ numbered_files prefix (length (take (suc k) all)) (drop (suc k) all)) (first_files prefix all k turns below there))

apart_at : (prefix : List ℕ) (all : List (List Turn)) (k : ℕ) → k ≤ length all
    → AreApart (names_of (numbered_files prefix 0 (take k all))) (numbered_name prefix k ∷ [])
apart_at prefix all k below =
    let few : length (take k all) ≡ k = length-take-le k all below in
    earlier_apart prefix 0 k (take k all) (omega (arith, few))

pub one_written : (prefix : List ℕ) (all : List (List Turn)) (k : ℕ) (turns : List Turn) (before mid after : Option Files) → k ≤ length all → slice_get all k ≡ Some turns
    → AreWritten before mid (numbered_files prefix 0 (take k all)) [] → AreWritten mid after (numbered_file prefix k turns ∷ []) []
    → AreWritten before after (numbered_files prefix 0 (take (k + 1) all)) []
one_written prefix all k turns before mid after below there first second =
    let F : List NamedFile → Type 0 = λ files. AreWritten before after files [] in
    let more : k + 1 ≡ suc k = omega arith in
    subst F (ap (λ n. numbered_files prefix 0 (take n all)) (sym more)) (subst F (sym (first_files prefix all k turns below there))
    (AreWritten-append before mid after (numbered_files prefix 0 (take k all)) (numbered_file prefix k turns ∷ []) [] first second (apart_at prefix all k below)))

-- the turns of an outcome
pub found_at : (listed : List FoundOutcome) (k : ℕ) (found : FoundOutcome) → slice_get listed k ≡ Some found → slice_get (found_turns listed) k ≡ Some found.turns
found_at listed k found there = slice_get-map (λ (f : FoundOutcome). f.turns) listed k ∙ ap (option_map (λ (f : FoundOutcome). f.turns)) there

pub found_below : (listed : List FoundOutcome) (k : ℕ) → k < length listed → k ≤ length (found_turns listed)
found_below listed k below = omega (arith, length-map listed (λ (f : FoundOutcome). f.turns), below)

pub one_stopped : (prefix : List ℕ) (all : List (List Turn)) (k : ℕ) (turns : List Turn) (before mid after : ObservedFiles) (why : Unwritten) → k ≤ length all
    → slice_get all k ≡ Some turns → AreWritten before.files mid.files (numbered_files prefix 0 (take k all)) []
    → IsStopped mid after (numbered_file prefix k turns ∷ []) why → before.writes ≤ mid.writes → IsStopped before after (numbered_files prefix 0 all) why
one_stopped prefix all k turns before mid after why below there first stopped later =
    let F : List NamedFile → Type 0 = λ files. IsStopped before after files why in
    subst F (sym (all_files prefix all k turns below there))
    (IsStopped-front before after (numbered_files prefix 0 (take k all) ++ numbered_file prefix k turns ∷ []) (numbered_files prefix (length (take (suc k) all)) (drop (suc k) all)) why
    (IsStopped-behind before mid after (numbered_files prefix 0 (take k all)) (numbered_file prefix k turns ∷ []) why first stopped later (apart_at prefix all k below)))
