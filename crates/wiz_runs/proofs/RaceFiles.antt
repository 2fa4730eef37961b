-- The order files of races, written one after the other.
use Rattle.std.proofs.Common.{◌≡◌, ◌≢◌, ◌≤◌, ◌+◌, ◌∙◌, ◌++◌, ◌∷◌, ℕ, zero, suc, List, [], Option, Some, codes, inl, inr, map, take, drop, slice_get, ap, subst, sym, arith}
use Rattle.std.specs.Char.{IsAsciiDigit}
use Rattle.std.proofs.lemmas.List.{append_cancel_left, map-append}
use Rattle.mpi_call.specs.Lists.{IsIn}
use Rattle.other_picks.specs.declared.other.OtherPick.{OtherPick}
use Rattle.other_picks.specs.Others.{AreApart, IsApart}
use Rattle.srr_record.specs.declared.recording.Recording.{Recording}
use Rattle.wiz_base.specs.Decimals.{decimal_text}
use Rattle.wiz_base.proofs.DecimalLaws.{decimal_text-and_rest}
use Rattle.wiz_runs.specs.RaceOrders.{other_file, other_name}
use Rattle.wiz_io.specs.Files.{Files, ObservedFiles}
use Rattle.wiz_tool.specs.declared.writing.Unwritten.{Unwritten}
use Rattle.wiz_tool.specs.Files.{AreWritten, NamedFile}
use Rattle.wiz_tool.specs.inside.Told.{IsStopped}
use Rattle.wiz_tool.proofs.FileLemmas.{AreApart as NamesApart, AreWritten-append, IsStopped-behind, IsStopped-front, names_of}

-- ---- names

dot_is_no_digit : ¬ (IsAsciiDigit 46)
dot_is_no_digit = λ range. omega (arith, range.0)

-- a number and what follows a dot
dotted : (m n : ℕ) (rest rest' : List ℕ) → codes "." ++ (decimal_text m ++ (codes "." ++ rest)) ≡ codes "." ++ (decimal_text n ++ (codes "." ++ rest'))
    → (m ≡ n) × (codes "." ++ rest ≡ codes "." ++ rest')
dotted m n rest rest' e =
    decimal_text-and_rest m n (codes "." ++ rest) (codes "." ++ rest') dot_is_no_digit dot_is_no_digit
    (append_cancel_left (codes ".") (decimal_text m ++ (codes "." ++ rest)) (decimal_text n ++ (codes "." ++ rest')) e)

-- other picks with one file name have the same rank, start and sender
one_name : (prefix : List ℕ) (one other : OtherPick) → IsApart one other → other_name prefix one ≢ other_name prefix other
one_name prefix one other apart = λ e.
    let tail : OtherPick → List ℕ = λ o. decimal_text o.sender ++ codes ".order" in
    let ranks = dotted one.rank other.rank (decimal_text one.start ++ (codes "." ++ tail one)) (decimal_text other.start ++ (codes "." ++ tail other))
    (append_cancel_left prefix
    (codes "." ++ (decimal_text one.rank ++ (codes "." ++ (decimal_text one.start ++ (codes "." ++ tail one)))))
    (codes "." ++ (decimal_text other.rank ++ (codes "." ++ (decimal_text other.start ++ (codes "." ++ tail other))))) e) in
    let starts = dotted one.start other.start (tail one) (tail other) ranks.1 in
    let senders = decimal_text-and_rest one.sender other.sender (codes ".order") (codes ".order") dot_is_no_digit dot_is_no_digit
    (append_cancel_left (codes ".") (tail one) (tail other) starts.1) in
    apart ranks.0 starts.0 senders.0

there_in : (others : List OtherPick) (k : ℕ) (other : OtherPick) → slice_get others k ≡ Some other → IsIn other others
there_in [] k other h = absurd (cc)
there_in (x ∷ others) zero other h = inl (cc)
there_in (x ∷ others) (suc k) other h = inr (there_in others k other h)

-- the files before one have other names
earlier_apart : (prefix : List ℕ) (recording : Recording) (others : List OtherPick) (k : ℕ) (other : OtherPick) → AreApart others → slice_get others k ≡ Some other
    → NamesApart (names_of (map (other_file prefix recording) (take k others))) (other_name prefix other ∷ [])
earlier_apart prefix recording [] k other apart h = absurd (cc)
earlier_apart prefix recording (x ∷ others) zero other apart h = tt
earlier_apart prefix recording (x ∷ others) (suc k) other apart h =
    ((one_name prefix x other (apart.0 other (there_in others k other h)), tt), earlier_apart prefix recording others k other apart.1 h)

-- ---- files

-- those up to one, it, and those behind it
pub split_at : {A : Type 0} (xs : List A) (k : ℕ) (one : A) → slice_get xs k ≡ Some one
    → (take (suc k) xs ≡ take k xs ++ one ∷ []) × (xs ≡ (take k xs ++ one ∷ []) ++ drop (suc k) xs)
split_at [] k one h = absurd (cc)
split_at {A} (x ∷ xs) zero one h =
    let same : x ≡ one = cc in
    (ap (λ (o : A). o ∷ []) same, ap (λ (o : A). o ∷ xs) same)
split_at {A} (x ∷ xs) (suc k) one h =
    let rest = split_at xs k one h in
    (ap (λ (l : List A). x ∷ l) rest.0, ap (λ (l : List A). x ∷ l) rest.1)

pub more_written : (prefix : List ℕ) (recording : Recording) (others : List OtherPick) (k : ℕ) (other : OtherPick) (before mid after : Option Files) → AreApart others
    → slice_get others k ≡ Some other → AreWritten before mid (map (other_file prefix recording) (take k others)) []
    → AreWritten mid after (other_file prefix recording other ∷ []) [] → AreWritten before after (map (other_file prefix recording) (take (k + 1) others)) []
more_written prefix recording others k other before mid after apart there first second =
    let f : OtherPick → NamedFile = other_file prefix recording in
    let next : k + 1 ≡ suc k = omega arith in
    let split = split_at others k other there in
    let files : map f (take (k + 1) others) ≡ map f (take k others) ++ f other ∷ [] =
    ap (λ c. map f (take c others)) next ∙ (ap (map f) split.0 ∙ map-append f (take k others) (other ∷ [])) in
    let F : List NamedFile → Type 0 = λ l. AreWritten before after l [] in
    subst F (sym files)
    (AreWritten-append before mid after (map f (take k others)) (f other ∷ []) [] first second (earlier_apart prefix recording others k other apart there))

pub then_stopped : (prefix : List ℕ) (recording : Recording) (others : List OtherPick) (k : ℕ) (other : OtherPick) (before mid after : ObservedFiles) (why : Unwritten)
    → AreApart others → slice_get others k ≡ Some other → AreWritten before.files mid.files (map (other_file prefix recording) (take k others)) []
    → IsStopped mid after (other_file prefix recording other ∷ []) why → before.writes ≤ mid.writes
    → IsStopped before after (map (other_file prefix recording) others) why
then_stopped prefix recording others k other before mid after why apart there first stopped later =
    let f : OtherPick → NamedFile = other_file prefix recording in
    let split = split_at others k other there in
    let files : map f others ≡ (map f (take k others) ++ f other ∷ []) ++ map f (drop (suc k) others) =
    ap (map f) split.1
    ∙ (map-append f (take k others ++ other ∷ []) (drop (suc k) others) ∙ ap (λ l. l ++ map f (drop (suc k) others)) (map-append f (take k others) (other ∷ []))) in
    let F : List NamedFile → Type 0 = λ l. IsStopped before after l why in
    subst F (sym files)
    (IsStopped-front before after (map f (take k others) ++ f other ∷ []) (map f (drop (suc k) others)) why
    (IsStopped-behind before mid after (map f (take k others)) (f other ∷ []) why first stopped later (earlier_apart prefix recording others k other apart there)))
