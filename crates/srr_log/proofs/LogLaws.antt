-- Parts that run to the end are those of a log, and each beginning of them can be completed.
use Rattle.std.proofs.Common.{◌≡◌, ◌≢◌, ℕ, zero, suc, ◌+◌, ◌<◌, ◌≤◌, true, List, [], ◌∷◌, ◌++◌, map, length, replicate, refl, sym, ◌∙◌, ap, subst, arith}
use Rattle.std.specs.Prelude.{nat_lt}
use Rattle.std.specs.List.{AllByRecursion}
use Rattle.std.proofs.lemmas.Bool.{lt-ltb, ltb-true, and_from, and_parts}
use Rattle.std.proofs.lemmas.List.{nil_from_length, length-replicate}
use Rattle.std.proofs.lemmas.List.Elements.{All-from_recursion, recursion_from_All}
use Rattle.run_model.specs.Lists.{are_below}
use Rattle.srr_entry.specs.declared.entry.Entry.{Entry}
use Rattle.srr_entry.specs.declared.entry.Entry.TheVariants.{Sent}
use Rattle.srr_entry.specs.declared.log.Log.{Log}
use Rattle.srr_log.specs.Bounds.{IsGroup, AreEntries, IsList, IsInBounds}
use Rattle.srr_log.specs.Parts.{LogPart, head_line, ranks_line, group_line, size_line, program_bytes, rank_line, entry_part, end_line, lists_parts, log_parts}
use Rattle.srr_log.specs.Faults.{SomeLog}
use Rattle.srr_log.specs.inside.Reading.{ReadingState, at_head, at_ranks, at_group, at_size, at_program, at_list, at_entry, at_end, entries_left, Allows, next, after, Runs, expected, IsOpen}
use Rattle.srr_log.proofs.StateLaws.{IsSmallState, runs_append, after_append, runs_split, after_entries}

-- the parts of a log run to the end
abbrev pub RunsTo : ReadingState → List LogPart → Type 0
RunsTo state parts = Runs state parts × (after state parts ≡ at_end)

runs_to_append : (state : ReadingState) (parts others : List LogPart) → Runs state parts → RunsTo (after state parts) others → RunsTo state (parts ++ others)
runs_to_append state parts others run to = (runs_append state parts others run to.0, after_append state parts others ∙ to.1)

entries_run : (n : ℕ) (group ranks : List ℕ) (entries : List Entry) → AreEntries n group entries → Runs (entries_left n group (length entries) ranks) (map entry_part entries)
entries_run n group ranks [] are = tt
entries_run n group ranks (entry ∷ entries) are = ((are.0, λ last. ap length (are.1 last)), entries_run n group ranks entries are.2)

entries_run_to : (n : ℕ) (group ranks : List ℕ) (entries : List Entry) → after (entries_left n group (length entries) ranks) (map entry_part entries) ≡ at_list n group ranks
entries_run_to n group ranks entries =
    ap (λ k. after (entries_left n group k ranks) (map entry_part entries)) (let k : length entries ≡ length entries + 0 = omega arith in k) ∙ after_entries n group 0 ranks entries

lists_run : (n : ℕ) (group ranks : List ℕ) (lists : List (List Entry)) → length lists ≡ length ranks → AllByRecursion (IsList n group) lists → RunsTo (at_list n group ranks) (lists_parts ranks lists (end_line ∷ []))
lists_run n group [] lists many are = ((tt, tt), refl)
lists_run n group (rank ∷ ranks) [] many are = absurd (omega arith)
lists_run n group (rank ∷ ranks) (entries ∷ lists) many (is, are) =
    let later = lists_run n group ranks lists (omega arith) are in
    let both = runs_to_append (entries_left n group (length entries) ranks) (map entry_part entries) (lists_parts ranks lists (end_line ∷ [])) (entries_run n group ranks entries is.1)
    (subst (λ s. RunsTo s (lists_parts ranks lists (end_line ∷ []))) (sym (entries_run_to n group ranks entries)) later) in
    (((refl, is.0), both.0), both.1)

pub log_runs : (log : Log) → IsInBounds log → RunsTo at_head (log_parts log)
log_runs log bounds =
    let later = lists_run log.ranks log.group log.group log.lists bounds.as_many (recursion_from_All (IsList log.ranks log.group) log.lists bounds.lists) in
    ((tt, (bounds.ranks, (bounds.group, (bounds.program, (refl, later.0))))), later.1)

pub some_log_runs : (parts : List LogPart) → SomeLog parts → RunsTo at_head parts
some_log_runs parts (log, bounds, is) = subst (RunsTo at_head) is (log_runs log bounds)

-- nothing runs from the end
pub end_stops : (parts : List LogPart) → Runs at_end parts → parts ≡ []
end_stops [] run = refl
end_stops (part ∷ parts) (ok, run) = absurd ok

-- and parts that run to the end are those of a log: first the lists, from within one
record ListsOf (n : ℕ) (group : List ℕ) (left : ℕ) (ranks : List ℕ) (parts : List LogPart) : Type 0 where
  entries : List Entry
  lists : List (List Entry)
  many : length entries ≡ left
  are : AreEntries n group entries
  as_many : length lists ≡ length ranks
  all : AllByRecursion (IsList n group) lists
  is : parts ≡ map entry_part entries ++ lists_parts ranks lists (end_line ∷ [])

list_apart : (n : ℕ) (group ranks : List ℕ) → at_list n group ranks ≢ at_end
list_apart n group ranks e = cc

entry_apart : (n : ℕ) (group : List ℕ) (others : ℕ) (ranks : List ℕ) → at_entry n group others ranks ≢ at_end
entry_apart n group others ranks e = cc

lists_of : (n : ℕ) (group : List ℕ) (left : ℕ) (ranks : List ℕ) (parts : List LogPart) → RunsTo (entries_left n group left ranks) parts → ListsOf n group left ranks parts
lists_of n group zero ranks [] to = absurd (list_apart n group ranks to.1)
lists_of n group (suc left) ranks [] to = absurd (entry_apart n group left ranks to.1)
lists_of n group zero [] (end_line ∷ parts) to =
    record { entries = []; lists = []; many = refl; are = tt; as_many = refl; all = tt; is = ap (λ ps. end_line ∷ ps) (end_stops parts to.0.1) }
lists_of n group zero [] (part ∷ parts) to = absurd to.0.0
lists_of n group zero (rank ∷ ranks) (rank_line named count ∷ parts) to =
    let later = lists_of n group count ranks parts (to.0.1, to.1) in
    record {
      entries = [];
      lists = later.entries ∷ later.lists;
      many = refl;
      are = tt;
      as_many = ap suc later.as_many;
      all = (((let m = later.many in let few = to.0.0.1 in omega arith), later.are), later.all);
      is = ap (λ r. rank_line r count ∷ parts) to.0.0.0 ∙ ap (λ k. rank_line rank k ∷ parts) (sym later.many) ∙ ap (λ ps. rank_line rank (length later.entries) ∷ ps) later.is;
    }
lists_of n group zero (rank ∷ ranks) (part ∷ parts) to = absurd to.0.0
lists_of n group (suc left) ranks (entry_part entry ∷ parts) to =
    let later = lists_of n group left ranks parts (to.0.1, to.1) in
    record {
      entries = entry ∷ later.entries;
      lists = later.lists;
      many = ap suc later.many;
      are = (to.0.0.0, λ last. nil_from_length later.entries (later.many ∙ to.0.0.1 last), later.are);
      as_many = later.as_many;
      all = later.all;
      is = ap (λ ps. entry_part entry ∷ ps) later.is;
    }
lists_of n group (suc left) ranks (part ∷ parts) to = absurd to.0.0

-- then the parts before
abbrev LogFrom : ℕ → List ℕ → List ℕ → List LogPart → Type 0
LogFrom n group program parts = (0 < n) × (n ≤ 64) × IsGroup n group × (length program ≤ 65536)
    × SomeLog (head_line ∷ ranks_line n ∷ group_line group ∷ size_line (length program) ∷ program_bytes program ∷ parts)

log_from_lists : (n : ℕ) (group program : List ℕ) (parts : List LogPart) → (0 < n) → (n ≤ 64) → IsGroup n group → length program ≤ 65536 → RunsTo (at_list n group group) parts
    → SomeLog (head_line ∷ ranks_line n ∷ group_line group ∷ size_line (length program) ∷ program_bytes program ∷ parts)
log_from_lists n group program parts some' few good fits to =
    let l = lists_of n group 0 group parts to in
    let none : l.entries ≡ [] = nil_from_length l.entries l.many in
    let is : lists_parts group l.lists (end_line ∷ []) ≡ parts = sym (l.is ∙ ap (λ es. map entry_part es ++ lists_parts group l.lists (end_line ∷ [])) none) in (
      record { ranks = n; group = group; program = program; lists = l.lists },
      record { ranks = (some', few); group = good; program = fits; as_many = l.as_many; lists = All-from_recursion (IsList n group) l.lists l.all },
      ap (λ ps. head_line ∷ ranks_line n ∷ group_line group ∷ size_line (length program) ∷ program_bytes program ∷ ps) is,
    )

log_from_program : (n : ℕ) (group : List ℕ) (size : ℕ) (parts : List LogPart) → (0 < n) → (n ≤ 64) → IsGroup n group → size ≤ 65536 → RunsTo (at_program n group size) parts
    → SomeLog (head_line ∷ ranks_line n ∷ group_line group ∷ size_line size ∷ parts)
log_from_program n group size [] some' few good fits to = absurd (cc (to.1))
log_from_program n group size (program_bytes program ∷ parts) some' few good fits to =
    subst (λ k. SomeLog (head_line ∷ ranks_line n ∷ group_line group ∷ size_line k ∷ program_bytes program ∷ parts)) to.0.0
    (log_from_lists n group program parts some' few good (let long = to.0.0 in omega arith) (to.0.1, to.1))
log_from_program n group size (part ∷ parts) some' few good fits to = absurd to.0.0

log_from_size : (n : ℕ) (group : List ℕ) (parts : List LogPart) → (0 < n) → (n ≤ 64) → IsGroup n group → RunsTo (at_size n group) parts → SomeLog (head_line ∷ ranks_line n ∷ group_line group ∷ parts)
log_from_size n group [] some' few good to = absurd (cc (to.1))
log_from_size n group (size_line size ∷ parts) some' few good to = log_from_program n group size parts some' few good to.0.0 (to.0.1, to.1)
log_from_size n group (part ∷ parts) some' few good to = absurd to.0.0

log_from_group : (n : ℕ) (parts : List LogPart) → (0 < n) → (n ≤ 64) → RunsTo (at_group n) parts → SomeLog (head_line ∷ ranks_line n ∷ parts)
log_from_group n [] some' few to = absurd (cc (to.1))
log_from_group n (group_line group ∷ parts) some' few to = log_from_size n group parts some' few to.0.0 (to.0.1, to.1)
log_from_group n (part ∷ parts) some' few to = absurd to.0.0

log_from_ranks : (parts : List LogPart) → RunsTo at_ranks parts → SomeLog (head_line ∷ parts)
log_from_ranks [] to = absurd (cc (to.1))
log_from_ranks (ranks_line n ∷ parts) to = log_from_group n parts to.0.0.0 to.0.0.1 (to.0.1, to.1)
log_from_ranks (part ∷ parts) to = absurd to.0.0

pub runs_some_log : (parts : List LogPart) → RunsTo at_head parts → SomeLog parts
runs_some_log [] to = absurd (cc (to.1))
runs_some_log (head_line ∷ parts) to = log_from_ranks parts (to.0.1, to.1)
runs_some_log (part ∷ parts) to = absurd to.0.0

-- what holds at each state that is reached
abbrev pub IsReached : ReadingState → Type 0
IsReached (at_group n) = (0 < n) × (n ≤ 64)
IsReached (at_size n group) = (n ≤ 64) × (are_below n group ≡ true)
IsReached (at_program n group size) = (n ≤ 64) × (are_below n group ≡ true)
IsReached (at_list n group ranks) = (n ≤ 64) × (are_below n ranks ≡ true)
IsReached (at_entry n group others ranks) = (n ≤ 64) × (are_below n ranks ≡ true)
IsReached state = Unit {0}

reached_entries : (n : ℕ) (group : List ℕ) (left : ℕ) (ranks : List ℕ) → n ≤ 64 → are_below n ranks ≡ true → IsReached (entries_left n group left ranks)
reached_entries n group zero ranks few below = (few, below)
reached_entries n group (suc left) ranks few below = (few, below)

pub reached_next : (state : ReadingState) (part : LogPart) → IsReached state → Allows state part → IsReached (next state part)
reached_next at_head part reached ok = tt
reached_next at_ranks (ranks_line ranks) reached ok = ok
reached_next (at_group n) (group_line group) reached ok = (reached.1, ok.2)
reached_next (at_size n group) (size_line size) reached ok = reached
reached_next (at_program n group size) part reached ok = reached
reached_next (at_list n group (rank ∷ ranks)) (rank_line named count) reached ok = reached_entries n group count ranks reached.0 (and_parts (nat_lt rank n) (are_below n ranks) reached.1).1
reached_next (at_list n group []) part reached ok = tt
reached_next (at_entry n group others ranks) part reached ok = reached_entries n group others ranks reached.0 reached.1
reached_next state part reached ok = absurd ok

pub reached_after : (state : ReadingState) (parts : List LogPart) → IsReached state → Runs state parts → IsReached (after state parts)
reached_after state [] reached run = reached
reached_after state (part ∷ parts) reached (ok, run) = reached_after (next state part) parts (reached_next state part reached ok) run

pub reached_small : (state : ReadingState) → IsReached state → IsSmallState state
reached_small at_head reached = tt
reached_small at_ranks reached = tt
reached_small (at_group n) reached = let few = reached.1 in omega arith
reached_small (at_size n group) reached = tt
reached_small (at_program n group size) reached = tt
reached_small (at_list n group []) reached = tt
reached_small (at_list n group (rank ∷ ranks)) reached =
    let few = reached.0 in
    let below = ltb-true rank n (and_parts (nat_lt rank n) (are_below n ranks) reached.1).0 in omega arith
reached_small (at_entry n group others ranks) reached = let few = reached.0 in omega arith
reached_small at_end reached = tt

-- a reached state can be brought to the end
abbrev pub Completes : ReadingState → Type 0
Completes state = (parts : List LogPart) × RunsTo state parts

completes_list : (n : ℕ) (group ranks : List ℕ) → Completes (at_list n group ranks)
completes_list n group [] = (end_line ∷ [], ((tt, tt), refl))
completes_list n group (rank ∷ ranks) =
    let later = completes_list n group ranks in
    (rank_line rank 0 ∷ later.0, (((refl, omega arith), later.1.0), later.1.1))

completes_entries : (n : ℕ) (group : List ℕ) (left : ℕ) (ranks : List ℕ) → Completes (entries_left n group left ranks)
completes_entries n group zero ranks = completes_list n group ranks
completes_entries n group (suc left) ranks =
    let later = completes_entries n group left ranks in
    (entry_part Sent ∷ later.0, (((tt, λ last. absurd (cc (last))), later.1.0), later.1.1))

completes_program : (n : ℕ) (group : List ℕ) (size : ℕ) → Completes (at_program n group size)
completes_program n group size =
    let later = completes_list n group group in
    (program_bytes (replicate size 0) ∷ later.0, ((length-replicate size 0, later.1.0), later.1.1))

completes_size : (n : ℕ) (group : List ℕ) → Completes (at_size n group)
completes_size n group =
    let later = completes_program n group 0 in
    (size_line 0 ∷ later.0, ((omega arith, later.1.0), later.1.1))

first_group : (n : ℕ) → 0 < n → IsGroup n (0 ∷ [])
first_group n some' = (omega arith, (omega arith, tt), and_from (nat_lt 0 n) true (lt-ltb 0 n some') refl)

completes_group : (n : ℕ) → 0 < n → Completes (at_group n)
completes_group n some' =
    let later = completes_size n (0 ∷ []) in
    (group_line (0 ∷ []) ∷ later.0, ((first_group n some', later.1.0), later.1.1))

completes_ranks : Completes at_ranks
completes_ranks =
    let later = completes_group 1 (omega arith) in
    (ranks_line 1 ∷ later.0, (((omega arith, omega arith), later.1.0), later.1.1))

pub completes : (state : ReadingState) → IsReached state → Completes state
completes at_head reached = (head_line ∷ completes_ranks.0, ((tt, completes_ranks.1.0), completes_ranks.1.1))
completes at_ranks reached = completes_ranks
completes (at_group n) reached = completes_group n reached.0
completes (at_size n group) reached = completes_size n group
completes (at_program n group size) reached = completes_program n group size
completes (at_list n group ranks) reached = completes_list n group ranks
completes (at_entry n group others ranks) reached = completes_entries n group (suc others) ranks
completes at_end reached = ([], (tt, refl))

-- the expected part may come
pub expected_ok : (state : ReadingState) → IsReached state → IsOpen state → Allows state (expected state)
expected_ok at_head reached open' = tt
expected_ok at_ranks reached open' = (omega arith, omega arith)
expected_ok (at_group n) reached open' = first_group n reached.0
expected_ok (at_size n group) reached open' = omega arith
expected_ok (at_program n group size) reached open' = length-replicate size 0
expected_ok (at_list n group []) reached open' = tt
expected_ok (at_list n group (rank ∷ ranks)) reached open' = (refl, omega arith)
expected_ok (at_entry n group others ranks) reached open' = (tt, λ last. absurd (cc (last)))
expected_ok at_end reached open' = absurd open'

-- so some log goes on with each part that may come
pub goes_on : (front : List LogPart) (part : LogPart) → Runs at_head front → Allows (after at_head front) part → (more : List LogPart) × SomeLog (front ++ part ∷ more)
goes_on front part run ok =
    let reached = reached_next (after at_head front) part (reached_after at_head front tt run) ok in
    let later = completes (next (after at_head front) part) reached in
    (later.0, runs_some_log (front ++ part ∷ later.0) (runs_to_append at_head front (part ∷ later.0) run ((ok, later.1.0), later.1.1)))

-- and only with these
pub went_on : (front : List LogPart) (part : LogPart) (more : List LogPart) → SomeLog (front ++ part ∷ more) → Runs at_head front × Allows (after at_head front) part
went_on front part more some' =
    let to = some_log_runs (front ++ part ∷ more) some' in
    let both = runs_split at_head front (part ∷ more) to.0 in
    (both.0, both.1.0)
