-- What is found of each rank, one after the other.
use Rattle.std.proofs.Common.{◌≡◌, ◌<◌, ◌≤◌, ◌+◌, ◌-◌, ◌∙◌, ◌++◌, ◌∷◌, ◌&&◌, ◌==◌, [], ℕ, zero, suc, List, Option, Some, None, Bool, true, false, inl, inr, ap, append-nil, append_assoc, arith, drop, filter, find, get_or, if◌then◌else◌, length, map, nat_lt, refl, subst, sym, take}
use mathlib.Core.Path.{fun_ext}
use Rattle.std.proofs.lemmas.Bool.{and_parts, cases_order, eqb-true, lt-ltb, ltb-true}
use Rattle.mpi_call.specs.declared.call.Call.{Call}
use Rattle.run_model.specs.declared.event.Event.{Event}
use Rattle.std.proofs.lemmas.List.Elements.{recursion_from_All}
use Rattle.run_model.specs.Due.{stops}
use Rattle.causes.specs.Clocks.{AreOfRanks}
use Rattle.run_model.specs.Lists.{are_below, world}
use Rattle.run_model.specs.Views.{view_of}
use Rattle.run_model.proofs.Views.{test_cases}
use Rattle.wait_graph.specs.declared.graph.Blocked.{Blocked}
use Rattle.wait_graph.specs.declared.stuck.RankFinding.{RankFinding}
use Rattle.wait_graph.specs.declared.wait.Wait.{Wait}
use Rattle.wait_graph.specs.inside.Found.{IsRankFinding, IsFoundAt, listed_blocked}
use Rattle.wait_graph.specs.Going.{first_call, going, halting, stopped_call}
use Rattle.wait_graph.specs.Graph.{blocked_at, blocked_in, cycles_in, graph_of, has_no_hope, is_hopeless, is_live, next_at, waited_rank, waits_for}
use Rattle.wait_graph.proofs.ReadLemmas.{AreBelow}
use Rattle.wait_graph.specs.Waits.{waits_at}

tail-is : (x : ℕ) (xs : List ℕ) → take (length (x ∷ xs) - 1) xs ≡ xs
tail-is x xs = take-ranks xs (length (x ∷ xs) - 1) (omega arith)
  where
    take-ranks : (ys : List ℕ) (k : ℕ) → length ys ≤ k → take k ys ≡ ys
    take-ranks [] zero h = refl
    take-ranks [] (suc k) h = refl
    take-ranks (y ∷ ys) zero h = absurd (omega (arith, h))
    take-ranks (y ∷ ys) (suc k) h = ap (λ l. y ∷ l) (take-ranks ys k (omega (arith, h)))

-- the search for a rank
pub find_here : (p : ℕ → Bool) (rest : List ℕ) (d : ℕ) (all : Option ℕ) → 1 ≤ length rest → p (get_or rest 0 d) ≡ true → find p rest ≡ all → Some (get_or rest 0 d) ≡ all
find_here p [] d all some h so_far = absurd (omega (arith, some))
find_here p (x ∷ xs) d all some h so_far = rw h at so_far

pub find_on : (p : ℕ → Bool) (rest : List ℕ) (d : ℕ) (all : Option ℕ) → 1 ≤ length rest → p (get_or rest 0 d) ≡ false → find p rest ≡ all → find p (take (length rest - 1) (drop 1 rest)) ≡ all
find_on p [] d all some h so_far = absurd (omega (arith, some))
find_on p (x ∷ xs) d all some h so_far = ap (find p) (tail-is x xs) ∙ rw h at so_far

pub find_none : (p : ℕ → Bool) (rest : List ℕ) (all : Option ℕ) → length rest < 1 → find p rest ≡ all → None ≡ all
find_none p [] all none so_far = so_far
find_none p (x ∷ xs) all none so_far = absurd (omega (arith, none))

-- what is found at a call
pub found_at : (n : ℕ) (G : List Event) (rank number : ℕ) (call copied : Call) (waits slice : List Wait) (ranks : List ℕ) (next : Option ℕ) (no_hope : Bool)
    → number ≡ length (view_of G rank) → copied ≡ call → waits ≡ waits_at n G rank call → slice ≡ waits → ranks ≡ world n 0
    → next ≡ find (λ r. is_live n G r && waits_for slice r) ranks → no_hope ≡ has_no_hope n G slice
    → IsFoundAt n G rank (Some call) (record { blocked = Some (record { rank = rank; number = number; call = copied; waits = waits }); next = next; is_hopeless = no_hope })
found_at n G rank number call copied waits slice ranks next no_hope numbered same waiting lent all found vain =
    let is : slice ≡ waits_at n G rank call = lent ∙ waiting in
    record {
      blocked = cc;
      next = found ∙ ap (λ l. find (λ r. is_live n G r && waits_for l r) ranks) is ∙ ap (find (λ r. is_live n G r && waits_for (waits_at n G rank call) r)) all;
      hopeless = vain ∙ ap (has_no_hope n G) is;
    }

-- the ranks so far
pub record IsFoundSoFar (n : ℕ) (events : List Event) (ranks rest : List ℕ) (told : List Blocked) (nexts : List (Option ℕ)) (hopeless : List ℕ) : Type 0 where
  pub blocked : told ++ blocked_in n events rest ≡ blocked_in n events ranks
  pub next : nexts ++ map (waited_rank n events) rest ≡ map (waited_rank n events) ranks
  pub vain : hopeless ++ filter (is_hopeless n events) rest ≡ filter (is_hopeless n events) ranks

pub one_found : (n : ℕ) (events : List Event) (ranks rest : List ℕ) (blocked blocked' : List Blocked) (nexts nexts' : List (Option ℕ)) (hopeless hopeless' : List ℕ) (d : ℕ) (found : RankFinding)
    → IsFoundSoFar n events ranks rest blocked nexts hopeless → 1 ≤ length rest → IsRankFinding n events (get_or rest 0 d) found
    → blocked' ≡ blocked ++ listed_blocked found.blocked → nexts' ≡ nexts ++ found.next ∷ [] → hopeless' ≡ hopeless ++ (if found.is_hopeless then get_or rest 0 d ∷ [] else [])
    → IsFoundSoFar n events ranks (take (length rest - 1) (drop 1 rest)) blocked' nexts' hopeless'
one_found n events ranks [] blocked blocked' nexts nexts' hopeless hopeless' d found so_far some is b x h = absurd (omega (arith, some))
one_found n events ranks (r ∷ rest) blocked blocked' nexts nexts' hopeless hopeless' d found so_far some is b x h =
    let tail : take (length (r ∷ rest) - 1) rest ≡ rest = tail-is r rest in
    let F : List ℕ → Type 0 = λ l. IsFoundSoFar n events ranks l blocked' nexts' hopeless' in
    subst F (sym tail) (record {
      blocked = ap (λ l. l ++ blocked_in n events rest) (b ∙ ap (λ l. blocked ++ l) is.blocked) ∙ append_assoc blocked (blocked_at n (going events) r (stopped_call events r)) (blocked_in n events rest) ∙ so_far.blocked;
      next = ap (λ l. l ++ map (waited_rank n events) rest) (x ∙ ap (λ o. nexts ++ o ∷ []) is.next) ∙ append_assoc nexts (waited_rank n events r ∷ []) (map (waited_rank n events) rest) ∙ so_far.next;
      vain = elim (test_cases (is_hopeless n events r)) [
        | inl t ↦ (
            let one : hopeless' ≡ hopeless ++ r ∷ [] = h ∙ rw (is.hopeless ∙ t) refl in
            let whole : hopeless ++ r ∷ filter (is_hopeless n events) rest ≡ filter (is_hopeless n events) ranks = rw t at so_far.vain in
            ap (λ l. l ++ filter (is_hopeless n events) rest) one ∙ append_assoc hopeless (r ∷ []) (filter (is_hopeless n events) rest) ∙ whole)
        | inr t ↦ (
            let one : hopeless' ≡ hopeless = h ∙ rw (is.hopeless ∙ t) (append-nil hopeless) in
            let whole : hopeless ++ filter (is_hopeless n events) rest ≡ filter (is_hopeless n events) ranks = rw t at so_far.vain in
            ap (λ l. l ++ filter (is_hopeless n events) rest) one ∙ whole)
      ];
    })

-- a rank that is no rank of the run is not stopped
halting-below : (n : ℕ) (events : List Event) → AreBelow n events → AreBelow n (halting events)
halting-below n [] below = tt
halting-below n (event ∷ events) below = elim (test_cases (stops event.reply)) [
  | inl t ↦ rw t below
  | inr t ↦ rw t (halting-below n events below.1)
]

no_view : (n : ℕ) (events : List Event) (rank : ℕ) → AreBelow n events → n ≤ rank → view_of events rank ≡ []
no_view n [] rank below above = refl
no_view n (event ∷ events) rank below above = elim (test_cases (event.rank == rank)) [
  | inl t ↦ (let same = eqb-true event.rank rank t in let low = below.0 in absurd (omega (arith, same, low, above)))
  | inr t ↦ rw t (no_view n events rank below.1 above)
]

world-get : {A : Type 0} (f : ℕ → A) (count from k : ℕ) (d : A) → k < count → get_or (map f (world count from)) k d ≡ f (from + k)
world-get f zero from k d low = absurd (omega (arith, low))
world-get f (suc count) from zero d low = ap f (omega arith)
world-get f (suc count) from (suc k) d low = world-get f count (from + 1) k d (omega (arith, low)) ∙ ap f (omega arith)

world-past : {A : Type 0} (f : ℕ → A) (count from k : ℕ) (d : A) → count ≤ k → get_or (map f (world count from)) k d ≡ d
world-past f zero from k d high = refl
world-past f (suc count) from zero d high = absurd (omega (arith, high))
world-past f (suc count) from (suc k) d high = world-past f count (from + 1) k d (omega (arith, high))

-- the table of those that are waited for next
pub table_is : (n : ℕ) (events : List Event) (nexts : List (Option ℕ)) → AreBelow n events → nexts ≡ map (waited_rank n events) (world n 0) → (rank : ℕ) → get_or nexts rank None ≡ waited_rank n events rank
table_is n events nexts below is rank =
    let here : get_or nexts rank None ≡ get_or (map (waited_rank n events) (world n 0)) rank None = ap (λ l. get_or l rank None) is in
    elim (cases_order rank n) [
      | inl same ↦ here ∙ world-past (waited_rank n events) n 0 rank None (omega (arith, same)) ∙ sym (nobody n events rank below (omega (arith, same)))
      | inr apart ↦ elim apart [
        | inl less ↦ here ∙ world-get (waited_rank n events) n 0 rank None less ∙ ap (waited_rank n events) (omega arith)
        | inr more ↦ here ∙ world-past (waited_rank n events) n 0 rank None (omega (arith, more)) ∙ sym (nobody n events rank below (omega (arith, more)))
      ]
    ]
  where
    nobody : (n : ℕ) (events : List Event) (rank : ℕ) → AreBelow n events → n ≤ rank → waited_rank n events rank ≡ None
    nobody n events rank below above =
        let none : stopped_call events rank ≡ None = ap first_call (no_view n (halting events) rank (halting-below n events below) above) in
        ap (next_at n (going events) rank) none

pub all_found : (n : ℕ) (events : List Event) (ranks rest : List ℕ) (blocked : List Blocked) (nexts : List (Option ℕ)) (hopeless : List ℕ) → IsFoundSoFar n events ranks rest blocked nexts hopeless → length rest < 1
    → (blocked ≡ blocked_in n events ranks) × (nexts ≡ map (waited_rank n events) ranks) × (hopeless ≡ filter (is_hopeless n events) ranks)
all_found n events ranks [] blocked nexts hopeless is none = (sym (append-nil blocked) ∙ is.blocked, sym (append-nil nexts) ∙ is.next, sym (append-nil hopeless) ∙ is.vain)
all_found n events ranks (r ∷ rest) blocked nexts hopeless is none = absurd (omega (arith, none))

pub first_found : (n : ℕ) (events : List Event) (ranks : List ℕ) (blocked : List Blocked) (nexts : List (Option ℕ)) (hopeless : List ℕ) → blocked ≡ [] → nexts ≡ [] → hopeless ≡ []
    → IsFoundSoFar n events ranks ranks blocked nexts hopeless
first_found n events ranks blocked nexts hopeless b x h =
    record {
      blocked = ap (λ l. l ++ blocked_in n events ranks) b;
      next = ap (λ l. l ++ map (waited_rank n events) ranks) x;
      vain = ap (λ l. l ++ filter (is_hopeless n events) ranks) h;
    }

below_from : (count from n : ℕ) → from + count ≤ n → are_below n (world count from) ≡ true
below_from zero from n low = refl
below_from (suc count) from n low = rw (lt-ltb from n (omega (arith, low)), below_from count (from + 1) n (omega (arith, low))) refl

pub below_all : (n : ℕ) (ranks : List ℕ) → ranks ≡ world n 0 → are_below n ranks ≡ true
below_all n ranks all = ap (are_below n) all ∙ below_from n 0 n (omega arith)

pub below_here : (n : ℕ) (rest : List ℕ) (d : ℕ) → are_below n rest ≡ true → 1 ≤ length rest → (get_or rest 0 d < n) × (are_below n (take (length rest - 1) (drop 1 rest)) ≡ true)
below_here n [] d below some = absurd (omega (arith, some))
below_here n (r ∷ rest) d below some =
    let parts = and_parts (nat_lt r n) (are_below n rest) below in
    (ltb-true r n parts.0, ap (are_below n) (tail-is r rest) ∙ parts.1)

pub graph_is : (n : ℕ) (events : List Event) (ranks : List ℕ) (blocked : List Blocked) (nexts : List (Option ℕ)) (rounds : List (List ℕ)) (hopeless : List ℕ) → AreOfRanks n events → ranks ≡ world n 0
    → blocked ≡ blocked_in n events ranks → nexts ≡ map (waited_rank n events) ranks → hopeless ≡ filter (is_hopeless n events) ranks
    → rounds ≡ cycles_in (λ rank. get_or nexts rank None) n ranks → (record { blocked = blocked; cycles = rounds; hopeless = hopeless }) ≡ graph_of n events
graph_is n events ranks blocked nexts rounds hopeless below all b x h c =
    let table : (λ rank. get_or nexts rank None) ≡ waited_rank n events = fun_ext (table_is n events nexts (recursion_from_All (λ (event : Event). event.rank < n) events below) (x ∙ ap (map (waited_rank n events)) all)) in
    let one = b ∙ ap (blocked_in n events) all in
    let two : rounds ≡ cycles_in (waited_rank n events) n (world n 0) = c ∙ ap (λ f. cycles_in f n ranks) table ∙ ap (cycles_in (waited_rank n events) n) all in
    let three = h ∙ ap (filter (is_hopeless n events)) all in
    cc
