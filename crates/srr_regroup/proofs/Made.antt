-- The logs that are made from replays.
use Rattle.std.proofs.Common.{◌≡◌, ◌<◌, ◌≤◌, ◌+◌, ◌-◌, ◌++◌, ◌∷◌, ◌∙◌, ◌==◌, ◌||◌, All, Bool, List, None, [], ap, append-nil, arith, drop, false, filter, get_or, inl, inr, length, map, subst, suc, sym, take, true, ℕ}
use Rattle.std.proofs.Math.Seq.{take-length}
use Rattle.std.proofs.lemmas.Bool.{and_parts, eqb-true, or_cases}
use Rattle.std.proofs.lemmas.List.Elements.{filter-append, filter_passes}
use Rattle.mpi_call.specs.Collectives.{is_member}
use Rattle.run_model.specs.declared.event.Event.{Event}
use Rattle.run_model.specs.Lists.{world}
use Rattle.run_model.specs.Views.{view_of}
use Rattle.run_model.proofs.CommunicatorLaws.{world-last}
use Rattle.srr_entry.specs.declared.entry.Entry.{Entry}
use Rattle.srr_entry.specs.declared.log.Log.{Log}
use Rattle.srr_entry.specs.Entries.{entries_from}
use Rattle.srr_entry.specs.Seen.{AreRanksViews, IsRanksView}
use Rattle.srr_entry.proofs.Making.{lists_more, view_is}
use Rattle.srr_replay.specs.Rounds.{IsReplayable}
use Rattle.srr_replay.proofs.LogLemmas.{below_at}
use Rattle.srr_replay.proofs.ReplaysLemmas.{Came-Replays}
use Rattle.srr_regroup.specs.Regrouping.{CanBeJoined, IsPartOf, IsReplayOfAProgram, are_within, both_groups}
use Rattle.srr_regroup.proofs.Groups.{first_view, second_view}

-- each rank of the group has in a replay a view of a rank
pub replay_view : (log : Log) (events : List Event) (rank : ℕ) → IsReplayable log → IsReplayOfAProgram log events → is_member log.group rank ≡ true
    → IsRanksView log.ranks rank (view_of events rank)
replay_view log events rank fine is member =
    let came = Came-Replays is.next log None events (record { enters = is.enters; bounds = is.asks }) fine is.whole.replays in
    let below : rank < log.ranks = below_at log.ranks log.group rank fine.below member in
    view_is is.next log.ranks rank (view_of events rank) is.enters (omega (arith, below), fine.few, below) (came.views rank)

pub within_member : (group part : List ℕ) (rank : ℕ) → are_within group part ≡ true → is_member part rank ≡ true → is_member group rank ≡ true
within_member group [] rank within member = (let t : false ≡ true = member in absurd (cc))
within_member group (x ∷ part) rank within member =
    let parts = and_parts (is_member group x) (are_within group part) within in
    elim (or_cases (x == rank) (is_member part rank) member) [
      | inl same ↦ (
          let is : x ≡ rank = eqb-true x rank same in
          let F : ℕ → Type 0 = λ r. is_member group r ≡ true in
          subst F is parts.0)
      | inr later ↦ within_member group part rank parts.1 later
    ]

pub part_views : (log : Log) (events : List Event) (part : List ℕ) → IsReplayable log → IsReplayOfAProgram log events → IsPartOf log.group part
    → AreRanksViews log.ranks part events
part_views log events part fine is part_is = λ rank member.
    replay_view log events rank fine is (within_member log.group part rank part_is.within member)

-- a rank that is in one of the groups, and not in the first
pub other_member : (one two : Log) (rank : ℕ) → (is_member one.group rank || is_member two.group rank) ≡ true → is_member one.group rank ≡ false
    → is_member two.group rank ≡ true
other_member one two rank there other =
    elim (or_cases (is_member one.group rank) (is_member two.group rank) there) [
      | inl h ↦ (let t : true ≡ false = sym h ∙ other in absurd (cc))
      | inr h ↦ h
    ]

-- the entries of a rank of the first group, and of one of the second alone
pub first_entries : (one two : Log) (first second : List Event) (group : List ℕ) (rank : ℕ) → CanBeJoined one first two second → is_member one.group rank ≡ true
    → entries_from one.ranks group rank [] (view_of first rank) ≡ entries_from one.ranks group rank [] (view_of (first ++ second) rank)
first_entries one two first second group rank can mine =
    ap (λ v. entries_from one.ranks group rank [] v)
    (sym (first_view can.second_replay.next two None first second rank can.second_replay.whole.replays (can.apart.1 rank mine)))

pub second_entries : (one two : Log) (first second : List Event) (group : List ℕ) (rank : ℕ) → CanBeJoined one first two second → is_member one.group rank ≡ false
    → entries_from two.ranks group rank [] (view_of second rank) ≡ entries_from one.ranks group rank [] (view_of (first ++ second) rank)
second_entries one two first second group rank can other =
    let ranks : one.ranks ≡ two.ranks = can.apart.0.0 in
    ap (λ (n : ℕ). entries_from n group rank [] (view_of second rank)) (sym ranks)
    ∙ ap (λ v. entries_from one.ranks group rank [] v)
    (sym (second_view can.first_replay.next one None first second rank can.first_replay.whole.replays other))

-- the ranks that are left of both groups
abbrev pub AreInBoth : Log → Log → List ℕ → Type 0
AreInBoth one two ranks = All (λ rank. (is_member one.group rank || is_member two.group rank) ≡ true) ranks

pub all_in_both : (one two : Log) → AreInBoth one two (both_groups one two)
all_in_both one two = filter_passes (λ rank. is_member one.group rank || is_member two.group rank) (world one.ranks 0)

-- the ranks below a number that are in one of the groups
abbrev pub in_both_below : Log → Log → ℕ → List ℕ
in_both_below one two count = filter (λ rank. is_member one.group rank || is_member two.group rank) (world count 0)

-- one rank more
last_split : (one two : Log) (rank : ℕ) → in_both_below one two (rank + 1) ≡ in_both_below one two rank ++ filter (λ r. is_member one.group r || is_member two.group r) (rank ∷ [])
last_split one two rank =
    let p : ℕ → Bool = λ r. is_member one.group r || is_member two.group r in
    ap (filter p) (world-last rank) ∙ filter-append p (world rank 0) (rank ∷ [])

pub both_more : (one two : Log) (rank : ℕ) (ranks ranks' : List ℕ) → (is_member one.group rank || is_member two.group rank) ≡ true
    → ranks ≡ in_both_below one two rank → ranks' ≡ ranks ++ rank ∷ [] → ranks' ≡ in_both_below one two (rank + 1)
both_more one two rank ranks ranks' there so_far grown =
    let last : filter (λ r. is_member one.group r || is_member two.group r) (rank ∷ []) ≡ rank ∷ [] = rw there in
    grown ∙ (ap (λ l. l ++ rank ∷ []) so_far ∙ sym (last_split one two rank ∙ ap (λ l. in_both_below one two rank ++ l) last))

pub both_same : (one two : Log) (rank : ℕ) (ranks : List ℕ) → (is_member one.group rank || is_member two.group rank) ≡ false
    → ranks ≡ in_both_below one two rank → ranks ≡ in_both_below one two (rank + 1)
both_same one two rank ranks other so_far =
    let last : filter (λ r. is_member one.group r || is_member two.group r) (rank ∷ []) ≡ [] = rw other in
    so_far ∙ sym (last_split one two rank ∙ (ap (λ l. in_both_below one two rank ++ l) last ∙ append-nil (in_both_below one two rank)))

-- the entries of both groups' ranks
abbrev pub in_both : Log → List Event → List Event → List ℕ → ℕ → List Entry
in_both one first second group rank = entries_from one.ranks group rank [] (view_of (first ++ second) rank)

pub left_rest : (one two : Log) (rest : List ℕ) → AreInBoth one two rest → 1 ≤ length rest → AreInBoth one two (take (length rest - 1) (drop 1 rest))
left_rest one two [] all some = absurd (omega (arith, some))
left_rest one two (x ∷ rest) all some =
    let less : suc (length rest) - 1 ≡ length rest = omega arith in
    rw (less, take-length rest) (λ i d within. all (suc i) d (omega (arith, within)))

-- the lists of the ranks before these are made
pub record AreMade (one two : Log) (first second : List Event) (lists : List (List Entry)) (rest : List ℕ) : Type 0 where
  pub made : lists ++ map (in_both one first second (both_groups one two)) rest ≡ map (in_both one first second (both_groups one two)) (both_groups one two)
  pub left : AreInBoth one two rest

pub none_made : (one two : Log) (first second : List Event) (lists : List (List Entry)) (rest : List ℕ) → lists ≡ [] → rest ≡ both_groups one two
    → AreMade one two first second lists rest
none_made one two first second lists rest none all =
    let F : List ℕ → Type 0 = λ l. AreInBoth one two l in
    record {
      made = rw none (ap (map (in_both one first second (both_groups one two))) all);
      left = subst F (sym all) (all_in_both one two);
    }

pub one_made : (one two : Log) (first second : List Event) (lists lists' : List (List Entry)) (rest group : List ℕ) (entries : List Entry)
    → AreMade one two first second lists rest → 1 ≤ length rest → group ≡ both_groups one two
    → entries ≡ entries_from one.ranks group (get_or rest 0 0) [] (view_of (first ++ second) (get_or rest 0 0)) → lists' ≡ lists ++ entries ∷ []
    → AreMade one two first second lists' (take (length rest - 1) (drop 1 rest))
one_made one two first second lists lists' rest group entries so_far some is made grown =
    let entry : entries ≡ in_both one first second (both_groups one two) (get_or rest 0 0) =
    made ∙ ap (λ g. entries_from one.ranks g (get_or rest 0 0) [] (view_of (first ++ second) (get_or rest 0 0))) is in
    record {
      made = lists_more (in_both one first second (both_groups one two)) lists lists' rest (both_groups one two) entries so_far.made some entry grown;
      left = left_rest one two rest so_far.left some;
    }
