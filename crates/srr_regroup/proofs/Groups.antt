-- The logs of a part and of both groups are those of the run.
use Rattle.std.proofs.Common.{◌≡◌, ◌++◌, ◌∷◌, ◌∙◌, ◌==◌, ◌||◌, All, Bool, List, None, [], ap, append-nil, arith, false, get_or, inl, inr, map, refl, suc, sym, true, ℕ}
use Rattle.std.proofs.lemmas.Bool.{and_parts, eqb-true, or_cases}
use Rattle.std.proofs.lemmas.List.Elements.{All-cons, All-nil, filter_passes}
use Rattle.mpi_call.specs.Collectives.{is_member}
use Rattle.run_model.specs.declared.event.Event.{Event}
use Rattle.run_model.specs.Lists.{world}
use Rattle.run_model.specs.Views.{Next, view_of}
use Rattle.run_model.proofs.Along.{Along-keeps}
use Rattle.run_model.proofs.RunLaws.{Lawful}
use Rattle.run_model.proofs.Views.{test_cases, view_of-append, view_of-other}
use Rattle.srr_entry.specs.declared.entry.Entry.{Entry}
use Rattle.srr_entry.specs.declared.log.Log.{Log}
use Rattle.srr_entry.specs.Entries.{entries_from, log_of}
use Rattle.replay_model.specs.Laws.{IsRunWith}
use Rattle.replay_model.specs.Replays.{Breakpoint, IsReplayStep, IsWholeReplay, Replays}
use Rattle.replay_model.proofs.Cut.{whole_views}
use Rattle.srr_regroup.specs.Joining.{CanJoin}
use Rattle.srr_regroup.specs.Regrouping.{IsPartOf, are_within, both_groups, joined_log, refined}

same_lists : {A B : Type 0} (f g : A → B) (xs : List A) → All (λ x. f x ≡ g x) xs → map f xs ≡ map g xs
same_lists f g [] all = refl
same_lists f g (x ∷ xs) all =
    let first : f x ≡ g x = all 0 x (omega arith) in
    rw (first, same_lists f g xs (λ i d within. all (suc i) d (omega (arith, within))))

-- each of the ranks is in the group
pub all_within : (group ranks : List ℕ) → are_within group ranks ≡ true → All (λ rank. is_member group rank ≡ true) ranks
all_within group [] within = All-nil (λ rank. is_member group rank ≡ true)
all_within group (x ∷ ranks) within =
    let parts = and_parts (is_member group x) (are_within group ranks) within in
    All-cons (λ rank. is_member group rank ≡ true) x ranks parts.0 (all_within group ranks parts.1)

-- a log is made of the views of its ranks
same_log : (text : List ℕ) (n : ℕ) (events run : List Event) (group : List ℕ) → All (λ rank. view_of events rank ≡ view_of run rank) group
    → log_of text n events group ≡ log_of text n run group
same_log text n events run group same =
    let F : ℕ → List Entry = λ rank. entries_from n group rank [] (view_of events rank) in
    let G : ℕ → List Entry = λ rank. entries_from n group rank [] (view_of run rank) in
    let log : List (List Entry) → Log = λ lists. record { ranks = n; group = group; program = text; lists = lists } in
    ap log (same_lists F G group (λ i d within. ap (λ v. entries_from n group (get_or group i d) [] v) (same i d within)))

pub refined_is : (next : Next) (log : Log) (events run : List Event) (part : List ℕ) → Lawful next → IsWholeReplay next log None events
    → IsPartOf log.group part → IsRunWith next log run → refined log events part ≡ log_of log.program log.ranks run part
refined_is next log events run part lawful whole is with_log =
    same_log log.program log.ranks events run part
    (λ i d within. whole_views next log None run events (get_or part i d) refl lawful with_log whole (all_within log.group part is.within i d within))

-- no rank outside the group has a step
alone_more : (next : Next) (log : Log) (stop : Breakpoint) (rank : ℕ) → is_member log.group rank ≡ false
    → (before : List Event) (event : Event) → view_of before rank ≡ [] → IsReplayStep next log stop before event → view_of (before ++ event ∷ []) rank ≡ []
alone_more next log stop rank other before event none step =
    elim (test_cases (event.rank == rank)) [
      | inl h ↦ (
          let mine : is_member log.group rank ≡ true = rw (← eqb-true event.rank rank h) step.member in
          let no : true ≡ false = sym mine ∙ other in
          absurd (cc))
      | inr h ↦ view_of-other before event rank h ∙ none
    ]

pub alone : (next : Next) (log : Log) (stop : Breakpoint) (events : List Event) (rank : ℕ) → Replays next log stop events
    → is_member log.group rank ≡ false → view_of events rank ≡ []
alone next log stop events rank all other =
    Along-keeps (IsReplayStep next log stop) (λ before. view_of before rank ≡ []) (alone_more next log stop rank other) [] events refl all

-- the view of a rank of one group, and of a rank of the other
pub first_view : (next : Next) (log : Log) (stop : Breakpoint) (first second : List Event) (rank : ℕ) → Replays next log stop second
    → is_member log.group rank ≡ false → view_of (first ++ second) rank ≡ view_of first rank
first_view next log stop first second rank all other =
    view_of-append first second rank ∙ rw (alone next log stop second rank all other, append-nil)

pub second_view : (next : Next) (log : Log) (stop : Breakpoint) (first second : List Event) (rank : ℕ) → Replays next log stop first
    → is_member log.group rank ≡ false → view_of (first ++ second) rank ≡ view_of second rank
second_view next log stop first second rank all other =
    view_of-append first second rank ∙ rw (alone next log stop first rank all other)

both_views : (next : Next) (one two : Log) (first second run : List Event) (rank : ℕ) → Lawful next → CanJoin one two
    → IsWholeReplay next one None first → IsWholeReplay next two None second → IsRunWith next one run → IsRunWith next two run
    → (is_member one.group rank || is_member two.group rank) ≡ true → view_of (first ++ second) rank ≡ view_of run rank
both_views next one two first second run rank lawful can whole other_whole with_one with_two there =
    elim (test_cases (is_member one.group rank)) [
      | inl mine ↦
          first_view next two None first second rank other_whole.replays (can.1 rank mine)
          ∙ whole_views next one None run first rank refl lawful with_one whole mine
      | inr other ↦ (
          let mine : is_member two.group rank ≡ true = elim (or_cases (is_member one.group rank) (is_member two.group rank) there) [
            | inl h ↦ (let t : true ≡ false = sym h ∙ other in absurd (cc))
            | inr h ↦ h
          ] in
          second_view next one None first second rank whole.replays other
          ∙ whole_views next two None run second rank refl lawful with_two other_whole mine)
    ]

pub joined_is : (next : Next) (one two : Log) (first second run : List Event) → Lawful next → CanJoin one two
    → IsWholeReplay next one None first → IsWholeReplay next two None second → IsRunWith next one run → IsRunWith next two run
    → joined_log one first two second ≡ log_of one.program one.ranks run (both_groups one two)
joined_is next one two first second run lawful can whole other_whole with_one with_two =
    let p : ℕ → Bool = λ rank. is_member one.group rank || is_member two.group rank in
    same_log one.program one.ranks (first ++ second) run (both_groups one two)
    (λ i d within. both_views next one two first second run (get_or (both_groups one two) i d) lawful can whole other_whole with_one with_two
    (filter_passes p (world one.ranks 0) i d within))
