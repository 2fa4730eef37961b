-- The places of a replay that can go no further are those that the breakpoint does not cut off.
use Rattle.std.proofs.Common.{◌++◌, ◌+◌, ◌<◌, ◌==◌, ◌∙◌, ◌∷◌, ◌≡◌, ◌≤◌, Err, List, None, Ok, Option, Result, Some, [], ap, append-nil, append_assoc, arith, false, inl, inr, length, length-append, refl, slice_get, subst, suc, sym, true, zero, ℕ}
use Rattle.std.proofs.lemmas.Bool.{cases_lt, eqb-true}
use Rattle.mpi_call.specs.declared.call.Call.{Call}
use Rattle.mpi_call.specs.declared.reply.Reply.{Reply}
use Rattle.mpi_call.specs.Lists.{IsIn}
use Rattle.mpi_call.specs.Collectives.{is_member}
use Rattle.run_model.specs.declared.event.Event.{Event}
use Rattle.run_model.specs.declared.lists.Variable.{Variable}
use Rattle.run_model.specs.Lists.{IsPrefixOf}
use Rattle.run_model.specs.Run.{IsRun}
use Rattle.run_model.specs.Views.{Next, View, replies_in, view_of}
use Rattle.run_model.proofs.Places.{view_at, walk}
use Rattle.run_model.proofs.Prefixes.{Begins, prefix_trans}
use Rattle.run_model.proofs.RunLaws.{IsRun-event, Lawful}
use Rattle.run_model.proofs.Views.{test_cases, view_of-append, view_of-mine, view_of-other}
use Rattle.srr_entry.specs.declared.entry.Entry.{Entry}
use Rattle.srr_entry.specs.declared.log.Log.{Log}
use Rattle.srr_entry.specs.Outputs.{Output}
use Rattle.srr_entry.specs.Entries.{entries_for, entry_of}
use Rattle.srr_entry.proofs.EntryPlaces.{entry_in_log, entry_past}
use Rattle.replay_model.specs.declared.replayed.Stand.{Stand}
use Rattle.replay_model.specs.declared.replayed.Stand.TheVariants.{Ended as StandEnded, LogEnded as StandLogEnded}
use Rattle.replay_model.specs.declared.step.Found.{Found}
use Rattle.replay_model.specs.declared.step.Missing.{Missing}
use Rattle.replay_model.specs.declared.step.Step.{Step}
use Rattle.replay_model.specs.declared.step.Step.TheVariants.{AtBreak, LogEnded, Replied, Wait}
use Rattle.replay_model.specs.Breaks.{broken}
use Rattle.replay_model.specs.Filling.{filled_reply}
use Rattle.replay_model.specs.Fits.{entry_fits}
use Rattle.replay_model.specs.Laws.{EachStand, HasAllOf, HasTheCut, IsStandAtEnd, IsRunWith}
use Rattle.replay_model.specs.Replays.{IsWholeReplay, Replays, Breakpoint, replay_answer, diverged, is_break, judged}
use Rattle.replay_model.specs.Rests.{IsCutOff, follows, rank_rested_on, rests, rests_on, stops}
use Rattle.replay_model.specs.Stands.{stand_where}
use Rattle.replay_model.proofs.Answers.{answer_of-same, goes, waits}
use Rattle.replay_model.proofs.Confluence.{step_in}
use Rattle.replay_model.proofs.Fillings.{filled_allowed, within, within_begins}
use Rattle.replay_model.proofs.MissingLemmas.{filled-missing, first_missing, is_there, missing_in}
use Rattle.replay_model.proofs.NumberLemmas.{below_there, missing_among, none_missing, there_below}
use Rattle.replay_model.proofs.Prefix.{Begins-run, answer-replied, begins_run, entry-replied}
use Rattle.replay_model.proofs.RunAnswers.{answer_whole}

-- The places of a replay that can go no further are those that no breakpoint blocks.
pub record SplitAt {A : Type 0} (xs : List A) (k : ℕ) : Type 0 where
  pub front : List A
  pub here : A
  pub rest : List A
  pub whole : xs ≡ front ++ here ∷ rest
  pub long : length front ≡ k

pub split_at : {A : Type 0} (xs : List A) (k : ℕ) → k < length xs → SplitAt xs k
split_at [] k h = absurd (omega arith)
split_at (x ∷ xs) zero h = record { front = []; here = x; rest = xs; whole = refl; long = refl }
split_at (x ∷ xs) (suc k) h =
    let later = split_at xs k (omega arith) in
    record { front = x ∷ later.front; here = later.here; rest = later.rest; whole = ap (λ l. x ∷ l) later.whole; long = ap suc later.long }

pub same_front : {A : Type 0} (xs ys : List A) (x y : A) (p q : List A) → length xs ≡ length ys → xs ++ x ∷ p ≡ ys ++ y ∷ q
    → (xs ≡ ys) × (x ≡ y)
same_front [] [] x y p q l e = (refl, cc)
same_front [] (b ∷ ys) x y p q l e = absurd (omega (arith, l))
same_front (a ∷ xs) [] x y p q l e = absurd (omega (arith, l))
same_front (a ∷ xs) (b ∷ ys) x y p q l e =
    let heads : a ≡ b = cc in
    let tails : xs ++ x ∷ p ≡ ys ++ y ∷ q = cc in
    let rest = same_front xs ys x y p q (omega (arith, l)) tails in
    (ap (λ h. h ∷ xs) heads ∙ ap (λ t. b ∷ t) rest.0, rest.1)

pub same_length : {A : Type 0} (xs ys p q : List A) → length xs ≡ length ys → xs ++ p ≡ ys ++ q → xs ≡ ys
same_length [] [] p q l e = refl
same_length [] (b ∷ ys) p q l e = absurd (omega (arith, l))
same_length (a ∷ xs) [] p q l e = absurd (omega (arith, l))
same_length (a ∷ xs) (b ∷ ys) p q l e =
    let heads : a ≡ b = cc in
    let tails : xs ++ p ≡ ys ++ q = cc in
    ap (λ h. h ∷ xs) heads ∙ ap (λ t. b ∷ t) (same_length xs ys p q (omega (arith, l)) tails)

judged-waits : (me : ℕ) (own : View) (call : Call) (entry : Entry) (fill : Result Reply Missing) (found : Option Found) (missing : Missing)
    → judged me own call entry fill found ≡ Wait missing → fill ≡ Err missing
judged-waits me own call entry (Err m) found missing h = (let e : m ≡ missing = cc in ap (λ x. Err x) e)
judged-waits me own call entry (Ok other) (Some found) missing h = absurd (cc)
judged-waits me own call entry (Ok other) None missing h = absurd (cc)

-- what stands at a place of a replay stands there in the run
at_place : (next : Next) (log : Log) (stop : Breakpoint) (run events : List Event) (rank : ℕ) (view rest : View) (call : Call) (reply : Reply)
    → IsRunWith next log run → Replays next log stop events → view_of run rank ≡ view ++ (call, reply) ∷ rest
    → length view < length (view_of events rank) → replay_answer log stop (view_of events) rank view call ≡ Replied reply
at_place next log stop run events rank view rest call reply is all e below =
    let cut = split_at (view_of events rank) (length view) below in
    let prefix = begins_run next log stop run events is all rank in
    let both : cut.front ++ cut.here ∷ (cut.rest ++ prefix.0) ≡ view ++ (call, reply) ∷ rest = sym (append_assoc cut.front (cut.here ∷ cut.rest) prefix.0) ∙ (ap (λ l. l ++ prefix.0) (sym cut.whole) ∙ (prefix.1 ∙ e)) in
    let same = same_front cut.front view cut.here (call, reply) (cut.rest ++ prefix.0) rest cut.long both in
    let F : View → Type 0 = λ v. view_of events rank ≡ v ++ cut.here ∷ cut.rest in
    let G : Call × Reply → Type 0 = λ x. view_of events rank ≡ view ++ x ∷ cut.rest in
    let here : view_of events rank ≡ view ++ (call, reply) ∷ cut.rest = subst G same.1 (subst F same.0 cut.whole) in
    (step_in next log stop events rank view call reply cut.rest all here).1

-- no place of a replay is cut off
pub cut_off_not : (next : Next) (log : Log) (stop : Breakpoint) (run events : List Event) (rank number : ℕ) → IsRunWith next log run
    → Replays next log stop events → IsCutOff log.ranks log.group (view_of run) stop rank number
    → number < length (view_of events rank) → ⊥
cut_off_not next log stop run events _ _ is all (stops rank number t) below =
    let cut = split_at (view_of events rank) number below in
    let here = step_in next log stop events rank cut.front cut.here.0 cut.here.1 cut.rest all cut.whole in
    let stopped : is_break stop rank (length cut.front) ≡ true = rw cut.long t in
    let no : AtBreak ≡ Replied cut.here.1 = rw stopped at here.1 in
    cc
cut_off_not next log stop run events _ _ is all (follows rank number off) below =
    cut_off_not next log stop run events rank number is all off (omega arith)
cut_off_not next log stop run events _ _ is all (rests_on rank view rest call reply missing number member e among number_is off) below =
    let n : ℕ = log.ranks in
    let group : List ℕ = log.group in
    let answered = at_place next log stop run events rank view rest call reply is all e below in
    let entry = entry_in_log log run rank view call reply rest is.same_log member e in
    let h = answer-replied log stop (view_of events) view rank call reply answered in
    let fill = entry-replied n group (view_of events) view rank call (entry_of n group rank view call reply) reply (rw entry at h) in
    let none : first_missing n (view_of events) (rests n rank view call (entry_of n group rank view call reply)) ≡ None = filled-missing n (view_of events) view rank call (entry_of n group rank view call reply) ∙ ap missing_in fill in
    let there = none_missing n (view_of events) (rests n rank view call (entry_of n group rank view call reply)) missing none among in
    let place = below_there n (view_of events) (view_of run) missing (begins_run next log stop run events is all) there in
    let numbers : Some place.0 ≡ Some number = sym place.1 ∙ number_is in
    let same : place.0 ≡ number = cc in
    let F : ℕ → Type 0 = λ x. x < length (view_of events (rank_rested_on missing)) in
    cut_off_not next log stop run events (rank_rested_on missing) number is all off (subst F same place.2)

-- an answer to wait names what is missing
waits_for : (log : Log) (stop : Breakpoint) (V : ℕ → View) (own : View) (me : ℕ) (call : Call) (entry : Entry) (missing : Missing)
    → slice_get (entries_for log.group log.lists me) (length own) ≡ Some entry → replay_answer log stop V me own call ≡ Wait missing
    → filled_reply log.ranks V me own call entry ≡ Err missing
waits_for log stop V own me call entry missing e h =
    elim (test_cases (is_break stop me (length own))) [
      | inl t ↦ (let no : AtBreak ≡ Wait missing = rw t at h in absurd (cc))
      | inr t ↦ elim (test_cases (entry_fits log.ranks log.group me own call entry)) [
        | inl f ↦ judged-waits me own call entry (filled_reply log.ranks V me own call entry) (broken log.ranks V me own call entry) missing (rw (t, e, f) at h)
        | inr f ↦ (let no : diverged me own call entry None ≡ Wait missing = rw (t, e, f) at h in absurd (cc))
      ]
    ]

not_break : (n : ℕ) (group : List ℕ) (V : ℕ → View) (stop : Breakpoint) (rank number : ℕ) → (IsCutOff n group V stop rank number → ⊥)
    → is_break stop rank number ≡ false
not_break n group V stop rank number free =
    elim (test_cases (is_break stop rank number)) [
      | inr t ↦ t
      | inl t ↦ absurd (free (stops rank number t))
    ]

-- all places so far that are not cut off are replayed
abbrev HasFree : ℕ → List ℕ → (ℕ → View) → Breakpoint → List Event → List Event → Type 0
HasFree n group V stop events before =
    (rank number : ℕ) → is_member group rank ≡ true → number < length (view_of before rank) → (IsCutOff n group V stop rank number → ⊥) → number < length (view_of events rank)

missing_there : (n : ℕ) (group : List ℕ) (stop : Breakpoint) (run events before : List Event) (rank : ℕ) (view rest : View) (call : Call) (reply : Reply) (missing : Missing)
    → HasFree n group (view_of run) stop events before → Begins (view_of events) (view_of run)
    → Begins (view_of before) (view_of run) → is_member group rank ≡ true → view_of run rank ≡ view ++ (call, reply) ∷ rest
    → (IsCutOff n group (view_of run) stop rank (length view) → ⊥)
    → IsIn missing (rests n rank view call (entry_of n group rank view call reply))
    → is_there n (within group (view_of before)) missing ≡ true → is_there n (view_of events) missing ≡ true
missing_there n group stop run events before rank view rest call reply missing has begins begins_before member e free among there =
    let up : Begins (within group (view_of before)) (view_of run) = λ r. prefix_trans (within group (view_of before) r) (view_of before r) (view_of run r) (within_begins group (view_of before) r) (begins_before r) in
    let place = below_there n (within group (view_of before)) (view_of run) missing up there in
    elim (test_cases (is_member group (rank_rested_on missing))) [
      | inl i ↦ (
          let below : place.0 < length (view_of before (rank_rested_on missing)) = rw i at place.2 in
          let replayed = has (rank_rested_on missing) place.0 i below (λ b. free (rests_on rank view rest call reply missing place.0 member e among place.1 b)) in
          there_below n (view_of events) (view_of run) missing place.0 begins place.1 replayed)
      | inr o ↦ (
          let below : place.0 < 0 = rw o at place.2 in
          absurd (omega arith))
    ]

-- the next place, where it is not cut off, is a step
next_free : (next : Next) (log : Log) (stop : Breakpoint) (run events before after : List Event) (event : Event) → Lawful next
    → IsRunWith next log run → IsWholeReplay next log stop events → run ≡ before ++ event ∷ after
    → HasFree log.ranks log.group (view_of run) stop events before → is_member log.group event.rank ≡ true
    → (IsCutOff log.ranks log.group (view_of run) stop event.rank (length (view_of before event.rank)) → ⊥)
    → view_of before event.rank ≡ view_of events event.rank → ⊥
next_free next log stop run events before after event lawful is all e has member free same =
    let n : ℕ = log.ranks in
    let group : List ℕ = log.group in
    let own : View = view_of before event.rank in
    let place = view_at run before after event e in
    let split : IsRun next n (before ++ event ∷ after) = let P : List Event → Type 0 = λ l. IsRun next n l in subst P e is.is_run in
    let step = IsRun-event next n before after event split in
    let begins = begins_run next log stop run events is all.replays in
    let up = Begins-run next log stop run events is all.replays in
    let begins_before : Begins (view_of before) (view_of run) = λ r. (view_of (event ∷ after) r, sym (ap (λ l. view_of l r) e ∙ view_of-append before (event ∷ after) r)) in
    let free_break = not_break n group (view_of run) stop event.rank (length own) free in
    let whole = answer_whole next log stop run event.rank own event.call event.reply (view_of after event.rank) lawful is member place free_break in
    let entry : Entry = entry_of n group event.rank own event.call event.reply in
    let needed : List Missing = rests n event.rank own event.call entry in
    elim (answer_of-same log stop (view_of events) (within group (view_of run)) own event.rank event.call up) [
      | goes e ↦ (
          let answer : replay_answer log stop (view_of events) event.rank own event.call ≡ Replied event.reply = sym e ∙ whole in
          let made : Event = record { rank = event.rank; call = event.call; reply = event.reply; mate = None; met = [] } in
          all.exhausted made (record { member = member; call = rw (← same) step.call; reply = rw (← same) answer; mate = refl; alone = refl }))
      | waits missing w ↦ (
          let at = entry_in_log log run event.rank own event.call event.reply (view_of after event.rank) is.same_log member place in
          let fill = waits_for log stop (view_of events) own event.rank event.call entry missing at w in
          let first : first_missing n (view_of events) needed ≡ Some missing = filled-missing n (view_of events) own event.rank event.call entry ∙ ap missing_in fill in
          let among = missing_among n (view_of events) needed missing first in
          let fill_before = filled_allowed next n group before event.rank event.call event.reply step.reply in
          let none : first_missing n (within group (view_of before)) needed ≡ None = filled-missing n (within group (view_of before)) own event.rank event.call entry ∙ ap missing_in fill_before in
          let there = none_missing n (within group (view_of before)) needed missing none among.0 in
          let in_replay = missing_there n group stop run events before event.rank own (view_of after event.rank) event.call event.reply missing has begins begins_before member place free among.0 there in
          let no : true ≡ false = sym in_replay ∙ among.1 in
          cc)
    ]

free_below : (n : ℕ) (group : List ℕ) (stop : Breakpoint) (run events before : List Event) (rank number : ℕ)
    → HasFree n group (view_of run) stop events before → is_member group rank ≡ true
    → (IsCutOff n group (view_of run) stop rank number → ⊥) → number ≤ length (view_of before rank)
    → number ≤ length (view_of events rank)
free_below n group stop run events before rank zero has member free h = omega arith
free_below n group stop run events before rank (suc number) has member free h =
    let below = has rank number member (omega arith) (λ b. free (follows rank number b)) in
    omega arith

free_step : (next : Next) (log : Log) (stop : Breakpoint) (run events : List Event) → Lawful next → IsRunWith next log run
    → IsWholeReplay next log stop events → (before after : List Event) (event : Event) → run ≡ before ++ event ∷ after
    → HasFree log.ranks log.group (view_of run) stop events before
    → HasFree log.ranks log.group (view_of run) stop events (before ++ event ∷ [])
free_step next log stop run events lawful is all before after event e has rank number member below free =
    let n : ℕ = log.ranks in
    let group : List ℕ = log.group in
    elim (test_cases (event.rank == rank)) [
      | inr t ↦ has rank number member (rw (view_of-other before event rank t) at below) free
      | inl t ↦ (
          let same : event.rank ≡ rank = eqb-true event.rank rank t in
          let F : ℕ → Type 0 = λ r. number < length (view_of (before ++ event ∷ []) r) in
          let mine : number < length (view_of (before ++ event ∷ []) event.rank) = subst F (sym same) below in
          let longer : number < length (view_of before event.rank ++ (event.call, event.reply) ∷ []) = rw (view_of-mine before event event.rank refl) at mine in
          let up_to : number < length (view_of before event.rank) + 1 = rw (length-append (view_of before event.rank) ((event.call, event.reply) ∷ [])) at longer in
          elim (cases_lt number (length (view_of before rank))) [
            | inl less ↦ has rank number member less free
            | inr above ↦ (
                let G : ℕ → Type 0 = λ r. length (view_of before r) ≤ number in
                let above_mine : length (view_of before event.rank) ≤ number = subst G (sym same) above in
                let number_is : number ≡ length (view_of before event.rank) = omega arith in
                let H : ℕ → Type 0 = λ r. is_member group r ≡ true in
                let member_mine : is_member group event.rank ≡ true = subst H (sym same) member in
                let B : ℕ → Type 0 = λ r. IsCutOff n group (view_of run) stop r number → ⊥ in
                let free_mine : IsCutOff n group (view_of run) stop event.rank number → ⊥ = subst B (sym same) free in
                let C : ℕ → Type 0 = λ k. IsCutOff n group (view_of run) stop event.rank k → ⊥ in
                let free_here : IsCutOff n group (view_of run) stop event.rank (length (view_of before event.rank)) → ⊥ = subst C number_is free_mine in
                let at_least = free_below n group stop run events before event.rank (length (view_of before event.rank)) has member_mine free_here (omega arith) in
                elim (cases_lt number (length (view_of events rank))) [
                  | inl less ↦ less
                  | inr short ↦ (
                      let D : ℕ → Type 0 = λ r. length (view_of events r) ≤ number in
                      let short_mine : length (view_of events event.rank) ≤ number = subst D (sym same) short in
                      let lengths : length (view_of before event.rank) ≡ length (view_of events event.rank) = omega arith in
                      let begins = begins_run next log stop run events is all.replays event.rank in
                      let place = view_at run before after event e in
                      let views : view_of before event.rank ≡ view_of events event.rank = same_length (view_of before event.rank) (view_of events event.rank) ((event.call, event.reply) ∷ view_of after event.rank) begins.0 lengths (sym place ∙ sym begins.1) in
                      absurd (next_free next log stop run events before after event lawful is all e has member_mine free_here views))
                ])
          ])
    ]

-- a replay that can go no further has each place of the group that is not cut off
has_free : (next : Next) (log : Log) (stop : Breakpoint) (run events : List Event) → Lawful next → IsRunWith next log run
    → IsWholeReplay next log stop events → HasFree log.ranks log.group (view_of run) stop events run
has_free next log stop run events lawful is all =
    walk run (HasFree log.ranks log.group (view_of run) stop events) (free_step next log stop run events lawful is all) [] run refl (λ rank number member below free. absurd (omega arith))

pub longer_of : {A : Type 0} (xs ys : List A) (number : ℕ) → IsPrefixOf xs ys → number < length xs → number < length ys
longer_of xs ys number prefix below =
    let whole : length xs + length prefix.0 ≡ length ys = sym (length-append xs prefix.0) ∙ ap length prefix.1 in
    omega arith

-- the exact cut
pub cut_law : (next : Next) (log : Log) (stop : Breakpoint) (run events : List Event) → Lawful next → IsRunWith next log run
    → IsWholeReplay next log stop events → HasTheCut log stop events run
cut_law next log stop run events lawful is all rank number = (
  λ below. (
      let begins = Begins-run next log stop run events is all.replays in
      elim (test_cases (is_member log.group rank)) [
        | inl i ↦ record {
          member = i;
          placed = longer_of (view_of events rank) (view_of run rank) number (begins_run next log stop run events is all.replays rank) below;
          free = λ off. cut_off_not next log stop run events rank number is all.replays off below;
        }
        | inr o ↦ (
            let none : IsPrefixOf (view_of events rank) [] = rw o at (begins rank) in
            let no : number < 0 = longer_of (view_of events rank) [] number none below in
            absurd (omega arith))
      ]),
  λ in_cut. has_free next log stop run events lawful is all rank number in_cut.member in_cut.placed in_cut.free,
)

-- without a breakpoint nothing is cut off
none_cut_off : (n : ℕ) (group : List ℕ) (V : ℕ → View) (stop : Breakpoint) (rank number : ℕ) → stop ≡ None
    → IsCutOff n group V stop rank number → ⊥
none_cut_off n group V stop _ _ stopless (stops rank number t) = (let e : is_break None rank number ≡ true = rw stopless at t in let bad : false ≡ true = e in cc)
none_cut_off n group V stop _ _ stopless (follows rank number off) = none_cut_off n group V stop rank number stopless off
none_cut_off n group V stop _ _ stopless (rests_on rank view rest call reply missing number member e among number_is off) = none_cut_off n group V stop (rank_rested_on missing) number stopless off

nothing_in : {A : Type 0} (xs : List A) → length xs ≡ 0 → xs ≡ []
nothing_in [] h = refl
nothing_in (x ∷ xs) h = absurd (omega (arith, h))

pub at_most : (a b : ℕ) → ((number : ℕ) → number < a → number < b) → a ≤ b
at_most zero b each = omega arith
at_most (suc a) b each = (let last = each a (omega arith) in omega arith)

pub nothing_more : {A : Type 0} (xs ys : List A) → IsPrefixOf xs ys → length ys ≤ length xs → xs ≡ ys
nothing_more xs ys prefix short =
    let whole : length xs + length prefix.0 ≡ length ys = sym (length-append xs prefix.0) ∙ ap length prefix.1 in
    let none : length prefix.0 ≡ 0 = omega arith in
    let F : List _ → Type 0 = λ l. xs ++ l ≡ ys in
    sym (append-nil xs) ∙ subst F (nothing_in prefix.0 none) prefix.1

-- no starvation: each rank of the group has its whole view
pub whole_views : (next : Next) (log : Log) (stop : Breakpoint) (run events : List Event) (rank : ℕ) → stop ≡ None → Lawful next
    → IsRunWith next log run → IsWholeReplay next log stop events → is_member log.group rank ≡ true
    → view_of events rank ≡ view_of run rank
whole_views next log stop run events rank stopless lawful is all member =
    let all_there : (number : ℕ) → number < length (view_of run rank) → number < length (view_of events rank) = λ number below.
    has_free next log stop run events lawful is all rank number member below (none_cut_off log.ranks log.group (view_of run) stop rank number stopless) in
    nothing_more (view_of events rank) (view_of run rank) (begins_run next log stop run events is all.replays rank) (at_most (length (view_of run rank)) (length (view_of events rank)) all_there)

pub HasAllOf-whole : (next : Next) (output : Output) (log : Log) (stop : Breakpoint) (run events : List Event)
    → stop ≡ None → Lawful next → IsRunWith next log run → IsWholeReplay next log stop events → HasAllOf output log events run
HasAllOf-whole next output log stop run events stopless lawful is all =
    record {
      views = λ rank member. whole_views next log stop run events rank stopless lawful is all member;
      outputs = λ rank member. ap (λ v. output log.ranks rank (replies_in v)) (whole_views next log stop run events rank stopless lawful is all member);
    }

stand_done : (next : Option Call) (variables : List Variable) (answer : Call → Step) (stand : Stand)
    → ((call : Call) → answer call ≡ LogEnded) → stand_where next variables answer ≡ Some stand → IsStandAtEnd stand
stand_done None variables answer stand ended h = (let same : StandEnded ≡ stand = cc in inl (sym same))
stand_done (Some call) variables answer stand ended h =
    let at : Some StandLogEnded ≡ Some stand = rw (ended call) at h in
    let same : StandLogEnded ≡ stand = cc in
    inr (sym same)

-- and each stand is Ended or LogEnded
pub stands_done : (next : Next) (variables : ℕ → ℕ → List Reply → List Variable) (log : Log) (stop : Breakpoint) (run events : List Event)
    → stop ≡ None → Lawful next → IsRunWith next log run → IsWholeReplay next log stop events
    → EachStand IsStandAtEnd next variables log stop events
stands_done next variables log stop run events stopless lawful is all rank stand member h =
    let own : View = view_of events rank in
    let past = entry_past log run rank own is.same_log member (sym (whole_views next log stop run events rank stopless lawful is all member)) in
    let free : is_break stop rank (length own) ≡ false = rw stopless in
    stand_done (next log.ranks rank (replies_in own)) (variables log.ranks rank (replies_in own)) (replay_answer log stop (view_of events) rank own) stand
    (λ call. rw (free, past)) h
