-- Where a rank is starved, the rank of the breakpoint stands at it.
use Rattle.std.proofs.Common.{◌++◌, ◌<◌, ◌==◌, ◌∙◌, ◌∷◌, ◌≡◌, ◌≤◌, ◌⊎◌, List, None, Ok, Option, Some, [], ap, append-nil, append_assoc, arith, false, inl, inr, length, refl, subst, sym, true, ℕ}
use Rattle.std.proofs.lemmas.Bool.{and_parts, cases_lt, eq-eqb, eqb-true}
use Rattle.std.proofs.lemmas.Option.{same_Some}
use Rattle.mpi_call.specs.declared.call.Call.{Call}
use Rattle.mpi_call.specs.declared.reply.Reply.{Reply}
use Rattle.mpi_call.specs.Lists.{IsIn}
use Rattle.mpi_call.specs.Collectives.{is_member}
use Rattle.run_model.specs.declared.event.Event.{Event}
use Rattle.run_model.specs.declared.lists.Variable.{Variable}
use Rattle.run_model.specs.Run.{IsRun}
use Rattle.run_model.specs.Views.{Next, View, replies_in, view_of}
use Rattle.run_model.proofs.Places.{place}
use Rattle.run_model.proofs.Prefixes.{Begins, prefix_trans}
use Rattle.run_model.proofs.RunLaws.{IsRun-front, Lawful}
use Rattle.run_model.proofs.Views.{test_cases, view_of-append}
use Rattle.srr_entry.specs.declared.entry.Entry.{Entry}
use Rattle.srr_entry.specs.declared.log.Log.{Log}
use Rattle.srr_entry.specs.Entries.{entry_of, log_of}
use Rattle.srr_entry.proofs.EntryPlaces.{entry_past}
use Rattle.replay_model.specs.declared.replayed.Stand.TheVariants.{AtBreak as StandAtBreak, Ended as StandEnded, Starved}
use Rattle.replay_model.specs.declared.step.Missing.{Missing}
use Rattle.replay_model.specs.declared.step.Missing.TheVariants.{Member, Start}
use Rattle.replay_model.specs.declared.step.Step.{Step}
use Rattle.replay_model.specs.declared.step.Step.TheVariants.{AtBreak, Diverged, LogEnded, Replied, Wait}
use Rattle.replay_model.specs.Filling.{filled_reply}
use Rattle.replay_model.specs.Laws.{IsRunWith, StarvesBehindABreak}
use Rattle.replay_model.specs.Replays.{IsWholeReplay, Breakpoint, replay_answer, is_break}
use Rattle.replay_model.specs.Rests.{IsCutOff, follows, call_rested_on, rank_rested_on, rests, rests_on, stops}
use Rattle.replay_model.specs.Stands.{stand_by, stand_of, stand_where}
use Rattle.replay_model.proofs.Cut.{at_most, cut_law, cut_off_not, longer_of, nothing_more, same_front, same_length, split_at}
use Rattle.replay_model.proofs.Fillings.{filled_allowed, within, within_begins}
use Rattle.replay_model.proofs.MissingLemmas.{filled-missing, first_missing, is_there, missing_in}
use Rattle.replay_model.proofs.NumberLemmas.{below_there, none_missing}
use Rattle.replay_model.proofs.Prefix.{asked_in_run, begins_run, in_run}

same_pair : (p q : ℕ × ℕ) → Some p ≡ Some q → (p.0 ≡ q.0) × (p.1 ≡ q.1)
same_pair p q h =
    let pairs : p ≡ q = same_Some p q h in
    (ap (λ (x : ℕ × ℕ). x.0) pairs, ap (λ (x : ℕ × ℕ). x.1) pairs)

is_break-at : (stop : Breakpoint) (rank number : ℕ) → is_break stop rank number ≡ true → stop ≡ Some (rank, number)
is_break-at None rank number h = absurd (cc)
is_break-at (Some at) rank number h =
    let parts = and_parts (at.0 == rank) (at.1 == number) h in
    let r : at.0 ≡ rank = eqb-true at.0 rank parts.0 in
    let k : at.1 ≡ number = eqb-true at.1 number parts.1 in
    let pair : ℕ → ℕ → ℕ × ℕ = λ x y. (x, y) in
    ap (λ x. Some (pair x at.1)) r ∙ ap (λ y. Some (pair rank y)) k

-- the breakpoint is a place of the group in these views
pub record IsPlace (group : List ℕ) (V : ℕ → View) (stop : Breakpoint) : Type 0 where
  pub rank : ℕ
  pub number : ℕ
  pub stop_is : stop ≡ Some (rank, number)
  pub member : is_member group rank ≡ true
  pub below : number < length (V rank)

there_member : (n : ℕ) (group : List ℕ) (V : ℕ → View) (missing : Missing) → is_there n (within group V) missing ≡ true
    → is_member group (rank_rested_on missing) ≡ true
there_member n group V (Start source start) there =
    elim (test_cases (is_member group source)) [ inl i ↦ i | inr o ↦ (let no : false ≡ true = rw o at there in absurd (cc)) ]
there_member n group V (Member m comm instance) there =
    elim (test_cases (is_member group m)) [ inl i ↦ i | inr o ↦ (let no : false ≡ true = rw o at there in absurd (cc)) ]

-- what an entry of a run rests on is of the group and stands before it
rests_before : (next : Next) (log : Log) (run before after : List Event) (rank : ℕ) (view rest : View) (call : Call) (reply : Reply) (missing : Missing) (number : ℕ)
    → IsRunWith next log run → run ≡ before ++ after → view_of run rank ≡ view ++ (call, reply) ∷ rest
    → length view < length (view_of before rank)
    → IsIn missing (rests log.ranks rank view call (entry_of log.ranks log.group rank view call reply))
    → call_rested_on (view_of run) missing ≡ Some number
    → (is_member log.group (rank_rested_on missing) ≡ true) × (number < length (view_of before (rank_rested_on missing)))
rests_before next log run before after rank view rest call reply missing number is split e below among number_is =
    let n : ℕ = log.ranks in
    let group : List ℕ = log.group in
    let cut = split_at (view_of before rank) (length view) below in
    let P : List Event → Type 0 = λ l. IsRun next n l in
    let front : IsRun next n before = IsRun-front next n before after (subst P split is.is_run) in
    let whole : view_of run rank ≡ view_of before rank ++ view_of after rank = ap (λ l. view_of l rank) split ∙ view_of-append before after rank in
    let both : cut.front ++ cut.here ∷ (cut.rest ++ view_of after rank) ≡ view ++ (call, reply) ∷ rest = sym (append_assoc cut.front (cut.here ∷ cut.rest) (view_of after rank)) ∙ (ap (λ l. l ++ view_of after rank) (sym cut.whole) ∙ (sym whole ∙ e)) in
    let same = same_front cut.front view cut.here (call, reply) (cut.rest ++ view_of after rank) rest cut.long both in
    let F : View → Type 0 = λ v. view_of before rank ≡ v ++ cut.here ∷ cut.rest in
    let G : Call × Reply → Type 0 = λ x. view_of before rank ≡ view ++ x ∷ cut.rest in
    let here : view_of before rank ≡ view ++ (call, reply) ∷ cut.rest = subst G same.1 (subst F same.0 cut.whole) in
    let at = in_run next n before rank view call reply cut.rest front here in
    let entry : Entry = entry_of n group rank view call reply in
    let fill : filled_reply n (within group (view_of at.before)) rank view call entry ≡ Ok reply = rw at.view_is at (filled_allowed next n group at.before rank call reply at.allowed) in
    let none : first_missing n (within group (view_of at.before)) (rests n rank view call entry) ≡ None = filled-missing n (within group (view_of at.before)) view rank call entry ∙ ap missing_in fill in
    let there = none_missing n (within group (view_of at.before)) (rests n rank view call entry) missing none among in
    let to_run : Begins (view_of before) (view_of run) = λ r. (view_of after r, sym (ap (λ l. view_of l r) split ∙ view_of-append before after r)) in
    let to_before : Begins (within group (view_of at.before)) (view_of before) = λ r. prefix_trans (within group (view_of at.before) r) (view_of at.before r) (view_of before r) (within_begins group (view_of at.before) r) (at.begins r) in
    let up : Begins (within group (view_of at.before)) (view_of run) = λ r. prefix_trans (within group (view_of at.before) r) (view_of before r) (view_of run r) (to_before r) (to_run r) in
    let place = below_there n (within group (view_of at.before)) (view_of run) missing up there in
    let numbers : Some place.0 ≡ Some number = sym place.1 ∙ number_is in
    let equal : place.0 ≡ number = cc in
    let H : ℕ → Type 0 = λ x. x < length (view_of before (rank_rested_on missing)) in
    (there_member n group (view_of at.before) missing there, subst H equal (longer_of (within group (view_of at.before) (rank_rested_on missing)) (view_of before (rank_rested_on missing)) place.0 (to_before (rank_rested_on missing)) place.2))

-- a place is cut off only where the breakpoint stands no later in the run
cut_off_before : (next : Next) (log : Log) (stop : Breakpoint) (run before after : List Event) (rank number : ℕ)
    → IsRunWith next log run → run ≡ before ++ after → is_member log.group rank ≡ true → number < length (view_of before rank)
    → IsCutOff log.ranks log.group (view_of run) stop rank number → IsPlace log.group (view_of before) stop
cut_off_before next log stop run before after _ _ is split member below (stops rank number t) =
    record { rank = rank; number = number; stop_is = is_break-at stop rank number t; member = member; below = below }
cut_off_before next log stop run before after _ _ is split member below (follows rank number off) =
    cut_off_before next log stop run before after rank number is split member (omega arith) off
cut_off_before next log stop run before after _ _ is split member below (rests_on rank view rest call reply missing number inside e among number_is off) =
    let earlier = rests_before next log run before after rank view rest call reply missing number is split e below among number_is in
    cut_off_before next log stop run before after (rank_rested_on missing) number is split earlier.0 earlier.1 off

-- so the breakpoint's rank has all its calls before it
free_before : (next : Next) (log : Log) (stop : Breakpoint) (run : List Event) (rank k j : ℕ) → IsRunWith next log run
    → stop ≡ Some (rank, k) → is_member log.group rank ≡ true → k < length (view_of run rank) → j < k
    → IsCutOff log.ranks log.group (view_of run) stop rank j → ⊥
free_before next log stop run rank k j is stop_is member below low off =
    let cut = split_at (view_of run rank) k below in
    let at = place run rank cut.front cut.here.0 cut.here.1 cut.rest cut.whole in
    let long : length (view_of at.before rank) ≡ k = ap length at.view_is ∙ cut.long in
    let found = cut_off_before next log stop run at.before (at.event ∷ at.after) rank j is at.whole member (omega (arith, long, low)) off in
    let same = same_pair (found.rank, found.number) (rank, k) (sym found.stop_is ∙ stop_is) in
    let numbers : found.number ≡ k = same.1 in
    let F : ℕ → Type 0 = λ r. found.number < length (view_of at.before r) in
    let there : found.number < length (view_of at.before rank) = subst F same.0 found.below in
    omega (arith, long, numbers, there)

stand_at_break : (next : Option Call) (variables : List Variable) (answer : Call → Step) (call : Call) → next ≡ Some call
    → answer call ≡ AtBreak → stand_where next variables answer ≡ Some (StandAtBreak variables)
stand_at_break next variables answer call live stopped = rw (live, stopped)

-- and stands at it
at_break : (next : Next) (variables : ℕ → ℕ → List Reply → List Variable) (log : Log) (stop : Breakpoint) (run events : List Event)
    → Lawful next → IsRunWith next log run → IsWholeReplay next log stop events → (at : IsPlace log.group (view_of run) stop)
    → stand_of next variables log stop events at.rank ≡ Some (StandAtBreak (variables log.ranks at.rank (replies_in (view_of events at.rank))))
at_break next variables log stop run events lawful is all at =
    let n : ℕ = log.ranks in
    let own : View = view_of events at.rank in
    let law = cut_law next log stop run events lawful is all in
    let low : at.number ≤ length own = at_most at.number (length own) (λ j less. (law at.rank j).1 (record {
      member = at.member;
      placed = omega (arith, less, at.below);
      free = free_before next log stop run at.rank at.number j is at.stop_is at.member at.below less;
    })) in
    let t : is_break stop at.rank at.number ≡ true = rw (at.stop_is, eq-eqb at.rank at.rank refl, eq-eqb at.number at.number refl) in
    elim (cases_lt at.number (length own)) [
      | inl more ↦ absurd (cut_off_not next log stop run events at.rank at.number is all.replays (stops at.rank at.number t) more)
      | inr high ↦ (
          let long : length own ≡ at.number = omega arith in
          let prefix = begins_run next log stop run events is all.replays at.rank in
          let cut = split_at (view_of run at.rank) at.number at.below in
          let same = same_length own cut.front prefix.0 (cut.here ∷ cut.rest) (long ∙ sym cut.long) (prefix.1 ∙ cut.whole) in
          let asked = asked_in_run next n run at.rank cut.front cut.here.0 cut.here.1 cut.rest is.is_run cut.whole in
          let live : next n at.rank (replies_in own) ≡ Some cut.here.0 = rw same asked in
          let stopped : is_break stop at.rank (length own) ≡ true = rw long t in
          stand_at_break (next n at.rank (replies_in own)) (variables n at.rank (replies_in own)) (replay_answer log stop (view_of events) at.rank own) cut.here.0 live (rw stopped))
    ]

waits_by : (variables : List Variable) (step : Step) (missing : Missing) → stand_by variables step ≡ Some (Starved missing)
    → step ≡ Wait missing
waits_by variables AtBreak missing h = absurd (cc)
waits_by variables LogEnded missing h = absurd (cc)
waits_by variables (Diverged divergence) missing h = absurd (cc)
waits_by variables (Wait other) missing h = (let e : Some (Starved other) ≡ Some (Starved missing) = h in let same : other ≡ missing = cc in ap (λ m. Wait m) same)
waits_by variables (Replied reply) missing h = absurd (cc)

waits_where : (next : Option Call) (variables : List Variable) (answer : Call → Step) (missing : Missing)
    → stand_where next variables answer ≡ Some (Starved missing) → (call : Call) × (answer call ≡ Wait missing)
waits_where None variables answer missing h = absurd (let no : Some StandEnded ≡ Some (Starved missing) = h in cc)
waits_where (Some call) variables answer missing h = (call, waits_by variables (answer call) missing h)

-- a rank that has its whole view does not wait
not_starved : (log : Log) (stop : Breakpoint) (run events : List Event) (rank : ℕ) (call : Call) (missing : Missing)
    → log ≡ log_of log.program log.ranks run log.group → is_member log.group rank ≡ true → view_of events rank ≡ view_of run rank
    → replay_answer log stop (view_of events) rank (view_of events rank) call ≡ Wait missing → ⊥
not_starved log stop run events rank call missing same_log member same h =
    let own : View = view_of events rank in
    let past = entry_past log run rank own same_log member (sym same) in
    elim (test_cases (is_break stop rank (length own))) [
      | inl t ↦ (let bad : AtBreak ≡ Wait missing = rw t at h in cc)
      | inr t ↦ (let bad : LogEnded ≡ Wait missing = rw (t, past) at h in cc)
    ]

place_cases : (group : List ℕ) (V : ℕ → View) (stop : Breakpoint) → IsPlace group V stop ⊎ (IsPlace group V stop → ⊥)
place_cases group V None = inr (λ at. (let bad : None ≡ Some (at.rank, at.number) = at.stop_is in cc))
place_cases group V (Some (r, k)) =
    elim (test_cases (is_member group r)) [
      | inl i ↦ elim (cases_lt k (length (V r))) [
        | inl below ↦ inl (record { rank = r; number = k; stop_is = refl; member = i; below = below })
        | inr above ↦ inr (λ at. (
            let same = same_pair (r, k) (at.rank, at.number) at.stop_is in
            let numbers : k ≡ at.number = same.1 in
            let F : ℕ → Type 0 = λ x. at.number < length (V x) in
            let below : at.number < length (V r) = subst F (sym same.0) at.below in
            omega (arith, numbers, below, above)))
      ]
      | inr o ↦ inr (λ at. (
          let same = same_pair (r, k) (at.rank, at.number) at.stop_is in
          let F : ℕ → Type 0 = λ x. is_member group x ≡ true in
          let bad : false ≡ true = sym o ∙ subst F (sym same.0) at.member in
          cc))
    ]

-- where a rank is starved, another stands at the breakpoint
pub starved_law : (next : Next) (variables : ℕ → ℕ → List Reply → List Variable) (log : Log) (stop : Breakpoint) (run events : List Event)
    → Lawful next → IsRunWith next log run → IsWholeReplay next log stop events
    → StarvesBehindABreak next variables log stop events
starved_law next variables log stop run events lawful is all rank missing member starved =
    elim (place_cases log.group (view_of run) stop) [
      | inl at ↦ (at.rank, variables log.ranks at.rank (replies_in (view_of events at.rank)), at.member, at_break next variables log stop run events lawful is all at)
      | inr never ↦ (
          let law = cut_law next log stop run events lawful is all in
          let nil : run ≡ run ++ [] = sym (append-nil run) in
          let each : (number : ℕ) → number < length (view_of run rank) → number < length (view_of events rank) = λ number below.
          (law rank number).1 (record { member = member; placed = below; free = λ off. never (cut_off_before next log stop run run [] rank number is nil member below off) }) in
          let same = nothing_more (view_of events rank) (view_of run rank) (begins_run next log stop run events is all.replays rank) (at_most (length (view_of run rank)) (length (view_of events rank)) each) in
          let wait = waits_where (next log.ranks rank (replies_in (view_of events rank))) (variables log.ranks rank (replies_in (view_of events rank))) (replay_answer log stop (view_of events) rank (view_of events rank)) missing starved in
          absurd (not_starved log stop run events rank wait.0 missing is.same_log member same wait.1))
    ]
