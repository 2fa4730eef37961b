-- Runs whose logs of all ranks are the same have the same views.
use Rattle.std.proofs.Common.{◌≡◌, ◌==◌, ◌∙◌, ◌++◌, ◌∷◌, ℕ, List, [], Some, None, Ok, true, append-nil, append_assoc, inl, inr, length, refl, ap, slice_get, sym, subst}
use Rattle.std.proofs.lemmas.Bool.{cases_lt, eqb-true}
use Rattle.mpi_call.specs.declared.call.Call.{Call}
use Rattle.mpi_call.specs.declared.reply.Reply.{Reply}
use Rattle.mpi_call.specs.Collectives.{is_member}
use Rattle.run_model.specs.declared.event.Event.{Event}
use Rattle.run_model.specs.Lists.{IsPrefixOf, world}
use Rattle.run_model.specs.Run.{IsEvent, IsRun}
use Rattle.run_model.specs.Views.{Next, View, view_of}
use Rattle.run_model.proofs.MemberLists.{AreMembers-world}
use Rattle.run_model.proofs.Origins.{AllBelow}
use Rattle.run_model.proofs.Places.{view_at, walk}
use Rattle.run_model.proofs.Prefixes.{Begins, prefix-both, prefix_trans}
use Rattle.run_model.proofs.RunLaws.{IsRun-event}
use Rattle.run_model.proofs.Views.{test_cases, view_of-mine, view_of-other}
use Rattle.srr_entry.specs.declared.entry.Entry.{Entry}
use Rattle.srr_entry.specs.declared.log.Log.{Log}
use Rattle.srr_entry.specs.Entries.{entries_for, entry_of}
use Rattle.srr_entry.proofs.EntryPlaces.{entry_in_log, entry_past}
use Rattle.replay_model.specs.Filling.{filled_reply}
use Rattle.replay_model.specs.Laws.{IsRunWith}
use Rattle.replay_model.proofs.Filled.{filled-same}
use Rattle.replay_model.proofs.Fillings.{Begins-within, filled_allowed, within, within_begins}
use Rattle.replay_model.proofs.Prefix.{InRun, in_run}

-- over the whole run, the entry of a place stands for its reply
filled_there : (next : Next) (n : ℕ) (group : List ℕ) (run : List Event) (rank : ℕ) (view : View) (call : Call) (reply : Reply) → InRun next n run rank view call reply
    → filled_reply n (within group (view_of run)) rank view call (entry_of n group rank view call reply) ≡ Ok reply
filled_there next n group run rank view call reply at =
    let entry : Entry = entry_of n group rank view call reply in
    let there : filled_reply n (within group (view_of at.before)) rank view call entry ≡ Ok reply = rw at.view_is at (filled_allowed next n group at.before rank call reply at.allowed) in
    (filled-same n (within group (view_of at.before)) (within group (view_of run)) view rank call entry reply (Begins-within group (view_of at.before) (view_of run) at.begins) there).fill ∙ there

-- the next event of one run stands in the other too
next_seen : (next : Next) (log : Log) (one other before after : List Event) (event : Event) (rest : View) → IsRunWith next log one → IsRunWith next log other
    → one ≡ before ++ event ∷ after → IsEvent next log.ranks before event → is_member log.group event.rank ≡ true
    → Begins (view_of before) (within log.group (view_of other)) → view_of before event.rank ++ rest ≡ view_of other event.rank
    → IsPrefixOf (view_of before event.rank ++ (event.call, event.reply) ∷ []) (view_of other event.rank)
next_seen next log one other before after event [] first second e step member begins h =
    let own : View = view_of before event.rank in
    let here : slice_get (entries_for log.group log.lists event.rank) (length own) ≡ Some (entry_of log.ranks log.group event.rank own event.call event.reply) =
    entry_in_log log one event.rank own event.call event.reply (view_of after event.rank) first.same_log member (view_at one before after event e) in
    let none : slice_get (entries_for log.group log.lists event.rank) (length own) ≡ None = entry_past log other event.rank own second.same_log member (rw append-nil at (sym h)) in
    let no : Some (entry_of log.ranks log.group event.rank own event.call event.reply) ≡ None = sym here ∙ none in
    absurd (cc)
next_seen next log one other before after event ((call, reply) ∷ rest) first second e step member begins h =
    let n : ℕ = log.ranks in
    let group : List ℕ = log.group in
    let rank : ℕ = event.rank in
    let own : View = view_of before rank in
    let at = in_run next n other rank own call reply rest second.is_run (sym h) in
    let calls : Some call ≡ Some event.call = sym at.asked ∙ step.call in
    let same_call : call ≡ event.call = cc in
    let mine : Entry = entry_of n group rank own event.call event.reply in
    let theirs : Entry = entry_of n group rank own call reply in
    let here : slice_get (entries_for group log.lists rank) (length own) ≡ Some mine =
    entry_in_log log one rank own event.call event.reply (view_of after rank) first.same_log member (view_at one before after event e) in
    let there : slice_get (entries_for group log.lists rank) (length own) ≡ Some theirs = entry_in_log log other rank own call reply rest second.same_log member (sym h) in
    let entries : Some theirs ≡ Some mine = sym there ∙ here in
    let entry : theirs ≡ mine = cc in
    let V : ℕ → View = within group (view_of before) in
    let W : ℕ → View = within group (view_of other) in
    let longer : Begins V W = λ r. prefix_trans (V r) (view_of before r) (W r) (within_begins group (view_of before) r) (begins r) in
    let fill : filled_reply n V rank own event.call mine ≡ Ok event.reply = filled_allowed next n group before rank event.call event.reply step.reply in
    let whole : filled_reply n W rank own event.call mine ≡ Ok event.reply = (filled-same n V W own rank event.call mine event.reply longer fill).fill ∙ fill in
    let recorded : filled_reply n W rank own call theirs ≡ Ok reply = filled_there next n group other rank own call reply at in
    let replies : Ok reply ≡ Ok event.reply =
    sym recorded ∙ (ap (λ c. filled_reply n W rank own c theirs) same_call ∙ (ap (λ x. filled_reply n W rank own event.call x) entry ∙ whole)) in
    let same_reply : reply ≡ event.reply = cc in
    let seen : Call → Reply → View = λ c r. own ++ (c, r) ∷ rest in
    (rest, append_assoc own ((event.call, event.reply) ∷ []) rest ∙ (ap (λ c. seen c event.reply) (sym same_call) ∙ (ap (seen call) (sym same_reply) ∙ h)))

begins_more : (next : Next) (log : Log) (one other : List Event) → IsRunWith next log one → IsRunWith next log other → log.group ≡ world log.ranks 0
    → (before after : List Event) (event : Event) → one ≡ before ++ event ∷ after → Begins (view_of before) (within log.group (view_of other))
    → Begins (view_of (before ++ event ∷ [])) (within log.group (view_of other))
begins_more next log one other first second all before after event e begins rank =
    elim (test_cases (event.rank == rank)) [
      | inl h ↦
          let same : event.rank ≡ rank = eqb-true event.rank rank h in
          let R : List Event → Type 0 = λ l. IsRun next log.ranks l in
          let step : IsEvent next log.ranks before event = IsRun-event next log.ranks before after event (subst R e first.is_run) in
          let G : List ℕ → Type 0 = λ l. is_member l event.rank ≡ true in
          let member : is_member log.group event.rank ≡ true = subst G (sym all) (AreMembers-world log.ranks event.rank step.rank).has_me in
          let found : IsPrefixOf (view_of before event.rank) (view_of other event.rank) = rw member at (begins event.rank) in
          let longer = next_seen next log one other before after event found.0 first second e step member begins found.1 in
          rw (view_of-mine before event rank same, ← same, member) longer
      | inr h ↦ rw (view_of-other before event rank h) (begins rank)
    ]

views_begin : (next : Next) (log : Log) (one other : List Event) → IsRunWith next log one → IsRunWith next log other → log.group ≡ world log.ranks 0
    → Begins (view_of one) (within log.group (view_of other))
views_begin next log one other first second all =
    walk one (λ before. Begins (view_of before) (within log.group (view_of other))) (begins_more next log one other first second all) [] one refl
    (λ rank. (within log.group (view_of other) rank, refl))

pub views_same : (next : Next) (log : Log) (one other : List Event) → IsRunWith next log one → IsRunWith next log other → log.group ≡ world log.ranks 0
    → AllBelow log.ranks one → AllBelow log.ranks other → (rank : ℕ) → view_of one rank ≡ view_of other rank
views_same next log one other first second all low also rank =
    elim (cases_lt rank log.ranks) [
      | inl below ↦
          let G : List ℕ → Type 0 = λ l. is_member l rank ≡ true in
          let member : is_member log.group rank ≡ true = subst G (sym all) (AreMembers-world log.ranks rank below).has_me in
          let on : IsPrefixOf (view_of one rank) (view_of other rank) = rw member at (views_begin next log one other first second all rank) in
          let back : IsPrefixOf (view_of other rank) (view_of one rank) = rw member at (views_begin next log other one second first all rank) in
          prefix-both (view_of one rank) (view_of other rank) on back
      | inr above ↦ low.empty rank above ∙ sym (also.empty rank above)
    ]
