-- The log that a replay makes for a group is within the bounds of the log text, if the log that was replayed is.
use Rattle.std.proofs.Common.{◌≡◌, ◌≢◌, ◌≤◌, ◌<◌, ◌+◌, ◌++◌, ◌∷◌, ◌∙◌, ◌==◌, ◌||◌, All, Bool, List, None, Ok, Option, Some, [], append-nil, append_assoc, arith, false, filter, get_or, inl, inr, length, length-append, nat_lt, refl, slice_get, subst, suc, sym, true, zero, ℕ}
use Rattle.std.proofs.lemmas.Bool.{eq-eqb, eqb-true, lt-ltb, or_left, or_right}
use Rattle.std.proofs.lemmas.List.{length-map}
use Rattle.std.proofs.lemmas.List.Elements.{All-map, All-tail}
use Rattle.std.proofs.Math.Seq.{get_or-append_seam}
use Rattle.mpi_call.specs.declared.call.Call.{Call}
use Rattle.mpi_call.specs.declared.call.Call.TheVariants.{Send}
use Rattle.mpi_call.specs.declared.reply.Reply.{Reply}
use Rattle.mpi_call.specs.Collectives.{is_member}
use Rattle.mpi_call.specs.Lists.{Rises}
use Rattle.run_model.specs.declared.event.Event.{Event}
use Rattle.run_model.specs.Lists.{are_below, world}
use Rattle.run_model.specs.Program.{AsksInBounds, EntersInForm, IsRankOf, IsNextSeen, IsViewOf}
use Rattle.run_model.specs.Views.{Next, View, view_of}
use Rattle.run_model.proofs.Along.{Along-back, Along-front, Along-keeps}
use Rattle.run_model.proofs.MemberLists.{below_part}
use Rattle.run_model.proofs.Orders.{in_order}
use Rattle.run_model.proofs.Places.{place}
use Rattle.run_model.proofs.StartLemmas.{slice_get-below}
use Rattle.run_model.proofs.Views.{test_cases, view_of-other, view_of-own}
use Rattle.srr_entry.specs.declared.entry.Entry.{Entry}
use Rattle.srr_entry.specs.declared.log.Log.{Log}
use Rattle.srr_entry.specs.Entries.{entries_for, entries_from, entry_of}
use Rattle.srr_log.specs.Bounds.{AreEntries, IsEntry, IsGroup, IsInBounds, IsList, is_last}
use Rattle.log_bounds.specs.RunBounds.{ReplyFits32, RepliesFit32}
use Rattle.log_bounds.proofs.RunEntries.{length-entries, send_bounds}
use Rattle.replay_model.specs.declared.step.Step.TheVariants.{Diverged, Replied}
use Rattle.replay_model.specs.Filling.{asker_of, filled_reply}
use Rattle.replay_model.specs.Fits.{entry_fits}
use Rattle.replay_model.specs.Replays.{IsReplayStep, Replays, entry_answer}
use Rattle.replay_model.proofs.Confluence.{step_in}
use Rattle.replay_model.proofs.Prefix.{answer-replied, entry-replied}
use Rattle.srr_replay.specs.Rounds.{IsReplayable}
use Rattle.srr_replay.proofs.LogLemmas.{below_at}
use Rattle.srr_replay.proofs.ReplaysLemmas.{Came, Came-Replays}
use Rattle.srr_regroup.specs.Regrouping.{CanBeJoined, IsPartOf, IsReplayOfAProgram, both_groups, joined_log, refined}
use Rattle.srr_regroup.proofs.Groups.{all_within}
use Rattle.srr_regroup.proofs.Made.{AreMade, all_in_both, first_entries, other_member, second_entries, within_member}
use Rattle.srr_regroup.proofs.MarkBounds.{AreSendsBound}
use Rattle.srr_regroup.proofs.ReplyBounds.{Given, entry_bound, last_entry}

-- the entries of a log in bounds
entry_at : (n : ℕ) (group : List ℕ) (entries : List Entry) (k : ℕ) (entry : Entry) → AreEntries n group entries → slice_get entries k ≡ Some entry
    → IsEntry n group entry
entry_at n group [] k entry are h = absurd (cc)
entry_at n group (x ∷ entries) zero entry are h = (let same : x ≡ entry = cc in subst (IsEntry n group) same are.0)
entry_at n group (x ∷ entries) (suc k) entry are h = entry_at n group entries k entry are.2 h

none_after : (n : ℕ) (group : List ℕ) (entries : List Entry) (k : ℕ) (entry next : Entry) {P : Type 0} → AreEntries n group entries
    → slice_get entries k ≡ Some entry → is_last entry ≡ true → slice_get entries (suc k) ≡ Some next → P
none_after n group [] k entry next are h last there = absurd (cc)
none_after n group (x ∷ entries) zero entry next are h last there =
    let same : x ≡ entry = cc in
    let F : Entry → Type 0 = λ e. is_last e ≡ true in
    let none : entries ≡ [] = are.1 (subst F (sym same) last) in
    let G : List Entry → Type 0 = λ l. slice_get l 0 ≡ Some next in
    absurd (let no : None ≡ Some next = subst G none there in cc)
none_after n group (x ∷ entries) (suc k) entry next are h last there = none_after n group entries k entry next are.2 h last there

list_of : (n : ℕ) (group all : List ℕ) (lists : List (List Entry)) (rank : ℕ) → is_member all rank ≡ true → length lists ≡ length all
    → All (IsList n group) lists → IsList n group (entries_for all lists rank)
list_of n group [] lists rank there many are = absurd (cc)
list_of n group (m ∷ all) [] rank there many are = absurd (omega (arith, many))
list_of n group (m ∷ all) (list ∷ lists) rank there many are =
    elim (test_cases (m == rank)) [
      | inl t ↦ rw t (are 0 list (omega arith))
      | inr t ↦ rw t (list_of n group all lists rank (rw t at there) (omega (arith, many)) (All-tail (IsList n group) list lists are))
    ]

-- the entry that answered a call of a replay
record Answered (n : ℕ) (inside : List ℕ) (V : ℕ → View) (own : View) (me : ℕ) (call : Call) (found : Option Entry) (reply : Reply) : Type 0 where
  entry : Entry
  there : found ≡ Some entry
  fit : entry_fits n inside me own call entry ≡ true
  made : filled_reply n V me own call entry ≡ Ok reply

answered : (n : ℕ) (inside : List ℕ) (V : ℕ → View) (own : View) (me : ℕ) (call : Call) (found : Option Entry) (reply : Reply)
    → entry_answer inside V (asker_of n me own) call found ≡ Replied reply → Answered n inside V own me call found reply
answered n inside V own me call None reply h = absurd (cc)
answered n inside V own me call (Some entry) reply h =
    elim (test_cases (entry_fits n inside me own call entry)) [
      | inl t ↦ record { entry = entry; there = refl; fit = t; made = entry-replied n inside V own me call entry reply h }
      | inr t ↦ absurd (let no : Diverged (record { rank = me; call_number = length own; entry = entry; call = call; found = None }) ≡ Replied reply = rw t at h in cc)
    ]

abbrev entries_in : Log → ℕ → List Entry
entries_in log rank = entries_for log.group log.lists rank

at_place : (next : Next) (log : Log) (events : List Event) (rank : ℕ) (own : View) (call : Call) (reply : Reply) (rest : View) → Replays next log None events
    → view_of events rank ≡ own ++ (call, reply) ∷ rest
    → Answered log.ranks log.group (view_of events) own rank call (slice_get (entries_in log rank) (length own)) reply
at_place next log events rank own call reply rest all whole =
    let step = step_in next log None events rank own call reply rest all whole in
    answered log.ranks log.group (view_of events) own rank call (slice_get (entries_in log rank) (length own)) reply
    (answer-replied log None (view_of events) own rank call reply step.1)

-- no more calls than entries
short_more : (next : Next) (log : Log) (rank : ℕ) (before : List Event) (event : Event) → length (view_of before rank) ≤ length (entries_in log rank)
    → IsReplayStep next log None before event → length (view_of (before ++ event ∷ []) rank) ≤ length (entries_in log rank)
short_more next log rank before event short step =
    elim (test_cases (event.rank == rank)) [
      | inl t ↦ (
          let own : View = view_of before event.rank in
          let found : Option Entry = slice_get (entries_in log event.rank) (length own) in
          let at = answered log.ranks log.group (view_of before) own event.rank event.call found event.reply
          (answer-replied log None (view_of before) own event.rank event.call event.reply step.reply) in
          let below = slice_get-below (entries_in log event.rank) (length own) at.entry at.there in
          let F : ℕ → Type 0 = λ r. length (view_of (before ++ event ∷ []) r) ≤ length (entries_in log r) in
          let one : View = (event.call, event.reply) ∷ [] in
          subst F (eqb-true event.rank rank t) (rw (view_of-own before event, length-append own one) (omega (arith, below))))
      | inr t ↦ rw (view_of-other before event rank t) short
    ]

-- a replay of a log in bounds
record Sound (next : Next) (log : Log) (events : List Event) : Type 0 where
  bounds : IsInBounds log
  fine : IsReplayable log
  asks : AsksInBounds next
  enters : EntersInForm next
  replays : Replays next log None events
  words : RepliesFit32 events
  came : Came next log events

sound : (log : Log) (events : List Event) → IsInBounds log → IsReplayable log → (is : IsReplayOfAProgram log events) → RepliesFit32 events → Sound is.next log events
sound log events bounds fine is words =
    record {
      bounds = bounds;
      fine = fine;
      asks = is.asks;
      enters = is.enters;
      replays = is.whole.replays;
      words = words;
      came = Came-Replays is.next log None events (record { enters = is.enters; bounds = is.asks }) fine is.whole.replays;
    }

rank_of : (log : Log) (rank : ℕ) → IsReplayable log → is_member log.group rank ≡ true → IsRankOf log.ranks rank
rank_of log rank fine mine =
    let below : rank < log.ranks = below_at log.ranks log.group rank fine.below mine in
    (omega (arith, below), fine.few, below)

sends_bound : (next : Next) (log : Log) (events : List Event) → Sound next log events → AreSendsBound (view_of events)
sends_bound next log events s =
    record {
      each = λ source start c d tag ints sync at. elim (test_cases (is_member log.group source)) [
        | inl mine ↦ send_bounds next log.ranks source (view_of events source) s.asks (rank_of log source s.fine mine) (s.came.views source) start c d tag ints sync at
        | inr other ↦ (let no : None ≡ Some (Send c d tag ints sync) = rw (s.came.alone source other) at at in absurd (cc))
      ];
    }

all_at : {A : Type 0} (P : A → Type 0) (before after : List A) (x : A) → All P (before ++ x ∷ after) → P x
all_at P before after x all =
    subst P (get_or-append_seam before x after x) (all (length before) x (rw (length-append before (x ∷ after)) (omega arith)))

words_at : (events : List Event) (rank : ℕ) (own : View) (call : Call) (reply : Reply) (rest : View) → RepliesFit32 events
    → view_of events rank ≡ own ++ (call, reply) ∷ rest → ReplyFits32 reply
words_at events rank own call reply rest words whole =
    let p = place events rank own call reply rest whole in
    let F : List Event → Type 0 = λ l. RepliesFit32 l in
    subst ReplyFits32 p.reply_is (all_at (λ (e : Event). ReplyFits32 e.reply) p.before p.after p.event (subst F p.whole words))

-- what is known of a reply of a replay, for a group with the rank in it
given_at : (next : Next) (log : Log) (events : List Event) (group : List ℕ) (rank : ℕ) (own : View) (call : Call) (reply : Reply) (rest : View)
    → Sound next log events → is_member log.group rank ≡ true → is_member group rank ≡ true → view_of events rank ≡ own ++ (call, reply) ∷ rest
    → Given log.ranks group (view_of events) own rank call reply
given_at next log events group rank own call reply rest s mine there whole =
    let F : View → Type 0 = λ v. IsViewOf next log.ranks rank v in
    let came = subst F whole (s.came.views rank) in
    let before = Along-front (IsNextSeen next log.ranks rank) [] own ((call, reply) ∷ rest) came in
    let seen = (Along-back (IsNextSeen next log.ranks rank) [] own ((call, reply) ∷ rest) came).0 in
    record {
      few = s.fine.few;
      mine = there;
      order = in_order next log.ranks rank own s.enters (rank_of log rank s.fine mine) before;
      sends = sends_bound next log events s;
      shape = seen.shaped;
      words = words_at events rank own call reply rest s.words whole;
    }

mine_in : (next : Next) (log : Log) (events : List Event) (rank : ℕ) → Sound next log events → is_member log.group rank ≡ true
    → IsList log.ranks log.group (entries_in log rank)
mine_in next log events rank s mine = list_of log.ranks log.group log.group log.lists rank mine s.bounds.as_many s.bounds.lists

-- after a rank's last reply there is none
nothing_after : (next : Next) (log : Log) (events : List Event) (group : List ℕ) (rank : ℕ) (own : View) (call : Call) (reply : Reply) (view : View)
    → Sound next log events → is_member log.group rank ≡ true → view_of events rank ≡ own ++ (call, reply) ∷ view
    → is_last (entry_of log.ranks group rank own call reply) ≡ true → entries_from log.ranks group rank (own ++ (call, reply) ∷ []) view ≡ []
nothing_after next log events group rank own call reply [] s mine whole last = refl
nothing_after next log events group rank own call reply ((call2, reply2) ∷ view) s mine whole last =
    let so_far : View = own ++ (call, reply) ∷ [] in
    let one : View = (call, reply) ∷ [] in
    let V : ℕ → View = view_of events in
    let here = at_place next log events rank own call reply ((call2, reply2) ∷ view) s.replays whole in
    let deeper : view_of events rank ≡ so_far ++ (call2, reply2) ∷ view = rw append_assoc whole in
    let later = at_place next log events rank so_far call2 reply2 view s.replays deeper in
    let count : length so_far ≡ suc (length own) = rw (length-append own one) (omega arith) in
    let F : ℕ → Type 0 = λ k. slice_get (entries_in log rank) k ≡ Some later.entry in
    let entry_last = last_entry log.ranks log.group group V own rank call here.entry reply here.fit here.made last in
    none_after log.ranks log.group (entries_in log rank) (length own) here.entry later.entry (mine_in next log events rank s mine).1 here.there entry_last (subst F count later.there)

entries_bound : (next : Next) (log : Log) (events : List Event) (group : List ℕ) (rank : ℕ) → Sound next log events → is_member log.group rank ≡ true
    → is_member group rank ≡ true → (own view : View) → view_of events rank ≡ own ++ view → AreEntries log.ranks group (entries_from log.ranks group rank own view)
entries_bound next log events group rank s mine there own [] whole = tt
entries_bound next log events group rank s mine there own ((call, reply) ∷ view) whole =
    let here = at_place next log events rank own call reply view s.replays whole in
    let is = entry_at log.ranks log.group (entries_in log rank) (length own) here.entry (mine_in next log events rank s mine).1 here.there in
    let given = given_at next log events group rank own call reply view s mine there whole in
    let deeper : view_of events rank ≡ (own ++ (call, reply) ∷ []) ++ view = rw append_assoc whole in (
      entry_bound log.ranks log.group group (view_of events) own rank call here.entry reply given is here.made,
      (λ last. nothing_after next log events group rank own call reply view s mine whole last),
      entries_bound next log events group rank s mine there (own ++ (call, reply) ∷ []) view deeper,
    )

-- the list that a replay makes for a rank
list_bound : (next : Next) (log : Log) (events : List Event) (group : List ℕ) (rank : ℕ) → Sound next log events → is_member log.group rank ≡ true
    → is_member group rank ≡ true → IsList log.ranks group (entries_from log.ranks group rank [] (view_of events rank))
list_bound next log events group rank s mine there =
    let short = Along-keeps (IsReplayStep next log None) (λ before. length (view_of before rank) ≤ length (entries_in log rank)) (short_more next log rank) [] events (omega arith) s.replays in
    let most = (mine_in next log events rank s mine).0 in
    let same = length-entries log.ranks group rank [] (view_of events rank) in
    (omega (arith, short, most, same), entries_bound next log events group rank s mine there [] (view_of events rank) refl)

member_at : (xs : List ℕ) (i d : ℕ) → i < length xs → is_member xs (get_or xs i d) ≡ true
member_at [] i d less = absurd (omega (arith, less))
member_at (x ∷ xs) zero d less = or_left (x == x) (is_member xs x) (eq-eqb x x refl)
member_at (x ∷ xs) (suc i) d less = or_right (x == get_or xs i d) (is_member xs (get_or xs i d)) (member_at xs i d (omega (arith, less)))

some_length : (xs : List ℕ) → xs ≢ [] → 0 < length xs
some_length [] some = absurd (some refl)
some_length (x ∷ xs) some = omega arith

-- the log of a part of the group
pub refined_bound : (log : Log) (events : List Event) (part : List ℕ) → IsReplayable log → IsReplayOfAProgram log events → IsPartOf log.group part
    → IsInBounds log → RepliesFit32 events → IsInBounds (refined log events part)
refined_bound log events part fine is part_is bounds words =
    let s = sound log events bounds fine is words in
    let F : ℕ → List Entry = λ rank. entries_from log.ranks part rank [] (view_of events rank) in
    let mine = all_within log.group part part_is.within in
    record {
      ranks = bounds.ranks;
      group = (some_length part part_is.some, part_is.rises, below_part log.ranks log.group part bounds.group.2 (λ rank there. within_member log.group part rank part_is.within there));
      program = bounds.program;
      as_many = length-map part F;
      lists = All-map (IsList log.ranks part) F part (λ i d less. list_bound is.next log events part (get_or part i d) s (mine i d less) (member_at part i d less));
    }

-- both groups together
abbrev either : Log → Log → ℕ → Bool
either one two rank = is_member one.group rank || is_member two.group rank

some_filter : (p : ℕ → Bool) (count from rank : ℕ) → from ≤ rank → rank < from + count → p rank ≡ true → 0 < length (filter p (world count from))
some_filter p zero from rank low high is = absurd (omega (arith, low, high))
some_filter p (suc count) from rank low high is =
    elim (test_cases (p from)) [
      | inl t ↦ rw t (omega arith)
      | inr t ↦ (
          let apart : from ≡ rank → ⊥ = λ e. (let F : ℕ → Type 0 = λ r. p r ≡ false in let no : true ≡ false = sym is ∙ subst F e t in cc) in
          rw t (some_filter p count (from + 1) rank (omega (arith, low, apart)) (omega (arith, high)) is))
    ]

rises_filter : (p : ℕ → Bool) (count from low : ℕ) → low ≤ from → Rises low (filter p (world count from))
rises_filter p zero from low less = tt
rises_filter p (suc count) from low less =
    elim (test_cases (p from)) [
      | inl t ↦ rw t (less, rises_filter p count (from + 1) (from + 1) (omega arith))
      | inr t ↦ rw t (rises_filter p count (from + 1) low (omega (arith, less)))
    ]

below_filter : (p : ℕ → Bool) (count from n : ℕ) → from + count ≤ n → are_below n (filter p (world count from)) ≡ true
below_filter p zero from n most = refl
below_filter p (suc count) from n most =
    let rest = below_filter p count (from + 1) n (omega (arith, most)) in
    let here : nat_lt from n ≡ true = lt-ltb from n (omega (arith, most)) in
    elim (test_cases (p from)) [
      | inl t ↦ rw (t, here) rest
      | inr t ↦ rw t rest
    ]

first_member : (xs : List ℕ) → 0 < length xs → is_member xs (get_or xs 0 0) ≡ true
first_member xs some = member_at xs 0 0 some

both_group : (one two : Log) → IsReplayable one → IsGroup one.ranks (both_groups one two)
both_group one two fine =
    let first : ℕ = get_or one.group 0 0 in
    let mine = first_member one.group fine.some in
    let below : first < one.ranks = below_at one.ranks one.group first fine.below mine in
    let among : either one two first ≡ true = or_left (is_member one.group first) (is_member two.group first) mine in (
      some_filter (either one two) one.ranks 0 first (omega arith) (omega (arith, below)) among,
      rises_filter (either one two) one.ranks 0 0 (omega arith),
      below_filter (either one two) one.ranks 0 one.ranks (omega arith),
    )

both_list : (one : Log) (first : List Event) (two : Log) (second : List Event) (rank : ℕ) → (can : CanBeJoined one first two second)
    → Sound can.first_replay.next one first → Sound can.second_replay.next two second
    → either one two rank ≡ true → is_member (both_groups one two) rank ≡ true
    → IsList one.ranks (both_groups one two) (entries_from one.ranks (both_groups one two) rank [] (view_of (first ++ second) rank))
both_list one first two second rank can s t among there =
    let group : List ℕ = both_groups one two in
    let L : List Entry → Type 0 = λ l. IsList one.ranks group l in
    elim (test_cases (is_member one.group rank)) [
      | inl mine ↦ subst L (first_entries one two first second group rank can mine) (list_bound can.first_replay.next one first group rank s mine there)
      | inr other ↦ (
          let ranks : one.ranks ≡ two.ranks = can.apart.0.0 in
          let F : ℕ → Type 0 = λ n. IsList n group (entries_from two.ranks group rank [] (view_of second rank)) in
          let list = list_bound can.second_replay.next two second group rank t (other_member one two rank among other) there in
          subst L (second_entries one two first second group rank can other) (subst F (sym ranks) list))
    ]

-- the log of both groups
pub joined_bound : (one : Log) (first : List Event) (two : Log) (second : List Event) → CanBeJoined one first two second → IsInBounds one → IsInBounds two
    → RepliesFit32 first → RepliesFit32 second → IsInBounds (joined_log one first two second)
joined_bound one first two second can bounds other_bounds words other_words =
    let s = sound one first bounds can.first_log can.first_replay words in
    let t = sound two second other_bounds can.second_log can.second_replay other_words in
    let group : List ℕ = both_groups one two in
    let F : ℕ → List Entry = λ rank. entries_from one.ranks group rank [] (view_of (first ++ second) rank) in
    let among = all_in_both one two in
    record {
      ranks = bounds.ranks;
      group = both_group one two can.first_log;
      program = bounds.program;
      as_many = length-map group F;
      lists = All-map (IsList one.ranks group) F group (λ i d less. both_list one first two second (get_or group i d) can s t (among i d less) (member_at group i d less));
    }

-- the parts of the log that was made
pub join_bound : (one : Log) (first : List Event) (two : Log) (second : List Event) (group program : List ℕ) (lists : List (List Entry)) (rest : List ℕ)
    → CanBeJoined one first two second → IsInBounds one → IsInBounds two → RepliesFit32 first → RepliesFit32 second → group ≡ both_groups one two
    → program ≡ one.program → AreMade one two first second lists rest → length rest < 1
    → IsInBounds (record { ranks = one.ranks; group = group; program = program; lists = lists })
join_bound one first two second group program lists (x ∷ rest) can bounds other_bounds words other_words group_is program_is are few = absurd (omega (arith, few))
join_bound one first two second group program lists [] can bounds other_bounds words other_words group_is program_is are few =
    let made : List (List Entry) = (joined_log one first two second).lists in
    let lists_are : lists ≡ made = sym (append-nil lists) ∙ are.made in
    let G : List ℕ → Type 0 = λ g. IsInBounds (record { ranks = one.ranks; group = g; program = one.program; lists = made }) in
    let L : List (List Entry) → Type 0 = λ l. IsInBounds (record { ranks = one.ranks; group = group; program = one.program; lists = l }) in
    let P : List ℕ → Type 0 = λ p. IsInBounds (record { ranks = one.ranks; group = group; program = p; lists = lists }) in
    subst P (sym program_is) (subst L (sym lists_are) (subst G (sym group_is) (joined_bound one first two second can bounds other_bounds words other_words)))
