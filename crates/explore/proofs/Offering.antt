-- Which picks can be made at all: of a receive or a probe the senders that are ranks, of a completion the places in its list.
use Rattle.std.proofs.Common.{◌≡◌, ◌<◌, ◌≤◌, ◌∙◌, ◌⊎◌, if◌then◌else◌, Bool, ℕ, List, [], Some, None, arith, false, true, inl, inr, is_some, length, refl, slice_get, sym, subst}
use Rattle.std.proofs.lemmas.Bool.{and_parts, cases_lt}
use Rattle.mpi_call.specs.declared.call.Call.{Call}
use Rattle.mpi_call.specs.declared.call.Call.TheVariants.{Post, Peek, Take, Send, Enter, Abort, Trap, End}
use Rattle.mpi_call.specs.declared.limits.TheConstants.{MOST_STARTS}
use Rattle.mpi_call.specs.Calls.{listed_by}
use Rattle.run_model.specs.declared.event.Event.{Event}
use Rattle.run_model.specs.Allowed.{flags_of}
use Rattle.run_model.specs.Pairs.{named}
use Rattle.run_model.specs.Readiness.{is_ready}
use Rattle.run_model.specs.Program.{AsksInBounds, IsCallInBounds}
use Rattle.run_model.specs.Run.{IsPromptRun}
use Rattle.run_model.specs.Serial.{call_after}
use Rattle.run_model.specs.Views.{Next, View, moment_at, moment_of, start_at, view_of}
use Rattle.run_model.proofs.Choosing.{choice_some}
use Rattle.run_model.proofs.Origins.{AllBelow}
use Rattle.run_model.proofs.Prompt.{kept_prompt}
use Rattle.run_model.proofs.RunLaws.{Lawful}
use Rattle.picked_runs.specs.declared.turn.Pick.{Pick}
use Rattle.picked_runs.specs.declared.turn.Pick.TheVariants.{First, Sender, Index}
use Rattle.picked_runs.specs.Picks.{call_from, completes_one, has_pick, is_offered, is_ready_at, looks, picked_choice}
use Rattle.picked_runs.proofs.Allowing.{found_some, founded, pick_there, ready_there}
use Rattle.picked_runs.proofs.Narrowing.{suits_back}
use Rattle.picked_runs.proofs.Places.{flag_within}
use Rattle.picked_runs.specs.Turns.{IsPickOf}
use Rattle.run_states.specs.Moves.{IsPickSettled}
use Rattle.explore.specs.Searching.{IsIndexBelow, IsSenderBelow}

-- a rank whose message is taken has sent one, so it is below n. (As in `picked_runs`, where it is private.)
sender_bound : (n : ℕ) (before : List Event) (me : ℕ) (call : Call) (sender : ℕ) → AllBelow n before
    → is_offered n before me (view_of before me) call (Sender sender) ≡ true → sender < n
sender_bound n before me call sender all h =
    let parts = and_parts (looks call) (is_some (picked_choice before me call (Sender sender))) h in
    let found = found_some (picked_choice before me call (Sender sender)) parts.1 in
    let c = choice_some before me (call_from sender call) found.0 found.1 in
    let o = c.chosen in
    let same : o.name.0 ≡ sender = (suits_back me sender call o.name.0 o.start parts.0 o.suited).1 in
    elim (cases_lt sender n) [
      | inl less ↦ less
      | inr above ↦ (
          let F : ℕ → Type 0 = λ x. named before (x, o.name.1) ≡ Some o.start in
          let made : named before (sender, o.name.1) ≡ Some o.start = subst F same o.made in
          let G : View → Type 0 = λ v. start_at v o.name.1 ≡ Some o.start in
          let none : start_at [] o.name.1 ≡ Some o.start = subst G (all.empty sender above) made in
          let no : None ≡ Some o.start = none in
          absurd (cc))
    ]

-- how many senders, and how many indices
abbrev pub senders_of : Call → ℕ → ℕ
senders_of call n = if looks call then n else 0

pub sender_apart : (sender : ℕ) → Sender sender ≡ First → ⊥
sender_apart sender h = cc

pub index_apart : (index : ℕ) → Index index ≡ First → ⊥
index_apart index h = cc

pub sender_offered : (next : Next) (n : ℕ) (before : List Event) (me : ℕ) (call : Call) (sender : ℕ) → IsPromptRun next n before
    → has_pick n before me call (Sender sender) ≡ true → (looks call ≡ true) × (sender < senders_of call n)
sender_offered next n before me call sender run h =
    let there = pick_there n before me call (Sender sender) (sender_apart sender) h in
    let parts = and_parts (looks call) (is_some (picked_choice before me call (Sender sender))) there.offered in
    let less : sender < n = sender_bound n before me call sender (founded next n before run).below there.offered in
    let F : Bool → Type 0 = λ b. sender < (if b then n else 0) in
    (parts.0, subst F (sym parts.0) less)

one_within : (n : ℕ) (before : List Event) (me : ℕ) (call : Call) (index : ℕ) → completes_one call ≡ true
    → slice_get (flags_of (moment_at n before me) (listed_by call)) index ≡ Some true → (looks call ≡ false) × (index < length (listed_by call))
one_within n before me (Take starts mode) index h flag =
    let own : View = view_of before me in
    (refl, flag_within (λ k. is_ready (moment_of n before me own) k (start_at own k)) starts index true flag)
one_within n before me (Send comm dest tag ints sync) index h flag = absurd (cc)
one_within n before me (Post comm source tag room) index h flag = absurd (cc)
one_within n before me (Enter comm kind root op count ints) index h flag = absurd (cc)
one_within n before me (Peek comm source tag wait) index h flag = absurd (cc)
one_within n before me (Abort code) index h flag = absurd (cc)
one_within n before me (Trap fault) index h flag = absurd (cc)
one_within n before me End index h flag = absurd (cc)

pub index_offered : (n : ℕ) (before : List Event) (me : ℕ) (call : Call) (index : ℕ) → has_pick n before me call (Index index) ≡ true
    → (looks call ≡ false) × (index < length (listed_by call))
index_offered n before me call index h =
    let there = pick_there n before me call (Index index) (index_apart index) h in
    let parts = and_parts (completes_one call) (is_ready_at (flags_of (moment_at n before me) (listed_by call)) index) there.offered in
    one_within n before me call index parts.0 (ready_there (flags_of (moment_at n before me) (listed_by call)) index parts.1)

not_both : (b : Bool) → b ≡ true → b ≡ false → ⊥
not_both b t f = (let no : true ≡ false = sym t ∙ f in cc)

-- where a sender is there, all that can be picked are senders
pub only_senders : (next : Next) (n : ℕ) (before : List Event) (me : ℕ) (call : Call) (some : Pick) → IsPromptRun next n before
    → IsSenderBelow (senders_of call n) some → has_pick n before me call some ≡ true
    → (pick : Pick) → has_pick n before me call pick ≡ true → IsPickSettled n before me call pick → IsSenderBelow (senders_of call n) pick
only_senders next n before me call some run is offered (Sender sender) h settled = (sender, refl, (sender_offered next n before me call sender run h).1)
only_senders next n before me call some run is offered (Index index) h settled =
    let P : Pick → Type 0 = λ p. has_pick n before me call p ≡ true in
    let yes = (sender_offered next n before me call is.0 run (subst P is.1 offered)).0 in
    absurd (not_both (looks call) yes (index_offered n before me call index h).0)
only_senders next n before me call some run is offered First h settled =
    let P : Pick → Type 0 = λ p. has_pick n before me call p ≡ true in
    absurd (not_both (has_pick n before me call (Sender is.0)) (subst P is.1 offered) (settled.senders is.0))

-- a start that is listed has a number that a turn can pick
few_listed : (n got : ℕ) (call : Call) → IsCallInBounds n got call → length (listed_by call) ≤ MOST_STARTS
few_listed n got (Take starts mode) bounds = bounds.1
few_listed n got (Send comm dest tag ints sync) bounds = omega arith
few_listed n got (Post comm source tag room) bounds = omega arith
few_listed n got (Enter comm kind root op count ints) bounds = omega arith
few_listed n got (Peek comm source tag wait) bounds = omega arith
few_listed n got (Abort code) bounds = omega arith
few_listed n got (Trap fault) bounds = omega arith
few_listed n got End bounds = omega arith

-- a pick that can be made is one of a turn
pub pick_within : (next : Next) (n : ℕ) (before : List Event) (me : ℕ) (call : Call) (pick : Pick) → Lawful next → AsksInBounds next → IsPromptRun next n before → me < n
    → call_after next n before me ≡ Some call → has_pick n before me call pick ≡ true → IsPickOf n pick
pick_within next n before me call First lawful asks run below asked h = tt
pick_within next n before me call (Sender sender) lawful asks run below asked h =
    let there = sender_offered next n before me call sender run h in
    let F : Bool → Type 0 = λ b. sender < (if b then n else 0) in
    subst F there.0 there.1
pick_within next n before me call (Index index) lawful asks run below asked h =
    let kept = kept_prompt next n before lawful run in
    let own : View = view_of before me in
    let bounds : IsCallInBounds n (length own) call = asks n me own call (run.some, run.few, below) (kept.came me below) asked in
    let few : length (listed_by call) ≤ MOST_STARTS = few_listed n (length own) call bounds in
    let less : index < length (listed_by call) = (index_offered n before me call index h).1 in
    omega (arith, few, less)

-- one of these senders or indices
abbrev pub IsChoice : ℕ → ℕ → Pick → Type 0
IsChoice senders indices pick = IsSenderBelow senders pick ⊎ IsIndexBelow indices pick

abbrev pub IsChoiceOf : ℕ → Call → Pick → Type 0
IsChoiceOf n call pick = IsChoice (senders_of call n) (length (listed_by call)) pick

-- where a sender or an index is there, all that can be picked are such
pub only_choices : (next : Next) (n : ℕ) (before : List Event) (me : ℕ) (call : Call) (some : Pick) → IsPromptRun next n before
    → IsChoiceOf n call some → has_pick n before me call some ≡ true
    → (pick : Pick) → has_pick n before me call pick ≡ true → IsPickSettled n before me call pick → IsChoiceOf n call pick
only_choices next n before me call some run is offered (Sender sender) h settled = inl (sender, refl, (sender_offered next n before me call sender run h).1)
only_choices next n before me call some run is offered (Index index) h settled = inr (index, refl, (index_offered n before me call index h).1)
only_choices next n before me call some run is offered First h settled =
    let P : Pick → Type 0 = λ p. has_pick n before me call p ≡ true in
    elim is [
      | inl sender ↦ absurd (not_both (has_pick n before me call (Sender sender.0)) (subst P sender.1 offered) (settled.senders sender.0))
      | inr index ↦ absurd (not_both (has_pick n before me call (Index index.0)) (subst P index.1 offered) (settled.indices index.0))
    ]

-- these, and none
abbrev pub IsChoiceOrNone : ℕ → Call → Pick → Type 0
IsChoiceOrNone n call pick = IsChoiceOf n call pick ⊎ (First ≡ pick)

pub any_choice : (next : Next) (n : ℕ) (before : List Event) (me : ℕ) (call : Call) → IsPromptRun next n before
    → (pick : Pick) → has_pick n before me call pick ≡ true → IsPickSettled n before me call pick → IsChoiceOrNone n call pick
any_choice next n before me call run First h settled = inr refl
any_choice next n before me call run (Sender sender) h settled = inl (inl (sender, refl, (sender_offered next n before me call sender run h).1))
any_choice next n before me call run (Index index) h settled = inl (inr (index, refl, (index_offered n before me call index h).1))
