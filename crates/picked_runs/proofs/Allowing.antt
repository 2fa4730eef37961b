-- The reply of what is picked is allowed, and a call whose pick can be made can go.
use Rattle.std.proofs.Common.{◌≡◌, ◌≢◌, ◌∙◌, ◌++◌, ◌∷◌, Bool, List, None, Option, Some, [], ap, false, if◌then◌else◌, inl, inr, is_some, not, refl, slice_get, slice_index, subst, suc, sym, true, zero, ℕ}
use Rattle.std.proofs.lemmas.Bool.{and_parts, or_left, or_right}
use Rattle.std.specs.List.{list_any}
use Rattle.mpi_call.specs.declared.call.Call.{Call}
use Rattle.mpi_call.specs.declared.call.Call.TheVariants.{Peek, Post, Take}
use Rattle.mpi_call.specs.declared.call.Halt.{Halt}
use Rattle.mpi_call.specs.declared.call.TakeMode.{TakeMode}
use Rattle.mpi_call.specs.declared.call.TakeMode.TheVariants.{Any as AnyOne, TestAny}
use Rattle.mpi_call.specs.declared.reply.Item.{Item}
use Rattle.mpi_call.specs.declared.reply.Reply.{Reply}
use Rattle.mpi_call.specs.Calls.{listed_by}
use Rattle.run_model.specs.declared.event.Event.{Event}
use Rattle.run_model.specs.Allowed.{AreChosen, IsPrompt, IsAllowedBy, IsAnswer, IsPeekAnswer, IsPeeked, IsStuck, IsTakeAnswer, IsCompletionReply, can_go, first_long, flags_of, has_open, mode_holds, is_prompt, probe_of, taken_reply}
use Rattle.run_model.specs.Choice.{choice}
use Rattle.run_model.specs.Chosen.{halt_or, held_reply, items_at, peek_reply}
use Rattle.run_model.specs.Due.{due}
use Rattle.run_model.specs.Pairs.{IsAllMatched}
use Rattle.run_model.specs.Readiness.{is_ready}
use Rattle.run_model.specs.Run.{IsPromptEvent, IsPromptRun}
use Rattle.run_model.specs.Shape.{is_test}
use Rattle.run_model.specs.Views.{Next, View, moment_at, moment_of, start_at, view_of}
use Rattle.run_model.proofs.Along.{Along-keeps}
use Rattle.run_model.proofs.ChosenAnswers.{GoesOr, reply_allowed}
use Rattle.run_model.proofs.ChosenGots.{got_is}
use Rattle.run_model.proofs.Prompt.{none_waits}
use Rattle.run_model.proofs.Origins.{AllBelow, AllBelow-more}
use Rattle.run_model.proofs.Views.{option_cases}
use Rattle.picked_runs.specs.declared.turn.Pick.{Pick}
use Rattle.picked_runs.specs.declared.turn.Pick.TheVariants.{First, Sender, Index}
use Rattle.picked_runs.specs.Picks.{call_from, completes_one, has_pick, is_offered, is_ready_at, looks, picked_answer, picked_choice, picked_places, picked_reply}
use Rattle.picked_runs.specs.PickLaws.{PicksCanGo}
use Rattle.picked_runs.proofs.Firsts.{first_answer}
use Rattle.picked_runs.proofs.Places.{flag_there}
use Rattle.picked_runs.proofs.Probes.{picked_found, picked_there}

pub ready_there : (flags : List Bool) (i : ℕ) → is_ready_at flags i ≡ true → slice_get flags i ≡ Some true
ready_there flags i h =
    elim (option_cases (slice_get flags i)) [
      | inl some ↦ (let b : some.0 ≡ true = rw some.1 at h in some.1 ∙ ap (λ x. Some x) b)
      | inr none ↦ (let no : false ≡ true = rw none at h in absurd (cc))
    ]

pub any_there : (flags : List Bool) (i : ℕ) → slice_get flags i ≡ Some true → list_any (λ x. x) flags ≡ true
any_there [] i h = absurd (cc)
any_there (flag ∷ flags) zero h = or_left flag (list_any (λ x. x) flags) (cc)
any_there (flag ∷ flags) (suc i) h = or_right flag (list_any (λ x. x) flags) (any_there flags i h)

is_none : (o : Option Halt) → not (is_some o) ≡ true → o ≡ None
is_none None h = refl
is_none (Some halt) h = absurd (cc)

-- where something is picked no halt is due, and it is offered
pub record IsThere (n : ℕ) (before : List Event) (me : ℕ) (call : Call) (pick : Pick) : Type 0 where
  pub none : due n before me (view_of before me) call ≡ None
  pub offered : is_offered n before me (view_of before me) call pick ≡ true

pub pick_there : (n : ℕ) (before : List Event) (me : ℕ) (call : Call) (pick : Pick) → pick ≢ First → has_pick n before me call pick ≡ true
    → IsThere n before me call pick
pick_there n before me call First apart h = absurd (apart refl)
pick_there n before me call (Sender sender) apart h =
    let parts = and_parts (not (is_some (due n before me (view_of before me) call))) (is_offered n before me (view_of before me) call (Sender sender)) h in
    record { none = is_none (due n before me (view_of before me) call) parts.0; offered = parts.1 }
pick_there n before me call (Index index) apart h =
    let parts = and_parts (not (is_some (due n before me (view_of before me) call))) (is_offered n before me (view_of before me) call (Index index)) h in
    record { none = is_none (due n before me (view_of before me) call) parts.0; offered = parts.1 }

pub found_some : (o : Option ℕ) → is_some o ≡ true → (at : ℕ) × (o ≡ Some at)
found_some (Some at) h = (at, refl)
found_some None h = absurd (cc)

-- a receive or a probe that picks a sender
record IsFine (stuck : Type 0) (n : ℕ) (before : List Event) (me : ℕ) (call : Call) (pick : Pick) : Type 0 where
  answer : IsAnswer stuck (moment_at n before me) call (picked_answer n before me (view_of before me) call pick)
  prompt : is_prompt n before me (view_of before me) call ≡ true

sender_fine : (stuck : Type 0) (n : ℕ) (before : List Event) (me : ℕ) (call : Call) (sender at : ℕ) → AllBelow n before → looks call ≡ true
    → choice before me (call_from sender call) ≡ Some at → IsFine stuck n before me call (Sender sender)
sender_fine stuck n before me (Post comm source tag room) sender at all h found = record { answer = refl; prompt = refl }
sender_fine stuck n before me (Peek comm source tag wait) sender at all h found =
    let there : has_open n before me comm source tag ≡ true = picked_there n before me comm source tag wait sender at all found in
    let F : Option ℕ → Type 0 = λ o. IsPeeked before (probe_of me comm source tag) (peek_reply before wait o) in
    let one : F (choice before me (call_from sender (Peek comm source tag wait))) = subst F (sym found) (picked_found before me comm source tag wait sender at found) in
    let G : Bool → Type 0 = λ b. IsPeekAnswer b stuck before (probe_of me comm source tag) wait (peek_reply before wait (choice before me (call_from sender (Peek comm source tag wait)))) in
    record { answer = subst G (sym there) one; prompt = or_right (not wait) (has_open n before me comm source tag) there }
sender_fine stuck n before me call sender at all h found = absurd (cc)

-- a completion of one start that picks an index
one_answer : (stuck : Type 0) (n : ℕ) (before : List Event) (me : ℕ) (starts : List ℕ) (mode : TakeMode) (index : ℕ) → IsAllMatched before
    → picked_places mode (flags_of (moment_at n before me) starts) (Index index) ≡ index ∷ []
    → AreChosen mode (flags_of (moment_at n before me) starts) (index ∷ [])
    → mode_holds mode (flags_of (moment_at n before me) starts) ≡ true
    → slice_get (flags_of (moment_at n before me) starts) index ≡ Some true
    → IsAnswer stuck (moment_at n before me) (Take starts mode) (picked_answer n before me (view_of before me) (Take starts mode) (Index index))
one_answer stuck n before me starts mode index matched places chosen h flag =
    let own : View = view_of before me in
    let flags : List Bool = flags_of (moment_of n before me own) starts in
    let k : ℕ = slice_index starts index in
    let ready : ℕ → Bool = λ s. is_ready (moment_of n before me own) s (start_at own s) in
    let R : List ℕ → Bool → Reply = λ l b. (
    let items : List Item = items_at (moment_of n before me own) starts l in
    let taken : Reply = taken_reply me (first_long own starts items) items in
    if b then taken else held_reply (is_test mode)) in
    let items : List Item = items_at (moment_of n before me own) starts (index ∷ []) in
    let taken : IsCompletionReply (moment_of n before me own) starts mode (R (index ∷ []) true) = record {
      items = items;
      chosen = chosen;
      gots = (got_is n before me k (start_at own k) matched refl (flag_there ready starts index true flag), tt);
      reply_is = refl;
    } in
    let F : Bool → Type 0 = λ b. IsTakeAnswer b stuck (moment_of n before me own) starts mode (R (index ∷ []) b) in
    let G : List ℕ → Type 0 = λ l. IsTakeAnswer (mode_holds mode flags) stuck (moment_of n before me own) starts mode (R l (mode_holds mode flags)) in
    subst G (sym places) (subst F (sym h) taken)

index_fine : (stuck : Type 0) (n : ℕ) (before : List Event) (me : ℕ) (call : Call) (index : ℕ) → IsAllMatched before → completes_one call ≡ true
    → slice_get (flags_of (moment_at n before me) (listed_by call)) index ≡ Some true → IsFine stuck n before me call (Index index)
index_fine stuck n before me (Take starts AnyOne) index matched h flag =
    let flags : List Bool = flags_of (moment_at n before me) starts in
    let any : list_any (λ x. x) flags ≡ true = any_there flags index flag in
    record { answer = one_answer stuck n before me starts AnyOne index matched refl (index, refl, flag) any flag; prompt = or_right false (mode_holds AnyOne flags) any }
index_fine stuck n before me (Take starts TestAny) index matched h flag =
    let flags : List Bool = flags_of (moment_at n before me) starts in
    let any : list_any (λ x. x) flags ≡ true = any_there flags index flag in
    record { answer = one_answer stuck n before me starts TestAny index matched refl (index, refl, flag) any flag; prompt = refl }
index_fine stuck n before me call index matched h flag = absurd (cc)

pick_fine : (stuck : Type 0) (n : ℕ) (before : List Event) (me : ℕ) (call : Call) (pick : Pick) → IsAllMatched before → AllBelow n before → pick ≢ First
    → is_offered n before me (view_of before me) call pick ≡ true → IsFine stuck n before me call pick
pick_fine stuck n before me call First matched all apart h = absurd (apart refl)
pick_fine stuck n before me call (Sender sender) matched all apart h =
    let parts = and_parts (looks call) (is_some (picked_choice before me call (Sender sender))) h in
    let found = found_some (picked_choice before me call (Sender sender)) parts.1 in
    sender_fine stuck n before me call sender found.0 all parts.0 found.1
pick_fine stuck n before me call (Index index) matched all apart h =
    let flags : List Bool = flags_of (moment_at n before me) (listed_by call) in
    let parts = and_parts (completes_one call) (is_ready_at flags index) h in
    index_fine stuck n before me call index matched parts.0 (ready_there flags index parts.1)

pick_allowed : (next : Next) (n : ℕ) (before : List Event) (me : ℕ) (call : Call) (pick : Pick) → IsAllMatched before → AllBelow n before → pick ≢ First
    → has_pick n before me call pick ≡ true → IsPrompt next n before me call (picked_reply n before me call pick)
pick_allowed next n before me call pick matched all apart h =
    let own : View = view_of before me in
    let there = pick_there n before me call pick apart h in
    let fine = pick_fine (IsStuck next n before) n before me call pick matched all apart there.offered in
    let F : Option Halt → Type 0 = λ o. IsAllowedBy o (IsStuck next n before) (moment_of n before me own) call (halt_or o (picked_answer n before me own call pick)) in
    subst F (sym there.none) fine.answer

first_allowed : (next : Next) (n : ℕ) (before : List Event) (me : ℕ) (call : Call) → IsAllMatched before → AllBelow n before
    → GoesOr (can_go n before me (view_of before me) call) (IsStuck next n before) → IsPrompt next n before me call (picked_reply n before me call First)
first_allowed next n before me call matched all goes =
    let own : View = view_of before me in
    let F : Reply → Type 0 = λ r. IsPrompt next n before me call (halt_or (due n before me own call) r) in
    subst F (sym (first_answer n before me own call)) (reply_allowed next n before me call matched all goes)

pub picked_allowed : (next : Next) (n : ℕ) (before : List Event) (me : ℕ) (call : Call) (pick : Pick) → IsAllMatched before → AllBelow n before
    → GoesOr (can_go n before me (view_of before me) call) (IsStuck next n before) → has_pick n before me call pick ≡ true
    → IsPrompt next n before me call (picked_reply n before me call pick)
picked_allowed next n before me call First matched all goes h = first_allowed next n before me call matched all goes
picked_allowed next n before me call (Sender sender) matched all goes h = pick_allowed next n before me call (Sender sender) matched all (λ e. (let no : Sender sender ≡ First = e in cc)) h
picked_allowed next n before me call (Index index) matched all goes h = pick_allowed next n before me call (Index index) matched all (λ e. (let no : Index index ≡ First = e in cc)) h

-- the ranks of a run are below n, and its pairs meet their conditions
pub record IsFounded (n : ℕ) (before : List Event) : Type 0 where
  pub below : AllBelow n before
  pub matched : IsAllMatched before

founded_more : (next : Next) (n : ℕ) (before : List Event) (event : Event) → IsFounded n before → IsPromptEvent next n before event → IsFounded n (before ++ event ∷ [])
founded_more next n before event is step = record { below = AllBelow-more n before event is.below step.rank; matched = step.matched }

pub founded : (next : Next) (n : ℕ) (run : List Event) → IsPromptRun next n run → IsFounded n run
founded next n run is =
    Along-keeps (IsPromptEvent next n) (IsFounded n) (founded_more next n) [] run (record { below = record { empty = λ rank above. refl }; matched = none_waits }) is.along

pub picks_can_go : (next : Next) (n : ℕ) → PicksCanGo next n
picks_can_go next n picks before rank call pick p apart h =
    let f = founded next n before p.run in
    let there = pick_there n before rank call pick apart h in
    let fine = pick_fine (IsStuck next n before) n before rank call pick f.matched f.below apart there.offered in
    or_right (is_some (due n before rank (view_of before rank) call)) (is_prompt n before rank (view_of before rank) call) fine.prompt
