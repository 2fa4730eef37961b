-- A quiet call and an event of another rank can be made in either order.
use Rattle.std.proofs.Common.{◌≡◌, ◌<◌, ◌∙◌, ◌++◌, ◌==◌, ◌∷◌, ◌⊎◌, ℕ, List, [], Option, Some, None, true, false, inl, inr, refl, ap, sym, subst}
use Rattle.mpi_call.specs.declared.call.Call.{Call}
use Rattle.mpi_call.specs.declared.call.Halt.{Halt}
use Rattle.run_model.specs.declared.event.Event.{Event}
use Rattle.run_model.specs.Allowed.{IsStuck, can_go}
use Rattle.run_model.specs.Due.{halt_of_reply, halted, is_full, or_else}
use Rattle.run_model.specs.Pairs.{IsAllMatched}
use Rattle.run_model.specs.Run.{IsPromptEvent}
use Rattle.run_model.specs.Serial.{call_after}
use Rattle.run_model.specs.Views.{Next, View, replies_in, view_of}
use Rattle.run_model.proofs.Prompt.{kept_prompt}
use Rattle.run_model.proofs.RunLaws.{Lawful}
use Rattle.run_model.proofs.Views.{view_of-other}
use Rattle.picked_runs.specs.declared.turn.Pick.{Pick}
use Rattle.picked_runs.specs.declared.turn.Pick.TheVariants.{First}
use Rattle.picked_runs.specs.Made.{pick_of}
use Rattle.picked_runs.specs.Numbering.{IsNumberedInOrder}
use Rattle.picked_runs.specs.Picks.{has_pick, picked_event}
use Rattle.picked_runs.specs.Picked.{IsPickedEvent}
use Rattle.picked_runs.proofs.Making.{event_picked}
use Rattle.run_states.specs.Futures.{SameFuture, mate_name}
use Rattle.run_states.specs.Outcomes.{IsProbeKept}
use Rattle.quiet_calls.proofs.Still.{IsStill}
use Rattle.quiet_calls.proofs.Unseen.{LeavesAlone, still_leaves, unseen}
use Rattle.quiet_calls.proofs.Staying.{IsAnswered, IsAnsweredOn, answered_on, free_parts, one_event, quiet_event, reply_free}
use Rattle.quiet_calls.proofs.Going.{allowed_goes}
use Rattle.quiet_calls.proofs.Runs.{IsGood, made_in, matched_same, matched_still, quiet_goes, step_on}
use Rattle.quiet_calls.proofs.Swapping.{future_swapped, mate_stays, other_way}

-- 1. halts

or_else-more : (a b c : Option Halt) → or_else a (or_else b c) ≡ or_else (or_else a b) c
or_else-more None b c = refl
or_else-more (Some halt) b c = refl

pub or_else-last : (a : Option Halt) → or_else a None ≡ a
or_else-last None = refl
or_else-last (Some halt) = refl

pub halted_append : (xs ys : List Event) → halted (xs ++ ys) ≡ or_else (halted xs) (halted ys)
halted_append [] ys = refl
halted_append (x ∷ xs) ys = rw (halted_append xs ys) (or_else-more (halt_of_reply x.reply) (halted xs) (halted ys))

pub halted_more : (before : List Event) (event : Event) → halted (before ++ event ∷ []) ≡ or_else (halted before) (halt_of_reply event.reply)
halted_more before event = halted_append before (event ∷ []) ∙ ap (or_else (halted before)) (or_else-last (halt_of_reply event.reply))

none_front : (a b : Option Halt) → or_else a b ≡ None → a ≡ None
none_front None b h = refl
none_front (Some halt) b h = absurd (cc)

pub halted_front : (xs ys : List Event) → halted (xs ++ ys) ≡ None → halted xs ≡ None
halted_front xs ys none = none_front (halted xs) (halted ys) (sym (halted_append xs ys) ∙ none)

pub quiet_halts : (n : ℕ) (before : List Event) (me : ℕ) (call : Call) → IsAnswered n before me call
    → halted (before ++ picked_event n before me call First ∷ []) ≡ halted before
quiet_halts n before me call a = halted_more before (picked_event n before me call First) ∙ (ap (or_else (halted before)) a.free ∙ or_else-last (halted before))

-- 2. the quiet call, which is asked for

pub record IsAsked (next : Next) (n : ℕ) (before : List Event) (me : ℕ) (call : Call) : Type 0 where
  pub below : me < n
  pub asked : call_after next n before me ≡ Some call
  pub answered : IsAnswered n before me call

pub first_run : (next : Next) (n : ℕ) → Lawful next → (before : List Event) (me : ℕ) (call : Call) → IsGood next n before → IsAsked next n before me call
    → IsGood next n (before ++ picked_event n before me call First ∷ [])
first_run next n lawful before me call good is =
    step_on next n lawful before me call First good is.below is.asked refl (inl (quiet_goes n before me call is.answered))
    (matched_still before (picked_event n before me call First) (quiet_event n before me call is.answered.kind) (kept_prompt next n before lawful good.run).matched)

-- another rank's event can be made behind it, if it is left alone
pub other_run : (next : Next) (n : ℕ) → Lawful next → (before : List Event) (q x : Event) → IsGood next n before → IsGood next n (before ++ q ∷ [])
    → IsPromptEvent next n before x → IsNumberedInOrder n before x → LeavesAlone n before q x.rank → (IsStuck next n before → ⊥)
    → IsAllMatched ((before ++ q ∷ []) ++ x ∷ []) → IsGood next n ((before ++ q ∷ []) ++ x ∷ [])
other_run next n lawful before q x good first step ordered alone unstuck matched =
    let after : List Event = before ++ q ∷ [] in
    let kept = kept_prompt next n before lawful good.run in
    let pick : Pick = pick_of n before x in
    let picked : IsPickedEvent n before x pick = event_picked next n before x kept.matched kept.below step ordered in
    let u = unseen n before q x.rank x.call pick alone in
    let event : picked_event n after x.rank x.call pick ≡ x = u.same ∙ sym picked.event_is in
    let F : Event → Type 0 = λ e. IsAllMatched (after ++ e ∷ []) in
    let G : Event → Type 0 = λ e. IsGood next n (after ++ e ∷ []) in
    let asked : call_after next n after x.rank ≡ Some x.call = ap (λ (v : View). next n x.rank (replies_in v)) alone.own ∙ step.call in
    let goes : (can_go n after x.rank (view_of after x.rank) x.call ≡ true) ⊎ IsStuck next n after =
    elim (allowed_goes next n before x.rank x.call x.reply step.reply) [
      | inl can ↦ inl (u.goes ∙ can)
      | inr stuck ↦ absurd (unstuck stuck)
    ] in
    subst G event (step_on next n lawful after x.rank x.call pick first step.rank asked (u.offered ∙ picked.offered) goes (subst F (sym event) matched))

pub unstuck : (next : Next) (n : ℕ) (before : List Event) (me : ℕ) (call : Call) → IsAsked next n before me call → IsStuck next n before → ⊥
unstuck next n before me call is stuck =
    let no : true ≡ false = sym (quiet_goes n before me call is.answered) ∙ stuck me call is.below is.asked in
    cc

-- what else is called has it in the other order too
pub behind_run : (next : Next) (n : ℕ) → Lawful next → (before : List Event) (me : ℕ) (call : Call) (x : Event) → IsGood next n before → IsAsked next n before me call
    → IsPromptEvent next n before x → IsNumberedInOrder n before x → (x.rank == me) ≡ false → is_full (before ++ picked_event n before me call First ∷ []) ≡ false
    → IsGood next n ((before ++ picked_event n before me call First ∷ []) ++ x ∷ [])
behind_run next n lawful before me call x good is step ordered apart full =
    let q : Event = picked_event n before me call First in
    let after : List Event = before ++ q ∷ [] in
    let still : IsStill q = quiet_event n before me call is.answered.kind in
    let parts = free_parts n before me call (reply_free n before me call First is.answered.free) in
    let alone : LeavesAlone n before q x.rank =
    still_leaves n before q x.rank still (quiet_halts n before me call is.answered) (full ∙ sym parts.full) (other_way x.rank me apart) in
    let future : SameFuture n ((before ++ x ∷ []) ++ q ∷ []) (after ++ x ∷ []) = future_swapped n before x q still step.mate apart in
    let matched = matched_same n ((before ++ x ∷ []) ++ q ∷ []) (after ++ x ∷ []) future (matched_still (before ++ x ∷ []) q still step.matched) in
    other_run next n lawful before q x good (first_run next n lawful before me call good is) step ordered alone (unstuck next n before me call is) matched

-- 3. it stays behind what another rank does

pub record StaysAsked (next : Next) (n : ℕ) (before after : List Event) (me : ℕ) (call : Call) : Type 0 where
  pub same : picked_event n after me call First ≡ picked_event n before me call First
  pub there : IsAsked next n after me call

pub stays_asked : (next : Next) (n : ℕ) → Lawful next → (before : List Event) (me : ℕ) (call : Call) (x : Event) → IsGood next n before → IsAsked next n before me call
    → (x.rank == me) ≡ false → halted (before ++ x ∷ []) ≡ None → is_full (before ++ x ∷ []) ≡ false → StaysAsked next n before (before ++ x ∷ []) me call
stays_asked next n lawful before me call x good is apart halts full =
    let a : IsAnsweredOn n before (before ++ x ∷ []) me call =
    answered_on n before x me call is.answered (kept_prompt next n before lawful good.run).matched (made_in next n lawful before good.run) apart halts full in
    record {
      same = a.same;
      there = record {
        below = is.below;
        asked = ap (λ (v : View). next n me (replies_in v)) (view_of-other before x me apart) ∙ is.asked;
        answered = a.answered;
      };
    }

-- 4. the rank's own next event is the quiet call's

pub own_event : (next : Next) (n : ℕ) → Lawful next → (before : List Event) (me : ℕ) (call : Call) (x : Event) → IsGood next n before → IsAsked next n before me call
    → IsPromptEvent next n before x → IsNumberedInOrder n before x → x.rank ≡ me → x ≡ picked_event n before me call First
own_event next n lawful before me call x good is step ordered same =
    let kept = kept_prompt next n before lawful good.run in
    let pick : Pick = pick_of n before x in
    let picked : IsPickedEvent n before x pick = event_picked next n before x kept.matched kept.below step ordered in
    let asked : Some x.call ≡ Some call = sym step.call ∙ (ap (call_after next n before) same ∙ is.asked) in
    let called : x.call ≡ call = cc in
    let offered : has_pick n before me call pick ≡ true =
    sym (ap (λ r. has_pick n before r x.call pick) same ∙ ap (λ c. has_pick n before me c pick) called) ∙ picked.offered in
    picked.event_is ∙ (ap (λ r. picked_event n before r x.call pick) same
    ∙ (ap (λ c. picked_event n before me c pick) called ∙ one_event n before me call pick is.answered.kind offered))

-- 5. probes

pub probe_on : (before after : List Event) (event : Event) → view_of after event.rank ≡ view_of before event.rank → mate_name after event.mate ≡ mate_name before event.mate
    → IsProbeKept before event → IsProbeKept after event
probe_on before after event view mate kept earlier comm source tag wait room sender start sent count seen posted done =
    mate ∙ kept earlier comm source tag wait room sender start sent count (sym view ∙ seen) posted done

pub other_probe : (next : Next) (n : ℕ) (before : List Event) (q x : Event) → IsPromptEvent next n before x → (q.rank == x.rank) ≡ false → IsProbeKept before x
    → IsProbeKept (before ++ q ∷ []) x
other_probe next n before q x step apart kept =
    probe_on before (before ++ q ∷ []) x (view_of-other before q x.rank apart) (mate_stays before (q ∷ []) x step.mate) kept

pub own_probe : (before : List Event) (q x : Event) → IsStill q → (x.rank == q.rank) ≡ false → IsProbeKept before q → IsProbeKept (before ++ x ∷ []) q
own_probe before q x still apart kept =
    probe_on before (before ++ x ∷ []) q (view_of-other before x q.rank apart)
    (ap (mate_name (before ++ x ∷ [])) still.mate ∙ sym (ap (mate_name before) still.mate)) kept
