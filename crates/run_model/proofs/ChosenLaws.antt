-- The machine's event is fixed by the events before it and by whose turn it is, and so is its whole run by its order.
use Rattle.std.proofs.Common.{◌++◌, ◌||◌, ◌∙◌, ◌∷◌, ◌≡◌, Bool, List, None, Option, Some, [], ap, false, is_some, not, refl, subst, sym, true, ℕ}
use Rattle.std.proofs.lemmas.Bool.{or_parts}
use Rattle.mpi_call.specs.declared.call.Call.{Call}
use Rattle.mpi_call.specs.declared.call.Call.TheVariants.{Abort, End, Enter, Peek, Post, Send, Take, Trap}
use Rattle.mpi_call.specs.declared.call.Halt.{Halt}
use Rattle.mpi_call.specs.declared.call.Halt.TheVariants.{Stuck}
use Rattle.mpi_call.specs.declared.reply.Reply.{Reply}
use Rattle.mpi_call.specs.declared.reply.Reply.TheVariants.{Stopped}
use Rattle.run_model.specs.declared.event.Event.{Event}
use Rattle.run_model.specs.Allowed.{IsPrompt, IsAllowedBy, IsAnswer, IsHeld, IsPeekAnswer, IsStuck, IsTakeAnswer, can_go, flags_of, has_open, mode_holds, is_prompt, probe_of}
use Rattle.run_model.specs.Chosen.{IsChosenEvent, chosen_event, order_of}
use Rattle.run_model.specs.Due.{due}
use Rattle.run_model.specs.Lists.{Along}
use Rattle.run_model.specs.MachineLaws.{OrderFixesRun}
use Rattle.run_model.specs.Run.{IsPromptEvent}
use Rattle.run_model.specs.Shape.{is_test}
use Rattle.run_model.specs.Views.{Next, View, moment_of, replies_in, view_of}

same_events : (next : Next) (n : ℕ) (before one other : List Event) → Along (IsPromptEvent next n) before one → Along (IsChosenEvent n) before one
    → Along (IsPromptEvent next n) before other → Along (IsChosenEvent n) before other → order_of one ≡ order_of other → one ≡ other
same_events next n before [] [] run chosen run2 chosen2 same = refl
same_events next n before [] (y ∷ other) run chosen run2 chosen2 same = absurd (cc)
same_events next n before (x ∷ one) [] run chosen run2 chosen2 same = absurd (cc)
same_events next n before (x ∷ one) (y ∷ other) run chosen run2 chosen2 same =
    let rank : x.rank ≡ y.rank = cc in
    let later : order_of one ≡ order_of other = cc in
    let asked : ℕ → Option Call = λ r. next n r (replies_in (view_of before r)) in
    let calls : Some x.call ≡ Some y.call = sym run.0.call ∙ (ap asked rank ∙ run2.0.call) in
    let call : x.call ≡ y.call = cc in
    let event : x ≡ y = chosen.0 ∙ (ap (λ r. chosen_event n before r x.call) rank ∙ (ap (λ c. chosen_event n before y.rank c) call ∙ sym chosen2.0)) in
    let run_y : Along (IsPromptEvent next n) (before ++ y ∷ []) one = (let F : Event → Type 0 = λ e. Along (IsPromptEvent next n) (before ++ e ∷ []) one in subst F event run.1) in
    let chosen_y : Along (IsChosenEvent n) (before ++ y ∷ []) one = (let F : Event → Type 0 = λ e. Along (IsChosenEvent n) (before ++ e ∷ []) one in subst F event chosen.1) in
    let rest = same_events next n (before ++ y ∷ []) one other run_y chosen_y run2.1 chosen2.1 later in
    ap (λ e. e ∷ one) event ∙ ap (λ l. y ∷ l) rest

pub order_fixes_run : (next : Next) (n : ℕ) → OrderFixesRun next n
order_fixes_run next n one other chosen chosen2 same =
    same_events next n [] one other chosen.run.along chosen.along chosen2.run.along chosen2.along same

-- a call that cannot go can only be told that it is stuck
held_stuck : (test : Bool) (stuck : Type 0) (reply : Reply) → test ≡ false → IsHeld test stuck reply → reply ≡ Stopped Stuck
held_stuck true stuck reply h is = absurd (cc)
held_stuck false stuck reply h is = is.1

answer_stuck : (stuck : Type 0) (n : ℕ) (before : List Event) (own : View) (me : ℕ) (call : Call) (reply : Reply)
    → is_prompt n before me own call ≡ false → IsAnswer stuck (moment_of n before me own) call reply → reply ≡ Stopped Stuck
answer_stuck stuck n before own me (Take starts mode) reply h is =
    let H : Bool = mode_holds mode (flags_of (moment_of n before me own) starts) in
    let parts = or_parts (is_test mode) H h in
    let F : Bool → Type 0 = λ b. IsTakeAnswer b stuck (moment_of n before me own) starts mode reply in
    held_stuck (is_test mode) stuck reply parts.0 (subst F parts.1 is)
answer_stuck stuck n before own me (Peek comm source tag wait) reply h is =
    let H : Bool = has_open n before me comm source tag in
    let parts = or_parts (not wait) H h in
    let F : Bool → Type 0 = λ b. IsPeekAnswer b stuck before (probe_of me comm source tag) wait reply in
    held_stuck (not wait) stuck reply parts.0 (subst F parts.1 is)
answer_stuck stuck n before own me (Send comm dest tag ints sync) reply h is = absurd (cc)
answer_stuck stuck n before own me (Post comm source tag room) reply h is = absurd (cc)
answer_stuck stuck n before own me (Enter comm kind root op count ints) reply h is = absurd (cc)
answer_stuck stuck n before own me (Abort code) reply h is = absurd (cc)
answer_stuck stuck n before own me (Trap fault) reply h is = absurd (cc)
answer_stuck stuck n before own me End reply h is = absurd (cc)

pub allowed_stuck : (halt : Option Halt) (stuck : Type 0) (n : ℕ) (before : List Event) (own : View) (me : ℕ) (call : Call) (reply : Reply)
    → (is_some halt || is_prompt n before me own call) ≡ false → IsAllowedBy halt stuck (moment_of n before me own) call reply → reply ≡ Stopped Stuck
allowed_stuck None stuck n before own me call reply h is = answer_stuck stuck n before own me call reply h is
allowed_stuck (Some halt) stuck n before own me call reply h is = absurd (cc)

pub cannot_go : (next : Next) (n : ℕ) (before : List Event) (me : ℕ) (call : Call) (reply : Reply)
    → can_go n before me (view_of before me) call ≡ false → IsPrompt next n before me call reply → reply ≡ Stopped Stuck
cannot_go next n before me call reply h is =
    allowed_stuck (due n before me (view_of before me) call) (IsStuck next n before) n before (view_of before me) me call reply h is
