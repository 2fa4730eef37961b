-- A rank is told Stuck only where no call can go, or after another Stuck. (As in `wait_graph`, on which this crate does not stand.)
use Rattle.std.proofs.Common.{◌≡◌, ◌∙◌, Bool, ℕ, List, [], Option, Some, None, length, true, false, inl, inr, not, ap, sym, subst}
use Rattle.mpi_call.specs.declared.call.Call.{Call}
use Rattle.mpi_call.specs.declared.call.Call.TheVariants.{Send, Post, Enter, Take, Peek, Abort, Trap, End}
use Rattle.mpi_call.specs.declared.call.Halt.{Halt}
use Rattle.mpi_call.specs.declared.call.Halt.TheVariants.{BadRequest, Limit, Mismatched, Stuck, Truncated}
use Rattle.mpi_call.specs.declared.call.Source.{Source}
use Rattle.mpi_call.specs.declared.call.Tag.{Tag}
use Rattle.mpi_call.specs.declared.call.TakeMode.{TakeMode}
use Rattle.mpi_call.specs.declared.reply.Item.{Item}
use Rattle.mpi_call.specs.declared.reply.Reply.{Reply}
use Rattle.mpi_call.specs.declared.reply.Reply.TheVariants.{Done, NotYet, Peeked, Stopped, Took}
use Rattle.run_model.specs.declared.event.Event.{Event}
use Rattle.run_model.specs.Allowed.{IsPrompt, IsAllowedBy, IsAnswer, IsHeld, IsPeekAnswer, IsStuck, IsTakeAnswer, first_long, flags_of, has_open, mode_holds, probe_of, taken_reply}
use Rattle.run_model.specs.Due.{bad_request, due, halt_at, halted, is_full, is_mismatched}
use Rattle.run_model.specs.Shape.{is_test}
use Rattle.run_model.specs.Views.{Next, View, moment_of, view_of}
use Rattle.run_model.proofs.Views.{option_cases, test_cases}

held_gives : (test : Bool) (stuck : Type 0) (reply : Reply) → IsHeld test stuck reply → reply ≡ Stopped Stuck → stuck
held_gives true stuck reply is h = (let no : NotYet ≡ Stopped Stuck = sym is ∙ h in absurd (cc))
held_gives false stuck reply is h = is.0

not_taken : (long : Option ℕ) (items : List Item) (me : ℕ) (reply : Reply) → reply ≡ taken_reply me long items → reply ≡ Stopped Stuck → ⊥
not_taken None items me reply is h = (let no : Took items ≡ Stopped Stuck = sym is ∙ h in cc)
not_taken (Some k) items me reply is h = (let no : Stopped (Truncated me k) ≡ Stopped Stuck = sym is ∙ h in cc)

take_gives : (condition : Bool) (stuck : Type 0) (n : ℕ) (before : List Event) (me : ℕ) (own : View) (starts : List ℕ) (mode : TakeMode) (reply : Reply)
    → IsTakeAnswer condition stuck (moment_of n before me own) starts mode reply → reply ≡ Stopped Stuck → stuck
take_gives true stuck n before me own starts mode reply is h = absurd (not_taken (first_long own starts is.items) is.items me reply is.reply_is h)
take_gives false stuck n before me own starts mode reply is h = held_gives (is_test mode) stuck reply is h

peek_gives : (found : Bool) (stuck : Type 0) (before : List Event) (me comm : ℕ) (source : Source) (tag : Tag) (wait : Bool) (reply : Reply)
    → IsPeekAnswer found stuck before (probe_of me comm source tag) wait reply → reply ≡ Stopped Stuck → stuck
peek_gives true stuck before me comm source tag wait reply is h = (let no : Peeked is.send.0 is.send.1 is.t (length is.ints) ≡ Stopped Stuck = sym is.reply_is ∙ h in absurd (cc))
peek_gives false stuck before me comm source tag wait reply is h = held_gives (not wait) stuck reply is h

done_gives : (stuck : Type 0) (reply : Reply) → reply ≡ Done → reply ≡ Stopped Stuck → stuck
done_gives stuck reply is h = (let no : Done ≡ Stopped Stuck = sym is ∙ h in absurd (cc))

answer_gives : (stuck : Type 0) (n : ℕ) (before : List Event) (me : ℕ) (own : View) (call : Call) (reply : Reply)
    → IsAnswer stuck (moment_of n before me own) call reply → reply ≡ Stopped Stuck → stuck
answer_gives stuck n before me own (Take starts mode) reply is h = take_gives (mode_holds mode (flags_of (moment_of n before me own) starts)) stuck n before me own starts mode reply is h
answer_gives stuck n before me own (Peek comm source tag wait) reply is h = peek_gives (has_open n before me comm source tag) stuck before me comm source tag wait reply is h
answer_gives stuck n before me own (Send comm dest tag ints sync) reply is h = done_gives stuck reply is h
answer_gives stuck n before me own (Post comm source tag room) reply is h = done_gives stuck reply is h
answer_gives stuck n before me own (Enter comm kind root op count ints) reply is h = done_gives stuck reply is h
answer_gives stuck n before me own (Abort code) reply is h = done_gives stuck reply is h
answer_gives stuck n before me own (Trap fault) reply is h = done_gives stuck reply is h
answer_gives stuck n before me own End reply is h = done_gives stuck reply is h

-- no call brings that halt by itself
brings_none : (n : ℕ) (before : List Event) (me : ℕ) (own : View) (call : Call) → halt_at n before me own call ≡ Some Stuck → ⊥
brings_none n before me own (Abort code) h = cc
brings_none n before me own (Trap fault) h = cc
brings_none n before me own (Enter comm kind root op count ints) h = elim (test_cases (is_mismatched n before own (Enter comm kind root op count ints))) [
  | inl t ↦ (let no : Some (Mismatched me) ≡ Some Stuck = rw t at h in cc)
  | inr t ↦ (let no : None ≡ Some Stuck = rw t at h in cc)
]
brings_none n before me own (Take starts mode) h = elim (option_cases (bad_request own [] starts)) [
  | inl bad ↦ (let no : Some (BadRequest me bad.0) ≡ Some Stuck = rw bad.1 at h in cc)
  | inr good ↦ (let no : None ≡ Some Stuck = rw good at h in cc)
]
brings_none n before me own (Send comm dest tag ints sync) h = cc
brings_none n before me own (Post comm source tag room) h = cc
brings_none n before me own (Peek comm source tag wait) h = cc
brings_none n before me own End h = cc

due_not_stuck : (n : ℕ) (before : List Event) (me : ℕ) (own : View) (call : Call) → halted before ≡ None → due n before me own call ≡ Some Stuck → ⊥
due_not_stuck n before me own call none h = elim (test_cases (is_full before)) [
  | inl t ↦ (let no : Some Limit ≡ Some Stuck = rw (none, t) at h in cc)
  | inr t ↦ brings_none n before me own call (rw (none, t) at h)
]

pub stuck_then : (next : Next) (n : ℕ) (before : List Event) (me : ℕ) (call : Call) (reply : Reply) → halted before ≡ None
    → IsPrompt next n before me call reply → reply ≡ Stopped Stuck → IsStuck next n before
stuck_then next n before me call reply none is h =
    let own : View = view_of before me in
    let F : Option Halt → Type 0 = λ x. IsAllowedBy x (IsStuck next n before) (moment_of n before me own) call reply in
    elim (option_cases (due n before me own call)) [
      | inl some ↦ (
          let stopped : reply ≡ Stopped some.0 = subst F some.1 is in
          let both : Stopped some.0 ≡ Stopped Stuck = sym stopped ∙ h in
          let same : some.0 ≡ Stuck = cc in
          absurd (due_not_stuck n before me own call none (some.1 ∙ ap (λ x. Some x) same)))
      | inr free ↦ answer_gives (IsStuck next n before) n before me own call reply (subst F free is) h
    ]
