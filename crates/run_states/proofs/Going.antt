-- A call of a run that is answered could go, or no call could.
use Rattle.std.proofs.Common.{◌≡◌, ◌||◌, ◌⊎◌, ℕ, List, Option, Bool, true, false, inl, inr, is_some, not, refl, ap, subst}
use Rattle.std.proofs.lemmas.Bool.{or_left, or_right}
use Rattle.mpi_call.specs.declared.call.Call.{Call}
use Rattle.mpi_call.specs.declared.call.Call.TheVariants.{Send, Post, Enter, Take, Peek, Abort, Trap, End}
use Rattle.mpi_call.specs.declared.call.Halt.{Halt}
use Rattle.mpi_call.specs.declared.call.Source.{Source}
use Rattle.mpi_call.specs.declared.call.Tag.{Tag}
use Rattle.mpi_call.specs.declared.call.TakeMode.{TakeMode}
use Rattle.mpi_call.specs.declared.reply.Reply.{Reply}
use Rattle.run_model.specs.declared.event.Event.{Event}
use Rattle.run_model.specs.Allowed.{IsPrompt, IsAllowedBy, IsAnswer, IsHeld, IsPeekAnswer, IsStuck, IsTakeAnswer, can_go, flags_of, has_open, mode_holds, is_prompt, probe_of}
use Rattle.run_model.specs.Due.{due}
use Rattle.run_model.specs.Shape.{is_test}
use Rattle.run_model.specs.Views.{Next, View, moment_of, view_of}
use Rattle.run_model.proofs.Views.{option_cases}

-- what is held is a test, or nothing can go
held_goes : (test : Bool) (stuck : Type 0) (reply : Reply) → IsHeld test stuck reply → (test ≡ true) ⊎ stuck
held_goes true stuck reply is = inl refl
held_goes false stuck reply is = inr is.0

either : (x y : Bool) (stuck : Type 0) → (x ≡ true) ⊎ stuck → ((x || y) ≡ true) ⊎ stuck
either x y stuck h = elim h [ inl t ↦ inl (or_left x y t) | inr s ↦ inr s ]

take_goes : (condition : Bool) (stuck : Type 0) (n : ℕ) (before : List Event) (me : ℕ) (own : View) (starts : List ℕ) (mode : TakeMode) (reply : Reply)
    → mode_holds mode (flags_of (moment_of n before me own) starts) ≡ condition → IsTakeAnswer condition stuck (moment_of n before me own) starts mode reply
    → ((is_test mode || mode_holds mode (flags_of (moment_of n before me own) starts)) ≡ true) ⊎ stuck
take_goes true stuck n before me own starts mode reply h is = inl (or_right (is_test mode) (mode_holds mode (flags_of (moment_of n before me own) starts)) h)
take_goes false stuck n before me own starts mode reply h is =
    either (is_test mode) (mode_holds mode (flags_of (moment_of n before me own) starts)) stuck (held_goes (is_test mode) stuck reply is)

peek_goes : (found : Bool) (stuck : Type 0) (n : ℕ) (before : List Event) (me comm : ℕ) (source : Source) (tag : Tag) (wait : Bool) (reply : Reply)
    → has_open n before me comm source tag ≡ found → IsPeekAnswer found stuck before (probe_of me comm source tag) wait reply
    → ((not wait || has_open n before me comm source tag) ≡ true) ⊎ stuck
peek_goes true stuck n before me comm source tag wait reply h is = inl (or_right (not wait) (has_open n before me comm source tag) h)
peek_goes false stuck n before me comm source tag wait reply h is =
    either (not wait) (has_open n before me comm source tag) stuck (held_goes (not wait) stuck reply is)

answer_goes : (stuck : Type 0) (n : ℕ) (before : List Event) (me : ℕ) (own : View) (call : Call) (reply : Reply) → IsAnswer stuck (moment_of n before me own) call reply
    → (is_prompt n before me own call ≡ true) ⊎ stuck
answer_goes stuck n before me own (Take starts mode) reply is =
    take_goes (mode_holds mode (flags_of (moment_of n before me own) starts)) stuck n before me own starts mode reply refl is
answer_goes stuck n before me own (Peek comm source tag wait) reply is =
    peek_goes (has_open n before me comm source tag) stuck n before me comm source tag wait reply refl is
answer_goes stuck n before me own (Send comm dest tag ints sync) reply is = inl refl
answer_goes stuck n before me own (Post comm source tag room) reply is = inl refl
answer_goes stuck n before me own (Enter comm kind root op count ints) reply is = inl refl
answer_goes stuck n before me own (Abort code) reply is = inl refl
answer_goes stuck n before me own (Trap fault) reply is = inl refl
answer_goes stuck n before me own End reply is = inl refl

pub allowed_goes : (next : Next) (n : ℕ) (before : List Event) (me : ℕ) (call : Call) (reply : Reply) → IsPrompt next n before me call reply
    → (can_go n before me (view_of before me) call ≡ true) ⊎ IsStuck next n before
allowed_goes next n before me call reply is =
    let own : View = view_of before me in
    let F : Option Halt → Type 0 = λ o. IsAllowedBy o (IsStuck next n before) (moment_of n before me own) call reply in
    elim (option_cases (due n before me own call)) [
      | inl some ↦ inl (or_left (is_some (due n before me own call)) (is_prompt n before me own call) (ap is_some some.1))
      | inr none ↦ elim (answer_goes (IsStuck next n before) n before me own call reply (subst F none is)) [
        | inl t ↦ inl (or_right (is_some (due n before me own call)) (is_prompt n before me own call) t)
        | inr s ↦ inr s
      ]
    ]
