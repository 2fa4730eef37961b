-- The machine's reply is allowed.
use Rattle.std.proofs.Common.{◌≡◌, ◌⊎◌, if◌then◌else◌, ◌||◌, ◌∙◌, Bool, List, None, Option, Some, false, inl, inr, is_some, not, refl, subst, sym, true, ℕ}
use Rattle.mpi_call.specs.declared.call.Call.{Call}
use Rattle.mpi_call.specs.declared.call.Call.TheVariants.{Abort, End, Enter, Peek, Post, Send, Take, Trap}
use Rattle.mpi_call.specs.declared.call.Halt.{Halt}
use Rattle.mpi_call.specs.declared.call.Source.{Source}
use Rattle.mpi_call.specs.declared.call.Tag.{Tag}
use Rattle.mpi_call.specs.declared.call.TakeMode.{TakeMode}
use Rattle.run_model.specs.declared.event.Event.{Event}
use Rattle.run_model.specs.Allowed.{AreChosen, IsPrompt, IsAllowedBy, IsAnswer, IsHeld, IsPeekAnswer, IsStuck, IsTakeAnswer, can_go, first_long, flags_of, has_open, mode_holds, is_prompt, probe_of, taken_reply}
use Rattle.run_model.specs.Choice.{choice, chosen_places}
use Rattle.run_model.specs.Chosen.{chosen_answer, chosen_reply, halt_or, held_reply, items_of, peek_reply}
use Rattle.run_model.specs.Due.{due}
use Rattle.run_model.specs.Pairs.{IsAllMatched}
use Rattle.run_model.specs.Shape.{is_test}
use Rattle.run_model.specs.Views.{Next, moment_at, view_of}
use Rattle.run_model.proofs.ChosenGots.{chosen_are, gots_are, items_at-indices}
use Rattle.run_model.proofs.ChosenProbes.{peek_found, peek_missed, peek_there}
use Rattle.run_model.proofs.Origins.{AllBelow}

-- where the call cannot go, no other call can
abbrev pub GoesOr : Bool → Type 0 → Type 0
GoesOr goes stuck = (goes ≡ true) ⊎ stuck

held_is : (test condition : Bool) (stuck : Type 0) → condition ≡ false → GoesOr (test || condition) stuck → IsHeld test stuck (held_reply test)
held_is true condition stuck none goes = refl
held_is false condition stuck none goes = elim goes [ inl t ↦ (let no : false ≡ true = sym none ∙ t in absurd (cc)) | inr s ↦ (s, refl) ]

take_is : (condition : Bool) (stuck : Type 0) (n : ℕ) (before : List Event) (me : ℕ) (starts : List ℕ) (mode : TakeMode) → IsAllMatched before
    → mode_holds mode (flags_of (moment_at n before me) starts) ≡ condition
    → GoesOr (is_test mode || condition) stuck
    → IsTakeAnswer condition stuck (moment_at n before me) starts mode
    (if condition
    then taken_reply me (first_long (view_of before me) starts (items_of (moment_at n before me) starts mode)) (items_of (moment_at n before me) starts mode)
    else held_reply (is_test mode))
take_is true stuck n before me starts mode matched h goes =
    let flags : List Bool = flags_of (moment_at n before me) starts in
    let F : List ℕ → Type 0 = λ l. AreChosen mode flags l in
    record {
      items = items_of (moment_at n before me) starts mode;
      chosen = subst F (sym (items_at-indices n before (view_of before me) me starts (chosen_places mode flags))) (chosen_are mode flags h);
      gots = gots_are n before me starts mode matched;
      reply_is = refl;
    }
take_is false stuck n before me starts mode matched h goes = held_is (is_test mode) false stuck refl goes

peek_is : (found : Option ℕ) (stuck : Type 0) (n : ℕ) (before : List Event) (me comm : ℕ) (source : Source) (tag : Tag) (wait : Bool) → AllBelow n before
    → choice before me (Peek comm source tag wait) ≡ found
    → GoesOr (not wait || has_open n before me comm source tag) stuck
    → IsPeekAnswer (has_open n before me comm source tag) stuck before (probe_of me comm source tag) wait (peek_reply before wait found)
peek_is (Some at) stuck n before me comm source tag wait all e goes =
    rw (peek_there n before me comm source tag wait at all e) (peek_found before me comm source tag wait at e)
peek_is None stuck n before me comm source tag wait all e goes =
    let none = peek_missed n before me comm source tag wait e in
    let F : Bool → Type 0 = λ b. IsPeekAnswer b stuck before (probe_of me comm source tag) wait (held_reply (not wait)) in
    subst F (sym none) (held_is (not wait) (has_open n before me comm source tag) stuck none goes)

answer_is : (stuck : Type 0) (n : ℕ) (before : List Event) (me : ℕ) (call : Call) → IsAllMatched before → AllBelow n before
    → GoesOr (is_prompt n before me (view_of before me) call) stuck
    → IsAnswer stuck (moment_at n before me) call (chosen_answer n before me (view_of before me) call)
answer_is stuck n before me (Take starts mode) matched all goes =
    take_is (mode_holds mode (flags_of (moment_at n before me) starts)) stuck n before me starts mode matched refl goes
answer_is stuck n before me (Peek comm source tag wait) matched all goes =
    peek_is (choice before me (Peek comm source tag wait)) stuck n before me comm source tag wait all refl goes
answer_is stuck n before me (Send comm dest tag ints sync) matched all goes = refl
answer_is stuck n before me (Post comm source tag room) matched all goes = refl
answer_is stuck n before me (Enter comm kind root op count ints) matched all goes = refl
answer_is stuck n before me (Abort code) matched all goes = refl
answer_is stuck n before me (Trap fault) matched all goes = refl
answer_is stuck n before me End matched all goes = refl

allowed_by : (halt : Option Halt) (stuck : Type 0) (n : ℕ) (before : List Event) (me : ℕ) (call : Call) → IsAllMatched before → AllBelow n before
    → GoesOr (is_some halt || is_prompt n before me (view_of before me) call) stuck
    → IsAllowedBy halt stuck (moment_at n before me) call (halt_or halt (chosen_answer n before me (view_of before me) call))
allowed_by (Some halt) stuck n before me call matched all goes = refl
allowed_by None stuck n before me call matched all goes = answer_is stuck n before me call matched all goes

pub reply_allowed : (next : Next) (n : ℕ) (before : List Event) (me : ℕ) (call : Call) → IsAllMatched before → AllBelow n before
    → GoesOr (can_go n before me (view_of before me) call) (IsStuck next n before)
    → IsPrompt next n before me call (chosen_reply n before me call)
reply_allowed next n before me call matched all goes =
    allowed_by (due n before me (view_of before me) call) (IsStuck next n before) n before me call matched all goes
