-- What a halted run comes to does not tell of a quiet call of another rank.
use Rattle.std.proofs.Common.{◌≡◌, ◌∙◌, ◌∷◌, ◌⊎◌, if◌then◌else◌, ℕ, List, [], Option, Some, None, Bool, true, false, inl, inr, map, not, refl, ap, sym, subst}
use Rattle.mpi_call.specs.declared.call.Call.{Call}
use Rattle.mpi_call.specs.declared.call.Call.TheVariants.{Enter, Take, Peek, Abort, Trap}
use Rattle.mpi_call.specs.declared.call.Halt.{Halt}
use Rattle.mpi_call.specs.declared.call.Halt.TheVariants.{Aborted, BadRequest, Mismatched, Trapped, Truncated}
use Rattle.mpi_call.specs.declared.call.Source.{Source}
use Rattle.mpi_call.specs.declared.call.Tag.{Tag}
use Rattle.mpi_call.specs.declared.call.TakeMode.{TakeMode}
use Rattle.mpi_call.specs.declared.reply.Item.{Item}
use Rattle.mpi_call.specs.declared.reply.Reply.{Reply}
use Rattle.mpi_call.specs.declared.reply.Reply.TheVariants.{Stopped}
use Rattle.run_model.specs.declared.ending.Ending.TheVariants.{Halted}
use Rattle.run_model.specs.declared.event.Event.{Event}
use Rattle.run_model.specs.Allowed.{IsAllowedBy, IsAnswer, IsHeld, IsPeekAnswer, IsStuck, IsTakeAnswer, first_long, flags_of, has_open, mode_holds, probe_of, taken_reply}
use Rattle.run_model.specs.Due.{bad_halt, bad_request, due, halt_at, halted, is_full, is_mismatched}
use Rattle.run_model.specs.Run.{IsPromptEvent}
use Rattle.run_model.specs.Shape.{is_test}
use Rattle.run_model.specs.Views.{Next, View, moment_of, replies_in, view_of}
use Rattle.run_model.proofs.Views.{option_cases}
use Rattle.srr_entry.specs.Outputs.{Output}
use Rattle.run_states.specs.Outcomes.{RunOutcome, reported_ending, halted_outcome, last_replies, reported_ranks, replies_and}

-- a halt whose outcome tells what this rank printed, or nothing
abbrev pub TellsOnly : ℕ → ℕ → Halt → Type 0
TellsOnly n me halt = (reported_ranks n (Halted halt) ≡ me ∷ []) ⊎ (reported_ranks n (Halted halt) ≡ [])

-- 1. the halt of a rank's call

bad_told : (n me : ℕ) (found : Option ℕ) (halt : Halt) → bad_halt me found ≡ Some halt → TellsOnly n me halt
bad_told n me None halt h = absurd (cc)
bad_told n me (Some k) halt h =
    let same : BadRequest me k ≡ halt = cc in
    let F : Halt → Type 0 = λ x. TellsOnly n me x in
    subst F same (inl refl)

mismatch_told : (n me : ℕ) (found : Bool) (halt : Halt) → (if found then Some (Mismatched me) else None) ≡ Some halt → TellsOnly n me halt
mismatch_told n me true halt h =
    let same : Mismatched me ≡ halt = cc in
    let F : Halt → Type 0 = λ x. TellsOnly n me x in
    subst F same (inr refl)
mismatch_told n me false halt h = absurd (cc)

own_told : (n : ℕ) (before : List Event) (me : ℕ) (own : View) (call : Call) (halt : Halt) → halt_at n before me own call ≡ Some halt → TellsOnly n me halt
own_told n before me own (Abort code) halt h = (let F : Halt → Type 0 = λ x. TellsOnly n me x in let same : Aborted me code ≡ halt = cc in subst F same (inl refl))
own_told n before me own (Trap fault) halt h = (let F : Halt → Type 0 = λ x. TellsOnly n me x in let same : Trapped me fault ≡ halt = cc in subst F same (inl refl))
own_told n before me own (Enter comm kind root op count ints) halt h = mismatch_told n me (is_mismatched n before own (Enter comm kind root op count ints)) halt h
own_told n before me own (Take starts mode) halt h = bad_told n me (bad_request own [] starts) halt h
own_told n before me own call halt h = absurd (cc)

held_told : (test : Bool) (stuck : Type 0) (halt : Halt) → IsHeld test stuck (Stopped halt) → stuck
held_told true stuck halt is = absurd (cc)
held_told false stuck halt is = is.0

taken_told : (n me : ℕ) (long : Option ℕ) (items : List Item) (halt : Halt) → Stopped halt ≡ taken_reply me long items → TellsOnly n me halt
taken_told n me None items halt h = absurd (cc)
taken_told n me (Some k) items halt h =
    let same : Truncated me k ≡ halt = cc in
    let F : Halt → Type 0 = λ x. TellsOnly n me x in
    subst F same (inl refl)

take_told : (condition : Bool) (stuck : Type 0) (n : ℕ) (before : List Event) (me : ℕ) (own : View) (starts : List ℕ) (mode : TakeMode) (halt : Halt)
    → IsTakeAnswer condition stuck (moment_of n before me own) starts mode (Stopped halt) → TellsOnly n me halt ⊎ stuck
take_told true stuck n before me own starts mode halt is = inl (taken_told n me (first_long own starts is.items) is.items halt is.reply_is)
take_told false stuck n before me own starts mode halt is = inr (held_told (is_test mode) stuck halt is)

peek_told : (found : Bool) (stuck : Type 0) (n : ℕ) (before : List Event) (me comm : ℕ) (source : Source) (tag : Tag) (wait : Bool) (halt : Halt)
    → IsPeekAnswer found stuck before (probe_of me comm source tag) wait (Stopped halt) → TellsOnly n me halt ⊎ stuck
peek_told true stuck n before me comm source tag wait halt is = (let no = is.reply_is in absurd (cc))
peek_told false stuck n before me comm source tag wait halt is = inr (held_told (not wait) stuck halt is)

answer_told : (stuck : Type 0) (n : ℕ) (before : List Event) (me : ℕ) (own : View) (call : Call) (halt : Halt) → IsAnswer stuck (moment_of n before me own) call (Stopped halt)
    → TellsOnly n me halt ⊎ stuck
answer_told stuck n before me own (Take starts mode) halt is = take_told (mode_holds mode (flags_of (moment_of n before me own) starts)) stuck n before me own starts mode halt is
answer_told stuck n before me own (Peek comm source tag wait) halt is = peek_told (has_open n before me comm source tag) stuck n before me comm source tag wait halt is
answer_told stuck n before me own call halt is = absurd (cc)

-- where no halt was before, and no bound is met
pub halt_told : (next : Next) (n : ℕ) (before : List Event) (x : Event) (halt : Halt) → IsPromptEvent next n before x → x.reply ≡ Stopped halt → halted before ≡ None
    → is_full before ≡ false → TellsOnly n x.rank halt ⊎ IsStuck next n before
halt_told next n before x halt step stopped none room =
    let own : View = view_of before x.rank in
    let found : Option Halt = halt_at n before x.rank own x.call in
    let due_is : due n before x.rank own x.call ≡ found = rw (none, room) refl in
    let F : Option Halt → Type 0 = λ o. IsAllowedBy o (IsStuck next n before) (moment_of n before x.rank own) x.call x.reply in
    let is : F found = subst F due_is step.reply in
    elim (option_cases found) [
      | inl some ↦
          let here : x.reply ≡ Stopped some.0 = subst F some.1 is in
          let both : Stopped some.0 ≡ Stopped halt = sym here ∙ stopped in
          let same : some.0 ≡ halt = cc in
          let G : Halt → Type 0 = λ h. TellsOnly n x.rank h in
          inl (subst G same (own_told n before x.rank own x.call some.0 some.1))
      | inr free ↦
          let R : Reply → Type 0 = λ r. IsAnswer (IsStuck next n before) (moment_of n before x.rank own) x.call r in
          answer_told (IsStuck next n before) n before x.rank own x.call halt (subst R stopped (subst F free is))
    ]

-- 2. what it comes to

abbrev told_by : Next → Output → ℕ → Halt → List Event → List ℕ → RunOutcome
told_by next output n halt before ranks =
    record { ending = reported_ending (Halted halt); printed = map (λ rank. (rank, output n rank (last_replies next n before halt rank))) ranks }

pub outcomes_told : (next : Next) (output : Output) (n : ℕ) (one other : List Event) (me : ℕ) (halt : Halt) → TellsOnly n me halt → view_of one me ≡ view_of other me
    → halted_outcome next output n one halt ≡ halted_outcome next output n other halt
outcomes_told next output n one other me halt (inl only) same =
    let last : last_replies next n one halt me ≡ last_replies next n other halt me =
    ap (λ (v : View). replies_and (replies_in v) halt (next n me (replies_in v))) same in
    ap (told_by next output n halt one) only
    ∙ (ap (λ r. record { ending = reported_ending (Halted halt); printed = (me, output n me r) ∷ [] }) last ∙ sym (ap (told_by next output n halt other) only))
outcomes_told next output n one other me halt (inr none) same = ap (told_by next output n halt one) none ∙ sym (ap (told_by next output n halt other) none)
