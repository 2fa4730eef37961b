-- An event of the other rank that makes no racy call is answered behind the call as it was without it.
use Rattle.std.proofs.Common.{◌≡◌, ◌∙◌, ◌++◌, ◌==◌, ◌||◌, ◌∷◌, if◌then◌else◌, ℕ, List, [], Option, Some, None, Bool, true, false, inl, inr, is_some, length, refl, ap, sym, subst}
use Rattle.std.proofs.Math.Path.{fun_ext}
use Rattle.std.proofs.lemmas.Bool.{eqb-true, or_left, or_right}
use Rattle.std.specs.List.{list_all, list_any}
use Rattle.mpi_call.specs.declared.call.Call.{Call}
use Rattle.mpi_call.specs.declared.call.Call.TheVariants.{Send, Post, Enter, Take, Peek, Abort, Trap, End}
use Rattle.mpi_call.specs.declared.call.Halt.TheVariants.{Mismatched}
use Rattle.mpi_call.specs.declared.call.Source.{Source}
use Rattle.mpi_call.specs.declared.call.Source.TheVariants.{Any, From, Null}
use Rattle.mpi_call.specs.declared.call.TakeMode.TheVariants.{All}
use Rattle.mpi_call.specs.Calls.{comm_of}
use Rattle.run_model.specs.declared.event.Event.{Event}
use Rattle.run_model.specs.Allowed.{can_go, flags_of, is_prompt}
use Rattle.run_model.specs.Choice.{choice}
use Rattle.run_model.specs.Chosen.{halt_or}
use Rattle.run_model.specs.Communicators.{Entered, instance_of, is_on}
use Rattle.run_model.specs.Due.{disagrees, due, halt_at, halted, is_full, is_mismatched}
use Rattle.run_model.specs.Lists.{world}
use Rattle.run_model.specs.Pairs.{IsAllMatched}
use Rattle.run_model.specs.Readiness.{is_ready}
use Rattle.run_model.specs.Views.{View, is_start, moment_of, start_at, starts_of, view_of}
use Rattle.run_model.proofs.Numbered.{AllMade}
use Rattle.run_model.proofs.Views.{option_cases, test_cases}
use Rattle.picked_runs.specs.declared.turn.Pick.{Pick}
use Rattle.picked_runs.specs.declared.turn.Pick.TheVariants.{First, Sender, Index}
use Rattle.picked_runs.specs.Picks.{call_from, has_pick, picked_answer, picked_event, picked_reply}
use Rattle.quiet_calls.specs.Quiet.{is_racy}
use Rattle.quiet_calls.proofs.Unseen.{due_by}
use Rattle.quiet_calls.proofs.Staying.{all_on, all_same, null_choice, offers, ready_on, reply_answer}
use Rattle.quiet_calls.proofs.Crossing.{enters_off}

-- 1. whatever it picks, the event is the same

from_same : (source sender : ℕ) → (source == sender) ≡ true → From sender ≡ From source
from_same source sender t = ap (λ (r : ℕ). From r) (sym (eqb-true source sender t))

pub calm_event : (n : ℕ) (before : List Event) (me : ℕ) (call : Call) (pick : Pick) → is_racy call ≡ false → has_pick n before me call pick ≡ true
    → picked_event n before me call pick ≡ picked_event n before me call First
calm_event n before me call First h offered = refl
calm_event n before me (Post comm (From source) tag room) (Sender sender) h offered =
    let E : Call → Event = λ seen. record {
      rank = me;
      call = Post comm (From source) tag room;
      reply = picked_reply n before me (Post comm (From source) tag room) First;
      mate = if is_start (Post comm (From source) tag room, picked_reply n before me (Post comm (From source) tag room) First) then choice before me seen else None;
      met = [];
    } in
    elim (test_cases (source == sender)) [
      | inl t ↦
          let seen : call_from sender (Post comm (From source) tag room) ≡ Post comm (From source) tag room =
          ap (λ (b : Bool). Post comm (if b then From sender else Null) tag room) t ∙ ap (λ (s : Source). Post comm s tag room) (from_same source sender t) in
          ap E seen
      | inr f ↦
          let seen : call_from sender (Post comm (From source) tag room) ≡ Post comm Null tag room = ap (λ (b : Bool). Post comm (if b then From sender else Null) tag room) f in
          let some : is_some (choice before me (call_from sender (Post comm (From source) tag room))) ≡ true = offers n before me (Post comm (From source) tag room) sender offered in
          let no : false ≡ true = sym (ap (λ c. is_some (choice before me c)) seen ∙ ap is_some (null_choice before me comm tag room)) ∙ some in
          absurd (cc)
    ]
calm_event n before me (Post comm Any tag room) (Sender sender) h offered = absurd (cc)
calm_event n before me (Post comm Null tag room) (Sender sender) h offered = refl
calm_event n before me (Post comm source tag room) (Index index) h offered = refl
calm_event n before me (Send comm dest tag ints sync) (Sender sender) h offered = refl
calm_event n before me (Send comm dest tag ints sync) (Index index) h offered = refl
calm_event n before me (Enter comm kind root op count ints) (Sender sender) h offered = refl
calm_event n before me (Enter comm kind root op count ints) (Index index) h offered = refl
calm_event n before me (Take starts All) pick h offered = refl
calm_event n before me (Take starts mode) pick h offered = absurd (cc)
calm_event n before me (Peek comm source tag wait) pick h offered = absurd (cc)
calm_event n before me (Abort code) (Sender sender) h offered = refl
calm_event n before me (Abort code) (Index index) h offered = refl
calm_event n before me (Trap fault) (Sender sender) h offered = refl
calm_event n before me (Trap fault) (Index index) h offered = refl
calm_event n before me End (Sender sender) h offered = refl
calm_event n before me End (Index index) h offered = refl

-- 2. the halt that is due

mismatched_off : (n : ℕ) (before : List Event) (event : Event) → ((comm : ℕ) → is_on comm event.call ≡ false) → (own : View) (enter : Call)
    → is_mismatched n (before ++ event ∷ []) own enter ≡ is_mismatched n before own enter
mismatched_off n before event off own enter =
    let instance : ℕ = instance_of own (length (starts_of own)) (comm_of enter) in
    ap (λ (find : ℕ → Option Entered). list_any (λ m. disagrees enter (find m)) (world n 0))
    (fun_ext (λ m. enters_off n before event off (comm_of enter) instance m))

halt_at-off : (n : ℕ) (before : List Event) (event : Event) → ((comm : ℕ) → is_on comm event.call ≡ false) → (me : ℕ) (own : View) (call : Call)
    → halt_at n (before ++ event ∷ []) me own call ≡ halt_at n before me own call
halt_at-off n before event off me own (Enter comm kind root op count ints) =
    ap (λ (x : Bool). if x then Some (Mismatched me) else None) (mismatched_off n before event off own (Enter comm kind root op count ints))
halt_at-off n before event off me own call = refl

pub due_off : (n : ℕ) (before : List Event) (event : Event) → ((comm : ℕ) → is_on comm event.call ≡ false) → halted (before ++ event ∷ []) ≡ halted before
    → is_full (before ++ event ∷ []) ≡ is_full before → (me : ℕ) → view_of (before ++ event ∷ []) me ≡ view_of before me → (call : Call)
    → due n (before ++ event ∷ []) me (view_of (before ++ event ∷ []) me) call ≡ due n before me (view_of before me) call
due_off n before event off halts full me seen call =
    ap (λ (v : View). due n (before ++ event ∷ []) me v call) seen
    ∙ due_by (halted (before ++ event ∷ [])) (halted before) (is_full (before ++ event ∷ [])) (is_full before)
    (halt_at n (before ++ event ∷ []) me (view_of before me) call) (halt_at n before me (view_of before me) call) halts full (halt_at-off n before event off me (view_of before me) call)

-- 3. the reply

pub all_true : (n : ℕ) (before : List Event) (event : Event) (me : ℕ) (own : View) (starts : List ℕ) → list_all (λ x. x) (flags_of (moment_of n before me own) starts) ≡ true
    → list_all (λ x. x) (flags_of (moment_of n (before ++ event ∷ []) me own) starts) ≡ true
all_true n before event me own starts h =
    let first : ℕ → Bool = λ k. is_ready (moment_of n before me own) k (start_at own k) in
    let second : ℕ → Bool = λ k. is_ready (moment_of n (before ++ event ∷ []) me own) k (start_at own k) in
    ap (list_all (λ (x : Bool). x)) (all_same first second starts (λ k t. ready_on n before event me own k (start_at own k) t) h) ∙ h

-- where the call can be answered
calm_prompt : (n : ℕ) (before : List Event) (event : Event) (me : ℕ) (own : View) (call : Call) → is_racy call ≡ false → is_prompt n before me own call ≡ true
    → is_prompt n (before ++ event ∷ []) me own call ≡ true
calm_prompt n before event me own (Take starts All) h prompt = all_true n before event me own starts prompt
calm_prompt n before event me own (Take starts mode) h prompt = absurd (cc)
calm_prompt n before event me own (Peek comm source tag wait) h prompt = absurd (cc)
calm_prompt n before event me own call h prompt = refl

calm_answer : (n : ℕ) (before : List Event) (event : Event) (me : ℕ) (call : Call) → is_racy call ≡ false → IsAllMatched before → AllMade n before
    → is_prompt n before me (view_of before me) call ≡ true → picked_answer n (before ++ event ∷ []) me (view_of before me) call First ≡ picked_answer n before me (view_of before me) call First
calm_answer n before event me (Take starts All) h matched made prompt = all_on n before event me starts false matched made prompt
calm_answer n before event me (Take starts mode) h matched made prompt = absurd (cc)
calm_answer n before event me (Peek comm source tag wait) h matched made prompt = absurd (cc)
calm_answer n before event me call h matched made prompt = refl

pub record IsCalmly (n : ℕ) (before : List Event) (event : Event) (me : ℕ) (call : Call) : Type 0 where
  pub reply : picked_reply n (before ++ event ∷ []) me call First ≡ picked_reply n before me call First
  pub goes : can_go n (before ++ event ∷ []) me (view_of (before ++ event ∷ []) me) call ≡ true

pub calmly : (n : ℕ) (before : List Event) (event : Event) (me : ℕ) (call : Call) → is_racy call ≡ false → IsAllMatched before → AllMade n before
    → view_of (before ++ event ∷ []) me ≡ view_of before me
    → due n (before ++ event ∷ []) me (view_of (before ++ event ∷ []) me) call ≡ due n before me (view_of before me) call
    → can_go n before me (view_of before me) call ≡ true → IsCalmly n before event me call
calmly n before event me call h matched made seen same goes =
    let after : List Event = before ++ event ∷ [] in
    let own : View = view_of before me in
    elim (option_cases (due n before me own call)) [
      | inl some ↦
          let now : due n after me (view_of after me) call ≡ Some some.0 = same ∙ some.1 in
          record {
            reply = ap (λ o. halt_or o (picked_answer n after me (view_of after me) call First)) now ∙ sym (ap (λ o. halt_or o (picked_answer n before me own call First)) some.1);
            goes = or_left (is_some (due n after me (view_of after me) call)) (is_prompt n after me (view_of after me) call) (ap is_some now);
          }
      | inr none ↦
          let prompt : is_prompt n before me own call ≡ true = ap (λ o. is_some o || is_prompt n before me own call) (sym none) ∙ goes in
          let F : View → Type 0 = λ v. is_prompt n after me v call ≡ true in
          record {
            reply = reply_answer n after me call First (same ∙ none)
                ∙ (ap (λ (v : View). picked_answer n after me v call First) seen
                ∙ (calm_answer n before event me call h matched made prompt ∙ sym (reply_answer n before me call First none)));
            goes = or_right (is_some (due n after me (view_of after me) call)) (is_prompt n after me (view_of after me) call)
                (subst F (sym seen) (calm_prompt n before event me own call h prompt));
          }
    ]
