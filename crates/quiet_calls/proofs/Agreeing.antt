-- An Enter with which none disagrees stays so: behind an Enter that is not mismatched where it was made, and behind a halt.
use Rattle.std.proofs.Common.{◌≡◌, ◌<◌, ◌∙◌, ◌++◌, ◌==◌, ◌∷◌, ℕ, List, [], Some, Bool, true, false, append-nil, append_assoc, inl, inr, length, not, refl, ap, sym, subst}
use Rattle.std.proofs.Math.Path.{fun_ext}
use Rattle.std.proofs.lemmas.Bool.{and_right, eqb-true}
use Rattle.std.specs.List.{list_any}
use Rattle.mpi_call.specs.declared.call.Call.{Call}
use Rattle.mpi_call.specs.declared.call.Call.TheVariants.{Enter}
use Rattle.mpi_call.specs.declared.call.Halt.{Halt}
use Rattle.mpi_call.specs.declared.reply.Reply.TheVariants.{Stopped}
use Rattle.mpi_call.specs.Calls.{comm_of, is_enter, is_starting}
use Rattle.mpi_call.specs.Collectives.{agree}
use Rattle.run_model.specs.declared.event.Event.{Event}
use Rattle.run_model.specs.Communicators.{count_on, enter_at, instance_of, is_on}
use Rattle.run_model.specs.Due.{disagrees, halted, is_mismatched}
use Rattle.run_model.specs.Lists.{Along, world}
use Rattle.run_model.specs.Run.{IsPromptEvent}
use Rattle.run_model.specs.Views.{Next, View, is_start, starts_of, view_of}
use Rattle.run_model.proofs.Enters.{enter_back}
use Rattle.run_model.proofs.Views.{option_cases, test_cases, view_of-mine, view_of-other}
use Rattle.quiet_calls.specs.Quiet.{Races}
use Rattle.quiet_calls.proofs.Entering.{next_instance, none_any, one_disagrees}
use Rattle.quiet_calls.proofs.EnterSwap.{agree_next, enter_event}
use Rattle.quiet_calls.proofs.Diamond.{IsFirst, nothing_due}
use Rattle.quiet_calls.proofs.Stopping.{halted_on, stopped_again}

-- 1. it goes by the views

pub mismatched_alike : (n : ℕ) (one other : List Event) (own : View) (call : Call) → ((rank : ℕ) → view_of one rank ≡ view_of other rank)
    → is_mismatched n one own call ≡ is_mismatched n other own call
mismatched_alike n one other own call same =
    let find : (ℕ → View) → Bool = λ V. list_any (λ m. disagrees call (enter_at n (V m) (comm_of call) (instance_of own (length (starts_of own)) (comm_of call)))) (world n 0) in
    let views : view_of one ≡ view_of other = fun_ext same in
    ap find views

-- 2. one event more

pub agreed_more : (n : ℕ) (before : List Event) (x : Event) (own : View) (call : Call) → is_mismatched n before own call ≡ false
    → (is_start (x.call, x.reply) ≡ true → is_on (comm_of call) x.call ≡ true
    → count_on (comm_of call) (starts_of (view_of before x.rank)) ≡ count_on (comm_of call) (starts_of own) → agree call x.call ≡ true)
    → is_mismatched n (before ++ x ∷ []) own call ≡ false
agreed_more n before x own call h agrees =
    let C : ℕ = comm_of call in
    let instance : ℕ = instance_of own (length (starts_of own)) C in
    none_any (one_disagrees n before call instance) (one_disagrees n (before ++ x ∷ []) call instance) (world n 0) (λ m was_none. elim (test_cases (x.rank == m)) [
      | inl t ↦
          let same : x.rank ≡ m = eqb-true x.rank m t in
          let mine : view_of (before ++ x ∷ []) m ≡ view_of before m ++ (x.call, x.reply) ∷ [] = view_of-mine before x m same in
          elim (option_cases (enter_at n (view_of (before ++ x ∷ []) m) C instance)) [
            | inl some ↦
                let V : View → Type 0 = λ v. enter_at n v C instance ≡ Some some.0 in
                elim (enter_back n (view_of before m) x.call x.reply C instance some.0 (subst V mine some.1)) [
                  | inl was ↦ ap (disagrees call) some.1 ∙ (sym (ap (disagrees call) was) ∙ was_none)
                  | inr new ↦
                      let M : ℕ → Type 0 = λ r. count_on C (starts_of (view_of before r)) ≡ count_on C (starts_of own) in
                      let at : M m = sym new.at ∙ next_instance own C in
                      let yes : agree call x.call ≡ true = agrees new.start new.on (subst M (sym same) at) in
                      let called : agree call some.0.call ≡ true = ap (agree call) new.call_is ∙ yes in
                      ap (disagrees call) some.1 ∙ ap not called
                ]
            | inr none ↦ ap (disagrees call) none
          ]
      | inr f ↦ ap (λ (v : View). disagrees call (enter_at n v C instance)) (view_of-other before x m f) ∙ was_none
    ]) h

pub agreed_stopped : (n : ℕ) (before : List Event) (x : Event) (halt : Halt) (own : View) (call : Call) → x.reply ≡ Stopped halt → is_mismatched n before own call ≡ false
    → is_mismatched n (before ++ x ∷ []) own call ≡ false
agreed_stopped n before x halt own call stopped h =
    agreed_more n before x own call h (λ starts on same. (
    let idle : is_start (x.call, x.reply) ≡ false = ap (λ r. is_start (x.call, r)) stopped ∙ and_right (is_starting x.call) false refl in
    let no : true ≡ false = sym starts ∙ idle in
    absurd (cc)))

-- 3. behind a halt

pub agreed_tail : (next : Next) (n : ℕ) (halt : Halt) (own : View) (call : Call) (before events : List Event) → Along (IsPromptEvent next n) before events → halted before ≡ Some halt
    → is_mismatched n before own call ≡ false → is_mismatched n (before ++ events) own call ≡ false
agreed_tail next n halt own call before [] steps h agreed = ap (λ l. is_mismatched n l own call) (append-nil before) ∙ agreed
agreed_tail next n halt own call before (x ∷ events) steps h agreed =
    let stopped = stopped_again next n before x halt h steps.0 in
    ap (λ l. is_mismatched n l own call) (sym (append_assoc before (x ∷ []) events))
    ∙ agreed_tail next n halt own call (before ++ x ∷ []) events steps.1 (halted_on before x halt h) (agreed_stopped n before x halt own call stopped agreed)

-- 4. an Enter that was made, and the next one

on_enter : (comm : ℕ) (call : Call) → is_on comm call ≡ true → is_enter call ≡ true
on_enter comm (Enter c kind root op count ints) h = refl
on_enter comm call h = absurd (cc)

-- where the call was made, another rank's next call is not mismatched; so the call is not where that one is made first
pub agreed_next : (next : Next) (n : ℕ) (races : Races) (before after now : List Event) (me : ℕ) (call : Call) (q x : Event) → IsFirst next n races before me call q
    → is_enter call ≡ true → (is_enter x.call ≡ true → is_mismatched n (before ++ q ∷ after) (view_of now x.rank) x.call ≡ false)
    → is_mismatched n now (view_of before me) call ≡ false → is_mismatched n (now ++ x ∷ []) (view_of before me) call ≡ false
agreed_next next n races before after now me call q x first enters mismatched h =
    let own : q.rank ≡ me = ap (λ (e : Event). e.rank) (sym first.event) in
    let called : q.call ≡ call = ap (λ (e : Event). e.call) (sym first.event) in
    let S : Event → Type 0 = λ e. is_start (e.call, e.reply) ≡ true in
    let starts : S q = subst S first.event (enter_event n before me call enters (nothing_due next n races before me call q first)).starts in
    agreed_more n now x (view_of before me) call h (λ starts_x on same. (
    let B : ℕ → Type 0 = λ r. r < n in
    let E : Call → Type 0 = λ c. is_enter c ≡ true in
    let O : Call → Type 0 = λ c. is_on (comm_of c) x.call ≡ true in
    let K : Call → Type 0 = λ c. count_on (comm_of c) (starts_of (view_of before me)) ≡ count_on (comm_of c) (starts_of (view_of now x.rank)) in
    let R : ℕ → Type 0 = λ r. count_on (comm_of q.call) (starts_of (view_of before r)) ≡ count_on (comm_of q.call) (starts_of (view_of now x.rank)) in
    ap (λ c. agree c x.call) (sym called)
    ∙ agree_next n before after q (view_of now x.rank) x.call (mismatched (on_enter (comm_of call) x.call on)) (subst B (sym own) first.below) starts (subst E (sym called) enters)
    (subst O (sym called) on) (subst R (sym own) (subst K (sym called) (sym same)))))
