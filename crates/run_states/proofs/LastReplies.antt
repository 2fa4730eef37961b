-- Behind its first halt a run has nothing but that halt: each rank that is live gets it to its next call.
use Rattle.std.proofs.Common.{◌≡◌, ◌<◌, ◌==◌, ◌∙◌, ◌++◌, ◌∷◌, ◌⊎◌, if◌then◌else◌, ℕ, List, [], Option, Some, None, true, append_assoc, append-nil, inl, inr, refl, ap, sym, subst}
use Rattle.std.proofs.lemmas.Bool.{eqb-true, or_right}
use Rattle.std.specs.List.{list_any}
use Rattle.mpi_call.specs.declared.call.Call.{Call}
use Rattle.mpi_call.specs.declared.call.Halt.{Halt}
use Rattle.mpi_call.specs.declared.call.Halt.TheVariants.{Limit}
use Rattle.mpi_call.specs.declared.reply.Reply.{Reply}
use Rattle.mpi_call.specs.declared.reply.Reply.TheVariants.{Stopped}
use Rattle.run_model.specs.declared.event.Event.{Event}
use Rattle.run_model.specs.Allowed.{IsAllowedBy, IsStuck}
use Rattle.run_model.specs.Due.{halt_at, halt_of_reply, halted, is_full, or_else}
use Rattle.run_model.specs.Lists.{Along}
use Rattle.run_model.specs.Program.{ends}
use Rattle.run_model.specs.Run.{IsPromptEvent, IsPromptRun}
use Rattle.run_model.specs.Serial.{call_after}
use Rattle.run_model.specs.Views.{Next, View, moment_at, replies_in, view_of}
use Rattle.run_model.proofs.Along.{Along-snoc}
use Rattle.run_model.proofs.Prompt.{kept_prompt}
use Rattle.run_model.proofs.RunLaws.{Lawful}
use Rattle.run_model.proofs.Views.{option_cases, test_cases, view_of-mine, view_of-other}
use Rattle.run_states.specs.Outcomes.{last_replies, replies_and}
use Rattle.run_states.proofs.HaltsSeen.{halted-append}

-- 1. the first halt of a history

pub record HasFirstHalt (events : List Event) (halt : Halt) : Type 0 where
  pub before : List Event
  pub event : Event
  pub after : List Event
  pub whole : events ≡ before ++ event ∷ after
  pub none : halted before ≡ None
  pub here : halt_of_reply event.reply ≡ Some halt

pub first_halt : (events : List Event) (halt : Halt) → halted events ≡ Some halt → HasFirstHalt events halt
first_halt [] halt h = absurd (cc)
first_halt (event ∷ events) halt h =
    elim (option_cases (halt_of_reply event.reply)) [
      | inl some ↦
          let same : Some some.0 ≡ Some halt = rw some.1 at h in
          record { before = []; event = event; after = events; whole = refl; none = refl; here = some.1 ∙ same }
      | inr none ↦
          let f = first_halt events halt (rw none at h) in
          record { before = event ∷ f.before; event = f.event; after = f.after; whole = ap (λ l. event ∷ l) f.whole; none = rw none f.none; here = f.here }
    ]

pub stopped_by : (reply : Reply) (halt : Halt) → halt_of_reply reply ≡ Some halt → reply ≡ Stopped halt
stopped_by (Stopped other) halt h = (let same : other ≡ halt = cc in ap (λ x. Stopped x) same)
stopped_by reply halt h = absurd (cc)

-- 2. behind it

ends_last : (view : View) (call : Call) (halt : Halt) → list_any ends (view ++ (call, Stopped halt) ∷ []) ≡ true
ends_last [] call halt = refl
ends_last (seen ∷ view) call halt = or_right (ends seen) (list_any ends (view ++ (call, Stopped halt) ∷ [])) (ends_last view call halt)

-- a rank has seen nothing more, or the halt to its next call
abbrev HasLast : Next → ℕ → List Event → List Event → Halt → ℕ → Type 0
HasLast next n base now halt rank =
    (view_of now rank ≡ view_of base rank)
    ⊎ ((call : Call) × (call_after next n base rank ≡ Some call) × (view_of now rank ≡ view_of base rank ++ (call, Stopped halt) ∷ []))

abbrev HaveLast : Next → ℕ → List Event → List Event → Halt → Type 0
HaveLast next n base now halt = (rank : ℕ) → rank < n → HasLast next n base now halt rank

stopped_again : (next : Next) (n : ℕ) (now : List Event) (event : Event) (halt : Halt) → halted now ≡ Some halt → IsPromptEvent next n now event → event.reply ≡ Stopped halt
stopped_again next n now event halt h step =
    let F : Option Halt → Type 0 = λ o. IsAllowedBy
    (or_else o (if is_full now then Some Limit else halt_at n now event.rank (view_of now event.rank) event.call))
    (IsStuck next n now) (moment_at n now event.rank) event.call event.reply in
    subst F h step.reply

last_own : (next : Next) (n : ℕ) (base now : List Event) (event : Event) (halt : Halt) → Lawful next → IsPromptRun next n now → IsPromptEvent next n now event
    → event.reply ≡ Stopped halt → HasLast next n base now halt event.rank → HasLast next n base (now ++ event ∷ []) halt event.rank
last_own next n base now event halt lawful run step stopped last =
    let rank : ℕ = event.rank in
    elim last [
      | inl same ↦
          let asked : call_after next n base rank ≡ Some event.call = ap (λ (v : View). next n rank (replies_in v)) (sym same) ∙ step.call in
          let seen : Reply → View → View = λ r v. v ++ (event.call, r) ∷ [] in
          inr (event.call, asked, view_of-mine now event rank refl ∙ (ap (λ r. seen r (view_of now rank)) stopped ∙ ap (seen (Stopped halt)) same))
      | inr was ↦
          let kept = kept_prompt next n now lawful run in
          let ended : list_any ends (view_of now rank) ≡ true = ap (list_any ends) was.2 ∙ ends_last (view_of base rank) was.0 halt in
          let none : next n rank (replies_in (view_of now rank)) ≡ None = (lawful.ends n rank (view_of now rank) (run.some, run.few, step.rank) (kept.came rank step.rank)).1 ended in
          let no : None ≡ Some event.call = sym none ∙ step.call in
          absurd (cc)
    ]

last_more : (next : Next) (n : ℕ) (base now : List Event) (event : Event) (halt : Halt) → Lawful next → IsPromptRun next n now → IsPromptEvent next n now event
    → event.reply ≡ Stopped halt → HaveLast next n base now halt → HaveLast next n base (now ++ event ∷ []) halt
last_more next n base now event halt lawful run step stopped all rank below =
    elim (test_cases (event.rank == rank)) [
      | inl t ↦
          let F : ℕ → Type 0 = λ r. HasLast next n base (now ++ event ∷ []) halt r in
          subst F (eqb-true event.rank rank t) (last_own next n base now event halt lawful run step stopped (all event.rank step.rank))
      | inr f ↦
          let same : view_of (now ++ event ∷ []) rank ≡ view_of now rank = view_of-other now event rank f in
          elim (all rank below) [
            | inl was ↦ inl (same ∙ was)
            | inr was ↦ inr (was.0, was.1, same ∙ was.2)
          ]
    ]

last_along : (next : Next) (n : ℕ) (base now events : List Event) (halt : Halt) → Lawful next → IsPromptRun next n now → halted now ≡ Some halt
    → Along (IsPromptEvent next n) now events → HaveLast next n base now halt → HaveLast next n base (now ++ events) halt
last_along next n base now [] halt lawful run h steps all = rw append-nil all
last_along next n base now (event ∷ events) halt lawful run h steps all =
    let longer : List Event = now ++ event ∷ [] in
    let more : IsPromptRun next n longer = record { some = run.some; few = run.few; along = Along-snoc (IsPromptEvent next n) [] now event run.along steps.0 } in
    let stopped = stopped_again next n now event halt h steps.0 in
    let still : halted longer ≡ Some halt = halted-append now (event ∷ []) ∙ ap (λ o. or_else o (halted (event ∷ []))) h in
    let rest = last_along next n base longer events halt lawful more still steps.1 (last_more next n base now event halt lawful run steps.0 stopped all) in
    let F : List Event → Type 0 = λ l. HaveLast next n base l halt in
    subst F (append_assoc now (event ∷ []) events) rest

-- 3. so the replies of a run that has ended are those before, and the halt

replies_more : (view : View) (call : Call) (reply : Reply) → replies_in (view ++ (call, reply) ∷ []) ≡ replies_in view ++ reply ∷ []
replies_more [] call reply = refl
replies_more (seen ∷ view) call reply = ap (λ l. seen.1 ∷ l) (replies_more view call reply)

pub last_is : (next : Next) (n : ℕ) (before after : List Event) (event : Event) (halt : Halt) → Lawful next → IsPromptRun next n before → halted before ≡ None
    → Along (IsPromptEvent next n) before (event ∷ after) → halt_of_reply event.reply ≡ Some halt
    → ((rank : ℕ) → rank < n → call_after next n (before ++ event ∷ after) rank ≡ None)
    → (rank : ℕ) → rank < n → replies_in (view_of (before ++ event ∷ after) rank) ≡ last_replies next n before halt rank
last_is next n before after event halt lawful run none steps here ended rank below =
    let longer : List Event = before ++ event ∷ [] in
    let more : IsPromptRun next n longer = record { some = run.some; few = run.few; along = Along-snoc (IsPromptEvent next n) [] before event run.along steps.0 } in
    let stopped : event.reply ≡ Stopped halt = stopped_by event.reply halt here in
    let now : halted longer ≡ Some halt = halted-append before (event ∷ []) ∙ (ap (λ o. or_else o (halted (event ∷ []))) none ∙ ap (λ o. or_else o None) here) in
    let first : HaveLast next n before longer halt = last_more next n before before event halt lawful run steps.0 stopped (λ r low. inl refl) in
    let all = last_along next n before longer after halt lawful more now steps.1 first in
    let F : List Event → Type 0 = λ l. HaveLast next n before l halt in
    let last : HasLast next n before (before ++ event ∷ after) halt rank = subst F (append_assoc before (event ∷ []) after) all rank below in
    let replies : List Reply = replies_in (view_of before rank) in
    elim last [
      | inl same ↦
          let idle : call_after next n before rank ≡ None = ap (λ (v : View). next n rank (replies_in v)) (sym same) ∙ ended rank below in
          ap replies_in same ∙ sym (ap (replies_and replies halt) idle)
      | inr was ↦ ap replies_in was.2 ∙ (replies_more (view_of before rank) was.0 (Stopped halt) ∙ sym (ap (replies_and replies halt) was.1))
    ]
