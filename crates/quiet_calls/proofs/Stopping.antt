-- Behind a halt each rank is stopped: with a quiet call before the halt its rank is stopped at its next call, or has ended.
use Rattle.std.proofs.Common.{◌≡◌, ◌<◌, ◌≤◌, ◌∙◌, ◌++◌, ◌==◌, ◌∷◌, if◌then◌else◌, ℕ, List, [], Option, Some, None, true, false, append-nil, append_assoc, inl, inr, is_some, length, refl, ap, sym, subst, arith}
use Rattle.std.proofs.lemmas.Bool.{and_right, eq-eqb, eqb-true, false_from_ne_true, or_cases, or_left, or_right}
use Rattle.std.specs.List.{list_any}
use Rattle.mpi_call.specs.declared.call.Call.{Call}
use Rattle.mpi_call.specs.declared.call.Halt.{Halt}
use Rattle.mpi_call.specs.declared.call.Halt.TheVariants.{Limit}
use Rattle.mpi_call.specs.declared.reply.Reply.{Reply}
use Rattle.mpi_call.specs.declared.reply.Reply.TheVariants.{NotYet, Stopped}
use Rattle.mpi_call.specs.Calls.{is_starting}
use Rattle.run_model.specs.declared.event.Event.{Event}
use Rattle.run_model.specs.Allowed.{IsAllowedBy, IsStuck, can_go, is_prompt}
use Rattle.run_model.specs.Chosen.{halt_or}
use Rattle.run_model.specs.Due.{due, halt_at, halted, is_full, or_else}
use Rattle.run_model.specs.Lists.{Along}
use Rattle.run_model.specs.Pairs.{IsAllMatched}
use Rattle.run_model.specs.Program.{ends}
use Rattle.run_model.specs.Run.{IsPromptEvent}
use Rattle.run_model.specs.Serial.{call_after}
use Rattle.run_model.specs.Views.{Next, View, is_start, moment_at, replies_in, view_of}
use Rattle.run_model.proofs.Prompt.{kept_prompt}
use Rattle.run_model.proofs.RunLaws.{Lawful}
use Rattle.run_model.proofs.Views.{test_cases, view_of-append, view_of-mine, view_of-other}
use Rattle.picked_runs.specs.declared.turn.Pick.TheVariants.{First}
use Rattle.picked_runs.specs.Picks.{picked_answer, picked_event, picked_mate}
use Rattle.run_states.specs.Outcomes.{IsProbeKept}
use Rattle.quiet_calls.proofs.Runs.{IsGood, matched_idle, step_on}
use Rattle.quiet_calls.proofs.Swapping.{other_way}
use Rattle.quiet_calls.proofs.Commuting.{halted_append}
use Rattle.quiet_calls.proofs.Fronting.{has_event}
use Rattle.quiet_calls.proofs.Patience.{IsPatientView}

-- 1. one rank is stopped

abbrev pub stop_event : ℕ → Call → Halt → Event
stop_event rank call halt = record { rank = rank; call = call; reply = Stopped halt; mate = None; met = [] }

pub stopped_again : (next : Next) (n : ℕ) (now : List Event) (event : Event) (halt : Halt) → halted now ≡ Some halt → IsPromptEvent next n now event → event.reply ≡ Stopped halt
stopped_again next n now event halt h step =
    let F : Option Halt → Type 0 = λ o. IsAllowedBy
    (or_else o (if is_full now then Some Limit else halt_at n now event.rank (view_of now event.rank) event.call))
    (IsStuck next n now) (moment_at n now event.rank) event.call event.reply in
    subst F h step.reply

due_again : (n : ℕ) (now : List Event) (rank : ℕ) (call : Call) (halt : Halt) → halted now ≡ Some halt → due n now rank (view_of now rank) call ≡ Some halt
due_again n now rank call halt h = ap (λ o. or_else o (if is_full now then Some Limit else halt_at n now rank (view_of now rank) call)) h

stop_is : (n : ℕ) (now : List Event) (rank : ℕ) (call : Call) (halt : Halt) → halted now ≡ Some halt → picked_event n now rank call First ≡ stop_event rank call halt
stop_is n now rank call halt h =
    let E : Reply → Event = λ r. record { rank = rank; call = call; reply = r; mate = picked_mate now rank call r First; met = [] } in
    let idle : is_start (call, Stopped halt) ≡ false = and_right (is_starting call) false refl in
    let mate : picked_mate now rank call (Stopped halt) First ≡ None = rw idle refl in
    ap (λ o. E (halt_or o (picked_answer n now rank (view_of now rank) call First))) (due_again n now rank call halt h)
    ∙ ap (λ (m : Option ℕ). record { rank = rank; call = call; reply = Stopped halt; mate = m; met = [] }) mate

pub stop_on : (next : Next) (n : ℕ) → Lawful next → (now : List Event) (rank : ℕ) (call : Call) (halt : Halt) → IsGood next n now → halted now ≡ Some halt → rank < n
    → call_after next n now rank ≡ Some call → IsGood next n (now ++ stop_event rank call halt ∷ [])
stop_on next n lawful now rank call halt good h below asked =
    let same : picked_event n now rank call First ≡ stop_event rank call halt = stop_is n now rank call halt h in
    let G : Event → Type 0 = λ e. IsGood next n (now ++ e ∷ []) in
    let M : Event → Type 0 = λ e. IsAllMatched (now ++ e ∷ []) in
    let goes : can_go n now rank (view_of now rank) call ≡ true =
    or_left (is_some (due n now rank (view_of now rank) call)) (is_prompt n now rank (view_of now rank) call) (ap is_some (due_again n now rank call halt h)) in
    let matched : IsAllMatched (now ++ stop_event rank call halt ∷ []) =
    matched_idle now (stop_event rank call halt) (and_right (is_starting call) false refl) refl refl (kept_prompt next n now lawful good.run).matched in
    subst G same (step_on next n lawful now rank call First good below asked refl (inl goes) (subst M (sym same) matched))

pub halted_on : (now : List Event) (event : Event) (halt : Halt) → halted now ≡ Some halt → halted (now ++ event ∷ []) ≡ Some halt
halted_on now event halt h = halted_append now (event ∷ []) ∙ ap (λ o. or_else o (halted (event ∷ []))) h

ends_last : (view : View) (call : Call) (halt : Halt) → list_any ends (view ++ (call, Stopped halt) ∷ []) ≡ true
ends_last [] call halt = refl
ends_last (seen ∷ view) call halt = or_right (ends seen) (list_any ends (view ++ (call, Stopped halt) ∷ [])) (ends_last view call halt)

-- and calls nothing more
pub stopped_ends : (next : Next) (n : ℕ) → Lawful next → (now : List Event) (rank : ℕ) (call : Call) (halt : Halt) → IsGood next n (now ++ stop_event rank call halt ∷ []) → rank < n
    → call_after next n (now ++ stop_event rank call halt ∷ []) rank ≡ None
stopped_ends next n lawful now rank call halt good below =
    let after : List Event = now ++ stop_event rank call halt ∷ [] in
    let seen : view_of after rank ≡ view_of now rank ++ (call, Stopped halt) ∷ [] = view_of-mine now (stop_event rank call halt) rank refl in
    let ended : list_any ends (view_of after rank) ≡ true = ap (list_any ends) seen ∙ ends_last (view_of now rank) call halt in
    (lawful.ends n rank (view_of after rank) (good.run.some, good.run.few, below) ((kept_prompt next n after lawful good.run).came rank below)).1 ended

-- 2. all ranks are stopped

-- behind other events the ranks are stopped as they were, but for one, which has another next call
pub record Finishes (next : Next) (n : ℕ) (me : ℕ) (asked : Option Call) (mid now events : List Event) : Type 0 where
  pub fin : List Event
  pub good : IsGood next n (now ++ fin)
  pub others : (rank : ℕ) → (rank == me) ≡ false → view_of (now ++ fin) rank ≡ view_of (mid ++ events) rank
  pub own : has_event me events ≡ true → call_after next n (now ++ fin) me ≡ None
  pub ended : asked ≡ None → call_after next n (now ++ fin) me ≡ None
  pub count : length fin ≤ length events
  pub probes : Along IsProbeKept now fin
  pub patient : (most rank : ℕ) (own : View) → IsPatientView most own (view_of fin rank)

nothing : (next : Next) (n : ℕ) (me : ℕ) (asked : Option Call) (mid now : List Event) → IsGood next n now
    → ((rank : ℕ) → (rank == me) ≡ false → view_of now rank ≡ view_of mid rank) → call_after next n now me ≡ asked → Finishes next n me asked mid now []
nothing next n me asked mid now good others asks =
    let end : now ≡ now ++ [] = sym (append-nil now) in
    let G : List Event → Type 0 = λ l. IsGood next n l in
    record {
      fin = [];
      good = subst G end good;
      others = λ rank apart. ap (λ l. view_of l rank) (append-nil now) ∙ (others rank apart ∙ ap (λ l. view_of l rank) (sym (append-nil mid)));
      own = λ h. absurd (cc);
      ended = λ none. ap (λ l. call_after next n l me) (append-nil now) ∙ (asks ∙ none);
      count = omega arith;
      probes = tt;
      patient = λ most rank own. tt;
    }

-- a stop in front
stop_probe : (now : List Event) (rank : ℕ) (call : Call) (halt : Halt) → IsProbeKept now (stop_event rank call halt)
stop_probe now rank call halt earlier comm source tag wait room sender start sent count seen posted done = absurd (cc)

stop_patient : (most : ℕ) (stop : Event) (fin : List Event) (halt : Halt) (rank : ℕ) (own : View) → stop.reply ≡ Stopped halt
    → ((own : View) → IsPatientView most own (view_of fin rank)) → IsPatientView most own (view_of (stop ∷ fin) rank)
stop_patient most stop fin halt rank own stopped rest =
    elim (test_cases (stop.rank == rank)) [
      | inl t ↦ rw t ((λ h. (let no : Stopped halt ≡ NotYet = sym stopped ∙ h in absurd (cc))), rest (own ++ (stop.call, stop.reply) ∷ []))
      | inr f ↦ rw f (rest own)
    ]

stop_front : (next : Next) (n : ℕ) (me : ℕ) (asked after : Option Call) (mid now events : List Event) (event : Event) (rank : ℕ) (call : Call) (halt : Halt)
    → (f : Finishes next n me after (mid ++ event ∷ []) (now ++ stop_event rank call halt ∷ []) events)
    → (has_event me (event ∷ events) ≡ true → call_after next n ((now ++ stop_event rank call halt ∷ []) ++ f.fin) me ≡ None)
    → (asked ≡ None → call_after next n ((now ++ stop_event rank call halt ∷ []) ++ f.fin) me ≡ None)
    → Finishes next n me asked mid now (event ∷ events)
stop_front next n me asked after mid now events event rank call halt f own ended =
    let stop : Event = stop_event rank call halt in
    let whole : (now ++ stop ∷ []) ++ f.fin ≡ now ++ stop ∷ f.fin = append_assoc now (stop ∷ []) f.fin in
    let before : (mid ++ event ∷ []) ++ events ≡ mid ++ event ∷ events = append_assoc mid (event ∷ []) events in
    let G : List Event → Type 0 = λ l. IsGood next n l in
    let C : List Event → Type 0 = λ l. call_after next n l me ≡ None in
    let count : length f.fin ≤ length events = f.count in
    record {
      fin = stop ∷ f.fin;
      good = subst G whole f.good;
      others = λ other apart. ap (λ l. view_of l other) (sym whole) ∙ (f.others other apart ∙ ap (λ l. view_of l other) before);
      own = λ h. subst C whole (own h);
      ended = λ h. subst C whole (ended h);
      count = omega (arith, count);
      probes = (stop_probe now rank call halt, f.probes);
      patient = λ most other view. stop_patient most stop f.fin halt other view refl (f.patient most other);
    }

-- an event of the rank that has ended already
skip_front : (next : Next) (n : ℕ) (me : ℕ) (mid now events : List Event) (event : Event) → Finishes next n me None (mid ++ event ∷ []) now events
    → Finishes next n me None mid now (event ∷ events)
skip_front next n me mid now events event f =
    let before : (mid ++ event ∷ []) ++ events ≡ mid ++ event ∷ events = append_assoc mid (event ∷ []) events in
    let count : length f.fin ≤ length events = f.count in
    record {
      fin = f.fin;
      good = f.good;
      others = λ other apart. f.others other apart ∙ ap (λ l. view_of l other) before;
      own = λ h. f.ended refl;
      ended = f.ended;
      count = omega (arith, count);
      probes = f.probes;
      patient = f.patient;
    }

both_views : (mid now : List Event) (event : Event) (halt : Halt) (rank : ℕ) → event.reply ≡ Stopped halt → view_of now rank ≡ view_of mid rank
    → view_of (now ++ stop_event event.rank event.call halt ∷ []) rank ≡ view_of (mid ++ event ∷ []) rank
both_views mid now event halt rank stopped same =
    let last : Reply → View = λ r. (if event.rank == rank then (event.call, r) ∷ [] else []) in
    view_of-append now (stop_event event.rank event.call halt ∷ []) rank
    ∙ (ap (λ v. v ++ last (Stopped halt)) same
    ∙ (ap (λ r. view_of mid rank ++ last r) (sym stopped) ∙ sym (view_of-append mid (event ∷ []) rank)))

stop_others : (me : ℕ) (mid now : List Event) (event : Event) → (event.rank == me) ≡ true → ((rank : ℕ) → (rank == me) ≡ false → view_of now rank ≡ view_of mid rank)
    → (rank : ℕ) → (rank == me) ≡ false → view_of now rank ≡ view_of (mid ++ event ∷ []) rank
stop_others me mid now event own others rank apart =
    let beside : (event.rank == rank) ≡ false =
    false_from_ne_true (event.rank == rank) (λ t.
    let same : rank ≡ me = sym (eqb-true event.rank rank t) ∙ eqb-true event.rank me own in
    let no : true ≡ false = sym (eq-eqb rank me same) ∙ apart in
    cc) in
    others rank apart ∙ sym (view_of-other mid event rank beside)

more_others : (me : ℕ) (mid now : List Event) (event : Event) (halt : Halt) → event.reply ≡ Stopped halt → ((rank : ℕ) → (rank == me) ≡ false → view_of now rank ≡ view_of mid rank)
    → (rank : ℕ) → (rank == me) ≡ false → view_of (now ++ stop_event event.rank event.call halt ∷ []) rank ≡ view_of (mid ++ event ∷ []) rank
more_others me mid now event halt stopped others rank apart = both_views mid now event halt rank stopped (others rank apart)

own_others : (me : ℕ) (mid now : List Event) (event : Event) (call : Call) (halt : Halt) → (event.rank == me) ≡ true
    → ((rank : ℕ) → (rank == me) ≡ false → view_of now rank ≡ view_of mid rank)
    → (rank : ℕ) → (rank == me) ≡ false → view_of (now ++ stop_event me call halt ∷ []) rank ≡ view_of (mid ++ event ∷ []) rank
own_others me mid now event call halt own others rank apart =
    view_of-other now (stop_event me call halt) rank (other_way rank me apart) ∙ stop_others me mid now event own others rank apart

-- another rank's event, and what comes behind it
finish_other : (next : Next) (n : ℕ) → Lawful next → (me : ℕ) (halt : Halt) (asked : Option Call) (mid now : List Event) (event : Event) (events : List Event)
    → IsPromptEvent next n mid event → (event.rank == me) ≡ false → event.reply ≡ Stopped halt → IsGood next n now → halted now ≡ Some halt
    → ((rank : ℕ) → (rank == me) ≡ false → view_of now rank ≡ view_of mid rank) → call_after next n now me ≡ asked
    → (IsGood next n (now ++ stop_event event.rank event.call halt ∷ []) → halted (now ++ stop_event event.rank event.call halt ∷ []) ≡ Some halt
    → ((rank : ℕ) → (rank == me) ≡ false → view_of (now ++ stop_event event.rank event.call halt ∷ []) rank ≡ view_of (mid ++ event ∷ []) rank)
    → call_after next n (now ++ stop_event event.rank event.call halt ∷ []) me ≡ asked
    → Finishes next n me asked (mid ++ event ∷ []) (now ++ stop_event event.rank event.call halt ∷ []) events)
    → Finishes next n me asked mid now (event ∷ events)
finish_other next n lawful me halt asked mid now event events step apart stopped good h others asks rest =
    let stop : Event = stop_event event.rank event.call halt in
    let called : call_after next n now event.rank ≡ Some event.call = ap (λ (v : View). next n event.rank (replies_in v)) (others event.rank apart) ∙ step.call in
    let f = rest (stop_on next n lawful now event.rank event.call halt good h step.rank called) (halted_on now stop halt h)
    (more_others me mid now event halt stopped others)
    (ap (λ (v : View). next n me (replies_in v)) (view_of-other now stop me apart) ∙ asks) in
    stop_front next n me asked asked mid now events event event.rank event.call halt f
    (λ there. f.own (elim (or_cases (event.rank == me) (has_event me events) there) [
      | inl t ↦ (let no : true ≡ false = sym t ∙ apart in absurd (cc))
      | inr later ↦ later
    ])) f.ended

pub finishes : (next : Next) (n : ℕ) → Lawful next → (me : ℕ) (halt : Halt) (asked : Option Call) (mid now events : List Event) → Along (IsPromptEvent next n) mid events
    → halted mid ≡ Some halt → IsGood next n now → halted now ≡ Some halt → ((rank : ℕ) → (rank == me) ≡ false → view_of now rank ≡ view_of mid rank)
    → call_after next n now me ≡ asked → Finishes next n me asked mid now events
finishes next n lawful me halt asked mid now [] steps h good h' others asks = nothing next n me asked mid now good others asks
finishes next n lawful me halt None mid now (event ∷ events) steps h good h' others asks =
    let stopped : event.reply ≡ Stopped halt = stopped_again next n mid event halt h steps.0 in
    elim (test_cases (event.rank == me)) [
      | inl t ↦
          skip_front next n me mid now events event
          (finishes next n lawful me halt None (mid ++ event ∷ []) now events steps.1 (halted_on mid event halt h) good h' (stop_others me mid now event t others) asks)
      | inr f ↦ finish_other next n lawful me halt None mid now event events steps.0 f stopped good h' others asks
          (λ more h'' others' asks'. finishes next n lawful me halt None (mid ++ event ∷ []) (now ++ stop_event event.rank event.call halt ∷ []) events steps.1 (halted_on mid event halt h) more h'' others' asks')
    ]
finishes next n lawful me halt (Some call) mid now (event ∷ events) steps h good h' others asks =
    let stopped : event.reply ≡ Stopped halt = stopped_again next n mid event halt h steps.0 in
    elim (test_cases (event.rank == me)) [
      | inl t ↦
          let F : ℕ → Type 0 = λ r. r < n in
          let below : me < n = subst F (eqb-true event.rank me t) steps.0.rank in
          let more : IsGood next n (now ++ stop_event me call halt ∷ []) = stop_on next n lawful now me call halt good h' below asks in
          let f = finishes next n lawful me halt None (mid ++ event ∷ []) (now ++ stop_event me call halt ∷ []) events steps.1 (halted_on mid event halt h) more
          (halted_on now (stop_event me call halt) halt h') (own_others me mid now event call halt t others) (stopped_ends next n lawful now me call halt more below) in
          stop_front next n me (Some call) None mid now events event me call halt f (λ there. f.ended refl) (λ no. absurd (cc))
      | inr f ↦ finish_other next n lawful me halt (Some call) mid now event events steps.0 f stopped good h' others asks
          (λ more h'' others' asks'. finishes next n lawful me halt (Some call) (mid ++ event ∷ []) (now ++ stop_event event.rank event.call halt ∷ []) events steps.1 (halted_on mid event halt h) more h'' others' asks')
    ]
