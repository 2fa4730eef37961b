-- An Enter and an event of another rank, in either order.
use Rattle.std.proofs.Common.{◌≡◌, ◌<◌, ◌∙◌, ◌++◌, ◌==◌, ◌&&◌, ◌||◌, ◌∷◌, if◌then◌else◌, ℕ, ℤ, List, [], Option, Some, None, Result, Bool, true, false, append-nil, append_assoc, inl, inr, is_some, length, not, refl, ap, sym, subst}
use Rattle.std.proofs.Math.Path.{fun_ext}
use Rattle.std.proofs.lemmas.Bool.{and_from, eqb-true, or_left, or_right}
use Rattle.mpi_call.specs.declared.call.Call.{Call}
use Rattle.mpi_call.specs.declared.call.Call.TheVariants.{Send, Post, Enter, Take, Peek, Abort, Trap, End}
use Rattle.mpi_call.specs.declared.call.Halt.{Halt}
use Rattle.mpi_call.specs.declared.call.Halt.TheVariants.{Mismatched}
use Rattle.mpi_call.specs.declared.call.Source.{Source}
use Rattle.mpi_call.specs.declared.call.Tag.{Tag}
use Rattle.mpi_call.specs.declared.call.TakeMode.TheVariants.{All}
use Rattle.mpi_call.specs.declared.reply.Reply.{Reply}
use Rattle.mpi_call.specs.declared.reply.Reply.TheVariants.{Done}
use Rattle.mpi_call.specs.Calls.{comm_of, is_enter, is_starting, listed_by, makes}
use Rattle.mpi_call.specs.Collectives.{agree}
use Rattle.mpi_call.proofs.NeedsLemmas.{agree-sym}
use Rattle.run_model.specs.declared.event.Event.{Event}
use Rattle.run_model.specs.Allowed.{IsStuck, can_go, flags_of, has_open, is_prompt}
use Rattle.run_model.specs.Choice.{choice}
use Rattle.run_model.specs.Chosen.{halt_or, peek_reply}
use Rattle.run_model.specs.Communicators.{Entered, count_on, enter_at, instance_of, is_on, members_for_rank}
use Rattle.run_model.specs.Due.{disagrees, due, halt_at, halt_of_reply, halted, is_full, is_mismatched, or_else}
use Rattle.run_model.specs.Inputs.{gather}
use Rattle.run_model.specs.Lists.{world}
use Rattle.run_model.specs.Numbers.{Origin, communicators_of, made_at, origins_from}
use Rattle.run_model.specs.Pairs.{IsAllMatched, Name, pair_of, pairs_of, partner_of}
use Rattle.run_model.specs.Run.{IsPromptEvent}
use Rattle.run_model.specs.Serial.{call_after}
use Rattle.run_model.specs.Views.{Next, View, is_start, moment_at, replies_in, starts_of, view_of}
use Rattle.run_model.proofs.Enters.{enter_back}
use Rattle.run_model.proofs.Instances.{on_own}
use Rattle.run_model.proofs.Numbered.{AllMade, communicators_of-push}
use Rattle.run_model.proofs.Prefixes.{Begins-more}
use Rattle.run_model.proofs.StartLemmas.{enter_at-kept}
use Rattle.run_model.proofs.Prompt.{kept_prompt}
use Rattle.run_model.proofs.RunLaws.{Lawful}
use Rattle.run_model.proofs.Views.{option_cases, test_cases, view_of-mine, view_of-other}
use Rattle.picked_runs.specs.declared.turn.Pick.{Pick}
use Rattle.picked_runs.specs.declared.turn.Pick.TheVariants.{First, Sender, Index}
use Rattle.picked_runs.specs.Made.{pick_of}
use Rattle.picked_runs.specs.Numbering.{IsNumberedInOrder}
use Rattle.picked_runs.specs.Picked.{IsPickedEvent}
use Rattle.picked_runs.specs.Picks.{completes_one, has_pick, is_ready_at, looking, looks, picked_answer, picked_event, picked_mate, picked_reply}
use Rattle.picked_runs.proofs.Grown.{pairs_of-push}
use Rattle.picked_runs.proofs.Making.{event_picked}
use Rattle.run_states.specs.Futures.{SameFuture, mate_name}
use Rattle.quiet_calls.specs.Quiet.{is_partial}
use Rattle.quiet_calls.proofs.Unseen.{due_by, peeked_stays}
use Rattle.quiet_calls.proofs.Staying.{all_on, free_due, free_parts, reply_answer}
use Rattle.quiet_calls.proofs.Going.{allowed_goes}
use Rattle.quiet_calls.proofs.Runs.{IsGood, made_in, step_on}
use Rattle.quiet_calls.proofs.Swapping.{mate_stays, other_way, pair_beside, views_swapped}
use Rattle.quiet_calls.proofs.Commuting.{halted_more, or_else-last}
use Rattle.quiet_calls.proofs.Meeting.{TakesNone, choice_behind}
use Rattle.quiet_calls.proofs.Matching.{matched_chosen}
use Rattle.quiet_calls.proofs.Crossing.{made_none, made_off, pair_none}
use Rattle.quiet_calls.proofs.NamedFirst.{open_by}
use Rattle.quiet_calls.proofs.Calm.{all_true}
use Rattle.quiet_calls.proofs.Entering.{agree_makes, agrees_in, enter_makes, enter_choice, mismatched_front, next_instance, none_any, one_disagrees, suits_enter}

-- 1. the call

pub record IsEnterAsked (next : Next) (n : ℕ) (before : List Event) (me : ℕ) (call : Call) : Type 0 where
  pub below : me < n
  pub asked : call_after next n before me ≡ Some call
  pub enters : is_enter call ≡ true
  pub plain : makes call ≡ false
  pub none : due n before me (view_of before me) call ≡ None

enter_answer : (n : ℕ) (before : List Event) (me : ℕ) (own : View) (call : Call) → is_enter call ≡ true → picked_answer n before me own call First ≡ Done
enter_answer n before me own (Enter comm kind root op count ints) h = refl
enter_answer n before me own call h = absurd (cc)

enter_prompt : (n : ℕ) (before : List Event) (me : ℕ) (own : View) (call : Call) → is_enter call ≡ true → is_prompt n before me own call ≡ true
enter_prompt n before me own (Enter comm kind root op count ints) h = refl
enter_prompt n before me own call h = absurd (cc)

enter_starts : (call : Call) → is_enter call ≡ true → is_starting call ≡ true
enter_starts (Enter comm kind root op count ints) h = refl
enter_starts call h = absurd (cc)

pub enter_goes : (next : Next) (n : ℕ) (before : List Event) (me : ℕ) (call : Call) → IsEnterAsked next n before me call → can_go n before me (view_of before me) call ≡ true
enter_goes next n before me call is =
    or_right (is_some (due n before me (view_of before me) call)) (is_prompt n before me (view_of before me) call) (enter_prompt n before me (view_of before me) call is.enters)

pub enter_unstuck : (next : Next) (n : ℕ) (before : List Event) (me : ℕ) (call : Call) → IsEnterAsked next n before me call → IsStuck next n before → ⊥
enter_unstuck next n before me call is stuck =
    let no : true ≡ false = sym (enter_goes next n before me call is) ∙ stuck me call is.below is.asked in
    cc

pub record IsEnterEvent (before : List Event) (me : ℕ) (call : Call) (q : Event) : Type 0 where
  pub reply : q.reply ≡ Done
  pub starts : is_start (q.call, q.reply) ≡ true
  pub mate : q.mate ≡ None

pub enter_event : (n : ℕ) (before : List Event) (me : ℕ) (call : Call) → is_enter call ≡ true → due n before me (view_of before me) call ≡ None
    → IsEnterEvent before me call (picked_event n before me call First)
enter_event n before me call enters none =
    let reply : picked_reply n before me call First ≡ Done = reply_answer n before me call First none ∙ enter_answer n before me (view_of before me) call enters in
    let starts : is_start (call, picked_reply n before me call First) ≡ true =
    ap (λ r. is_start (call, r)) reply ∙ and_from (is_starting call) true (enter_starts call enters) refl in
    let mate : picked_mate before me call (picked_reply n before me call First) First ≡ choice before me call = rw starts refl in
    record { reply = reply; starts = starts; mate = mate ∙ enter_choice before me call enters }

pub enter_first_run : (next : Next) (n : ℕ) → Lawful next → (before : List Event) (me : ℕ) (call : Call) → IsGood next n before → IsEnterAsked next n before me call
    → IsGood next n (before ++ picked_event n before me call First ∷ [])
enter_first_run next n lawful before me call good is =
    let e = enter_event n before me call is.enters is.none in
    step_on next n lawful before me call First good is.below is.asked refl (inl (enter_goes next n before me call is))
    (matched_chosen before (picked_event n before me call First) (kept_prompt next n before lawful good.run).matched e.starts (e.mate ∙ sym (enter_choice before me call is.enters)) refl)

-- 2. what is open to others

takes_nothing : (before : List Event) (q : Event) (p : ℕ) (d : Call) → q.mate ≡ None → TakesNone before q p d
takes_nothing before q p d alone name start h made suited = (let no : None ≡ Some name = sym (ap (mate_name before) alone) ∙ h in cc)

pub enter_choices : (before : List Event) (q : Event) → IsAllMatched before → is_enter q.call ≡ true → q.mate ≡ None → q.met ≡ [] → (p : ℕ) (d : Call) → choice (before ++ q ∷ []) p d ≡ choice before p d
enter_choices before q matched enters alone none_met p d =
    elim (choice_behind before q p d matched none_met (takes_nothing before q p d alone)) [
      | inl same ↦ same
      | inr new ↦ (let no : true ≡ false = sym new.suited ∙ suits_enter p d q.rank q.call enters in absurd (cc))
    ]

-- 3. the halt that is due

pub record IsEnterWith (next : Next) (n : ℕ) (before : List Event) (me : ℕ) (call : Call) (x : Event) (after : List Event) : Type 0 where
  pub good : IsGood next n before
  pub is : IsEnterAsked next n before me call
  pub step : IsPromptEvent next n before x
  pub ordered : IsNumberedInOrder n before x
  pub apart : (x.rank == me) ≡ false
  pub whole : is_partial x.call ≡ false
  pub agrees : is_mismatched n (before ++ x ∷ after) (view_of before me) call ≡ false
  pub full : is_full (before ++ picked_event n before me call First ∷ []) ≡ false

on_comm : (comm : ℕ) (call : Call) → is_on comm call ≡ true → comm_of call ≡ comm
on_comm comm (Enter c kind root op count ints) h = eqb-true c comm h
on_comm comm call h = absurd (cc)

-- an Enter of another rank that was answered is none that the call would disagree with
pub agree_next : (n : ℕ) (before after : List Event) (x : Event) (own : View) (call : Call) → is_mismatched n (before ++ x ∷ after) own call ≡ false → x.rank < n → is_start (x.call, x.reply) ≡ true
    → is_enter x.call ≡ true → is_on (comm_of x.call) call ≡ true → count_on (comm_of x.call) (starts_of (view_of before x.rank)) ≡ count_on (comm_of x.call) (starts_of own)
    → agree x.call call ≡ true
agree_next n before after x own call calm below starts enters on same =
    let comm : comm_of call ≡ comm_of x.call = on_comm (comm_of x.call) call on in
    let F : ℕ → Type 0 = λ c. is_on c x.call ≡ true in
    let G : ℕ → Type 0 = λ c. count_on c (starts_of (view_of before x.rank)) ≡ count_on c (starts_of own) in
    agree-sym x.call call ∙ agrees_in n before after x own call calm below starts (subst F (sym comm) (on_own x.call enters)) (subst G (sym comm) same)

disagrees_back : (next : Next) (n : ℕ) (before : List Event) (me : ℕ) (call : Call) (x : Event) (after : List Event) → IsEnterWith next n before me call x after → is_enter x.call ≡ true
    → is_start (x.call, x.reply) ≡ true → (instance : ℕ) → instance ≡ count_on (comm_of x.call) (starts_of (view_of before x.rank)) → (m : ℕ)
    → one_disagrees n before x.call instance m ≡ false → one_disagrees n (before ++ picked_event n before me call First ∷ []) x.call instance m ≡ false
disagrees_back next n before me call x after i enters starts instance at m h =
    let q : Event = picked_event n before me call First in
    let C : ℕ = comm_of x.call in
    elim (test_cases (me == m)) [
      | inl t ↦
          let mine : view_of (before ++ q ∷ []) m ≡ view_of before m ++ (q.call, q.reply) ∷ [] = view_of-mine before q m (eqb-true me m t) in
          elim (option_cases (enter_at n (view_of (before ++ q ∷ []) m) C instance)) [
            | inl some ↦
                let V : View → Type 0 = λ v. enter_at n v C instance ≡ Some some.0 in
                elim (enter_back n (view_of before m) q.call q.reply C instance some.0 (subst V mine some.1)) [
                  | inl was ↦ ap (disagrees x.call) some.1 ∙ (sym (ap (disagrees x.call) was) ∙ h)
                  | inr new ↦
                      let M : ℕ → Type 0 = λ r. count_on C (starts_of (view_of before x.rank)) ≡ count_on C (starts_of (view_of before r)) in
                      let same : M me = subst M (sym (eqb-true me m t)) (sym at ∙ new.at) in
                      let yes : agree x.call call ≡ true = agree_next n before after x (view_of before me) call i.agrees i.step.rank starts enters new.on same in
                      let called : agree x.call some.0.call ≡ true = ap (agree x.call) new.call_is ∙ yes in
                      ap (disagrees x.call) some.1 ∙ ap not called
                ]
            | inr none ↦ ap (disagrees x.call) none
          ]
      | inr f ↦ ap (λ (v : View). disagrees x.call (enter_at n v C instance)) (view_of-other before q m f) ∙ h
    ]

halt_at-enter : (n : ℕ) (one other : List Event) (me : ℕ) (own : View) (call : Call) → (is_enter call ≡ true → is_mismatched n one own call ≡ is_mismatched n other own call)
    → halt_at n one me own call ≡ halt_at n other me own call
halt_at-enter n one other me own (Enter comm kind root op count ints) same = ap (λ (x : Bool). if x then Some (Mismatched me) else None) (same refl)
halt_at-enter n one other me own call same = refl

enter_halt : (n : ℕ) (before : List Event) (me : ℕ) (own : View) (call : Call) → is_enter call ≡ true → is_mismatched n before own call ≡ false → halt_at n before me own call ≡ None
enter_halt n before me own (Enter comm kind root op count ints) h free = ap (λ (x : Bool). if x then Some (Mismatched me) else None) free
enter_halt n before me own call h free = absurd (cc)

enter_any : (n : ℕ) (before : List Event) (me : ℕ) (own : View) (call : Call) (pick : Pick) → is_enter call ≡ true → picked_answer n before me own call pick ≡ Done
enter_any n before me own (Enter comm kind root op count ints) pick h = refl
enter_any n before me own call pick h = absurd (cc)

mismatched_same : (next : Next) (n : ℕ) → Lawful next → (before : List Event) (me : ℕ) (call : Call) (x : Event) (after : List Event) → IsEnterWith next n before me call x after
    → is_enter x.call ≡ true → is_mismatched n (before ++ picked_event n before me call First ∷ []) (view_of before x.rank) x.call ≡ is_mismatched n before (view_of before x.rank) x.call
mismatched_same next n lawful before me call x after i enters =
    let q : Event = picked_event n before me call First in
    let own : View = view_of before x.rank in
    let kept = kept_prompt next n before lawful i.good.run in
    let parts = free_parts n before me call i.is.none in
    elim (test_cases (is_mismatched n before own x.call)) [
      | inl t ↦ elim (test_cases (is_mismatched n (before ++ q ∷ []) own x.call)) [
        | inl u ↦ u ∙ sym t
        | inr u ↦ (let no : false ≡ true = sym (mismatched_front n before (q ∷ []) own x.call u) ∙ t in absurd (cc))
      ]
      | inr f ↦
          let picked = event_picked next n before x kept.matched kept.below i.step i.ordered in
          let pick : Pick = pick_of n before x in
          let none : due n before x.rank own x.call ≡ None = free_due n before x.rank x.call (record { halts = parts.halts; full = parts.full; own = enter_halt n before x.rank own x.call enters f }) in
          let reply : x.reply ≡ Done = ap (λ (e : Event). e.reply) picked.event_is ∙ (reply_answer n before x.rank x.call pick none ∙ enter_any n before x.rank own x.call pick enters) in
          let starts : is_start (x.call, x.reply) ≡ true = ap (λ r. is_start (x.call, r)) reply ∙ and_from (is_starting x.call) true (enter_starts x.call enters) refl in
          let instance : ℕ = instance_of own (length (starts_of own)) (comm_of x.call) in
          none_any (one_disagrees n before x.call instance) (one_disagrees n (before ++ q ∷ []) x.call instance) (world n 0)
          (λ m. disagrees_back next n before me call x after i enters starts instance (next_instance own (comm_of x.call)) m) f ∙ sym f
    ]

-- 4. the event behind the call

whole_prompt : (n : ℕ) (before : List Event) (q : Event) (p : ℕ) (own : View) (d : Call) → is_partial d ≡ false
    → ((comm : ℕ) (source : Source) (tag : Tag) → has_open n (before ++ q ∷ []) p comm source tag ≡ has_open n before p comm source tag)
    → is_prompt n before p own d ≡ true → is_prompt n (before ++ q ∷ []) p own d ≡ true
whole_prompt n before q p own (Take starts All) h opens prompt = all_true n before q p own starts prompt
whole_prompt n before q p own (Take starts mode) h opens prompt = absurd (cc)
whole_prompt n before q p own (Peek comm source tag wait) h opens prompt = ap (λ (b : Bool). not wait || b) (opens comm source tag) ∙ prompt
whole_prompt n before q p own d h opens prompt = refl

whole_answer : (n : ℕ) (before : List Event) (q : Event) (p : ℕ) (d : Call) (pick : Pick) → is_partial d ≡ false → IsAllMatched before → AllMade n before
    → ((d : Call) → choice (before ++ q ∷ []) p d ≡ choice before p d) → is_prompt n before p (view_of before p) d ≡ true
    → picked_answer n (before ++ q ∷ []) p (view_of before p) d pick ≡ picked_answer n before p (view_of before p) d pick
whole_answer n before q p (Take starts All) pick h matched made choices prompt = all_on n before q p starts false matched made prompt
whole_answer n before q p (Take starts mode) pick h matched made choices prompt = absurd (cc)
whole_answer n before q p (Peek comm source tag wait) pick h matched made choices prompt =
    let seen : Call = looking (Peek comm source tag wait) pick in
    ap (peek_reply (before ++ q ∷ []) wait) (choices seen) ∙ peeked_stays before q p seen wait
whole_answer n before q p (Send comm dest tag ints sync) pick h matched made choices prompt = refl
whole_answer n before q p (Post comm source tag room) pick h matched made choices prompt = refl
whole_answer n before q p (Enter comm kind root op count ints) pick h matched made choices prompt = refl
whole_answer n before q p (Abort code) pick h matched made choices prompt = refl
whole_answer n before q p (Trap fault) pick h matched made choices prompt = refl
whole_answer n before q p End pick h matched made choices prompt = refl

-- whether a pick can be made
not_one : (d : Call) → is_partial d ≡ false → completes_one d ≡ false
not_one (Take starts All) h = refl
not_one (Take starts mode) h = absurd (cc)
not_one d h = refl

whole_offers : (n : ℕ) (before : List Event) (q : Event) (p : ℕ) (d : Call) (pick : Pick) → is_partial d ≡ false
    → ((d : Call) → choice (before ++ q ∷ []) p d ≡ choice before p d)
    → due n (before ++ q ∷ []) p (view_of (before ++ q ∷ []) p) d ≡ due n before p (view_of before p) d
    → has_pick n (before ++ q ∷ []) p d pick ≡ has_pick n before p d pick
whole_offers n before q p d First h choices same = refl
whole_offers n before q p d (Sender sender) h choices same =
    let B : Option Halt → Option ℕ → Bool = λ o c. not (is_some o) && (looks d && is_some c) in
    ap (λ o. B o (choice (before ++ q ∷ []) p (looking d (Sender sender)))) same ∙ ap (B (due n before p (view_of before p) d)) (choices (looking d (Sender sender)))
whole_offers n before q p d (Index index) h choices same =
    let after : List Event = before ++ q ∷ [] in
    let B : Option Halt → Bool → List Bool → Bool = λ o one flags. not (is_some o) && (one && is_ready_at flags index) in
    let flags : List Bool = flags_of (moment_at n after p) (listed_by d) in
    let flags' : List Bool = flags_of (moment_at n before p) (listed_by d) in
    ap (λ o. B o (completes_one d) flags) same
    ∙ (ap (λ one. B (due n before p (view_of before p) d) one flags) (not_one d h) ∙ sym (ap (λ one. B (due n before p (view_of before p) d) one flags') (not_one d h)))

pub enter_halts : (n : ℕ) (before : List Event) (me : ℕ) (call : Call) → is_enter call ≡ true → due n before me (view_of before me) call ≡ None
    → halted (before ++ picked_event n before me call First ∷ []) ≡ halted before
enter_halts n before me call enters none =
    halted_more before (picked_event n before me call First)
    ∙ (ap (λ r. or_else (halted before) (halt_of_reply r)) (enter_event n before me call enters none).reply ∙ or_else-last (halted before))

pub enter_behind : (next : Next) (n : ℕ) → Lawful next → (before : List Event) (me : ℕ) (call : Call) (x : Event) (after : List Event) → IsEnterWith next n before me call x after
    → IsAllMatched ((before ++ picked_event n before me call First ∷ []) ++ x ∷ []) → IsGood next n ((before ++ picked_event n before me call First ∷ []) ++ x ∷ [])
enter_behind next n lawful before me call x after i matched =
    let q : Event = picked_event n before me call First in
    let behind : List Event = before ++ q ∷ [] in
    let p : ℕ = x.rank in
    let d : Call = x.call in
    let own : View = view_of before p in
    let kept = kept_prompt next n before lawful i.good.run in
    let first = enter_first_run next n lawful before me call i.good i.is in
    let kept' = kept_prompt next n behind lawful first.run in
    let parts = free_parts n before me call i.is.none in
    let e = enter_event n before me call i.is.enters i.is.none in
    let seen : view_of behind p ≡ own = view_of-other before q p (other_way p me i.apart) in
    let choices : (c : Call) → choice behind p c ≡ choice before p c = λ c. enter_choices before q kept.matched i.is.enters e.mate refl p c in
    let opens : (comm : ℕ) (source : Source) (tag : Tag) → has_open n behind p comm source tag ≡ has_open n before p comm source tag =
    λ comm source tag. open_by n behind before kept'.below kept.below p comm source tag (choices (Peek comm source tag true)) in
    let same : due n behind p (view_of behind p) d ≡ due n before p own d =
    ap (λ (v : View). due n behind p v d) seen
    ∙ due_by (halted behind) (halted before) (is_full behind) (is_full before) (halt_at n behind p own d) (halt_at n before p own d)
    (enter_halts n before me call i.is.enters i.is.none) (i.full ∙ sym parts.full) (halt_at-enter n behind before p own d (mismatched_same next n lawful before me call x after i)) in
    let pick : Pick = pick_of n before x in
    let picked : IsPickedEvent n before x pick = event_picked next n before x kept.matched kept.below i.step i.ordered in
    let can : can_go n before p own d ≡ true = elim (allowed_goes next n before p d x.reply i.step.reply) [
      | inl can ↦ can
      | inr stuck ↦ absurd (enter_unstuck next n before me call i.is stuck)
    ] in
    let made : AllMade n before = made_in next n lawful before i.good.run in
    let both : (picked_reply n behind p d pick ≡ picked_reply n before p d pick) × (can_go n behind p (view_of behind p) d ≡ true) =
    elim (option_cases (due n before p own d)) [
      | inl some ↦
          let now : due n behind p (view_of behind p) d ≡ Some some.0 = same ∙ some.1 in (
            ap (λ o. halt_or o (picked_answer n behind p (view_of behind p) d pick)) now ∙ sym (ap (λ o. halt_or o (picked_answer n before p own d pick)) some.1),
            or_left (is_some (due n behind p (view_of behind p) d)) (is_prompt n behind p (view_of behind p) d) (ap is_some now),
          )
      | inr none ↦
          let prompt : is_prompt n before p own d ≡ true = ap (λ o. is_some o || is_prompt n before p own d) (sym none) ∙ can in
          let F : View → Type 0 = λ v. is_prompt n behind p v d ≡ true in (
            reply_answer n behind p d pick (same ∙ none)
                ∙ (ap (λ (v : View). picked_answer n behind p v d pick) seen
                ∙ (whole_answer n before q p d pick i.whole kept.matched made choices prompt ∙ sym (reply_answer n before p d pick none))),
            or_right (is_some (due n behind p (view_of behind p) d)) (is_prompt n behind p (view_of behind p) d)
                (subst F (sym seen) (whole_prompt n before q p own d i.whole opens prompt)),
          )
    ] in
    let E : Reply → Option ℕ → Event = λ r m. record { rank = p; call = d; reply = r; mate = m; met = [] } in
    let mate : (r : Reply) → picked_mate behind p d r pick ≡ picked_mate before p d r pick =
    λ r. ap (λ (o : Option ℕ). if is_start (d, r) then o else None) (choices (looking d pick)) in
    let event : picked_event n behind p d pick ≡ x =
    ap (λ r. E r (picked_mate behind p d r pick)) both.0 ∙ (ap (E (picked_reply n before p d pick)) (mate (picked_reply n before p d pick)) ∙ sym picked.event_is) in
    let asked : call_after next n behind p ≡ Some d = ap (λ (v : View). next n p (replies_in v)) seen ∙ i.step.call in
    let M : Event → Type 0 = λ l. IsAllMatched (behind ++ l ∷ []) in
    let G : Event → Type 0 = λ l. IsGood next n (behind ++ l ∷ []) in
    subst G event (step_on next n lawful behind p d pick first i.step.rank asked (whole_offers n before q p d pick i.whole choices same ∙ picked.offered) (inl both.1) (subst M (sym event) matched))

-- 5. what both leave

abbrev made_by : ℕ → (ℕ → Option Entered) → View → Event → List Origin
made_by n find own event =
    if is_start (event.call, event.reply)
    then origins_from (gather (λ m. true) find (members_for_rank n own (comm_of event.call))) (count_on (comm_of event.call) (starts_of own)) event.call
    else []

makes_enter : (call : Call) → makes call ≡ true → is_enter call ≡ true
makes_enter (Enter comm kind root op count ints) h = refl
makes_enter call h = absurd (cc)

enter_found : (next : Next) (n : ℕ) (before : List Event) (me : ℕ) (call : Call) (x : Event) (after : List Event) → IsEnterWith next n before me call x after → makes x.call ≡ true
    → is_start (x.call, x.reply) ≡ true → (m : ℕ)
    → enter_at n (view_of ((before ++ picked_event n before me call First ∷ []) ++ x ∷ []) m) (comm_of x.call) (count_on (comm_of x.call) (starts_of (view_of before x.rank)))
    ≡ enter_at n (view_of (before ++ x ∷ []) m) (comm_of x.call) (count_on (comm_of x.call) (starts_of (view_of before x.rank)))
enter_found next n before me call x after i mk starts m =
    let q : Event = picked_event n before me call First in
    let C : ℕ = comm_of x.call in
    let j : ℕ = count_on C (starts_of (view_of before x.rank)) in
    let front : List Event = before ++ x ∷ [] in
    let swap : enter_at n (view_of ((before ++ q ∷ []) ++ x ∷ []) m) C j ≡ enter_at n (view_of (front ++ q ∷ []) m) C j =
    ap (λ (v : View). enter_at n v C j) (sym (views_swapped before x q i.apart m)) in
    swap ∙ (elim (test_cases (me == m)) [
      | inl t ↦
          let mine : view_of (front ++ q ∷ []) m ≡ view_of front m ++ (q.call, q.reply) ∷ [] = view_of-mine front q m (eqb-true me m t) in
          elim (option_cases (enter_at n (view_of (front ++ q ∷ []) m) C j)) [
            | inl some ↦
                let V : View → Type 0 = λ v. enter_at n v C j ≡ Some some.0 in
                elim (enter_back n (view_of front m) q.call q.reply C j some.0 (subst V mine some.1)) [
                  | inl was ↦ some.1 ∙ sym was
                  | inr new ↦
                      let M : ℕ → Type 0 = λ r. j ≡ count_on C (starts_of (view_of front r)) in
                      let at : j ≡ count_on C (starts_of (view_of front me)) = subst M (sym (eqb-true me m t)) new.at in
                      let same : j ≡ count_on C (starts_of (view_of before me)) = at ∙ ap (λ (v : View). count_on C (starts_of v)) (view_of-other before x me i.apart) in
                      let yes : agree x.call call ≡ true = agree_next n before after x (view_of before me) call i.agrees i.step.rank starts (makes_enter x.call mk) new.on same in
                      let no : true ≡ false = sym mk ∙ (agree_makes x.call call yes ∙ i.is.plain) in
                      absurd (cc)
                ]
            | inr none ↦ elim (option_cases (enter_at n (view_of front m) C j)) [
              | inl some ↦
                  let kept : enter_at n (view_of (front ++ q ∷ []) m) C j ≡ Some some.0 =
                  (enter_at-kept n (view_of front m) (view_of (front ++ q ∷ []) m) C j (Begins-more front (q ∷ []) m)).kept some.0 some.1 in
                  let no : None ≡ Some some.0 = sym none ∙ kept in
                  absurd (cc)
              | inr free ↦ none ∙ sym free
            ]
          ]
      | inr f ↦ ap (λ (v : View). enter_at n v C j) (view_of-other front q m f)
    ])

made_entered : (next : Next) (n : ℕ) (before : List Event) (me : ℕ) (call : Call) (x : Event) (after : List Event) → IsEnterWith next n before me call x after
    → made_at n (before ++ picked_event n before me call First ∷ []) x ≡ made_at n before x
made_entered next n before me call x after i =
    let q : Event = picked_event n before me call First in
    elim (test_cases (makes x.call)) [
      | inr plain ↦
          made_none n (before ++ q ∷ []) x (λ gathered instance. enter_makes gathered instance x.call plain)
          ∙ sym (made_none n before x (λ gathered instance. enter_makes gathered instance x.call plain))
      | inl mk ↦ elim (test_cases (is_start (x.call, x.reply))) [
        | inr idle ↦
            let one : made_at n (before ++ q ∷ []) x ≡ [] = rw idle refl in
            let two : made_at n before x ≡ [] = rw idle refl in
            one ∙ sym two
        | inl starts ↦
            let C : ℕ = comm_of x.call in
            let own : View = view_of before x.rank in
            let j : ℕ = count_on C (starts_of own) in
            let one : ℕ → Option Entered = λ m. enter_at n (view_of ((before ++ q ∷ []) ++ x ∷ []) m) C j in
            let two : ℕ → Option Entered = λ m. enter_at n (view_of (before ++ x ∷ []) m) C j in
            let same : one ≡ two = fun_ext (λ m. enter_found next n before me call x after i mk starts m) in
            let seen : view_of (before ++ q ∷ []) x.rank ≡ own = view_of-other before q x.rank (other_way x.rank me i.apart) in
            let after_view : View → List Origin = λ v. made_by n (λ m. enter_at n (view_of ((before ++ q ∷ []) ++ x ∷ []) m) C (count_on C (starts_of v))) v x in
            ap after_view seen ∙ ap (λ (find : ℕ → Option Entered). made_by n find own x) same
      ]
    ]

pub enter_future : (next : Next) (n : ℕ) (before : List Event) (me : ℕ) (call : Call) (x : Event) (after : List Event) → IsEnterWith next n before me call x after
    → SameFuture n ((before ++ x ∷ []) ++ picked_event n before me call First ∷ []) ((before ++ picked_event n before me call First ∷ []) ++ x ∷ [])
enter_future next n before me call x after i =
    let q : Event = picked_event n before me call First in
    let e = enter_event n before me call i.is.enters i.is.none in
    let P : List (Name × Name) = pairs_of before in
    let one : pairs_of ((before ++ x ∷ []) ++ q ∷ []) ≡ P ++ pair_of before x =
    pairs_of-push (before ++ x ∷ []) q
    ∙ (ap (λ l. pairs_of (before ++ x ∷ []) ++ l) (pair_none (before ++ x ∷ []) q refl (ap (mate_name (before ++ x ∷ [])) e.mate)) ∙ (append-nil (pairs_of (before ++ x ∷ [])) ∙ pairs_of-push before x)) in
    let alone : pairs_of (before ++ q ∷ []) ≡ P = pairs_of-push before q ∙ (ap (λ l. P ++ l) (pair_none before q refl (ap (mate_name before) e.mate)) ∙ append-nil P) in
    let two : pairs_of ((before ++ q ∷ []) ++ x ∷ []) ≡ P ++ pair_of before x =
    pairs_of-push (before ++ q ∷ []) x
    ∙ (ap (λ l. l ++ pair_of (before ++ q ∷ []) x) alone
    ∙ ap (λ l. P ++ l) (pair_beside before q x (mate_stays before (q ∷ []) x i.step.mate) (other_way x.rank me i.apart))) in
    let none : (gathered : Result (List (List ℤ)) ℕ) (instance : ℕ) → origins_from gathered instance q.call ≡ [] = λ gathered instance. enter_makes gathered instance call i.is.plain in
    record {
      views = views_swapped before x q i.apart;
      pairs = λ name. ap (λ l. partner_of l name) (one ∙ sym two);
      made = made_off n (before ++ x ∷ []) q none
          ∙ (communicators_of-push n before x
          ∙ sym (communicators_of-push n (before ++ q ∷ []) x
          ∙ (ap (λ l. l ++ made_at n (before ++ q ∷ []) x) (made_off n before q none) ∙ ap (λ l. communicators_of n before ++ l) (made_entered next n before me call x after i))));
    }

-- 6. the call behind the event

pub enter_later : (next : Next) (n : ℕ) (before : List Event) (me : ℕ) (call : Call) (x : Event) (after : List Event) → IsEnterWith next n before me call x after
    → halted (before ++ x ∷ []) ≡ None → is_full (before ++ x ∷ []) ≡ false → picked_event n (before ++ x ∷ []) me call First ≡ picked_event n before me call First
enter_later next n before me call x after i halts room =
    let front : List Event = before ++ x ∷ [] in
    let own : View = view_of before me in
    let seen : view_of front me ≡ own = view_of-other before x me i.apart in
    let I : List Event → Type 0 = λ l. is_mismatched n l own call ≡ false in
    let free : is_mismatched n front own call ≡ false = mismatched_front n front after own call (subst I (sym (append_assoc before (x ∷ []) after)) i.agrees) in
    let H : View → Type 0 = λ v. halt_at n front me v call ≡ None in
    let none : due n front me (view_of front me) call ≡ None =
    free_due n front me call (record { halts = halts; full = room; own = subst H (sym seen) (enter_halt n front me own call i.is.enters free) }) in
    let e = enter_event n before me call i.is.enters i.is.none in
    let f = enter_event n front me call i.is.enters none in
    let E : Reply → Option ℕ → Event = λ r m. record { rank = me; call = call; reply = r; mate = m; met = [] } in
    ap (λ r. E r (picked_mate front me call (picked_reply n front me call First) First)) (f.reply ∙ sym e.reply) ∙ ap (E (picked_reply n before me call First)) (f.mate ∙ sym e.mate)
