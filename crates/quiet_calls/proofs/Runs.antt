-- Runs with one event more: a quiet call's, and that of a call which could be made without it.
use Rattle.std.proofs.Common.{◌≡◌, ◌≢◌, ◌<◌, ◌∙◌, ◌++◌, ◌∷◌, ◌⊎◌, ℕ, List, [], Option, Some, None, true, false, append-nil, inl, inr, is_some, length, refl, ap, sym, subst}
use Rattle.std.proofs.lemmas.Bool.{or_right}
use Rattle.mpi_call.specs.declared.call.Call.{Call}
use Rattle.mpi_call.specs.declared.call.Call.TheVariants.{Post, Take, End}
use Rattle.mpi_call.specs.declared.call.TakeMode.TheVariants.{All, TestAll}
use Rattle.mpi_call.specs.declared.reply.Reply.{Reply}
use Rattle.mpi_call.specs.declared.reply.Reply.TheVariants.{NotYet}
use Rattle.run_model.specs.declared.event.Event.{Event}
use Rattle.run_model.specs.Allowed.{IsStuck, can_go, flags_of, is_prompt, true_places}
use Rattle.run_model.specs.Chosen.{items_at}
use Rattle.run_model.specs.Due.{due, halt_of_reply}
use Rattle.run_model.specs.Pairs.{AreAllMatched, IsAllMatched, Name, PostAccepts, named, pair_of, pairs_of, partner_of, post_accepts}
use Rattle.run_model.specs.Run.{IsPromptEvent, IsPromptRun}
use Rattle.run_model.specs.Serial.{call_after}
use Rattle.run_model.specs.Views.{Next, View, is_start, moment_of, start_at, view_of}
use Rattle.run_model.proofs.AllEntered.{AllListed, all_made, listed_more}
use Rattle.run_model.proofs.Along.{Along-keeps, Along-snoc}
use Rattle.run_model.proofs.Numbered.{AllMade}
use Rattle.run_model.proofs.Positions.{new_name}
use Rattle.run_model.proofs.Prompt.{kept_all, kept_prompt}
use Rattle.run_model.proofs.RunLaws.{Lawful}
use Rattle.run_model.proofs.Views.{test_cases}
use Rattle.picked_runs.specs.declared.turn.Pick.{Pick}
use Rattle.picked_runs.specs.declared.turn.Pick.TheVariants.{First}
use Rattle.picked_runs.specs.Made.{picks_of}
use Rattle.picked_runs.specs.Numbering.{AreNumberedInOrder}
use Rattle.picked_runs.specs.Picks.{has_pick, picked_answer, picked_event, picked_reply}
use Rattle.picked_runs.specs.Picked.{IsPicked, picks_and}
use Rattle.picked_runs.proofs.GoingOn.{picks_go_on}
use Rattle.picked_runs.proofs.Grown.{Grows-event, named-new, named-other, pairs_of-push}
use Rattle.picked_runs.proofs.Making.{every_run_is_picked}
use Rattle.picked_runs.proofs.Numbering.{picks_number_in_order}
use Rattle.picked_runs.proofs.Pairing.{AreMatched-alone}
use Rattle.run_states.specs.Futures.{SameFuture}
use Rattle.quiet_calls.specs.Quiet.{is_steady}
use Rattle.quiet_calls.proofs.Still.{IsStill, accepted_never, still_accepts}
use Rattle.quiet_calls.proofs.Beside.{pairs_stay}
use Rattle.quiet_calls.proofs.Staying.{IsAnswered, all_ready, reply_answer, reply_free}

-- a run with a recording machine's numbers
pub record IsGood (next : Next) (n : ℕ) (events : List Event) : Type 0 where
  pub run : IsPromptRun next n events
  pub numbered : AreNumberedInOrder n events

-- 1. what runs keep

record Listed (next : Next) (n : ℕ) (events : List Event) : Type 0 where
  run : IsPromptRun next n events
  listed : AllListed n events

listed_on : (next : Next) (n : ℕ) → Lawful next → (before : List Event) (event : Event) → Listed next n before → IsPromptEvent next n before event
    → Listed next n (before ++ event ∷ [])
listed_on next n lawful before event l step =
    let run : IsPromptRun next n (before ++ event ∷ []) = record { some = l.run.some; few = l.run.few; along = Along-snoc (IsPromptEvent next n) [] before event l.run.along step } in
    record { run = run; listed = listed_more next n before event (kept_all next n (before ++ event ∷ []) (kept_prompt next n (before ++ event ∷ []) lawful run)) l.listed }

pub made_in : (next : Next) (n : ℕ) → Lawful next → (events : List Event) → IsPromptRun next n events → AllMade n events
made_in next n lawful events run =
    let l = Along-keeps (IsPromptEvent next n) (Listed next n) (listed_on next n lawful) [] events
    (record {
      run = record { some = run.some; few = run.few; along = tt };
      listed = λ m comm instance one members inputs at. absurd (cc);
    }) run.along in
    all_made n events (kept_prompt next n events lawful run).instances.same l.listed

-- 2. pairs meet their conditions

takes_same : (N M : Name → Option Call) → ((name : Name) → N name ≡ M name) → (post send : Name) → PostAccepts N post send → PostAccepts M post send
takes_same N M names post send takes =
    record {
      post_call = takes.post_call;
      send_call = takes.send_call;
      post_is = sym (names post) ∙ takes.post_is;
      send_is = sym (names send) ∙ takes.send_is;
      accepted = takes.accepted;
    }

conditions_same : (N M : Name → Option Call) (P Q : List (Name × Name)) → ((name : Name) → N name ≡ M name)
    → ((name : Name) → partner_of P name ≡ partner_of Q name) → AreAllMatched N P → AreAllMatched M Q
conditions_same N M P Q names pairs matched =
    let back : (name : Name) → M name ≡ N name = λ name. sym (names name) in
    record {
      matched = record {
        pairs_accept = λ a b h. elim (matched.matched.pairs_accept a b (pairs a ∙ h)) [
          | inl takes ↦ inl (takes_same N M names a b takes)
          | inr takes ↦ inr (takes_same N M names b a takes)
        ];
        one_partner = λ a b h. sym (pairs b) ∙ matched.matched.one_partner a b (pairs a ∙ h);
        no_overtaking = λ post send h start less takes. ap is_some (sym (pairs (send.0, start)))
            ∙ matched.matched.no_overtaking post send (pairs post ∙ h) start less (takes_same M N back post (send.0, start) takes);
        earliest_receive = λ post send h start less takes. ap is_some (sym (pairs (post.0, start)))
            ∙ matched.matched.earliest_receive post send (pairs post ∙ h) start less (takes_same M N back (post.0, start) send takes);
      };
      nothing_waits = λ post send takes p q. matched.nothing_waits post send (takes_same M N back post send takes) (pairs post ∙ p) (pairs send ∙ q);
    }

pub matched_same : (n : ℕ) (one other : List Event) → SameFuture n one other → IsAllMatched one → IsAllMatched other
matched_same n one other same matched =
    conditions_same (named one) (named other) (pairs_of one) (pairs_of other) (λ name. ap (λ (v : View). start_at v name.1) (same.views name.0)) same.pairs matched

-- an event that starts nothing and has no mate
pub matched_idle : (before : List Event) (event : Event) → is_start (event.call, event.reply) ≡ false → event.mate ≡ None → event.met ≡ [] → IsAllMatched before → IsAllMatched (before ++ event ∷ [])
matched_idle before event idle alone none_met matched =
    let after : List Event = before ++ event ∷ [] in
    let none : pair_of before event ≡ [] = rw (alone, none_met) refl in
    let same : pairs_of before ≡ pairs_of after =
    sym (pairs_of-push before event ∙ (ap (λ l. pairs_of before ++ l) none ∙ append-nil (pairs_of before))) in
    conditions_same (named before) (named after) (pairs_of before) (pairs_of after) (λ name. sym (named-other before event idle name))
    (λ name. ap (λ l. partner_of l name) same) matched

-- no start takes a still one, or is taken by it
never_taken : (before : List Event) (event : Event) → IsStill event → is_start (event.call, event.reply) ≡ true → (other : Name)
    → PostAccepts (named (before ++ event ∷ [])) other (new_name before event) → ⊥
never_taken before event still t other takes =
    let here : Some event.call ≡ Some takes.send_call = sym (named-new before event t) ∙ takes.send_is in
    let same : event.call ≡ takes.send_call = cc in
    let F : Call → Type 0 = λ c. post_accepts other.0 takes.post_call event.rank c ≡ false in
    let never : post_accepts other.0 takes.post_call event.rank takes.send_call ≡ false = subst F same (accepted_never other.0 takes.post_call event.rank event.call still.call) in
    let no : true ≡ false = sym takes.accepted ∙ never in
    cc

never_takes : (before : List Event) (event : Event) → IsStill event → is_start (event.call, event.reply) ≡ true → (other : Name)
    → PostAccepts (named (before ++ event ∷ [])) (new_name before event) other → ⊥
never_takes before event still t other takes =
    let here : Some event.call ≡ Some takes.post_call = sym (named-new before event t) ∙ takes.post_is in
    let same : event.call ≡ takes.post_call = cc in
    let F : Call → Type 0 = λ c. post_accepts event.rank c other.0 takes.send_call ≡ false in
    let never : post_accepts event.rank takes.post_call other.0 takes.send_call ≡ false = subst F same (still_accepts event.rank event.call other.0 takes.send_call still.call) in
    let no : true ≡ false = sym takes.accepted ∙ never in
    cc

pub matched_still : (before : List Event) (event : Event) → IsStill event → IsAllMatched before → IsAllMatched (before ++ event ∷ [])
matched_still before event still matched =
    let after : List Event = before ++ event ∷ [] in
    let pairs : (name : Name) → partner_of (pairs_of before) name ≡ partner_of (pairs_of after) name = λ name. ap (λ l. partner_of l name) (sym (pairs_stay before event still)) in
    elim (test_cases (is_start (event.call, event.reply))) [
      | inl t ↦
          conditions_same (named after) (named after) (pairs_of before) (pairs_of after) (λ name. refl) pairs
          (AreMatched-alone (named before) (named after) (pairs_of before) (new_name before event) matched (Grows-event before event t)
          (λ other takes free. elim takes [
            | inl taken ↦ never_taken before event still t other taken
            | inr takes_it ↦ never_takes before event still t other takes_it
          ]))
      | inr t ↦ matched_idle before event t still.mate still.none_met matched
    ]

-- 3. one event more

pub step_on : (next : Next) (n : ℕ) → Lawful next → (before : List Event) (rank : ℕ) (call : Call) (pick : Pick) → IsGood next n before → rank < n
    → call_after next n before rank ≡ Some call → has_pick n before rank call pick ≡ true
    → (can_go n before rank (view_of before rank) call ≡ true) ⊎ IsStuck next n before
    → IsAllMatched (before ++ picked_event n before rank call pick ∷ []) → IsGood next n (before ++ picked_event n before rank call pick ∷ [])
step_on next n lawful before rank call pick good below asked offered goes matched =
    let picks : List Pick = picks_of n before in
    let after : List Event = before ++ picked_event n before rank call pick ∷ [] in
    let more : IsPicked next n (picks_and picks (length before) pick) after =
    (picks_go_on next n lawful picks before rank call pick (every_run_is_picked next n before good.run good.numbered) below asked offered goes matched).more in
    record { run = more.run; numbered = picks_number_in_order next n (picks_and picks (length before) pick) after more }

take_prompt : (n : ℕ) (before : List Event) (me : ℕ) (call : Call) → is_steady call ≡ true → halt_of_reply (picked_answer n before me (view_of before me) call First) ≡ None
    → picked_answer n before me (view_of before me) call First ≢ NotYet → is_prompt n before me (view_of before me) call ≡ true
take_prompt n before me (Post comm source tag room) h free ready = refl
take_prompt n before me End h free ready = refl
take_prompt n before me (Take starts All) h free ready =
    let own : View = view_of before me in
    all_ready n before me own starts false (items_at (moment_of n before me own) starts (true_places 0 (flags_of (moment_of n before me own) starts))) free ready
take_prompt n before me (Take starts TestAll) h free ready = refl
take_prompt n before me (Take starts mode) h free ready = absurd (cc)
take_prompt n before me call h free ready = absurd (cc)

pub quiet_goes : (n : ℕ) (before : List Event) (me : ℕ) (call : Call) → IsAnswered n before me call → can_go n before me (view_of before me) call ≡ true
quiet_goes n before me call a =
    let was : picked_reply n before me call First ≡ picked_answer n before me (view_of before me) call First = reply_answer n before me call First (reply_free n before me call First a.free) in
    let F : Reply → Type 0 = λ r. halt_of_reply r ≡ None in
    let G : Reply → Type 0 = λ r. r ≢ NotYet in
    or_right (is_some (due n before me (view_of before me) call)) (is_prompt n before me (view_of before me) call)
    (take_prompt n before me call a.kind (subst F was a.free) (subst G was a.ready))
