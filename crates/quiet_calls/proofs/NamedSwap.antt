-- A call that names the other rank and an event of another rank, in either order.
use Rattle.std.proofs.Common.{◌≡◌, ◌∙◌, ◌++◌, ◌==◌, ◌∷◌, ℕ, List, [], Option, Some, None, true, false, append-nil, inl, inr, length, refl, ap, sym, subst}
use Rattle.std.proofs.lemmas.Bool.{and_parts, and_right, eq-eqb, eqb-true}
use Rattle.mpi_call.specs.declared.call.Call.{Call}
use Rattle.mpi_call.specs.declared.call.Call.TheVariants.{Send, Post}
use Rattle.mpi_call.specs.declared.call.Halt.{Halt}
use Rattle.mpi_call.specs.declared.reply.Reply.{Reply}
use Rattle.mpi_call.specs.declared.reply.Reply.TheVariants.{Stopped}
use Rattle.mpi_call.specs.Calls.{is_starting}
use Rattle.run_model.specs.declared.event.Event.{Event}
use Rattle.run_model.specs.Allowed.{IsStuck, can_go}
use Rattle.run_model.specs.Choice.{choice, suits}
use Rattle.run_model.specs.Communicators.{is_on}
use Rattle.run_model.specs.Due.{due, halt_at, halted, is_full}
use Rattle.run_model.specs.Pairs.{IsAllMatched, Name, named, pairs_of, partner_of}
use Rattle.run_model.specs.Run.{HasMate, IsPromptEvent}
use Rattle.run_model.specs.Serial.{call_after}
use Rattle.run_model.specs.Views.{Next, View, is_done, is_start, replies_in, view_of}
use Rattle.run_model.proofs.Choosing.{IsOpenAt, choice_none, choice_some}
use Rattle.run_model.proofs.Positions.{new_name}
use Rattle.run_model.proofs.Prompt.{IsPromptRun-event, kept_prompt}
use Rattle.run_model.proofs.RunLaws.{Lawful}
use Rattle.run_model.proofs.Views.{option_cases, test_cases, view_of-other}
use Rattle.picked_runs.specs.declared.turn.Pick.{Pick}
use Rattle.picked_runs.specs.declared.turn.Pick.TheVariants.{First}
use Rattle.picked_runs.specs.Made.{pick_of}
use Rattle.picked_runs.specs.Numbering.{IsNumberedInOrder}
use Rattle.picked_runs.specs.Picked.{IsPickedEvent}
use Rattle.picked_runs.specs.Picks.{picked_event, picked_mate, picked_reply}
use Rattle.picked_runs.proofs.Grown.{Grows-event, named-new, pairs_of-push}
use Rattle.picked_runs.proofs.Making.{event_picked}
use Rattle.picked_runs.proofs.Pairing.{new_free}
use Rattle.run_states.specs.Futures.{SameFuture, mate_name}
use Rattle.run_states.specs.Outcomes.{IsProbeKept}
use Rattle.quiet_calls.specs.Quiet.{is_racy}
use Rattle.quiet_calls.proofs.Named.{named_off, other_of, other_suits, suits_other}
use Rattle.quiet_calls.proofs.Staying.{free_due, free_parts}
use Rattle.quiet_calls.proofs.Going.{allowed_goes}
use Rattle.quiet_calls.proofs.Runs.{IsGood, made_in, matched_idle, matched_same, step_on}
use Rattle.quiet_calls.proofs.Swapping.{mate_stays, other_way}
use Rattle.quiet_calls.proofs.Commuting.{other_run, probe_on}
use Rattle.quiet_calls.proofs.Meeting.{IsNewChoice, TakesNone, choice_behind, seam_name}
use Rattle.quiet_calls.proofs.Matching.{matched_chosen}
use Rattle.quiet_calls.proofs.Crossing.{HasStart, future_beside, future_crossed, pair_none, with_mate}
use Rattle.quiet_calls.proofs.NamedFirst.{IsNamedAsked, leaves_others, named_event, named_first_run, named_halts, named_start, named_unstuck, picked_start, takes_apart, takes_beside}
use Rattle.quiet_calls.proofs.Calm.{calm_event, calmly, due_off}

-- 1. a start that is open behind its own event

pub open_new : (before : List Event) (event : Event) (me : ℕ) (call : Call) → IsAllMatched before → event.met ≡ [] → is_start (event.call, event.reply) ≡ true → mate_name before event.mate ≡ None
    → suits me call event.rank event.call ≡ true → IsOpenAt (before ++ event ∷ []) me call (length before)
open_new before event me call matched none_met starts alone suited =
    let new : Name = new_name before event in
    let P : List (Name × Name) = pairs_of before in
    let grows = Grows-event before event starts in
    let free : partner_of P new ≡ None = new_free (named before) (named (before ++ event ∷ [])) P new matched grows in
    let pairs : pairs_of (before ++ event ∷ []) ≡ P = pairs_of-push before event ∙ (ap (λ l. P ++ l) (pair_none before event none_met alone) ∙ append-nil P) in
    record {
      name = new;
      start = event.call;
      there = seam_name before event starts;
      made = named-new before event starts;
      free = ap (λ l. partner_of l new) pairs ∙ free;
      suited = suited;
    }

-- so it is the choice, where there was none
pub meets_new : (before : List Event) (event : Event) (me : ℕ) (call : Call) → IsAllMatched before → event.met ≡ [] → is_start (event.call, event.reply) ≡ true → mate_name before event.mate ≡ None
    → suits me call event.rank event.call ≡ true → TakesNone before event me call → choice before me call ≡ None → choice (before ++ event ∷ []) me call ≡ Some (length before)
meets_new before event me call matched none_met starts alone suited none was =
    elim (choice_behind before event me call matched none_met none) [
      | inl same ↦ absurd (choice_none (before ++ event ∷ []) me call (same ∙ was) (length before) (open_new before event me call matched none_met starts alone suited))
      | inr new ↦ new.now
    ]

-- of a receive and a send each suits the other
suits_back : (me : ℕ) (call : Call) (w : ℕ) (p : ℕ) (d : Call) → other_of call ≡ Some w → suits me call p d ≡ true → suits p d me call ≡ true
suits_back me (Post comm source tag room) w p (Send c dest t ints sync) names h = h
suits_back me (Post comm source tag room) w p d names h = absurd (cc)
suits_back me (Send comm dest tag ints sync) w p (Post c source t room) names h = h
suits_back me (Send comm dest tag ints sync) w p d names h = absurd (cc)
suits_back me call w p d names h = absurd (cc)

-- 2. the call behind the event

named_halt_at : (n : ℕ) (before : List Event) (me : ℕ) (own : View) (call : Call) (w : ℕ) → other_of call ≡ Some w → halt_at n before me own call ≡ None
named_halt_at n before me own (Post comm source tag room) w h = refl
named_halt_at n before me own (Send comm dest tag ints sync) w h = refl
named_halt_at n before me own call w h = absurd (cc)

pub named_due : (n : ℕ) (events : List Event) (me : ℕ) (call : Call) (w : ℕ) → other_of call ≡ Some w → halted events ≡ None → is_full events ≡ false
    → due n events me (view_of events me) call ≡ None
named_due n events me call w names halts full =
    free_due n events me call (record { halts = halts; full = full; own = named_halt_at n events me (view_of events me) call w names })

call_with : ℕ → Call → Reply → Option ℕ → Event
call_with me call reply mate = record { rank = me; call = call; reply = reply; mate = mate; met = [] }

-- it is the same but for its mate
named_again : (n : ℕ) (before after : List Event) (me : ℕ) (call : Call) (w : ℕ) → other_of call ≡ Some w → due n before me (view_of before me) call ≡ None
    → due n after me (view_of after me) call ≡ None → (mate : Option ℕ) → choice after me call ≡ mate
    → picked_event n after me call First ≡ with_mate (picked_event n before me call First) mate
named_again n before after me call w names none none' mate same =
    let one = named_event n before me call w names none in
    let two = named_event n after me call w names none' in
    let E : Reply → Option ℕ → Event = λ r m. record { rank = me; call = call; reply = r; mate = m; met = [] } in
    ap (E (picked_reply n after me call First)) (two.mate ∙ same) ∙ ap (λ r. E r mate) (two.reply ∙ sym one.reply)

-- 3. the event behind the call

-- the other rank's
calm_run : (next : Next) (n : ℕ) → Lawful next → (before : List Event) (q x : Event) → IsGood next n before → IsGood next n (before ++ q ∷ []) → IsPromptEvent next n before x
    → IsNumberedInOrder n before x → is_racy x.call ≡ false → (q.rank == x.rank) ≡ false → ((comm : ℕ) → is_on comm q.call ≡ false) → halted (before ++ q ∷ []) ≡ halted before
    → is_full (before ++ q ∷ []) ≡ is_full before → (IsStuck next n before → ⊥) → (mate : Option ℕ)
    → picked_mate (before ++ q ∷ []) x.rank x.call x.reply First ≡ mate → IsAllMatched ((before ++ q ∷ []) ++ with_mate x mate ∷ [])
    → IsGood next n ((before ++ q ∷ []) ++ with_mate x mate ∷ [])
calm_run next n lawful before q x good first step ordered calm apart off halts full unstuck mate mated matched =
    let after : List Event = before ++ q ∷ [] in
    let kept = kept_prompt next n before lawful good.run in
    let pick : Pick = pick_of n before x in
    let picked : IsPickedEvent n before x pick = event_picked next n before x kept.matched kept.below step ordered in
    let was : x ≡ picked_event n before x.rank x.call First = picked.event_is ∙ calm_event n before x.rank x.call pick calm picked.offered in
    let seen : view_of after x.rank ≡ view_of before x.rank = view_of-other before q x.rank apart in
    let same = due_off n before q off halts full x.rank seen x.call in
    let can : can_go n before x.rank (view_of before x.rank) x.call ≡ true = elim (allowed_goes next n before x.rank x.call x.reply step.reply) [
      | inl can ↦ can
      | inr stuck ↦ absurd (unstuck stuck)
    ] in
    let c = calmly n before q x.rank x.call calm kept.matched (made_in next n lawful before good.run) seen same can in
    let reply : picked_reply n after x.rank x.call First ≡ x.reply = c.reply ∙ sym (ap (λ (e : Event). e.reply) was) in
    let E : Reply → Option ℕ → Event = λ r m. record { rank = x.rank; call = x.call; reply = r; mate = m; met = [] } in
    let event : picked_event n after x.rank x.call First ≡ with_mate x mate =
    ap (λ r. E r (picked_mate after x.rank x.call r First)) reply ∙ (ap (E x.reply) mated ∙ ap (λ (l : List (Name × Name)). record { rank = x.rank; call = x.call; reply = x.reply; mate = mate; met = l }) (sym step.alone)) in
    let asked : call_after next n after x.rank ≡ Some x.call = ap (λ (v : View). next n x.rank (replies_in v)) seen ∙ step.call in
    let M : Event → Type 0 = λ e. IsAllMatched (after ++ e ∷ []) in
    let G : Event → Type 0 = λ e. IsGood next n (after ++ e ∷ []) in
    subst G event (step_on next n lawful after x.rank x.call First first step.rank asked refl (inl c.goes) (subst M (sym event) matched))

-- 4. mates

mate_none : (before : List Event) (me : ℕ) (call : Call) → mate_name before (choice before me call) ≡ None → choice before me call ≡ None
mate_none before me call h =
    elim (option_cases (choice before me call)) [
      | inl some ↦
          let o = (choice_some before me call some.0 some.1).chosen in
          let no : None ≡ Some o.name = sym h ∙ (ap (mate_name before) some.1 ∙ o.there) in
          absurd (cc)
      | inr none ↦ none
    ]

own_mate : (n : ℕ) (before : List Event) (x : Event) (pick : Pick) → IsPickedEvent n before x pick → x.mate ≡ picked_mate before x.rank x.call x.reply pick
own_mate n before x pick picked =
    ap (λ (e : Event). e.mate) picked.event_is ∙ ap (λ r. picked_mate before x.rank x.call r pick) (sym (ap (λ (e : Event). e.reply) picked.event_is))

pub idle_mate : (n : ℕ) (before : List Event) (x : Event) (pick : Pick) → IsPickedEvent n before x pick → is_start (x.call, x.reply) ≡ false → x.mate ≡ None
idle_mate n before x pick picked idle = (let none : picked_mate before x.rank x.call x.reply pick ≡ None = rw idle refl in own_mate n before x pick picked ∙ none)

suits_forth : (me : ℕ) (call : Call) (w : ℕ) (p : ℕ) (d : Call) → other_of call ≡ Some w → suits p d me call ≡ true → is_starting d ≡ true → suits me call p d ≡ true
suits_forth me (Post comm source tag room) w p (Send c dest t ints sync) names h starts = h
suits_forth me (Post comm source tag room) w p d names h starts = absurd (cc)
suits_forth me (Send comm dest tag ints sync) w p (Post c source t room) names h starts = h
suits_forth me (Send comm dest tag ints sync) w p d names h starts = absurd (cc)
suits_forth me call w p d names h starts = absurd (cc)

first_picked : (n : ℕ) (before : List Event) (x : Event) (pick : Pick) → is_racy x.call ≡ false → IsPickedEvent n before x pick → IsPickedEvent n before x First
first_picked n before x pick calm picked =
    record { offered = refl; event_is = picked.event_is ∙ calm_event n before x.rank x.call pick calm picked.offered }

-- 5. both in either order

pub record IsNamedWith (next : Next) (n : ℕ) (before : List Event) (me : ℕ) (call : Call) (w : ℕ) (x : Event) : Type 0 where
  pub good : IsGood next n before
  pub is : IsNamedAsked next n before me call w
  pub step : IsPromptEvent next n before x
  pub ordered : IsNumberedInOrder n before x
  pub apart : (x.rank == me) ≡ false
  pub calm : x.rank ≡ w → is_racy x.call ≡ false
  pub full : is_full (before ++ picked_event n before me call First ∷ []) ≡ false

pub record IsSwapped (next : Next) (n : ℕ) (before : List Event) (me : ℕ) (call : Call) (x q : Event) : Type 0 where
  pub later : Event
  pub mate : Option ℕ
  pub later_is : picked_event n (before ++ x ∷ []) me call First ≡ later
  pub reply : later.reply ≡ q.reply
  pub good : IsGood next n ((before ++ q ∷ []) ++ with_mate x mate ∷ [])
  pub future : SameFuture n ((before ++ x ∷ []) ++ later ∷ []) ((before ++ q ∷ []) ++ with_mate x mate ∷ [])
  pub probe : IsProbeKept before x → IsProbeKept (before ++ q ∷ []) (with_mate x mate)
  pub own : IsProbeKept before q → IsProbeKept (before ++ x ∷ []) later

-- the same, but for the call's own event behind the other one
pub record IsMadeBehind (next : Next) (n : ℕ) (before : List Event) (x q : Event) : Type 0 where
  pub mate : Option ℕ
  pub good : IsGood next n ((before ++ q ∷ []) ++ with_mate x mate ∷ [])
  pub probe : IsProbeKept before x → IsProbeKept (before ++ q ∷ []) (with_mate x mate)

not_equal : (a b : ℕ) → (a == b) ≡ false → a ≡ b → ⊥
not_equal a b apart e = (let no : true ≡ false = sym (eq-eqb a b e) ∙ apart in cc)

-- an event that keeps its mate can be made behind the call
same_run : (next : Next) (n : ℕ) → Lawful next → (before : List Event) (me : ℕ) (call : Call) (w : ℕ) (x : Event) → IsNamedWith next n before me call w x
    → IsAllMatched ((before ++ picked_event n before me call First ∷ []) ++ x ∷ [])
    → (is_start (x.call, x.reply) ≡ true → choice (before ++ picked_event n before me call First ∷ []) x.rank x.call ≡ choice before x.rank x.call)
    → IsGood next n ((before ++ picked_event n before me call First ∷ []) ++ x ∷ [])
same_run next n lawful before me call w x i matched same =
    let q : Event = picked_event n before me call First in
    let kept = kept_prompt next n before lawful i.good.run in
    let parts = free_parts n before me call i.is.none in
    let first = named_first_run next n lawful before me call w i.good i.is in
    let full : is_full (before ++ q ∷ []) ≡ is_full before = i.full ∙ sym parts.full in
    let apart : (me == x.rank) ≡ false = other_way x.rank me i.apart in
    elim (test_cases (x.rank == w)) [
      | inl t ↦
          let calm : is_racy x.call ≡ false = i.calm (eqb-true x.rank w t) in
          let pick : Pick = pick_of n before x in
          let picked = first_picked n before x pick calm (event_picked next n before x kept.matched kept.below i.step i.ordered) in
          let mate : picked_mate (before ++ q ∷ []) x.rank x.call x.reply First ≡ x.mate = elim (test_cases (is_start (x.call, x.reply))) [
            | inl s ↦
                let now : picked_mate (before ++ q ∷ []) x.rank x.call x.reply First ≡ choice (before ++ q ∷ []) x.rank x.call = rw s refl in
                let was : picked_mate before x.rank x.call x.reply First ≡ choice before x.rank x.call = rw s refl in
                now ∙ (same s ∙ sym (own_mate n before x First picked ∙ was))
            | inr s ↦
                let now : picked_mate (before ++ q ∷ []) x.rank x.call x.reply First ≡ None = rw s refl in
                now ∙ sym (idle_mate n before x First picked s)
          ] in
          calm_run next n lawful before q x i.good first i.step i.ordered calm apart (λ comm. named_off comm call w i.is.names)
          (named_halts n before me call w i.is.names i.is.none) full (named_unstuck next n before me call w i.is) x.mate mate matched
      | inr other ↦
          other_run next n lawful before q x i.good first i.step i.ordered
          (leaves_others next n lawful before me call w i.good i.is full x.rank apart (not_equal x.rank w other)) (named_unstuck next n before me call w i.is) matched
    ]

record IsBeside (next : Next) (n : ℕ) (before : List Event) (me : ℕ) (x q : Event) : Type 0 where
  good : IsGood next n ((before ++ q ∷ []) ++ x ∷ [])
  future : SameFuture n ((before ++ x ∷ []) ++ q ∷ []) ((before ++ q ∷ []) ++ x ∷ [])
  probe : IsProbeKept before x → IsProbeKept (before ++ q ∷ []) x
  own : IsProbeKept before q → IsProbeKept (before ++ x ∷ []) q

beside_behind : (next : Next) (n : ℕ) → Lawful next → (before : List Event) (me : ℕ) (call : Call) (w : ℕ) (x : Event) → IsNamedWith next n before me call w x
    → choice (before ++ x ∷ []) me call ≡ choice before me call → IsBeside next n before me x (picked_event n before me call First)
beside_behind next n lawful before me call w x i same =
    let q : Event = picked_event n before me call First in
    let kept = kept_prompt next n before lawful i.good.run in
    let e = named_event n before me call w i.is.names i.is.none in
    let first = named_first_run next n lawful before me call w i.good i.is in
    let apart : (me == x.rank) ≡ false = other_way x.rank me i.apart in
    let picked = event_picked next n before x kept.matched kept.below i.step i.ordered in
    let xs : HasStart before x = picked_start n before x (pick_of n before x) picked in
    let qs : HasStart before q = named_start n before me call w i.is.names i.is.none in
    let none : TakesNone before x me call = takes_beside before me call w x i.is.names i.is.plain xs (not_equal x.rank me i.apart) in
    let qmate : HasMate before q = (IsPromptRun-event next n before [] q first.run).mate in
    let qm : mate_name (before ++ x ∷ []) q.mate ≡ mate_name before q.mate = mate_stays before (x ∷ []) q qmate in
    let xm : mate_name (before ++ q ∷ []) x.mate ≡ mate_name before x.mate = mate_stays before (q ∷ []) x i.step.mate in
    let future : SameFuture n ((before ++ x ∷ []) ++ q ∷ []) ((before ++ q ∷ []) ++ x ∷ []) =
    future_beside n before x q w i.step.alone refl i.is.names i.apart apart xs qs none qm xm in
    let behind : IsAllMatched ((before ++ x ∷ []) ++ q ∷ []) = matched_chosen (before ++ x ∷ []) q i.step.matched e.starts (e.mate ∙ sym same) refl in
    let matched : IsAllMatched ((before ++ q ∷ []) ++ x ∷ []) = matched_same n ((before ++ x ∷ []) ++ q ∷ []) ((before ++ q ∷ []) ++ x ∷ []) future behind in
    let stays : is_start (x.call, x.reply) ≡ true → choice (before ++ q ∷ []) x.rank x.call ≡ choice before x.rank x.call =
    λ s. elim (choice_behind before q x.rank x.call kept.matched refl (takes_apart n before me call w i.is.names i.is.none i.is.plain x.rank x.call (not_equal me x.rank apart))) [
      | inl as_was ↦ as_was
      | inr new ↦
          let rank : x.rank ≡ w = other_suits x.rank x.call me call w i.is.names new.suited in
          let mine = first_picked n before x (pick_of n before x) (i.calm rank) picked in
          let was : picked_mate before x.rank x.call x.reply First ≡ choice before x.rank x.call = rw s refl in
          let alone : mate_name before x.mate ≡ None = ap (mate_name before) (own_mate n before x First mine ∙ (was ∙ new.was)) in
          let starting : is_starting x.call ≡ true = (and_parts (is_starting x.call) (is_done x.reply) s).0 in
          let free : choice before me call ≡ None = mate_none before me call (ap (mate_name before) (sym e.mate) ∙ new.alone) in
          let seen : choice (before ++ x ∷ []) me call ≡ Some (length before) =
          meets_new before x me call kept.matched i.step.alone s alone (suits_forth me call w x.rank x.call i.is.names new.suited starting) none free in
          let no : None ≡ Some (length before) = sym free ∙ (sym same ∙ seen) in
          absurd (cc)
    ] in
    record {
      good = same_run next n lawful before me call w x i matched stays;
      future = future;
      probe = λ probe. probe_on before (before ++ q ∷ []) x (view_of-other before q x.rank apart) xm probe;
      own = λ probe. probe_on before (before ++ x ∷ []) q (view_of-other before x me i.apart) qm probe;
    }

beside_case : (next : Next) (n : ℕ) → Lawful next → (before : List Event) (me : ℕ) (call : Call) (w : ℕ) (x : Event) → IsNamedWith next n before me call w x
    → halted (before ++ x ∷ []) ≡ None → is_full (before ++ x ∷ []) ≡ false → choice (before ++ x ∷ []) me call ≡ choice before me call
    → IsSwapped next n before me call x (picked_event n before me call First)
beside_case next n lawful before me call w x i halts room same =
    let q : Event = picked_event n before me call First in
    let e = named_event n before me call w i.is.names i.is.none in
    let b = beside_behind next n lawful before me call w x i same in
    let due' = named_due n (before ++ x ∷ []) me call w i.is.names halts room in
    record {
      later = q;
      mate = x.mate;
      later_is = named_again n before (before ++ x ∷ []) me call w i.is.names i.is.none due' (choice before me call) same ∙ ap (with_mate q) (sym e.mate);
      reply = refl;
      good = b.good;
      future = b.future;
      probe = b.probe;
      own = b.own;
    }

-- where an event took nothing, no probe before it found anything
no_probe : (before after : List Event) (event other : Event) → view_of after other.rank ≡ view_of before event.rank → other.call ≡ event.call → other.reply ≡ event.reply
    → mate_name before event.mate ≡ None → IsProbeKept before event → IsProbeKept after other
no_probe before after event other view called replied none kept earlier comm source tag wait room sender start sent count seen posted done =
    let pair : Name = (sender, start) in
    let found : mate_name before event.mate ≡ Some pair = kept earlier comm source tag wait room sender start sent count (sym view ∙ seen) (sym called ∙ posted) (sym replied ∙ done) in
    let no : None ≡ Some pair = sym none ∙ found in
    absurd (cc)

record IsCrossed (next : Next) (n : ℕ) (before : List Event) (x q : Event) (at : Option ℕ) : Type 0 where
  good : IsGood next n ((before ++ q ∷ []) ++ with_mate x at ∷ [])
  future : SameFuture n ((before ++ x ∷ []) ++ with_mate q at ∷ []) ((before ++ q ∷ []) ++ with_mate x at ∷ [])
  probe : IsProbeKept before x → IsProbeKept (before ++ q ∷ []) (with_mate x at)
  own : IsProbeKept before q → IsProbeKept (before ++ x ∷ []) (with_mate q at)

crossed_behind : (next : Next) (n : ℕ) → Lawful next → (before : List Event) (me : ℕ) (call : Call) (w : ℕ) (x : Event) → IsNamedWith next n before me call w x
    → IsNewChoice before x me call → IsCrossed next n before x (picked_event n before me call First) (Some (length before))
crossed_behind next n lawful before me call w x i new =
    let q : Event = picked_event n before me call First in
    let at : Option ℕ = Some (length before) in
    let kept = kept_prompt next n before lawful i.good.run in
    let parts = free_parts n before me call i.is.none in
    let e = named_event n before me call w i.is.names i.is.none in
    let first = named_first_run next n lawful before me call w i.good i.is in
    let apart : (me == x.rank) ≡ false = other_way x.rank me i.apart in
    let calm : is_racy x.call ≡ false = i.calm (suits_other me call w x.rank x.call i.is.names new.suited) in
    let picked = first_picked n before x (pick_of n before x) calm (event_picked next n before x kept.matched kept.below i.step i.ordered) in
    let q_none : mate_name before q.mate ≡ None = ap (mate_name before) (e.mate ∙ new.was) in
    let future : SameFuture n ((before ++ x ∷ []) ++ with_mate q at ∷ []) ((before ++ q ∷ []) ++ with_mate x at ∷ []) =
    future_crossed n before x q w i.step.alone refl i.is.names i.apart apart new.starts e.starts new.alone q_none in
    let behind : IsAllMatched ((before ++ x ∷ []) ++ with_mate q at ∷ []) = matched_chosen (before ++ x ∷ []) (with_mate q at) i.step.matched e.starts (sym new.now) refl in
    let matched : IsAllMatched ((before ++ q ∷ []) ++ with_mate x at ∷ []) =
    matched_same n ((before ++ x ∷ []) ++ with_mate q at ∷ []) ((before ++ q ∷ []) ++ with_mate x at ∷ []) future behind in
    let was : picked_mate before x.rank x.call x.reply First ≡ choice before x.rank x.call = rw new.starts refl in
    let free : choice before x.rank x.call ≡ None = mate_none before x.rank x.call (ap (mate_name before) (sym (own_mate n before x First picked ∙ was)) ∙ new.alone) in
    let seen : choice (before ++ q ∷ []) x.rank x.call ≡ at =
    meets_new before q x.rank x.call kept.matched refl e.starts q_none (suits_back me call w x.rank x.call i.is.names new.suited)
    (takes_apart n before me call w i.is.names i.is.none i.is.plain x.rank x.call (not_equal me x.rank apart)) free in
    let opened : picked_mate (before ++ q ∷ []) x.rank x.call x.reply First ≡ choice (before ++ q ∷ []) x.rank x.call = rw new.starts refl in
    record {
      good = calm_run next n lawful before q x i.good first i.step i.ordered calm apart (λ comm. named_off comm call w i.is.names)
          (named_halts n before me call w i.is.names i.is.none) (i.full ∙ sym parts.full) (named_unstuck next n before me call w i.is) at (opened ∙ seen) matched;
      future = future;
      probe = no_probe before (before ++ q ∷ []) x (with_mate x at) (view_of-other before q x.rank apart) refl refl new.alone;
      own = no_probe before (before ++ x ∷ []) q (with_mate q at) (view_of-other before x me i.apart) refl refl q_none;
    }

crossed_case : (next : Next) (n : ℕ) → Lawful next → (before : List Event) (me : ℕ) (call : Call) (w : ℕ) (x : Event) → IsNamedWith next n before me call w x
    → halted (before ++ x ∷ []) ≡ None → is_full (before ++ x ∷ []) ≡ false → IsNewChoice before x me call
    → IsSwapped next n before me call x (picked_event n before me call First)
crossed_case next n lawful before me call w x i halts room new =
    let q : Event = picked_event n before me call First in
    let at : Option ℕ = Some (length before) in
    let c = crossed_behind next n lawful before me call w x i new in
    let due' = named_due n (before ++ x ∷ []) me call w i.is.names halts room in
    record {
      later = with_mate q at;
      mate = at;
      later_is = named_again n before (before ++ x ∷ []) me call w i.is.names i.is.none due' at new.now;
      reply = refl;
      good = c.good;
      future = c.future;
      probe = c.probe;
      own = c.own;
    }

pub named_swapped : (next : Next) (n : ℕ) → Lawful next → (before : List Event) (me : ℕ) (call : Call) (w : ℕ) (x : Event) → IsNamedWith next n before me call w x
    → halted (before ++ x ∷ []) ≡ None → is_full (before ++ x ∷ []) ≡ false → IsSwapped next n before me call x (picked_event n before me call First)
named_swapped next n lawful before me call w x i halts room =
    let kept = kept_prompt next n before lawful i.good.run in
    let picked = event_picked next n before x kept.matched kept.below i.step i.ordered in
    let xs : HasStart before x = picked_start n before x (pick_of n before x) picked in
    elim (choice_behind before x me call kept.matched i.step.alone (takes_beside before me call w x i.is.names i.is.plain xs (not_equal x.rank me i.apart))) [
      | inl same ↦ beside_case next n lawful before me call w x i halts room same
      | inr new ↦ crossed_case next n lawful before me call w x i halts room new
    ]

-- the other event behind the call, whatever the size of it
pub named_behind : (next : Next) (n : ℕ) → Lawful next → (before : List Event) (me : ℕ) (call : Call) (w : ℕ) (x : Event) → IsNamedWith next n before me call w x
    → IsMadeBehind next n before x (picked_event n before me call First)
named_behind next n lawful before me call w x i =
    let kept = kept_prompt next n before lawful i.good.run in
    let picked = event_picked next n before x kept.matched kept.below i.step i.ordered in
    let xs : HasStart before x = picked_start n before x (pick_of n before x) picked in
    elim (choice_behind before x me call kept.matched i.step.alone (takes_beside before me call w x i.is.names i.is.plain xs (not_equal x.rank me i.apart))) [
      | inl same ↦ (let b = beside_behind next n lawful before me call w x i same in record { mate = x.mate; good = b.good; probe = b.probe })
      | inr new ↦ (let c = crossed_behind next n lawful before me call w x i new in record { mate = Some (length before); good = c.good; probe = c.probe })
    ]

-- 6. a halt behind the call

pub named_halting : (next : Next) (n : ℕ) → Lawful next → (before : List Event) (me : ℕ) (call : Call) (w : ℕ) (x : Event) (halt : Halt) → IsNamedWith next n before me call w x
    → x.reply ≡ Stopped halt → IsGood next n ((before ++ picked_event n before me call First ∷ []) ++ x ∷ [])
named_halting next n lawful before me call w x halt i stopped =
    let q : Event = picked_event n before me call First in
    let kept = kept_prompt next n before lawful i.good.run in
    let first = named_first_run next n lawful before me call w i.good i.is in
    let picked = event_picked next n before x kept.matched kept.below i.step i.ordered in
    let idle : is_start (x.call, x.reply) ≡ false = ap (λ r. is_start (x.call, r)) stopped ∙ and_right (is_starting x.call) false refl in
    let alone : x.mate ≡ None = idle_mate n before x (pick_of n before x) picked idle in
    let matched : IsAllMatched ((before ++ q ∷ []) ++ x ∷ []) = matched_idle (before ++ q ∷ []) x idle alone i.step.alone (kept_prompt next n (before ++ q ∷ []) lawful first.run).matched in
    same_run next n lawful before me call w x i matched (λ s. (let no : true ≡ false = sym s ∙ idle in absurd (cc)))
