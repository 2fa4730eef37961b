-- A call that names the other rank can be made before an event of another rank, if the other rank makes no racy call.
use Rattle.std.proofs.Common.{◌≡◌, ◌<◌, ◌∙◌, ◌++◌, ◌==◌, ◌∷◌, ℕ, List, [], Some, None, true, false, inl, inr, is_some, refl, ap, sym, subst}
use Rattle.std.proofs.lemmas.Bool.{and_from, eq-eqb, or_right}
use Rattle.mpi_call.specs.declared.call.Call.{Call}
use Rattle.mpi_call.specs.declared.call.Call.TheVariants.{Send, Post, Peek}
use Rattle.mpi_call.specs.declared.call.Source.{Source}
use Rattle.mpi_call.specs.declared.call.Tag.{Tag}
use Rattle.mpi_call.specs.declared.reply.Reply.{Reply}
use Rattle.mpi_call.specs.declared.reply.Reply.TheVariants.{Done}
use Rattle.mpi_call.specs.Calls.{is_starting}
use Rattle.run_model.specs.declared.event.Event.{Event}
use Rattle.run_model.specs.Allowed.{IsStuck, can_go, has_open, is_prompt}
use Rattle.run_model.specs.Choice.{choice, suits}
use Rattle.run_model.specs.Chosen.{message_of_pair, message_of}
use Rattle.run_model.specs.Due.{due, halt_of_reply, halted, is_full, or_else}
use Rattle.run_model.specs.Pairs.{IsAllMatched, Name, named, pairs_of, partner_of}
use Rattle.run_model.specs.Serial.{call_after}
use Rattle.run_model.specs.Views.{Next, View, is_start, view_of}
use Rattle.run_model.proofs.Choosing.{choice_some}
use Rattle.run_model.proofs.ChosenProbes.{peek_missed, peek_there}
use Rattle.run_model.proofs.Origins.{AllBelow}
use Rattle.run_model.proofs.Prompt.{kept_prompt}
use Rattle.run_model.proofs.RunLaws.{Lawful}
use Rattle.run_model.proofs.Views.{option_cases, test_cases, view_of-other}
use Rattle.picked_runs.specs.declared.turn.Pick.{Pick}
use Rattle.picked_runs.specs.declared.turn.Pick.TheVariants.{First}
use Rattle.picked_runs.specs.Picked.{IsPickedEvent}
use Rattle.picked_runs.specs.Picks.{looking, picked_answer, picked_event, picked_mate, picked_reply}
use Rattle.run_states.specs.Futures.{mate_name}
use Rattle.quiet_calls.proofs.Named.{named_makes, named_off, named_starts, other_of, other_suits, suits_apart, suits_looking, suits_other, takes_any}
use Rattle.quiet_calls.proofs.Beside.{named_on}
use Rattle.quiet_calls.proofs.Unseen.{LeavesAlone}
use Rattle.quiet_calls.proofs.Staying.{reply_answer, there_of}
use Rattle.quiet_calls.proofs.Runs.{IsGood, step_on}
use Rattle.quiet_calls.proofs.Commuting.{halted_more, or_else-last}
use Rattle.quiet_calls.proofs.Meeting.{TakesNone, choice_behind}
use Rattle.quiet_calls.proofs.Matching.{matched_chosen}
use Rattle.quiet_calls.proofs.Crossing.{HasStart, enters_off, made_off, pair_other, partner_beside}

-- 1. the call

pub record IsNamedAsked (next : Next) (n : ℕ) (before : List Event) (me : ℕ) (call : Call) (w : ℕ) : Type 0 where
  pub below : me < n
  pub asked : call_after next n before me ≡ Some call
  pub names : other_of call ≡ Some w
  pub none : due n before me (view_of before me) call ≡ None
  pub plain : (name : Name) (start : Call) → named before name ≡ Some start → name.0 ≡ w → takes_any start ≡ false

named_answer : (n : ℕ) (before : List Event) (me : ℕ) (own : View) (call : Call) (w : ℕ) → other_of call ≡ Some w → picked_answer n before me own call First ≡ Done
named_answer n before me own (Post comm source tag room) w h = refl
named_answer n before me own (Send comm dest tag ints sync) w h = refl
named_answer n before me own call w h = absurd (cc)

named_prompt : (n : ℕ) (before : List Event) (me : ℕ) (own : View) (call : Call) (w : ℕ) → other_of call ≡ Some w → is_prompt n before me own call ≡ true
named_prompt n before me own (Post comm source tag room) w h = refl
named_prompt n before me own (Send comm dest tag ints sync) w h = refl
named_prompt n before me own call w h = absurd (cc)

pub named_goes : (next : Next) (n : ℕ) (before : List Event) (me : ℕ) (call : Call) (w : ℕ) → IsNamedAsked next n before me call w → can_go n before me (view_of before me) call ≡ true
named_goes next n before me call w is =
    or_right (is_some (due n before me (view_of before me) call)) (is_prompt n before me (view_of before me) call) (named_prompt n before me (view_of before me) call w is.names)

pub named_unstuck : (next : Next) (n : ℕ) (before : List Event) (me : ℕ) (call : Call) (w : ℕ) → IsNamedAsked next n before me call w → IsStuck next n before → ⊥
named_unstuck next n before me call w is stuck =
    let no : true ≡ false = sym (named_goes next n before me call w is) ∙ stuck me call is.below is.asked in
    cc

pub record IsNamedEvent (before : List Event) (me : ℕ) (call : Call) (q : Event) : Type 0 where
  pub reply : q.reply ≡ Done
  pub starts : is_start (q.call, q.reply) ≡ true
  pub mate : q.mate ≡ choice before me call

pub named_event : (n : ℕ) (before : List Event) (me : ℕ) (call : Call) (w : ℕ) → other_of call ≡ Some w → due n before me (view_of before me) call ≡ None
    → IsNamedEvent before me call (picked_event n before me call First)
named_event n before me call w names none =
    let reply : picked_reply n before me call First ≡ Done = reply_answer n before me call First none ∙ named_answer n before me (view_of before me) call w names in
    let starts : is_start (call, picked_reply n before me call First) ≡ true =
    ap (λ r. is_start (call, r)) reply ∙ and_from (is_starting call) true (named_starts call w names) refl in
    record { reply = reply; starts = starts; mate = rw starts refl }

-- 2. what events take

pub has_start : (before : List Event) (event : Event) (seen : Call) → event.mate ≡ choice before event.rank seen
    → ((owner : ℕ) (start : Call) → suits event.rank seen owner start ≡ true → suits event.rank event.call owner start ≡ true) → HasStart before event
has_start before event seen mate widen name h =
    elim (option_cases (choice before event.rank seen)) [
      | inl some ↦
          let o = (choice_some before event.rank seen some.0 some.1).chosen in
          let there : mate_name before event.mate ≡ Some o.name = ap (mate_name before) (mate ∙ some.1) ∙ o.there in
          let both : Some o.name ≡ Some name = sym there ∙ h in
          let same : o.name ≡ name = cc in
          let F : Name → Type 0 = λ x. (start : Call) × (named before x ≡ Some start) × (suits event.rank event.call x.0 start ≡ true) in
          subst F same (o.start, o.made, widen o.name.0 o.start o.suited)
      | inr none ↦ (let no : None ≡ Some name = sym (ap (mate_name before) (mate ∙ none)) ∙ h in absurd (cc))
    ]

pub named_start : (n : ℕ) (before : List Event) (me : ℕ) (call : Call) (w : ℕ) → other_of call ≡ Some w → due n before me (view_of before me) call ≡ None
    → HasStart before (picked_event n before me call First)
named_start n before me call w names none =
    has_start before (picked_event n before me call First) call (named_event n before me call w names none).mate (λ owner start h. h)

idle_start : (before : List Event) (event : Event) → event.mate ≡ None → HasStart before event
idle_start before event mate name h = (let no : None ≡ Some name = sym (ap (mate_name before) mate) ∙ h in absurd (cc))

pub picked_start : (n : ℕ) (before : List Event) (x : Event) (pick : Pick) → IsPickedEvent n before x pick → HasStart before x
picked_start n before x pick picked =
    let reply : Reply = picked_reply n before x.rank x.call pick in
    let mate : x.mate ≡ picked_mate before x.rank x.call reply pick = ap (λ (e : Event). e.mate) picked.event_is in
    elim (test_cases (is_start (x.call, reply))) [
      | inl t ↦
          let chosen : picked_mate before x.rank x.call reply pick ≡ choice before x.rank (looking x.call pick) = rw t refl in
          has_start before x (looking x.call pick) (mate ∙ chosen) (λ owner start h. suits_looking x.rank x.call pick owner start h)
      | inr t ↦
          let none : picked_mate before x.rank x.call reply pick ≡ None = rw t refl in
          idle_start before x (mate ∙ none)
    ]

-- the call takes nothing that a call of another rank suits
pub takes_apart : (n : ℕ) (before : List Event) (me : ℕ) (call : Call) (w : ℕ) → other_of call ≡ Some w → due n before me (view_of before me) call ≡ None
    → ((name : Name) (start : Call) → named before name ≡ Some start → name.0 ≡ w → takes_any start ≡ false) → (p : ℕ) (d : Call) → (me ≡ p → ⊥)
    → TakesNone before (picked_event n before me call First) p d
takes_apart n before me call w names none plain p d apart name start h made suited =
    let s = named_start n before me call w names none name h in
    let both : Some s.0 ≡ Some start = sym s.1 ∙ made in
    let same : s.0 ≡ start = cc in
    let F : Call → Type 0 = λ c. suits me call name.0 c ≡ true in
    let mine : suits me call name.0 start ≡ true = subst F same s.2 in
    apart (sym (suits_apart me call w name.0 start p d names (plain name start made (suits_other me call w name.0 start names mine)) mine suited))

-- and another rank's event takes nothing that the call suits
pub takes_beside : (before : List Event) (me : ℕ) (call : Call) (w : ℕ) (x : Event) → other_of call ≡ Some w
    → ((name : Name) (start : Call) → named before name ≡ Some start → name.0 ≡ w → takes_any start ≡ false) → HasStart before x → (x.rank ≡ me → ⊥) → TakesNone before x me call
takes_beside before me call w x names plain has apart name start h made suited =
    let s = has name h in
    let both : Some s.0 ≡ Some start = sym s.1 ∙ made in
    let same : s.0 ≡ start = cc in
    let F : Call → Type 0 = λ c. suits x.rank x.call name.0 c ≡ true in
    let yours : suits x.rank x.call name.0 start ≡ true = subst F same s.2 in
    apart (suits_apart me call w name.0 start x.rank x.call names (plain name start made (suits_other me call w name.0 start names suited)) suited yours)

-- 3. the run with the call

pub named_first_run : (next : Next) (n : ℕ) → Lawful next → (before : List Event) (me : ℕ) (call : Call) (w : ℕ) → IsGood next n before → IsNamedAsked next n before me call w
    → IsGood next n (before ++ picked_event n before me call First ∷ [])
named_first_run next n lawful before me call w good is =
    let e = named_event n before me call w is.names is.none in
    step_on next n lawful before me call First good is.below is.asked refl (inl (named_goes next n before me call w is))
    (matched_chosen before (picked_event n before me call First) (kept_prompt next n before lawful good.run).matched e.starts e.mate refl)

pub named_halts : (n : ℕ) (before : List Event) (me : ℕ) (call : Call) (w : ℕ) → other_of call ≡ Some w → due n before me (view_of before me) call ≡ None
    → halted (before ++ picked_event n before me call First ∷ []) ≡ halted before
named_halts n before me call w names none =
    halted_more before (picked_event n before me call First)
    ∙ (ap (λ r. or_else (halted before) (halt_of_reply r)) (named_event n before me call w names none).reply ∙ or_else-last (halted before))

-- 4. ranks that it leaves alone

pub open_by : (n : ℕ) (one other : List Event) → AllBelow n one → AllBelow n other → (me comm : ℕ) (source : Source) (tag : Tag)
    → choice one me (Peek comm source tag true) ≡ choice other me (Peek comm source tag true) → has_open n one me comm source tag ≡ has_open n other me comm source tag
open_by n one other all all' me comm source tag same =
    elim (option_cases (choice other me (Peek comm source tag true))) [
      | inl some ↦ peek_there n one me comm source tag true some.0 all (same ∙ some.1) ∙ sym (peek_there n other me comm source tag true some.0 all' some.1)
      | inr none ↦ peek_missed n one me comm source tag true (same ∙ none) ∙ sym (peek_missed n other me comm source tag true none)
    ]

given_on : (before : List Event) (event : Event) (name : Name) → IsAllMatched before
    → message_of (before ++ event ∷ []) (partner_of (pairs_of before) name) ≡ message_of before (partner_of (pairs_of before) name)
given_on before event name matched =
    elim (option_cases (partner_of (pairs_of before) name)) [
      | inl some ↦
          let there = there_of before name some.0 matched some.1 in
          ap (message_of (before ++ event ∷ [])) some.1
          ∙ (ap (message_of_pair some.0) (named_on before (event ∷ []) some.0 there.0 there.1 ∙ sym there.1) ∙ sym (ap (message_of before) some.1))
      | inr none ↦ ap (message_of (before ++ event ∷ [])) none ∙ sym (ap (message_of before) none)
    ]

pub leaves_others : (next : Next) (n : ℕ) → Lawful next → (before : List Event) (me : ℕ) (call : Call) (w : ℕ) → IsGood next n before → IsNamedAsked next n before me call w
    → is_full (before ++ picked_event n before me call First ∷ []) ≡ is_full before → (p : ℕ) → (me == p) ≡ false → (p ≡ w → ⊥)
    → LeavesAlone n before (picked_event n before me call First) p
leaves_others next n lawful before me call w good is full p apart other =
    let q : Event = picked_event n before me call First in
    let after : List Event = before ++ q ∷ [] in
    let kept = kept_prompt next n before lawful good.run in
    let kept' = kept_prompt next n after lawful (named_first_run next n lawful before me call w good is).run in
    let beside : me ≡ p → ⊥ = λ e. (let no : true ≡ false = sym (eq-eqb me p e) ∙ apart in cc) in
    let choices : (d : Call) → choice after p d ≡ choice before p d =
    λ d. elim (choice_behind before q p d kept.matched refl (takes_apart n before me call w is.names is.none is.plain p d beside)) [
      | inl same ↦ same
      | inr new ↦ absurd (other (other_suits p d me call w is.names new.suited))
    ] in
    record {
      own = view_of-other before q p apart;
      halts = named_halts n before me call w is.names is.none;
      full = full;
      enters = λ comm instance m. enters_off n before q (λ c. named_off c call w is.names) comm instance m;
      made = made_off n before q (λ gathered instance. named_makes gathered instance call w is.names);
      paired = λ k. partner_beside before q (p, k) (pair_other before q (p, k) refl (named_start n before me call w is.names is.none)
          (λ start suited. other (suits_other me call w p start is.names suited)) beside);
      given = λ k. given_on before q (p, k) kept.matched;
      choices = choices;
      opens = λ comm source tag. open_by n after before kept'.below kept.below p comm source tag (choices (Peek comm source tag true));
    }
