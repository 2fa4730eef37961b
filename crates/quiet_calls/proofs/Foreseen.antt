-- Where a search follows one quiet call alone, what holds of all that it has met holds of all that goes on from there without a halt: it is far below
-- the bound, its calls are reckoned with, and its Enters agree.
use Rattle.std.proofs.Common.{◌≡◌, ◌<◌, ◌≤◌, ◌⊎◌, ◌∙◌, ◌++◌, ◌==◌, ◌+◌, ◌&&◌, ◌||◌, ◌∷◌, ℕ, zero, suc, List, [], Option, Some, None, Bool, true, false, append-nil, append_assoc, inl, inr, is_some, length, refl, ap, sym, subst}
use Rattle.std.proofs.lemmas.Bool.{and_from, eqb-true, or_right}
use Rattle.mpi_call.specs.declared.call.Call.{Call}
use Rattle.mpi_call.specs.declared.limits.TheConstants.{MOST_EVENTS}
use Rattle.mpi_call.specs.declared.call.Call.TheVariants.{Enter}
use Rattle.mpi_call.specs.Calls.{is_enter}
use Rattle.mpi_call.specs.Collectives.{agree}
use Rattle.mpi_call.proofs.NeedsLemmas.{agree-refl}
use Rattle.mpi_call.specs.Lists.{IsIn}
use Rattle.run_model.specs.declared.event.Event.{Event}
use Rattle.run_model.specs.Due.{halt_of_reply, halted, is_mismatched, or_else}
use Rattle.run_model.specs.Lists.{Along}
use Rattle.run_model.specs.Run.{IsPromptEvent}
use Rattle.run_model.specs.Serial.{call_after}
use Rattle.run_model.specs.Views.{Next, View, replies_in, view_of}
use Rattle.run_model.proofs.Along.{Along-back, Along-snoc}
use Rattle.run_model.proofs.RunLaws.{Lawful}
use Rattle.run_model.proofs.Taken.{none_parts}
use Rattle.run_model.proofs.Views.{test_cases, view_of-append, view_of-other}
use Rattle.picked_runs.specs.Numbering.{IsNumberedInOrder}
use Rattle.picked_runs.specs.declared.turn.Pick.TheVariants.{First}
use Rattle.picked_runs.specs.Picks.{picked_event}
use Rattle.srr_entry.specs.Outputs.{Output}
use Rattle.run_states.specs.Futures.{SameFuture}
use Rattle.run_states.specs.Moves.{IsVisited}
use Rattle.run_states.specs.Outcomes.{IsPatientEvent, IsProbeKept, vain_in}
use Rattle.run_states.specs.StateLaws.{EveryStepIsMade, FuturesAreSame, IsMadeStep, IsPatientStep}
use Rattle.quiet_calls.specs.Quiet.{IsAgreed, Races, is_calm, is_quiet, is_reckoned}
use Rattle.quiet_calls.specs.Closure.{AreMovesMet, IsFarBelow, IsOnItsWay, IsQuietCallMet}
use Rattle.quiet_calls.proofs.Agreed.{AreAllReckonedWith, at_most, is_longer, none_left, one_less}
use Rattle.quiet_calls.proofs.Room.{HasRoom, not_full, room_like, room_put}
use Rattle.quiet_calls.proofs.Runs.{IsGood}
use Rattle.quiet_calls.proofs.Swapping.{other_way, views_swapped}
use Rattle.quiet_calls.proofs.Commuting.{halted_append, halted_more}
use Rattle.quiet_calls.proofs.Crossing.{with_mate}
use Rattle.quiet_calls.proofs.NamedSwap.{IsMadeBehind}
use Rattle.quiet_calls.proofs.Diamond.{IsFirst, enter_kind, event_behind, first_good, first_halts, own_first}
use Rattle.quiet_calls.proofs.Fronting.{GoesBehind, IsMoved, IsPutIn, goes_behind, has_event, later_size, same_as}
use Rattle.quiet_calls.proofs.GoingFirst.{along_join, quiet_first, unseen_view}
use Rattle.quiet_calls.proofs.FarBelow.{below_put, below_same, room_far}
use Rattle.quiet_calls.proofs.Agreeing.{agreed_more, agreed_next, mismatched_alike}
use Rattle.quiet_calls.proofs.Entering.{mismatched_front}
use Rattle.quiet_calls.proofs.Onwards.{GoesOn, IsCarriedOver, carried_over, goes_back, goes_front, patience_across}

-- what is known of the histories
pub record IsSearchedQuietly (next : Next) (n : ℕ) (races : Races) (most : ℕ) (visited : List (List Event)) : Type 0 where
  pub opened : List (List Event)
  pub runs : (before : List Event) → IsIn before visited → IsOnItsWay next n before
  pub more : (before : List Event) → IsIn before visited
      → (IsIn before opened × AreMovesMet next n (IsPatientStep most) visited before) ⊎ IsQuietCallMet next n races visited before
  pub reckoned : AreAllReckonedWith next n races visited

-- a history is far below the bound, and each rank's next call is reckoned with, and not mismatched
pub record IsForeseen (next : Next) (n : ℕ) (races : Races) (events : List Event) : Type 0 where
  pub below : IsFarBelow events
  pub calls : (rank : ℕ) (call : Call) → rank < n → call_after next n events rank ≡ Some call → is_reckoned races rank call ≡ true
  pub agreed : races.partial ≡ false → (rank : ℕ) (call : Call) → rank < n → call_after next n events rank ≡ Some call → IsAgreed n events (view_of events rank) call

foreseen_same : (next : Next) (n : ℕ) (races : Races) (one other : List Event) → ((rank : ℕ) → view_of one rank ≡ view_of other rank) → IsForeseen next n races one
    → IsForeseen next n races other
foreseen_same next n races one other same f =
    record {
      below = below_same one other same f.below;
      calls = λ rank call below asked. f.calls rank call below (ap (λ (v : View). next n rank (replies_in v)) (same rank) ∙ asked);
      agreed = λ whole rank call below asked enters.
          mismatched_alike n other one (view_of other rank) call (λ m. sym (same m))
          ∙ (ap (λ v. is_mismatched n one v call) (sym (same rank))
          ∙ f.agreed whole rank call below (ap (λ (v : View). next n rank (replies_in v)) (same rank) ∙ asked) enters);
    }

-- what goes on from one is so
abbrev pub IsForeseenFrom : Next → ℕ → Races → ℕ → List Event → Type 0
IsForeseenFrom next n races most one = (front : List Event) → GoesOn next n most one front → IsForeseen next n races (one ++ front)

-- so it is with the longer ones
abbrev AreLongerForeseen : Next → ℕ → Races → ℕ → List (List Event) → List Event → Type 0
AreLongerForeseen next n races most visited one = (two : List Event) → IsIn two visited → length one < length two → IsForeseenFrom next n races most two

foreseen_here : (next : Next) (n : ℕ) (races : Races) (most : ℕ) (visited : List (List Event)) → IsSearchedQuietly next n races most visited → (one : List Event) → IsIn one visited
    → IsForeseen next n races one
foreseen_here next n races most visited c one there =
    record {
      below = (c.runs one there).below;
      calls = λ rank call below asked. c.reckoned.calls one rank call there below asked;
      agreed = λ whole rank call below asked. c.reckoned.agreed whole one rank call there below asked;
    }

-- 1. where a move is met

pub back : (n : ℕ) (one other : List Event) → SameFuture n one other → SameFuture n other one
back n one other same = record { views = λ rank. sym (same.views rank); pairs = λ name. sym (same.pairs name); made = sym same.made }

met_foreseen : (next : Next) (output : Output) (n : ℕ) (races : Races) (most : ℕ) (visited : List (List Event)) → FuturesAreSame next output n → IsSearchedQuietly next n races most visited
    → (one : List Event) (event : Event) → AreLongerForeseen next n races most visited one → IsVisited n visited (one ++ event ∷ [])
    → (after : List Event) → GoesOn next n most one (event ∷ after) → IsForeseen next n races (one ++ event ∷ after)
met_foreseen next output n races most visited futures c one event longer met after g =
    let mid : List Event = one ++ event ∷ [] in
    let two : List Event = met.0 in
    let way : IsOnItsWay next n two = c.runs two met.1 in
    let over : IsCarriedOver next n most mid two after =
    carried_over next output n most futures mid two after (back n two mid met.2) (record { run = way.run; numbered = way.numbered }) (goes_back next n most one (event ∷ []) after g) in
    let there : IsForeseen next n races (two ++ over.rest) = longer two met.1 (is_longer n one two event met.2) over.rest over.goes in
    let F : List Event → Type 0 = λ l. IsForeseen next n races l in
    subst F (append_assoc one (event ∷ []) after) (foreseen_same next n races (two ++ over.rest) (mid ++ after) (λ rank. sym (over.views rank)) there)

moves_foreseen : (next : Next) (output : Output) (n : ℕ) (races : Races) (most : ℕ) (visited : List (List Event)) → FuturesAreSame next output n → EveryStepIsMade next n
    → IsSearchedQuietly next n races most visited → (one : List Event) → IsIn one visited → AreMovesMet next n (IsPatientStep most) visited one
    → AreLongerForeseen next n races most visited one → IsForeseenFrom next n races most one
moves_foreseen next output n races most visited futures steps c one there moves longer [] g =
    (let F : List Event → Type 0 = λ l. IsForeseen next n races l in subst F (sym (append-nil one)) (foreseen_here next n races most visited c one there))
moves_foreseen next output n races most visited futures steps c one there moves longer (x ∷ front) g =
    let made : IsMadeStep next n one x = steps one front x g.good.run g.good.numbered in
    let whole : or_else (halted one) (halted (x ∷ front)) ≡ None = sym (halted_append one (x ∷ front)) ∙ g.free in
    let later : halted (x ∷ front) ≡ None = (none_parts (halted one) (halted (x ∷ front)) whole).1 in
    let free : halt_of_reply x.reply ≡ None = (none_parts (halt_of_reply x.reply) (halted front) later).0 in
    let W : Event → Type 0 = λ e. IsPatientStep most one e in
    let M : Event → Type 0 = λ e. IsVisited n visited (one ++ e ∷ []) in
    let met : IsVisited n visited (one ++ x ∷ []) =
    subst M (sym made.made) (moves x.rank x.call made.pick (made.moves free) (subst W made.made (g.probes.0, g.patient.0))) in
    met_foreseen next output n races most visited futures c one x longer met front g

-- 2. where a quiet call is

-- what is known there
record IsQuietHere (next : Next) (n : ℕ) (races : Races) (most : ℕ) (one : List Event) (me : ℕ) (call : Call) (q : Event) : Type 0 where
  first : IsFirst next n races one me call q
  far : IsFarBelow (one ++ q ∷ [])
  behind : (rest : List Event) → GoesOn next n most one (q ∷ rest) → IsForeseen next n races (one ++ q ∷ rest)
  calls : (c : Call) → call_after next n one me ≡ Some c → is_reckoned races me c ≡ true

-- events that leave what the call and others behind it leave, and what goes on from there
carry : (next : Next) (output : Output) (n : ℕ) (races : Races) (most : ℕ) → FuturesAreSame next output n → (one : List Event) (me : ℕ) (call : Call) (q : Event)
    → IsQuietHere next n races most one me call q → (a rest y : List Event) → SameFuture n (one ++ a) (one ++ q ∷ rest) → IsGood next n (one ++ q ∷ rest)
    → Along IsProbeKept one (q ∷ rest) → GoesOn next n most one (a ++ y) → IsForeseen next n races (one ++ (a ++ y))
carry next output n races most futures one me call q h a rest y same good kept g =
    let over : IsCarriedOver next n most (one ++ a) (one ++ q ∷ rest) y =
    carried_over next output n most futures (one ++ a) (one ++ q ∷ rest) y same good (goes_back next n most one a y g) in
    let whole : (one ++ q ∷ rest) ++ over.rest ≡ one ++ q ∷ (rest ++ over.rest) = append_assoc one (q ∷ rest) over.rest in
    let views : (rank : ℕ) → view_of (one ++ (a ++ y)) rank ≡ view_of (one ++ q ∷ (rest ++ over.rest)) rank =
    λ rank. ap (λ l. view_of l rank) (sym (append_assoc one a y)) ∙ (over.views rank ∙ ap (λ l. view_of l rank) whole) in
    let G : List Event → Type 0 = λ l. IsGood next n l in
    let there : IsForeseen next n races (one ++ q ∷ (rest ++ over.rest)) = h.behind (rest ++ over.rest)
    (record {
      good = subst G whole over.goes.good;
      free = ap halted (sym whole) ∙ over.goes.free;
      probes = along_join IsProbeKept one (q ∷ rest) over.rest kept over.goes.probes;
      patient = patience_across most one one (a ++ y) (q ∷ (rest ++ over.rest)) (λ rank. refl) views g.patient;
    }) in
    foreseen_same next n races (one ++ q ∷ (rest ++ over.rest)) (one ++ (a ++ y)) (λ rank. sym (views rank)) there

-- an event behind some that stay below, where the call was made among these
step_moved : (next : Next) (output : Output) (n : ℕ) (races : Races) (most : ℕ) → FuturesAreSame next output n → (one : List Event) (me : ℕ) (call : Call) (q : Event)
    → IsQuietHere next n races most one me call q → (p : List Event) (x : Event) → GoesOn next n most one (p ++ x ∷ []) → (b : GoesBehind next n races one p me call q)
    → IsMoved n one p b.rest q → IsForeseen next n races (one ++ (p ++ x ∷ []))
step_moved next output n races most futures one me call q h p x g b moved =
    carry next output n races most futures one me call q h p b.rest (x ∷ []) moved.future b.good (b.probes (goes_front next n most one p (x ∷ []) g).probes) g

-- the call, where it was left over, behind what it was left over by
put_goes : (next : Next) (n : ℕ) → Lawful next → (races : Races) (most : ℕ) (one p rest : List Event) (me : ℕ) (call : Call) (q : Event) → GoesOn next n most one p
    → is_calm races (one ++ p) ≡ true → (put : IsPutIn next n races one p rest me call q) → GoesOn next n most one (p ++ put.last ∷ [])
put_goes next n lawful races most one p rest me call q front calm put =
    let base : List Event = one ++ p in
    let here : base ++ put.last ∷ [] ≡ one ++ (p ++ put.last ∷ []) = append_assoc one p (put.last ∷ []) in
    let G : List Event → Type 0 = λ l. IsGood next n l in
    record {
      good = subst G here (first_good next n lawful races base [] me call put.last front.good put.there (ap (is_calm races) (append-nil base) ∙ calm) front.free);
      free = ap halted (sym here) ∙ (first_halts next n races base me call put.last put.there ∙ front.free);
      probes = Along-snoc IsProbeKept one p put.last front.probes put.there.probe;
      patient = Along-snoc (IsPatientEvent most) one p put.last front.patient (λ held. absurd (put.there.ready held));
    }

put_foreseen : (next : Next) (output : Output) (n : ℕ) (races : Races) (most : ℕ) → FuturesAreSame next output n → (one : List Event) (me : ℕ) (call : Call) (q : Event)
    → IsQuietHere next n races most one me call q → (p : List Event) → GoesOn next n most one p → (b : GoesBehind next n races one p me call q)
    → (put : IsPutIn next n races one p b.rest me call q) → GoesOn next n most one (p ++ put.last ∷ []) → IsForeseen next n races ((one ++ p) ++ put.last ∷ [])
put_foreseen next output n races most futures one me call q h p front b put g =
    let base : List Event = one ++ p in
    let last : List Event = p ++ put.last ∷ [] in
    let here : base ++ put.last ∷ [] ≡ one ++ last = append_assoc one p (put.last ∷ []) in
    let none : last ++ [] ≡ last = append-nil last in
    let F : List Event → Type 0 = λ l. IsForeseen next n races l in
    let H : List Event → Type 0 = λ l. GoesOn next n most one l in
    subst F (ap (λ l. one ++ l) none ∙ sym here)
    (carry next output n races most futures one me call q h last b.rest []
    (same_as n (base ++ put.last ∷ []) (one ++ q ∷ b.rest) (one ++ last) (one ++ q ∷ b.rest) here refl put.future) b.good (b.probes front.probes) (subst H (sym none) g))

unseen_front : (one p : List Event) (me : ℕ) → has_event me p ≡ false → view_of (one ++ p) me ≡ view_of one me
unseen_front one p me none = view_of-append one p me ∙ (ap (λ v. view_of one me ++ v) (unseen_view me p none) ∙ append-nil (view_of one me))

with_mate_view : (base : List Event) (x : Event) (mate : Option ℕ) (rank : ℕ) → view_of (base ++ with_mate x mate ∷ []) rank ≡ view_of (base ++ x ∷ []) rank
with_mate_view base x mate rank = view_of-append base (with_mate x mate ∷ []) rank ∙ sym (view_of-append base (x ∷ []) rank)

-- what is known of an event behind some that are foreseen
record IsNext (next : Next) (n : ℕ) (races : Races) (most : ℕ) (one : List Event) (me : ℕ) (call : Call) (p : List Event) (x : Event) : Type 0 where
  goes : GoesOn next n most one (p ++ x ∷ [])
  calm : is_calm races (one ++ (p ++ x ∷ [])) ≡ true
  agreed : IsAgreed n (one ++ (p ++ x ∷ [])) (view_of one me) call

-- where it is another rank's, and the call was left over
step_other : (next : Next) (output : Output) (n : ℕ) → Lawful next → (races : Races) (most : ℕ) → FuturesAreSame next output n → (one : List Event) (me : ℕ) (call : Call) (q : Event)
    → IsQuietHere next n races most one me call q → (p : List Event) (x : Event) → IsNext next n races most one me call p x → HasRoom (one ++ q ∷ p)
    → (b : GoesBehind next n races one p me call q) → (put : IsPutIn next n races one p b.rest me call q) → GoesOn next n most one (p ++ put.last ∷ []) → (x.rank == me) ≡ false
    → IsForeseen next n races (one ++ (p ++ x ∷ []))
step_other next output n lawful races most futures one me call q h p x i room b put g apart =
    let base : List Event = one ++ p in
    let last : Event = put.last in
    let front : GoesOn next n most one p = goes_front next n most one p (x ∷ []) i.goes in
    let after : GoesOn next n most base (x ∷ []) = goes_back next n most one p (x ∷ []) i.goes in
    let all : one ++ (p ++ x ∷ []) ≡ base ++ x ∷ [] = sym (append_assoc one p (x ∷ [])) in
    let C : List Event → Type 0 = λ l. is_calm races l ≡ true in
    let size = later_size next n races one base me call q last h.first put.there put.reply in
    let room' : HasRoom (one ++ last ∷ (p ++ [])) =
    (let L : List Event → Type 0 = λ l. HasRoom (one ++ last ∷ l) in subst L (sym (append-nil p)) (room_like one p q last (sym size) room)) in
    let seen : view_of base me ≡ view_of one me = unseen_front one p me put.none in
    let agreed : IsAgreed n (base ++ x ∷ []) (view_of base me) call =
    λ enters. (
    let A : List Event → Type 0 = λ l. is_mismatched n l (view_of one me) call ≡ false in
    let V : View → Type 0 = λ v. is_mismatched n (base ++ x ∷ []) v call ≡ false in
    subst V (sym seen) (subst A all (i.agreed enters))) in
    let m : IsMadeBehind next n base x last = event_behind next n lawful races base me call last x []
    (record {
      good = front.good;
      first = put.there;
      step = (Along-back (IsPromptEvent next n) [] base (x ∷ []) after.good.run.along).0;
      ordered = (Along-back (IsNumberedInOrder n) [] base (x ∷ []) after.good.numbered).0;
      apart = apart;
      calm = subst C all i.calm;
      halts = front.free;
      full = not_full (base ++ last ∷ []) (room_put one p [] last room');
      agreed = agreed;
    }) in
    let other : Event = with_mate x m.mate in
    let own : last.rank ≡ me = ap (λ (e : Event). e.rank) (sym put.there.event) in
    let beside : (last.rank == x.rank) ≡ false = (let Q : ℕ → Type 0 = λ r. (r == x.rank) ≡ false in subst Q (sym own) (other_way x.rank me apart)) in
    let here : base ++ last ∷ [] ≡ one ++ (p ++ last ∷ []) = append_assoc one p (last ∷ []) in
    let whole : (base ++ last ∷ []) ++ other ∷ [] ≡ one ++ ((p ++ last ∷ []) ++ other ∷ []) =
    ap (λ l. l ++ other ∷ []) here ∙ append_assoc one (p ++ last ∷ []) (other ∷ []) in
    let G : List Event → Type 0 = λ l. IsGood next n l in
    let K : List Event → Type 0 = λ l. IsProbeKept l other in
    let P : List Event → Type 0 = λ l. IsPatientEvent most l other in
    let x_free : halt_of_reply x.reply ≡ None =
    (none_parts (halt_of_reply x.reply) (halted []) (none_parts (halted base) (halted (x ∷ [])) (sym (halted_append base (x ∷ [])) ∙ after.free)).1).0 in
    let patient : IsPatientEvent most (base ++ last ∷ []) other =
    λ held. (let V : View → Type 0 = λ v. vain_in v < most in subst V (sym (view_of-other base last x.rank beside)) (after.patient.0 held)) in
    let goes : GoesOn next n most one ((p ++ last ∷ []) ++ other ∷ []) = record {
      good = subst G whole m.good;
      free = ap halted (sym (append_assoc one (p ++ last ∷ []) (other ∷ [])))
          ∙ (halted_more (one ++ (p ++ last ∷ [])) other ∙ (ap (λ o. or_else o (halt_of_reply x.reply)) g.free ∙ x_free));
      probes = Along-snoc IsProbeKept one (p ++ last ∷ []) other g.probes (subst K here (m.probe after.probes.0));
      patient = Along-snoc (IsPatientEvent most) one (p ++ last ∷ []) other g.patient (subst P here patient);
    } in
    let there : IsForeseen next n races (one ++ ((p ++ last ∷ []) ++ other ∷ [])) =
    carry next output n races most futures one me call q h (p ++ last ∷ []) b.rest (other ∷ [])
    (same_as n (base ++ last ∷ []) (one ++ q ∷ b.rest) (one ++ (p ++ last ∷ [])) (one ++ q ∷ b.rest) here refl put.future) b.good (b.probes front.probes) goes in
    let F : List Event → Type 0 = λ l. IsForeseen next n races l in
    let apart_last : (x.rank == last.rank) ≡ false = (let Q : ℕ → Type 0 = λ r. (x.rank == r) ≡ false in subst Q (sym own) apart) in
    let swapped : (rank : ℕ) → view_of (one ++ ((p ++ last ∷ []) ++ other ∷ [])) rank ≡ view_of ((base ++ x ∷ []) ++ last ∷ []) rank =
    λ rank. ap (λ l. view_of l rank) (sym whole)
    ∙ (sym (views_swapped base other last apart_last rank)
    ∙ (view_of-append (base ++ other ∷ []) (last ∷ []) rank
    ∙ (ap (λ v. v ++ view_of (last ∷ []) rank) (with_mate_view base x m.mate rank) ∙ sym (view_of-append (base ++ x ∷ []) (last ∷ []) rank)))) in
    let behind : IsForeseen next n races ((base ++ x ∷ []) ++ last ∷ []) =
    foreseen_same next n races (one ++ ((p ++ last ∷ []) ++ other ∷ [])) ((base ++ x ∷ []) ++ last ∷ []) swapped there in
    let mine : view_of (base ++ x ∷ []) me ≡ view_of base me = view_of-other base x me apart in
    let views : (rank : ℕ) → (rank == me) ≡ false → view_of ((base ++ x ∷ []) ++ last ∷ []) rank ≡ view_of (base ++ x ∷ []) rank =
    λ rank f. (
    let Q : ℕ → Type 0 = λ r. (r == rank) ≡ false in
    view_of-other (base ++ x ∷ []) last rank (subst Q (sym own) (other_way rank me f))) in
    subst F (sym all)
    (record {
      below = below_put base last x behind.below;
      calls = λ rank c below asked. elim (test_cases (rank == me)) [
        | inl t ↦
            let same : rank ≡ me = eqb-true rank me t in
            let K : ℕ → Type 0 = λ r. is_reckoned races r c ≡ true in
            let A : ℕ → Type 0 = λ r. call_after next n (base ++ x ∷ []) r ≡ Some c in
            subst K (sym same) (h.calls c (ap (λ (v : View). next n me (replies_in v)) (sym (mine ∙ seen)) ∙ subst A same asked))
        | inr f ↦ behind.calls rank c below (ap (λ (v : View). next n rank (replies_in v)) (views rank f) ∙ asked)
      ];
      agreed = λ partial rank c below asked enters. elim (test_cases (rank == me)) [
        | inl t ↦
            let same : rank ≡ me = eqb-true rank me t in
            let K : ℕ → Type 0 = λ r. is_mismatched n (base ++ x ∷ []) (view_of (base ++ x ∷ []) r) c ≡ false in
            let A : ℕ → Type 0 = λ r. call_after next n (base ++ x ∷ []) r ≡ Some c in
            let called : Some c ≡ Some call = sym (subst A same asked) ∙ (ap (λ (v : View). next n me (replies_in v)) mine ∙ put.there.asked) in
            let is : c ≡ call = cc in
            let E : Call → Type 0 = λ d. is_enter d ≡ true in
            subst K (sym same) (ap (is_mismatched n (base ++ x ∷ []) (view_of (base ++ x ∷ []) me)) is ∙ (ap (λ v. is_mismatched n (base ++ x ∷ []) v call) mine ∙ agreed (subst E is enters)))
        | inr f ↦
            let asked' : call_after next n ((base ++ x ∷ []) ++ last ∷ []) rank ≡ Some c = ap (λ (v : View). next n rank (replies_in v)) (views rank f) ∙ asked in
            let V : View → Type 0 = λ v. is_mismatched n ((base ++ x ∷ []) ++ last ∷ []) v c ≡ false in
            mismatched_front n (base ++ x ∷ []) (last ∷ []) (view_of (base ++ x ∷ []) rank) c (subst V (views rank f) (behind.agreed partial rank c below asked' enters))
      ];
    })

-- calm histories, and an event behind
stays_calm : (a s c d : Bool) → (a && (s || c)) ≡ true → (c ≡ true → d ≡ true) → (a && (s || d)) ≡ true
stays_calm true true c d h f = refl
stays_calm true false c d h f = f h
stays_calm false s c d h f = absurd (cc)

pub calm_put : (races : Races) (before : List Event) (x : Event) (after : List Event) → is_calm races before ≡ true → is_reckoned races x.rank x.call ≡ true
    → (is_some (halt_of_reply x.reply) || is_calm races after) ≡ true → is_calm races (before ++ x ∷ after) ≡ true
calm_put races [] x after h r f = and_from (is_reckoned races x.rank x.call) (is_some (halt_of_reply x.reply) || is_calm races after) r f
calm_put races (event ∷ before) x after h r f =
    stays_calm (is_reckoned races event.rank event.call) (is_some (halt_of_reply event.reply)) (is_calm races before) (is_calm races (before ++ x ∷ after)) h
    (λ c. calm_put races before x after c r f)

-- the next event of what is foreseen is calm
calm_on : (next : Next) (n most : ℕ) (races : Races) (one p : List Event) (x : Event) → GoesOn next n most one (p ++ x ∷ []) → IsForeseen next n races (one ++ p)
    → is_calm races (one ++ p) ≡ true → is_calm races (one ++ (p ++ x ∷ [])) ≡ true
calm_on next n most races one p x g foreseen calm =
    let after : GoesOn next n most (one ++ p) (x ∷ []) = goes_back next n most one p (x ∷ []) g in
    let step : IsPromptEvent next n (one ++ p) x = (Along-back (IsPromptEvent next n) [] (one ++ p) (x ∷ []) after.good.run.along).0 in
    ap (is_calm races) (sym (append_assoc one p (x ∷ [])))
    ∙ calm_put races (one ++ p) x [] calm (foreseen.calls x.rank x.call step.rank step.call) (or_right (is_some (halt_of_reply x.reply)) true refl)

-- the call agrees with the next event
quiet_enter : (races : Races) (call : Call) → is_quiet races call ≡ true → is_enter call ≡ true → races.partial ≡ false
quiet_enter races (Enter comm kind root op count ints) h enters = (enter_kind races (Enter comm kind root op count ints) refl h).whole
quiet_enter races call h enters = absurd (cc)

step_agreed : (next : Next) (output : Output) (n : ℕ) (races : Races) (most : ℕ) → FuturesAreSame next output n → (one : List Event) (me : ℕ) (call : Call) (q : Event)
    → IsQuietHere next n races most one me call q → (p : List Event) (x : Event) → GoesOn next n most one (p ++ x ∷ []) → IsForeseen next n races (one ++ p)
    → IsAgreed n (one ++ p) (view_of one me) call → (b : GoesBehind next n races one p me call q)
    → ((put : IsPutIn next n races one p b.rest me call q) → (x.rank == me) ≡ false → IsForeseen next n races ((one ++ p) ++ put.last ∷ []))
    → ((put : IsPutIn next n races one p b.rest me call q) → (x.rank == me) ≡ true → x ≡ put.last) → IsAgreed n (one ++ (p ++ x ∷ [])) (view_of one me) call
step_agreed next output n races most futures one me call q h p x g foreseen agreed b behind same enters =
    let base : List Event = one ++ p in
    let own : View = view_of one me in
    let after : GoesOn next n most base (x ∷ []) = goes_back next n most one p (x ∷ []) g in
    let step : IsPromptEvent next n base x = (Along-back (IsPromptEvent next n) [] base (x ∷ []) after.good.run.along).0 in
    let whole : races.partial ≡ false = quiet_enter races call h.first.kind enters in
    let here : is_mismatched n base own call ≡ false = agreed enters in
    ap (λ l. is_mismatched n l own call) (sym (append_assoc one p (x ∷ [])))
    ∙ elim b.left [
      | inl moved ↦
          agreed_next next n races one b.rest base me call q x h.first enters
          (λ enters_x. mismatched_alike n (one ++ q ∷ b.rest) base (view_of base x.rank) x.call (λ m. sym (moved.future.views m))
          ∙ foreseen.agreed whole x.rank x.call step.rank step.call enters_x) here
      | inr put ↦ elim (test_cases (x.rank == me)) [
        | inl t ↦
            let called : x.call ≡ call = ap (λ (e : Event). e.call) (same put t) ∙ ap (λ (e : Event). e.call) (sym put.there.event) in
            agreed_more n base x own call here (λ starts on at. ap (agree call) called ∙ agree-refl call enters)
        | inr f ↦
            let last : Event = put.last in
            let seen : view_of base me ≡ own = unseen_front one p me put.none in
            let mine : last.rank ≡ me = ap (λ (e : Event). e.rank) (sym put.there.event) in
            let beside : (last.rank == x.rank) ≡ false = (let Q : ℕ → Type 0 = λ r. (r == x.rank) ≡ false in subst Q (sym mine) (other_way x.rank me f)) in
            let view : view_of (base ++ last ∷ []) x.rank ≡ view_of base x.rank = view_of-other base last x.rank beside in
            let V : View → Type 0 = λ v. is_mismatched n base v call ≡ false in
            let asked : call_after next n (base ++ last ∷ []) x.rank ≡ Some x.call = ap (λ (v : View). next n x.rank (replies_in v)) view ∙ step.call in
            ap (λ v. is_mismatched n (base ++ x ∷ []) v call) (sym seen)
            ∙ agreed_next next n races base [] base me call last x put.there enters
            (λ enters_x. ap (λ v. is_mismatched n (base ++ last ∷ []) v x.call) (sym view) ∙ (behind put f).agreed whole x.rank x.call step.rank asked enters_x) (subst V (sym seen) here)
      ]
    ]

-- what is known of some events, and of one more
record IsSeen (next : Next) (n : ℕ) (races : Races) (one : List Event) (me : ℕ) (call : Call) (p : List Event) : Type 0 where
  foreseen : IsForeseen next n races (one ++ p)
  calm : is_calm races (one ++ p) ≡ true
  agreed : IsAgreed n (one ++ p) (view_of one me) call

step_seen : (next : Next) (output : Output) (n : ℕ) → Lawful next → (races : Races) (most : ℕ) → FuturesAreSame next output n → (one : List Event) (me : ℕ) (call : Call) (q : Event)
    → IsQuietHere next n races most one me call q → (p : List Event) (x : Event) → GoesOn next n most one (p ++ x ∷ []) → IsSeen next n races one me call p
    → IsSeen next n races one me call (p ++ x ∷ [])
step_seen next output n lawful races most futures one me call q h p x g s =
    let front : GoesOn next n most one p = goes_front next n most one p (x ∷ []) g in
    let after : GoesOn next n most (one ++ p) (x ∷ []) = goes_back next n most one p (x ∷ []) g in
    let room : HasRoom (one ++ q ∷ p) = room_far one p q h.far s.foreseen.below in
    let b : GoesBehind next n races one p me call q = goes_behind next output n lawful futures races one p [] me call q
    (record {
      good = front.good;
      first = h.first;
      calm = ap (λ l. is_calm races (one ++ l)) (append-nil p) ∙ s.calm;
      free = front.free;
      room = room;
      agreed = λ enters. ap (λ l. is_mismatched n (one ++ l) (view_of one me) call) (append-nil p) ∙ s.agreed enters;
    }) in
    let own : (put : IsPutIn next n races one p b.rest me call q) → (x.rank == me) ≡ true → x ≡ put.last =
    λ put t. own_first next n lawful races (one ++ p) me call put.last x front.good put.there (Along-back (IsPromptEvent next n) [] (one ++ p) (x ∷ []) after.good.run.along).0
    (Along-back (IsNumberedInOrder n) [] (one ++ p) (x ∷ []) after.good.numbered).0 (eqb-true x.rank me t) in
    let goes : (put : IsPutIn next n races one p b.rest me call q) → GoesOn next n most one (p ++ put.last ∷ []) =
    λ put. put_goes next n lawful races most one p b.rest me call q front s.calm put in
    let behind : (put : IsPutIn next n races one p b.rest me call q) → IsForeseen next n races ((one ++ p) ++ put.last ∷ []) =
    λ put. put_foreseen next output n races most futures one me call q h p front b put (goes put) in
    let calm : is_calm races (one ++ (p ++ x ∷ [])) ≡ true = calm_on next n most races one p x g s.foreseen s.calm in
    let agreed : IsAgreed n (one ++ (p ++ x ∷ [])) (view_of one me) call =
    step_agreed next output n races most futures one me call q h p x g s.foreseen s.agreed b (λ put f. behind put) own in
    record {
      foreseen = elim b.left [
        | inl moved ↦ step_moved next output n races most futures one me call q h p x g b moved
        | inr put ↦ elim (test_cases (x.rank == me)) [
          | inl t ↦
              let F : List Event → Type 0 = λ l. IsForeseen next n races l in
              subst F (append_assoc one p (put.last ∷ []) ∙ ap (λ e. one ++ (p ++ e ∷ [])) (sym (own put t))) (behind put)
          | inr f ↦
              step_other next output n lawful races most futures one me call q h p x (record { goes = g; calm = calm; agreed = agreed }) room b put (goes put) f
        ]
      ];
      calm = calm;
      agreed = agreed;
    }

along_seen : (next : Next) (output : Output) (n : ℕ) → Lawful next → (races : Races) (most : ℕ) → FuturesAreSame next output n → (one : List Event) (me : ℕ) (call : Call) (q : Event)
    → IsQuietHere next n races most one me call q → (p xs : List Event) → GoesOn next n most one (p ++ xs) → IsSeen next n races one me call p
    → IsSeen next n races one me call (p ++ xs)
along_seen next output n lawful races most futures one me call q h p [] g s = (let F : List Event → Type 0 = λ l. IsSeen next n races one me call l in subst F (sym (append-nil p)) s)
along_seen next output n lawful races most futures one me call q h p (x ∷ xs) g s =
    let here : (p ++ x ∷ []) ++ xs ≡ p ++ x ∷ xs = append_assoc p (x ∷ []) xs in
    let H : List Event → Type 0 = λ l. GoesOn next n most one l in
    let F : List Event → Type 0 = λ l. IsSeen next n races one me call l in
    let goes : GoesOn next n most one ((p ++ x ∷ []) ++ xs) = subst H (sym here) g in
    let front : GoesOn next n most one (p ++ x ∷ []) = goes_front next n most one (p ++ x ∷ []) xs goes in
    subst F here
    (along_seen next output n lawful races most futures one me call q h (p ++ x ∷ []) xs goes (step_seen next output n lawful races most futures one me call q h p x front s))

quiet_seen : (next : Next) (output : Output) (n : ℕ) → Lawful next → (races : Races) (most : ℕ) (visited : List (List Event)) → FuturesAreSame next output n
    → IsSearchedQuietly next n races most visited → (one : List Event) → IsIn one visited → (quiet : IsQuietCallMet next n races visited one)
    → AreLongerForeseen next n races most visited one → (front : List Event) → GoesOn next n most one front → IsSeen next n races one quiet.rank quiet.call front
quiet_seen next output n lawful races most visited futures c one there quiet longer front g =
    let q : Event = picked_event n one quiet.rank quiet.call First in
    let way : IsOnItsWay next n quiet.met.0 = c.runs quiet.met.0 quiet.met.1 in
    let here : IsForeseen next n races one = foreseen_here next n races most visited c one there in
    let first : IsFirst next n races one quiet.rank quiet.call q = quiet_first next n races one quiet.rank quiet.call quiet.quiet in
    let F : List Event → Type 0 = λ l. IsForeseen next n races l in
    along_seen next output n lawful races most futures one quiet.rank quiet.call q
    (record {
      first = first;
      far = below_same quiet.met.0 (one ++ q ∷ []) quiet.met.2.views way.below;
      behind = λ rest goes. met_foreseen next output n races most visited futures c one q longer quiet.met rest goes;
      calls = λ call' asked. c.reckoned.calls one quiet.rank call' there first.below asked;
    }) [] front g
    (record {
      foreseen = subst F (sym (append-nil one)) here;
      calm = ap (is_calm races) (append-nil one) ∙ c.reckoned.past one there;
      agreed = λ enters. ap (λ l. is_mismatched n l (view_of one quiet.rank) quiet.call) (append-nil one)
          ∙ here.agreed (quiet_enter races quiet.call first.kind enters) quiet.rank quiet.call first.below first.asked enters;
    })

-- 3. of all of them

by_room : (next : Next) (output : Output) (n : ℕ) → Lawful next → (races : Races) (most : ℕ) (visited : List (List Event)) → FuturesAreSame next output n → EveryStepIsMade next n
    → IsSearchedQuietly next n races most visited → (k : ℕ) (one : List Event) → IsIn one visited → MOST_EVENTS ≤ length one + k → IsForeseenFrom next n races most one
by_room next output n lawful races most visited futures steps c zero one there enough front g =
    absurd (none_left (length one) MOST_EVENTS (c.runs one there).below.count enough)
by_room next output n lawful races most visited futures steps c (suc k) one there enough front g =
    let longer : AreLongerForeseen next n races most visited one =
    λ two in_two more. by_room next output n lawful races most visited futures steps c k two in_two (one_less (length one) (length two) MOST_EVENTS k enough more) in
    elim (c.more one there) [
      | inl moves ↦ moves_foreseen next output n races most visited futures steps c one there moves.1 longer front g
      | inr quiet ↦ (quiet_seen next output n lawful races most visited futures c one there quiet longer front g).foreseen
    ]

pub all_foreseen : (next : Next) (output : Output) (n : ℕ) → Lawful next → (races : Races) (most : ℕ) (visited : List (List Event)) → FuturesAreSame next output n → EveryStepIsMade next n
    → IsSearchedQuietly next n races most visited → (one : List Event) → IsIn one visited → IsForeseenFrom next n races most one
all_foreseen next output n lawful races most visited futures steps c one there =
    by_room next output n lawful races most visited futures steps c MOST_EVENTS one there (at_most MOST_EVENTS (length one))

-- so what goes on is calm
calm_from : (next : Next) (n : ℕ) (races : Races) (most : ℕ) (one : List Event) → IsForeseenFrom next n races most one → (p xs : List Event) → GoesOn next n most one (p ++ xs)
    → is_calm races (one ++ p) ≡ true → is_calm races (one ++ (p ++ xs)) ≡ true
calm_from next n races most one foreseen p [] g calm = ap (λ l. is_calm races (one ++ l)) (append-nil p) ∙ calm
calm_from next n races most one foreseen p (x ∷ xs) g calm =
    let here : (p ++ x ∷ []) ++ xs ≡ p ++ x ∷ xs = append_assoc p (x ∷ []) xs in
    let H : List Event → Type 0 = λ l. GoesOn next n most one l in
    let goes : GoesOn next n most one ((p ++ x ∷ []) ++ xs) = subst H (sym here) g in
    let front : GoesOn next n most one (p ++ x ∷ []) = goes_front next n most one (p ++ x ∷ []) xs goes in
    ap (λ l. is_calm races (one ++ l)) (sym here)
    ∙ calm_from next n races most one foreseen (p ++ x ∷ []) xs goes (calm_on next n most races one p x front (foreseen p (goes_front next n most one p (x ∷ xs) g)) calm)

pub all_calm : (next : Next) (n : ℕ) (races : Races) (most : ℕ) (one : List Event) → IsForeseenFrom next n races most one → is_calm races one ≡ true
    → (front : List Event) → GoesOn next n most one front → is_calm races (one ++ front) ≡ true
all_calm next n races most one foreseen calm front g = calm_from next n races most one foreseen [] front g (ap (is_calm races) (append-nil one) ∙ calm)

-- and agrees with the quiet call
pub all_agreed : (next : Next) (output : Output) (n : ℕ) → Lawful next → (races : Races) (most : ℕ) (visited : List (List Event)) → FuturesAreSame next output n → EveryStepIsMade next n
    → IsSearchedQuietly next n races most visited → (one : List Event) → IsIn one visited → (quiet : IsQuietCallMet next n races visited one) → (front : List Event)
    → GoesOn next n most one front → IsAgreed n (one ++ front) (view_of one quiet.rank) quiet.call
all_agreed next output n lawful races most visited futures steps c one there quiet front g =
    (quiet_seen next output n lawful races most visited futures c one there quiet
    (λ two in_two more. all_foreseen next output n lawful races most visited futures steps c two in_two) front g).agreed
