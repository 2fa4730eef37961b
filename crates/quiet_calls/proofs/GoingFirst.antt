-- A whole run comes to what one comes to that makes a quiet call first.
use Rattle.std.proofs.Common.{◌≡◌, ◌<◌, ◌≤◌, ◌∙◌, ◌++◌, ◌==◌, ◌+◌, ◌||◌, ◌∷◌, ℕ, suc, List, [], Some, None, Bool, true, false, append-nil, append_assoc, inl, inr, length, length-append, refl, ap, sym, subst, arith}
use Rattle.std.proofs.lemmas.Bool.{eq-eqb, eqb-true, false_from_ne_true, or_left, or_parts, or_right}
use Rattle.mpi_call.specs.declared.call.Call.{Call}
use Rattle.mpi_call.specs.declared.call.Halt.{Halt}
use Rattle.mpi_call.specs.declared.reply.Reply.{Reply}
use Rattle.mpi_call.specs.declared.reply.Reply.TheVariants.{Done, Stopped}
use Rattle.run_model.specs.declared.event.Event.{Event}
use Rattle.run_model.specs.Due.{halt_of_reply, halted, is_full, or_else, size_of, is_mismatched}
use Rattle.run_model.specs.Lists.{Along}
use Rattle.run_model.specs.Run.{IsPromptEvent, IsPromptRun}
use Rattle.run_model.specs.Serial.{call_after}
use Rattle.run_model.specs.Views.{Next, View, replies_in, view_of}
use Rattle.run_model.proofs.Along.{Along-back, Along-front}
use Rattle.run_model.proofs.Prefixes.{append-cancel}
use Rattle.run_model.proofs.RunLaws.{Lawful}
use Rattle.run_model.proofs.Taken.{none_parts}
use Rattle.run_model.proofs.Views.{option_cases, test_cases, view_of-append, view_of-mine, view_of-other}
use Rattle.picked_runs.specs.declared.turn.Pick.TheVariants.{First}
use Rattle.picked_runs.specs.Numbering.{AreNumberedInOrder, IsNumberedInOrder}
use Rattle.picked_runs.specs.Picks.{picked_event}
use Rattle.srr_entry.specs.Outputs.{Output}
use Rattle.run_states.specs.Futures.{SameFuture}
use Rattle.run_states.specs.Outcomes.{IsPatientEvent, IsProbeKept, IsWholeRun, halted_outcome, outcome_of_run}
use Rattle.run_states.specs.StateLaws.{FuturesAreSame, HaltsDecideOutcomes, HasLike}
use Rattle.quiet_calls.specs.Quiet.{GoesOnBehind, IsAgreed, IsMadeFree, IsQuiet, QuietCallsGoAhead, QuietCallsGoFirst, Races, before_halt, is_calm}
use Rattle.quiet_calls.proofs.Room.{HasRoom, not_full, room_in, room_put, room_like}
use Rattle.quiet_calls.proofs.Staying.{free_parts}
use Rattle.quiet_calls.proofs.Runs.{IsGood}
use Rattle.quiet_calls.proofs.Swapping.{other_way, views_swapped}
use Rattle.quiet_calls.proofs.Commuting.{halted_append, halted_more}
use Rattle.quiet_calls.proofs.Diamond.{IsFirst, first_halts, first_unstuck, halting_behind, nothing_due, own_first}
use Rattle.quiet_calls.proofs.Fronting.{later_size, GoesBehind, IsMoved, IsPutIn, as_long, goes_behind, good_front, has_event}
use Rattle.quiet_calls.proofs.Patience.{IsPatientView, patient_views, views_patient}
use Rattle.quiet_calls.proofs.Stopping.{Finishes, finishes}
use Rattle.quiet_calls.proofs.Telling.{halt_told, outcomes_told}

-- 1. the first halt of what goes on

pub record HasFirstHalt (events : List Event) (halt : Halt) : Type 0 where
  pub before : List Event
  pub event : Event
  pub after : List Event
  pub whole : events ≡ before ++ event ∷ after
  pub none : halted before ≡ None
  pub here : halt_of_reply event.reply ≡ Some halt
  pub part : before_halt events ≡ before

pub all_free : (events : List Event) → halted events ≡ None → before_halt events ≡ events
all_free [] h = refl
all_free (event ∷ events) h =
    let parts = none_parts (halt_of_reply event.reply) (halted events) h in
    rw parts.0 (ap (λ l. event ∷ l) (all_free events parts.1))

pub first_halt : (events : List Event) (halt : Halt) → halted events ≡ Some halt → HasFirstHalt events halt
first_halt [] halt h = absurd (cc)
first_halt (event ∷ events) halt h =
    elim (option_cases (halt_of_reply event.reply)) [
      | inl some ↦
          let same : Some some.0 ≡ Some halt = rw some.1 at h in
          record { before = []; event = event; after = events; whole = refl; none = refl; here = some.1 ∙ same; part = rw some.1 refl }
      | inr none ↦
          let f = first_halt events halt (rw none at h) in
          record { before = event ∷ f.before; event = f.event; after = f.after; whole = ap (λ l. event ∷ l) f.whole; none = rw none f.none; here = f.here; part = rw none (ap (λ l. event ∷ l) f.part) }
    ]

pub stopped_by : (reply : Reply) (halt : Halt) → halt_of_reply reply ≡ Some halt → reply ≡ Stopped halt
stopped_by (Stopped other) halt h = (let same : other ≡ halt = cc in ap (λ x. Stopped x) same)
stopped_by reply halt h = absurd (cc)

no_halt : (event other : Event) (halt : Halt) (more : List Event) → event ≡ other → halt_of_reply event.reply ≡ Some halt → halted (other ∷ more) ≡ None → ⊥
no_halt event other halt more same here none =
    let there : halt_of_reply other.reply ≡ Some halt = ap (λ (e : Event). halt_of_reply e.reply) (sym same) ∙ here in
    let no : None ≡ Some halt = sym (none_parts (halt_of_reply other.reply) (halted more) none).0 ∙ there in
    cc

-- an event before the first halt is among those before it
among_front : (front : List Event) (x : Event) (after : List Event) (halt : Halt) (rank : ℕ) (before : List Event) (event : Event) (rest : List Event)
    → halt_of_reply x.reply ≡ Some halt → front ++ x ∷ after ≡ before ++ event ∷ rest → event.rank ≡ rank → halted (before ++ event ∷ []) ≡ None → has_event rank front ≡ true
among_front [] x after halt rank [] event rest here whole own none = (let same : x ≡ event = cc in absurd (no_halt x event halt [] same here none))
among_front [] x after halt rank (y ∷ before) event rest here whole own none =
    (let same : x ≡ y = cc in absurd (no_halt x y halt (before ++ event ∷ []) same here none))
among_front (y ∷ front) x after halt rank [] event rest here whole own none =
    let same : y ≡ event = cc in
    or_left (y.rank == rank) (has_event rank front) (eq-eqb y.rank rank (ap (λ (e : Event). e.rank) same ∙ own))
among_front (y ∷ front) x after halt rank (z ∷ before) event rest here whole own none =
    let tails : front ++ x ∷ after ≡ before ++ event ∷ rest = cc in
    or_right (y.rank == rank) (has_event rank front)
    (among_front front x after halt rank before event rest here tails own (none_parts (halt_of_reply z.reply) (halted (before ++ event ∷ [])) none).1)

made_before : (root front : List Event) (x : Event) (after : List Event) (halt : Halt) (rank : ℕ) → halt_of_reply x.reply ≡ Some halt → IsMadeFree root (front ++ x ∷ after) rank
    → has_event rank front ≡ true
made_before root front x after halt rank here made =
    let whole : or_else (halted root) (halted (made.front ++ made.event ∷ [])) ≡ None = sym (halted_append root (made.front ++ made.event ∷ []))
    ∙ (ap halted (sym (append_assoc root made.front (made.event ∷ []))) ∙ made.free) in
    among_front front x after halt rank made.front made.event made.after here made.whole made.own (none_parts (halted root) (halted (made.front ++ made.event ∷ [])) whole).1

-- 2. views

pub unseen_view : (rank : ℕ) (events : List Event) → has_event rank events ≡ false → view_of events rank ≡ []
unseen_view rank [] h = refl
unseen_view rank (event ∷ events) h =
    let parts = or_parts (event.rank == rank) (has_event rank events) h in
    rw parts.0 (unseen_view rank events parts.1)

pub along_join : {E : Type 0} (S : List E → E → Type 0) (before xs ys : List E) → Along S before xs → Along S (before ++ xs) ys → Along S before (xs ++ ys)
along_join S before [] ys first second = (let F : List _ → Type 0 = λ l. Along S l ys in subst F (append-nil before) second)
along_join S before (x ∷ xs) ys first second =
    let F : List _ → Type 0 = λ l. Along S l ys in
    (first.0, along_join S (before ++ x ∷ []) xs ys first.1 (subst F (sym (append_assoc before (x ∷ []) xs)) second))

-- patience goes by the views
patience_kept : (root more other : List Event) (most : ℕ) → ((rank : ℕ) → view_of (root ++ more) rank ≡ view_of (root ++ other) rank)
    → Along (IsPatientEvent most) root more → Along (IsPatientEvent most) root other
patience_kept root more other most same patient =
    views_patient most root other (λ rank.
    let F : View → Type 0 = λ v. IsPatientView most (view_of root rank) v in
    let views : view_of more rank ≡ view_of other rank =
    append-cancel (view_of root rank) (view_of more rank) (view_of other rank)
    (sym (view_of-append root more rank) ∙ (same rank ∙ view_of-append root other rank)) in
    subst F views (patient_views most root more patient rank))

-- 3. what is carried over to the run with the call in front

record IsCarried (next : Next) (output : Output) (n : ℕ) (root : List Event) (q : Event) (rest now tail : List Event) : Type 0 where
  last : List Event
  whole : IsWholeRun next n (root ++ q ∷ last)
  outcome : outcome_of_run output n (now ++ tail) ≡ outcome_of_run output n (root ++ q ∷ last)
  views : (rank : ℕ) → view_of (now ++ tail) rank ≡ view_of (root ++ q ∷ last) rank
  count : length last ≡ length rest + length tail

carried : (next : Next) (output : Output) (n : ℕ) → FuturesAreSame next output n → (root : List Event) (q : Event) (rest now tail : List Event)
    → IsGood next n (now ++ tail) → ((rank : ℕ) → rank < n → call_after next n (now ++ tail) rank ≡ None) → IsGood next n (root ++ q ∷ rest)
    → SameFuture n now (root ++ q ∷ rest) → Along IsProbeKept [] root → Along IsProbeKept root (q ∷ rest) → Along IsProbeKept now tail
    → IsCarried next output n root q rest now tail
carried next output n futures root q rest now tail good ended first future probes kept more =
    let like : HasLike next output n now (root ++ q ∷ rest) tail = futures now (root ++ q ∷ rest) tail good.run good.numbered first.run first.numbered future in
    let last : List Event = rest ++ like.rest in
    let whole : (root ++ q ∷ rest) ++ like.rest ≡ root ++ q ∷ last = append_assoc root (q ∷ rest) like.rest in
    let R : List Event → Type 0 = λ l. IsPromptRun next n l in
    let N : List Event → Type 0 = λ l. AreNumberedInOrder n l in
    let views : (rank : ℕ) → view_of (now ++ tail) rank ≡ view_of (root ++ q ∷ last) rank = λ rank. like.future.views rank ∙ ap (λ l. view_of l rank) whole in
    record {
      last = last;
      whole = record {
        run = subst R whole like.run;
        ended = λ rank below. ap (λ (v : View). next n rank (replies_in v)) (sym (views rank)) ∙ ended rank below;
        numbered = subst N whole like.numbered;
        probes = along_join IsProbeKept [] root (q ∷ last) probes (along_join IsProbeKept root (q ∷ rest) like.rest kept (like.probes more));
      };
      outcome = like.outcome ∙ ap (outcome_of_run output n) whole;
      views = views;
      count = length-append rest like.rest ∙ ap (λ c. length rest + c) (as_long like.rest tail like.order);
    }

-- 4. the call was made in what goes on

moved_first : (next : Next) (output : Output) (n : ℕ) → FuturesAreSame next output n → (root front tail rest : List Event) (q : Event) → IsWholeRun next n (root ++ (front ++ tail))
    → IsGood next n (root ++ q ∷ rest) → (Along IsProbeKept root front → Along IsProbeKept root (q ∷ rest)) → IsMoved n root front rest q
    → GoesOnBehind next output n root (front ++ tail) q
moved_first next output n futures root front tail rest q whole first probes moved =
    let here : root ++ (front ++ tail) ≡ (root ++ front) ++ tail = sym (append_assoc root front tail) in
    let W : List Event → Type 0 = λ l. IsWholeRun next n l in
    let is : IsWholeRun next n ((root ++ front) ++ tail) = subst W here whole in
    let kept : Along IsProbeKept [] (root ++ front) = Along-front IsProbeKept [] (root ++ front) tail is.probes in
    let c = carried next output n futures root q rest (root ++ front) tail (record { run = is.run; numbered = is.numbered }) is.ended first moved.future
    (Along-front IsProbeKept [] root front kept) (probes (Along-back IsProbeKept [] root front kept)) (Along-back IsProbeKept [] (root ++ front) tail is.probes) in
    let count : length c.last ≡ length rest + length tail = c.count in
    let less : suc (length rest) ≡ length front = moved.count in
    let all : length (front ++ tail) ≡ length front + length tail = length-append front tail in
    record {
      rest = c.last;
      whole = c.whole;
      outcome = ap (outcome_of_run output n) here ∙ c.outcome;
      patient = λ most patient. patience_kept root (front ++ tail) (q ∷ c.last) most (λ rank. ap (λ l. view_of l rank) here ∙ c.views rank) patient;
      longer = omega (arith, count, less, all);
      shorter = λ made. omega (arith, count, less, all);
    }

-- 5. it was not, since a halt came first

record IsHalted (next : Next) (output : Output) (n : ℕ) (base : List Event) (x : Event) (after : List Event) (me : ℕ) (q : Event) : Type 0 where
  fin : List Event
  good : IsGood next n ((base ++ q ∷ []) ++ x ∷ fin)
  ended : (rank : ℕ) → rank < n → call_after next n ((base ++ q ∷ []) ++ x ∷ fin) rank ≡ None
  outcome : outcome_of_run output n (base ++ x ∷ after) ≡ outcome_of_run output n ((base ++ q ∷ []) ++ x ∷ fin)
  others : (rank : ℕ) → (rank == me) ≡ false → view_of ((base ++ q ∷ []) ++ x ∷ fin) rank ≡ view_of (base ++ x ∷ after) rank
  count : length fin ≤ length after
  probes : Along IsProbeKept (base ++ q ∷ []) (x ∷ fin)
  patient : (most : ℕ) (own : View) → IsPatientView most own (view_of fin me)

stop_probe : (before : List Event) (x : Event) (halt : Halt) → x.reply ≡ Stopped halt → IsProbeKept before x
stop_probe before x halt stopped earlier comm source tag wait room sender start sent count seen posted done =
    (let no : Stopped halt ≡ Done = sym stopped ∙ done in absurd (cc))

-- the rank's own event is no halt, so the halt is another rank's
halt_apart : (next : Next) (n : ℕ) → Lawful next → (races : Races) (base : List Event) (me : ℕ) (call : Call) (q x : Event) (halt : Halt) → IsGood next n base
    → IsFirst next n races base me call q → IsPromptEvent next n base x → IsNumberedInOrder n base x → x.reply ≡ Stopped halt → (x.rank == me) ≡ false
halt_apart next n lawful races base me call q x halt good first step ordered stopped =
    false_from_ne_true (x.rank == me) (λ t.
    let same : x ≡ q = own_first next n lawful races base me call q x good first step ordered (eqb-true x.rank me t) in
    let free : halt_of_reply x.reply ≡ None = ap (λ (e : Event). halt_of_reply e.reply) same ∙ first.free in
    let no : None ≡ Some halt = sym free ∙ ap halt_of_reply stopped in
    cc)

-- a quiet call before a halt of another rank
record IsBeforeHalt (next : Next) (n : ℕ) (races : Races) (base : List Event) (x : Event) (after : List Event) (me : ℕ) (call : Call) (q : Event) (halt : Halt) : Type 0 where
  all : IsGood next n (base ++ x ∷ after)
  ended : (rank : ℕ) → rank < n → call_after next n (base ++ x ∷ after) rank ≡ None
  first : IsFirst next n races base me call q
  calm : is_calm races (base ++ x ∷ after) ≡ true
  none : halted base ≡ None
  stopped : x.reply ≡ Stopped halt
  full : is_full (base ++ q ∷ []) ≡ false
  agreed : IsAgreed n (base ++ x ∷ after) (view_of base me) call

halted_behind : (next : Next) (output : Output) (n : ℕ) → Lawful next → HaltsDecideOutcomes next output n → (races : Races) (base : List Event) (x : Event) (after : List Event)
    (me : ℕ) (call : Call) (q : Event) (halt : Halt) → IsBeforeHalt next n races base x after me call q halt → IsHalted next output n base x after me q
halted_behind next output n lawful decide races base x after me call q halt b =
    let behind : List Event = base ++ q ∷ [] in
    let good : IsGood next n base = good_front next n base (x ∷ after) b.all in
    let steps = Along-back (IsPromptEvent next n) [] base (x ∷ after) b.all.run.along in
    let ordered = Along-back (IsNumberedInOrder n) [] base (x ∷ after) b.all.numbered in
    let apart : (x.rank == me) ≡ false = halt_apart next n lawful races base me call q x halt good b.first steps.0 ordered.0 b.stopped in
    let own : q.rank ≡ me = ap (λ (e : Event). e.rank) (sym b.first.event) in
    let R : ℕ → Type 0 = λ r. (x.rank == r) ≡ false in
    let apart_q : (x.rank == q.rank) ≡ false = subst R (sym own) apart in
    let parts = free_parts n base me call (nothing_due next n races base me call q b.first) in
    let now : IsGood next n (behind ++ x ∷ []) = halting_behind next n lawful races base me call q x after halt
    (record { good = good; first = b.first; step = steps.0; ordered = ordered.0; apart = apart; calm = b.calm; halts = b.none; full = b.full; agreed = b.agreed }) b.stopped in
    let free : halted behind ≡ None = first_halts next n races base me call q b.first ∙ b.none in
    let halts : (l : List Event) → halted l ≡ None → halted (l ++ x ∷ []) ≡ Some halt =
    λ l none. halted_more l x ∙ (ap (λ o. or_else o (halt_of_reply x.reply)) none ∙ ap halt_of_reply b.stopped) in
    let beside_q : (rank : ℕ) → (rank == me) ≡ false → (q.rank == rank) ≡ false =
    λ rank other. (let Q : ℕ → Type 0 = λ r. (r == rank) ≡ false in subst Q (sym own) (other_way rank me other)) in
    let beside : (rank : ℕ) → (rank == me) ≡ false → view_of (behind ++ x ∷ []) rank ≡ view_of (base ++ x ∷ []) rank =
    λ rank other. sym (views_swapped base x q apart_q rank) ∙ view_of-other (base ++ x ∷ []) q rank (beside_q rank other) in
    let f : Finishes next n me (call_after next n (behind ++ x ∷ []) me) (base ++ x ∷ []) (behind ++ x ∷ []) after =
    finishes next n lawful me halt (call_after next n (behind ++ x ∷ []) me) (base ++ x ∷ []) (behind ++ x ∷ []) after steps.1 (halts base b.none) now (halts behind free) beside refl in
    let whole : (behind ++ x ∷ []) ++ f.fin ≡ behind ++ x ∷ f.fin = append_assoc behind (x ∷ []) f.fin in
    let was : (base ++ x ∷ []) ++ after ≡ base ++ x ∷ after = append_assoc base (x ∷ []) after in
    let G : List Event → Type 0 = λ l. IsGood next n l in
    let others : (rank : ℕ) → (rank == me) ≡ false → view_of (behind ++ x ∷ f.fin) rank ≡ view_of (base ++ x ∷ after) rank =
    λ rank other. ap (λ l. view_of l rank) (sym whole) ∙ (f.others rank other ∙ ap (λ l. view_of l rank) was) in
    let run : IsGood next n (behind ++ x ∷ f.fin) = subst G whole f.good in
    let there : has_event me after ≡ true = elim (test_cases (has_event me after)) [
      | inl t ↦ t
      | inr none ↦
          let seen : view_of (base ++ x ∷ after) me ≡ view_of base me =
          view_of-append base (x ∷ after) me
          ∙ (ap (λ v. view_of base me ++ v) (unseen_view me (x ∷ after) (ap (λ (b : Bool). b || has_event me after) apart ∙ none)) ∙ append-nil (view_of base me)) in
          let no : None ≡ Some call = sym (b.ended me b.first.below) ∙ (ap (λ (v : View). next n me (replies_in v)) seen ∙ b.first.asked) in
          absurd (cc)
    ] in
    let ends : (rank : ℕ) → rank < n → call_after next n (behind ++ x ∷ f.fin) rank ≡ None =
    λ rank below. elim (test_cases (rank == me)) [
      | inl t ↦
          let F : ℕ → Type 0 = λ r. call_after next n (behind ++ x ∷ f.fin) r ≡ None in
          subst F (sym (eqb-true rank me t)) (ap (λ l. call_after next n l me) (sym whole) ∙ f.own there)
      | inr other ↦ ap (λ (v : View). next n rank (replies_in v)) (others rank other) ∙ b.ended rank below
    ] in
    let told : halted_outcome next output n base halt ≡ halted_outcome next output n behind halt =
    elim (halt_told next n base x halt steps.0 b.stopped b.none parts.full) [
      | inl only ↦ outcomes_told next output n base behind x.rank halt only (sym (view_of-other base q x.rank (other_way x.rank q.rank apart_q)))
      | inr stuck ↦ absurd (first_unstuck next n races base (x ∷ after) me call q b.first b.calm b.none stuck)
    ] in
    record {
      fin = f.fin;
      good = run;
      ended = ends;
      outcome = decide base after x halt b.all.run b.ended b.none b.stopped ∙ (told ∙ sym (decide behind f.fin x halt run.run ends free b.stopped));
      others = others;
      count = f.count;
      probes = (stop_probe behind x halt b.stopped, f.probes);
      patient = λ most own. f.patient most me own;
    }

own_view : (root front rest fin : List Event) (x q last : Event) (me : ℕ) → has_event me front ≡ false → (x.rank == me) ≡ false → last.rank ≡ me
    → view_of (((root ++ front) ++ last ∷ []) ++ x ∷ fin) me ≡ view_of (root ++ q ∷ rest) me → view_of (q ∷ rest) me ≡ (last.call, last.reply) ∷ view_of fin me
own_view root front rest fin x q last me none apart own same =
    let base : List Event = root ++ front in
    let seen : Call × Reply = (last.call, last.reply) in
    let front_is : view_of base me ≡ view_of root me =
    view_of-append root front me ∙ (ap (λ v. view_of root me ++ v) (unseen_view me front none) ∙ append-nil (view_of root me)) in
    let mine : view_of (base ++ last ∷ []) me ≡ view_of root me ++ seen ∷ [] = view_of-mine base last me own ∙ ap (λ v. v ++ seen ∷ []) front_is in
    let tail : view_of (x ∷ fin) me ≡ view_of fin me = rw apart refl in
    let whole : view_of ((base ++ last ∷ []) ++ x ∷ fin) me ≡ view_of root me ++ (seen ∷ view_of fin me) =
    view_of-append (base ++ last ∷ []) (x ∷ fin) me
    ∙ (ap (λ v. v ++ view_of (x ∷ fin) me) mine ∙ (ap (λ v. (view_of root me ++ seen ∷ []) ++ v) tail ∙ append_assoc (view_of root me) (seen ∷ []) (view_of fin me))) in
    append-cancel (view_of root me) (view_of (q ∷ rest) me) (seen ∷ view_of fin me) (sym (view_of-append root (q ∷ rest) me) ∙ (sym same ∙ whole))

put_first : (next : Next) (output : Output) (n : ℕ) → Lawful next → FuturesAreSame next output n → HaltsDecideOutcomes next output n
    → (races : Races) (root front : List Event) (x : Event) (after rest : List Event) (me : ℕ) (call : Call) (q : Event) (halt : Halt)
    → IsWholeRun next n (root ++ (front ++ x ∷ after)) → is_calm races (root ++ (front ++ x ∷ after)) ≡ true
    → IsAgreed n (root ++ (front ++ x ∷ after)) (view_of root me) call → halted (root ++ front) ≡ None
    → x.reply ≡ Stopped halt → HasRoom (root ++ q ∷ front) → IsFirst next n races root me call q → IsGood next n (root ++ q ∷ rest)
    → (Along IsProbeKept root front → Along IsProbeKept root (q ∷ rest)) → IsPutIn next n races root front rest me call q
    → GoesOnBehind next output n root (front ++ x ∷ after) q
put_first next output n lawful futures decide races root front x after rest me call q halt whole calm agreed none stopped room start first probes put =
    let base : List Event = root ++ front in
    let last : Event = put.last in
    let here : root ++ (front ++ x ∷ after) ≡ base ++ x ∷ after = sym (append_assoc root front (x ∷ after)) in
    let W : List Event → Type 0 = λ l. IsWholeRun next n l in
    let C : List Event → Type 0 = λ l. is_calm races l ≡ true in
    let is : IsWholeRun next n (base ++ x ∷ after) = subst W here whole in
    let kept : Along IsProbeKept [] base = Along-front IsProbeKept [] base (x ∷ after) is.probes in
    let size : size_of q ≡ size_of last = sym (later_size next n races root base me call q last start put.there put.reply) in
    let R : List Event → Type 0 = λ l. HasRoom (root ++ last ∷ l) in
    let room' : HasRoom (root ++ last ∷ (front ++ [])) = subst R (sym (append-nil front)) (room_like root front q last size room) in
    let good : IsGood next n (base ++ x ∷ after) = record { run = is.run; numbered = is.numbered } in
    let h : IsHalted next output n base x after me last = halted_behind next output n lawful decide races base x after me call last halt
    (record {
      all = good;
      ended = is.ended;
      first = put.there;
      calm = subst C here calm;
      none = none;
      stopped = stopped;
      full = not_full (base ++ last ∷ []) (room_put root front [] last room');
      agreed = λ enters.
          let A : List Event → Type 0 = λ l. is_mismatched n l (view_of root me) call ≡ false in
          let V : View → Type 0 = λ v. is_mismatched n (base ++ x ∷ after) v call ≡ false in
          let seen : view_of base me ≡ view_of root me =
          view_of-append root front me ∙ (ap (λ v. view_of root me ++ v) (unseen_view me front put.none) ∙ append-nil (view_of root me)) in
          subst V (sym seen) (subst A here (agreed enters));
    }) in
    let c = carried next output n futures root q rest (base ++ last ∷ []) (x ∷ h.fin) h.good h.ended first put.future
    (Along-front IsProbeKept [] root front kept) (probes (Along-back IsProbeKept [] root front kept)) h.probes in
    let own : last.rank ≡ me = ap (λ (e : Event). e.rank) (sym put.there.event) in
    let own_q : q.rank ≡ me = ap (λ (e : Event). e.rank) (sym start.event) in
    let halted_here : halt_of_reply x.reply ≡ Some halt = ap halt_of_reply stopped in
    let apart : (x.rank == me) ≡ false =
    halt_apart next n lawful races base me call last x halt (good_front next n base (x ∷ after) good) put.there (Along-back (IsPromptEvent next n) [] base (x ∷ after) is.run.along).0
    (Along-back (IsNumberedInOrder n) [] base (x ∷ after) is.numbered).0 stopped in
    let count : length c.last ≡ length rest + suc (length h.fin) = c.count in
    let less : length rest ≡ length front = put.count in
    let few : length h.fin ≤ length after = h.count in
    let all : length (front ++ x ∷ after) ≡ length front + suc (length after) = length-append front (x ∷ after) in
    record {
      rest = c.last;
      whole = c.whole;
      outcome = ap (outcome_of_run output n) here ∙ (h.outcome ∙ c.outcome);
      patient = λ most patient. views_patient most root (q ∷ c.last) (λ rank. elim (test_cases (rank == me)) [
        | inl t ↦
            let F : ℕ → Type 0 = λ r. IsPatientView most (view_of root r) (view_of (q ∷ c.last) r) in
            let G : View → Type 0 = λ v. IsPatientView most (view_of root me) v in
            let seen : view_of (q ∷ c.last) me ≡ (last.call, last.reply) ∷ view_of h.fin me = own_view root front c.last h.fin x q last me put.none apart own (c.views me) in
            subst F (sym (eqb-true rank me t))
            (subst G (sym seen) ((λ vain. absurd (put.there.ready vain)), h.patient most (view_of root me ++ (last.call, last.reply) ∷ [])))
        | inr other ↦
            let G : View → Type 0 = λ v. IsPatientView most (view_of root rank) v in
            let same : view_of (root ++ (front ++ x ∷ after)) rank ≡ view_of (root ++ q ∷ c.last) rank =
            ap (λ l. view_of l rank) here ∙ (sym (h.others rank other) ∙ c.views rank) in
            let views : view_of (front ++ x ∷ after) rank ≡ view_of (q ∷ c.last) rank =
            append-cancel (view_of root rank) (view_of (front ++ x ∷ after) rank) (view_of (q ∷ c.last) rank)
            (sym (view_of-append root (front ++ x ∷ after) rank) ∙ (same ∙ view_of-append root (q ∷ c.last) rank)) in
            subst G views (patient_views most root (front ++ x ∷ after) patient rank)
      ]);
      longer = omega (arith, count, less, few, all);
      shorter = λ made.
          let there : has_event q.rank front ≡ true = made_before root front x after halt q.rank halted_here made in
          let no : true ≡ false = sym there ∙ (ap (λ r. has_event r front) own_q ∙ put.none) in
          absurd (cc);
    }

-- 6. of each whole run

first_with : (next : Next) (output : Output) (n : ℕ) → Lawful next → FuturesAreSame next output n → HaltsDecideOutcomes next output n
    → (races : Races) (root more : List Event) (me : ℕ) (call : Call) (q : Event) → IsFirst next n races root me call q
    → IsWholeRun next n (root ++ more) → is_calm races (root ++ more) ≡ true → IsAgreed n (root ++ more) (view_of root me) call → is_full (root ++ q ∷ before_halt more) ≡ false → GoesOnBehind next output n root more q
first_with next output n lawful futures decide races root more me call q first whole calm agreed full =
    let none : halted root ≡ None = (free_parts n root me call (nothing_due next n races root me call q first)).halts in
    elim (option_cases (halted more)) [
      | inl some ↦
          let halt : Halt = some.0 in
          let f = first_halt more halt some.1 in
          let W : List Event → Type 0 = λ l. IsWholeRun next n (root ++ l) in
          let M : List Event → Type 0 = λ l. is_full (root ++ q ∷ l) ≡ false in
          let C : List Event → Type 0 = λ l. is_calm races (root ++ l) ≡ true in
          let G : List Event → Type 0 = λ l. GoesOnBehind next output n root l q in
          let is : IsWholeRun next n (root ++ (f.before ++ f.event ∷ f.after)) = subst W f.whole whole in
          let A : List Event → Type 0 = λ l. IsAgreed n (root ++ l) (view_of root me) call in
          let agrees : IsAgreed n (root ++ (f.before ++ f.event ∷ f.after)) (view_of root me) call = subst A f.whole agreed in
          let calmly : is_calm races (root ++ (f.before ++ f.event ∷ f.after)) ≡ true = subst C f.whole calm in
          let room : HasRoom (root ++ q ∷ f.before) = room_in (root ++ q ∷ f.before) (subst M f.part full) in
          let good : IsGood next n (root ++ (f.before ++ f.event ∷ f.after)) = record { run = is.run; numbered = is.numbered } in
          let I : List Event → Type 0 = λ l. IsGood next n l in
          let H : List Event → Type 0 = λ l. HasRoom l in
          let free : halted (root ++ f.before) ≡ None = halted_append root f.before ∙ (ap (λ o. or_else o (halted f.before)) none ∙ f.none) in
          let g : GoesBehind next n races root f.before me call q = goes_behind next output n lawful futures races root f.before (f.event ∷ f.after) me call q
          (record {
            good = good_front next n (root ++ f.before) (f.event ∷ f.after) (subst I (sym (append_assoc root f.before (f.event ∷ f.after))) good);
            first = first;
            calm = calmly;
            agreed = agrees;
            free = free;
            room = room;
          }) in
          subst G (sym f.whole) (elim g.left [
            | inl moved ↦ moved_first next output n futures root f.before (f.event ∷ f.after) g.rest q is g.good g.probes moved
            | inr put ↦
                put_first next output n lawful futures decide races root f.before f.event f.after g.rest me call q halt is calmly agrees free (stopped_by f.event.reply halt f.here) room first
                g.good g.probes put
          ])
      | inr free ↦
          let C : List Event → Type 0 = λ l. is_calm races (root ++ l) ≡ true in
          let g : GoesBehind next n races root more me call q = goes_behind next output n lawful futures races root more [] me call q
          (record {
            good = record { run = whole.run; numbered = whole.numbered };
            first = first;
            calm = subst C (sym (append-nil more)) calm;
            agreed = λ enters. (let A : List Event → Type 0 = λ l. is_mismatched n (root ++ l) (view_of root me) call ≡ false in subst A (sym (append-nil more)) (agreed enters));
            free = halted_append root more ∙ (ap (λ o. or_else o (halted more)) none ∙ free);
            room = room_in (root ++ q ∷ more) (let M : List Event → Type 0 = λ l. is_full (root ++ q ∷ l) ≡ false in subst M (all_free more free) full);
          }) in
          let W : List Event → Type 0 = λ l. IsWholeRun next n (root ++ l) in
          let G : List Event → Type 0 = λ l. GoesOnBehind next output n root l q in
          elim g.left [
            | inl moved ↦
                subst G (append-nil more) (moved_first next output n futures root more [] g.rest q (subst W (sym (append-nil more)) whole) g.good g.probes moved)
            | inr put ↦ (let no : None ≡ Some call = sym (whole.ended me first.below) ∙ put.there.asked in absurd (cc))
          ]
    ]

pub quiet_first : (next : Next) (n : ℕ) (races : Races) (root : List Event) (rank : ℕ) (call : Call) → IsQuiet next n races root rank call
    → IsFirst next n races root rank call (picked_event n root rank call First)
quiet_first next n races root rank call is =
    record {
      kind = is.kind;
      below = is.below;
      asked = is.asked;
      event = refl;
      free = is.free;
      ready = is.ready;
      probe = is.probe;
    }

pub goes_first : (next : Next) (output : Output) (n : ℕ) → Lawful next → FuturesAreSame next output n → HaltsDecideOutcomes next output n → QuietCallsGoFirst next output n
goes_first next output n lawful futures decide races root more rank call is whole calm agreed full =
    first_with next output n lawful futures decide races root more rank call (picked_event n root rank call First) (quiet_first next n races root rank call is) whole calm agreed full

pub goes_ahead : (next : Next) (output : Output) (n : ℕ) → Lawful next → FuturesAreSame next output n → QuietCallsGoAhead next n
goes_ahead next output n lawful futures races root front rank call is run numbered free calm agreed full =
    let q : Event = picked_event n root rank call First in
    let C : List Event → Type 0 = λ l. is_calm races (root ++ l) ≡ true in
    let g : GoesBehind next n races root front rank call q = goes_behind next output n lawful futures races root front [] rank call q
    (record {
      good = record { run = run; numbered = numbered };
      first = quiet_first next n races root rank call is;
      calm = subst C (sym (append-nil front)) calm;
      agreed = λ enters. (let A : List Event → Type 0 = λ l. is_mismatched n (root ++ l) (view_of root rank) call ≡ false in subst A (sym (append-nil front)) (agreed enters));
      free = free;
      room = room_in (root ++ q ∷ front) full;
    }) in
    record {
      rest = g.rest;
      run = g.good.run;
      numbered = g.good.numbered;
      probes = g.probes;
      left = elim g.left [
        | inl moved ↦
            let count : suc (length g.rest) ≡ length front = moved.count in
            inl (record { future = moved.future; count = omega (arith, count) })
        | inr put ↦
            inr (record {
              last = put.last;
              asked = put.there.asked;
              made = sym put.there.event;
              reply = put.reply;
              future = put.future;
              count = put.count;
            })
      ];
    }
