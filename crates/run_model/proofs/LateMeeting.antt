-- After a run two starts that can meet may meet.
use Rattle.std.proofs.Common.{◌≡◌, ◌∙◌, ℕ, List, [], ◌∷◌, ◌++◌, Option, None, append_assoc, append-nil, ap, sym, subst}
use Rattle.std.proofs.Math.Path.{fun_ext}
use Rattle.mpi_call.specs.declared.call.Call.{Call}
use Rattle.run_model.specs.declared.event.Event.{Event}
use Rattle.run_model.specs.Pairs.{AreMatched, MeetInTurn, Name, mated, named, pairs_of, partner_of}
use Rattle.run_model.specs.Meetings.{CanMeet, then_meets}
use Rattle.run_model.specs.Run.{AreNumbered, IsEvent, IsRun}
use Rattle.run_model.specs.Views.{Next, View, start_at, view_of}
use Rattle.run_model.proofs.Along.{Along-snoc}
use Rattle.run_model.proofs.Meeting.{pairs_of-push}
use Rattle.run_model.proofs.RunLaws.{IsRun-event, IsRun-front}
use Rattle.run_model.proofs.Views.{view_of-append}

pub views_met : (front : List Event) (event : Event) (pair : Name × Name) (rank : ℕ)
    → view_of (front ++ event ∷ []) rank ≡ view_of (front ++ then_meets event pair ∷ []) rank
views_met front event pair rank = view_of-append front (event ∷ []) rank ∙ sym (view_of-append front (then_meets event pair ∷ []) rank)

pub pairs_met : (front : List Event) (event : Event) (pair : Name × Name)
    → pairs_of (front ++ then_meets event pair ∷ []) ≡ pairs_of (front ++ event ∷ []) ++ pair ∷ []
pairs_met front event pair =
    let P : List (Name × Name) = pairs_of front in
    let Q : List (Name × Name) = mated front event in
    let R : List (Name × Name) = pair ∷ [] in
    pairs_of-push front (then_meets event pair)
    ∙ (ap (λ l. P ++ l) (sym (append_assoc Q event.met R))
    ∙ (sym (append_assoc P (Q ++ event.met) R)
    ∙ ap (λ l. l ++ R) (sym (pairs_of-push front event))))

met_more : (N : Name → Option Call) (pairs met : List (Name × Name)) (pair : Name × Name) → MeetInTurn N pairs met
    → partner_of (pairs ++ met) pair.0 ≡ None → partner_of (pairs ++ met) pair.1 ≡ None → AreMatched N ((pairs ++ met) ++ pair ∷ [])
    → MeetInTurn N pairs (met ++ pair ∷ [])
met_more N pairs [] pair are one other all =
    let F : List (Name × Name) → Type 0 = λ l. partner_of l pair.0 ≡ None in
    let G : List (Name × Name) → Type 0 = λ l. partner_of l pair.1 ≡ None in
    let H : List (Name × Name) → Type 0 = λ l. AreMatched N (l ++ pair ∷ []) in
    (are, subst F (append-nil pairs) one, subst G (append-nil pairs) other, subst H (append-nil pairs) all)
met_more N pairs (first ∷ met) pair are one other all =
    let e : pairs ++ first ∷ met ≡ (pairs ++ first ∷ []) ++ met = sym (append_assoc pairs (first ∷ []) met) in
    let F : List (Name × Name) → Type 0 = λ l. partner_of l pair.0 ≡ None in
    let G : List (Name × Name) → Type 0 = λ l. partner_of l pair.1 ≡ None in
    let H : List (Name × Name) → Type 0 = λ l. AreMatched N (l ++ pair ∷ []) in
    (are.0, are.1, are.2, met_more N (pairs ++ first ∷ []) met pair are.3 (subst F e one) (subst G e other) (subst H e all))

-- the event then is one of a run
pub event_meets : (next : Next) (n : ℕ) (front : List Event) (event : Event) (pair : Name × Name) → IsEvent next n front event
    → CanMeet (front ++ event ∷ []) pair → IsEvent next n front (then_meets event pair)
event_meets next n front event pair step can =
    let P : List (Name × Name) = pairs_of front ++ mated front event in
    let views : view_of (front ++ event ∷ []) ≡ view_of (front ++ then_meets event pair ∷ []) = fun_ext (views_met front event pair) in
    let whole : pairs_of (front ++ event ∷ []) ≡ P ++ event.met = pairs_of-push front event ∙ sym (append_assoc (pairs_of front) (mated front event) event.met) in
    let V : (ℕ → View) → Type 0 = λ v. MeetInTurn (λ name. start_at (v name.0) name.1) P (event.met ++ pair ∷ []) in
    let W : (ℕ → View) → Type 0 = λ v. AreNumbered v in
    let F : List (Name × Name) → Type 0 = λ l. partner_of l pair.0 ≡ None in
    let G : List (Name × Name) → Type 0 = λ l. partner_of l pair.1 ≡ None in
    let H : List (Name × Name) → Type 0 = λ l. AreMatched (named (front ++ event ∷ [])) (l ++ pair ∷ []) in
    record {
      rank = step.rank;
      call = step.call;
      reply = step.reply;
      mate = step.mate;
      meets = subst V views (met_more (named (front ++ event ∷ [])) P event.met pair step.meets (subst F whole can.one_free) (subst G whole can.other_free) (subst H whole can.matched));
      numbered = subst W views step.numbered;
    }

-- and so is the run
pub run_meets : (next : Next) (n : ℕ) (front : List Event) (event : Event) (pair : Name × Name) → IsRun next n (front ++ event ∷ [])
    → CanMeet (front ++ event ∷ []) pair → IsRun next n (front ++ then_meets event pair ∷ [])
run_meets next n front event pair run can =
    let step = event_meets next n front event pair (IsRun-event next n front [] event run) can in
    let before = IsRun-front next n front (event ∷ []) run in
    record { some = run.some; few = run.few; along = Along-snoc (IsEvent next n) [] front (then_meets event pair) before.along step }
