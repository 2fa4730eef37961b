-- What an attempt of a machine does, in terms of picks.
use Rattle.std.proofs.Common.{◌≡◌, ◌≢◌, ◌<◌, ◌≤◌, ◌+◌, ◌∙◌, ◌&&◌, ◌||◌, ◌++◌, ◌∷◌, if◌then◌else◌, Bool, MatchBool, ℕ, zero, suc, List, [], Option, Some, None, arith, false, true, inl, inr, is_some, not, refl, ap, sym, subst}
use Rattle.std.specs.List.{list_all}
use Rattle.std.proofs.lemmas.Bool.{and_parts, cases_order, or_cases}
use Rattle.mpi_call.specs.declared.call.Call.{Call}
use Rattle.mpi_call.specs.declared.reply.Reply.{Reply}
use Rattle.run_model.specs.declared.event.Event.{Event}
use Rattle.run_model.specs.Allowed.{IsStuck, can_go}
use Rattle.run_model.specs.Chosen.{chosen_reply}
use Rattle.run_model.specs.Lists.{world}
use Rattle.run_model.specs.Serial.{call_after, next_can_go, is_stuck, others_wait}
use Rattle.run_model.specs.Views.{Next, view_of}
use Rattle.picked_runs.specs.declared.turn.Pick.{Pick}
use Rattle.picked_runs.specs.declared.turn.Pick.TheVariants.{First}
use Rattle.picked_runs.specs.Picks.{has_pick, picked_reply}
use Rattle.picked_runs.proofs.Firsts.{first_event}
use Rattle.mpi_machine.specs.Picking.{after_pick, picked_of}
use Rattle.mpi_machine.specs.Turns.{MachineState, after_answer, answer_by, attempt_answer, is_answered, stage_of}
use Rattle.mpi_machine.specs.declared.answer.Answer.{Answer}
use Rattle.mpi_machine.specs.declared.answer.Answer.TheVariants.{Replied, Wait}
use Rattle.explore.specs.Courses.{IsAnswered, IsTurnHeldBack}

-- 1. no call can go

all_world : (p : ℕ → Bool) (n from rank : ℕ) → list_all p (world n from) ≡ true → from ≤ rank → rank < from + n → p rank ≡ true
all_world p zero from rank h low high = absurd (omega (arith, low, high))
all_world p (suc n) from rank h low high =
    let parts = and_parts (p from) (list_all p (world n (from + 1))) h in
    elim (cases_order from rank) [
      | inl same ↦ (let F : ℕ → Type 0 = λ r. p r ≡ true in subst F same parts.0)
      | inr apart ↦ elim apart [
        | inl less ↦ all_world p n (from + 1) rank parts.1 (omega (arith, less)) (omega (arith, high))
        | inr more ↦ absurd (omega (arith, more, low))
      ]
    ]

not_goes : (b : Bool) → not b ≡ true → b ≡ false
not_goes true h = absurd (cc)
not_goes false h = refl

stuck_is : (next : Next) (n : ℕ) (events : List Event) → is_stuck next n events ≡ true → IsStuck next n events
stuck_is next n events h rank call below asked =
    let one : not (next_can_go n events rank (call_after next n events rank)) ≡ true =
    all_world (λ other. not (next_can_go n events other (call_after next n events other))) n 0 rank h (omega arith) (omega (arith, below)) in
    let F : Option Call → Type 0 = λ c. not (next_can_go n events rank c) ≡ true in
    not_goes (can_go n events rank (view_of events rank) call) (subst F asked one)

-- 2. attempts that pick nothing

answered_by : (b : Bool) (chosen reply : Reply) → Replied reply ≡ answer_by b chosen → b ≡ true
answered_by true chosen reply h = refl
answered_by false chosen reply h = (let no : Replied reply ≡ Wait = h in absurd (cc))

waited_by : (b : Bool) (chosen : Reply) → Wait ≡ answer_by b chosen → b ≡ false
waited_by true chosen h = (let no : Wait ≡ Replied chosen = h in absurd (cc))
waited_by false chosen h = refl

or_none : (a b : Bool) → (a || b) ≡ false → a ≡ false
or_none true b h = absurd (cc)
or_none false b h = refl

pub first_answered : {P : Type 0} (next : Next) (one two : MachineState P) (rank : ℕ) (call : Call) (reply : Reply)
    → Replied reply ≡ attempt_answer next one.ranks one.events one.kept rank call → two ≡ after_answer one rank call (Replied reply)
    → IsAnswered next one.ranks one.events two.events (record { rank = rank; pick = First }) call
first_answered {P} next one two rank call reply said after =
    let goes_by : Bool = can_go one.ranks one.events rank (view_of one.events rank) call in
    let held_by : Bool = is_stuck next one.ranks one.events && others_wait next one.ranks (stage_of one.events one.kept) rank in
    let yes : (goes_by || held_by) ≡ true = answered_by (is_answered next one.ranks one.events one.kept rank call) (chosen_reply one.ranks one.events rank call) reply said in
    record {
      events_are = ap (λ (m : MachineState P). m.events) after ∙ ap (λ e. one.events ++ e ∷ []) (sym (first_event one.ranks one.events rank call));
      offered = refl;
      goes = λ first. elim (or_cases goes_by held_by yes) [
        | inl t ↦ inl t
        | inr t ↦ inr (stuck_is next one.ranks one.events (and_parts (is_stuck next one.ranks one.events) (others_wait next one.ranks (stage_of one.events one.kept) rank) t).0)
      ];
    }

pub first_held : {P : Type 0} (next : Next) (one two : MachineState P) (rank : ℕ) (call : Call)
    → Wait ≡ attempt_answer next one.ranks one.events one.kept rank call → two ≡ after_answer one rank call Wait
    → IsTurnHeldBack one.ranks one.events two.events (record { rank = rank; pick = First }) call
first_held {P} next one two rank call said after =
    let goes_by : Bool = can_go one.ranks one.events rank (view_of one.events rank) call in
    let held_by : Bool = is_stuck next one.ranks one.events && others_wait next one.ranks (stage_of one.events one.kept) rank in
    let no : (goes_by || held_by) ≡ false = waited_by (is_answered next one.ranks one.events one.kept rank call) (chosen_reply one.ranks one.events rank call) said in
    record {
      events_are = ap (λ (m : MachineState P). m.events) after;
      absent = λ apart. absurd (apart refl);
      held = λ first. or_none goes_by held_by no;
    }

-- 3. attempts that pick

some_picked : (b : Bool) (made reply : Reply) → Some reply ≡ (if b then Some made else None) → b ≡ true
some_picked true made reply h = refl
some_picked false made reply h = (let no : Some reply ≡ None = h in absurd (cc))

none_picked : (b : Bool) (made : Reply) → None ≡ (if b then Some made else None) → b ≡ false
none_picked true made h = (let no : None ≡ Some made = h in absurd (cc))
none_picked false made h = refl

pub pick_answered : {P : Type 0} (next : Next) (one two : MachineState P) (rank : ℕ) (call : Call) (pick : Pick) (reply : Reply) → pick ≢ First
    → Some reply ≡ picked_of one.ranks one.events rank call pick → two ≡ after_pick one rank call pick (Some reply)
    → IsAnswered next one.ranks one.events two.events (record { rank = rank; pick = pick }) call
pick_answered {P} next one two rank call pick reply apart said after =
    record {
      events_are = ap (λ (m : MachineState P). m.events) after;
      offered = some_picked (has_pick one.ranks one.events rank call pick) (picked_reply one.ranks one.events rank call pick) reply said;
      goes = λ first. absurd (apart first);
    }

pub pick_held : {P : Type 0} (one two : MachineState P) (rank : ℕ) (call : Call) (pick : Pick) → pick ≢ First
    → None ≡ picked_of one.ranks one.events rank call pick → two ≡ after_pick one rank call pick None
    → IsTurnHeldBack one.ranks one.events two.events (record { rank = rank; pick = pick }) call
pick_held {P} one two rank call pick apart said after =
    record {
      events_are = ap (λ (m : MachineState P). m.events) after;
      absent = λ other. none_picked (has_pick one.ranks one.events rank call pick) (picked_reply one.ranks one.events rank call pick) said;
      held = λ first. absurd (apart first);
    }

-- 4. whether there was an answer

pub first_done : {P : Type 0} (next : Next) (one two : MachineState P) (rank : ℕ) (call : Call) (answer : Answer) (said : Bool)
    → MatchBool said ((reply : Reply) × (answer ≡ Replied reply)) (answer ≡ Wait) → answer ≡ attempt_answer next one.ranks one.events one.kept rank call
    → two ≡ after_answer one rank call answer → MatchBool said (IsAnswered next one.ranks one.events two.events (record { rank = rank; pick = First }) call) (IsTurnHeldBack one.ranks one.events two.events (record { rank = rank; pick = First }) call)
first_done {P} next one two rank call answer true is said after =
    first_answered next one two rank call is.0 (sym is.1 ∙ said) (after ∙ ap (after_answer one rank call) is.1)
first_done {P} next one two rank call answer false is said after =
    first_held next one two rank call (sym is ∙ said) (after ∙ ap (after_answer one rank call) is)

pub pick_done : {P : Type 0} (next : Next) (one two : MachineState P) (rank : ℕ) (call : Call) (pick : Pick) (answer : Option Reply) (said : Bool) → pick ≢ First
    → said ≡ is_some answer → answer ≡ picked_of one.ranks one.events rank call pick → two ≡ after_pick one rank call pick answer
    → MatchBool said (IsAnswered next one.ranks one.events two.events (record { rank = rank; pick = pick }) call) (IsTurnHeldBack one.ranks one.events two.events (record { rank = rank; pick = pick }) call)
pick_done {P} next one two rank call pick (Some reply) true apart is said after = pick_answered next one two rank call pick reply apart said after
pick_done {P} next one two rank call pick None false apart is said after = pick_held one two rank call pick apart said after
pick_done {P} next one two rank call pick (Some reply) false apart is said after = absurd (cc)
pick_done {P} next one two rank call pick None true apart is said after = absurd (cc)
