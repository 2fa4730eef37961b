-- A still event and one of another rank leave the same in either order.
use Rattle.std.proofs.Common.{◌≡◌, ◌∙◌, ◌++◌, ◌==◌, ◌∷◌, if◌then◌else◌, ℕ, List, [], Option, Some, None, true, false, IsTrue, append-nil, inl, inr, length, refl, ap, sym}
use Rattle.std.proofs.Math.Path.{fun_ext}
use Rattle.std.proofs.lemmas.Bool.{eq-eqb, eqb-true, false_from_ne_true}
use Rattle.mpi_call.specs.Calls.{comm_of}
use Rattle.run_model.specs.declared.event.Event.{Event}
use Rattle.run_model.specs.Communicators.{Entered, count_on, enter_at, members_for_rank}
use Rattle.run_model.specs.Inputs.{gather}
use Rattle.run_model.specs.Numbers.{Origin, communicators_of, made_at, origins_from}
use Rattle.run_model.specs.Pairs.{Name, mated, name_at, pair_of, pair_with, pairs_of, partner_of}
use Rattle.run_model.specs.Run.{HasMate}
use Rattle.run_model.specs.Views.{View, is_start, starts_of, view_of}
use Rattle.run_model.proofs.Numbered.{communicators_of-push}
use Rattle.run_model.proofs.Positions.{new_name}
use Rattle.run_model.proofs.Views.{option_cases, test_cases, view_of-append, view_of-other}
use Rattle.picked_runs.proofs.Grown.{pairs_of-push}
use Rattle.run_states.specs.Futures.{SameFuture, mate_name}
use Rattle.quiet_calls.proofs.Still.{IsStill}
use Rattle.quiet_calls.proofs.Beside.{enters_stay, made_stay, name_on, pairs_stay}

-- 1. views

one_view : (event : Event) (rank : ℕ) → (event.rank == rank) ≡ false → view_of (event ∷ []) rank ≡ []
one_view event rank f = rw f refl

apart_from : (a b m : ℕ) → (a == b) ≡ false → (a == m) ≡ true → (b == m) ≡ false
apart_from a b m apart t =
    false_from_ne_true (b == m) (λ u.
    let same : a ≡ b = eqb-true a m t ∙ sym (eqb-true b m u) in
    let no : true ≡ false = sym (eq-eqb a b same) ∙ apart in
    cc)

pub views_swapped : (before : List Event) (x q : Event) → (x.rank == q.rank) ≡ false → (rank : ℕ)
    → view_of ((before ++ x ∷ []) ++ q ∷ []) rank ≡ view_of ((before ++ q ∷ []) ++ x ∷ []) rank
views_swapped before x q apart rank =
    let v : View = view_of before rank in
    let a : View = view_of (x ∷ []) rank in
    let b : View = view_of (q ∷ []) rank in
    let first : view_of ((before ++ x ∷ []) ++ q ∷ []) rank ≡ (v ++ a) ++ b =
    view_of-append (before ++ x ∷ []) (q ∷ []) rank ∙ ap (λ l. l ++ b) (view_of-append before (x ∷ []) rank) in
    let second : view_of ((before ++ q ∷ []) ++ x ∷ []) rank ≡ (v ++ b) ++ a =
    view_of-append (before ++ q ∷ []) (x ∷ []) rank ∙ ap (λ l. l ++ a) (view_of-append before (q ∷ []) rank) in
    let middle : (v ++ a) ++ b ≡ (v ++ b) ++ a = elim (test_cases (x.rank == rank)) [
      | inl t ↦
          let none : b ≡ [] = one_view q rank (apart_from x.rank q.rank rank apart t) in
          ap (λ l. (v ++ a) ++ l) none ∙ (append-nil (v ++ a) ∙ sym (ap (λ l. (v ++ l) ++ a) none ∙ ap (λ l. l ++ a) (append-nil v)))
      | inr f ↦
          let none : a ≡ [] = one_view x rank f in
          ap (λ l. (v ++ l) ++ b) none ∙ (ap (λ l. l ++ b) (append-nil v) ∙ sym (ap (λ l. (v ++ b) ++ l) none ∙ append-nil (v ++ b)))
    ] in
    first ∙ (middle ∙ sym second)

-- 2. pairs

mated_is : (before : List Event) (event : Event) → mated before event ≡ pair_with (mate_name before event.mate) (new_name before event)
mated_is before event =
    elim (option_cases event.mate) [
      | inl some ↦ rw some.1 refl
      | inr none ↦ rw none refl
    ]

-- with the mate alone, where nothing else meets after the event
pub pair_is : (before : List Event) (event : Event) → event.met ≡ [] → pair_of before event ≡ pair_with (mate_name before event.mate) (new_name before event)
pair_is before event none_met =
    ap (λ l. mated before event ++ l) none_met ∙ (append-nil (mated before event) ∙ mated_is before event)

-- the pair with the mate, behind an event of another rank
pub pair_beside : (before : List Event) (other event : Event) → mate_name (before ++ other ∷ []) event.mate ≡ mate_name before event.mate → (other.rank == event.rank) ≡ false
    → pair_of (before ++ other ∷ []) event ≡ pair_of before event
pair_beside before other event mate apart =
    let count : View → Name = λ v. (event.rank, length (starts_of v)) in
    ap (λ l. l ++ event.met)
    (mated_is (before ++ other ∷ []) event
    ∙ (ap (λ m. pair_with m (new_name (before ++ other ∷ []) event)) mate
    ∙ (ap (λ (v : View). pair_with (mate_name before event.mate) (count v)) (view_of-other before other event.rank apart) ∙ sym (mated_is before event))))

has_name : (before : List Event) (event : Event) (at : ℕ) → event.mate ≡ Some at → HasMate before event → (name : Name) × (name_at before at ≡ Some name)
has_name before event at h has =
    let m : (name : Name) × (name_at before at ≡ Some name) × (partner_of (pairs_of before) name ≡ None) × IsTrue (is_start (event.call, event.reply)) = rw h at has in
    (m.0, m.1)

pub mate_stays : (before more : List Event) (event : Event) → HasMate before event → mate_name (before ++ more) event.mate ≡ mate_name before event.mate
mate_stays before more event has =
    elim (option_cases event.mate) [
      | inl some ↦
          let m = has_name before event some.0 some.1 has in
          ap (mate_name (before ++ more)) some.1 ∙ (name_on before more some.0 m.0 m.1 ∙ (sym m.1 ∙ sym (ap (mate_name before) some.1)))
      | inr none ↦ ap (mate_name (before ++ more)) none ∙ sym (ap (mate_name before) none)
    ]

pair_stays : (before : List Event) (x q : Event) → HasMate before x → (q.rank == x.rank) ≡ false → pair_of (before ++ q ∷ []) x ≡ pair_of before x
pair_stays before x q has apart =
    pair_beside before q x (mate_stays before (q ∷ []) x has) apart

pairs_swapped : (before : List Event) (x q : Event) → IsStill q → HasMate before x → (q.rank == x.rank) ≡ false
    → pairs_of ((before ++ x ∷ []) ++ q ∷ []) ≡ pairs_of ((before ++ q ∷ []) ++ x ∷ [])
pairs_swapped before x q still has apart =
    pairs_stay (before ++ x ∷ []) q still
    ∙ (pairs_of-push before x
    ∙ sym (pairs_of-push (before ++ q ∷ []) x
    ∙ (ap (λ l. l ++ pair_of (before ++ q ∷ []) x) (pairs_stay before q still)
    ∙ ap (λ l. pairs_of before ++ l) (pair_stays before x q has apart))))

-- 3. communicators

abbrev pub made_with : ℕ → (ℕ → ℕ → ℕ → Option Entered) → View → Event → List Origin
made_with n find own event =
    if is_start (event.call, event.reply)
    then origins_from
    (gather (λ m. true) (λ m. find m (comm_of event.call) (count_on (comm_of event.call) (starts_of own))) (members_for_rank n own (comm_of event.call)))
    (count_on (comm_of event.call) (starts_of own)) event.call
    else []

made_swapped : (n : ℕ) (before : List Event) (x q : Event) → IsStill q → (x.rank == q.rank) ≡ false → (q.rank == x.rank) ≡ false
    → made_at n (before ++ q ∷ []) x ≡ made_at n before x
made_swapped n before x q still apart apart' =
    let one : ℕ → ℕ → ℕ → Option Entered = λ m comm instance. enter_at n (view_of ((before ++ q ∷ []) ++ x ∷ []) m) comm instance in
    let two : ℕ → ℕ → ℕ → Option Entered = λ m comm instance. enter_at n (view_of (before ++ x ∷ []) m) comm instance in
    let each : (m comm instance : ℕ) → one m comm instance ≡ two m comm instance =
    λ m comm instance. ap (λ (v : View). enter_at n v comm instance) (sym (views_swapped before x q apart m)) ∙ enters_stay n (before ++ x ∷ []) q still comm instance m in
    let same : one ≡ two = fun_ext (λ m. fun_ext (λ comm. fun_ext (λ instance. each m comm instance))) in
    ap (λ (find : ℕ → ℕ → ℕ → Option Entered). made_with n find (view_of (before ++ q ∷ []) x.rank) x) same
    ∙ ap (λ (v : View). made_with n two v x) (view_of-other before q x.rank apart')

communicators_swapped : (n : ℕ) (before : List Event) (x q : Event) → IsStill q → (x.rank == q.rank) ≡ false → (q.rank == x.rank) ≡ false
    → communicators_of n ((before ++ x ∷ []) ++ q ∷ []) ≡ communicators_of n ((before ++ q ∷ []) ++ x ∷ [])
communicators_swapped n before x q still apart apart' =
    made_stay n (before ++ x ∷ []) q still
    ∙ (communicators_of-push n before x
    ∙ sym (communicators_of-push n (before ++ q ∷ []) x
    ∙ (ap (λ l. l ++ made_at n (before ++ q ∷ []) x) (made_stay n before q still)
    ∙ ap (λ l. communicators_of n before ++ l) (made_swapped n before x q still apart apart'))))

-- 4. what they leave

pub other_way : (a b : ℕ) → (a == b) ≡ false → (b == a) ≡ false
other_way a b apart =
    false_from_ne_true (b == a) (λ u. (let no : true ≡ false = sym (eq-eqb a b (sym (eqb-true b a u))) ∙ apart in cc))

pub future_swapped : (n : ℕ) (before : List Event) (x q : Event) → IsStill q → HasMate before x → (x.rank == q.rank) ≡ false
    → SameFuture n ((before ++ x ∷ []) ++ q ∷ []) ((before ++ q ∷ []) ++ x ∷ [])
future_swapped n before x q still has apart =
    let apart' : (q.rank == x.rank) ≡ false = other_way x.rank q.rank apart in
    record {
      views = views_swapped before x q apart;
      pairs = λ name. ap (λ l. partner_of l name) (pairs_swapped before x q still has apart');
      made = communicators_swapped n before x q still apart apart';
    }
