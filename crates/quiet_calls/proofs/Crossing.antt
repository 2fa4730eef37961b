-- A call that names the other rank, and an event of another rank, leave the same in either order.
use Rattle.std.proofs.Common.{◌≡◌, ◌∙◌, ◌++◌, ◌==◌, ◌∷◌, ◌⊎◌, ℕ, ℤ, List, [], Option, Some, None, Result, true, false, append-nil, inl, inr, length, refl, ap, sym}
use Rattle.std.proofs.Math.Path.{fun_ext}
use Rattle.std.proofs.lemmas.Bool.{eq-eqb, eqb-true}
use Rattle.mpi_call.specs.declared.call.Call.{Call}
use Rattle.run_model.specs.declared.event.Event.{Event}
use Rattle.run_model.specs.Choice.{suits}
use Rattle.run_model.specs.Communicators.{Entered, enter_at, is_on}
use Rattle.run_model.specs.Numbers.{communicators_of, made_at, origins_from}
use Rattle.run_model.specs.Pairs.{Name, named, pair_of, pair_with, pairs_of, partner_of, same_name}
use Rattle.run_model.specs.Views.{View, is_start, starts_of, view_of}
use Rattle.run_model.proofs.Numbered.{communicators_of-push}
use Rattle.run_model.proofs.Positions.{new_name}
use Rattle.run_model.proofs.Views.{option_cases, test_cases, view_of-append, view_of-mine, view_of-other}
use Rattle.picked_runs.proofs.Grown.{pairs_of-push}
use Rattle.picked_runs.proofs.Pairing.{same_name-true}
use Rattle.run_states.specs.Futures.{SameFuture, mate_name}
use Rattle.quiet_calls.proofs.Named.{named_makes, named_off, other_of}
use Rattle.quiet_calls.proofs.Beside.{enter_beside}
use Rattle.quiet_calls.proofs.Swapping.{made_with, pair_beside, pair_is, views_swapped}
use Rattle.quiet_calls.proofs.Meeting.{TakesNone, new_apart, seam_name}

-- 1. Enters and communicators do not know of it

pub enters_off : (n : ℕ) (before : List Event) (event : Event) → ((comm : ℕ) → is_on comm event.call ≡ false) → (comm instance m : ℕ)
    → enter_at n (view_of (before ++ event ∷ []) m) comm instance ≡ enter_at n (view_of before m) comm instance
enters_off n before event off comm instance m =
    elim (test_cases (event.rank == m)) [
      | inl t ↦
          ap (λ (v : View). enter_at n v comm instance) (view_of-mine before event m (eqb-true event.rank m t))
          ∙ enter_beside n (view_of before m) event.call event.reply comm instance (off comm)
      | inr f ↦ ap (λ (v : View). enter_at n v comm instance) (view_of-other before event m f)
    ]

pub made_none : (n : ℕ) (before : List Event) (event : Event) → ((gathered : Result (List (List ℤ)) ℕ) (instance : ℕ) → origins_from gathered instance event.call ≡ [])
    → made_at n before event ≡ []
made_none n before event none =
    elim (test_cases (is_start (event.call, event.reply))) [
      | inl t ↦ rw t (none _ _)
      | inr t ↦ rw t refl
    ]

pub made_off : (n : ℕ) (before : List Event) (event : Event) → ((gathered : Result (List (List ℤ)) ℕ) (instance : ℕ) → origins_from gathered instance event.call ≡ [])
    → communicators_of n (before ++ event ∷ []) ≡ communicators_of n before
made_off n before event none =
    communicators_of-push n before event
    ∙ (ap (λ l. communicators_of n before ++ l) (made_none n before event none) ∙ append-nil (communicators_of n before))

-- 2. partners

-- the first that is there
abbrev first_of : Option Name → Option Name → Option Name
first_of (Some name) other = Some name
first_of None other = other

partner_more : (P Q : List (Name × Name)) (name : Name) → partner_of (P ++ Q) name ≡ first_of (partner_of P name) (partner_of Q name)
partner_more [] Q name = refl
partner_more (pair ∷ P) Q name =
    elim (test_cases (same_name pair.0 name)) [
      | inl t ↦ rw t refl
      | inr t ↦ elim (test_cases (same_name pair.1 name)) [
        | inl u ↦ rw (t, u) refl
        | inr u ↦ rw (t, u) (partner_more P Q name)
      ]
    ]

-- two pairs of other starts are in either order
abbrev AreApart : List (Name × Name) → List (Name × Name) → Type 0
AreApart A B = (name : Name) → (partner_of A name ≡ None) ⊎ (partner_of B name ≡ None)

first_last : (a b : Option Name) → b ≡ None → first_of a b ≡ a
first_last (Some x) b none = refl
first_last None b none = none

swap_by : (a b c : Option Name) → (b ≡ None) ⊎ (c ≡ None) → first_of (first_of a b) c ≡ first_of (first_of a c) b
swap_by (Some x) b c apart = refl
swap_by None b c (inl none) = ap (λ o. first_of o c) none ∙ sym (first_last c b none)
swap_by None b c (inr none) = first_last b c none ∙ sym (ap (λ o. first_of o b) none)

partners_swapped : (P A B : List (Name × Name)) → AreApart A B → (name : Name) → partner_of ((P ++ A) ++ B) name ≡ partner_of ((P ++ B) ++ A) name
partners_swapped P A B apart name =
    let one : partner_of ((P ++ A) ++ B) name ≡ first_of (first_of (partner_of P name) (partner_of A name)) (partner_of B name) =
    partner_more (P ++ A) B name ∙ ap (λ o. first_of o (partner_of B name)) (partner_more P A name) in
    let two : partner_of ((P ++ B) ++ A) name ≡ first_of (first_of (partner_of P name) (partner_of B name)) (partner_of A name) =
    partner_more (P ++ B) A name ∙ ap (λ o. first_of o (partner_of A name)) (partner_more P B name) in
    one ∙ (swap_by (partner_of P name) (partner_of A name) (partner_of B name) (apart name) ∙ sym two)

-- the pair that an event makes is of its own start and of its mate
partner_in : (before : List Event) (event : Event) (name other : Name) → event.met ≡ [] → partner_of (pair_of before event) name ≡ Some other
    → (mate_name before event.mate ≡ Some name) ⊎ ((new_name before event ≡ name) × (mate : Name) × (mate_name before event.mate ≡ Some mate))
partner_in before event name other none_met h =
    elim (option_cases (mate_name before event.mate)) [
      | inl some ↦
          let one : pair_of before event ≡ (some.0, new_name before event) ∷ [] = pair_is before event none_met ∙ ap (λ m. pair_with m (new_name before event)) some.1 in
          let there : partner_of ((some.0, new_name before event) ∷ []) name ≡ Some other = ap (λ l. partner_of l name) (sym one) ∙ h in
          elim (test_cases (same_name some.0 name)) [
            | inl t ↦ inl (some.1 ∙ ap (λ (x : Name). Some x) (same_name-true some.0 name t))
            | inr t ↦ elim (test_cases (same_name (new_name before event) name)) [
              | inl u ↦ inr (same_name-true (new_name before event) name u, some.0, some.1)
              | inr u ↦ absurd (let no : None ≡ Some other = rw (t, u) at there in cc)
            ]
          ]
      | inr none ↦
          let one : pair_of before event ≡ [] = pair_is before event none_met ∙ ap (λ m. pair_with m (new_name before event)) none in
          let no : None ≡ Some other = ap (λ l. partner_of l name) (sym one) ∙ h in
          absurd (cc)
    ]

-- 3. both in either order

-- the start that an event takes was there, and the event's call suits it
abbrev pub HasStart : List Event → Event → Type 0
HasStart before event = (name : Name) → mate_name before event.mate ≡ Some name → (start : Call) × (named before name ≡ Some start) × (suits event.rank event.call name.0 start ≡ true)

pairs_apart : (before : List Event) (x q : Event) → x.met ≡ [] → q.met ≡ [] → (x.rank == q.rank) ≡ false → HasStart before x → HasStart before q → TakesNone before x q.rank q.call
    → AreApart (pair_of before x) (pair_of before q)
pairs_apart before x q x_met q_met apart xs qs none name =
    elim (option_cases (partner_of (pair_of before x) name)) [
      | inr free ↦ inl free
      | inl a ↦ elim (option_cases (partner_of (pair_of before q) name)) [
        | inr free ↦ inr free
        | inl b ↦ absurd (elim (partner_in before x name a.0 x_met a.1) [
          | inl mine ↦ elim (partner_in before q name b.0 q_met b.1) [
            | inl yours ↦ (let s = qs name yours in none name s.0 mine s.1 s.2)
            | inr new ↦ (let s = xs name mine in new_apart before q name s.0 s.1 new.0)
          ]
          | inr new ↦ elim (partner_in before q name b.0 q_met b.1) [
            | inl yours ↦ (let s = qs name yours in new_apart before x name s.0 s.1 new.0)
            | inr newer ↦
                let ranks : x.rank ≡ q.rank = ap (λ (m : Name). m.0) (new.0 ∙ sym newer.0) in
                let no : true ≡ false = sym (eq-eqb x.rank q.rank ranks) ∙ apart in
                cc
          ]
        ])
      ]
    ]

-- an event with another mate
abbrev pub with_mate : Event → Option ℕ → Event
with_mate event mate = record { rank = event.rank; call = event.call; reply = event.reply; mate = mate; met = event.met }

pub seen_with : (before : List Event) (event : Event) (mate : Option ℕ) (rank : ℕ) → view_of (before ++ with_mate event mate ∷ []) rank ≡ view_of (before ++ event ∷ []) rank
seen_with before event mate rank = view_of-append before (with_mate event mate ∷ []) rank ∙ sym (view_of-append before (event ∷ []) rank)

-- what it makes does not tell
pub made_beside : (n : ℕ) (before : List Event) (x : Event) (mate : Option ℕ) (q : Event) → ((comm : ℕ) → is_on comm q.call ≡ false) → (x.rank == q.rank) ≡ false
    → (q.rank == x.rank) ≡ false → made_at n (before ++ q ∷ []) (with_mate x mate) ≡ made_at n before x
made_beside n before x mate q off apart apart' =
    let one : ℕ → ℕ → ℕ → Option Entered = λ m comm instance. enter_at n (view_of ((before ++ q ∷ []) ++ with_mate x mate ∷ []) m) comm instance in
    let two : ℕ → ℕ → ℕ → Option Entered = λ m comm instance. enter_at n (view_of (before ++ x ∷ []) m) comm instance in
    let each : (m comm instance : ℕ) → one m comm instance ≡ two m comm instance =
    λ m comm instance. ap (λ (v : View). enter_at n v comm instance) (seen_with (before ++ q ∷ []) x mate m ∙ sym (views_swapped before x q apart m))
    ∙ enters_off n (before ++ x ∷ []) q off comm instance m in
    let same : one ≡ two = fun_ext (λ m. fun_ext (λ comm. fun_ext (λ instance. each m comm instance))) in
    ap (λ (find : ℕ → ℕ → ℕ → Option Entered). made_with n find (view_of (before ++ q ∷ []) x.rank) x) same
    ∙ ap (λ (v : View). made_with n two v x) (view_of-other before q x.rank apart')

communicators_beside : (n : ℕ) (before : List Event) (x q : Event) (m k : Option ℕ) (w : ℕ) → other_of q.call ≡ Some w → (x.rank == q.rank) ≡ false → (q.rank == x.rank) ≡ false
    → communicators_of n ((before ++ x ∷ []) ++ with_mate q k ∷ []) ≡ communicators_of n ((before ++ q ∷ []) ++ with_mate x m ∷ [])
communicators_beside n before x q m k w named apart apart' =
    made_off n (before ++ x ∷ []) (with_mate q k) (λ gathered instance. named_makes gathered instance q.call w named)
    ∙ (communicators_of-push n before x
    ∙ sym (communicators_of-push n (before ++ q ∷ []) (with_mate x m)
    ∙ (ap (λ l. l ++ made_at n (before ++ q ∷ []) (with_mate x m)) (made_off n before q (λ gathered instance. named_makes gathered instance q.call w named))
    ∙ ap (λ l. communicators_of n before ++ l) (made_beside n before x m q (λ comm. named_off comm q.call w named) apart apart'))))

views_beside : (before : List Event) (x q : Event) (m k : Option ℕ) → (x.rank == q.rank) ≡ false → (rank : ℕ)
    → view_of ((before ++ x ∷ []) ++ with_mate q k ∷ []) rank ≡ view_of ((before ++ q ∷ []) ++ with_mate x m ∷ []) rank
views_beside before x q m k apart rank =
    seen_with (before ++ x ∷ []) q k rank ∙ (views_swapped before x q apart rank ∙ sym (seen_with (before ++ q ∷ []) x m rank))

-- they take nothing of each other
pub future_beside : (n : ℕ) (before : List Event) (x q : Event) (w : ℕ) → x.met ≡ [] → q.met ≡ [] → other_of q.call ≡ Some w → (x.rank == q.rank) ≡ false → (q.rank == x.rank) ≡ false
    → HasStart before x → HasStart before q → TakesNone before x q.rank q.call → mate_name (before ++ x ∷ []) q.mate ≡ mate_name before q.mate
    → mate_name (before ++ q ∷ []) x.mate ≡ mate_name before x.mate → SameFuture n ((before ++ x ∷ []) ++ q ∷ []) ((before ++ q ∷ []) ++ x ∷ [])
future_beside n before x q w x_met q_met named apart apart' xs qs none qm xm =
    let P : List (Name × Name) = pairs_of before in
    let A : List (Name × Name) = pair_of before x in
    let B : List (Name × Name) = pair_of before q in
    let one : pairs_of ((before ++ x ∷ []) ++ q ∷ []) ≡ (P ++ A) ++ B =
    pairs_of-push (before ++ x ∷ []) q ∙ (ap (λ l. l ++ pair_of (before ++ x ∷ []) q) (pairs_of-push before x) ∙ ap (λ l. (P ++ A) ++ l) (pair_beside before x q qm apart)) in
    let two : pairs_of ((before ++ q ∷ []) ++ x ∷ []) ≡ (P ++ B) ++ A =
    pairs_of-push (before ++ q ∷ []) x ∙ (ap (λ l. l ++ pair_of (before ++ q ∷ []) x) (pairs_of-push before q) ∙ ap (λ l. (P ++ B) ++ l) (pair_beside before q x xm apart')) in
    record {
      views = views_beside before x q x.mate q.mate apart;
      pairs = λ name. ap (λ l. partner_of l name) one ∙ (partners_swapped P A B (pairs_apart before x q x_met q_met apart xs qs none) name ∙ sym (ap (λ l. partner_of l name) two));
      made = communicators_beside n before x q x.mate q.mate w named apart apart';
    }

-- one takes the other
either_pair : (a b name : Name) → (a ≡ b → ⊥) → partner_of ((a, b) ∷ []) name ≡ partner_of ((b, a) ∷ []) name
either_pair a b name apart =
    elim (test_cases (same_name a name)) [
      | inl t ↦ elim (test_cases (same_name b name)) [
        | inl u ↦ absurd (apart (same_name-true a name t ∙ sym (same_name-true b name u)))
        | inr u ↦ rw (t, u) refl
      ]
      | inr t ↦ elim (test_cases (same_name b name)) [
        | inl u ↦ rw (t, u) refl
        | inr u ↦ rw (t, u) refl
      ]
    ]

pub pair_none : (before : List Event) (event : Event) → event.met ≡ [] → mate_name before event.mate ≡ None → pair_of before event ≡ []
pair_none before event none_met none = pair_is before event none_met ∙ ap (λ m. pair_with m (new_name before event)) none

pair_last : (before : List Event) (other event : Event) → event.met ≡ [] → is_start (other.call, other.reply) ≡ true → (other.rank == event.rank) ≡ false
    → pair_of (before ++ other ∷ []) (with_mate event (Some (length before))) ≡ (new_name before other, new_name before event) ∷ []
pair_last before other event none_met starts apart =
    let pair : Name → View → List (Name × Name) = λ a v. (a, (event.rank, length (starts_of v))) ∷ [] in
    pair_is (before ++ other ∷ []) (with_mate event (Some (length before))) none_met
    ∙ (ap (λ m. pair_with m (new_name (before ++ other ∷ []) event)) (seam_name before other starts)
    ∙ ap (λ (v : View). pair (new_name before other) v) (view_of-other before other event.rank apart))

pub future_crossed : (n : ℕ) (before : List Event) (x q : Event) (w : ℕ) → x.met ≡ [] → q.met ≡ [] → other_of q.call ≡ Some w → (x.rank == q.rank) ≡ false → (q.rank == x.rank) ≡ false
    → is_start (x.call, x.reply) ≡ true → is_start (q.call, q.reply) ≡ true → mate_name before x.mate ≡ None → mate_name before q.mate ≡ None
    → SameFuture n ((before ++ x ∷ []) ++ with_mate q (Some (length before)) ∷ []) ((before ++ q ∷ []) ++ with_mate x (Some (length before)) ∷ [])
future_crossed n before x q w x_met q_met named apart apart' xstart qstart xm qm =
    let P : List (Name × Name) = pairs_of before in
    let a : Name = new_name before x in
    let b : Name = new_name before q in
    let at : Option ℕ = Some (length before) in
    let one : pairs_of ((before ++ x ∷ []) ++ with_mate q at ∷ []) ≡ P ++ (a, b) ∷ [] =
    pairs_of-push (before ++ x ∷ []) (with_mate q at)
    ∙ (ap (λ l. l ++ pair_of (before ++ x ∷ []) (with_mate q at)) (pairs_of-push before x ∙ (ap (λ l. P ++ l) (pair_none before x x_met xm) ∙ append-nil P))
    ∙ ap (λ l. P ++ l) (pair_last before x q q_met xstart apart)) in
    let two : pairs_of ((before ++ q ∷ []) ++ with_mate x at ∷ []) ≡ P ++ (b, a) ∷ [] =
    pairs_of-push (before ++ q ∷ []) (with_mate x at)
    ∙ (ap (λ l. l ++ pair_of (before ++ q ∷ []) (with_mate x at)) (pairs_of-push before q ∙ (ap (λ l. P ++ l) (pair_none before q q_met qm) ∙ append-nil P))
    ∙ ap (λ l. P ++ l) (pair_last before q x x_met qstart apart')) in
    let beside : a ≡ b → ⊥ = λ e. (let ranks : x.rank ≡ q.rank = ap (λ (m : Name). m.0) e in let no : true ≡ false = sym (eq-eqb x.rank q.rank ranks) ∙ apart in cc) in
    record {
      views = views_beside before x q at at apart;
      pairs = λ name. ap (λ l. partner_of l name) one
          ∙ (partner_more P ((a, b) ∷ []) name ∙ (ap (λ o. first_of (partner_of P name) o) (either_pair a b name beside)
          ∙ sym (ap (λ l. partner_of l name) two ∙ partner_more P ((b, a) ∷ []) name)));
      made = communicators_beside n before x q at at w named apart apart';
    }

-- 4. a pair of other starts leaves a start's partner as it is

pub partner_beside : (before : List Event) (event : Event) (name : Name) → partner_of (pair_of before event) name ≡ None
    → partner_of (pairs_of (before ++ event ∷ [])) name ≡ partner_of (pairs_of before) name
partner_beside before event name none =
    ap (λ l. partner_of l name) (pairs_of-push before event)
    ∙ (partner_more (pairs_of before) (pair_of before event) name ∙ first_last (partner_of (pairs_of before) name) (partner_of (pair_of before event) name) none)

pub pair_other : (before : List Event) (event : Event) (name : Name) → event.met ≡ [] → HasStart before event → ((start : Call) → suits event.rank event.call name.0 start ≡ true → ⊥)
    → (event.rank ≡ name.0 → ⊥) → partner_of (pair_of before event) name ≡ None
pair_other before event name none_met has never apart =
    elim (option_cases (partner_of (pair_of before event) name)) [
      | inl some ↦ absurd (elim (partner_in before event name some.0 none_met some.1) [
        | inl mine ↦ (let s = has name mine in never s.0 s.2)
        | inr new ↦ apart (ap (λ (m : Name). m.0) new.0)
      ])
      | inr none ↦ none
    ]
