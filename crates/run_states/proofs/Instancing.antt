-- What a history made, by looking at its Enters.
use Rattle.std.proofs.Common.{◌≡◌, ◌≤◌, ◌-◌, ◌==◌, ◌∙◌, arith, drop, get_or, ◌++◌, ◌∷◌, if◌then◌else◌, ℕ, suc, ℤ, List, [], Option, Some, None, Result, Ok, Err, append_assoc, inl, inr, length, map, option_map, refl, slice_get, take, true, false, ap, sym, subst}
use Rattle.std.proofs.Math.Seq.{take-length}
use Rattle.std.proofs.lemmas.Bool.{eq-eqb}
use Rattle.std.proofs.lemmas.Option.{slice_get-map}
use Rattle.mpi_call.specs.declared.call.Call.{Call}
use Rattle.mpi_call.specs.declared.call.Call.TheVariants.{Send, Post, Enter, Take, Peek, Abort, Trap, End}
use Rattle.mpi_call.specs.declared.call.Kind.{Kind}
use Rattle.mpi_call.specs.declared.call.Kind.TheVariants.{Barrier, Bcast, Reduce, Allreduce, Gather, Allgather, Scatter, Alltoall, Scan, Split, Dup}
use Rattle.mpi_call.specs.declared.call.Op.{Op}
use Rattle.mpi_call.specs.Calls.{comm_of, ints_of}
use Rattle.run_model.specs.declared.event.Event.{Event}
use Rattle.run_model.specs.Communicators.{Entered, count_on, enter_at, entered_from, is_enter_of, is_on, known_after, known_first, learned, members_for_rank, or_none}
use Rattle.run_model.specs.Inputs.{push_ints, with_ints}
use Rattle.run_model.specs.Lists.{world}
use Rattle.run_model.specs.Numbers.{Origin, colours_entered, colours_made, entered_by_all, made_at, origins_from}
use Rattle.run_model.specs.Views.{View, is_start, starts_of, view_of}
use Rattle.run_model.proofs.CommunicatorLaws.{known_after-some}
use Rattle.run_model.proofs.Views.{test_cases}
use Rattle.run_states.specs.inside.Origins.{colour_origins, enter_calls_on, if_entered, origins_made}

-- 1. an event and those behind it

pub enters_front : (comm rank : ℕ) (event : Event) (after : List Event)
    → enter_calls_on comm (view_of (event ∷ after) rank) ≡ (if is_enter_of rank comm event then event.call ∷ enter_calls_on comm (view_of after rank) else enter_calls_on comm (view_of after rank))
enters_front comm rank event after =
    elim (test_cases (event.rank == rank)) [
      | inl t ↦ rw t (elim (test_cases (is_start (event.call, event.reply))) [
        | inl s ↦ rw s (elim (test_cases (is_on comm event.call)) [
          | inl u ↦ rw u refl
          | inr u ↦ rw u refl
        ])
        | inr s ↦ rw s refl
      ])
      | inr f ↦ rw f (elim (test_cases (is_start (event.call, event.reply))) [
        | inl s ↦ rw s (elim (test_cases (is_on comm event.call)) [
          | inl u ↦ rw u refl
          | inr u ↦ rw u refl
        ])
        | inr s ↦ rw s refl
      ])
    ]

pub count_front : (comm rank : ℕ) (event : Event) (after : List Event)
    → count_on comm (starts_of (view_of (event ∷ after) rank)) ≡ (if is_enter_of rank comm event then suc (count_on comm (starts_of (view_of after rank))) else count_on comm (starts_of (view_of after rank)))
count_front comm rank event after =
    elim (test_cases (event.rank == rank)) [
      | inl t ↦ rw t (elim (test_cases (is_start (event.call, event.reply))) [
        | inl s ↦ rw s (elim (test_cases (is_on comm event.call)) [
          | inl u ↦ rw u refl
          | inr u ↦ rw u refl
        ])
        | inr s ↦ rw s refl
      ])
      | inr f ↦ rw f (elim (test_cases (is_start (event.call, event.reply))) [
        | inl s ↦ rw s (elim (test_cases (is_on comm event.call)) [
          | inl u ↦ rw u refl
          | inr u ↦ rw u refl
        ])
        | inr s ↦ rw s refl
      ])
    ]

-- 2. what was entered

abbrev call_in : Entered → Call
call_in entered = entered.call

calls_entered : (comm number : ℕ) (known : Option (List ℕ)) (view : View) → map call_in (entered_from comm number known view) ≡ enter_calls_on comm view
calls_entered comm number known [] = refl
calls_entered comm number known ((call, reply) ∷ view) =
    elim (test_cases (is_start (call, reply))) [
      | inl t ↦ elim (test_cases (is_on comm call)) [
        | inl u ↦ rw (t, u) (ap (λ l. call ∷ l) (calls_entered comm (suc number) (learned comm known reply) view))
        | inr u ↦ rw (t, u) (calls_entered comm (suc number) (learned comm known reply) view)
      ]
      | inr t ↦ rw t (calls_entered comm number (learned comm known reply) view)
    ]

pub enter_call : (n comm instance : ℕ) (view : View) → option_map call_in (enter_at n view comm instance) ≡ slice_get (enter_calls_on comm view) instance
enter_call n comm instance view =
    sym (slice_get-map call_in (entered_from comm 0 (known_first n comm) view) instance)
    ∙ ap (λ l. slice_get l instance) (calls_entered comm 0 (known_first n comm) view)

-- the inputs of some members, with those of one more in front
abbrev pushed_front : List ℤ → Option (List (List ℤ)) → Option (List (List ℤ))
pushed_front ints inputs = option_map (λ rest. ints ∷ rest) inputs

push_given : (ints : List ℤ) (r : Result (List (List ℤ)) ℕ) → if_entered (push_ints ints r) ≡ pushed_front ints (if_entered r)
push_given ints (Ok inputs) = refl
push_given ints (Err m) = refl

with_given : (m : ℕ) (o : Option Entered) (call : Call) (r : Result (List (List ℤ)) ℕ) → option_map call_in o ≡ Some call
    → if_entered (with_ints m o r) ≡ pushed_front (ints_of call) (if_entered r)
with_given m None call r h = (let no : None ≡ Some call = h in absurd (cc))
with_given m (Some entered) call r h =
    let some : Some entered.call ≡ Some call = h in
    let same : entered.call ≡ call = cc in
    push_given (ints_of entered.call) r ∙ ap (λ c. pushed_front (ints_of c) (if_entered r)) same

without : (m : ℕ) (o : Option Entered) (r : Result (List (List ℤ)) ℕ) → option_map call_in o ≡ None → if_entered (with_ints m o r) ≡ None
without m None r h = refl
without m (Some entered) r h = (let no : Some entered.call ≡ None = h in absurd (cc))

-- one member more has entered, or has not
pub gathered_some : (n : ℕ) (V : ℕ → View) (comm instance m : ℕ) (members : List ℕ) (call : Call) → slice_get (enter_calls_on comm (V m)) instance ≡ Some call
    → if_entered (entered_by_all n V comm instance (m ∷ members)) ≡ pushed_front (ints_of call) (if_entered (entered_by_all n V comm instance members))
gathered_some n V comm instance m members call h =
    with_given m (enter_at n (V m) comm instance) call (entered_by_all n V comm instance members) (enter_call n comm instance (V m) ∙ h)

pub gathered_none : (n : ℕ) (V : ℕ → View) (comm instance m : ℕ) (members : List ℕ) → slice_get (enter_calls_on comm (V m)) instance ≡ None
    → if_entered (entered_by_all n V comm instance (m ∷ members)) ≡ None
gathered_none n V comm instance m members h =
    without m (enter_at n (V m) comm instance) (entered_by_all n V comm instance members) (enter_call n comm instance (V m) ∙ h)

-- 3. members

pub known_front : (comm rank : ℕ) (event : Event) (after : List Event) → (event.rank == rank) ≡ false
    → known_after comm None (view_of (event ∷ after) rank) ≡ known_after comm None (view_of after rank)
known_front comm rank event after f = rw f refl

pub known_here : (comm rank : ℕ) (event : Event) (after : List Event) (members : List ℕ) → (event.rank == rank) ≡ true → learned comm None event.reply ≡ Some members
    → known_after comm None (view_of (event ∷ after) rank) ≡ Some members
known_here comm rank event after members t h =
    rw t (ap (λ (o : Option (List ℕ)). known_after comm o (view_of after rank)) h ∙ known_after-some comm members (view_of after rank))

pub known_later : (comm rank : ℕ) (event : Event) (after : List Event) → (event.rank == rank) ≡ true → learned comm None event.reply ≡ None
    → known_after comm None (view_of (event ∷ after) rank) ≡ known_after comm None (view_of after rank)
known_later comm rank event after t h = rw t (ap (λ (o : Option (List ℕ)). known_after comm o (view_of after rank)) h)

pub members_first : (n comm : ℕ) (view : View) → comm ≡ 0 → members_for_rank n view comm ≡ world n 0
members_first n comm view first =
    let F : ℕ → Type 0 = λ c. members_for_rank n view c ≡ world n 0 in
    subst F (sym first) (ap or_none (known_after-some 0 (world n 0) view))

pub members_made : (n comm : ℕ) (view : View) → (comm == 0) ≡ false → members_for_rank n view comm ≡ or_none (known_after comm None view)
members_made n comm view f = rw f refl

-- 4. what an event makes

none_from : (r : Result (List (List ℤ)) ℕ) (instance : ℕ) (enter : Call) → ((inputs : List (List ℤ)) → colours_made enter inputs ≡ []) → origins_from r instance enter ≡ []
none_from (Ok inputs) instance enter h = ap (λ colours. map (λ colour. record { comm = comm_of enter; instance = instance; colour = colour }) colours) (h inputs)
none_from (Err m) instance enter h = refl

pub not_made : (n : ℕ) (before : List Event) (event : Event) → is_start (event.call, event.reply) ≡ false → made_at n before event ≡ []
not_made n before event f = rw f refl

abbrev colour_list : ℤ → List ℤ
colour_list colour = colour ∷ []

split_map : (comm instance : ℕ) (colours : List ℤ)
    → map (λ (c : List ℤ). record { comm = comm; instance = instance; colour = c }) (map colour_list colours) ≡ colour_origins comm instance colours
split_map comm instance [] = refl
split_map comm instance (c ∷ colours) = ap (λ l. (record { comm = comm; instance = instance; colour = c ∷ [] }) ∷ l) (split_map comm instance colours)

given_ok : (r : Result (List (List ℤ)) ℕ) (inputs : List (List ℤ)) → if_entered r ≡ Some inputs → r ≡ Ok inputs
given_ok (Ok found) inputs h = (let same : found ≡ inputs = cc in ap (λ x. Ok x) same)
given_ok (Err m) inputs h = (let no : None ≡ Some inputs = h in absurd (cc))

given_none : (r : Result (List (List ℤ)) ℕ) (instance : ℕ) (enter : Call) → if_entered r ≡ None → origins_from r instance enter ≡ []
given_none (Ok found) instance enter h = (let no : Some found ≡ None = h in absurd (cc))
given_none (Err m) instance enter h = refl

-- what is entered, by a call
abbrev entered_with : ℕ → List Event → Event → Call → Result (List (List ℤ)) ℕ
entered_with n before event call =
    entered_by_all n (view_of (before ++ event ∷ [])) (comm_of call) (count_on (comm_of call) (starts_of (view_of before event.rank))) (members_for_rank n (view_of before event.rank) (comm_of call))

abbrev made_with : ℕ → List Event → Event → Call → List Origin
made_with n before event call = origins_from (entered_with n before event call) (count_on (comm_of call) (starts_of (view_of before event.rank))) call

pub made_start : (n : ℕ) (before : List Event) (event : Event) → is_start (event.call, event.reply) ≡ true → made_at n before event ≡ made_with n before event event.call
made_start n before event t = rw t refl

-- only an Enter makes communicators
pub other_made : (n : ℕ) (before : List Event) (event : Event) (call : Call) → ((comm : ℕ) → is_on comm call ≡ false) → made_with n before event call ≡ []
other_made n before event (Send comm dest tag ints sync) h = none_from (entered_with n before event (Send comm dest tag ints sync)) _ (Send comm dest tag ints sync) (λ inputs. refl)
other_made n before event (Post comm source tag room) h = none_from (entered_with n before event (Post comm source tag room)) _ (Post comm source tag room) (λ inputs. refl)
other_made n before event (Take starts mode) h = none_from (entered_with n before event (Take starts mode)) _ (Take starts mode) (λ inputs. refl)
other_made n before event (Peek comm source tag wait) h = none_from (entered_with n before event (Peek comm source tag wait)) _ (Peek comm source tag wait) (λ inputs. refl)
other_made n before event (Abort code) h = none_from (entered_with n before event (Abort code)) _ (Abort code) (λ inputs. refl)
other_made n before event (Trap fault) h = none_from (entered_with n before event (Trap fault)) _ (Trap fault) (λ inputs. refl)
other_made n before event End h = none_from (entered_with n before event End) _ End (λ inputs. refl)
other_made n before event (Enter comm kind root op count ints) h = (let same : (comm == comm) ≡ true = eq-eqb comm comm refl in let no : true ≡ false = sym same ∙ h comm in absurd (cc))

-- an Enter that is the last of its instance makes these
pub enter_made : (n : ℕ) (before : List Event) (event : Event) (comm : ℕ) (kind : Kind) (root : Option ℕ) (op : Option Op) (count : ℕ) (ints : List ℤ) (inputs : List (List ℤ))
    → if_entered (entered_with n before event (Enter comm kind root op count ints)) ≡ Some inputs
    → made_with n before event (Enter comm kind root op count ints) ≡ origins_made kind comm (count_on comm (starts_of (view_of before event.rank))) inputs
enter_made n before event comm kind root op count ints inputs h =
    ap (λ r. origins_from r (count_on comm (starts_of (view_of before event.rank))) (Enter comm kind root op count ints))
    (given_ok (entered_with n before event (Enter comm kind root op count ints)) inputs h)
    ∙ by_kind comm (count_on comm (starts_of (view_of before event.rank))) root op count ints inputs kind
  where
    by_kind : (comm instance : ℕ) (root : Option ℕ) (op : Option Op) (count : ℕ) (ints : List ℤ) (inputs : List (List ℤ)) (kind : Kind)
        → origins_from (Ok inputs) instance (Enter comm kind root op count ints) ≡ origins_made kind comm instance inputs
    by_kind comm instance root op count ints inputs Split = split_map comm instance (colours_entered inputs)
    by_kind comm instance root op count ints inputs Dup = refl
    by_kind comm instance root op count ints inputs Barrier = refl
    by_kind comm instance root op count ints inputs Bcast = refl
    by_kind comm instance root op count ints inputs Reduce = refl
    by_kind comm instance root op count ints inputs Allreduce = refl
    by_kind comm instance root op count ints inputs Gather = refl
    by_kind comm instance root op count ints inputs Allgather = refl
    by_kind comm instance root op count ints inputs Scatter = refl
    by_kind comm instance root op count ints inputs Alltoall = refl
    by_kind comm instance root op count ints inputs Scan = refl

pub enter_waits : (n : ℕ) (before : List Event) (event : Event) (call : Call) → if_entered (entered_with n before event call) ≡ None → made_with n before event call ≡ []
enter_waits n before event call h = given_none (entered_with n before event call) (count_on (comm_of call) (starts_of (view_of before event.rank))) call h

-- 5. as the functions look things up

pub known_at : (comm rank : ℕ) (rest : List Event) (event d : Event) (members : List ℕ) → 1 ≤ length rest → event ≡ get_or rest 0 d → event.rank ≡ rank
    → learned comm None event.reply ≡ Some members → known_after comm None (view_of rest rank) ≡ Some members
known_at comm rank [] event d members some is mine h = absurd (omega (arith, some))
known_at comm rank (first ∷ after) event d members some is mine h =
    let same : first ≡ event = sym is in
    let F : Event → Type 0 = λ e. known_after comm None (view_of (e ∷ after) rank) ≡ Some members in
    subst F (sym same) (known_here comm rank event after members (eq-eqb event.rank rank mine) h)

pub gathered_none_at : (n : ℕ) (V : ℕ → View) (comm instance : ℕ) (inputs : List (List ℤ)) (rest members : List ℕ) (m d : ℕ) → 1 ≤ length rest → m ≡ get_or rest 0 d
    → slice_get (enter_calls_on comm (V m)) instance ≡ None
    → option_map (λ (more : List (List ℤ)). inputs ++ more) (if_entered (entered_by_all n V comm instance rest)) ≡ if_entered (entered_by_all n V comm instance members)
    → None ≡ if_entered (entered_by_all n V comm instance members)
gathered_none_at n V comm instance inputs [] members m d some is h so_far = absurd (omega (arith, some))
gathered_none_at n V comm instance inputs (first ∷ after) members m d some is h so_far =
    let same : first ≡ m = sym is in
    let F : ℕ → Type 0 = λ k. slice_get (enter_calls_on comm (V k)) instance ≡ None in
    let none : if_entered (entered_by_all n V comm instance (first ∷ after)) ≡ None = gathered_none n V comm instance first after (subst F (sym same) h) in
    sym (ap (λ (o : Option (List (List ℤ))). option_map (λ (more : List (List ℤ)). inputs ++ more) o) none) ∙ so_far

front_given : (inputs : List (List ℤ)) (ints : List ℤ) (o : Option (List (List ℤ)))
    → option_map (λ (more : List (List ℤ)). (inputs ++ ints ∷ []) ++ more) o ≡ option_map (λ (more : List (List ℤ)). inputs ++ more) (pushed_front ints o)
front_given inputs ints None = refl
front_given inputs ints (Some rest) = ap (λ (l : List (List ℤ)). Some l) (append_assoc inputs (ints ∷ []) rest)

pub gathered_some_at : (n : ℕ) (V : ℕ → View) (comm instance : ℕ) (inputs inputs' : List (List ℤ)) (rest members : List ℕ) (m d : ℕ) (call : Call) → 1 ≤ length rest → m ≡ get_or rest 0 d
    → slice_get (enter_calls_on comm (V m)) instance ≡ Some call → inputs' ≡ inputs ++ ints_of call ∷ []
    → option_map (λ (more : List (List ℤ)). inputs ++ more) (if_entered (entered_by_all n V comm instance rest)) ≡ if_entered (entered_by_all n V comm instance members)
    → option_map (λ (more : List (List ℤ)). inputs' ++ more) (if_entered (entered_by_all n V comm instance (take (length rest - 1) (drop 1 rest))))
    ≡ if_entered (entered_by_all n V comm instance members)
gathered_some_at n V comm instance inputs inputs' [] members m d call some is h grown so_far = absurd (omega (arith, some))
gathered_some_at n V comm instance inputs inputs' (first ∷ after) members m d call some is h grown so_far =
    let same : first ≡ m = sym is in
    let F : ℕ → Type 0 = λ k. slice_get (enter_calls_on comm (V k)) instance ≡ Some call in
    let front : if_entered (entered_by_all n V comm instance (first ∷ after)) ≡ pushed_front (ints_of call) (if_entered (entered_by_all n V comm instance after)) =
    gathered_some n V comm instance first after call (subst F (sym same) h) in
    let left : suc (length after) - 1 ≡ length after = omega arith in
    let whole : take (suc (length after) - 1) after ≡ after = ap (λ k. take k after) left ∙ take-length after in
    let o : Option (List (List ℤ)) = if_entered (entered_by_all n V comm instance after) in
    ap (λ (l : List ℕ). option_map (λ (more : List (List ℤ)). inputs' ++ more) (if_entered (entered_by_all n V comm instance l))) whole
    ∙ (ap (λ (l : List (List ℤ)). option_map (λ (more : List (List ℤ)). l ++ more) o) grown
    ∙ (front_given inputs (ints_of call) o
    ∙ (ap (λ (x : Option (List (List ℤ))). option_map (λ (more : List (List ℤ)). inputs ++ more) x) (sym front) ∙ so_far)))

pub made_there : (n : ℕ) (before events : List Event) (event : Event) (members : List ℕ) (comm : ℕ) (kind : Kind) (root : Option ℕ) (op : Option Op) (count : ℕ) (ints : List ℤ) (instance : ℕ) (inputs : List (List ℤ))
    → event.call ≡ Enter comm kind root op count ints → is_start (event.call, event.reply) ≡ true → events ≡ before ++ event ∷ []
    → members ≡ members_for_rank n (view_of before event.rank) comm → instance ≡ count_on comm (starts_of (view_of before event.rank))
    → if_entered (entered_by_all n (view_of events) comm instance members) ≡ Some inputs
    → made_at n before event ≡ origins_made kind comm instance inputs
made_there n before events event members comm kind root op count ints instance inputs call start whole all at given =
    let enter : Call = Enter comm kind root op count ints in
    let E : List Event → ℕ → List ℕ → Option (List (List ℤ)) = λ l i ms. if_entered (entered_by_all n (view_of l) comm i ms) in
    let here : if_entered (entered_with n before event enter) ≡ Some inputs =
    sym (ap (λ l. E l instance members) whole ∙ (ap (λ i. E (before ++ event ∷ []) i members) at ∙ ap (E (before ++ event ∷ []) (count_on comm (starts_of (view_of before event.rank)))) all)) ∙ given in
    made_start n before event start ∙ (ap (made_with n before event) call ∙ (enter_made n before event comm kind root op count ints inputs here
    ∙ ap (λ i. origins_made kind comm i inputs) (sym at)))
