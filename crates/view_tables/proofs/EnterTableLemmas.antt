-- The table of Enters after one more event.
use Rattle.std.proofs.Common.{◌≡◌, ◌≢◌, ◌<◌, ◌+◌, ℕ, zero, suc, List, [], ◌∷◌, ◌++◌, ◌==◌, inl, inr, Option, Some, None, true, false, refl, ap, sym, ◌∙◌, arith, append-nil, cond, get_or, get_or-set_other, get_or-set_same, length, length-set, nat_eq, replicate, set, slice_get, subst, unwrap_or, IsSome, if◌then◌else◌}
use Rattle.std.specs.Map.{lookup}
use Rattle.std.proofs.lemmas.Bool.{eqb-true, eq-eqb}
use Rattle.std.proofs.lemmas.List.{length-replicate}
use Rattle.std.proofs.lemmas.Option.{slice_get-get_or}
use Rattle.mpi_call.specs.declared.call.Call.{Call}
use Rattle.mpi_call.specs.declared.call.Call.TheVariants.{Send, Post, Enter, Take, Peek, Abort, Trap, End}
use Rattle.mpi_call.specs.declared.reply.Reply.{Reply}
use Rattle.mpi_call.specs.declared.reply.Reply.TheVariants.{Done, Took, NotYet, Peeked, Stopped}
use Rattle.mpi_call.specs.Calls.{is_enter}
use Rattle.run_model.specs.declared.event.Event.{Event}
use Rattle.run_model.specs.Communicators.{Entered, enter_at, entered_from, is_on, known_first, known_in, learned}
use Rattle.run_model.specs.Views.{View, is_done, is_start, start_at, starts_of, view_of}
use Rattle.run_model.proofs.Enters.{entered_from-split}
use Rattle.run_model.proofs.Views.{test_cases, view_of-other, view_of-own}
use Rattle.view_tables.specs.EnterTable.{AreEntersKnown, HaveSameNumbers, HaveSameFor, IsEnterTable, IsNumberAdded, IsNotedFor, entered_comm, enter_numbers_on, entered_numbers, table_numbers, numbers_on}
use Rattle.view_tables.proofs.StartTableLemmas.{get_or-replicate}

at_own : {A : Type 0} (comm : ℕ) (x y : A) → cond (nat_eq comm comm) x y ≡ x
at_own comm x y = (let t : (comm == comm) ≡ true = eq-eqb comm comm refl in rw t refl)

at_other : {A : Type 0} (comm other : ℕ) (x y : A) → (comm == other) ≡ false → cond (nat_eq comm other) x y ≡ y
at_other comm other x y h = rw h refl

pub noted_as : (old new : List (ℕ × List ℕ)) (comm number : ℕ) (now : List ℕ) → now ≡ numbers_on old comm ++ number ∷ [] → ((q : ℕ) → lookup (nat_eq q) new ≡ cond (nat_eq comm q) (Some now) (lookup (nat_eq q) old)) → IsNumberAdded old new comm number
noted_as old new comm number now is updates other =
    elim (test_cases (comm == other)) [
      | inl h ↦ (
          let P : ℕ → Type 0 = λ c. unwrap_or (lookup (nat_eq c) new) [] ≡ numbers_on old c ++ number ∷ [] in
          let same : unwrap_or (lookup (nat_eq comm) new) [] ≡ numbers_on old comm ++ number ∷ [] =
          ap (λ o. unwrap_or o []) (updates comm ∙ at_own comm (Some now) (lookup (nat_eq comm) old)) ∙ is in
          rw h (subst P (eqb-true comm other h) same))
      | inr h ↦ rw h (ap (λ o. unwrap_or o []) (updates other ∙ at_other comm other (Some now) (lookup (nat_eq other) old) h))
    ]

pub same_as : (old new : List (ℕ × List ℕ)) (comm : ℕ) (now : List ℕ) → now ≡ numbers_on old comm → ((q : ℕ) → lookup (nat_eq q) new ≡ cond (nat_eq comm q) (Some now) (lookup (nat_eq q) old)) → (other : ℕ) → numbers_on new other ≡ numbers_on old other
same_as old new comm now is updates other =
    elim (test_cases (comm == other)) [
      | inl h ↦ (
          let P : ℕ → Type 0 = λ c. unwrap_or (lookup (nat_eq c) new) [] ≡ numbers_on old c in
          let same : unwrap_or (lookup (nat_eq comm) new) [] ≡ numbers_on old comm =
          ap (λ o. unwrap_or o []) (updates comm ∙ at_own comm (Some now) (lookup (nat_eq comm) old)) ∙ is in
          subst P (eqb-true comm other h) same)
      | inr h ↦ ap (λ o. unwrap_or o []) (updates other ∙ at_other comm other (Some now) (lookup (nat_eq other) old) h)
    ]

pub some_there : (o : Option (List ℕ)) (x : List ℕ) → Some x ≡ o → IsSome o
some_there o x is = (let P : Option (List ℕ) → Type 0 = λ p. IsSome p in subst P is refl)

pub none_there : (old : List (ℕ × List ℕ)) (comm number : ℕ) (now : List ℕ) → now ≡ [] ++ number ∷ [] → None ≡ lookup (nat_eq comm) old → now ≡ numbers_on old comm ++ number ∷ []
none_there old comm number now is none = is ∙ ap (λ o. unwrap_or o [] ++ number ∷ []) none

at_default : {A : Type 0} (xs : List A) (k : ℕ) (d e : A) → k < length xs → get_or xs k d ≡ get_or xs k e
at_default [] k d e h = absurd (omega (arith, h))
at_default (x ∷ xs) zero d e h = refl
at_default (x ∷ xs) (suc k) d e h = at_default xs k d e (omega (arith, h))

-- the tables of all ranks after a note for one
pub noted_for : (old : List (List (ℕ × List ℕ))) (was now : List (ℕ × List ℕ)) (rank comm number : ℕ) → rank < length old → was ≡ get_or old rank was → IsNumberAdded was now comm number → IsNotedFor old (set old rank now) rank comm number
noted_for old was now rank comm number below at noted =
    let none : List (ℕ × List ℕ) = [] in
    let first : was ≡ get_or old rank none = at ∙ at_default old rank was none below in
    let N : List (ℕ × List ℕ) → Type 0 = λ l. IsNumberAdded l now comm number in
    let is = subst N first noted in
    record {
      as_many = length-set old rank now;
      each = λ r other. elim (test_cases (rank == r)) [
        | inl h ↦ (
            let P : ℕ → Type 0 = λ k. table_numbers (set old rank now) k other ≡ (if comm == other then table_numbers old k other ++ number ∷ [] else table_numbers old k other) in
            let own : P rank = rw (get_or-set_same old rank now [] below) (is other) in
            rw h (subst P (eqb-true rank r h) own))
        | inr h ↦ (
            let ne : r ≢ rank = λ e. let t : (rank == r) ≡ true = eq-eqb rank r (sym e) in cc in
            rw (h, get_or-set_other old rank r now [] ne) refl)
      ];
    }

pub same_for : (old : List (List (ℕ × List ℕ))) (was now : List (ℕ × List ℕ)) (rank : ℕ) → rank < length old → was ≡ get_or old rank was → HaveSameNumbers was now → HaveSameFor old (set old rank now)
same_for old was now rank below at same =
    let none : List (ℕ × List ℕ) = [] in
    let first : was ≡ get_or old rank none = at ∙ at_default old rank was none below in
    let N : List (ℕ × List ℕ) → Type 0 = λ l. HaveSameNumbers l now in
    let is = subst N first same in
    record {
      as_many = length-set old rank now;
      each = λ r other. elim (test_cases (rank == r)) [
        | inl h ↦ (
            let P : ℕ → Type 0 = λ k. table_numbers (set old rank now) k other ≡ table_numbers old k other in
            let own : P rank = rw (get_or-set_same old rank now [] below) (is other) in
            subst P (eqb-true rank r h) own)
        | inr h ↦ (
            let ne : r ≢ rank = λ e. let t : (rank == r) ≡ true = eq-eqb rank r (sym e) in cc in
            rw (get_or-set_other old rank r now [] ne) refl)
      ];
    }

-- what one more event adds to the Enters of a view
tail_none : (comm number : ℕ) (known : Option (List ℕ)) (call : Call) (reply : Reply) → entered_comm call reply ≡ None → entered_from comm number known ((call, reply) ∷ []) ≡ []
tail_none comm number known (Send on dest tag ints sync) reply e = elim (test_cases (is_done reply)) [ inl h ↦ rw h refl | inr h ↦ rw h refl ]
tail_none comm number known (Post on source tag room) reply e = elim (test_cases (is_done reply)) [ inl h ↦ rw h refl | inr h ↦ rw h refl ]
tail_none comm number known (Enter on kind root op count ints) Done e = absurd (cc)
tail_none comm number known (Enter on kind root op count ints) (Took items) e = refl
tail_none comm number known (Enter on kind root op count ints) NotYet e = refl
tail_none comm number known (Enter on kind root op count ints) (Peeked source start tag length) e = refl
tail_none comm number known (Enter on kind root op count ints) (Stopped halt) e = refl
tail_none comm number known (Take starts mode) reply e = refl
tail_none comm number known (Peek on source tag wait) reply e = refl
tail_none comm number known (Abort code) reply e = refl
tail_none comm number known (Trap fault) reply e = refl
tail_none comm number known End reply e = refl

tail_some : (comm number on : ℕ) (known : Option (List ℕ)) (call : Call) (reply : Reply) → entered_comm call reply ≡ Some on → entered_numbers (entered_from comm number known ((call, reply) ∷ [])) ≡ (if on == comm then number ∷ [] else [])
tail_some comm number on known (Enter c kind root op count ints) Done e =
    let same : c ≡ on = cc in
    let P : ℕ → Type 0 = λ x. entered_numbers (entered_from comm number known ((Enter c kind root op count ints, Done) ∷ [])) ≡ (if x == comm then number ∷ [] else []) in
    subst P same (elim (test_cases (c == comm)) [ inl h ↦ rw h refl | inr h ↦ rw h refl ])
tail_some comm number on known (Enter c kind root op count ints) (Took items) e = absurd (cc)
tail_some comm number on known (Enter c kind root op count ints) NotYet e = absurd (cc)
tail_some comm number on known (Enter c kind root op count ints) (Peeked source start tag length) e = absurd (cc)
tail_some comm number on known (Enter c kind root op count ints) (Stopped halt) e = absurd (cc)
tail_some comm number on known (Send c dest tag ints sync) reply e = absurd (cc)
tail_some comm number on known (Post c source tag room) reply e = absurd (cc)
tail_some comm number on known (Take starts mode) reply e = absurd (cc)
tail_some comm number on known (Peek c source tag wait) reply e = absurd (cc)
tail_some comm number on known (Abort code) reply e = absurd (cc)
tail_some comm number on known (Trap fault) reply e = absurd (cc)
tail_some comm number on known End reply e = absurd (cc)

numbers_append : (xs ys : List Entered) → entered_numbers (xs ++ ys) ≡ entered_numbers xs ++ entered_numbers ys
numbers_append [] ys = refl
numbers_append (x ∷ xs) ys = ap (λ l. x.number ∷ l) (numbers_append xs ys)

enters_split : (n : ℕ) (own : View) (call : Call) (reply : Reply) (comm : ℕ) → enter_numbers_on n (own ++ (call, reply) ∷ []) comm ≡ enter_numbers_on n own comm ++ entered_numbers (entered_from comm (length (starts_of own)) (known_in n own comm) ((call, reply) ∷ []))
enters_split n own call reply comm =
    let from : 0 + length (starts_of own) ≡ length (starts_of own) = omega arith in
    rw (← from)
    (ap entered_numbers (entered_from-split comm 0 (known_first n comm) own ((call, reply) ∷ []))
    ∙ numbers_append (entered_from comm 0 (known_first n comm) own) (entered_from comm (0 + length (starts_of own)) (known_in n own comm) ((call, reply) ∷ [])))

enters_none : (n : ℕ) (own : View) (call : Call) (reply : Reply) (comm : ℕ) → entered_comm call reply ≡ None → enter_numbers_on n (own ++ (call, reply) ∷ []) comm ≡ enter_numbers_on n own comm
enters_none n own call reply comm e =
    enters_split n own call reply comm
    ∙ rw (tail_none comm (length (starts_of own)) (known_in n own comm) call reply e, append-nil) refl

enters_some : (n : ℕ) (own : View) (call : Call) (reply : Reply) (on comm : ℕ) → entered_comm call reply ≡ Some on → enter_numbers_on n (own ++ (call, reply) ∷ []) comm ≡ (if on == comm then enter_numbers_on n own comm ++ length (starts_of own) ∷ [] else enter_numbers_on n own comm)
enters_some n own call reply on comm e =
    enters_split n own call reply comm
    ∙ ap (λ l. enter_numbers_on n own comm ++ l) (tail_some comm (length (starts_of own)) on (known_in n own comm) call reply e)
    ∙ elim (test_cases (on == comm)) [ inl h ↦ rw h refl | inr h ↦ rw (h, append-nil) refl ]

-- the table of all ranks without events
pub IsEnterTable-new : (n : ℕ) → IsEnterTable n [] (replicate n [])
IsEnterTable-new n =
    record {
      as_many = length-replicate n [];
      each = λ rank comm.
          let none : List (ℕ × List ℕ) = [] in
          ap (λ l. numbers_on l comm) (get_or-replicate n rank none);
    }

-- one more event that is no Enter
pub IsEnterTable-kept : (n : ℕ) (events : List Event) (event : Event) (table : List (List (ℕ × List ℕ))) → entered_comm event.call event.reply ≡ None → IsEnterTable n events table → IsEnterTable n (events ++ event ∷ []) table
IsEnterTable-kept n events event table none is =
    record {
      as_many = is.as_many;
      each = λ rank comm. is.each rank comm ∙ elim (test_cases (event.rank == rank)) [
        | inl h ↦ (
            let P : ℕ → Type 0 = λ r. enter_numbers_on n (view_of events r) comm ≡ enter_numbers_on n (view_of (events ++ event ∷ []) r) comm in
            let own : P event.rank = rw (view_of-own events event) (sym (enters_none n (view_of events event.rank) event.call event.reply comm none)) in
            subst P (eqb-true event.rank rank h) own)
        | inr h ↦ rw (view_of-other events event rank h) refl
      ];
    }

-- one more Enter
pub IsEnterTable-after : (n : ℕ) (events : List Event) (event : Event) (on : ℕ) (old new : List (List (ℕ × List ℕ))) → entered_comm event.call event.reply ≡ Some on → IsNotedFor old new event.rank on (length (starts_of (view_of events event.rank))) → IsEnterTable n events old → IsEnterTable n (events ++ event ∷ []) new
IsEnterTable-after n events event on old new some noted is =
    record {
      as_many = noted.as_many ∙ is.as_many;
      each = λ rank comm. noted.each rank comm ∙ elim (test_cases (event.rank == rank)) [
        | inl h ↦ (
            let number : ℕ = length (starts_of (view_of events event.rank)) in
            let P : ℕ → Type 0 = λ r. (if on == comm then table_numbers old r comm ++ number ∷ [] else table_numbers old r comm) ≡ enter_numbers_on n (view_of (events ++ event ∷ []) r) comm in
            let own : P event.rank = rw (view_of-own events event, is.each event.rank comm) (sym (enters_some n (view_of events event.rank) event.call event.reply on comm some)) in
            rw h (subst P (eqb-true event.rank rank h) own))
        | inr h ↦ rw (h, view_of-other events event rank h) (is.each rank comm)
      ];
    }

-- and none, for want of memory
pub IsEnterTable-same : (n : ℕ) (events : List Event) (old new : List (List (ℕ × List ℕ))) → HaveSameFor old new → IsEnterTable n events old → IsEnterTable n events new
IsEnterTable-same n events old new same is =
    record { as_many = same.as_many ∙ is.as_many; each = λ rank comm. same.each rank comm ∙ is.each rank comm }

-- an Enter of a view stands among its starts
record IsAmong (own : View) (from : ℕ) (one : Entered) : Type 0 where
  pub place : ℕ
  pub number : one.number ≡ from + place
  pub call : slice_get (starts_of own) place ≡ Some one.call
  pub enter : is_enter one.call ≡ true

on_enter : (comm : ℕ) (call : Call) → is_on comm call ≡ true → is_enter call ≡ true
on_enter comm (Enter c kind root op count ints) h = refl
on_enter comm (Send on dest tag ints sync) h = absurd (cc)
on_enter comm (Post on source tag room) h = absurd (cc)
on_enter comm (Take starts mode) h = absurd (cc)
on_enter comm (Peek on source tag wait) h = absurd (cc)
on_enter comm (Abort code) h = absurd (cc)
on_enter comm (Trap fault) h = absurd (cc)
on_enter comm End h = absurd (cc)

later : (own : View) (seen : Call × Reply) (from : ℕ) (one : Entered) → is_start seen ≡ true → IsAmong own (suc from) one → IsAmong (seen ∷ own) from one
later own seen from one h among =
    let number = among.number in
    record { place = suc among.place; number = omega (arith, number); call = rw h among.call; enter = among.enter }

among_starts : (comm from : ℕ) (known : Option (List ℕ)) (own : View) (instance : ℕ) (one : Entered) → slice_get (entered_from comm from known own) instance ≡ Some one → IsAmong own from one
among_starts comm from known [] instance one h = absurd (cc)
among_starts comm from known ((call, reply) ∷ own) zero one h =
    elim (test_cases (is_start (call, reply))) [
      | inl t ↦ elim (test_cases (is_on comm call)) [
        | inl u ↦ (
            let first : Entered = record { number = from; call = call; members = known } in
            let some : Some first ≡ Some one = rw (t, u) at h in
            let same : first ≡ one = cc in
            let P : Entered → Type 0 = λ e. IsAmong ((call, reply) ∷ own) from e in
            subst P same (record { place = 0; number = omega arith; call = rw t refl; enter = on_enter comm call u }))
        | inr u ↦ later own (call, reply) from one t (among_starts comm (suc from) (learned comm known reply) own zero one (rw (t, u) at h))
      ]
      | inr t ↦ (
          let among = among_starts comm from (learned comm known reply) own zero one (rw t at h) in
          record { place = among.place; number = among.number; call = rw t among.call; enter = among.enter })
    ]
among_starts comm from known ((call, reply) ∷ own) (suc instance) one h =
    elim (test_cases (is_start (call, reply))) [
      | inl t ↦ elim (test_cases (is_on comm call)) [
        | inl u ↦ later own (call, reply) from one t (among_starts comm (suc from) (learned comm known reply) own instance one (rw (t, u) at h))
        | inr u ↦ later own (call, reply) from one t (among_starts comm (suc from) (learned comm known reply) own (suc instance) one (rw (t, u) at h))
      ]
      | inr t ↦ (
          let among = among_starts comm from (learned comm known reply) own (suc instance) one (rw t at h) in
          record { place = among.place; number = among.number; call = rw t among.call; enter = among.enter })
    ]

numbers_none : (xs : List Entered) (k : ℕ) → None ≡ slice_get (entered_numbers xs) k → None ≡ slice_get xs k
numbers_none [] k h = refl
numbers_none (x ∷ xs) zero h = absurd (cc)
numbers_none (x ∷ xs) (suc k) h = numbers_none xs k h

numbers_some : (xs : List Entered) (k number : ℕ) → Some number ≡ slice_get (entered_numbers xs) k → (one : Entered) × (slice_get xs k ≡ Some one) × (one.number ≡ number)
numbers_some [] k number h = absurd (cc)
numbers_some (x ∷ xs) zero number h = (x, refl, (let same : number ≡ x.number = cc in sym same))
numbers_some (x ∷ xs) (suc k) number h = numbers_some xs k number h

-- what the table tells of an Enter
pub enter_absent : (n : ℕ) (events : List Event) (table : List (List (ℕ × List ℕ))) (rank comm instance : ℕ) → IsEnterTable n events table → None ≡ slice_get (table_numbers table rank comm) instance → None ≡ enter_at n (view_of events rank) comm instance
enter_absent n events table rank comm instance is none =
    numbers_none (entered_from comm 0 (known_first n comm) (view_of events rank)) instance
    (none ∙ ap (λ l. slice_get l instance) (is.each rank comm))

no_numbers : (table : List (List (ℕ × List ℕ))) (rank comm instance number : ℕ) → Some number ≡ slice_get (table_numbers table rank comm) instance → rank < length table
no_numbers [] rank comm instance number h = absurd (cc)
no_numbers (x ∷ table) zero comm instance number h = omega arith
no_numbers (x ∷ table) (suc rank) comm instance number h = (let rest = no_numbers table rank comm instance number h in omega (arith, rest))

-- the Enter with this start number
pub record IsFound (n : ℕ) (events : List Event) (rank comm instance number : ℕ) : Type 0 where
  pub one : Entered
  pub at : enter_at n (view_of events rank) comm instance ≡ Some one
  pub number_is : one.number ≡ number
  pub start : start_at (view_of events rank) number ≡ Some one.call
  pub enter : is_enter one.call ≡ true
  pub members : one.members ≡ known_in n (view_of events rank) comm

pub enter_found : (n : ℕ) (events : List Event) (table : List (List (ℕ × List ℕ))) (rank comm instance number : ℕ) → AreEntersKnown n events → IsEnterTable n events table → Some number ≡ slice_get (table_numbers table rank comm) instance → IsFound n events rank comm instance number
enter_found n events table rank comm instance number known is some =
    let own : View = view_of events rank in
    let found = numbers_some (entered_from comm 0 (known_first n comm) own) instance number (some ∙ ap (λ l. slice_get l instance) (is.each rank comm)) in
    let among = among_starts comm 0 (known_first n comm) own instance found.0 found.1 in
    let within = no_numbers table rank comm instance number some in
    let many = is.as_many in
    let place = among.number in
    let same = found.2 in
    let at : among.place ≡ number = omega (arith, place, same) in
    let F : ℕ → Type 0 = λ k. slice_get (starts_of own) k ≡ Some found.0.call in
    record {
      one = found.0;
      at = found.1;
      number_is = same;
      start = subst F at among.call;
      enter = among.enter;
      members = known rank comm instance found.0 (omega (arith, within, many)) found.1;
    }

abbrev pub SameEntered : Entered → ℕ → Call → Option (List ℕ) → Type 0
SameEntered one number call members = (let made : Entered = record { number = number; call = call; members = members } in Some made ≡ Some one)

pub entered_same : (one : Entered) (number : ℕ) (call : Call) (members : Option (List ℕ)) → one.number ≡ number → one.call ≡ call → one.members ≡ members → SameEntered one number call members
entered_same one number call members e f g =
    let made : ℕ → Call → Option (List ℕ) → Entered = λ k c m. record { number = k; call = c; members = m } in
    λ i. Some (made (sym e i) (sym f i) (sym g i))

pub number_there : (xs : List ℕ) (k number : ℕ) → k < length xs → number ≡ get_or xs k number → Some number ≡ slice_get xs k
number_there xs k number low is = sym (slice_get-get_or xs k number low ∙ ap Some (sym is))
