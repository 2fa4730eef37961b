-- The pairs after one more event.
use Rattle.std.proofs.Common.{◌≡◌, ◌≤◌, ◌+◌, ◌-◌, ◌==◌, ◌++◌, ◌∷◌, [], ℕ, zero, suc, List, Option, Some, None, if◌then◌else◌, inl, inr, append_assoc, arith, refl, ap, sym, ◌∙◌, drop, get_or, length, length-append, subst, take}
use Rattle.std.proofs.lemmas.Bool.{cases_order}
use Rattle.std.proofs.lemmas.List.{take-append-le}
use Rattle.std.proofs.lemmas.Option.{slice_get_cases, slice_get_past}
use Rattle.std.proofs.Math.ListN.{get_or-append}
use Rattle.std.proofs.Math.Seq.{get_or-append_seam, take-append_seam}
use Rattle.run_model.specs.declared.event.Event.{Event}
use Rattle.run_model.specs.Pairs.{Name, mated, name_at, name_of_start, pairs_of, partner_of, same_name}
use Rattle.run_model.specs.Views.{is_start, starts_of, view_of}
use Rattle.run_model.proofs.Meeting.{pairs_of-push}
use Rattle.run_model.proofs.StartLemmas.{slice_get-append, slice_get-last}
use Rattle.run_model.proofs.Views.{test_cases}
use Rattle.causes.specs.declared.pair_table.PairTable.{PairTable}
use Rattle.causes.specs.PairTables.{AddsOther, AreStartNames, AreOthers, IsPairTable, or_name}
use Rattle.causes.specs.Positions.{is_start_of, positions}
use Rattle.causes.proofs.JoinLemmas.{tail_is}

-- a rank has as many positions of starts as starts
pub starts_from : (rank from : ℕ) (events : List Event) → length (positions (is_start_of rank) from events) ≡ length (starts_of (view_of events rank))
starts_from rank from [] = refl
starts_from rank from (x ∷ xs) =
    let rest = starts_from rank (from + 1) xs in
    elim (test_cases (x.rank == rank)) [
      | inl own ↦ elim (test_cases (is_start (x.call, x.reply))) [
        | inl s ↦ rw (own, s) (ap suc rest)
        | inr s ↦ rw (own, s) rest
      ]
      | inr own ↦ elim (test_cases (is_start (x.call, x.reply))) [
        | inl s ↦ rw (own, s) rest
        | inr s ↦ rw (own, s) rest
      ]
    ]

or_assoc : (a b c : Option Name) → or_name (or_name a b) c ≡ or_name a (or_name b c)
or_assoc (Some name) b c = refl
or_assoc None b c = refl

-- the partner of a name in one list of pairs and then in another
partner-append : (P Q : List (Name × Name)) (name : Name) → partner_of (P ++ Q) name ≡ or_name (partner_of P name) (partner_of Q name)
partner-append [] Q name = refl
partner-append (pair ∷ P) Q name = elim (test_cases (same_name pair.0 name)) [
  | inl t ↦ rw t refl
  | inr t ↦ elim (test_cases (same_name pair.1 name)) [
    | inl u ↦ rw (t, u) refl
    | inr u ↦ rw (t, u) (partner-append P Q name)
  ]
]

-- the partner of a name in one pair
partner-one : (pair : Name × Name) (name : Name) → partner_of (pair ∷ []) name ≡ or_name (if same_name pair.0 name then Some pair.1 else None) (if same_name pair.1 name then Some pair.0 else None)
partner-one pair name = elim (test_cases (same_name pair.0 name)) [
  | inl t ↦ rw t refl
  | inr t ↦ rw t refl
]

-- one pair more
pub pair_added : (pair : Name × Name) (pairs old middle new : List (Name × Name)) → AddsOther pair.0 pair.1 old middle → AddsOther pair.1 pair.0 middle new → AreOthers pairs old → AreOthers (pairs ++ pair ∷ []) new
pair_added pair pairs old middle new first second are name =
    let a : Option Name = if same_name pair.0 name then Some pair.1 else None in
    let b : Option Name = if same_name pair.1 name then Some pair.0 else None in
    second name
    ∙ ap (λ o. or_name o b) (first name ∙ ap (λ o. or_name o a) (are name))
    ∙ or_assoc (partner_of pairs name) a b
    ∙ ap (or_name (partner_of pairs name)) (sym (partner-one pair name))
    ∙ sym (partner-append pairs (pair ∷ []) name)

-- the first of these pairs goes to those before it
pub moved_on : (rest done all : List (Name × Name)) (other : Name × Name) → 1 ≤ length rest → done ++ rest ≡ all → (done ++ get_or rest 0 other ∷ []) ++ take (length rest - 1) (drop 1 rest) ≡ all
moved_on [] done all other long is = absurd (omega (arith, long))
moved_on (pair ∷ rest) done all other long is = ap (λ l. (done ++ pair ∷ []) ++ l) (tail_is pair rest) ∙ append_assoc done (pair ∷ []) rest ∙ is

-- the name of an earlier start, of the new one, and of none
names_push : (before : List Event) (event : Event) (names : List (Option Name)) (name : Option Name) (at : ℕ) → AreStartNames before names → name ≡ name_of_start before (Some event)
    → get_or (names ++ name ∷ []) at None ≡ name_at (before ++ event ∷ []) at
names_push before event names name at are is =
    let many = are.as_many in
    elim (cases_order at (length before)) [
      | inl same ↦ (
          let P : ℕ → Type 0 = λ k. get_or (names ++ name ∷ []) k None ≡ name_at (before ++ event ∷ []) (length before) in
          let Q : ℕ → Type 0 = λ k. get_or (names ++ name ∷ []) at None ≡ name_at (before ++ event ∷ []) k in
          let new : name_at (before ++ event ∷ []) (length before) ≡ name_of_start before (Some event) = rw (take-append_seam before (event ∷ []), slice_get-last before event) refl in
          let here : P (length names) = get_or-append_seam names name [] None ∙ is ∙ sym new in
          subst Q (sym same) (subst P (omega (arith, same, many)) here))
      | inr other ↦ elim other [
        | inl less ↦ elim (slice_get_cases before at).1 [
          | inl found ↦ (
              let event_is = slice_get-append before (event ∷ []) at found.0 found.2 in
              let front : name_at (before ++ event ∷ []) at ≡ name_at before at = rw (take-append-le at before (event ∷ []) (omega (arith, less)), event_is, found.2) refl in
              get_or-append names (name ∷ []) None at (omega (arith, less, many)) ∙ are.each at ∙ sym front)
          | inr past ↦ absurd (let low = past.0 in omega (arith, less, low))
        ]
        | inr more ↦ (
            let long = length-append before (event ∷ []) in
            let none : name_at (before ++ event ∷ []) at ≡ None = rw (slice_get_past (before ++ event ∷ []) at (omega (arith, more, long))) refl in
            let places = length-append names (name ∷ []) in
            get_or_past (names ++ name ∷ []) at None (omega (arith, more, places, many)) ∙ sym none)
      ]
    ]
  where
    get_or_past : (xs : List (Option Name)) (k : ℕ) (d : Option Name) → length xs ≤ k → get_or xs k d ≡ d
    get_or_past [] k d h = refl
    get_or_past (x ∷ xs) zero d h = absurd (omega (arith, h))
    get_or_past (x ∷ xs) (suc k) d h = get_or_past xs k d (omega (arith, h))

-- what is known of one event more
pub partners_more : (before : List Event) (event : Event) (name : Option Name) (old new : PairTable) → IsPairTable before old
    → name ≡ name_of_start before (Some event) → new.names.items ≡ old.names.items ++ name ∷ []
    → AreOthers ((pairs_of before ++ mated before event) ++ event.met) new.others.entries → IsPairTable (before ++ event ∷ []) new
partners_more before event name old new are is names others =
    let many = are.names.as_many in
    let N : List (Option Name) → Type 0 = λ l. AreStartNames (before ++ event ∷ []) l in
    let O : List (Name × Name) → Type 0 = λ l. AreOthers l new.others.entries in
    let pushed : AreStartNames (before ++ event ∷ []) (old.names.items ++ name ∷ []) = record {
      as_many = (let a = length-append old.names.items (name ∷ []) in let b = length-append before (event ∷ []) in omega (arith, a, b, many));
      each = λ at. names_push before event old.names.items name at are.names is;
    } in
    record {
      names = subst N (sym names) pushed;
      others = subst O (append_assoc (pairs_of before) (mated before event) event.met ∙ sym (pairs_of-push before event)) others;
    }
