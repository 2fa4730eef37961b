-- What an entry rests on, by the numbers of calls.
use Rattle.std.proofs.Common.{◌++◌, ◌<◌, ◌∙◌, ◌∷◌, ◌≡◌, Bool, List, None, Option, Some, [], ap, arith, false, inl, inr, length, refl, slice_get, suc, sym, true, zero, ℕ}
use Rattle.std.specs.Prelude.{is_some}
use Rattle.mpi_call.specs.declared.call.Call.{Call}
use Rattle.mpi_call.specs.declared.reply.Reply.{Reply}
use Rattle.mpi_call.specs.Lists.{IsIn}
use Rattle.run_model.specs.Communicators.{entered_from, is_on, known_first, learned}
use Rattle.run_model.specs.Views.{View, is_start, start_at}
use Rattle.run_model.proofs.Prefixes.{Begins}
use Rattle.run_model.proofs.Views.{option_cases, test_cases}
use Rattle.replay_model.specs.declared.step.Missing.{Missing}
use Rattle.replay_model.specs.declared.step.Missing.TheVariants.{Member, Start}
use Rattle.replay_model.specs.Rests.{is_enter_on, call_rested_on, number_of_nth, one_later, rank_rested_on}
use Rattle.replay_model.proofs.MissingLemmas.{first_missing, is_there}

-- A replay with a breakpoint has the cut.
one_more-some : (o : Option ℕ) (p : ℕ) → one_later o ≡ Some p → (q : ℕ) × (o ≡ Some q) × (suc q ≡ p)
one_more-some None p h = absurd (cc)
one_more-some (Some q) p h = (q, refl, cc)

-- a place of a prefix is the place in the whole
nth-longer : (test : Call × Reply → Bool) (xs ys : View) (i p : ℕ) → number_of_nth test xs i ≡ Some p
    → (p < length xs) × (number_of_nth test (xs ++ ys) i ≡ Some p)
nth-longer test [] ys i p h = absurd (cc)
nth-longer test (x ∷ xs) ys zero p h =
    elim (test_cases (test x)) [
      | inl t ↦ (let e : Some 0 ≡ Some p = rw t at h in let same : 0 ≡ p = cc in (omega arith, rw t e))
      | inr t ↦ (
          let one = one_more-some (number_of_nth test xs zero) p (rw t at h) in
          let later = nth-longer test xs ys zero one.0 one.1 in
          let low : one.0 < length xs = later.0 in
          let number : suc one.0 ≡ p = one.2 in
          (omega arith, rw (t, later.1) (ap (λ x. Some x) number)))
    ]
nth-longer test (x ∷ xs) ys (suc i) p h =
    elim (test_cases (test x)) [
      | inl t ↦ (
          let one = one_more-some (number_of_nth test xs i) p (rw t at h) in
          let later = nth-longer test xs ys i one.0 one.1 in
          let low : one.0 < length xs = later.0 in
          let number : suc one.0 ≡ p = one.2 in
          (omega arith, rw (t, later.1) (ap (λ x. Some x) number)))
      | inr t ↦ (
          let one = one_more-some (number_of_nth test xs (suc i)) p (rw t at h) in
          let later = nth-longer test xs ys (suc i) one.0 one.1 in
          let low : one.0 < length xs = later.0 in
          let number : suc one.0 ≡ p = one.2 in
          (omega arith, rw (t, later.1) (ap (λ x. Some x) number)))
    ]

-- a place below the length of a prefix is in it
nth-shorter : (test : Call × Reply → Bool) (xs ys : View) (i p : ℕ) → number_of_nth test (xs ++ ys) i ≡ Some p → p < length xs
    → number_of_nth test xs i ≡ Some p
nth-shorter test [] ys i p h below = absurd (omega arith)
nth-shorter test (x ∷ xs) ys zero p h below =
    elim (test_cases (test x)) [
      | inl t ↦ rw t (rw t at h)
      | inr t ↦ (
          let one = one_more-some (number_of_nth test (xs ++ ys) zero) p (rw t at h) in
          let number : suc one.0 ≡ p = one.2 in
          let later = nth-shorter test xs ys zero one.0 one.1 (omega arith) in
          rw (t, later) (ap (λ x. Some x) number))
    ]
nth-shorter test (x ∷ xs) ys (suc i) p h below =
    elim (test_cases (test x)) [
      | inl t ↦ (
          let one = one_more-some (number_of_nth test (xs ++ ys) i) p (rw t at h) in
          let number : suc one.0 ≡ p = one.2 in
          let later = nth-shorter test xs ys i one.0 one.1 (omega arith) in
          rw (t, later) (ap (λ x. Some x) number))
      | inr t ↦ (
          let one = one_more-some (number_of_nth test (xs ++ ys) (suc i)) p (rw t at h) in
          let number : suc one.0 ≡ p = one.2 in
          let later = nth-shorter test xs ys (suc i) one.0 one.1 (omega arith) in
          rw (t, later) (ap (λ x. Some x) number))
    ]

some_one : (o : Option ℕ) → is_some (one_later o) ≡ is_some o
some_one None = refl
some_one (Some i) = refl

starts_there : (view : View) (i : ℕ) → is_some (start_at view i) ≡ is_some (number_of_nth is_start view i)
starts_there [] i = refl
starts_there (x ∷ view) zero =
    elim (test_cases (is_start x)) [
      | inl t ↦ rw t
      | inr t ↦ rw (t, some_one (number_of_nth is_start view zero)) (starts_there view zero)
    ]
starts_there (x ∷ view) (suc i) =
    elim (test_cases (is_start x)) [
      | inl t ↦ rw (t, some_one (number_of_nth is_start view i)) (starts_there view i)
      | inr t ↦ rw (t, some_one (number_of_nth is_start view (suc i))) (starts_there view (suc i))
    ]

enters_there : (comm number : ℕ) (known : Option (List ℕ)) (view : View) (i : ℕ)
    → is_some (slice_get (entered_from comm number known view) i) ≡ is_some (number_of_nth (is_enter_on comm) view i)
enters_there comm number known [] i = refl
enters_there comm number known ((call, reply) ∷ view) zero =
    elim (test_cases (is_start (call, reply))) [
      | inl t ↦ elim (test_cases (is_on comm call)) [
        | inl u ↦ rw (t, u)
        | inr u ↦ rw (t, u, some_one (number_of_nth (is_enter_on comm) view zero)) (enters_there comm (suc number) (learned comm known reply) view zero)
      ]
      | inr t ↦ rw (t, some_one (number_of_nth (is_enter_on comm) view zero)) (enters_there comm number (learned comm known reply) view zero)
    ]
enters_there comm number known ((call, reply) ∷ view) (suc i) =
    elim (test_cases (is_start (call, reply))) [
      | inl t ↦ elim (test_cases (is_on comm call)) [
        | inl u ↦ rw (t, u, some_one (number_of_nth (is_enter_on comm) view i)) (enters_there comm (suc number) (learned comm known reply) view i)
        | inr u ↦ rw (t, u, some_one (number_of_nth (is_enter_on comm) view (suc i))) (enters_there comm (suc number) (learned comm known reply) view (suc i))
      ]
      | inr t ↦ rw (t, some_one (number_of_nth (is_enter_on comm) view (suc i))) (enters_there comm number (learned comm known reply) view (suc i))
    ]

-- there, by places
pub there_number : (n : ℕ) (V : ℕ → View) (x : Missing) → is_there n V x ≡ is_some (call_rested_on V x)
there_number n V (Start source start) = starts_there (V source) start
there_number n V (Member m comm instance) = enters_there comm 0 (known_first n comm) (V m) instance

pub there_below : (n : ℕ) (V W : ℕ → View) (x : Missing) (p : ℕ) → Begins V W → call_rested_on W x ≡ Some p
    → p < length (V (rank_rested_on x)) → is_there n V x ≡ true
there_below n V W (Start source start) p begins h below =
    let prefix = begins source in
    let at = nth-shorter is_start (V source) prefix.0 start p (rw prefix.1 h) below in
    starts_there (V source) start ∙ rw at
there_below n V W (Member m comm instance) p begins h below =
    let prefix = begins m in
    let at = nth-shorter (is_enter_on comm) (V m) prefix.0 instance p (rw prefix.1 h) below in
    enters_there comm 0 (known_first n comm) (V m) instance ∙ rw at

pub below_there : (n : ℕ) (V W : ℕ → View) (x : Missing) → Begins V W → is_there n V x ≡ true
    → (p : ℕ) × (call_rested_on W x ≡ Some p) × (p < length (V (rank_rested_on x)))
below_there n V W (Start source start) begins h =
    elim (option_cases (number_of_nth is_start (V source) start)) [
      | inl some ↦ (
          let prefix = begins source in
          let longer = nth-longer is_start (V source) prefix.0 start some.0 some.1 in
          (some.0, rw (← prefix.1) longer.1, longer.0))
      | inr none ↦ (let no : false ≡ true = rw (starts_there (V source) start, none) at h in absurd (cc))
    ]
below_there n V W (Member m comm instance) begins h =
    elim (option_cases (number_of_nth (is_enter_on comm) (V m) instance)) [
      | inl some ↦ (
          let prefix = begins m in
          let longer = nth-longer (is_enter_on comm) (V m) prefix.0 instance some.0 some.1 in
          (some.0, rw (← prefix.1) longer.1, longer.0))
      | inr none ↦ (let no : false ≡ true = rw (enters_there comm 0 (known_first n comm) (V m) instance, none) at h in absurd (cc))
    ]

pub missing_among : (n : ℕ) (V : ℕ → View) (xs : List Missing) (x : Missing) → first_missing n V xs ≡ Some x
    → IsIn x xs × (is_there n V x ≡ false)
missing_among n V [] x h = absurd (cc)
missing_among n V (y ∷ xs) x h =
    elim (test_cases (is_there n V y)) [
      | inl t ↦ (let rest = missing_among n V xs x (rw t at h) in (inr rest.0, rest.1))
      | inr t ↦ (
          let e : Some y ≡ Some x = rw t at h in
          let same : y ≡ x = cc in
          (inl same, ap (is_there n V) (sym same) ∙ t))
    ]

pub none_missing : (n : ℕ) (V : ℕ → View) (xs : List Missing) (x : Missing) → first_missing n V xs ≡ None → IsIn x xs
    → is_there n V x ≡ true
none_missing n V [] x h among = absurd among
none_missing n V (y ∷ xs) x h among =
    elim (test_cases (is_there n V y)) [
      | inl t ↦ elim among [
        | inl e ↦ ap (is_there n V) (sym e) ∙ t
        | inr later ↦ none_missing n V xs x (rw t at h) later
      ]
      | inr t ↦ (let no : Some y ≡ None = rw t at h in absurd (cc))
    ]
