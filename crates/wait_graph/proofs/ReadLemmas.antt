-- Events that are read one after the other.
use Rattle.std.proofs.Common.{◌≡◌, ◌<◌, ◌≤◌, ◌+◌, ◌-◌, ◌^◌, ◌∙◌, ◌++◌, ◌∷◌, [], ℕ, zero, suc, List, true, false, ap, append-nil, append_assoc, arith, drop, get_or, length, length-append, refl, subst, sym, take}
use Rattle.run_model.specs.declared.event.Event.{Event}
use Rattle.wait_graph.specs.declared.register.Register.{Register}
use Rattle.wait_graph.specs.declared.reading.Run.{Run}
use Rattle.wait_graph.specs.Register.{IsRegister}
use Rattle.wait_graph.specs.Going.{going, halting}
use Rattle.wait_graph.specs.Reading.{IsRunRead}
use Rattle.std.specs.List.{AllByRecursion}
use Rattle.std.proofs.lemmas.List.Elements.{recursion_from_All}
use Rattle.run_model.specs.Due.{stops}
use Rattle.causes.specs.Clocks.{AreOfRanks}

-- each event's rank is below n
abbrev pub AreBelow : ℕ → List Event → Type 0
AreBelow n events = AllByRecursion (λ (event : Event). event.rank < n) events

-- the events so far are on the register, and none of them stops a rank
pub record IsReadSoFar (n : ℕ) (events rest : List Event) (register : Register) : Type 0 where
  pub before : List Event
  pub is_register : IsRegister n before register
  pub whole : before ++ rest ≡ events
  pub goes : before ++ going rest ≡ going events
  pub halts : halting rest ≡ halting events
  pub below : AreBelow n rest

take-events : (xs : List Event) (k : ℕ) → length xs ≤ k → take k xs ≡ xs
take-events [] zero h = refl
take-events [] (suc k) h = refl
take-events (x ∷ xs) zero h = absurd (omega (arith, h))
take-events (x ∷ xs) (suc k) h = ap (λ l. x ∷ l) (take-events xs k (omega (arith, h)))

pub read_first : (n : ℕ) (events : List Event) (register : Register) → IsRegister n [] register → AreOfRanks n events → IsReadSoFar n events events register
read_first n events register is below = record { before = []; is_register = is; whole = refl; goes = refl; halts = refl; below = recursion_from_All (λ (event : Event). event.rank < n) events below }

-- one event more that stops nobody
pub read_more : (n : ℕ) (events rest : List Event) (old new : Register) (d : Event) (is : IsReadSoFar n events rest old) → 1 ≤ length rest → stops (get_or rest 0 d).reply ≡ false
    → (IsRegister n is.before old → (get_or rest 0 d).rank < n → IsRegister n (is.before ++ get_or rest 0 d ∷ []) new)
    → IsReadSoFar n events (take (length rest - 1) (drop 1 rest)) new
read_more n events [] old new d is some going_on noted = absurd (omega (arith, some))
read_more n events (x ∷ xs) old new d is some going_on noted =
    let tail : take (length (x ∷ xs) - 1) xs ≡ xs = take-events xs (length (x ∷ xs) - 1) (omega arith) in
    let F : List Event → Type 0 = λ l. IsReadSoFar n events l new in
    subst F (sym tail) (record {
      before = is.before ++ x ∷ [];
      is_register = noted is.is_register is.below.0;
      whole = append_assoc is.before (x ∷ []) xs ∙ is.whole;
      goes = append_assoc is.before (x ∷ []) (going xs) ∙ rw going_on at is.goes;
      halts = rw going_on at is.halts;
      below = is.below.1;
    })

-- what a note asks for
pub can_note : (n : ℕ) (events rest : List Event) (register : Register) (d : Event) (is : IsReadSoFar n events rest register) → 1 ≤ length rest → length events < 2 ^ 32
    → ((get_or rest 0 d).rank < n) × (length is.before + 1 < 2 ^ 32)
can_note n events [] register d is some short = absurd (omega (arith, some))
can_note n events (x ∷ xs) register d is some short =
    let sizes = length-append is.before (x ∷ xs) in
    let all = ap (λ l. length l) is.whole in
    (is.below.0, omega (arith, sizes, all, short))

-- the end, at a stop or past all events
pub read_stop : (n : ℕ) (events rest : List Event) (register : Register) (run : Run) (d : Event) → IsReadSoFar n events rest register → 1 ≤ length rest → stops (get_or rest 0 d).reply ≡ true
    → run.register ≡ register → run.stopped.now ≡ rest → IsRunRead n events run
read_stop n events [] register run d is some stop register_is rest_is = absurd (omega (arith, some))
read_stop n events (x ∷ xs) register run d is some stop register_is rest_is =
    let none : is.before ++ [] ≡ going events = rw stop at is.goes in
    let last : x ∷ xs ≡ halting events = rw stop at is.halts in
    record {
      register = subst (IsRegister n (going events)) (sym register_is) (let F : List Event → Type 0 = λ l. IsRegister n l register in subst F (sym (append-nil is.before) ∙ none) is.is_register);
      stopped = rest_is ∙ last;
    }

pub read_end : (n : ℕ) (events rest : List Event) (register : Register) (run : Run) → IsReadSoFar n events rest register → length rest < 1
    → run.register ≡ register → run.stopped.now ≡ rest → IsRunRead n events run
read_end n events [] register run is none register_is rest_is =
    record {
      register = subst (IsRegister n (going events)) (sym register_is) (let F : List Event → Type 0 = λ l. IsRegister n l register in subst F (sym (append-nil is.before) ∙ is.goes) is.is_register);
      stopped = rest_is ∙ is.halts;
    }
read_end n events (x ∷ xs) register run is none register_is rest_is = absurd (omega (arith, none))
