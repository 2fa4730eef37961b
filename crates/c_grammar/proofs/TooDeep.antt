-- Reading what is too deep.
use Rattle.std.proofs.Common.{◌≡◌, inl, inr, Bool, true, List, [], ◌∷◌, Some, Ok, Err, refl, subst}
use Rattle.c_lex.specs.declared.fault.Why.TheVariants.{TooDeep}
use Rattle.c_grammar.specs.declared.terminal.Symbol.{Symbol}
use Rattle.c_grammar.specs.declared.terminal.Span.{Span}
use Rattle.c_grammar.specs.declared.terminal.Terminal.{Terminal}
use Rattle.c_grammar.specs.Grammar.{at}
use Rattle.c_grammar.specs.Reading.{Fault, Answer, refuse, too_deep, heads}
use Rattle.c_grammar.proofs.Local.{test_cases, too_deep-local}
use Rattle.c_grammar.proofs.Laws.{Laws, GoesOn, missing, unexpected}

-- a tree that begins with this terminal
pub record Begun {A : Type 0} (spelled : A → List Terminal → List Terminal) (Good : A → Type 0) (x : Symbol) (p : Span) : Type 0 where
  pub tree : A
  pub good : Good tree
  pub more : (rest : List Terminal) → (z : List Terminal) × (spelled tree rest ≡ at x p ∷ z)

pub too_deep_no_ok : {A : Type 0} (starts : Symbol → Bool) (ts : List Terminal) (y : A × List Terminal) → too_deep starts ts ≡ Ok y → ⊥
unfolding too_deep
too_deep_no_ok starts [] y h = cc
too_deep_no_ok starts (t ∷ ts) y h = elim (test_cases (starts t.symbol)) [ inl e ↦ absurd (let k = rw e at h in cc) | inr e ↦ absurd (let k = rw e at h in cc) ]

module _ {A : Type 0} (starts : Symbol → Bool) (spelled : A → List Terminal → List Terminal) (Good : A → Type 0) (Over : A → List Terminal → Type 0)
    (begins : (a : A) → Good a → (rest : List Terminal) → heads starts (spelled a rest) ≡ true)
    (begun : (x : Symbol) (p : Span) → starts x ≡ true → Begun spelled Good x p)
    (some : A) (fine : Good some) where
  refuses : (ts : List Terminal) → heads starts ts ≡ true → too_deep {A = A} starts ts ≡ refuse TooDeep ts
  unfolding too_deep
  refuses [] h = absurd (cc)
  refuses (t ∷ ts) h = rw h refl

  goes_on : (ts : List Terminal) (f : Fault) → too_deep {A = A} starts ts ≡ Err f → GoesOn spelled Good ts f
  unfolding too_deep
  goes_on [] f h = missing spelled Good some fine [] f (cc)
  goes_on (t ∷ ts) f h =
      elim (test_cases (starts t.symbol)) [
        | inl e ↦
            let g : ◌≡◌ {A = Answer A} (refuse TooDeep (t ∷ ts)) (Err f) = rw e at h in
            let d : Fault = record { why = TooDeep; rest = t ∷ ts } in
            let q : d ≡ f = cc in
            let b = begun t.symbol t.span e in
            subst (λ f. GoesOn spelled Good (t ∷ ts) f) q (record { front = []; is = refl; head = tt; tree = b.tree; good = b.good; goes = b.more })
        | inr e ↦
            let g : ◌≡◌ {A = Answer A} (Err (unexpected (t ∷ ts))) (Err f) = rw e at h in
            missing spelled Good some fine (t ∷ ts) f (cc)
      ]

  pub too_deep_laws : Laws (too_deep starts) spelled Good (λ a rest. Some (spelled a rest)) Over
  too_deep_laws = record {
    local = too_deep-local starts;
    complete = λ a rest g o. refuses (spelled a rest) (begins a g rest);
    sound = λ ts y h. absurd (too_deep_no_ok starts ts y h);
    goes = goes_on;
    some = some;
    fine = fine;
  }
