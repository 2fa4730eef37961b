-- The first of several faults.
use Rattle.std.proofs.Common.{◌≡◌, ◌⊎◌, inl, inr, ◌++◌, ℕ, List, [], ◌∷◌, Option, Some, None, get_or, refl, sym, ap, ◌∙◌, subst, Bool, true, false, arith, MatchOption}
use Rattle.std.proofs.lemmas.Bool.Decides.{nat_tests}
use Rattle.c_lex.specs.declared.fault.Why.{Why}
use Rattle.c_lex.specs.declared.fault.Why.TheVariants as w
use Rattle.mpi_call.specs.Lists.{IsIn}
use Rattle.c_scope.specs.declared.fault.TypingFault.{TypingFault}
use Rattle.c_scope.specs.Least.{IsLeastFault, is_less, least_fault_from, reason_order, take_less}

pub least_from_append : (b : Option TypingFault) (xs ys : List TypingFault) → least_fault_from b (xs ++ ys) ≡ least_fault_from (least_fault_from b xs) ys
least_from_append b [] ys = refl
least_from_append b (x ∷ xs) ys = least_from_append (take_less b x) xs ys

test_cases : (b : Bool) → (b ≡ true) ⊎ (b ≡ false)
test_cases true = inl refl
test_cases false = inr refl

at_least : (x g f : TypingFault) → is_less x g ≡ false → is_less g f ≡ false → is_less x f ≡ false
at_least x g f h k = grind (arith, nat_tests)

beyond : (x g f : TypingFault) → is_less x g ≡ true → is_less x f ≡ false → is_less g f ≡ false
beyond x g f h k = grind (arith, nat_tests)

itself : (g : TypingFault) → is_less g g ≡ false
itself g = grind (arith, nat_tests)

pub record Least (g : TypingFault) (fs : List TypingFault) (f : TypingFault) : Type 0 where
  pub is : least_fault_from (Some g) fs ≡ Some f
  pub one : (g ≡ f) ⊎ IsIn f fs
  pub start : is_less g f ≡ false
  pub first : (h : TypingFault) → IsIn h fs → is_less h f ≡ false

least : (g : TypingFault) (fs : List TypingFault) → (f : TypingFault) × Least g fs f
least g [] = (g, record { is = refl; one = inl refl; start = itself g; first = λ h i. absurd i })
least g (x ∷ fs) =
    elim (test_cases (is_less x g)) [
      | inl e ↦
          let k = least x fs in let l = k.1 in (
            k.0,
            record {
              is = rw e l.is;
              one = inr l.one;
              start = beyond x g k.0 e l.start;
              first = λ h i. either x fs k.0 l h i;
            },
          )
      | inr e ↦
          let k = least g fs in let l = k.1 in (
            k.0,
            record {
              is = rw e l.is;
              one = elim l.one [ inl q ↦ inl q | inr q ↦ inr (inr q) ];
              start = l.start;
              first = λ h i. elim i [ inl q ↦ subst (λ z. is_less z k.0 ≡ false) q (at_least x g k.0 e l.start) | inr q ↦ l.first h q ];
            },
          )
    ]
  where
    either : (x : TypingFault) (fs : List TypingFault) (f : TypingFault) → Least x fs f → (h : TypingFault) → IsIn h (x ∷ fs) → is_less h f ≡ false
    either x fs f l h (inl q) = subst (λ z. is_less z f ≡ false) q l.start
    either x fs f l h (inr q) = l.first h q

pub first_of : (fs : List TypingFault) (o : Option TypingFault) → o ≡ least_fault_from None fs → MatchOption o (fs ≡ []) (λ f. IsLeastFault fs f)
first_of [] o e = let nothing : List TypingFault = [] in subst (λ z. MatchOption z (nothing ≡ []) (λ f. IsLeastFault nothing f)) (sym e) (refl {a = nothing})
first_of (x ∷ fs) o e =
    let k = least x fs in let l = k.1 in
    subst (λ z. MatchOption z (x ∷ fs ≡ []) (λ f. IsLeastFault (x ∷ fs) f)) (sym (e ∙ l.is))
    (record { one = l.one; first = λ h i. elim i [ inl q ↦ subst (λ z. is_less z k.0 ≡ false) q l.start | inr q ↦ l.first h q ] })

-- faults have a first one, unless there are none
pub none_or_first : (fs : List TypingFault) → (fs ≡ []) ⊎ ((f : TypingFault) × IsLeastFault fs f)
none_or_first [] = inl refl
none_or_first (x ∷ fs) =
    let k = least x fs in let l = k.1 in
    inr (
      k.0,
      record { one = l.one; first = λ h i. elim i [ inl q ↦ subst (λ z. is_less z k.0 ≡ false) q l.start | inr q ↦ l.first h q ] },
    )

pub first_in_none : (fs : List TypingFault) (f : TypingFault) → fs ≡ [] → IsLeastFault fs f → ⊥
first_in_none [] f e h = h.one
first_in_none (g ∷ gs) f e h = cc e

-- ---- one fault alone is first

why_at : ℕ → Why
why_at n =
    get_or
    (w.BadByte ∷ w.BadByte ∷ w.OpenComment ∷ w.OpenText ∷ w.BadLiteral ∷ w.Unexpected ∷ w.TooDeep ∷ w.Unknown ∷ w.Twice ∷ w.WrongType ∷ w.WrongCount ∷ w.NoMain
    ∷ w.BadFormat ∷ w.LeftOut ∷ []) n w.NoMemory

why_ordered : (why : Why) → why_at (reason_order why) ≡ why
unfolding why_at
why_ordered w.BadByte = refl
why_ordered w.OpenComment = refl
why_ordered w.OpenText = refl
why_ordered w.BadLiteral = refl
why_ordered w.Unexpected = refl
why_ordered w.TooDeep = refl
why_ordered w.Unknown = refl
why_ordered w.Twice = refl
why_ordered w.WrongType = refl
why_ordered w.WrongCount = refl
why_ordered w.NoMain = refl
why_ordered w.BadFormat = refl
why_ordered w.LeftOut = refl
why_ordered w.NoMemory = refl

same_place : (a b : TypingFault) → is_less a b ≡ false → is_less b a ≡ false → a.at ≡ b.at
same_place a b h k = grind (arith, nat_tests)

same_order : (a b : TypingFault) → is_less a b ≡ false → is_less b a ≡ false → reason_order a.why ≡ reason_order b.why
same_order a b h k = grind (arith, nat_tests)

one_fault : (a b : TypingFault) → is_less a b ≡ false → is_less b a ≡ false → a ≡ b
one_fault a b h k =
    let why : a.why ≡ b.why = sym (why_ordered a.why) ∙ ap why_at (same_order a b h k) ∙ why_ordered b.why in
    let fault_of : ℕ → Why → TypingFault = λ at one. record { at = at; why = one } in
    ap (λ at. fault_of at a.why) (same_place a b h k) ∙ ap (fault_of b.at) why

pub first_one : (fs : List TypingFault) (a b : TypingFault) → IsLeastFault fs a → IsLeastFault fs b → a ≡ b
first_one fs a b g h = one_fault a b (h.first a g.one) (g.first b h.one)
