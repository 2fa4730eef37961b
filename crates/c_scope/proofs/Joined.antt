-- Faults of its own beside a typing.
use Rattle.std.proofs.Common.{◌≡◌, ◌⊎◌, inl, inr, Bool, true, false, List, [], ◌∷◌, Option, Some, None, refl, sym, ap, ◌∙◌, if◌then◌else◌, arith}
use Rattle.std.proofs.lemmas.Bool.Decides.{nat_tests}
use Rattle.c_scope.specs.Walks.{merged, unless_fault, Gives, typed_form}
use Rattle.c_scope.specs.Least.{is_less, least_fault_from, take_less}
use Rattle.c_scope.specs.Typing.{Typing, typed, faulty, faults_of, also}
use Rattle.c_scope.specs.declared.fault.TypingFault.{TypingFault}
use Rattle.c_scope.proofs.Least.{least_from_append}
use Rattle.c_scope.proofs.Typings.{faults_also}

-- ---- the least of two lists

truth : (b : Bool) → (b ≡ true) ⊎ (b ≡ false)
truth true = inl refl
truth false = inr refl

over : (f g h : TypingFault) → is_less f g ≡ true → is_less g h ≡ true → is_less f h ≡ true
over f g h e k = grind (arith, nat_tests)

not_over : (f g h : TypingFault) → is_less f g ≡ false → is_less g h ≡ false → is_less f h ≡ false
not_over f g h e k = grind (arith, nat_tests)

less_merged : (b o : Option TypingFault) (f : TypingFault) → take_less (merged b o) f ≡ merged b (take_less o f)
less_merged b None f = refl
less_merged None (Some g) f = elim (truth (is_less f g)) [ inl e ↦ rw e refl | inr e ↦ rw e refl ]
less_merged (Some h) (Some g) f = by_test (is_less g h) (is_less f g) refl refl
  where
    by_test : (a b : Bool) → is_less g h ≡ a → is_less f g ≡ b
        → take_less (if a then Some g else Some h) f ≡ merged (Some h) (if b then Some f else Some g)
    by_test true true e k = rw (k, over f g h k e) refl
    by_test true false e k = rw (k, e) refl
    by_test false true e k = refl
    by_test false false e k = rw (e, not_over f g h k e) refl

pub least_merged : (b o : Option TypingFault) (fs : List TypingFault) → least_fault_from (merged b o) fs ≡ merged b (least_fault_from o fs)
least_merged b o [] = refl
least_merged b o (f ∷ fs) = ap (λ best. least_fault_from best fs) (less_merged b o f) ∙ least_merged b (take_less o f) fs

some_least : (f : TypingFault) (fs : List TypingFault) → (g : TypingFault) × (least_fault_from (Some f) fs ≡ Some g)
some_least f [] = (f, refl)
some_least f (g ∷ gs) = elim (truth (is_less g f)) [
  | inl e ↦ let more = some_least g gs in (more.0, rw e more.1)
  | inr e ↦ let more = some_least f gs in (more.0, rw e more.1)
]

-- ---- faults of its own

form_also : {A : Type 0} (fs : List TypingFault) (t : Typing A) → unless_fault (least_fault_from None fs) (typed_form t) ≡ typed_form (also fs t)
form_also [] (typed a) = refl
form_also [] (faulty one others) = refl
form_also (f ∷ fs) (typed a) = let some = some_least f fs in rw some.1 refl
form_also (f ∷ fs) (faulty one others) = let some = some_least f fs in rw some.1 refl

-- faults of its own, behind those of the parts
pub gives_own : {A : Type 0} {b c own : Option TypingFault} {x : Option A} {t : Typing A} (fs : List TypingFault) → Gives b c x t → own ≡ least_fault_from None fs
    → Gives b (merged c own) (unless_fault own x) (also fs t)
gives_own {b} {c} {own} {x} {t} fs g e = record {
  form = ap (λ found. unless_fault found x) e ∙ ap (unless_fault (least_fault_from None fs)) g.form ∙ form_also fs t;
  best = ap (merged c) e ∙ sym (least_merged c None fs) ∙ ap (λ best. least_fault_from best fs) g.best ∙ sym (least_from_append b (faults_of t) fs) ∙ ap (least_fault_from b) (sym (faults_also fs t));
}
