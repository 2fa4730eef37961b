-- The faults and the typed form of a whole, from those of its parts.
use Rattle.std.proofs.Common.{◌≡◌, ◌++◌, Bool, true, false, List, [], ◌∷◌, option_map, refl}
use Rattle.c_lex.specs.declared.fault.Why.{Why}
use Rattle.c_grammar.specs.declared.terminal.Span.{Span}
use Rattle.c_scope.specs.Least.{fault_unless}
use Rattle.c_scope.specs.Typing.{Typing, typed, faulty, faults_of, onto, both, also, unless_any}
use Rattle.c_scope.specs.Walks.{are_none, typed_form, if_both, if_so}
use Rattle.c_scope.specs.declared.fault.TypingFault.{TypingFault}

-- ---- faults

pub faults_onto : {A B : Type 0} (form : A → B) (t : Typing A) → faults_of (onto form t) ≡ faults_of t
faults_onto form (typed a) = refl
faults_onto form (faulty one others) = refl

pub faults_both : {A B C : Type 0} (form : A → B → C) (s : Typing A) (t : Typing B) → faults_of (both form s t) ≡ faults_of s ++ faults_of t
faults_both form (typed a) t = faults_onto (form a) t
faults_both form (faulty one others) t = refl

faults_unless : {A : Type 0} (form : A) (fs : List TypingFault) → faults_of (unless_any form fs) ≡ fs
faults_unless form [] = refl
faults_unless form (one ∷ others) = refl

pub faults_also : {A : Type 0} (fs : List TypingFault) (t : Typing A) → faults_of (also fs t) ≡ faults_of t ++ fs
faults_also fs (typed form) = faults_unless form fs
faults_also fs (faulty one others) = refl

-- ---- typed forms

pub form_onto : {A B : Type 0} (form : A → B) (t : Typing A) → typed_form (onto form t) ≡ option_map form (typed_form t)
form_onto form (typed a) = refl
form_onto form (faulty one others) = refl

pub form_both : {A B C : Type 0} (form : A → B → C) (s : Typing A) (t : Typing B) → typed_form (both form s t) ≡ if_both form (typed_form s) (typed_form t)
form_both form (typed a) (typed b) = refl
form_both form (typed a) (faulty one others) = refl
form_both form (faulty one others) (typed b) = refl
form_both form (faulty one others) (faulty other more) = refl

pub form_also : {A : Type 0} (fs : List TypingFault) (t : Typing A) → typed_form (also fs t) ≡ if_so (are_none fs) (typed_form t)
form_also [] (typed a) = refl
form_also [] (faulty one others) = refl
form_also (f ∷ fs) (typed a) = refl
form_also (f ∷ fs) (faulty one others) = refl

pub none_unless : (well : Bool) (at : Span) (why : Why) → are_none (fault_unless well at why) ≡ well
none_unless true at why = refl
none_unless false at why = refl
