-- What typing a piece of a program gives: its typed form, or its faults.
use Rattle.std.specs.Prelude.{◌++◌, List, [], ◌∷◌}
use Rattle.c_lex.specs.declared.fault.Why.{Why}
use Rattle.c_lex.specs.declared.fault.Why.TheVariants.{Unknown, WrongType, LeftOut}
use Rattle.c_grammar.specs.declared.terminal.Span.{Span}
use Rattle.c_scope.specs.declared.fault.TypingFault.{TypingFault}
use Rattle.c_scope.specs.declared.meaning.Meaning.{Meaning}
use Rattle.c_scope.specs.declared.meaning.Meaning.TheVariants as m

-- the typed form, or a fault and the others, in no order
pub data Typing (A : Type 0) : Type 0 where
  typed : A → Typing A
  faulty : TypingFault → List TypingFault → Typing A

-- the faults that were found
abbrev pub faults_of : {A : Type 0} → Typing A → List TypingFault
faults_of (typed form) = []
faults_of (faulty one others) = one ∷ others

-- one fault, at a token
abbrev pub refused : {A : Type 0} → Span → Why → Typing A
refused span why = faulty (record { at = span.start; why = why }) []

-- a name that is not what is wanted: a wrong type, at a token; a name without a meaning is told at the name, for it may be what is wanted
abbrev pub unfit : {A : Type 0} → Span → Span → Meaning → Typing A
unfit at name m.LeftOut = refused name LeftOut
unfit at name m.Unknown = refused name Unknown
unfit at name _ = refused at WrongType

-- ---- the typed form of a whole from those of its parts; where a part is faulty, the faults of all parts

-- of one part
abbrev pub onto : {A B : Type 0} → (A → B) → Typing A → Typing B
onto form (typed a) = typed (form a)
onto form (faulty one others) = faulty one others

-- of two parts
abbrev pub both : {A B C : Type 0} → (A → B → C) → Typing A → Typing B → Typing C
both form (typed a) b = onto (form a) b
both form (faulty one others) b = faulty one (others ++ faults_of b)

-- of the second of two parts, where the first leaves no trace
abbrev pub behind : {A B : Type 0} → Typing A → Typing B → Typing B
behind a b = both (λ first second. second) a b

-- of three parts
abbrev pub three : {A B C D : Type 0} → (A → B → C → D) → Typing A → Typing B → Typing C → Typing D
three form a b c = both (λ with last. with last) (both form a b) c

-- of four parts
abbrev pub four : {A B C D E : Type 0} → (A → B → C → D → E) → Typing A → Typing B → Typing C → Typing D → Typing E
four form a b c d = both (λ with last. with last) (three form a b c) d

-- of five parts
abbrev pub five : {A B C D E F : Type 0} → (A → B → C → D → E → F) → Typing A → Typing B → Typing C → Typing D → Typing E → Typing F
five form a b c d e = both (λ with last. with last) (four form a b c d) e

-- a form, unless there are faults
abbrev pub unless_any : {A : Type 0} → A → List TypingFault → Typing A
unless_any form [] = typed form
unless_any form (one ∷ others) = faulty one others

-- a form, unless it is faulty or there are other faults
abbrev pub also : {A : Type 0} → List TypingFault → Typing A → Typing A
also found (typed form) = unless_any form found
also found (faulty one others) = faulty one (others ++ found)
