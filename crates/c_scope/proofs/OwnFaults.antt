-- What a walk gives whose faults of its own src/joins.rt tells.
use Rattle.std.proofs.Common.{◌≡◌, Bool, true, false, List, Option, Some, None, option_map, refl, sym, ap, subst, ◌∙◌}
use Rattle.c_lex.specs.declared.fault.Why.{Why}
use Rattle.c_grammar.specs.declared.terminal.Span.{Span}
use Rattle.c_scope.specs.Least.{least_fault_from, fault_unless}
use Rattle.c_scope.specs.Typing.{Typing, also}
use Rattle.c_scope.specs.Walks.{Gives, if_so, merged, unless_fault}
use Rattle.c_scope.specs.declared.fault.TypingFault.{TypingFault}
use Rattle.c_scope.proofs.Gives.{gives_form, gives_unless}
use Rattle.c_scope.proofs.Joined.{gives_own}

map_well : {A B : Type 0} (f : A → B) (b : Bool) (found : Option A) → option_map f (if_so b found) ≡ if_so b (option_map f found)
map_well f true found = refl
map_well f false found = refl

-- a form, where all is well, of a test and a token that are those of the definition
pub gives_well : {A B : Type 0} {old mid new : Option TypingFault} (found : Option A) {left : Option A} (f : A → B) {well meant : Bool} {at place : Span} (why : Why) (t : Typing B)
    → well ≡ meant → at ≡ place → Gives old mid (option_map f found) t → new ≡ least_fault_from mid (fault_unless well at why) → left ≡ if_so well found
    → Gives old new (option_map f left) (also (fault_unless meant place why) t)
gives_well {old} {new} found {left} f {well} {meant} {at} {place} why t w a g n e =
    let given : Gives old new (option_map f left) (also (fault_unless well at why) t) = gives_form (gives_unless well at why t g n) (ap (option_map f) e ∙ map_well f well found) in
    subst (λ one. Gives old new (option_map f left) (also (fault_unless one place why) t)) w
    (subst (λ span. Gives old new (option_map f left) (also (fault_unless well span why) t)) a given)

-- a form, unless there are faults, which are told
pub gives_told : {A : Type 0} {old mid new own : Option TypingFault} {found left : Option A} (fs : List TypingFault) (t : Typing A)
    → Gives old mid found t → own ≡ least_fault_from None fs → new ≡ merged mid own → left ≡ unless_fault own found → Gives old new left (also fs t)
gives_told {old} {mid} {own} {left} fs t g o n e =
    let given : Gives old (merged mid own) left (also fs t) = gives_form (gives_own fs g o) e in
    subst (λ best. Gives old best left (also fs t)) (sym n) given

map_unless : {A B : Type 0} (f : A → B) (own : Option TypingFault) (found : Option A) → option_map f (unless_fault own found) ≡ unless_fault own (option_map f found)
map_unless f None found = refl
map_unless f (Some one) found = refl

-- the same of a pure form
pub gives_told_as : {A B : Type 0} {old mid new own : Option TypingFault} (found : Option A) {left : Option A} (f : A → B) (fs : List TypingFault) (t : Typing B)
    → Gives old mid (option_map f found) t → own ≡ least_fault_from None fs → new ≡ merged mid own → left ≡ unless_fault own found
    → Gives old new (option_map f left) (also fs t)
gives_told_as {own} found f fs t g o n e = gives_told fs t g o n (ap (option_map f) e ∙ map_unless f own found)
