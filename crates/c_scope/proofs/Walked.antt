-- Faults that are found one after another.
use Rattle.std.proofs.Common.{◌≡◌, ◌++◌, List, Option, sym, ◌∙◌, ap}
use Rattle.c_grammar.specs.declared.terminal.Span.{Span}
use Rattle.c_scope.specs.Least.{least_fault_from}
use Rattle.c_scope.specs.Scopes.{name_faults}
use Rattle.c_scope.specs.declared.fault.TypingFault.{TypingFault}
use Rattle.c_scope.specs.declared.meaning.Meaning.{Meaning}
use Rattle.c_scope.proofs.Least.{least_from_append}

-- the faults of two parts, one after another
pub both : (old mid new : Option TypingFault) (first second : List TypingFault) → mid ≡ least_fault_from old first → new ≡ least_fault_from mid second → new ≡ least_fault_from old (first ++ second)
both old mid new first second m n = n ∙ ap (λ b. least_fault_from b second) m ∙ sym (least_from_append old first second)

pub three : (old one two new : Option TypingFault) (first second third : List TypingFault)
    → one ≡ least_fault_from old first → two ≡ least_fault_from one second → new ≡ least_fault_from two third → new ≡ least_fault_from old ((first ++ second) ++ third)
three old one two new first second third a b c = both old two new (first ++ second) third (both old one two first second a b) c

-- a name, and the index behind it
pub name_walk : (meant real : Meaning) (name : Span) (rest : List TypingFault) (old mid new : Option TypingFault)
    → meant ≡ real → mid ≡ least_fault_from old (name_faults meant name) → new ≡ least_fault_from mid rest → new ≡ least_fault_from old (name_faults real name ++ rest)
name_walk meant real name rest old mid new e m n =
    both old mid new (name_faults meant name) rest m n ∙ ap (λ means. least_fault_from old (name_faults means name ++ rest)) e
