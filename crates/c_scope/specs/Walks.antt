-- What a walk in code gives beside a typing: the typed form or none, and the first of the faults that were found.
use Rattle.std.specs.Prelude.{◌≡◌, ◌++◌, Bool, true, false, List, [], ◌∷◌, Option, Some, None, option_map, Result, Ok, Err, IfOk, if◌then◌else◌}
use Rattle.c_scope.specs.Least.{least_fault_from, take_less}
use Rattle.c_scope.specs.Typing.{Typing, typed, faulty, faults_of}
use Rattle.c_scope.specs.declared.fault.TypingFault.{TypingFault}

-- the typed form, if there is one
abbrev pub typed_form : {A : Type 0} → Typing A → Option A
typed_form (typed form) = Some form
typed_form (faulty one others) = None

-- beside a typing: its form, if there is one, and the first of the faults before and of its faults
pub record Gives {A : Type 0} (old new : Option TypingFault) (found : Option A) (t : Typing A) : Type 0 where
  pub best : new ≡ least_fault_from old (faults_of t)
  pub form : found ≡ typed_form t

-- the pure form of what was found
abbrev pub mapped : {A B E : Type 0} → (A → B) → Result (Option A) E → Result (Option B) E
mapped pure (Ok found) = Ok (option_map pure found)
mapped pure (Err e) = Err e

-- a walk that had memory gives that, of the pure form of what it found
abbrev pub Walked : {A B E : Type 0} → (A → B) → Option TypingFault → Option TypingFault → Result (Option A) E → Typing B → Type 0
Walked pure old new result t = IfOk (mapped pure result) (λ found. Gives old new found t)

-- ---- joins

-- of two, if both are there
abbrev pub if_both : {A B C : Type 0} → (A → B → C) → Option A → Option B → Option C
if_both form (Some a) (Some b) = Some (form a b)
if_both form _ _ = None

-- of two walks, what both found, or want of memory
abbrev pub found_both : {A B E : Type 0} → Result (Option A) E → Result (Option B) E → Result (Option (A × B)) E
found_both (Err e) second = Err e
found_both (Ok a) (Err e) = Err e
found_both (Ok a) (Ok b) = Ok (if_both (λ x y. (x, y)) a b)

-- whether there are no faults
abbrev pub are_none : List TypingFault → Bool
are_none [] = true
are_none (one ∷ others) = false

-- what was found, if all is well
abbrev pub if_so : {A : Type 0} → Bool → Option A → Option A
if_so well found = if well then found else None

-- the less of two faults, where there are any
abbrev pub merged : Option TypingFault → Option TypingFault → Option TypingFault
merged best None = best
merged best (Some found) = take_less best found

-- a form, unless there is a fault
abbrev pub unless_fault : {A : Type 0} → Option TypingFault → Option A → Option A
unless_fault None form = form
unless_fault (Some found) form = None

-- forms, unless one is faulty
abbrev pub unless_faulty : {A : Type 0} → Bool → List A → Option (List A)
unless_faulty one_is forms = if one_is then None else Some forms

-- one form more, if all are there
abbrev pub kept_form : {A : Type 0} → Option (List A) → Option A → Option (List A)
kept_form forms one = if_both (λ all last. all ++ last ∷ []) forms one
