-- The innermost variable of a name, among those that stand before a call.
use Rattle.std.specs.Prelude.{ℕ, ℤ, List, [], ◌∷◌, Option, Some, None, Bool, if◌then◌else◌, nat_eq}
use lib.Pointwise.{pointwise}
use Rattle.run_model.specs.declared.lists.Variable.{Variable}

-- the first of two that there is
abbrev pub or_values : Option (List ℤ) → Option (List ℤ) → Option (List ℤ)
or_values (Some values) other = Some values
or_values None other = other

-- a variable has this name
abbrev pub is_named : List ℕ → Variable → Bool
is_named name variable = pointwise nat_eq name variable.name

-- the values of a variable, if it has this name
abbrev pub values_named : List ℕ → Variable → Option (List ℤ)
values_named name variable = if is_named name variable then Some variable.values else None

-- the values of the innermost variable of a name: of those with this name the one that is listed last
abbrev pub innermost_values : List ℕ → List Variable → Option (List ℤ)
innermost_values name [] = None
innermost_values name (variable ∷ variables) = or_values (innermost_values name variables) (values_named name variable)
