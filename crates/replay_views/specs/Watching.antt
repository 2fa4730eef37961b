-- The changes of a variable of a rank.
use Rattle.std.specs.Prelude.{◌+◌, ℕ, zero, suc, ℤ, List, [], ◌∷◌, Option, Some, None, Bool, true, false, if◌then◌else◌, flat_map, length, take}
use Rattle.std.specs.Ordering.{int_eq}
use lib.Pointwise.{pointwise}
use Rattle.mpi_call.specs.declared.call.Call.{Call}
use Rattle.mpi_call.specs.declared.reply.Reply.{Reply}
use Rattle.run_model.specs.declared.lists.Variable.{Variable}
use Rattle.run_model.specs.Lists.{world}
use Rattle.run_model.specs.Views.{Next, View, replies_in}
use Rattle.rank_watch.specs.Innermost.{innermost_values}
use Rattle.replay_views.specs.declared.changes.Change.{Change}

-- the variables that stand before a rank's next call, by the number of ranks, the rank and the replies that it got
abbrev pub Variables : Type 0
Variables = ℕ → ℕ → List Reply → List Variable

-- the values of a variable, if a call follows
abbrev pub values_by : Option Call → List Variable → List ℕ → Option (List ℤ)
values_by None variables name = None
values_by (Some call) variables name = innermost_values name variables

-- the values of the innermost variable of a name before the next call of a rank that got these replies; a rank that has ended has none
abbrev pub values_after : Next → Variables → ℕ → ℕ → List ℕ → List Reply → Option (List ℤ)
values_after next variables n rank name replies = values_by (next n rank replies) (variables n rank replies) name

-- values as a function of the replies that a rank got
abbrev pub Values : Type 0
Values = List Reply → Option (List ℤ)

-- the values before a call of a rank, by its number
abbrev pub values_at : Values → View → ℕ → Option (List ℤ)
values_at values view number = values (replies_in (take number view))

-- those before the call before it; there are none before call 0
abbrev pub values_before : Values → View → ℕ → Option (List ℤ)
values_before values view zero = None
values_before values view (suc number) = values_at values view number

-- there are the same values, or none both times
abbrev pub same_values : Option (List ℤ) → Option (List ℤ) → Bool
same_values None None = true
same_values (Some values) (Some others) = pointwise int_eq values others
same_values values others = false

-- a change, if these values differ
abbrev pub change_between : ℕ → Option (List ℤ) → Option (List ℤ) → List Change
change_between number old new = if same_values old new then [] else (record { number = number; old = old; new = new }) ∷ []

-- the change that is seen before a call, if there is one
abbrev pub change_at : Values → View → ℕ → List Change
change_at values view number = change_between number (values_before values view number) (values_at values view number)

-- the changes that are seen before each call of a rank, and after its last one
abbrev pub changes_of : Values → View → List Change
changes_of values view = flat_map (change_at values view) (world (length view + 1) 0)
