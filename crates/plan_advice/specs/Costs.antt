-- What a group of ranks costs: the ints that its log keeps.
use Rattle.std.specs.Prelude.{◌-◌, ℕ, List, [], length, sum_by}
use Rattle.run_model.specs.declared.event.Event.{Event}
use Rattle.run_model.specs.Lists.{world}
use Rattle.run_model.specs.Program.{AsksInBounds, EndsExactly, EntersInForm}
use Rattle.run_model.specs.Run.{IsRun}
use Rattle.run_model.specs.Views.{Next}
use Rattle.srr_entry.specs.declared.entry.Entry.{Entry}
use Rattle.srr_entry.specs.declared.entry.Entry.TheVariants.{Took}
use Rattle.srr_entry.specs.declared.entry.Mark.{Mark}
use Rattle.srr_entry.specs.declared.entry.Mark.TheVariants.{Outside, Outer}
use Rattle.srr_entry.specs.declared.log.Log.{Log}
use Rattle.srr_entry.specs.Entries.{log_of}

-- the ints of a message or of a result from outside the group. The members of a communicator are no ints
abbrev pub ints_in_mark : Mark → ℕ
ints_in_mark (Outside source start tag ints) = length ints
ints_in_mark (Outer ints) = length ints
ints_in_mark mark = 0

-- the same of an entry
abbrev pub ints_of_entry : Entry → ℕ
ints_of_entry (Took items) = sum_by (λ item. ints_in_mark item.mark) items
ints_of_entry entry = 0

-- the same of a log: of each rank's entries
abbrev pub ints_in_log : Log → ℕ
ints_in_log log = sum_by (λ entries. sum_by ints_of_entry entries) log.lists

-- what a group costs in a run on n ranks: the ints in its log. The program's text has no part in it
abbrev pub group_cost : ℕ → List Event → List ℕ → ℕ
group_cost n events group = ints_in_log (log_of [] n events group)

-- what the block of the ranks from `begin` to the one before `end` costs
abbrev pub block_cost : ℕ → List Event → ℕ → ℕ → ℕ
block_cost n events begin end = group_cost n events (world (end - begin) begin)

-- what a plan costs: its groups together
abbrev pub plan_cost : ℕ → List Event → List (List ℕ) → ℕ
plan_cost n events groups = sum_by (λ group. group_cost n events group) groups

-- the events are a run, finished or not, of a program on n ranks
pub record IsRunOfAProgram (n : ℕ) (events : List Event) : Type 0 where
  pub next : Next
  pub ends : EndsExactly next
  pub asks : AsksInBounds next
  pub enters : EntersInForm next
  pub run : IsRun next n events
