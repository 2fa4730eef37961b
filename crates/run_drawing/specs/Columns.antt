-- Columns: an event stands at its depth; the events that stop their ranks stand in one column behind all others.
use Rattle.std.specs.Prelude.{ℕ, zero, suc, ◌+◌, List, Option, Some, None, if◌then◌else◌, length, max, slice_get, slice_index}
use Rattle.std.specs.List.{list_any}
use Rattle.run_model.specs.declared.event.Event.{Event}
use Rattle.run_model.specs.Due.{stops}
use Rattle.run_model.specs.Views.{rank_of_event}
use Rattle.run_drawing.specs.declared.drawing.Point.{Point}
use Rattle.run_drawing.specs.Basis.{Basis}

-- the column behind an event of this depth, where there is an event that stops no rank
abbrev pub column_behind : Option Event → ℕ → ℕ
column_behind None depth = 0
column_behind (Some event) depth = if stops event.reply then 0 else suc depth

-- the column behind all of the first events that stop no rank
abbrev pub behind_first : List Event → List ℕ → ℕ → ℕ
behind_first events depths zero = 0
behind_first events depths (suc p) = max (behind_first events depths p) (column_behind (slice_get events p) (slice_index depths p))

-- the column behind all events that stop no rank
abbrev pub behind_all : List Event → List ℕ → ℕ
behind_all events depths = behind_first events depths (length events)

-- the column of an event of this depth
abbrev pub column_by : ℕ → ℕ → Option Event → ℕ
column_by behind depth None = 0
column_by behind depth (Some event) = if stops event.reply then behind else depth

-- the column of the event at a position
abbrev pub column : Basis → ℕ → ℕ
column basis p = column_by (behind_all basis.events basis.depths) (slice_index basis.depths p) (slice_get basis.events p)

-- how many columns there are
abbrev pub columns_of : List Event → List ℕ → ℕ
columns_of events depths = behind_all events depths + (if list_any (λ (event : Event). stops event.reply) events then 1 else 0)

-- where the event at a position stands
abbrev pub point : Basis → ℕ → Point
point basis p = record { rank = rank_of_event (slice_get basis.events p); column = column basis p }
