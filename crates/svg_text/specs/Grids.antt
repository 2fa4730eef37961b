-- Where things stand: a cell for each column and lane, in whole numbers.
use Rattle.std.specs.Prelude.{◌+◌, ◌-◌, ◌*◌, ◌/◌, ◌||◌, ℕ, max, nat_le, nat_lt, if◌then◌else◌}
use Rattle.svg_text.specs.declared.grid.Grid.{Grid}
use Rattle.svg_text.specs.declared.grid.Grid.TheVariants.{Dense, Wide}

-- the width of a cell
abbrev pub cell_width : Grid → ℕ
cell_width Wide = 46
cell_width Dense = 16

-- half the width of a cell
abbrev pub half_width : Grid → ℕ
half_width Wide = 23
half_width Dense = 8

-- the height of a cell
abbrev pub cell_height : Grid → ℕ
cell_height Wide = 62
cell_height Dense = 22

-- half the height of a cell
abbrev pub half_height : Grid → ℕ
half_height Wide = 31
half_height Dense = 11

-- the grid is dense above 12 ranks or 400 calls
abbrev pub grid_by : ℕ → ℕ → Grid
grid_by ranks calls = if nat_lt 12 ranks || nat_lt 400 calls then Dense else Wide

-- the middle of a column
abbrev pub x_of : Grid → ℕ → ℕ
x_of grid column = 92 + half_width grid + cell_width grid * column

-- the middle of a lane
abbrev pub y_of : Grid → ℕ → ℕ
y_of grid rank = 60 + half_height grid + cell_height grid * rank

-- the right end of the lanes
abbrev pub right_of : Grid → ℕ → ℕ
right_of grid columns = 108 + cell_width grid * columns

-- where the lanes end below
abbrev pub bottom_of : Grid → ℕ → ℕ
bottom_of grid ranks = 60 + cell_height grid * ranks

-- how far apart two numbers are
abbrev pub distance : ℕ → ℕ → ℕ
distance a b = (a - b) + (b - a)

-- the longer side of a line, at least 1
abbrev pub long_side : ℕ → ℕ → ℕ → ℕ → ℕ
long_side x1 y1 x2 y2 = max (max (distance x1 x2) (distance y1 y2)) 1

-- a line from a to b ends 9 in front of b along its longer side
abbrev pub short_of : ℕ → ℕ → ℕ → ℕ
short_of a b long = if nat_le a b then b - (b - a) * 9 / long else b + (a - b) * 9 / long
