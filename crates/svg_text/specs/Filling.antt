-- Texts with holes, and what fills them.
use Rattle.std.specs.Prelude.{◌==◌, ◌%◌, ℕ, List, [], ◌∷◌, ◌++◌, codes, drop, if◌then◌else◌}
use Rattle.wiz_base.specs.Decimals.{decimal_text}
use Rattle.svg_text.specs.declared.filling.Filler.{Filler}
use Rattle.svg_text.specs.declared.filling.Filler.TheVariants.{Bad, Deep, Gray, Number, Pale, Wild}

-- the colours of groups, by their numbers modulo 8
abbrev pub deep_text : ℕ → List ℕ
deep_text g =
    if g == 0 then codes "#2f6db5" else if g == 1 then codes "#c06a12" else if g == 2 then codes "#2f8a4a"
    else if g == 3 then codes "#8a3f93" else if g == 4 then codes "#b23b3b" else if g == 5 then codes "#1f8690"
    else if g == 6 then codes "#85741c" else codes "#5a5a86"

-- the pale ones, for lanes
abbrev pub pale_text : ℕ → List ℕ
pale_text g =
    if g == 0 then codes "#eaf1fb" else if g == 1 then codes "#fdf1e3" else if g == 2 then codes "#e9f6ec"
    else if g == 3 then codes "#f6ebf7" else if g == 4 then codes "#fbeaea" else if g == 5 then codes "#e8f5f6"
    else if g == 6 then codes "#f4f1e4" else codes "#eeeef4"

-- what fills a hole: a number, the colour of a group, or a colour of its own
abbrev pub filled_hole_text : Filler → List ℕ
filled_hole_text (Number n) = decimal_text n
filled_hole_text (Deep group) = deep_text (group % 8)
filled_hole_text (Pale group) = pale_text (group % 8)
filled_hole_text Wild = codes "#b8007a"
filled_hole_text Bad = codes "#d21f1f"
filled_hole_text Gray = codes "#8a8f98"

-- what fills the first hole
abbrev pub hole_text : List Filler → List ℕ
hole_text [] = []
hole_text (part ∷ parts) = filled_hole_text part

-- a text in which each % is a hole, filled in order
unfoldable pub filled_text : List ℕ → List Filler → List ℕ
filled_text [] parts = []
filled_text (byte ∷ bytes) parts = if byte == 37 then hole_text parts ++ filled_text bytes (drop 1 parts) else byte ∷ filled_text bytes parts
