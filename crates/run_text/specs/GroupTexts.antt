-- The text of a group.
use Rattle.std.specs.Prelude.{ℕ, List, ◌++◌, codes, flat_map}
use Rattle.wiz_base.specs.Decimals.{decimal_text}

-- ranks, a blank before each
abbrev pub spaced_ranks_text : List ℕ → List ℕ
spaced_ranks_text ranks = flat_map (λ rank. codes " " ++ decimal_text rank) ranks
