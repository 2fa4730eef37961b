-- Things with a comma between each two, as a list.
use Rattle.std.specs.Prelude.{List, ◌∷◌, map}
use Rattle.c_grammar.specs.declared.statement.CommaList.{CommaList}

-- the things of a row, in order
abbrev pub comma_items : {A : Type 0} → CommaList A → List A
comma_items list = list.first ∷ map (λ behind. behind.item) list.more.items
