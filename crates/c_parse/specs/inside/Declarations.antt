-- Reading a declaration and its `;`, as a part of a block.
use Rattle.std.specs.Prelude.{List, Ok}
use Rattle.c_grammar.specs.declared.terminal.Symbol.TheVariants.{Semicolon}
use Rattle.c_grammar.specs.declared.terminal.Terminal.{Terminal}
use Rattle.c_grammar.specs.Tree as t
use Rattle.c_grammar.specs.Reading.{Answer, ◌>>=◌, expect}
use Rattle.c_grammar.specs.StmtReading.{read_declaration}

-- `expr` reads an expression at the depth of the part, `index` one that is a depth below it
abbrev pub declared_of : (List Terminal → Answer t.Expr) → (List Terminal → Answer t.Expr) → List Terminal → Answer t.Part
declared_of expr index ts = do
  one ← read_declaration expr index ts
  end ← expect Semicolon one.1
  Ok (t.declare one.0 end.0, end.1)
