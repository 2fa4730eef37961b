-- Reading a block: its braces and what they hold.
use Rattle.std.specs.Prelude.{List, Ok, map}
use Rattle.c_grammar.specs.declared.terminal.Symbol.TheVariants as w
use Rattle.c_grammar.specs.declared.terminal.Span.{Span}
use Rattle.c_grammar.specs.declared.terminal.Terminal.{Terminal}
use Rattle.c_grammar.specs.Tree as t
use Rattle.c_grammar.specs.StmtView.{part_view}
use Rattle.c_grammar.specs.Symbols.{isnt}
use Rattle.c_grammar.specs.Reading.{Answer, ◌>>=◌, expect, many}
use Rattle.c_parse.specs.declared.statement.BlockParts.{BlockParts}

-- what a block holds, and its braces
pub record BlockTree : Type 0 where
  pub opening : Span
  pub parts : List t.Part
  pub closing : Span

-- of a block
abbrev pub block_view : BlockParts → BlockTree
block_view one = record { opening = one.opening; parts = map part_view one.parts.items; closing = one.closing }

-- reading braces and what they hold, which `part` reads
unfoldable pub braces_of : (List Terminal → Answer t.Part) → List Terminal → Answer BlockTree
braces_of part ts = do
  opening ← expect w.OpenBrace ts
  parts ← many (isnt w.CloseBrace) part opening.1
  closing ← expect w.CloseBrace parts.1
  Ok (record { opening = opening.0; parts = parts.0; closing = closing.0 }, closing.1)
