-- Reading what is before the inner statement of a statement, or after it. `expr` reads an expression at the statement's depth, `index`
-- one that is a depth below it.
use Rattle.std.specs.Prelude.{List, Option, Ok, option_map}
use Rattle.c_grammar.specs.declared.terminal.Symbol.{Symbol}
use Rattle.c_grammar.specs.declared.terminal.Symbol.TheVariants as w
use Rattle.c_grammar.specs.declared.terminal.Span.{Span}
use Rattle.c_grammar.specs.declared.terminal.Terminal.{Terminal}
use Rattle.c_grammar.specs.Tree as t
use Rattle.c_grammar.specs.View.{view}
use Rattle.c_grammar.specs.StmtView.{simple_view, start_view}
use Rattle.c_grammar.specs.Symbols.{isnt}
use Rattle.c_grammar.specs.Reading.{Answer, ◌>>=◌, expect, maybe}
use Rattle.c_grammar.specs.StmtReading.{read_simple, read_for_start}
use Rattle.c_parse.specs.declared.statement_head.TestHead.{TestHead}
use Rattle.c_parse.specs.declared.statement_head.ForHead.{ForHead}

-- a keyword and the test in parentheses after it
pub record TestTree : Type 0 where
  pub keyword : Span
  pub opening : Span
  pub test : t.Expr
  pub closing : Span

-- of a head with a test
abbrev pub test_head_view : TestHead → TestTree
test_head_view one = record { keyword = one.keyword; opening = one.opening; test = view one.test; closing = one.closing }

-- reading a keyword and its test in parentheses
unfoldable pub test_head_of : (List Terminal → Answer t.Expr) → Symbol → List Terminal → Answer TestTree
test_head_of expr first ts = do
  keyword ← expect first ts
  opening ← expect w.OpenParen keyword.1
  test ← expr opening.1
  closing ← expect w.CloseParen test.1
  Ok (record { keyword = keyword.0; opening = opening.0; test = test.0; closing = closing.0 }, closing.1)

-- a thing and the terminal after it
unfoldable pub ended_of : {A : Type 0} → (List Terminal → Answer A) → Symbol → List Terminal → Answer (A × Span)
ended_of one last ts = do
  thing ← one ts
  end ← expect last thing.1
  Ok ((thing.0, end.0), end.1)

-- what is before the statement of a `for`: each piece with the place of the terminal after it
pub record ForTree : Type 0 where
  pub keyword : Span
  pub opening : Span
  pub start : t.ForStart × Span
  pub test : Option t.Expr × Span
  pub step : Option t.Simple × Span

-- of the head of a for
abbrev pub for_head_view : ForHead → ForTree
for_head_view head = record {
  keyword = head.keyword;
  opening = head.opening;
  start = (start_view head.start.0, head.start.1);
  test = (option_map view head.test.0, head.test.1);
  step = (option_map simple_view head.step.0, head.step.1);
}

-- reading the head of a for
unfoldable pub for_head_of : (List Terminal → Answer t.Expr) → (List Terminal → Answer t.Expr) → List Terminal → Answer ForTree
for_head_of expr index ts = do
  keyword ← expect w.For ts
  opening ← expect w.OpenParen keyword.1
  start ← ended_of (read_for_start expr index) w.Semicolon opening.1
  test ← ended_of (maybe (isnt w.Semicolon) expr) w.Semicolon start.1
  step ← ended_of (maybe (isnt w.CloseParen) (read_simple expr index)) w.CloseParen test.1
  Ok (record { keyword = keyword.0; opening = opening.0; start = start.0; test = test.0; step = step.0 }, step.1)
