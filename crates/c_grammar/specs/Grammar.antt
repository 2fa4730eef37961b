-- The grammar of expressions: what a tree spells, how operators bind, and how deep it goes. (ISO C, "Expressions".)
use Rattle.std.specs.Prelude.{◌≡◌, true, ℕ, zero, suc, ◌<◌, List, ◌∷◌, Option, Some, None}
use Rattle.c_grammar.specs.declared.limits.TheConstants.{CONDITIONAL_LEVEL}
use Rattle.c_grammar.specs.declared.terminal.Symbol.{Symbol}
use Rattle.c_grammar.specs.declared.terminal.Symbol.TheVariants as w
use Rattle.c_grammar.specs.declared.terminal.Span.{Span}
use Rattle.c_grammar.specs.declared.terminal.Terminal.{Terminal}
use Rattle.c_grammar.specs.Symbols.{level_of, is_sign}
use Rattle.c_grammar.specs.Tree.{Expr, number, read, field, paren, unary, chain, choice, Place, whole, cell, Links, no_link, link}

-- the terminal of this symbol at this place
abbrev pub at : Symbol → Span → Terminal
at symbol span = record { symbol = symbol; span = span }

abbrev mutual
  -- expression = binary [ "?" expression ":" expression ]; binary = operand { operator operand }
  -- operand = { "-" | "+" | "!" | "~" } primary; primary = NUMBER | place [ "." NAME ] | "(" expression ")"
  pub spell : Expr → List Terminal → List Terminal
  spell (number span) rest = at w.Number span ∷ rest
  spell (read place) rest = spell_place place rest
  spell (field place dot name) rest = spell_place place (at w.Dot dot ∷ at w.Name name ∷ rest)
  spell (paren opening inner closing) rest = at w.OpenParen opening ∷ spell inner (at w.CloseParen closing ∷ rest)
  spell (unary sign span operand) rest = at sign span ∷ spell operand rest
  spell (chain level first links) rest = spell first (spell_links links rest)
  spell (choice test question branch colon other) rest = spell test (at w.Question question ∷ spell branch (at w.Colon colon ∷ spell other rest))

  -- place = NAME [ "[" expression "]" ]
  pub spell_place : Place → List Terminal → List Terminal
  spell_place (whole name) rest = at w.Name name ∷ rest
  spell_place (cell name opening index closing) rest = at w.Name name ∷ at w.OpenBracket opening ∷ spell index (at w.CloseBracket closing ∷ rest)

  -- operator operand, for each link
  pub spell_links : Links → List Terminal → List Terminal
  spell_links no_link rest = rest
  spell_links (link operator span operand links) rest = at operator span ∷ spell operand (spell_links links rest)

-- the level of an expression: 0 of an operand, the operators' level of a chain, the greatest of `?:`
abbrev pub precedence : Expr → ℕ
precedence (chain level first links) = level
precedence (choice test question branch colon other) = CONDITIONAL_LEVEL
precedence _ = 0

-- at least one link
abbrev pub IsSome : Links → Type 0
IsSome no_link = ⊥
IsSome (link operator span operand links) = Unit {0}

abbrev mutual
  -- operators bind by level, all to the left
  pub IsExpr : Expr → Type 0
  IsExpr (number span) = Unit {0}
  IsExpr (read place) = IsPlace place
  IsExpr (field place dot name) = IsPlace place
  IsExpr (paren opening inner closing) = IsExpr inner
  IsExpr (unary sign span operand) = (is_sign sign ≡ true) × (precedence operand ≡ 0) × IsExpr operand
  IsExpr (chain level first links) = (0 < level) × (level < CONDITIONAL_LEVEL) × (precedence first < level) × IsExpr first × IsSome links × AreLinks level links
  IsExpr (choice test question branch colon other) = (precedence test < CONDITIONAL_LEVEL) × IsExpr test × IsExpr branch × IsExpr other

  -- an index is an expression of the grammar
  pub IsPlace : Place → Type 0
  IsPlace (whole name) = Unit {0}
  IsPlace (cell name opening index closing) = IsExpr index

  -- each operator is of this level, and each operand binds more tightly
  pub AreLinks : ℕ → Links → Type 0
  AreLinks level no_link = Unit {0}
  AreLinks level (link operator span operand links) = (level_of operator ≡ level) × (precedence operand < level) × IsExpr operand × AreLinks level links

-- the first of two places, where there is one
abbrev pub earlier : Option (List Terminal) → Option (List Terminal) → Option (List Terminal)
earlier (Some d) o = Some d
earlier None o = o

abbrev mutual
  -- the terminals from the first thing on that is deeper than n depths, the expression itself at the first of them;
  -- one deeper is what is in parentheses, in brackets, after a sign, and in the two branches of ?:
  pub deep : ℕ → Expr → List Terminal → Option (List Terminal)
  deep zero expr rest = Some (spell expr rest)
  deep (suc n) (number span) rest = None
  deep (suc n) (read place) rest = deep_place n place rest
  deep (suc n) (field place dot name) rest = deep_place n place (at w.Dot dot ∷ at w.Name name ∷ rest)
  deep (suc n) (paren opening inner closing) rest = deep n inner (at w.CloseParen closing ∷ rest)
  deep (suc n) (unary sign span operand) rest = deep n operand rest
  deep (suc n) (chain level first links) rest = earlier (deep (suc n) first (spell_links links rest)) (deep_links n links rest)
  deep (suc n) (choice test question branch colon other) rest =
      earlier (deep (suc n) test (at w.Question question ∷ spell branch (at w.Colon colon ∷ spell other rest)))
      (earlier (deep n branch (at w.Colon colon ∷ spell other rest)) (deep n other rest))

  -- with n depths below the place's own
  pub deep_place : ℕ → Place → List Terminal → Option (List Terminal)
  deep_place n (whole name) rest = None
  deep_place n (cell name opening index closing) rest = deep n index (at w.CloseBracket closing ∷ rest)

  -- with n depths below the operands' own
  pub deep_links : ℕ → Links → List Terminal → Option (List Terminal)
  deep_links n no_link rest = None
  deep_links n (link operator span operand links) rest = earlier (deep (suc n) operand (spell_links links rest)) (deep_links n links rest)
