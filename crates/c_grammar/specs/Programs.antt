-- What the parser answers: the tree of a program, or its first fault, by the grammar alone.
use Rattle.std.specs.Prelude.{List, [], Option}
use Rattle.c_lex.specs.declared.fault.Why.{Why}
use Rattle.c_lex.specs.declared.fault.Why.TheVariants.{Unexpected, TooDeep}
use Rattle.c_grammar.specs.declared.terminal.Terminal.{Terminal}
use Rattle.c_grammar.specs.Tree.{Tree}
use Rattle.c_grammar.specs.StmtGrammar.{spell_tree, AreExternals}
use Rattle.c_grammar.specs.Depth.{deep_tree}
use Rattle.c_grammar.specs.Faults as texts

-- what a whole program spells
abbrev pub spelling : Tree → List Terminal
spelling tree = spell_tree tree []

-- the terminals from the first thing on that is too deep
abbrev pub first_too_deep : Tree → Option (List Terminal)
first_too_deep tree = deep_tree tree []

-- the terminals are this tree's, and nothing in it is too deep
abbrev pub IsTree : List Terminal → Tree → Type 0
IsTree terminals tree = texts.IsTextOf spelling AreExternals first_too_deep terminals tree

-- the first terminal of rest is one that no program has after the terminals before it; the end of the text counts as a terminal
abbrev pub IsUnexpected : List Terminal → List Terminal → Type 0
IsUnexpected terminals rest = texts.IsUnexpected spelling AreExternals first_too_deep terminals rest

-- the first terminal of rest begins depth 65, and no terminal before it is unexpected
abbrev pub IsTooDeep : List Terminal → List Terminal → Type 0
IsTooDeep terminals rest = texts.IsTooDeep spelling AreExternals first_too_deep terminals rest

-- the first fault of a text, at the first terminal of rest
abbrev pub IsSyntaxFault : List Terminal → Why → List Terminal → Type 0
IsSyntaxFault terminals Unexpected rest = IsUnexpected terminals rest
IsSyntaxFault terminals TooDeep rest = IsTooDeep terminals rest
IsSyntaxFault terminals _ rest = ⊥
