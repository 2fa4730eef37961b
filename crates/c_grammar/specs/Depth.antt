-- How deep statements and programs go: the terminals from the first thing on that is too deep.
use Rattle.std.specs.Prelude.{◌-◌, ℕ, zero, suc, List, [], ◌∷◌, Option, Some, None}
use Rattle.c_grammar.specs.declared.limits.TheConstants.{MOST_DEPTHS}
use Rattle.c_grammar.specs.declared.terminal.Symbol.TheVariants as w
use Rattle.c_grammar.specs.declared.terminal.Terminal.{Terminal}
use Rattle.c_grammar.specs.Tree as t
use Rattle.c_grammar.specs.Grammar.{at, spell, earlier, deep, deep_place}
use Rattle.c_grammar.specs.StmtGrammar.{spell_maybe, spell_list, spell_after_comma, spell_argument, spell_right, spell_simple, spell_initial, spell_item, spell_stmt, spell_part, spell_parts, spell_parameter, spell_external}

-- in something that may be missing
abbrev pub deep_maybe : {A : Type 0} → (A → List Terminal → Option (List Terminal)) → Option A → List Terminal → Option (List Terminal)
deep_maybe one None rest = None
deep_maybe one (Some a) rest = one a rest

-- in things one after the other: the first place of all
abbrev pub deep_list : {A : Type 0} → (A → List Terminal → List Terminal) → (A → List Terminal → Option (List Terminal)) → List A → List Terminal → Option (List Terminal)
deep_list spells one [] rest = None
deep_list spells one (a ∷ more) rest = earlier (one a (spell_list spells more rest)) (deep_list spells one more rest)

-- in things with a comma between each two
abbrev pub deep_comma_list : {A : Type 0} → (A → List Terminal → List Terminal) → (A → List Terminal → Option (List Terminal)) → t.CommaList A → List Terminal → Option (List Terminal)
deep_comma_list spells one (t.comma_list a more) rest =
    earlier (one a (spell_list (spell_after_comma spells) more rest)) (deep_list (spell_after_comma spells) (λ b. one b.1) more rest)

-- down to deep_start there are n depths below the statement's or declaration's own, which is that of its expressions; what is
-- in brackets is one deeper, and the parentheses of calls do not count

-- in an argument
abbrev pub deep_argument : ℕ → t.Argument → List Terminal → Option (List Terminal)
deep_argument n (t.text span) rest = None
deep_argument n (t.address mark place) rest = deep_place n place rest
deep_argument n (t.value expr) rest = deep (suc n) expr rest

-- in a call
abbrev pub deep_call : ℕ → t.WrittenCall → List Terminal → Option (List Terminal)
deep_call n call rest = deep_maybe (deep_comma_list spell_argument (deep_argument n)) call.arguments (at w.CloseParen call.closing ∷ rest)

-- in a right side
abbrev pub deep_right : ℕ → t.Right → List Terminal → Option (List Terminal)
deep_right n (t.called call) rest = deep_call n call rest
deep_right n (t.valued expr) rest = deep (suc n) expr rest

-- in a simple statement
abbrev pub deep_simple : ℕ → t.Simple → List Terminal → Option (List Terminal)
deep_simple n (t.assign place operator span right) rest =
    earlier (deep_place n place (at operator span ∷ spell_right right rest)) (deep_right n right rest)
deep_simple n (t.after place operator span) rest = deep_place n place (at operator span ∷ rest)
deep_simple n (t.before operator span place) rest = deep_place n place rest
deep_simple n (t.invoke call) rest = deep_call n call rest

-- in an initializer
abbrev pub deep_initial : ℕ → t.Initializer → List Terminal → Option (List Terminal)
deep_initial n (t.begun mark right) rest = deep_right n right rest
deep_initial n (t.braced mark opening values closing) rest = deep_comma_list spell (deep (suc n)) values (at w.CloseBrace closing ∷ rest)

-- in a declarator with its initializer
abbrev pub deep_item : ℕ → t.InitDeclarator → List Terminal → Option (List Terminal)
deep_item n item rest =
    earlier (deep_place n item.place (spell_maybe spell_initial item.initial rest)) (deep_maybe (deep_initial n) item.initial rest)

-- in a declaration
abbrev pub deep_declaration : ℕ → t.Declaration → List Terminal → Option (List Terminal)
deep_declaration n declaration rest = deep_comma_list spell_item (deep_item n) declaration.items rest

-- in how a for begins
abbrev pub deep_start : ℕ → t.ForStart → List Terminal → Option (List Terminal)
deep_start n t.no_start rest = None
deep_start n (t.declared_start declaration) rest = deep_declaration n declaration rest
deep_start n (t.simple_start simple) rest = deep_simple n simple rest

abbrev mutual
  -- deeper than n depths, the statement itself at the first of them; a statement inside it and the parts of a block are one deeper
  pub deep_stmt : ℕ → t.Stmt → List Terminal → Option (List Terminal)
  deep_stmt zero stmt rest = Some (spell_stmt stmt rest)
  deep_stmt (suc n) (t.block opening parts closing) rest = deep_parts n parts (at w.CloseBrace closing ∷ rest)
  deep_stmt (suc n) (t.empty end) rest = None
  deep_stmt (suc n) (t.simple simple end) rest = deep_simple n simple (at w.Semicolon end ∷ rest)
  deep_stmt (suc n) (t.break keyword end) rest = None
  deep_stmt (suc n) (t.continue keyword end) rest = None
  deep_stmt (suc n) (t.return keyword value end) rest = deep_maybe (deep_right n) value (at w.Semicolon end ∷ rest)
  deep_stmt (suc n) (t.if_only keyword opening test closing branch) rest =
      earlier (deep (suc n) test (at w.CloseParen closing ∷ spell_stmt branch rest)) (deep_stmt n branch rest)
  deep_stmt (suc n) (t.if_else keyword opening test closing branch else_keyword other) rest =
      earlier (deep (suc n) test (at w.CloseParen closing ∷ spell_stmt branch (at w.Else else_keyword ∷ spell_stmt other rest)))
      (earlier (deep_stmt n branch (at w.Else else_keyword ∷ spell_stmt other rest)) (deep_stmt n other rest))
  deep_stmt (suc n) (t.while keyword opening test closing body) rest =
      earlier (deep (suc n) test (at w.CloseParen closing ∷ spell_stmt body rest)) (deep_stmt n body rest)
  deep_stmt (suc n) (t.do_while keyword body while_keyword opening test closing end) rest =
      earlier (deep_stmt n body (at w.While while_keyword ∷ at w.OpenParen opening ∷ spell test (at w.CloseParen closing ∷ at w.Semicolon end ∷ rest)))
      (deep (suc n) test (at w.CloseParen closing ∷ at w.Semicolon end ∷ rest))
  deep_stmt (suc n) (t.for keyword opening start start_end test test_end step closing body) rest =
      earlier (deep_start n start (at w.Semicolon start_end ∷ spell_maybe spell test
      (at w.Semicolon test_end ∷ spell_maybe spell_simple step (at w.CloseParen closing ∷ spell_stmt body rest))))
      (earlier (deep_maybe (deep (suc n)) test (at w.Semicolon test_end ∷ spell_maybe spell_simple step (at w.CloseParen closing ∷ spell_stmt body rest)))
      (earlier (deep_maybe (deep_simple n) step (at w.CloseParen closing ∷ spell_stmt body rest)) (deep_stmt n body rest)))

  -- in a part of a block, which is a depth of its own
  pub deep_part : ℕ → t.Part → List Terminal → Option (List Terminal)
  deep_part zero part rest = Some (spell_part part rest)
  deep_part (suc n) (t.declare declaration end) rest = deep_declaration n declaration (at w.Semicolon end ∷ rest)
  deep_part (suc n) (t.stmt inner) rest = deep_stmt (suc n) inner rest

  -- in the parts of a block
  pub deep_parts : ℕ → t.Parts → List Terminal → Option (List Terminal)
  deep_parts n t.no_part rest = None
  deep_parts n (t.part first more) rest = earlier (deep_part n first (spell_parts more rest)) (deep_parts n more rest)

-- with n depths below the head's own: an array's length is one deeper than the head
abbrev pub deep_parameter : ℕ → t.Parameter → List Terminal → Option (List Terminal)
deep_parameter n (t.array keyword name opening length closing) rest = deep_maybe (deep n) length (at w.CloseBracket closing ∷ rest)
deep_parameter n _ rest = None

-- in the parameters of a head
abbrev pub deep_parameters : ℕ → t.Parameters → List Terminal → Option (List Terminal)
deep_parameters n (t.parameters list) rest = deep_comma_list spell_parameter (deep_parameter n) list rest
deep_parameters n _ rest = None

-- in the head of a function
abbrev pub deep_head : ℕ → t.Head → List Terminal → Option (List Terminal)
deep_head n head rest = deep_parameters n head.listed (at w.CloseParen head.closing ∷ rest)

-- a function's head and its outermost parts stand at the first of all depths
abbrev pub deep_external : t.ExternalDeclaration → List Terminal → Option (List Terminal)
deep_external (t.define keyword name value end) rest = None
deep_external (t.function head opening parts closing) rest =
    earlier (deep_head (MOST_DEPTHS - 1) head (at w.OpenBrace opening ∷ spell_parts parts (at w.CloseBrace closing ∷ rest)))
    (deep_parts MOST_DEPTHS parts (at w.CloseBrace closing ∷ rest))
deep_external (t.prototype head end) rest = deep_head (MOST_DEPTHS - 1) head (at w.Semicolon end ∷ rest)

-- in a whole program
abbrev pub deep_tree : t.Tree → List Terminal → Option (List Terminal)
deep_tree = deep_list spell_external deep_external
