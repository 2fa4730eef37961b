-- What the readers of parameters, heads, defines and functions keep.
use Rattle.std.proofs.Common.{◌≡◌, inl, inr, Bool, true, false, ℕ, List, [], ◌∷◌, length, Option, Some, None, Ok, refl, ap, ◌∙◌, arith, if◌then◌else◌}
use Rattle.std.proofs.Math.Path.{fun_ext}
use Rattle.c_grammar.specs.declared.terminal.Symbol.{Symbol}
use Rattle.c_grammar.specs.declared.terminal.Symbol.TheVariants as w
use Rattle.c_grammar.specs.declared.terminal.Span.{Span}
use Rattle.c_grammar.specs.declared.terminal.Terminal.{Terminal}
use Rattle.c_grammar.specs.Tree as t
use Rattle.c_grammar.specs.Symbols.{is, isnt, is_result, starts_expr}
use Rattle.c_grammar.specs.Grammar.{at, spell, IsExpr, earlier, deep}
use Rattle.c_grammar.specs.StmtGrammar.{spell_maybe, IsMaybe, spell_list, AreAll, spell_symbol, spell_name, spell_comma_list, IsCommaList, spell_part, spell_parts, AreParts, spell_parameter, IsParameter, spell_parameters, AreParameters, spell_head, IsHead, all_named, spell_value, IsValue, spell_external, IsExternal, spell_tree, AreExternals}
use Rattle.c_grammar.specs.Depth.{deep_maybe, deep_list, deep_comma_list, deep_part, deep_parts, deep_parameter, deep_parameters, deep_head, deep_external, deep_tree}
use Rattle.c_grammar.specs.StmtView.{parts_from}
use Rattle.c_grammar.specs.Reading.{Answer, ◌>>=◌, first_of, heads, expect, maybe, many, expr_at}
use Rattle.c_grammar.specs.StmtReading.{read_comma_list, part_at, name_maybe, parameter_by, read_parameter, parameters_by, read_head, read_value, read_body, head_tail, external_with, read_external, read_whole_text}
use Rattle.c_grammar.proofs.Laws.{Laws, last}
use Rattle.c_grammar.proofs.Sequence.{Seq, done, token, pick, part, peek, switch, refused, run, Choice, tree, spells, Fits, Follows, depths, Chosen, laws_of}
use Rattle.c_grammar.proofs.Lists.{expect_laws, maybe_laws, many_laws, comma_list_laws, times_laws, OverMaybe, OverMany, OverCommaList, turns_end}
use Rattle.c_grammar.proofs.ExprLaws.{ExprLaws, Over, expr_starts, expr_laws}
use Rattle.c_grammar.proofs.Calls.{symbol_isnt, heads_other, at_heads}
use Rattle.c_grammar.proofs.StmtLaws.{PartLaws, parts_list, parts_back, parts_spell, parts_good, parts_all, parts_deep, list_spell, parts_laws, stmts_laws}

name_laws : Laws name_maybe spell_name (IsMaybe (λ p. Unit {0})) (deep_maybe (λ p rest. None)) (OverMaybe (is w.Name) (λ p rest. Unit {0}))
name_laws = maybe_laws (expect_laws w.Name) (is w.Name) (λ p g rest. refl)

-- after a name that may be missing
name_over : (o : Option Span) (rest : List Terminal) → heads (is w.Name) rest ≡ false → OverMaybe (is w.Name) (λ p rest. Unit {0}) o rest
name_over None rest h = h
name_over (Some p) rest h = tt

name_fits : (o : Option Span) → IsMaybe (λ p. Unit {0}) o
name_fits None = tt
name_fits (Some p) = tt

-- what is after a parameter
abbrev pub ParameterOver : t.Parameter → List Terminal → Type 0
ParameterOver p rest = (heads (is w.Name) rest ≡ false) × (heads (is w.Times) rest ≡ false) × (heads (is w.OpenBracket) rest ≡ false)

module _ (n : ℕ) (index : List Terminal → Answer t.Expr) (li : ExprLaws n index) where
  length_laws : Laws (maybe (isnt w.CloseBracket) index) (spell_maybe spell) (IsMaybe IsExpr) (deep_maybe (deep n)) (OverMaybe (isnt w.CloseBracket) (λ e rest. Over 11 rest))
  length_laws = maybe_laws li (isnt w.CloseBracket) (λ e g rest. heads_other starts_expr w.CloseBracket (spell e rest) (expr_starts e g rest) refl)

  length_over : (o : Option t.Expr) (c : Span) (rest : List Terminal) → OverMaybe (isnt w.CloseBracket) (λ e rest. Over 11 rest) o (at w.CloseBracket c ∷ rest)
  length_over None c rest = refl
  length_over (Some e) c rest = omega arith

  abbrev int_seq : Seq t.Parameter
  int_seq = token w.Int (λ x. peek (is w.Times)
      (token w.Times (λ p. part name_laws (λ name. done (t.pointer x p name))))
      (part name_laws (λ name. peek (is w.OpenBracket) (token w.OpenBracket (λ o. part length_laws (λ e. token w.CloseBracket (λ c. done (t.array x name o e c))))) (done (t.int x name)))))

  abbrev communicator_seq : Seq t.Parameter
  communicator_seq = token w.Communicator (λ x. part name_laws (λ name. done (t.communicator x name)))

  abbrev char_seq : Seq t.Parameter
  char_seq = token w.Char (λ x. token w.Times (λ p. peek (is w.Times)
      (token w.Times (λ q. part name_laws (λ name. done (t.text_pointers x p q name))))
      (part name_laws (λ name. token w.OpenBracket (λ o. token w.CloseBracket (λ c. done (t.text_array x p name o c)))))))

  abbrev parameter_seq : Option Symbol → Seq t.Parameter
  parameter_seq (Some w.Int) = int_seq
  parameter_seq (Some w.Communicator) = communicator_seq
  parameter_seq _ = char_seq

  parameter_runs : (o : Option Symbol) (ts : List Terminal) → parameter_by index ts o ≡ run (parameter_seq o) ts
  parameter_runs (Some w.Int) ts = refl
  parameter_runs (Some w.Communicator) ts = refl
  parameter_runs _ ts = refl

  char_spelling : (c : Choice char_seq) (rest : List Terminal) → spell_parameter (tree char_seq c) rest ≡ spells char_seq c rest
  char_spelling (x, (p, inl c)) rest = refl
  char_spelling (x, (p, inr c)) rest = refl

  char_good : (c : Choice char_seq) → Fits char_seq c → IsParameter (tree char_seq c)
  char_good (x, (p, inl c)) g = tt
  char_good (x, (p, inr c)) g = tt

  parameter_spelling : (o : Option Symbol) (c : Choice (parameter_seq o)) (rest : List Terminal) → spell_parameter (tree (parameter_seq o) c) rest ≡ spells (parameter_seq o) c rest
  parameter_spelling (Some w.Int) (x, inl c) rest = refl
  parameter_spelling (Some w.Int) (x, inr (name, inl c)) rest = refl
  parameter_spelling (Some w.Int) (x, inr (name, inr c)) rest = refl
  parameter_spelling (Some w.Communicator) c rest = refl
  parameter_spelling _ c rest = char_spelling c rest

  parameter_good : (o : Option Symbol) (c : Choice (parameter_seq o)) → Fits (parameter_seq o) c → IsParameter (tree (parameter_seq o) c)
  parameter_good (Some w.Int) (x, inl c) g = tt
  parameter_good (Some w.Int) (x, inr (name, inl c)) g = g.1.0
  parameter_good (Some w.Int) (x, inr (name, inr c)) g = tt
  parameter_good (Some w.Communicator) c g = tt
  parameter_good _ c g = char_good c g

  not_star : (o : Option Span) (rest : List Terminal) → heads (is w.Times) rest ≡ false → heads (is w.Times) (spell_name o rest) ≡ false
  not_star None rest h = h
  not_star (Some p) rest h = refl

  silent : (o : Option Span) (rest : List Terminal) (d : Option (List Terminal)) → earlier (deep_maybe (λ p rest. None) o rest) d ≡ d
  silent None rest d = refl
  silent (Some p) rest d = refl

  parameter_chosen : (p : t.Parameter) → IsParameter p → Chosen (switch parameter_seq) (deep_parameter n) ParameterOver p
  parameter_chosen (t.int x name) g = record {
    choice = (Some w.Int, (x, inr (name, inr tt)));
    of = refl;
    fits = (name_fits name, tt);
    depth = λ rest. silent name rest None;
    follows = λ rest o. (refl, (not_star name rest o.1, (name_over name rest o.0, (o.2, tt))));
  }
  parameter_chosen (t.array x name o e c) g = record {
    choice = (Some w.Int, (x, inr (name, inl (o, (e, (c, tt))))));
    of = refl;
    fits = (name_fits name, (g, tt));
    depth = λ rest. silent name _ _ ∙ last (deep_maybe (deep n) e (at w.CloseBracket c ∷ rest));
    follows = λ rest h. (refl, (not_star name _ refl, (name_over name _ refl, (refl, (length_over e c rest, tt)))));
  }
  parameter_chosen (t.pointer x p name) g = record {
    choice = (Some w.Int, (x, inl (p, (name, tt))));
    of = refl;
    fits = (name_fits name, tt);
    depth = λ rest. silent name rest None;
    follows = λ rest o. (refl, (refl, (name_over name rest o.0, tt)));
  }
  parameter_chosen (t.communicator x name) g = record {
    choice = (Some w.Communicator, (x, (name, tt)));
    of = refl;
    fits = (name_fits name, tt);
    depth = λ rest. silent name rest None;
    follows = λ rest o. (refl, (name_over name rest o.0, tt));
  }
  parameter_chosen (t.text_pointers x p q name) g = record {
    choice = (Some w.Char, (x, (p, inl (q, (name, tt)))));
    of = refl;
    fits = (name_fits name, tt);
    depth = λ rest. silent name rest None;
    follows = λ rest o. (refl, (refl, (name_over name rest o.0, tt)));
  }
  parameter_chosen (t.text_array x p name o c) g = record {
    choice = (Some w.Char, (x, (p, inr (name, (o, (c, tt))))));
    of = refl;
    fits = (name_fits name, tt);
    depth = λ rest. silent name _ None;
    follows = λ rest h. (refl, (not_star name _ refl, (name_over name _ refl, tt)));
  }

  pub parameter_laws : Laws (read_parameter index) spell_parameter IsParameter (deep_parameter n) ParameterOver
  unfolding read_parameter
  parameter_laws = laws_of (switch parameter_seq) (λ ts. parameter_runs (first_of ts) ts) (λ c rest. parameter_spelling c.0 c.1 rest) (λ c g. parameter_good c.0 c.1 g) parameter_chosen

  list_laws : Laws (read_comma_list (read_parameter index)) (spell_comma_list spell_parameter) (IsCommaList IsParameter) (deep_comma_list spell_parameter (deep_parameter n)) (OverCommaList IsParameter ParameterOver)
  list_laws = comma_list_laws parameter_laws (λ p q rest g. (refl, refl, refl))

  abbrev comma_list_seq : Seq t.Parameters
  comma_list_seq = part list_laws (λ list. done (t.parameters list))

  abbrev parameters_seq : Option Symbol → Seq t.Parameters
  parameters_seq (Some w.CloseParen) = done t.no_parameter
  parameters_seq (Some w.Void) = token w.Void (λ p. done (t.void p))
  parameters_seq _ = comma_list_seq

  parameters_runs : (o : Option Symbol) (ts : List Terminal) → parameters_by index ts o ≡ run (parameters_seq o) ts
  parameters_runs (Some w.CloseParen) ts = refl
  parameters_runs (Some w.Void) ts = refl
  parameters_runs _ ts = refl

  parameters_spelling : (o : Option Symbol) (c : Choice (parameters_seq o)) (rest : List Terminal) → spell_parameters (tree (parameters_seq o) c) rest ≡ spells (parameters_seq o) c rest
  parameters_spelling (Some w.CloseParen) c rest = refl
  parameters_spelling (Some w.Void) c rest = refl
  parameters_spelling _ c rest = refl

  parameters_good : (o : Option Symbol) (c : Choice (parameters_seq o)) → Fits (parameters_seq o) c → AreParameters (tree (parameters_seq o) c)
  parameters_good (Some w.CloseParen) c g = tt
  parameters_good (Some w.Void) c g = tt
  parameters_good _ c g = g.0

  -- parameters stand before their `)`
  abbrev Closed : t.Parameters → List Terminal → Type 0
  Closed p rest = first_of rest ≡ Some w.CloseParen

  comma_list_over : (rest : List Terminal) → first_of rest ≡ Some w.CloseParen → OverMany (is w.Comma) IsParameter ParameterOver rest
  comma_list_over rest o = (at_heads (is w.Comma) w.CloseParen rest o, λ p g. (at_heads (is w.Name) w.CloseParen rest o, at_heads (is w.Times) w.CloseParen rest o, at_heads (is w.OpenBracket) w.CloseParen rest o))

  parameters_chosen : (p : t.Parameters) → AreParameters p → Chosen (switch parameters_seq) (deep_parameters n) Closed p
  parameters_chosen t.no_parameter g = record { choice = (Some w.CloseParen, tt); of = refl; fits = tt; depth = λ rest. refl; follows = λ rest o. (o, tt) }
  parameters_chosen (t.void p) g = record { choice = (Some w.Void, (p, tt)); of = refl; fits = tt; depth = λ rest. refl; follows = λ rest o. (refl, tt) }
  parameters_chosen (t.parameters (t.comma_list (t.int x m) more)) g = record {
    choice = (Some w.Int, (t.comma_list (t.int x m) more, tt));
    of = refl;
    fits = (g, tt);
    depth = λ rest. last (deep_comma_list spell_parameter (deep_parameter n) (t.comma_list (t.int x m) more) rest);
    follows = λ rest o. (refl, (comma_list_over rest o, tt));
  }
  parameters_chosen (t.parameters (t.comma_list (t.array x m o e c) more)) g = record {
    choice = (Some w.Int, (t.comma_list (t.array x m o e c) more, tt));
    of = refl;
    fits = (g, tt);
    depth = λ rest. last (deep_comma_list spell_parameter (deep_parameter n) (t.comma_list (t.array x m o e c) more) rest);
    follows = λ rest o. (refl, (comma_list_over rest o, tt));
  }
  parameters_chosen (t.parameters (t.comma_list (t.pointer x p m) more)) g = record {
    choice = (Some w.Int, (t.comma_list (t.pointer x p m) more, tt));
    of = refl;
    fits = (g, tt);
    depth = λ rest. last (deep_comma_list spell_parameter (deep_parameter n) (t.comma_list (t.pointer x p m) more) rest);
    follows = λ rest o. (refl, (comma_list_over rest o, tt));
  }
  parameters_chosen (t.parameters (t.comma_list (t.communicator x m) more)) g = record {
    choice = (Some w.Communicator, (t.comma_list (t.communicator x m) more, tt));
    of = refl;
    fits = (g, tt);
    depth = λ rest. last (deep_comma_list spell_parameter (deep_parameter n) (t.comma_list (t.communicator x m) more) rest);
    follows = λ rest o. (refl, (comma_list_over rest o, tt));
  }
  parameters_chosen (t.parameters (t.comma_list (t.text_pointers x p q m) more)) g = record {
    choice = (Some w.Char, (t.comma_list (t.text_pointers x p q m) more, tt));
    of = refl;
    fits = (g, tt);
    depth = λ rest. last (deep_comma_list spell_parameter (deep_parameter n) (t.comma_list (t.text_pointers x p q m) more) rest);
    follows = λ rest o. (refl, (comma_list_over rest o, tt));
  }
  parameters_chosen (t.parameters (t.comma_list (t.text_array x p m o c) more)) g = record {
    choice = (Some w.Char, (t.comma_list (t.text_array x p m o c) more, tt));
    of = refl;
    fits = (g, tt);
    depth = λ rest. last (deep_comma_list spell_parameter (deep_parameter n) (t.comma_list (t.text_array x p m o c) more) rest);
    follows = λ rest o. (refl, (comma_list_over rest o, tt));
  }

  parameters_laws : Laws (λ ts. parameters_by index ts (first_of ts)) spell_parameters AreParameters (deep_parameters n) Closed
  parameters_laws = laws_of (switch parameters_seq) (λ ts. parameters_runs (first_of ts) ts) (λ c rest. parameters_spelling c.0 c.1 rest) (λ c g. parameters_good c.0 c.1 g) parameters_chosen

  pub head_laws : Laws (read_head index) spell_head IsHead (deep_head n) (λ h rest. Unit {0})
  unfolding read_head
  head_laws = laws_of
      (pick is_result w.Int refl (λ s. token w.Name (λ name. token w.OpenParen (λ o. part parameters_laws (λ listed. token w.CloseParen (λ c.
      done (record { result = s.symbol; at = s.span; name = name; opening = o; listed = listed; closing = c })))))))
      (λ ts. refl) (λ c rest. refl) (λ c g. (g.0, g.1.0))
      (λ h g. record {
        choice = (at h.result h.at, (h.name, (h.opening, (h.listed, (h.closing, tt)))));
        of = refl;
        fits = (g.0, (g.1, tt));
        depth = λ rest. last (deep_parameters n h.listed (at w.CloseParen h.closing ∷ rest));
        follows = λ rest o. (refl, tt);
      })

-- as many of one symbol
opens_laws : Laws (many (is w.OpenParen) (expect w.OpenParen)) (spell_list (spell_symbol w.OpenParen)) (AreAll (λ p. Unit {0}))
    (deep_list (spell_symbol w.OpenParen) (λ p rest. None)) (λ list rest. OverMany {A = Span} (is w.OpenParen) (λ p. Unit {0}) (λ p rest. Unit {0}) rest)
opens_laws = many_laws (expect_laws w.OpenParen) (is w.OpenParen) (λ p g rest. refl) (λ p q g h rest. tt)

minus_laws : Laws (maybe (is w.Minus) (expect w.Minus)) (spell_maybe (spell_symbol w.Minus)) (IsMaybe (λ p. Unit {0})) (deep_maybe (λ p rest. None)) (OverMaybe (is w.Minus) (λ p rest. Unit {0}))
minus_laws = maybe_laws (expect_laws w.Minus) (is w.Minus) (λ p g rest. refl)

abbrev value_seq : Seq t.Value
value_seq = part opens_laws (λ opens. part minus_laws (λ minus. token w.Number (λ number. part (times_laws (expect_laws w.CloseParen) (length opens)) (λ closes.
    done (record { opens = opens; minus = minus; number = number; closes = closes })))))

all_fit : (list : List Span) → AreAll (λ p. Unit {0}) list
all_fit [] = tt
all_fit (p ∷ ps) = (tt, all_fit ps)

all_silent : (x : Symbol) (list : List Span) (rest : List Terminal) (d : Option (List Terminal)) → earlier (deep_list (spell_symbol x) (λ p rest. None) list rest) d ≡ d
all_silent x [] rest d = refl
all_silent x (p ∷ ps) rest d = all_silent x ps rest d

minus_silent : (o : Option Span) (rest : List Terminal) (d : Option (List Terminal)) → earlier (deep_maybe (λ p rest. None) o rest) d ≡ d
minus_silent None rest d = refl
minus_silent (Some p) rest d = refl

minus_fits : (o : Option Span) → IsMaybe (λ p. Unit {0}) o
minus_fits None = tt
minus_fits (Some p) = tt

minus_over : (o : Option Span) (p : Span) (rest : List Terminal) → OverMaybe (is w.Minus) (λ p rest. Unit {0}) o (at w.Number p ∷ rest)
minus_over None p rest = refl
minus_over (Some m) p rest = tt

minus_first : (o : Option Span) (p : Span) (rest : List Terminal) → heads (is w.OpenParen) (spell_maybe (spell_symbol w.Minus) o (at w.Number p ∷ rest)) ≡ false
minus_first None p rest = refl
minus_first (Some m) p rest = refl

value_laws : Laws read_value spell_value IsValue (λ v rest. None) (λ v rest. Unit {0})
unfolding read_value
value_laws = laws_of value_seq (λ ts. refl) (λ c rest. refl) (λ c g. g.1.1.0.0)
    (λ v g. record {
      choice = (v.opens, (v.minus, (v.number, (v.closes, tt))));
      of = refl;
      fits = (all_fit v.opens, (minus_fits v.minus, ((g, all_fit v.closes), tt)));
      depth = λ rest. all_silent w.OpenParen v.opens _ _ ∙ minus_silent v.minus _ _ ∙ all_silent w.CloseParen v.closes rest None;
      follows = λ rest o. ((minus_first v.minus v.number _, λ p h. tt), (minus_over v.minus v.number _, (tt, tt)));
    })

module _ (index : List Terminal → Answer t.Expr) (li : ExprLaws 63 index) (parts : List Terminal → Answer t.Part) (lp : PartLaws 64 parts) where
  abbrev define_seq : Seq t.ExternalDeclaration
  define_seq = token w.Define (λ x. token w.Name (λ name. part value_laws (λ v. token w.EndLine (λ e. done (t.define x name v e)))))

  abbrev prototype_seq : t.Head → Seq t.ExternalDeclaration
  prototype_seq h = token w.Semicolon (λ p. done (t.prototype h p))

  abbrev body_seq : t.Head → Bool → Seq t.ExternalDeclaration
  body_seq h true = token w.OpenBrace (λ o. part (parts_laws 64 parts lp) (λ ps. token w.CloseBrace (λ c. done (t.function h o (parts_from ps) c))))
  body_seq h false = refused (prototype_seq h)

  body_runs : (h : t.Head) (b : Bool) (ts : List Terminal) → read_body parts h b ts ≡ run (body_seq h b) ts
  body_runs h true ts = refl
  body_runs h false ts = refl

  body_spelling : (h : t.Head) (b : Bool) (c : Choice (body_seq h b)) (rest : List Terminal) → spell_external (tree (body_seq h b) c) rest ≡ spell_head h (spells (body_seq h b) c rest)
  body_spelling h true c rest = ap (λ z. spell_head h (at w.OpenBrace c.0 ∷ z)) (parts_spell c.1.0 (at w.CloseBrace c.1.1.0 ∷ rest))
  body_spelling h false c rest = refl

  body_good : (h : t.Head) (b : Bool) (c : Choice (body_seq h b)) → all_named h.listed ≡ b → IsHead h → Fits (body_seq h b) c → IsExternal (tree (body_seq h b) c)
  body_good h true c e i g = (i, e, parts_good c.1.0 g.0)
  body_good h false c e i g = i

  -- a function's block, where each parameter has a name
  record Body (h : t.Head) (b : Bool) (o : Span) (ps : t.Parts) (c : Span) : Type 0 where
    choice : Choice (body_seq h b)
    of : tree (body_seq h b) choice ≡ t.function h o ps c
    fits : Fits (body_seq h b) choice
    spelled : (rest : List Terminal) → spells (body_seq h b) choice rest ≡ at w.OpenBrace o ∷ spell_parts ps (at w.CloseBrace c ∷ rest)
    depth : (rest : List Terminal) → depths (body_seq h b) choice rest ≡ deep_parts 64 ps (at w.CloseBrace c ∷ rest)
    follows : (rest : List Terminal) → Follows (body_seq h b) choice rest

  body : (h : t.Head) (b : Bool) (o : Span) (ps : t.Parts) (c : Span) → b ≡ true → AreParts ps → Body h b o ps c
  body h false o ps c e g = absurd (cc)
  body h true o ps c e g = record {
    choice = (o, (parts_list ps, (c, tt)));
    of = ap (λ z. t.function h o z c) (parts_back ps);
    fits = (parts_all ps g, tt);
    spelled = λ rest. ap (λ z. at w.OpenBrace o ∷ z) (list_spell ps (at w.CloseBrace c ∷ rest));
    depth = λ rest. last (deep_list spell_part (deep_part 64) (parts_list ps) (at w.CloseBrace c ∷ rest)) ∙ parts_deep 64 ps (at w.CloseBrace c ∷ rest);
    follows = λ rest. ((refl, λ p k. refl), tt);
  }

  abbrev behind_head : t.Head → Seq t.ExternalDeclaration
  behind_head h = peek (is w.OpenBrace) (body_seq h (all_named h.listed)) (prototype_seq h)

  abbrev external_seq : Seq t.ExternalDeclaration
  external_seq = peek (is w.Define) define_seq (part (head_laws 63 index li) behind_head)

  tail_runs : (h : t.Head) (ts : List Terminal) → head_tail parts h ts ≡ run (behind_head h) ts
  tail_runs h ts = ap (λ z. if heads (is w.OpenBrace) ts then z else run (prototype_seq h) ts) (body_runs h (all_named h.listed) ts)

  external_runs : (ts : List Terminal) → external_with index parts ts ≡ run external_seq ts
  unfolding external_with
  external_runs ts = ap (λ (f : t.Head × List Terminal → Answer t.ExternalDeclaration). if heads (is w.Define) ts then run define_seq ts else (read_head index ts >>= f)) (fun_ext (λ (h : t.Head × List Terminal). tail_runs h.0 h.1))

  external_spelling : (c : Choice external_seq) (rest : List Terminal) → spell_external (tree external_seq c) rest ≡ spells external_seq c rest
  external_spelling (inl c) rest = refl
  external_spelling (inr (h, inl c)) rest = body_spelling h (all_named h.listed) c rest
  external_spelling (inr (h, inr c)) rest = refl

  external_good : (c : Choice external_seq) → Fits external_seq c → IsExternal (tree external_seq c)
  external_good (inl c) g = g.0
  external_good (inr (h, inl c)) g = body_good h (all_named h.listed) c refl g.0 g.1
  external_good (inr (h, inr c)) g = g.0

  external_chosen : (p : t.ExternalDeclaration) → IsExternal p → Chosen external_seq deep_external (λ p rest. Unit {0}) p
  external_chosen (t.define x name v e) g = record { choice = inl (x, (name, (v, (e, tt)))); of = refl; fits = (g, tt); depth = λ rest. refl; follows = λ rest o. (refl, (tt, tt)) }
  external_chosen (t.function h o ps c) g =
      let k = body h (all_named h.listed) o ps c g.1 g.2 in
      record {
        choice = inr (h, inl k.choice);
        of = k.of;
        fits = (g.0, k.fits);
        depth = λ rest. ap (λ z. earlier (deep_head 63 h z) (depths (body_seq h (all_named h.listed)) k.choice rest)) (k.spelled rest)
            ∙ ap (λ z. earlier (deep_head 63 h (at w.OpenBrace o ∷ spell_parts ps (at w.CloseBrace c ∷ rest))) z) (k.depth rest);
        follows = λ rest u. (symbol_isnt is_result w.Define h.result g.0.0 refl, (tt, (ap (λ z. heads (is w.OpenBrace) z) (k.spelled rest), k.follows rest)));
      }
  external_chosen (t.prototype h p) g = record {
    choice = inr (h, inr (p, tt));
    of = refl;
    fits = (g, tt);
    depth = λ rest. last (deep_head 63 h (at w.Semicolon p ∷ rest));
    follows = λ rest o. (symbol_isnt is_result w.Define h.result g.0 refl, (tt, (refl, tt)));
  }

  pub external_laws : Laws (external_with index parts) spell_external IsExternal deep_external (λ p rest. Unit {0})
  external_laws = laws_of external_seq external_runs external_spelling external_good external_chosen

pub external_of_laws : Laws read_external spell_external IsExternal deep_external (λ p rest. Unit {0})
external_of_laws = external_laws (expr_at 63 true) (expr_laws 63).full (part_at 64) (stmts_laws 64).part

pub external_starts : (p : t.ExternalDeclaration) → IsExternal p → (rest : List Terminal) → heads (λ x. true) (spell_external p rest) ≡ true
external_starts (t.define x name v e) g rest = refl
external_starts (t.function h o ps c) g rest = refl
external_starts (t.prototype h p) g rest = refl

pub program_laws : Laws read_whole_text spell_tree AreExternals deep_tree (λ externals rest. OverMany {A = t.ExternalDeclaration} (λ x. true) IsExternal (λ p rest. Unit {0}) rest)
unfolding read_whole_text
program_laws = many_laws external_of_laws (λ x. true) external_starts (λ p q g h rest. tt)

-- a program is read to its end
pub program_ends : (ts : List Terminal) (y : t.Tree × List Terminal) → read_whole_text ts ≡ Ok y → y.1 ≡ []
unfolding read_whole_text
program_ends ts y h = turns_end external_of_laws external_starts (length ts) ts y (omega arith) h
