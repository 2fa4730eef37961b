-- What the readers of calls, right sides, simple statements and declarations keep.
use Rattle.std.proofs.Common.{◌≡◌, inl, inr, Bool, true, false, ℕ, suc, ◌<◌, List, [], ◌∷◌, Option, Some, None, refl, sym, ap, ◌∙◌, arith, if◌then◌else◌}
use Rattle.c_grammar.specs.declared.terminal.Symbol.{Symbol}
use Rattle.c_grammar.specs.declared.terminal.Symbol.TheVariants as w
use Rattle.c_grammar.specs.declared.terminal.Span.{Span}
use Rattle.c_grammar.specs.declared.terminal.Terminal.{Terminal}
use Rattle.c_grammar.specs.Tree as t
use Rattle.c_grammar.specs.Symbols.{level_of, is, isnt, is_sign, is_assign, is_step, is_kind, starts_expr}
use Rattle.c_grammar.specs.Grammar.{at, spell, spell_place, spell_links, IsExpr, AreLinks, earlier, deep, deep_place}
use Rattle.c_grammar.specs.StmtGrammar.{spell_maybe, IsMaybe, spell_comma_list, IsCommaList, spell_argument, IsArgument, spell_call, IsCall, spell_right, IsRight, spell_simple, IsSimple, spell_initial, IsInitializer, spell_item, IsItem, spell_declaration, IsDeclaration, spell_start, IsForStart}
use Rattle.c_grammar.specs.Depth.{deep_maybe, deep_comma_list, deep_argument, deep_call, deep_right, deep_simple, deep_initial, deep_item, deep_declaration, deep_start}
use Rattle.c_grammar.specs.Reading.{Answer, first_of, heads, maybe}
use Rattle.c_grammar.specs.StmtReading.{read_comma_list, argument_by, read_argument, read_call, calls, read_right, read_change, read_simple, read_initial, read_declarator, read_declaration, read_for_start}
use Rattle.c_grammar.proofs.Local.{test_cases}
use Rattle.c_grammar.proofs.Laws.{Laws, last, is_symbol, not_both}
use Rattle.c_grammar.proofs.Sequence.{Seq, done, token, pick, part, peek, run, Choice, tree, spells, Fits, Chosen, laws_of}
use Rattle.c_grammar.proofs.Lists.{maybe_laws, comma_list_laws, OverMaybe, OverCommaList}
use Rattle.c_grammar.proofs.ExprLaws.{ExprLaws, Over, strength, over_isnt, place_laws, expr_starts}
use Rattle.c_grammar.proofs.Fork.{Takes, token_takes, part_takes, place_takes, Forked, call, other, fork_laws}

pub symbol_isnt : (test : Symbol → Bool) (y x : Symbol) → test x ≡ true → test y ≡ false → is y x ≡ false
symbol_isnt test y x h k = elim (test_cases (is y x)) [ inl e ↦ not_both (test y) (sym (ap test (is_symbol y x e)) ∙ h) k | inr e ↦ e ]

pub heads_isnt : (test : Symbol → Bool) (y : Symbol) (ts : List Terminal) → heads test ts ≡ true → test y ≡ false → heads (is y) ts ≡ false
heads_isnt test y [] h k = refl
heads_isnt test y (t ∷ ts) h k = symbol_isnt test y t.symbol h k

pub heads_other : (test : Symbol → Bool) (y : Symbol) (ts : List Terminal) → heads test ts ≡ true → test y ≡ false → heads (isnt y) ts ≡ true
heads_other test y [] h k = absurd (cc)
heads_other test y (t ∷ ts) h k = rw (symbol_isnt test y t.symbol h k) refl

pub heads_implies : (test also : Symbol → Bool) (b : Bool) → ((x : Symbol) → test x ≡ true → also x ≡ b) → (ts : List Terminal) → heads test ts ≡ true → heads also ts ≡ b
heads_implies test also b h [] k = absurd (cc)
heads_implies test also b h (t ∷ ts) k = h t.symbol k

pub at_heads : (test : Symbol → Bool) (x : Symbol) (rest : List Terminal) → first_of rest ≡ Some x → heads test rest ≡ test x
at_heads test x [] h = absurd (cc)
at_heads test x (t ∷ ts) h = let e : t.symbol ≡ x = cc in ap test e

pub at_over : (k : ℕ) (x : Symbol) (rest : List Terminal) → k < strength x → first_of rest ≡ Some x → Over k rest
at_over k x [] l h = absurd (cc)
at_over k x (t ∷ ts) l h = let e : t.symbol ≡ x = cc in let s = ap strength e in omega arith

links_no_call : (k : ℕ) (ls : t.Links) (rest : List Terminal) → AreLinks k ls → 0 < k → heads (is w.OpenParen) rest ≡ false → heads (is w.OpenParen) (spell_links ls rest) ≡ false
links_no_call k t.no_link rest g l h = h
links_no_call k (t.link x p e ls) rest g l h = elim (test_cases (is w.OpenParen x)) [ inl q ↦ absurd (let z = ap level_of (is_symbol w.OpenParen x q) in omega (arith, g.0)) | inr q ↦ q ]

pub no_call : (e : t.Expr) (rest : List Terminal) → IsExpr e → heads (is w.OpenParen) rest ≡ false → calls (spell e rest) ≡ false
no_call (t.number p) rest g h = refl
no_call (t.read (t.whole m)) rest g h = rw h refl
no_call (t.read (t.cell m p e q)) rest g h = refl
no_call (t.field (t.whole m) p q) rest g h = refl
no_call (t.field (t.cell m o e c) p q) rest g h = refl
no_call (t.paren p e q) rest g h = refl
no_call (t.unary x p e) rest g h = rw (symbol_isnt is_sign w.Name x g.0 refl) refl
no_call (t.chain k e ls) rest g h = no_call e (spell_links ls rest) g.3 (links_no_call k ls rest g.5 g.0 h)
no_call (t.choice c p a q b) rest g h = no_call c _ g.1 refl

pub place_first : (p : t.Place) (rest : List Terminal) → first_of (spell_place p rest) ≡ Some w.Name
place_first (t.whole m) rest = refl
place_first (t.cell m p e q) rest = refl

place_no_call : (p : t.Place) (rest : List Terminal) → heads (is w.OpenParen) rest ≡ false → calls (spell_place p rest) ≡ false
place_no_call (t.whole m) rest h = rw h refl
place_no_call (t.cell m p e q) rest h = refl

assign_step : (x : Symbol) → is_assign x ≡ true → is_step x ≡ false
assign_step w.Increment h = absurd (cc)
assign_step w.Decrement h = absurd (cc)
assign_step _ h = refl

-- what may begin a simple statement
abbrev pub starts_simple : Symbol → Bool
starts_simple w.Name = true
starts_simple w.Increment = true
starts_simple w.Decrement = true
starts_simple _ = false

pub step_starts : (x : Symbol) → is_step x ≡ true → starts_simple x ≡ true
step_starts w.Increment h = refl
step_starts w.Decrement h = refl
step_starts _ h = absurd (cc)

pub simple_starts : (s : t.Simple) → IsSimple s → (rest : List Terminal) → heads starts_simple (spell_simple s rest) ≡ true
simple_starts (t.assign place x p r) g rest = at_heads starts_simple w.Name _ (place_first place _)
simple_starts (t.after place x p) g rest = at_heads starts_simple w.Name _ (place_first place _)
simple_starts (t.before x p place) g rest = step_starts x g.0
simple_starts (t.invoke c) g rest = refl

pub right_starts : (r : t.Right) → IsRight r → (rest : List Terminal) → heads starts_expr (spell_right r rest) ≡ true
right_starts (t.called c) g rest = refl
right_starts (t.valued e) g rest = expr_starts e g rest

arguments_start : (r : t.CommaList t.Argument) → IsCommaList IsArgument r → (rest : List Terminal) → heads (isnt w.CloseParen) (spell_comma_list spell_argument r rest) ≡ true
arguments_start (t.comma_list (t.text p) more) g rest = refl
arguments_start (t.comma_list (t.address p place) more) g rest = refl
arguments_start (t.comma_list (t.value e) more) g rest = heads_other starts_expr w.CloseParen (spell e _) (expr_starts e g.0 _) refl

module _ (n : ℕ) (expr index : List Terminal → Answer t.Expr) (le : ExprLaws (suc n) expr) (li : ExprLaws n index) (te : Takes expr) where
  abbrev text_seq : Seq t.Argument
  text_seq = token w.Text (λ p. done (t.text p))

  abbrev address_seq : Seq t.Argument
  address_seq = token w.And (λ p. part (place_laws n index li) (λ place. done (t.address p place)))

  abbrev value_seq : Seq t.Argument
  value_seq = part le (λ e. done (t.value e))

  abbrev argument_seq : Seq t.Argument
  argument_seq = peek (is w.Text) text_seq (peek (is w.And) address_seq value_seq)

  argument_runs : (ts : List Terminal) → argument_by expr index ts (first_of ts) ≡ run argument_seq ts
  argument_runs [] = refl
  argument_runs (t ∷ ts) = go t.symbol
    where
      go : (x : Symbol)
          → argument_by expr index (t ∷ ts) (Some x) ≡ (if is w.Text x then run text_seq (t ∷ ts) else (if is w.And x then run address_seq (t ∷ ts) else run value_seq (t ∷ ts)))
      go w.Text = refl
      go w.And = refl
      go _ = refl

  argument_spelling : (c : Choice argument_seq) (rest : List Terminal) → spell_argument (tree argument_seq c) rest ≡ spells argument_seq c rest
  argument_spelling (inl c) rest = refl
  argument_spelling (inr (inl c)) rest = refl
  argument_spelling (inr (inr c)) rest = refl

  argument_good : (c : Choice argument_seq) → Fits argument_seq c → IsArgument (tree argument_seq c)
  argument_good (inl c) g = tt
  argument_good (inr (inl c)) g = g.0
  argument_good (inr (inr c)) g = g.0

  argument_chosen : (a : t.Argument) → IsArgument a → Chosen argument_seq (deep_argument n) (λ a rest. Over 11 rest) a
  argument_chosen (t.text p) g = record { choice = inl (p, tt); of = refl; fits = tt; depth = λ rest. refl; follows = λ rest o. (refl, tt) }
  argument_chosen (t.address p place) g = record {
    choice = inr (inl (p, (place, tt)));
    of = refl;
    fits = (g, tt);
    depth = λ rest. last (deep_place n place rest);
    follows = λ rest o. (refl, (refl, (over_isnt w.OpenBracket 11 rest (omega arith) o, tt)));
  }
  argument_chosen (t.value e) g = record {
    choice = inr (inr (e, tt));
    of = refl;
    fits = (g, tt);
    depth = λ rest. last (deep (suc n) e rest);
    follows = λ rest o. (heads_isnt starts_expr w.Text (spell e rest) (expr_starts e g rest) refl, (heads_isnt starts_expr w.And (spell e rest) (expr_starts e g rest) refl, (o, tt)));
  }

  pub argument_laws : Laws (read_argument expr index) spell_argument IsArgument (deep_argument n) (λ a rest. Over 11 rest)
  unfolding read_argument
  argument_laws = laws_of argument_seq argument_runs argument_spelling argument_good argument_chosen

  arguments_laws : Laws (read_comma_list (read_argument expr index)) (spell_comma_list spell_argument) (IsCommaList IsArgument) (deep_comma_list spell_argument (deep_argument n)) (OverCommaList IsArgument (λ a rest. Over 11 rest))
  arguments_laws = comma_list_laws argument_laws (λ a p rest g. omega arith)

  given_laws : Laws (maybe (isnt w.CloseParen) (read_comma_list (read_argument expr index))) (spell_maybe (spell_comma_list spell_argument))
      (IsMaybe (IsCommaList IsArgument)) (deep_maybe (deep_comma_list spell_argument (deep_argument n))) (OverMaybe (isnt w.CloseParen) (OverCommaList IsArgument (λ a rest. Over 11 rest)))
  given_laws = maybe_laws arguments_laws (isnt w.CloseParen) arguments_start

  abbrev call_behind : Span → Seq t.WrittenCall
  call_behind name = token w.OpenParen (λ o. part given_laws (λ given. token w.CloseParen (λ c. done (record { name = name; opening = o; arguments = given; closing = c }))))

  given_over : (o : Option (t.CommaList t.Argument)) (c : Span) (rest : List Terminal)
      → OverMaybe (isnt w.CloseParen) (OverCommaList IsArgument (λ a rest. Over 11 rest)) o (at w.CloseParen c ∷ rest)
  given_over None c rest = refl
  given_over (Some r) c rest = (refl, λ a h. omega arith)

  pub call_laws : Laws (read_call expr index) spell_call IsCall (deep_call n) (λ c rest. Unit {0})
  unfolding read_call
  call_laws = laws_of (token w.Name call_behind) (λ ts. refl) (λ c rest. refl) (λ c g. g.0)
      (λ c g. record {
        choice = (c.name, (c.opening, (c.arguments, (c.closing, tt))));
        of = refl;
        fits = (g, tt);
        depth = λ rest. last (deep_maybe (deep_comma_list spell_argument (deep_argument n)) c.arguments (at w.CloseParen c.closing ∷ rest));
        follows = λ rest o. (given_over c.arguments c.closing rest, tt);
      })

  call_takes : Takes (read_call expr index)
  unfolding read_call
  call_takes = token_takes call_behind

  abbrev called_behind : t.WrittenCall → Seq t.Right
  called_behind c = done (t.called c)

  abbrev valued_behind : t.Expr → Seq t.Right
  valued_behind e = done (t.valued e)

  right_chosen : (r : t.Right) → IsRight r → Forked (part call_laws called_behind) (part le valued_behind) spell_right (deep_right n) (λ r rest. Over 11 rest) r
  right_chosen (t.called c) g = call (record {
    choice = (c, tt);
    of = refl;
    fits = (g, tt);
    depth = λ rest. last (deep_call n c rest);
    follows = λ rest o. (tt, tt);
  }) (λ rest o. refl)
  right_chosen (t.valued e) g = other (record { choice = (e, tt); of = refl; fits = (g, tt); depth = λ rest. last (deep (suc n) e rest); follows = λ rest o. (o, tt) })
      (λ rest o. no_call e rest g (over_isnt w.OpenParen 11 rest (omega arith) o))

  pub right_laws : Laws (read_right expr index) spell_right IsRight (deep_right n) (λ r rest. Over 11 rest)
  unfolding read_right
  right_laws = fork_laws (part call_laws called_behind) (part le valued_behind) (λ ts. refl) (part_takes call_laws called_behind call_takes) (part_takes le valued_behind te)
      (λ c rest. refl) (λ c rest. refl) (λ c g. g.0) (λ c g. g.0) right_chosen

  abbrev before_seq : Seq t.Simple
  before_seq = pick is_step w.Increment refl (λ s. part (place_laws n index li) (λ place. done (t.before s.symbol s.span place)))

  abbrev after_behind : t.Place → Seq t.Simple
  after_behind place = peek is_step (pick is_step w.Increment refl (λ s. done (t.after place s.symbol s.span))) (pick is_assign w.Assign refl (λ s. part right_laws (λ r. done (t.assign place s.symbol s.span r))))

  abbrev change_seq : Seq t.Simple
  change_seq = peek is_step before_seq (part (place_laws n index li) after_behind)

  change_takes : Takes (run change_seq)
  change_takes t ts h =
      let e : is_step t.symbol ≡ false = ap is_step h in
      rw e (part_takes (place_laws n index li) after_behind (place_takes n index li) t ts h)

  change_spelling : (c : Choice change_seq) (rest : List Terminal) → spell_simple (tree change_seq c) rest ≡ spells change_seq c rest
  change_spelling (inl c) rest = refl
  change_spelling (inr (p, inl c)) rest = refl
  change_spelling (inr (p, inr c)) rest = refl

  change_good : (c : Choice change_seq) → Fits change_seq c → IsSimple (tree change_seq c)
  change_good (inl c) g = (g.0, g.1.0)
  change_good (inr (p, inl c)) g = (g.0, g.1.0)
  change_good (inr (p, inr c)) g = (g.0, g.1.0, g.1.1.0)

  abbrev invoke_behind : t.WrittenCall → Seq t.Simple
  invoke_behind c = done (t.invoke c)

  step_no_call : (x : Symbol) → is_step x ≡ true → is w.Name x ≡ false
  step_no_call x h = symbol_isnt is_step w.Name x h refl

  simple_chosen : (s : t.Simple) → IsSimple s → Forked (part call_laws invoke_behind) change_seq spell_simple (deep_simple n) (λ s rest. Over 11 rest) s
  simple_chosen (t.assign place x p r) g = other
      (record {
        choice = inr (place, inr (at x p, (r, tt)));
        of = refl;
        fits = (g.0, (g.1, (g.2, tt)));
        depth = λ rest. ap (λ z. earlier (deep_place n place (at x p ∷ spell_right r rest)) z) (last (deep_right n r rest));
        follows = λ rest o. (at_heads is_step w.Name _ (place_first place (at x p ∷ spell_right r rest)), (symbol_isnt is_assign w.OpenBracket x g.1 refl, (assign_step x g.1, (o, tt))));
      })
      (λ rest o. place_no_call place (at x p ∷ spell_right r rest) (symbol_isnt is_assign w.OpenParen x g.1 refl))
  simple_chosen (t.after place x p) g = other
      (record {
        choice = inr (place, inl (at x p, tt));
        of = refl;
        fits = (g.0, (g.1, tt));
        depth = λ rest. last (deep_place n place (at x p ∷ rest));
        follows = λ rest o. (at_heads is_step w.Name _ (place_first place (at x p ∷ rest)), (symbol_isnt is_step w.OpenBracket x g.1 refl, (g.1, tt)));
      })
      (λ rest o. place_no_call place (at x p ∷ rest) (symbol_isnt is_step w.OpenParen x g.1 refl))
  simple_chosen (t.before x p place) g = other
      (record {
        choice = inl (at x p, (place, tt));
        of = refl;
        fits = (g.0, (g.1, tt));
        depth = λ rest. last (deep_place n place rest);
        follows = λ rest o. (g.0, (over_isnt w.OpenBracket 11 rest (omega arith) o, tt));
      })
      (λ rest o. rw (step_no_call x g.0) refl)
  simple_chosen (t.invoke c) g = call (record {
    choice = (c, tt);
    of = refl;
    fits = (g, tt);
    depth = λ rest. last (deep_call n c rest);
    follows = λ rest o. (tt, tt);
  }) (λ rest o. refl)

  pub simple_laws : Laws (read_simple expr index) spell_simple IsSimple (deep_simple n) (λ s rest. Over 11 rest)
  unfolding read_simple read_change
  simple_laws = fork_laws (part call_laws invoke_behind) change_seq (λ ts. refl) (part_takes call_laws invoke_behind call_takes) change_takes
      (λ c rest. refl) change_spelling (λ c g. g.0) change_good simple_chosen

  values_laws : Laws (read_comma_list expr) (spell_comma_list spell) (IsCommaList IsExpr) (deep_comma_list spell (deep (suc n))) (OverCommaList IsExpr (λ e rest. Over 11 rest))
  values_laws = comma_list_laws le (λ a p rest g. omega arith)

  abbrev initial_behind : Span → Seq t.Initializer
  initial_behind mark = peek (is w.OpenBrace) (token w.OpenBrace (λ o. part values_laws (λ values. token w.CloseBrace (λ c. done (t.braced mark o values c))))) (part right_laws (λ r. done (t.begun mark r)))

  initial_spelling : (c : Choice (token w.Assign initial_behind)) (rest : List Terminal)
      → spell_initial (tree (token w.Assign initial_behind) c) rest ≡ spells (token w.Assign initial_behind) c rest
  initial_spelling (p, inl c) rest = refl
  initial_spelling (p, inr c) rest = refl

  initial_good : (c : Choice (token w.Assign initial_behind)) → Fits (token w.Assign initial_behind) c → IsInitializer (tree (token w.Assign initial_behind) c)
  initial_good (p, inl c) g = g.0
  initial_good (p, inr c) g = g.0

  initial_chosen : (i : t.Initializer) → IsInitializer i → Chosen (token w.Assign initial_behind) (deep_initial n) (λ i rest. Over 11 rest) i
  initial_chosen (t.begun p r) g = record {
    choice = (p, inr (r, tt));
    of = refl;
    fits = (g, tt);
    depth = λ rest. last (deep_right n r rest);
    follows = λ rest o. (heads_isnt starts_expr w.OpenBrace (spell_right r rest) (right_starts r g rest) refl, (o, tt));
  }
  initial_chosen (t.braced p o values c) g = record {
    choice = (p, inl (o, (values, (c, tt))));
    of = refl;
    fits = (g, tt);
    depth = λ rest. last (deep_comma_list spell (deep (suc n)) values (at w.CloseBrace c ∷ rest));
    follows = λ rest h. (refl, ((refl, λ a k. omega arith), tt));
  }

  initial_laws : Laws (read_initial expr index) spell_initial IsInitializer (deep_initial n) (λ i rest. Over 11 rest)
  unfolding read_initial
  initial_laws = laws_of (token w.Assign initial_behind) (λ ts. refl) initial_spelling initial_good initial_chosen

  initial_starts : (i : t.Initializer) → IsInitializer i → (rest : List Terminal) → heads (is w.Assign) (spell_initial i rest) ≡ true
  initial_starts (t.begun p r) g rest = refl
  initial_starts (t.braced p o values c) g rest = refl

  abbrev item_behind : t.Place → Seq t.InitDeclarator
  item_behind place = part (maybe_laws initial_laws (is w.Assign) initial_starts) (λ initial. done (record { place = place; initial = initial }))

  item_over : (i : Option t.Initializer) (rest : List Terminal) → Over 11 rest
      → (heads (is w.OpenBracket) (spell_maybe spell_initial i rest) ≡ false) × OverMaybe (is w.Assign) (λ i rest. Over 11 rest) i rest
  item_over None rest o = (over_isnt w.OpenBracket 11 rest (omega arith) o, over_isnt w.Assign 11 rest (omega arith) o)
  item_over (Some (t.begun p r)) rest o = (refl, o)
  item_over (Some (t.braced p q values c)) rest o = (refl, o)

  pub item_laws : Laws (read_declarator expr index) spell_item IsItem (deep_item n) (λ i rest. Over 11 rest)
  unfolding read_declarator
  item_laws = laws_of (part (place_laws n index li) item_behind) (λ ts. refl) (λ c rest. refl) (λ c g. (g.0, g.1.0))
      (λ i g. record {
        choice = (i.place, (i.initial, tt));
        of = refl;
        fits = (g.0, (g.1, tt));
        depth = λ rest. ap (λ z. earlier (deep_place n i.place (spell_maybe spell_initial i.initial rest)) z) (last (deep_maybe (deep_initial n) i.initial rest));
        follows = λ rest o. let h = item_over i.initial rest o in (h.0, (h.1, tt));
      })

  items_laws : Laws (read_comma_list (read_declarator expr index)) (spell_comma_list spell_item) (IsCommaList IsItem) (deep_comma_list spell_item (deep_item n)) (OverCommaList IsItem (λ i rest. Over 11 rest))
  items_laws = comma_list_laws item_laws (λ a p rest g. omega arith)

  -- a declaration stands before its `;`
  pub declaration_laws : Laws (read_declaration expr index) spell_declaration IsDeclaration (deep_declaration n) (λ d rest. first_of rest ≡ Some w.Semicolon)
  unfolding read_declaration
  declaration_laws = laws_of (pick is_kind w.Int refl (λ s. part items_laws (λ items. done (record {
    kind = s.symbol;
    at = s.span;
    items = items;
  })))) (λ ts. refl) (λ c rest. refl) (λ c g. (g.0, g.1.0))
      (λ d g. record {
        choice = (at d.kind d.at, (d.items, tt));
        of = refl;
        fits = (g.0, (g.1, tt));
        depth = λ rest. last (deep_comma_list spell_item (deep_item n) d.items rest);
        follows = λ rest o. ((at_heads (is w.Comma) w.Semicolon rest o, λ a k. at_over 11 w.Semicolon rest (omega arith) o), tt);
      })

  abbrev start_seq : Seq t.ForStart
  start_seq = peek (is w.Semicolon) (done t.no_start) (peek is_kind (part declaration_laws (λ d. done (t.declared_start d))) (part simple_laws (λ s. done (t.simple_start s))))

  start_spelling : (c : Choice start_seq) (rest : List Terminal) → spell_start (tree start_seq c) rest ≡ spells start_seq c rest
  start_spelling (inl c) rest = refl
  start_spelling (inr (inl c)) rest = refl
  start_spelling (inr (inr c)) rest = refl

  start_good : (c : Choice start_seq) → Fits start_seq c → IsForStart (tree start_seq c)
  start_good (inl c) g = tt
  start_good (inr (inl c)) g = g.0
  start_good (inr (inr c)) g = g.0

  simple_kind : (x : Symbol) → starts_simple x ≡ true → is_kind x ≡ false
  simple_kind w.Name h = refl
  simple_kind w.Increment h = refl
  simple_kind w.Decrement h = refl
  simple_kind _ h = absurd (cc)

  start_chosen : (s : t.ForStart) → IsForStart s → Chosen start_seq (deep_start n) (λ s rest. first_of rest ≡ Some w.Semicolon) s
  start_chosen t.no_start g = record { choice = inl tt; of = refl; fits = tt; depth = λ rest. refl; follows = λ rest o. (at_heads (is w.Semicolon) w.Semicolon rest o, tt) }
  start_chosen (t.declared_start d) g = record {
    choice = inr (inl (d, tt));
    of = refl;
    fits = (g, tt);
    depth = λ rest. last (deep_declaration n d rest);
    follows = λ rest o. (symbol_isnt is_kind w.Semicolon d.kind g.0 refl, (g.0, (o, tt)));
  }
  start_chosen (t.simple_start s) g = record {
    choice = inr (inr (s, tt));
    of = refl;
    fits = (g, tt);
    depth = λ rest. last (deep_simple n s rest);
    follows = λ rest o. (
      heads_isnt starts_simple w.Semicolon (spell_simple s rest) (simple_starts s g rest) refl,
      (heads_implies starts_simple is_kind false simple_kind (spell_simple s rest) (simple_starts s g rest), (at_over 11 w.Semicolon rest (omega arith) o, tt)),
    );
  }

  pub start_laws : Laws (read_for_start expr index) spell_start IsForStart (deep_start n) (λ s rest. first_of rest ≡ Some w.Semicolon)
  unfolding read_for_start
  start_laws = laws_of start_seq (λ ts. refl) start_spelling start_good start_chosen
