-- What the readers of statements keep.
use Rattle.std.proofs.Common.{◌≡◌, inl, inr, true, false, ℕ, zero, suc, List, [], ◌∷◌, Option, Some, None, Ok, refl, sym, ap, ◌∙◌, arith}
use Rattle.c_grammar.specs.declared.terminal.Symbol.{Symbol}
use Rattle.c_grammar.specs.declared.terminal.Symbol.TheVariants as w
use Rattle.c_grammar.specs.declared.terminal.Span.{Span}
use Rattle.c_grammar.specs.declared.terminal.Terminal.{Terminal}
use Rattle.c_grammar.specs.Tree as t
use Rattle.c_grammar.specs.Symbols.{is, isnt, is_kind, starts_expr, starts_stmt, starts_part}
use Rattle.c_grammar.specs.Grammar.{at, spell, IsExpr, earlier, deep}
use Rattle.c_grammar.specs.StmtGrammar.{spell_maybe, IsMaybe, spell_list, AreAll, spell_right, IsRight, spell_simple, IsSimple, spell_stmt, spell_part, spell_parts, ends_open, IsStmt, IsPart, AreParts}
use Rattle.c_grammar.specs.Depth.{deep_maybe, deep_list, deep_right, deep_simple, deep_declaration, deep_start, deep_stmt, deep_part, deep_parts}
use Rattle.c_grammar.specs.StmtView.{parts_from}
use Rattle.c_grammar.specs.Reading.{Answer, first_of, heads, maybe, many, expr_at}
use Rattle.c_grammar.specs.StmtReading.{read_right, read_simple, stmt_by, read_stmt, read_part, part_with, stmt_at, part_at}
use Rattle.c_grammar.proofs.Laws.{Laws, last, not_both, zero_span}
use Rattle.c_grammar.proofs.Sequence.{Seq, done, token, part, split, peek, switch, run, Choice, tree, spells, Fits, Reads, Chosen, laws_of, seq_sound}
use Rattle.c_grammar.proofs.Lists.{maybe_laws, many_laws, OverMaybe, OverMany}
use Rattle.c_grammar.proofs.TooDeep.{too_deep_laws, too_deep_no_ok}
use Rattle.c_grammar.proofs.ExprLaws.{ExprLaws, Over, expr_starts, expr_laws}
use Rattle.c_grammar.proofs.Fork.{Takes, expr_takes}
use Rattle.c_grammar.proofs.Calls.{heads_isnt, heads_other, heads_implies, starts_simple, simple_starts, right_starts, place_first, right_laws, simple_laws, declaration_laws, start_laws}
use Rattle.c_grammar.proofs.Starts.{stmt_starts, stmt_kind, part_starts, stmt_begun, part_begun, OpenOk, Opens}

-- an else after a statement that ends open would be its own
abbrev pub StmtOver : t.Stmt → List Terminal → Type 0
StmtOver s rest = ends_open s ≡ true → heads (is w.Else) rest ≡ false

abbrev pub PartOver : t.Part → List Terminal → Type 0
PartOver p rest = heads (is w.Else) rest ≡ false

abbrev pub StmtLaws : ℕ → (List Terminal → Answer t.Stmt) → Type 0
StmtLaws n reader = Laws reader spell_stmt IsStmt (deep_stmt n) StmtOver

abbrev pub PartLaws : ℕ → (List Terminal → Answer t.Part) → Type 0
PartLaws n reader = Laws reader spell_part IsPart (deep_part n) PartOver

-- the parts of a block as a list
abbrev pub parts_list : t.Parts → List t.Part
parts_list t.no_part = []
parts_list (t.part p ps) = p ∷ parts_list ps

pub parts_back : (ps : t.Parts) → parts_from (parts_list ps) ≡ ps
parts_back t.no_part = refl
parts_back (t.part p ps) = ap (λ z. t.part p z) (parts_back ps)

pub parts_spell : (ps : List t.Part) (rest : List Terminal) → spell_parts (parts_from ps) rest ≡ spell_list spell_part ps rest
parts_spell [] rest = refl
parts_spell (p ∷ ps) rest = ap (λ z. spell_part p z) (parts_spell ps rest)

pub parts_good : (ps : List t.Part) → AreAll IsPart ps → AreParts (parts_from ps)
parts_good [] g = tt
parts_good (p ∷ ps) g = (g.0, parts_good ps g.1)

pub parts_all : (ps : t.Parts) → AreParts ps → AreAll IsPart (parts_list ps)
parts_all t.no_part g = tt
parts_all (t.part p ps) g = (g.0, parts_all ps g.1)

pub list_spell : (ps : t.Parts) (rest : List Terminal) → spell_list spell_part (parts_list ps) rest ≡ spell_parts ps rest
list_spell ps rest = sym (parts_spell (parts_list ps) rest) ∙ ap (λ z. spell_parts z rest) (parts_back ps)

pub parts_deep : (n : ℕ) (ps : t.Parts) (rest : List Terminal) → deep_list spell_part (deep_part n) (parts_list ps) rest ≡ deep_parts n ps rest
parts_deep n t.no_part rest = refl
parts_deep n (t.part p ps) rest =
    ap (λ z. earlier (deep_part n p z) (deep_list spell_part (deep_part n) (parts_list ps) rest)) (list_spell ps rest)
    ∙ ap (λ z. earlier (deep_part n p (spell_parts ps rest)) z) (parts_deep n ps rest)

pub parts_laws : (n : ℕ) (reader : List Terminal → Answer t.Part) → PartLaws n reader
    → Laws (many (isnt w.CloseBrace) reader) (spell_list spell_part) (AreAll IsPart) (deep_list spell_part (deep_part n)) (λ list rest. OverMany (isnt w.CloseBrace) IsPart PartOver rest)
parts_laws n reader l = many_laws l (isnt w.CloseBrace) (λ p g rest. heads_other starts_part w.CloseBrace (spell_part p rest) (part_starts p g rest) refl)
    (λ p q g h rest. heads_isnt starts_part w.Else (spell_part q rest) (part_starts q h rest) refl)

module _ (n : ℕ) (expr index : List Terminal → Answer t.Expr) (le : ExprLaws (suc n) expr) (li : ExprLaws n index) (te : Takes expr)
    (one : List Terminal → Answer t.Stmt) (lo : StmtLaws n one) (opens : Opens one) (parts : List Terminal → Answer t.Part) (lp : PartLaws n parts) where
  value_laws : Laws (maybe (isnt w.Semicolon) (read_right expr index)) (spell_maybe spell_right) (IsMaybe IsRight) (deep_maybe (deep_right n)) (OverMaybe (isnt w.Semicolon) (λ r rest. Over 11 rest))
  value_laws = maybe_laws (right_laws n expr index le li te) (isnt w.Semicolon) (λ r g rest. heads_other starts_expr w.Semicolon (spell_right r rest) (right_starts r g rest) refl)

  test_laws : Laws (maybe (isnt w.Semicolon) expr) (spell_maybe spell) (IsMaybe IsExpr) (deep_maybe (deep (suc n))) (OverMaybe (isnt w.Semicolon) (λ e rest. Over 11 rest))
  test_laws = maybe_laws le (isnt w.Semicolon) (λ e g rest. heads_other starts_expr w.Semicolon (spell e rest) (expr_starts e g rest) refl)

  step_laws : Laws (maybe (isnt w.CloseParen) (read_simple expr index)) (spell_maybe spell_simple) (IsMaybe IsSimple) (deep_maybe (deep_simple n))
      (OverMaybe (isnt w.CloseParen) (λ s rest. Over 11 rest))
  step_laws = maybe_laws (simple_laws n expr index le li te) (isnt w.CloseParen) (λ s g rest. heads_other starts_simple w.CloseParen (spell_simple s rest) (simple_starts s g rest) refl)

  abbrev block_seq : Seq t.Stmt
  block_seq = token w.OpenBrace (λ o. part (parts_laws n parts lp) (λ ps. token w.CloseBrace (λ c. done (t.block o (parts_from ps) c))))

  abbrev if_seq : Seq t.Stmt
  if_seq = token w.If (λ x. token w.OpenParen (λ o. part le (λ e. token w.CloseParen (λ c.
      split lo ends_open w.Else opens (λ s. token w.Else (λ q. part lo (λ r. done (t.if_else x o e c s q r)))) (λ s. done (t.if_only x o e c s))))))

  abbrev while_seq : Seq t.Stmt
  while_seq = token w.While (λ x. token w.OpenParen (λ o. part le (λ e. token w.CloseParen (λ c. part lo (λ s. done (t.while x o e c s))))))

  abbrev do_seq : Seq t.Stmt
  do_seq = token w.Do (λ x. part lo (λ s. token w.While (λ y. token w.OpenParen (λ o. part le (λ e. token w.CloseParen (λ c. token w.Semicolon (λ p. done (t.do_while x s y o e c p))))))))

  abbrev for_seq : Seq t.Stmt
  for_seq = token w.For (λ x. token w.OpenParen (λ o. part (start_laws n expr index le li te) (λ start. token w.Semicolon (λ p. part test_laws (λ test. token w.Semicolon (λ q.
      part step_laws (λ step. token w.CloseParen (λ c. part lo (λ s. done (t.for x o start p test q step c s))))))))))

  abbrev plain_seq : Seq t.Stmt
  plain_seq = part (simple_laws n expr index le li te) (λ s. token w.Semicolon (λ p. done (t.simple s p)))

  abbrev stmt_seq : Option Symbol → Seq t.Stmt
  stmt_seq (Some w.OpenBrace) = block_seq
  stmt_seq (Some w.Semicolon) = token w.Semicolon (λ p. done (t.empty p))
  stmt_seq (Some w.Break) = token w.Break (λ x. token w.Semicolon (λ p. done (t.break x p)))
  stmt_seq (Some w.Continue) = token w.Continue (λ x. token w.Semicolon (λ p. done (t.continue x p)))
  stmt_seq (Some w.Return) = token w.Return (λ x. part value_laws (λ r. token w.Semicolon (λ p. done (t.return x r p))))
  stmt_seq (Some w.If) = if_seq
  stmt_seq (Some w.While) = while_seq
  stmt_seq (Some w.Do) = do_seq
  stmt_seq (Some w.For) = for_seq
  stmt_seq _ = plain_seq

  stmt_runs : (o : Option Symbol) (ts : List Terminal) → stmt_by expr index one parts ts o ≡ run (stmt_seq o) ts
  stmt_runs (Some w.OpenBrace) ts = refl
  stmt_runs (Some w.Semicolon) ts = refl
  stmt_runs (Some w.Break) ts = refl
  stmt_runs (Some w.Continue) ts = refl
  stmt_runs (Some w.Return) ts = refl
  stmt_runs (Some w.If) ts = refl
  stmt_runs (Some w.While) ts = refl
  stmt_runs (Some w.Do) ts = refl
  stmt_runs (Some w.For) ts = refl
  stmt_runs _ ts = refl

  stmt_spelling : (o : Option Symbol) (c : Choice (stmt_seq o)) (rest : List Terminal) → spell_stmt (tree (stmt_seq o) c) rest ≡ spells (stmt_seq o) c rest
  stmt_spelling (Some w.OpenBrace) c rest = ap (λ z. at w.OpenBrace c.0 ∷ z) (parts_spell c.1.0 (at w.CloseBrace c.1.1.0 ∷ rest))
  stmt_spelling (Some w.Semicolon) c rest = refl
  stmt_spelling (Some w.Break) c rest = refl
  stmt_spelling (Some w.Continue) c rest = refl
  stmt_spelling (Some w.Return) c rest = refl
  stmt_spelling (Some w.If) (x, (o, (e, (c, (s, inl d))))) rest = refl
  stmt_spelling (Some w.If) (x, (o, (e, (c, (s, inr d))))) rest = refl
  stmt_spelling (Some w.While) c rest = refl
  stmt_spelling (Some w.Do) c rest = refl
  stmt_spelling (Some w.For) c rest = refl
  stmt_spelling _ c rest = refl

  stmt_good : (o : Option Symbol) (c : Choice (stmt_seq o)) → Fits (stmt_seq o) c → IsStmt (tree (stmt_seq o) c)
  stmt_good (Some w.OpenBrace) c g = parts_good c.1.0 g.0
  stmt_good (Some w.Semicolon) c g = tt
  stmt_good (Some w.Break) c g = tt
  stmt_good (Some w.Continue) c g = tt
  stmt_good (Some w.Return) c g = g.0
  stmt_good (Some w.If) (x, (o, (e, (c, (s, inl d))))) g = (g.0, g.1.0, g.1.1, g.1.2.0)
  stmt_good (Some w.If) (x, (o, (e, (c, (s, inr d))))) g = (g.0, g.1.0)
  stmt_good (Some w.While) c g = (g.0, g.1.0)
  stmt_good (Some w.Do) c g = (g.0, g.1.0)
  stmt_good (Some w.For) c g = (g.0, g.1.0, g.1.1.0, g.1.1.1.0)
  stmt_good _ c g = g.0

  test_over : (o : Option t.Expr) (q : Span) (rest : List Terminal) → OverMaybe (isnt w.Semicolon) (λ e rest. Over 11 rest) o (at w.Semicolon q ∷ rest)
  test_over None q rest = refl
  test_over (Some e) q rest = omega arith

  value_over : (o : Option t.Right) (q : Span) (rest : List Terminal) → OverMaybe (isnt w.Semicolon) (λ e rest. Over 11 rest) o (at w.Semicolon q ∷ rest)
  value_over None q rest = refl
  value_over (Some e) q rest = omega arith

  step_over : (o : Option t.Simple) (q : Span) (rest : List Terminal) → OverMaybe (isnt w.CloseParen) (λ e rest. Over 11 rest) o (at w.CloseParen q ∷ rest)
  step_over None q rest = refl
  step_over (Some e) q rest = omega arith

  abbrev plain_depth : t.Simple → Span → List Terminal → Option (List Terminal)
  plain_depth s p rest = deep_simple n s (at w.Semicolon p ∷ rest)

  simple_chosen : (s : t.Simple) (p : Span) → IsSimple s → Chosen (switch stmt_seq) (deep_stmt (suc n)) StmtOver (t.simple s p)
  simple_chosen (t.assign place x q r) p g = record {
    choice = (Some w.Name, (t.assign place x q r, (p, tt)));
    of = refl;
    fits = (g, tt);
    depth = λ rest. last (plain_depth (t.assign place x q r) p rest);
    follows = λ rest o. (place_first place _, (omega arith, tt));
  }
  simple_chosen (t.after place x q) p g = record {
    choice = (Some w.Name, (t.after place x q, (p, tt)));
    of = refl;
    fits = (g, tt);
    depth = λ rest. last (plain_depth (t.after place x q) p rest);
    follows = λ rest o. (place_first place _, (omega arith, tt));
  }
  simple_chosen (t.invoke c) p g = record {
    choice = (Some w.Name, (t.invoke c, (p, tt)));
    of = refl;
    fits = (g, tt);
    depth = λ rest. last (plain_depth (t.invoke c) p rest);
    follows = λ rest o. (refl, (omega arith, tt));
  }
  simple_chosen (t.before w.Increment q place) p g = record {
    choice = (Some w.Increment, (t.before w.Increment q place, (p, tt)));
    of = refl;
    fits = (g, tt);
    depth = λ rest. last (plain_depth (t.before w.Increment q place) p rest);
    follows = λ rest o. (refl, (omega arith, tt));
  }
  simple_chosen (t.before w.Decrement q place) p g = record {
    choice = (Some w.Decrement, (t.before w.Decrement q place, (p, tt)));
    of = refl;
    fits = (g, tt);
    depth = λ rest. last (plain_depth (t.before w.Decrement q place) p rest);
    follows = λ rest o. (refl, (omega arith, tt));
  }
  simple_chosen (t.before _ q place) p g = absurd (let h = g.0 in cc)

  stmt_chosen : (s : t.Stmt) → IsStmt s → Chosen (switch stmt_seq) (deep_stmt (suc n)) StmtOver s
  stmt_chosen (t.block o ps c) g = record {
    choice = (Some w.OpenBrace, (o, (parts_list ps, (c, tt))));
    of = ap (λ z. t.block o z c) (parts_back ps);
    fits = (parts_all ps g, tt);
    depth = λ rest. last (deep_list spell_part (deep_part n) (parts_list ps) (at w.CloseBrace c ∷ rest)) ∙ parts_deep n ps (at w.CloseBrace c ∷ rest);
    follows = λ rest h. (refl, ((refl, λ p k. refl), tt));
  }
  stmt_chosen (t.empty p) g = record { choice = (Some w.Semicolon, (p, tt)); of = refl; fits = tt; depth = λ rest. refl; follows = λ rest o. (refl, tt) }
  stmt_chosen (t.simple s p) g = simple_chosen s p g
  stmt_chosen (t.break x p) g = record { choice = (Some w.Break, (x, (p, tt))); of = refl; fits = tt; depth = λ rest. refl; follows = λ rest o. (refl, tt) }
  stmt_chosen (t.continue x p) g = record { choice = (Some w.Continue, (x, (p, tt))); of = refl; fits = tt; depth = λ rest. refl; follows = λ rest o. (refl, tt) }
  stmt_chosen (t.return x r p) g = record {
    choice = (Some w.Return, (x, (r, (p, tt))));
    of = refl;
    fits = (g, tt);
    depth = λ rest. last (deep_maybe (deep_right n) r (at w.Semicolon p ∷ rest));
    follows = λ rest o. (refl, (value_over r p rest, tt));
  }
  stmt_chosen (t.if_only x o e c s) g = record {
    choice = (Some w.If, (x, (o, (e, (c, (s, inr tt))))));
    of = refl;
    fits = (g.0, (g.1, tt));
    depth = λ rest. ap (λ z. earlier (deep (suc n) e (at w.CloseParen c ∷ spell_stmt s rest)) z) (last (deep_stmt n s rest));
    follows = λ rest h. (refl, (omega arith, (λ k. h refl, h refl, tt)));
  }
  stmt_chosen (t.if_else x o e c s q r) g = record {
    choice = (Some w.If, (x, (o, (e, (c, (s, inl (q, (r, tt))))))));
    of = refl;
    fits = (g.0, (g.1, g.2, (g.3, tt)));
    depth = λ rest. ap (λ z. earlier (deep (suc n) e (at w.CloseParen c ∷ spell_stmt s (at w.Else q ∷ spell_stmt r rest))) (earlier (deep_stmt n s (at w.Else q ∷ spell_stmt r rest)) z)) (last (deep_stmt n r rest));
    follows = λ rest h. (refl, (omega arith, (λ k. not_both (ends_open s) k g.2, refl, (h, tt))));
  }
  stmt_chosen (t.while x o e c s) g = record {
    choice = (Some w.While, (x, (o, (e, (c, (s, tt))))));
    of = refl;
    fits = (g.0, (g.1, tt));
    depth = λ rest. ap (λ z. earlier (deep (suc n) e (at w.CloseParen c ∷ spell_stmt s rest)) z) (last (deep_stmt n s rest));
    follows = λ rest h. (refl, (omega arith, (h, tt)));
  }
  stmt_chosen (t.do_while x s y o e c p) g = record {
    choice = (Some w.Do, (x, (s, (y, (o, (e, (c, (p, tt))))))));
    of = refl;
    fits = (g.0, (g.1, tt));
    depth = λ rest. ap (λ z. earlier (deep_stmt n s (at w.While y ∷ at w.OpenParen o ∷ spell e (at w.CloseParen c ∷ at w.Semicolon p ∷ rest))) z) (last (deep (suc n) e (at w.CloseParen c ∷ at w.Semicolon p ∷ rest)));
    follows = λ rest h. (refl, (λ k. refl, (omega arith, tt)));
  }
  stmt_chosen (t.for x o start p test q step c s) g = record {
    choice = (Some w.For, (x, (o, (start, (p, (test, (q, (step, (c, (s, tt))))))))));
    of = refl;
    fits = (g.0, (g.1, (g.2, (g.3, tt))));
    depth = λ rest. ap (λ z. earlier (deep_start n start (at w.Semicolon p ∷ spell_maybe spell test (at w.Semicolon q ∷ spell_maybe spell_simple step (at w.CloseParen c ∷ spell_stmt s rest))))
        (earlier (deep_maybe (deep (suc n)) test (at w.Semicolon q ∷ spell_maybe spell_simple step (at w.CloseParen c ∷ spell_stmt s rest)))
        (earlier (deep_maybe (deep_simple n) step (at w.CloseParen c ∷ spell_stmt s rest)) z))) (last (deep_stmt n s rest));
    follows = λ rest h. (refl, (refl, (test_over test q _, (step_over step c _, (h, tt)))));
  }

  -- no else after a statement that was read and ends open
  shut : (o : Option Symbol) → ((c : Choice (stmt_seq o)) → ends_open (tree (stmt_seq o) c) ≡ false) → (ts : List Terminal) (y : t.Stmt × List Terminal)
      → run (stmt_seq o) ts ≡ Ok y → OpenOk y
  shut o h ts y k = let c = seq_sound (stmt_seq o) ts y k in λ q. not_both (ends_open y.0) q (sym (ap ends_open c.of) ∙ h c.choice)

  kept : (s : t.Stmt) (y : t.Stmt × List Terminal) → s ≡ y.0 → OpenOk (s, y.1) → OpenOk y
  kept s y e o = λ q. o (ap ends_open e ∙ q)

  if_open : (y : t.Stmt × List Terminal) (c : Choice if_seq) → Reads if_seq c y.1 → OpenOk (tree if_seq c, y.1)
  if_open y (x, (o, (e, (c, (s, inl (q, (r, d))))))) g = opens _ _ g.1.2.0
  if_open y (x, (o, (e, (c, (s, inr d))))) g = λ q. g.1.1

  stmt_open : (o : Option Symbol) (ts : List Terminal) (y : t.Stmt × List Terminal) → run (stmt_seq o) ts ≡ Ok y → OpenOk y
  stmt_open (Some w.OpenBrace) ts y k = shut (Some w.OpenBrace) (λ c. refl) ts y k
  stmt_open (Some w.Semicolon) ts y k = shut (Some w.Semicolon) (λ c. refl) ts y k
  stmt_open (Some w.Break) ts y k = shut (Some w.Break) (λ c. refl) ts y k
  stmt_open (Some w.Continue) ts y k = shut (Some w.Continue) (λ c. refl) ts y k
  stmt_open (Some w.Return) ts y k = shut (Some w.Return) (λ c. refl) ts y k
  stmt_open (Some w.If) ts y k = let c = seq_sound if_seq ts y k in kept (tree if_seq c.choice) y c.of (if_open y c.choice c.reads)
  stmt_open (Some w.While) ts y k = let c = seq_sound while_seq ts y k in kept (tree while_seq c.choice) y c.of (opens _ _ c.reads.1.0)
  stmt_open (Some w.Do) ts y k = shut (Some w.Do) (λ c. refl) ts y k
  stmt_open (Some w.For) ts y k = let c = seq_sound for_seq ts y k in kept (tree for_seq c.choice) y c.of (opens _ _ c.reads.1.1.1.0)
  stmt_open _ ts y k = let c = seq_sound plain_seq ts y k in λ q. not_both (ends_open y.0) q (sym (ap ends_open c.of))

  pub stmt_of-open : Opens (read_stmt expr index one parts)
  unfolding read_stmt
  stmt_of-open ts y k = stmt_open (first_of ts) ts y (sym (stmt_runs (first_of ts) ts) ∙ k)

  pub stmt_laws : StmtLaws (suc n) (read_stmt expr index one parts)
  unfolding read_stmt
  stmt_laws = laws_of (switch stmt_seq) (λ ts. stmt_runs (first_of ts) ts) (λ c rest. stmt_spelling c.0 c.1 rest) (λ c g. stmt_good c.0 c.1 g) stmt_chosen

module _ (n : ℕ) (expr index : List Terminal → Answer t.Expr) (le : ExprLaws (suc n) expr) (li : ExprLaws n index) (te : Takes expr)
    (stmt : List Terminal → Answer t.Stmt) (ls : StmtLaws (suc n) stmt) where
  abbrev part_seq : Seq t.Part
  part_seq = peek is_kind (part (declaration_laws n expr index le li te) (λ d. token w.Semicolon (λ p. done (t.declare d p)))) (part ls (λ s. done (t.stmt s)))

  part_spelling : (c : Choice part_seq) (rest : List Terminal) → spell_part (tree part_seq c) rest ≡ spells part_seq c rest
  part_spelling (inl c) rest = refl
  part_spelling (inr c) rest = refl

  part_good : (c : Choice part_seq) → Fits part_seq c → IsPart (tree part_seq c)
  part_good (inl c) g = g.0
  part_good (inr c) g = g.0

  part_chosen : (p : t.Part) → IsPart p → Chosen part_seq (deep_part (suc n)) PartOver p
  part_chosen (t.declare d p) g = record {
    choice = inl (d, (p, tt));
    of = refl;
    fits = (g, tt);
    depth = λ rest. last (deep_declaration n d (at w.Semicolon p ∷ rest));
    follows = λ rest o. (g.0, (refl, tt));
  }
  part_chosen (t.stmt s) g = record {
    choice = inr (s, tt);
    of = refl;
    fits = (g, tt);
    depth = λ rest. last (deep_stmt (suc n) s rest);
    follows = λ rest o. (heads_implies starts_stmt is_kind false stmt_kind (spell_stmt s rest) (stmt_starts s g rest), (λ k. o, tt));
  }

  pub part_laws : PartLaws (suc n) (read_part expr index stmt)
  unfolding read_part
  part_laws = laws_of part_seq (λ ts. refl) part_spelling part_good part_chosen

pub record StmtsAt (n : ℕ) : Type 0 where
  pub stmt : StmtLaws n (stmt_at n)
  pub part : PartLaws n (part_at n)
  pub opens : Opens (stmt_at n)

pub stmts_laws : (n : ℕ) → StmtsAt n
unfolding stmt_at part_with
stmts_laws zero = record {
  stmt = too_deep_laws starts_stmt spell_stmt IsStmt StmtOver stmt_starts stmt_begun (t.empty zero_span) tt;
  part = too_deep_laws starts_part spell_part IsPart PartOver part_starts part_begun (t.stmt (t.empty zero_span)) tt;
  opens = λ ts y h. absurd (too_deep_no_ok starts_stmt ts y h);
}
stmts_laws (suc n) =
    let b = stmts_laws n in
    let le = (expr_laws (suc n)).full in
    let li = (expr_laws n).full in
    let ls = stmt_laws n (expr_at (suc n) true) (expr_at n true) le li (expr_takes n) (stmt_at n) b.stmt b.opens (part_with n (stmt_at n)) b.part in
    record {
      opens = stmt_of-open n (expr_at (suc n) true) (expr_at n true) le li (expr_takes n) (stmt_at n) b.stmt b.opens (part_with n (stmt_at n)) b.part;
      stmt = ls;
      part = part_laws n (expr_at (suc n) true) (expr_at n true) le li (expr_takes n) (stmt_at (suc n)) ls;
    }
