-- What the readers of expressions keep.
use Rattle.std.proofs.Common.{◌≡◌, ◌==◌, inl, inr, Bool, true, false, ℕ, zero, suc, ◌<◌, ◌≤◌, List, [], ◌∷◌, Option, Some, Ok, refl, sym, ap, ◌∙◌, subst, arith, eqb-true, eq-eqb}
use Rattle.c_grammar.specs.declared.terminal.Symbol.{Symbol}
use Rattle.c_grammar.specs.declared.terminal.Symbol.TheVariants as w
use Rattle.c_grammar.specs.declared.terminal.Span.{Span}
use Rattle.c_grammar.specs.declared.terminal.Terminal.{Terminal}
use Rattle.c_grammar.specs.Tree.{Expr, number, read, field, paren, unary, chain, choice, Place, whole, cell, Links, no_link, link}
use Rattle.c_grammar.specs.Symbols.{level_of, is_sign, is, starts_expr}
use Rattle.c_grammar.specs.Grammar.{at, spell, spell_place, spell_links, precedence, IsSome, IsExpr, IsPlace, AreLinks, earlier, deep, deep_place, deep_links}
use Rattle.c_grammar.specs.StmtGrammar.{spell_list, AreAll}
use Rattle.c_grammar.specs.Depth.{deep_list}
use Rattle.c_grammar.specs.View.{Piece, links_from}
use Rattle.c_grammar.specs.Reading.{Answer, ◌>>=◌, first_of, heads, too_deep, many, read_place, unary_by, read_unary, read_link, chain_or_operand, read_binary, read_choice, expr_at}
use Rattle.c_grammar.proofs.Local.{test_cases}
use Rattle.c_grammar.proofs.Laws.{Laws, last, is_symbol, not_both, zero_span}
use Rattle.c_grammar.proofs.Sequence.{Seq, done, token, pick, part, peek, switch, run, Choice, tree, spells, Fits, Chosen, laws_of}
use Rattle.c_grammar.proofs.Lists.{many_laws, OverMany}
use Rattle.c_grammar.proofs.TooDeep.{Begun, too_deep_laws}

-- how strongly a symbol parts what is before it from what is after it: marks that end an expression most, 0 what goes on with one
abbrev pub strength : Symbol → ℕ
strength w.CloseParen = 12
strength w.CloseBrace = 12
strength w.CloseBracket = 12
strength w.Semicolon = 12
strength w.Comma = 12
strength w.Colon = 12
strength x = level_of x

abbrev pub strength_of : List Terminal → ℕ
strength_of [] = 0
strength_of (t ∷ ts) = strength t.symbol

-- an expression of this precedence ends here
abbrev pub Over : ℕ → List Terminal → Type 0
Over k rest = k < strength_of rest

pub heads_not : (test : Symbol → Bool) (rest : List Terminal) → ((x : Symbol) → strength_of rest ≡ strength x → test x ≡ true → ⊥) → heads test rest ≡ false
heads_not test [] h = refl
heads_not test (t ∷ ts) h = elim (test_cases (test t.symbol)) [ inl e ↦ absurd (h t.symbol refl e) | inr e ↦ e ]

pub over_isnt : (x : Symbol) (k : ℕ) (rest : List Terminal) → strength x ≤ k → Over k rest → heads (is x) rest ≡ false
over_isnt x k rest l o = heads_not (is x) rest (λ y e h. absurd (let q = ap strength (is_symbol x y h) in omega arith))

level_strength : (x : Symbol) → 0 < level_of x → strength x ≡ level_of x
level_strength w.CloseParen h = absurd (omega arith)
level_strength w.CloseBrace h = absurd (omega arith)
level_strength w.CloseBracket h = absurd (omega arith)
level_strength w.Semicolon h = absurd (omega arith)
level_strength w.Comma h = absurd (omega arith)
level_strength w.Colon h = absurd (omega arith)
level_strength _ h = refl

over_level : (k : ℕ) (rest : List Terminal) → Over (suc k) rest → heads (λ x. level_of x == suc k) rest ≡ false
over_level k rest o = heads_not (λ x. level_of x == suc k) rest (λ x e h. absurd (let q = eqb-true _ _ h in let s = level_strength x (omega arith) in omega arith))

-- an operator of each level
pub op_of : ℕ → Symbol
op_of (suc zero) = w.Times
op_of (suc (suc zero)) = w.Plus
op_of (suc (suc (suc zero))) = w.ShiftLeft
op_of (suc (suc (suc (suc zero)))) = w.Less
op_of (suc (suc (suc (suc (suc zero))))) = w.Equal
op_of (suc (suc (suc (suc (suc (suc zero)))))) = w.And
op_of (suc (suc (suc (suc (suc (suc (suc zero))))))) = w.Xor
op_of (suc (suc (suc (suc (suc (suc (suc (suc zero)))))))) = w.Or
op_of (suc (suc (suc (suc (suc (suc (suc (suc (suc zero))))))))) = w.LogicalAnd
op_of _ = w.LogicalOr

pub op_level : (n : ℕ) → 0 < n → n < 11 → level_of (op_of n) ≡ n
unfolding op_of
op_level zero l m = absurd (omega arith)
op_level (suc zero) l m = refl
op_level (suc (suc zero)) l m = refl
op_level (suc (suc (suc zero))) l m = refl
op_level (suc (suc (suc (suc zero)))) l m = refl
op_level (suc (suc (suc (suc (suc zero))))) l m = refl
op_level (suc (suc (suc (suc (suc (suc zero)))))) l m = refl
op_level (suc (suc (suc (suc (suc (suc (suc zero))))))) l m = refl
op_level (suc (suc (suc (suc (suc (suc (suc (suc zero)))))))) l m = refl
op_level (suc (suc (suc (suc (suc (suc (suc (suc (suc zero))))))))) l m = refl
op_level (suc (suc (suc (suc (suc (suc (suc (suc (suc (suc zero)))))))))) l m = refl
op_level (suc (suc (suc (suc (suc (suc (suc (suc (suc (suc (suc n))))))))))) l m = absurd (omega arith)

abbrev pub UpTo : ℕ → Expr → Type 0
UpTo k e = IsExpr e × (precedence e ≤ k)

abbrev pub ExprLaws : ℕ → (List Terminal → Answer Expr) → Type 0
ExprLaws n reader = Laws reader spell IsExpr (deep n) (λ e rest. Over 11 rest)

abbrev pub RankLaws : ℕ → ℕ → (List Terminal → Answer Expr) → Type 0
RankLaws n k reader = Laws reader spell (UpTo k) (deep n) (λ e rest. Over k rest)

abbrev pub PlaceOver : Place → List Terminal → Type 0
PlaceOver place rest = heads (is w.OpenBracket) rest ≡ false

module _ (n : ℕ) (index : List Terminal → Answer Expr) (li : ExprLaws n index) where
  abbrev pub place_behind : Span → Seq Place
  place_behind name = peek (is w.OpenBracket) (token w.OpenBracket (λ o. part li (λ e. token w.CloseBracket (λ c. done (cell name o e c))))) (done (whole name))

  abbrev place_seq : Seq Place
  place_seq = token w.Name place_behind

  place_spelling : (c : Choice place_seq) (rest : List Terminal) → spell_place (tree place_seq c) rest ≡ spells place_seq c rest
  place_spelling (p, inl c) rest = refl
  place_spelling (p, inr c) rest = refl

  place_good : (c : Choice place_seq) → Fits place_seq c → IsPlace (tree place_seq c)
  place_good (p, inl c) g = g.0
  place_good (p, inr c) g = tt

  place_chosen : (p : Place) → IsPlace p → Chosen place_seq (deep_place n) PlaceOver p
  place_chosen (whole m) g = record { choice = (m, inr tt); of = refl; fits = tt; depth = λ rest. refl; follows = λ rest o. (o, tt) }
  place_chosen (cell m p e q) g = record {
    choice = (m, inl (p, (e, (q, tt))));
    of = refl;
    fits = (g, tt);
    depth = λ rest. last (deep n e (at w.CloseBracket q ∷ rest));
    follows = λ rest o. (refl, (omega arith, tt));
  }

  pub place_laws : Laws (read_place index) spell_place IsPlace (deep_place n) PlaceOver
  unfolding read_place
  place_laws = laws_of place_seq (λ ts. refl) place_spelling place_good place_chosen

module _ (n : ℕ) (under : Bool → List Terminal → Answer Expr) (lt : ExprLaws n (under true)) (lf : RankLaws n 0 (under false)) where
  abbrev number_seq : Seq Expr
  number_seq = token w.Number (λ p. done (number p))

  abbrev pub named_behind : Place → Seq Expr
  named_behind place = peek (is w.Dot) (token w.Dot (λ d. token w.Name (λ m. done (field place d m)))) (done (read place))

  abbrev named_seq : Seq Expr
  named_seq = part (place_laws n (under true) lt) named_behind

  abbrev paren_seq : Seq Expr
  paren_seq = token w.OpenParen (λ o. part lt (λ e. token w.CloseParen (λ c. done (paren o e c))))

  abbrev signed_seq : Seq Expr
  signed_seq = pick is_sign w.Minus refl (λ s. part lf (λ e. done (unary s.symbol s.span e)))

  abbrev unary_seq : Option Symbol → Seq Expr
  unary_seq (Some w.Number) = number_seq
  unary_seq (Some w.Name) = named_seq
  unary_seq (Some w.OpenParen) = paren_seq
  unary_seq _ = signed_seq

  unary_runs : (o : Option Symbol) (ts : List Terminal) → unary_by under ts o ≡ run (unary_seq o) ts
  unary_runs (Some w.Number) ts = refl
  unary_runs (Some w.Name) ts = refl
  unary_runs (Some w.OpenParen) ts = refl
  unary_runs _ ts = refl

  unary_spelling : (o : Option Symbol) (c : Choice (unary_seq o)) (rest : List Terminal) → spell (tree (unary_seq o) c) rest ≡ spells (unary_seq o) c rest
  unary_spelling (Some w.Number) c rest = refl
  unary_spelling (Some w.Name) (p, inl c) rest = refl
  unary_spelling (Some w.Name) (p, inr c) rest = refl
  unary_spelling (Some w.OpenParen) c rest = refl
  unary_spelling _ c rest = refl

  unary_good : (o : Option Symbol) (c : Choice (unary_seq o)) → Fits (unary_seq o) c → UpTo 0 (tree (unary_seq o) c)
  unary_good (Some w.Number) c g = (tt, omega arith)
  unary_good (Some w.Name) (p, inl c) g = (g.0, omega arith)
  unary_good (Some w.Name) (p, inr c) g = (g.0, omega arith)
  unary_good (Some w.OpenParen) c g = (g.0, omega arith)
  unary_good _ c g = ((g.0, let l = g.1.0.1 in omega arith, g.1.0.0), omega arith)

  not_named : (x : Symbol) → is_sign x ≡ true → (c : Choice signed_seq) → Choice (unary_seq (Some x))
  not_named w.Minus h c = c
  not_named w.Plus h c = c
  not_named w.Not h c = c
  not_named w.Complement h c = c
  not_named _ h c = absurd (cc)

  sign_chosen : (x : Symbol) (p : Span) (e : Expr) → is_sign x ≡ true → UpTo 0 (unary x p e) → Chosen (switch unary_seq) (deep (suc n)) (λ e rest. Over 0 rest) (unary x p e)
  sign_chosen w.Minus p e h g = record {
    choice = (Some w.Minus, (at w.Minus p, (e, tt)));
    of = refl;
    fits = (refl, ((g.0.2, let l = g.0.1 in omega arith), tt));
    depth = λ rest. last (deep n e rest);
    follows = λ rest o. (refl, (o, tt));
  }
  sign_chosen w.Plus p e h g = record {
    choice = (Some w.Plus, (at w.Plus p, (e, tt)));
    of = refl;
    fits = (refl, ((g.0.2, let l = g.0.1 in omega arith), tt));
    depth = λ rest. last (deep n e rest);
    follows = λ rest o. (refl, (o, tt));
  }
  sign_chosen w.Not p e h g = record {
    choice = (Some w.Not, (at w.Not p, (e, tt)));
    of = refl;
    fits = (refl, ((g.0.2, let l = g.0.1 in omega arith), tt));
    depth = λ rest. last (deep n e rest);
    follows = λ rest o. (refl, (o, tt));
  }
  sign_chosen w.Complement p e h g = record {
    choice = (Some w.Complement, (at w.Complement p, (e, tt)));
    of = refl;
    fits = (refl, ((g.0.2, let l = g.0.1 in omega arith), tt));
    depth = λ rest. last (deep n e rest);
    follows = λ rest o. (refl, (o, tt));
  }
  sign_chosen _ p e h g = absurd (cc)

  starts_name : (p : Place) (rest : List Terminal) → first_of (spell_place p rest) ≡ Some w.Name
  starts_name (whole m) rest = refl
  starts_name (cell m p e q) rest = refl

  unary_chosen : (e : Expr) → UpTo 0 e → Chosen (switch unary_seq) (deep (suc n)) (λ e rest. Over 0 rest) e
  unary_chosen (number p) g = record { choice = (Some w.Number, (p, tt)); of = refl; fits = tt; depth = λ rest. refl; follows = λ rest o. (refl, tt) }
  unary_chosen (read place) g = record {
    choice = (Some w.Name, (place, inr tt));
    of = refl;
    fits = (g.0, tt);
    depth = λ rest. last (deep_place n place rest);
    follows = λ rest o. (starts_name place rest, (over_isnt w.OpenBracket 0 rest (omega arith) o, (over_isnt w.Dot 0 rest (omega arith) o, tt)));
  }
  unary_chosen (field place p m) g = record {
    choice = (Some w.Name, (place, inl (p, (m, tt))));
    of = refl;
    fits = (g.0, tt);
    depth = λ rest. last (deep_place n place (at w.Dot p ∷ at w.Name m ∷ rest));
    follows = λ rest o. (starts_name place (at w.Dot p ∷ at w.Name m ∷ rest), (refl, (refl, tt)));
  }
  unary_chosen (paren p e q) g = record {
    choice = (Some w.OpenParen, (p, (e, (q, tt))));
    of = refl;
    fits = (g.0, tt);
    depth = λ rest. last (deep n e (at w.CloseParen q ∷ rest));
    follows = λ rest o. (refl, (omega arith, tt));
  }
  unary_chosen (unary x p e) g = sign_chosen x p e g.0.0 g
  unary_chosen (chain k e ls) g = absurd (omega (arith, g.1, g.0.0))
  unary_chosen (choice c p a q b) g = absurd (omega (arith, g.1))

  pub unary_laws : RankLaws (suc n) 0 (read_unary under)
  unfolding read_unary
  unary_laws = laws_of (switch unary_seq) (λ ts. unary_runs (first_of ts) ts) (λ c rest. unary_spelling c.0 c.1 rest) (λ c g. unary_good c.0 c.1 g) unary_chosen

abbrev pub spell_piece : Piece → List Terminal → List Terminal
spell_piece p rest = at p.operator p.at ∷ spell p.operand rest

abbrev pub IsPiece : ℕ → Piece → Type 0
IsPiece k p = ((level_of p.operator == suc k) ≡ true) × UpTo k p.operand

abbrev pub deep_piece : ℕ → Piece → List Terminal → Option (List Terminal)
deep_piece n p rest = deep (suc n) p.operand rest

links_spell : (ps : List Piece) (rest : List Terminal) → spell_links (links_from ps) rest ≡ spell_list spell_piece ps rest
links_spell [] rest = refl
links_spell (p ∷ ps) rest = ap (λ z. at p.operator p.at ∷ spell p.operand z) (links_spell ps rest)

links_good : (k : ℕ) (ps : List Piece) → AreAll (IsPiece k) ps → AreLinks (suc k) (links_from ps)
links_good k [] g = tt
links_good k (p ∷ ps) g = (eqb-true _ _ g.0.0, (let l = g.0.1.1 in omega arith), g.0.1.0, links_good k ps g.1)

abbrev pieces_of : Links → List Piece
pieces_of no_link = []
pieces_of (link x p e ls) = (record { operator = x; at = p; operand = e }) ∷ pieces_of ls

pieces_back : (ls : Links) → links_from (pieces_of ls) ≡ ls
pieces_back no_link = refl
pieces_back (link x p e ls) = ap (λ z. link x p e z) (pieces_back ls)

pieces_good : (k : ℕ) (ls : Links) → AreLinks (suc k) ls → AreAll (IsPiece k) (pieces_of ls)
pieces_good k no_link g = tt
pieces_good k (link x p e ls) g = ((eq-eqb _ _ g.0, (g.2, let l = g.1 in omega arith)), pieces_good k ls g.3)

pieces_spell : (ls : Links) (rest : List Terminal) → spell_list spell_piece (pieces_of ls) rest ≡ spell_links ls rest
pieces_spell ls rest = sym (links_spell (pieces_of ls) rest) ∙ ap (λ z. spell_links z rest) (pieces_back ls)

pieces_deep : (n : ℕ) (ls : Links) (rest : List Terminal) → deep_list spell_piece (deep_piece n) (pieces_of ls) rest ≡ deep_links n ls rest
pieces_deep n no_link rest = refl
pieces_deep n (link x p e ls) rest = ap (λ z. earlier (deep (suc n) e z) (deep_list spell_piece (deep_piece n) (pieces_of ls) rest)) (pieces_spell ls rest) ∙ ap (λ z. earlier (deep (suc n) e (spell_links ls rest)) z) (pieces_deep n ls rest)

pieces_chained : (k : ℕ) (e : Expr) (ls : Links) → IsSome ls → chain_or_operand k e (pieces_of ls) ≡ chain k e ls
pieces_chained k e no_link h = absurd h
pieces_chained k e (link x p a ls) h = ap (λ z. chain k e (link x p a z)) (pieces_back ls)

module _ (n k : ℕ) (low : k < 10) (below : List Terminal → Answer Expr) (l : RankLaws (suc n) k below) where
  abbrev pub link_seq : Seq Piece
  link_seq = pick (λ x. level_of x == suc k) (op_of (suc k)) (eq-eqb _ _ (op_level (suc k) (omega arith) (omega arith))) (λ s. part l (λ e. done (record {
    operator = s.symbol;
    at = s.span;
    operand = e;
  })))

  pub link_laws : Laws (read_link below (suc k)) spell_piece (IsPiece k) (deep_piece n) (λ p rest. Over k rest)
  link_laws = laws_of link_seq (λ ts. refl) (λ c rest. refl) (λ c g. (g.0, g.1.0))
      (λ p g. record {
        choice = (at p.operator p.at, (p.operand, tt));
        of = refl;
        fits = (g.0, (g.1, tt));
        depth = λ rest. last (deep (suc n) p.operand rest);
        follows = λ rest o. (o, tt);
      })

  pub links_laws : Laws (many (λ x. level_of x == suc k) (read_link below (suc k))) (spell_list spell_piece) (AreAll (IsPiece k))
      (deep_list spell_piece (deep_piece n)) (λ list rest. OverMany (λ x. level_of x == suc k) (IsPiece k) (λ p rest. Over k rest) rest)
  links_laws = many_laws link_laws (λ x. level_of x == suc k) (λ p g rest. g.0) (λ p q g h rest. let e = eqb-true _ _ h.0 in let s = level_strength q.operator (omega arith) in omega arith)

  abbrev pub bin_behind : Expr → Seq Expr
  bin_behind e = part links_laws (λ ps. done (chain_or_operand (suc k) e ps))

  abbrev bin_seq : Seq Expr
  bin_seq = part l bin_behind

  bin_spelling : (e : Expr) (ps : List Piece) (rest : List Terminal) → spell (chain_or_operand (suc k) e ps) rest ≡ spell e (spell_list spell_piece ps rest)
  bin_spelling e [] rest = refl
  bin_spelling e (p ∷ ps) rest = ap (λ z. spell e (at p.operator p.at ∷ spell p.operand z)) (links_spell ps rest)

  bin_good : (e : Expr) (ps : List Piece) → UpTo k e → AreAll (IsPiece k) ps → UpTo (suc k) (chain_or_operand (suc k) e ps)
  bin_good e [] g h = (g.0, let l = g.1 in omega arith)
  bin_good e (p ∷ ps) g h = ((omega arith, omega arith, (let l = g.1 in omega arith), g.0, tt, links_good k (p ∷ ps) h), omega arith)

  bin_low : (e : Expr) → UpTo k e → Chosen bin_seq (deep (suc n)) (λ e rest. Over (suc k) rest) e
  bin_low e g = record {
    choice = (e, ([], tt));
    of = refl;
    fits = (g, (tt, tt));
    depth = λ rest. last (deep (suc n) e rest);
    follows = λ rest o. (omega arith, ((over_level k rest o, λ p h. omega arith), tt));
  }

  bin_top : (e : Expr) → IsExpr e → precedence e ≡ suc k → Chosen bin_seq (deep (suc n)) (λ e rest. Over (suc k) rest) e
  bin_top (chain j e ls) g r = record {
    choice = (e, (pieces_of ls, tt));
    of = pieces_chained (suc k) e ls g.4 ∙ ap (λ z. chain z e ls) (sym r);
    fits = ((g.3, let l = g.2 in omega arith), (pieces_good k ls (subst (λ z. AreLinks z ls) r g.5), tt));
    depth = λ rest. ap (λ z. earlier (deep (suc n) e (spell_list spell_piece (pieces_of ls) rest)) z) (last (deep_list spell_piece (deep_piece n) (pieces_of ls) rest) ∙ pieces_deep n ls rest)
        ∙ ap (λ z. earlier (deep (suc n) e z) (deep_links n ls rest)) (pieces_spell ls rest);
    follows = λ rest o. (over ls rest (subst (λ z. AreLinks z ls) r g.5) o, ((over_level k rest o, λ p h. omega arith), tt));
  }
    where
      over : (ls : Links) (rest : List Terminal) → AreLinks (suc k) ls → Over (suc k) rest → Over k (spell_list spell_piece (pieces_of ls) rest)
      over no_link rest g o = omega arith
      over (link x p e ls) rest g o = let s = level_strength x (omega (arith, g.0)) in omega (arith, g.0)
  bin_top (choice c p a q b) g r = absurd (omega arith)
  bin_top _ g r = absurd (omega arith)

  pub bin_more : RankLaws (suc n) (suc k) (λ ts. below ts >>= λ e. many (λ x. level_of x == suc k) (read_link below (suc k)) e.1 >>= λ ps. Ok (chain_or_operand (suc k) e.0 ps.0, ps.1))
  bin_more = laws_of bin_seq (λ ts. refl) (λ c rest. bin_spelling c.0 c.1.0 rest) (λ c g. bin_good c.0 c.1.0 g.0 g.1.0)
      (λ e g. elim (test_cases (precedence e == suc k)) [
        | inl h ↦ bin_top e g.0 (eqb-true _ _ h)
        | inr h ↦ bin_low e (g.0, let d : precedence e ≡ suc k → ⊥ = λ q. not_both (precedence e == suc k) (eq-eqb _ _ q) h in let l = g.1 in omega arith)
      ])

pub bin_laws : (n : ℕ) (operand : List Terminal → Answer Expr) → RankLaws (suc n) 0 operand → (k : ℕ) → k < 11 → RankLaws (suc n) k (read_binary operand k)
unfolding read_binary
bin_laws n operand l zero h = l
bin_laws n operand l (suc k) h = bin_more n k (omega arith) (read_binary operand k) (bin_laws n operand l k (omega arith))

module _ (n : ℕ) (under : Bool → List Terminal → Answer Expr) (lt : ExprLaws n (under true)) (lb : RankLaws (suc n) 10 (read_binary (read_unary under) 10)) where
  abbrev pub choice_behind : Expr → Seq Expr
  choice_behind c = peek (is w.Question) (token w.Question (λ p. part lt (λ a. token w.Colon (λ q. part lt (λ b. done (choice c p a q b)))))) (done c)

  abbrev choice_seq : Seq Expr
  choice_seq = part lb choice_behind

  choice_spelling : (c : Choice choice_seq) (rest : List Terminal) → spell (tree choice_seq c) rest ≡ spells choice_seq c rest
  choice_spelling (e, inl c) rest = refl
  choice_spelling (e, inr c) rest = refl

  choice_good : (c : Choice choice_seq) → Fits choice_seq c → IsExpr (tree choice_seq c)
  choice_good (e, inl c) g = ((let l = g.0.1 in omega arith), g.0.0, g.1.0, g.1.1.0)
  choice_good (e, inr c) g = g.0.0

  choice_low : (e : Expr) → UpTo 10 e → Chosen choice_seq (deep (suc n)) (λ e rest. Over 11 rest) e
  choice_low e g = record {
    choice = (e, inr tt);
    of = refl;
    fits = (g, tt);
    depth = λ rest. last (deep (suc n) e rest);
    follows = λ rest o. (omega arith, (over_isnt w.Question 11 rest (omega arith) o, tt));
  }

  choice_chosen : (e : Expr) → IsExpr e → Chosen choice_seq (deep (suc n)) (λ e rest. Over 11 rest) e
  choice_chosen (chain k e ls) g = choice_low (chain k e ls) (g, let l = g.1 in omega arith)
  choice_chosen (choice c p a q b) g = record {
    choice = (c, inl (p, (a, (q, (b, tt)))));
    of = refl;
    fits = ((g.1, let l = g.0 in omega arith), (g.2, (g.3, tt)));
    depth = λ rest. ap (λ z. earlier (deep (suc n) c (at w.Question p ∷ spell a (at w.Colon q ∷ spell b rest))) (earlier (deep n a (at w.Colon q ∷ spell b rest)) z)) (last (deep n b rest));
    follows = λ rest o. (omega arith, (refl, (omega arith, (o, tt))));
  }
  choice_chosen (number p) g = choice_low (number p) (g, omega arith)
  choice_chosen (read place) g = choice_low (read place) (g, omega arith)
  choice_chosen (field place p m) g = choice_low (field place p m) (g, omega arith)
  choice_chosen (paren p e q) g = choice_low (paren p e q) (g, omega arith)
  choice_chosen (unary x p e) g = choice_low (unary x p e) (g, omega arith)

  pub choice_laws : ExprLaws (suc n) (read_choice under)
  unfolding read_choice
  choice_laws = laws_of choice_seq (λ ts. refl) choice_spelling choice_good choice_chosen

pub place_starts : (p : Place) (rest : List Terminal) → heads starts_expr (spell_place p rest) ≡ true
place_starts (whole m) rest = refl
place_starts (cell m p e q) rest = refl

sign_starts : (x : Symbol) → is_sign x ≡ true → starts_expr x ≡ true
sign_starts w.Minus h = refl
sign_starts w.Plus h = refl
sign_starts w.Not h = refl
sign_starts w.Complement h = refl
sign_starts _ h = absurd (cc)

pub expr_starts : (e : Expr) → IsExpr e → (rest : List Terminal) → heads starts_expr (spell e rest) ≡ true
expr_starts (number p) g rest = refl
expr_starts (read place) g rest = place_starts place rest
expr_starts (field place p m) g rest = place_starts place _
expr_starts (paren p e q) g rest = refl
expr_starts (unary x p e) g rest = sign_starts x g.0
expr_starts (chain k e ls) g rest = expr_starts e g.3 (spell_links ls rest)
expr_starts (choice c p a q b) g rest = expr_starts c g.1 _

expr_begun : (k : ℕ) (x : Symbol) (p : Span) → starts_expr x ≡ true → Begun spell (UpTo k) x p
expr_begun k w.Number p h = record { tree = number p; good = (tt, omega arith); more = λ rest. (rest, refl) }
expr_begun k w.Name p h = record { tree = read (whole p); good = (tt, omega arith); more = λ rest. (rest, refl) }
expr_begun k w.OpenParen p h = record {
  tree = paren p (number zero_span) zero_span;
  good = (tt, omega arith);
  more = λ rest. (spell (number zero_span) (at w.CloseParen zero_span ∷ rest), refl);
}
expr_begun k w.Minus p h = record { tree = unary w.Minus p (number zero_span); good = ((refl, refl, tt), omega arith); more = λ rest. (spell (number zero_span) rest, refl) }
expr_begun k w.Plus p h = record { tree = unary w.Plus p (number zero_span); good = ((refl, refl, tt), omega arith); more = λ rest. (spell (number zero_span) rest, refl) }
expr_begun k w.Not p h = record { tree = unary w.Not p (number zero_span); good = ((refl, refl, tt), omega arith); more = λ rest. (spell (number zero_span) rest, refl) }
expr_begun k w.Complement p h = record {
  tree = unary w.Complement p (number zero_span);
  good = ((refl, refl, tt), omega arith);
  more = λ rest. (spell (number zero_span) rest, refl);
}
expr_begun k _ p h = absurd (cc)

pub precedence_bound : (e : Expr) → IsExpr e → precedence e ≤ 11
precedence_bound (number p) i = omega arith
precedence_bound (read place) i = omega arith
precedence_bound (field place p m) i = omega arith
precedence_bound (paren p e q) i = omega arith
precedence_bound (unary x p e) i = omega arith
precedence_bound (chain k e ls) i = omega (arith, i.1)
precedence_bound (choice c p a q b) i = omega arith

deep_operand : (k : ℕ) → RankLaws 0 k (too_deep starts_expr)
deep_operand k = too_deep_laws starts_expr spell (UpTo k) (λ e rest. Over k rest) (λ e g rest. expr_starts e g.0 rest) (expr_begun k) (number zero_span) (tt, omega arith)

-- a precedence of 11 is no bound
unbound : (n : ℕ) (reader : List Terminal → Answer Expr) → RankLaws n 11 reader → ExprLaws n reader
unbound n reader l = record {
  local = l.local;
  complete = λ e rest g o. l.complete e rest (g, precedence_bound e g) o;
  sound = λ ts y h. let s = l.sound ts y h in (s.0, s.1.0, s.2);
  goes = λ ts f h. let g = l.goes ts f h in record { front = g.front; is = g.is; head = g.head; tree = g.tree; good = g.good.0; goes = g.goes };
  some = l.some;
  fine = l.fine.0;
}

pub record AtDepth (n : ℕ) : Type 0 where
  pub full : ExprLaws n (expr_at n true)
  pub operand : RankLaws n 0 (expr_at n false)

pub expr_laws : (n : ℕ) → AtDepth n
unfolding expr_at
expr_laws zero = record { full = unbound 0 (too_deep starts_expr) (deep_operand 11); operand = deep_operand 0 }
expr_laws (suc n) = next (expr_laws n)
  where
    next : AtDepth n → AtDepth (suc n)
    next l =
        let u = unary_laws n (expr_at n) l.full l.operand in
        record { full = choice_laws n (expr_at n) l.full (bin_laws n (read_unary (expr_at n)) u 10 (omega arith)); operand = u }
