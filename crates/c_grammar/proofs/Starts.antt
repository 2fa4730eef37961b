-- What statements begin with.
use Rattle.std.proofs.Common.{◌≡◌, true, false, List, [], None, Ok, refl}
use Rattle.c_grammar.specs.declared.terminal.Symbol.{Symbol}
use Rattle.c_grammar.specs.declared.terminal.Symbol.TheVariants as w
use Rattle.c_grammar.specs.declared.terminal.Span.{Span}
use Rattle.c_grammar.specs.declared.terminal.Terminal.{Terminal}
use Rattle.c_grammar.specs.Tree as t
use Rattle.c_grammar.specs.Symbols.{is, is_kind, starts_stmt, starts_part}
use Rattle.c_grammar.specs.StmtGrammar.{spell_stmt, spell_part, IsStmt, IsPart, ends_open}
use Rattle.c_grammar.specs.Reading.{Answer, heads}
use Rattle.c_grammar.proofs.Laws.{zero_span}
use Rattle.c_grammar.proofs.TooDeep.{Begun}
use Rattle.c_grammar.proofs.Calls.{starts_simple, simple_starts, heads_implies}

simple_stmt : (x : Symbol) → starts_simple x ≡ true → starts_stmt x ≡ true
simple_stmt w.Name h = refl
simple_stmt w.Increment h = refl
simple_stmt w.Decrement h = refl
simple_stmt _ h = absurd (cc)

pub stmt_starts : (s : t.Stmt) → IsStmt s → (rest : List Terminal) → heads starts_stmt (spell_stmt s rest) ≡ true
stmt_starts (t.simple s p) g rest = heads_implies starts_simple starts_stmt true simple_stmt _ (simple_starts s g _)
stmt_starts (t.block o ps c) g rest = refl
stmt_starts (t.empty p) g rest = refl
stmt_starts (t.break x p) g rest = refl
stmt_starts (t.continue x p) g rest = refl
stmt_starts (t.return x r p) g rest = refl
stmt_starts (t.if_only x o e c s) g rest = refl
stmt_starts (t.if_else x o e c s q r) g rest = refl
stmt_starts (t.while x o e c s) g rest = refl
stmt_starts (t.do_while x s y o e c p) g rest = refl
stmt_starts (t.for x o start p test q step c s) g rest = refl

kind_part : (x : Symbol) → is_kind x ≡ true → starts_part x ≡ true
kind_part w.Int h = refl
kind_part w.Status h = refl
kind_part w.Request h = refl
kind_part w.Communicator h = refl
kind_part _ h = absurd (cc)

stmt_part : (x : Symbol) → starts_stmt x ≡ true → starts_part x ≡ true
stmt_part w.Int h = refl
stmt_part w.Status h = refl
stmt_part w.Request h = refl
stmt_part w.Communicator h = refl
stmt_part _ h = h

pub stmt_kind : (x : Symbol) → starts_stmt x ≡ true → is_kind x ≡ false
stmt_kind w.Int h = absurd (cc)
stmt_kind w.Status h = absurd (cc)
stmt_kind w.Request h = absurd (cc)
stmt_kind w.Communicator h = absurd (cc)
stmt_kind _ h = refl

pub part_starts : (p : t.Part) → IsPart p → (rest : List Terminal) → heads starts_part (spell_part p rest) ≡ true
part_starts (t.declare d p) g rest = kind_part d.kind g.0
part_starts (t.stmt s) g rest = heads_implies starts_stmt starts_part true stmt_part _ (stmt_starts s g rest)

abbrev zero_name : t.Place
zero_name = t.whole zero_span

pub stmt_begun : (x : Symbol) (p : Span) → starts_stmt x ≡ true → Begun spell_stmt IsStmt x p
stmt_begun w.OpenBrace p h = record { tree = t.block p t.no_part zero_span; good = tt; more = λ rest. (_, refl) }
stmt_begun w.Semicolon p h = record { tree = t.empty p; good = tt; more = λ rest. (_, refl) }
stmt_begun w.Name p h = record { tree = t.simple (t.after (t.whole p) w.Increment zero_span) zero_span; good = (tt, refl); more = λ rest. (_, refl) }
stmt_begun w.Increment p h = record { tree = t.simple (t.before w.Increment p zero_name) zero_span; good = (refl, tt); more = λ rest. (_, refl) }
stmt_begun w.Decrement p h = record { tree = t.simple (t.before w.Decrement p zero_name) zero_span; good = (refl, tt); more = λ rest. (_, refl) }
stmt_begun w.Break p h = record { tree = t.break p zero_span; good = tt; more = λ rest. (_, refl) }
stmt_begun w.Continue p h = record { tree = t.continue p zero_span; good = tt; more = λ rest. (_, refl) }
stmt_begun w.Return p h = record { tree = t.return p None zero_span; good = tt; more = λ rest. (_, refl) }
stmt_begun w.If p h = record { tree = t.if_only p zero_span (t.number zero_span) zero_span (t.empty zero_span); good = (tt, tt); more = λ rest. (_, refl) }
stmt_begun w.While p h = record { tree = t.while p zero_span (t.number zero_span) zero_span (t.empty zero_span); good = (tt, tt); more = λ rest. (_, refl) }
stmt_begun w.Do p h = record { tree = t.do_while p (t.empty zero_span) zero_span zero_span (t.number zero_span) zero_span zero_span; good = (tt, tt); more = λ rest. (_, refl) }
stmt_begun w.For p h = record { tree = t.for p zero_span t.no_start zero_span None zero_span None zero_span (t.empty zero_span); good = (tt, tt, tt, tt); more = λ rest. (_, refl) }
stmt_begun _ p h = absurd (cc)

declared : Symbol → Span → t.Part
declared x p = t.declare (record { kind = x; at = p; items = t.comma_list (record { place = zero_name; initial = None }) [] }) zero_span

stmt_part_begun : (x : Symbol) (p : Span) → Begun spell_stmt IsStmt x p → Begun spell_part IsPart x p
stmt_part_begun x p b = record { tree = t.stmt b.tree; good = b.good; more = b.more }

pub part_begun : (x : Symbol) (p : Span) → starts_part x ≡ true → Begun spell_part IsPart x p
unfolding declared
part_begun w.Int p h = record { tree = declared w.Int p; good = (refl, ((tt, tt), tt)); more = λ rest. (_, refl) }
part_begun w.Status p h = record { tree = declared w.Status p; good = (refl, ((tt, tt), tt)); more = λ rest. (_, refl) }
part_begun w.Request p h = record { tree = declared w.Request p; good = (refl, ((tt, tt), tt)); more = λ rest. (_, refl) }
part_begun w.Communicator p h = record { tree = declared w.Communicator p; good = (refl, ((tt, tt), tt)); more = λ rest. (_, refl) }
part_begun w.OpenBrace p h = stmt_part_begun w.OpenBrace p (stmt_begun w.OpenBrace p h)
part_begun w.Semicolon p h = stmt_part_begun w.Semicolon p (stmt_begun w.Semicolon p h)
part_begun w.Name p h = stmt_part_begun w.Name p (stmt_begun w.Name p h)
part_begun w.Increment p h = stmt_part_begun w.Increment p (stmt_begun w.Increment p h)
part_begun w.Decrement p h = stmt_part_begun w.Decrement p (stmt_begun w.Decrement p h)
part_begun w.Break p h = stmt_part_begun w.Break p (stmt_begun w.Break p h)
part_begun w.Continue p h = stmt_part_begun w.Continue p (stmt_begun w.Continue p h)
part_begun w.Return p h = stmt_part_begun w.Return p (stmt_begun w.Return p h)
part_begun w.If p h = stmt_part_begun w.If p (stmt_begun w.If p h)
part_begun w.While p h = stmt_part_begun w.While p (stmt_begun w.While p h)
part_begun w.Do p h = stmt_part_begun w.Do p (stmt_begun w.Do p h)
part_begun w.For p h = stmt_part_begun w.For p (stmt_begun w.For p h)
part_begun _ p h = absurd (cc)

-- no else after a statement that was read and ends open
abbrev pub OpenOk : t.Stmt × List Terminal → Type 0
OpenOk y = ends_open y.0 ≡ true → heads (is w.Else) y.1 ≡ false

abbrev pub Opens : (List Terminal → Answer t.Stmt) → Type 0
Opens reader = (ts : List Terminal) (y : t.Stmt × List Terminal) → reader ts ≡ Ok y → OpenOk y
