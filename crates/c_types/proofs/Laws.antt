-- Each text has one program or one first fault.
use Rattle.std.proofs.Common.{◌≡◌, ◌⊎◌, inl, inr, ℕ, min, List, ◌∷◌, Some, None, length, refl, sym, subst, ap, ◌∙◌}
use Rattle.c_lex.specs.NoMemory.{no_memory_fault}
use Rattle.c_lex.specs.Places.{IsPlaceOf}
use Rattle.c_lex.specs.declared.fault.SourceFault.{SourceFault}
use Rattle.c_lex.specs.Readings as lexed
use Rattle.c_lex.specs.Readings.{AreTokens}
use Rattle.c_lex.specs.declared.token.Token.{Token}
use Rattle.c_lex.proofs.Existence.{fault_of, tokens_or_fault}
use Rattle.c_lex.proofs.Laws.{one_reading}
use Rattle.c_lex.proofs.Laws.{fault_one as lexer_one}
use Rattle.c_grammar.specs.Tree.{Tree}
use Rattle.c_grammar.proofs.Programs.{one_tree}
use Rattle.c_parse.specs.Parsing as parsed
use Rattle.c_parse.specs.Parsing.{IsTreeOfTokens, terminals_of}
use Rattle.c_parse.proofs.OneReading as parsing
use Rattle.c_parse.proofs.OneReading.{tree_or_fault}
use Rattle.c_parse.proofs.Parsed.{one_refusal}
use Rattle.c_program.specs.Tree.{Program}
use Rattle.c_scope.specs.Least.{IsLeastFault, least_fault_from}
use Rattle.c_scope.specs.Typing.{Typing, typed, faulty, faults_of}
use Rattle.c_scope.specs.declared.fault.TypingFault.{TypingFault}
use Rattle.c_scope.proofs.Least.{first_in_none, first_of, first_one, none_or_first}
use Rattle.c_types.specs.Checks as x
use Rattle.c_types.specs.Checks.{IsFaultOf, IsFirstIn, IsProgramOf}
use Rattle.c_types.specs.ProgramTyping.{program_typing}

-- ---- of a tree

pub is_first : (text : List ℕ) (fs : List TypingFault) (fault : TypingFault) (found : SourceFault) → least_fault_from None fs ≡ Some fault
    → IsPlaceOf text (min (length text) fault.at) found.line found.column → found.why ≡ fault.why → IsFirstIn text fs found
is_first text fs fault found e place why = record { fault = fault; first = first_of fs (Some fault) (sym e); place = place; why = why }

pub one_first : (text : List ℕ) (fs : List TypingFault) (found other : SourceFault) → IsFirstIn text fs found → IsFirstIn text fs other → found ≡ other
one_first text fs found other g h =
    let same : g.fault ≡ h.fault = first_one fs g.fault h.fault g.first h.first in
    let place : IsPlaceOf text (min (length text) h.fault.at) found.line found.column =
    subst (λ (one : TypingFault). IsPlaceOf text (min (length text) one.at) found.line found.column) same g.place in
    one_refusal text (min (length text) h.fault.at) found other (g.why ∙ ap (λ (one : TypingFault). one.why) same ∙ sym h.why) place h.place

-- a typing with a first fault is no typed form
pub never_typed : {A : Type 0} (text : List ℕ) (t : Typing A) (form : A) (found : SourceFault) → t ≡ typed form → IsFirstIn text (faults_of t) found → ⊥
never_typed text t form found e g = first_in_none (faults_of t) g.fault (ap faults_of e) g.first

-- a typing has a form or a first fault
first_in : (text : List ℕ) (fs : List TypingFault) (first : TypingFault) → IsLeastFault fs first → (fault : SourceFault) × IsFirstIn text fs fault
first_in text fs first is =
    let there = fault_of text (min (length text) first.at) first.why in
    (there.0, record { fault = first; first = is; place = there.2; why = there.1 })

typed_or_first : {A : Type 0} (text : List ℕ) (t : Typing A) → ((form : A) × (t ≡ typed form)) ⊎ ((fault : SourceFault) × IsFirstIn text (faults_of t) fault)
typed_or_first text (typed form) = inl (form, refl)
typed_or_first text (faulty one others) = elim (none_or_first (one ∷ others)) [
  | inl none ↦ absurd (cc)
  | inr first ↦ inr (first_in text (one ∷ others) first.0 first.1)
]

-- ---- of a text: one at most

lists_one : (text : List ℕ) (list other : List Token) → AreTokens text list → AreTokens text other → list ≡ other
lists_one text list other a b = let e = one_reading text a b in cc

list_no_fault : (text : List ℕ) (list : List Token) (fault : SourceFault) → AreTokens text list → lexed.IsFirstLexicalFault text fault → ⊥
list_no_fault text list fault a b = let e = one_reading text a b.1 in cc

trees_one : (text : List ℕ) (list other : List Token) (tree another : Tree) → AreTokens text list → AreTokens text other → IsTreeOfTokens text list tree → IsTreeOfTokens text other another
    → tree ≡ another
trees_one text list other tree another l m a b =
    one_tree (terminals_of text other) tree another (subst (λ tokens. IsTreeOfTokens text tokens tree) (lists_one text list other l m) a) b

tree_never : (text : List ℕ) (list other : List Token) (tree : Tree) (fault : SourceFault) → AreTokens text list → AreTokens text other → IsTreeOfTokens text list tree
    → parsed.IsFirstSyntaxFault text other fault → ⊥
tree_never text list other tree fault l m a b = parsing.never_both text other tree fault (subst (λ tokens. IsTreeOfTokens text tokens tree) (lists_one text list other l m) a) b

parse_one : (text : List ℕ) (list other : List Token) (fault another : SourceFault) → AreTokens text list → AreTokens text other → parsed.IsFirstSyntaxFault text list fault
    → parsed.IsFirstSyntaxFault text other another → fault ≡ another
parse_one text list other fault another l m a b =
    parsing.one_fault text other fault another (subst (λ tokens. parsed.IsFirstSyntaxFault text tokens fault) (lists_one text list other l m) a) b

pub program_one : (text : List ℕ) (program other : Program) → IsProgramOf text program → IsProgramOf text other → program ≡ other
program_one text program other p q =
    let e : program_typing text p.tree ≡ program_typing text q.tree = ap (program_typing text) (trees_one text p.tokens q.tokens p.tree q.tree p.lexed q.lexed p.parsed q.parsed) in
    let d : typed program ≡ typed other = sym p.typed ∙ e ∙ q.typed in
    cc

pub fault_one : (text : List ℕ) (fault other : SourceFault) → IsFaultOf text fault → IsFaultOf text other → fault ≡ other
fault_one text fault other (x.of_tokens a) (x.of_tokens b) = lexer_one text fault other a b
fault_one text fault other (x.of_tokens a) (x.of_tree list l b) = absurd (list_no_fault text list fault l a)
fault_one text fault other (x.of_tokens a) (x.of_types list tree l t b) = absurd (list_no_fault text list fault l a)
fault_one text fault other (x.of_tree list l a) (x.of_tokens b) = absurd (list_no_fault text list other l b)
fault_one text fault other (x.of_tree list l a) (x.of_tree list' l' b) = parse_one text list list' fault other l l' a b
fault_one text fault other (x.of_tree list l a) (x.of_types list' tree l' t b) = absurd (tree_never text list' list tree fault l' l t a)
fault_one text fault other (x.of_types list tree l t a) (x.of_tokens b) = absurd (list_no_fault text list other l b)
fault_one text fault other (x.of_types list tree l t a) (x.of_tree list' l' b) = absurd (tree_never text list list' tree other l l' t b)
fault_one text fault other (x.of_types list tree l t a) (x.of_types list' tree' l' t' b) =
    one_first text (faults_of (program_typing text tree')) fault other
    (subst (λ one. IsFirstIn text (faults_of (program_typing text one)) fault) (trees_one text list list' tree tree' l l' t t') a) b

pub never_both : (text : List ℕ) (program : Program) (fault : SourceFault) → IsProgramOf text program → IsFaultOf text fault → ⊥
never_both text program fault p (x.of_tokens a) = list_no_fault text p.tokens fault p.lexed a
never_both text program fault p (x.of_tree list l a) = tree_never text p.tokens list p.tree fault p.lexed l p.parsed a
never_both text program fault p (x.of_types list tree l t a) =
    never_typed text (program_typing text tree) program fault (ap (program_typing text) (trees_one text list p.tokens tree p.tree l p.lexed t p.parsed) ∙ p.typed) a

-- ---- of a text: one always

abbrev pub Answer : List ℕ → Type 0
Answer text = ((program : Program) × IsProgramOf text program) ⊎ ((fault : SourceFault) × IsFaultOf text fault)

of_tree : (text : List ℕ) (tokens : List Token) (tree : Tree) → AreTokens text tokens → IsTreeOfTokens text tokens tree → Answer text
of_tree text tokens tree lexed parsed = elim (typed_or_first text (program_typing text tree)) [
  | inl form ↦ inl (form.0, record { tokens = tokens; tree = tree; lexed = lexed; parsed = parsed; typed = form.1 })
  | inr fault ↦ inr (fault.0, x.of_types tokens tree lexed parsed fault.1)
]

of_tokens : (text : List ℕ) (tokens : List Token) → AreTokens text tokens → Answer text
of_tokens text tokens lexed = elim (tree_or_fault text tokens) [
  | inl found ↦ of_tree text tokens found.0 lexed found.1
  | inr fault ↦ inr (fault.0, x.of_tree tokens lexed fault.1)
]

pub program_or_fault : (text : List ℕ) → Answer text
program_or_fault text = elim (tokens_or_fault text) [
  | inl found ↦ of_tokens text found.0 found.1
  | inr fault ↦ inr (fault.0, x.of_tokens fault.1)
]

-- ---- an answer that is no program

pub refusal_only : (text : List ℕ) (fault : SourceFault) → (fault ≡ no_memory_fault) ⊎ IsFaultOf text fault → (program : Program) → IsProgramOf text program → fault ≡ no_memory_fault
refusal_only text fault (inl e) program p = e
refusal_only text fault (inr f) program p = absurd (never_both text program fault p f)

pub refusal_one : (text : List ℕ) (fault : SourceFault) → (fault ≡ no_memory_fault) ⊎ IsFaultOf text fault → (first : SourceFault) → IsFaultOf text first
    → (fault ≡ no_memory_fault) ⊎ (fault ≡ first)
refusal_one text fault (inl e) first f = inl e
refusal_one text fault (inr g) first f = inr (fault_one text fault first g f)

-- of whatever stage
pub or_fault : {P : Type 0} (text : List ℕ) (fault : SourceFault) → (P → IsFaultOf text fault) → (fault ≡ no_memory_fault) ⊎ P → (fault ≡ no_memory_fault) ⊎ IsFaultOf text fault
or_fault text fault of (inl e) = inl e
or_fault text fault of (inr p) = inr (of p)
