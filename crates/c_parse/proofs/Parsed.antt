-- From what was read to what the parser answers.
use Rattle.std.proofs.Common.{◌≡◌, ◌⊎◌, inl, inr, ◌≤◌, ◌+◌, ◌-◌, ℕ, List, [], ◌∷◌, ◌++◌, length, Ok, Err, sym, ap, ◌∙◌, subst, arith}
use Rattle.c_lex.specs.declared.fault.SourceFault.{SourceFault}
use Rattle.c_lex.specs.declared.fault.Why.{Why}
use Rattle.c_lex.specs.declared.fault.Why.TheVariants.{Unexpected, TooDeep}
use Rattle.c_lex.specs.declared.token.Token.{Token}
use Rattle.c_lex.specs.NoMemory.{no_memory_fault}
use Rattle.c_lex.specs.Places.{IsPlaceOf}
use Rattle.c_lex.specs.Readings.{AreSlices}
use Rattle.c_lex.proofs.Laws.{begin_one}
use Rattle.c_grammar.specs.declared.terminal.Terminal.{Terminal}
use Rattle.c_grammar.specs.Tree.{Tree}
use Rattle.c_grammar.specs.Programs as programs
use Rattle.c_grammar.specs.Reading.{Answer, Fault, refuse}
use Rattle.c_grammar.specs.StmtReading.{read_whole_text}
use Rattle.c_grammar.proofs.Programs.{read_tree, one_tree, read_fault, tree_no_fault}
use Rattle.c_grammar.proofs.Firsts.{fault_read}
use Rattle.c_parse.specs.declared.read.ParseError.{ParseError}
use Rattle.c_parse.specs.declared.read.ParseError.TheVariants.{Memory, At}
use Rattle.c_parse.specs.inside.Gives.{FailsToRead}
use Rattle.c_parse.specs.Terminals.{terminal_of}
use Rattle.c_parse.specs.Parsing.{IsFirstSyntaxFault, IsTreeOfTokens, place_of_first, terminals_of}
use Rattle.c_parse.specs.inside.Locating.{IsLocated, StandsWithin}

-- a fault's terminals are the last ones of the text
rest_is : (terminals : List Terminal) (why : Why) (rest : List Terminal) → programs.IsSyntaxFault terminals why rest → (front : List Terminal) × (terminals ≡ front ++ rest)
rest_is terminals Unexpected rest h = (h.front, h.is)
rest_is terminals TooDeep rest h = (h.front, h.is)
rest_is terminals _ rest h = absurd h

place_within : (text : List ℕ) (from : ℕ) (tokens : List Token) (front rest : List Terminal) → AreSlices text from tokens → terminals_of text tokens ≡ front ++ rest
    → place_of_first text rest ≤ length text
place_within text from tokens [] [] slices is = omega arith
place_within text from [] [] (terminal ∷ rest) slices is = absurd (cc)
place_within text from (token ∷ tokens) [] (terminal ∷ rest) slices is =
    let same : terminal_of text token ≡ terminal = cc in
    let start : token.start ≡ terminal.span.start = ap (λ (s : Terminal). s.span.start) same in
    omega (arith, slices.1)
place_within text from [] (first ∷ front) rest slices is = absurd (cc)
place_within text from (token ∷ tokens) (first ∷ front) rest slices is =
    place_within text (token.start + token.len) tokens front rest slices.2 (cc)

-- two refusals for one reason at one place are one
pub one_refusal : (text : List ℕ) (place : ℕ) (first other : SourceFault) → first.why ≡ other.why
    → IsPlaceOf text place first.line first.column → IsPlaceOf text place other.line other.column → first ≡ other
one_refusal text place first other why u v =
    let line : first.line ≡ other.line = u.line_is ∙ sym v.line_is in
    let column : first.column ≡ other.column = u.column_is ∙ ap (λ begin. place - begin + 1) (begin_one u.begins v.begins) ∙ sym v.column_is in
    let fault_of : ℕ → ℕ → Why → SourceFault = λ l c w. record { line = l; column = c; why = w } in
    ap (λ l. fault_of l first.column first.why) line ∙ ap (λ c. fault_of other.line c first.why) column ∙ ap (fault_of other.line other.column) why

module _ (text : List ℕ) (tokens : List Token) (terminals : List Terminal) (same : terminals ≡ terminals_of text tokens) where
  pub tree_is : (tree : Tree) → read_whole_text terminals ≡ Ok (tree, []) → IsTreeOfTokens text tokens tree
  tree_is tree read = read_tree _ tree [] (ap read_whole_text (sym same) ∙ read)

  pub only_tree : (found tree : Tree) → read_whole_text terminals ≡ Ok (found, []) → IsTreeOfTokens text tokens tree → found ≡ tree
  only_tree found tree read is = one_tree _ found tree (tree_is found read) is

  pub no_fault : (found : Tree) (first : SourceFault) → read_whole_text terminals ≡ Ok (found, []) → IsFirstSyntaxFault text tokens first → ⊥
  no_fault found first read is = tree_no_fault _ found first.why is.0 (tree_is found read) (fault_read _ first.why is.0 is.1)

  there : (why : Why) (rest : List Terminal) → read_whole_text terminals ≡ refuse why rest → programs.IsSyntaxFault (terminals_of text tokens) why rest
  there why rest read = read_fault _ why rest (ap read_whole_text (sym same) ∙ read)

  pub stands_within : (error : ParseError) → AreSlices text 0 tokens → FailsToRead error (read_whole_text terminals) → StandsWithin text error
  stands_within Memory slices read = tt
  stands_within (At why rest) slices read =
      let r = rest_is _ why rest.now (there why rest.now read) in place_within text 0 tokens r.0 rest.now slices r.1

  pub fault_is : (error : ParseError) (fault : SourceFault) → FailsToRead error (read_whole_text terminals) → IsLocated text error fault → (fault ≡ no_memory_fault) ⊎ IsFirstSyntaxFault text tokens fault
  fault_is Memory fault read is = inl is
  fault_is (At why rest) fault read is =
      inr (rest.now, subst (λ w. programs.IsSyntaxFault (terminals_of text tokens) w rest.now) (sym is.0) (there why rest.now read), is.1)

  pub no_tree : (error : ParseError) (fault : SourceFault) (tree : Tree) → FailsToRead error (read_whole_text terminals) → IsLocated text error fault → IsTreeOfTokens text tokens tree → fault ≡ no_memory_fault
  no_tree Memory fault tree read is found = is
  no_tree (At why rest) fault tree read is found = absurd (tree_no_fault _ tree why rest.now found (ap read_whole_text (sym same) ∙ read))

  pub only_fault : (error : ParseError) (fault first : SourceFault) → FailsToRead error (read_whole_text terminals) → IsLocated text error fault → IsFirstSyntaxFault text tokens first
      → (fault ≡ no_memory_fault) ⊎ (fault ≡ first)
  only_fault Memory fault first read is one = inl is
  only_fault (At why rest) fault first read is one =
      let p : Fault = record { why = why; rest = rest.now } in let q : Fault = record { why = first.why; rest = one.0 } in
      let m : ◌≡◌ {A = Answer Tree} (Err p) (Err q) = sym (ap read_whole_text (sym same) ∙ read) ∙ fault_read _ first.why one.0 one.1 in
      let e : p ≡ q = cc in
      let whys : why ≡ first.why = ap (λ (f : Fault). f.why) e in let rests : rest.now ≡ one.0 = ap (λ (f : Fault). f.rest) e in
      inr (one_refusal text (place_of_first text one.0) fault first (is.0 ∙ whys)
      (subst (λ z. IsPlaceOf text (place_of_first text z) fault.line fault.column) rests is.1) one.2)
