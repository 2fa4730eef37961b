-- Tokens have a tree or a first fault, and one of them alone.
use Rattle.std.proofs.Common.{◌≡◌, ◌⊎◌, inl, inr, ℕ, List, Ok, Err, refl, sym, ap, ◌∙◌, subst}
use Rattle.c_lex.specs.declared.fault.SourceFault.{SourceFault}
use Rattle.c_lex.specs.declared.token.Token.{Token}
use Rattle.c_lex.specs.Places.{IsPlaceOf}
use Rattle.c_lex.proofs.Existence.{fault_of}
use Rattle.c_grammar.specs.Tree.{Tree}
use Rattle.c_grammar.specs.Programs as programs
use Rattle.c_grammar.specs.Reading.{Answer, Fault}
use Rattle.c_grammar.specs.StmtReading.{read_whole_text}
use Rattle.c_grammar.proofs.Programs.{read_tree, read_fault, tree_no_fault}
use Rattle.c_grammar.proofs.Firsts.{fault_read}
use Rattle.c_parse.specs.Parsing.{IsFirstSyntaxFault, IsTreeOfTokens, place_of_first, terminals_of}
use Rattle.c_parse.proofs.Parsed.{one_refusal}

pub one_fault : (text : List ℕ) (tokens : List Token) (fault other : SourceFault) → IsFirstSyntaxFault text tokens fault → IsFirstSyntaxFault text tokens other → fault ≡ other
one_fault text tokens fault other u v =
    let p : Fault = record { why = fault.why; rest = u.0 } in
    let q : Fault = record { why = other.why; rest = v.0 } in
    let m : ◌≡◌ {A = Answer Tree} (Err p) (Err q) = sym (fault_read _ fault.why u.0 u.1) ∙ fault_read _ other.why v.0 v.1 in
    let e : p ≡ q = cc in
    let why : fault.why ≡ other.why = ap (λ (f : Fault). f.why) e in
    let rest : u.0 ≡ v.0 = ap (λ (f : Fault). f.rest) e in
    one_refusal text (place_of_first text v.0) fault other why (subst (λ z. IsPlaceOf text (place_of_first text z) fault.line fault.column) rest u.2) v.2

pub never_both : (text : List ℕ) (tokens : List Token) (tree : Tree) (fault : SourceFault) → IsTreeOfTokens text tokens tree → IsFirstSyntaxFault text tokens fault → ⊥
never_both text tokens tree fault is one = tree_no_fault _ tree fault.why one.0 is (fault_read _ fault.why one.0 one.1)

pub tree_or_fault : (text : List ℕ) (tokens : List Token) → ((tree : Tree) × IsTreeOfTokens text tokens tree) ⊎ ((fault : SourceFault) × IsFirstSyntaxFault text tokens fault)
tree_or_fault text tokens = told (read_whole_text (terminals_of text tokens)) refl
  where
    told : (answer : Answer Tree) → read_whole_text (terminals_of text tokens) ≡ answer
        → ((tree : Tree) × IsTreeOfTokens text tokens tree) ⊎ ((fault : SourceFault) × IsFirstSyntaxFault text tokens fault)
    told (Ok (tree, rest)) read = inl (tree, read_tree _ tree rest read)
    told (Err stop) read =
        let there = fault_of text (place_of_first text stop.rest) stop.why in
        inr (there.0, (stop.rest, subst (λ w. programs.IsSyntaxFault (terminals_of text tokens) w stop.rest) (sym there.1) (read_fault _ stop.why stop.rest read), there.2))
