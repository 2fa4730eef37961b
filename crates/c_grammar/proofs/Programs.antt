-- Whole programs: what is read is the one tree of the terminals, and where reading stops is the first fault of the grammar.
use Rattle.std.proofs.Common.{◌≡◌, List, [], ◌∷◌, Option, Some, None, Ok, Err, refl, sym, ap, ◌∙◌, subst}
use Rattle.c_lex.specs.declared.fault.Why.{Why}
use Rattle.c_lex.specs.declared.fault.Why.TheVariants.{Unexpected, TooDeep}
use Rattle.c_grammar.specs.declared.terminal.Terminal.{Terminal}
use Rattle.c_grammar.specs.Tree.{Tree}
use Rattle.c_grammar.specs.StmtGrammar.{spell_tree, AreExternals}
use Rattle.c_grammar.specs.Programs.{spelling, first_too_deep, IsTree, IsSyntaxFault}
use Rattle.c_grammar.specs.Reading.{Answer, Fault, refuse}
use Rattle.c_grammar.specs.StmtReading.{read_whole_text}
use Rattle.c_grammar.proofs.Laws.{GoesOn, HasHead, outcome}
use Rattle.c_grammar.proofs.Exact.{unexpected_is, too_deep_is, text_read}
use Rattle.c_grammar.proofs.ExternalLaws.{program_laws, program_ends}

pub complete : (tree : Tree) → AreExternals tree → read_whole_text (spelling tree) ≡ outcome (first_too_deep tree) tree []
complete tree g = program_laws.complete tree [] g (refl, λ p h. tt)

pub goes : (ts : List Terminal) (f : Fault) → read_whole_text ts ≡ Err f → GoesOn (λ tree rest. spelling tree) AreExternals ts f
goes ts f h = let g = program_laws.goes ts f h in record { front = g.front; is = g.is; head = g.head; tree = g.tree; good = g.good; goes = λ rest. g.goes [] }

-- a tree of the terminals is what is read
pub tree_read : (ts : List Terminal) (tree : Tree) → IsTree ts tree → read_whole_text ts ≡ Ok (tree, [])
tree_read ts tree h = text_read spelling AreExternals first_too_deep read_whole_text program_laws.local complete goes ts tree h

-- what is read is a tree of the terminals
pub read_tree : (ts : List Terminal) (tree : Tree) (rest : List Terminal) → read_whole_text ts ≡ Ok (tree, rest) → IsTree ts tree
read_tree ts tree rest h =
    let s = program_laws.sound ts (tree, rest) h in
    let e : rest ≡ [] = program_ends ts (tree, rest) h in
    let w : ts ≡ spelling tree = subst (λ z. ts ≡ spell_tree tree z) e s.0 in
    (s.1, w, none (first_too_deep tree) (sym (complete tree s.1) ∙ ap read_whole_text (sym w) ∙ h))
  where
    none : (o : Option (List Terminal)) → outcome o tree [] ≡ Ok (tree, rest) → o ≡ None
    none None k = refl
    none (Some d) k = absurd (cc)

tree_or : Tree → Answer Tree → Tree
tree_or d (Ok y) = y.0
tree_or d (Err f) = d

-- so there is one tree at most
pub one_tree : (ts : List Terminal) (a b : Tree) → IsTree ts a → IsTree ts b → a ≡ b
unfolding tree_or
one_tree ts a b g h = ap (λ (z : Answer Tree). tree_or a z) (sym (tree_read ts a g) ∙ tree_read ts b h)

-- where reading stops is the first fault
pub read_fault : (ts : List Terminal) (why : Why) (rest : List Terminal) → read_whole_text ts ≡ refuse why rest → IsSyntaxFault ts why rest
read_fault ts why rest h = go why rest (goes ts (record { why = why; rest = rest }) h).head h
  where
    go : (why : Why) (rest : List Terminal) → HasHead why rest → read_whole_text ts ≡ refuse why rest → IsSyntaxFault ts why rest
    go Unexpected rest k h = unexpected_is spelling AreExternals first_too_deep read_whole_text program_laws.local complete goes ts rest h
    go TooDeep [] k h = absurd k
    go TooDeep (x ∷ rest) k h = too_deep_is spelling AreExternals first_too_deep read_whole_text program_laws.local complete goes ts (x ∷ rest) x rest refl h
    go _ rest k h = absurd k

-- a text has a tree or a fault, and not both
pub tree_no_fault : (ts : List Terminal) (tree : Tree) (why : Why) (rest : List Terminal) → IsTree ts tree → read_whole_text ts ≡ refuse why rest → ⊥
tree_no_fault ts tree why rest t h = absurd (let m : ◌≡◌ {A = Answer Tree} (refuse why rest) (Ok (tree, [])) = sym h ∙ tree_read ts tree t in cc)
