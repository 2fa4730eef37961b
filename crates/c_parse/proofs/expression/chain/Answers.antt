use Rattle.std.proofs.Common.{◌≡◌, ◌<◌, ◌==◌, Bool, false, true, ℕ, zero, suc, List, [], ◌∷◌, length, map, refl, sym, ap, ◌∙◌, arith, eq-eqb}
use Rattle.c_grammar.specs.declared.tree.Link.{Link}
use Rattle.c_grammar.specs.Tree as t
use Rattle.c_grammar.specs.View.{view, piece, links_from}
use Rattle.c_grammar.specs.Reading.{chain_or_operand}
use Rattle.c_grammar.proofs.Viewed.{view-chain}
use Rattle.c_parse.proofs.expression.chain.Goals as goal

some : (test : Bool) (n m : ℕ) → test ≡ false → test ≡ (n == 0) → n ≡ m → 0 < m
some test n zero p q r = absurd (let k : (n == 0) ≡ true = eq-eqb n 0 r in cc)
some test n (suc m) p q r = omega arith

chained_some : (k : ℕ) (e : t.Expr) (ls : List Link) → 0 < length ls → chain_or_operand k e (map piece ls) ≡ t.chain k e (links_from (map piece ls))
chained_some k e [] h = absurd (omega arith)
chained_some k e (l ∷ ls) h = refl

pub returns : goal.returns
returns c =
    view-chain c.args.level c.in-Ok.first c.args.links
    ∙ ap (λ z. t.chain c.args.level z (links_from (map piece c.args.links.items))) (ap view c.in-Ok.ensures)
    ∙ sym (chained_some c.args.level _ c.args.links.items (some _ _ _ c.if-is_empty.false c.is_empty.ensures c.args.links.ok.0))
