use Rattle.std.proofs.Common.{◌∙◌, ap, map}
use Rattle.c_grammar.proofs.Viewed.{view-chain, view-choice, view-field, view-paren, view-read, view-unary}
use Rattle.c_grammar.specs.View.{links_from, piece, view}
use Rattle.c_scope.specs.Constants.{chosen_constant, constant_of, links_constant, unary_of, unary_constant}
use Rattle.c_scope.proofs.constant.+constant.Goals as goal

pub constant_of-returns-in-Read : goal.constant_of-returns-in-Read
constant_of-returns-in-Read t c = rw (c.in-Read.is, view-read) c.place_constant.ensures

pub constant_of-returns-in-Field : goal.constant_of-returns-in-Field
constant_of-returns-in-Field t c = rw (c.in-Field.is, view-field)

pub constant_of-returns-in-Paren : goal.constant_of-returns-in-Paren
constant_of-returns-in-Paren t c = rw (c.in-Paren.is, view-paren) (rw c.deref.ensures at c.constant_of.ensures)

pub constant_of-returns-in-Unary : goal.constant_of-returns-in-Unary
constant_of-returns-in-Unary t c =
    rw (c.in-Unary.is, view-unary)
    (c.unary_constant.ensures ∙ ap (λ sign. unary_constant sign c.constant_of-in-Unary.result) c.unary_of.ensures
    ∙ ap (unary_constant (unary_of c.in-Unary.sign)) (rw c.deref-in-Unary.ensures at c.constant_of-in-Unary.ensures))

pub constant_of-returns-in-Chain : goal.constant_of-returns-in-Chain
constant_of-returns-in-Chain t c =
    rw (c.in-Chain.is, view-chain)
    ((rw c.deref-in-Chain-2.ensures.value at c.links_constant.ensures)
    ∙ ap (λ left. links_constant c.args.scope.now left (links_from (map piece c.in-Chain.links.items))) (rw c.deref-in-Chain.ensures at c.constant_of-left.ensures))

pub constant_of-returns-in-Choice : goal.constant_of-returns-in-Choice
constant_of-returns-in-Choice t c =
    rw (c.in-Choice.is, view-choice)
    (c.chosen.ensures ∙ ap (λ test. chosen_constant test c.constant_of-a.result c.constant_of-b.result) (rw c.deref-in-Choice.ensures at c.constant_of-test.ensures)
    ∙ ap (λ a. chosen_constant (constant_of c.args.scope.now (view c.in-Choice.test.value)) a c.constant_of-b.result) (rw c.deref-in-Choice-2.ensures at c.constant_of-a.ensures)
    ∙ ap (chosen_constant (constant_of c.args.scope.now (view c.in-Choice.test.value)) (constant_of c.args.scope.now (view c.in-Choice.then.value)))
    (rw c.deref-in-Choice-3.ensures at c.constant_of-b.ensures))
