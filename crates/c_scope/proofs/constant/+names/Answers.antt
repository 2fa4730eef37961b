use Rattle.std.proofs.Common.{sym, ◌∙◌, ap, ◌+◌, drop, map}
use Rattle.c_grammar.proofs.Viewed.{view-cell, view-chain, view-choice, view-field, view-number, view-paren, view-read, view-unary, view-whole}
use Rattle.c_grammar.specs.View.{links_from, piece, view}
use Rattle.c_scope.specs.Constants.{unknown_name_faults, names_in_links}
use Rattle.c_scope.specs.Least.{least_fault_from}
use Rattle.c_scope.specs.Scopes.{meaning, name_faults}
use Rattle.c_scope.proofs.Links.{names_next}
use Rattle.c_scope.proofs.Walked.{both, name_walk, three}
use Rattle.c_scope.proofs.constant.+names.Goals as goal

pub want_names_in_links-loop-link-preserved : goal.want_names_in_links-loop-link-preserved
want_names_in_links-loop-link-preserved t c =
    ap (λ b. least_fault_from b (names_in_links c.args.scope.now (links_from (map piece (drop (c.loop-link.link-index + 1) c.args.links.now))))) c.want_names.ensures
    ∙ sym (names_next c.args.scope.now c.loop-link.best c.args.links.now c.loop-link.link-index c.link-item.result c.loop-link-test.true c.link-item.is)
    ∙ c.loop-link.invariant

pub want_names-returns-in-Number : goal.want_names-returns-in-Number
want_names-returns-in-Number t c = rw (c.in-Number.is, view-number)

pub want_names-returns-in-Read : goal.want_names-returns-in-Read
want_names-returns-in-Read t c = rw (c.in-Read.is, view-read) c.want_names_in_place.ensures

pub want_names-returns-in-Field : goal.want_names-returns-in-Field
want_names-returns-in-Field t c = rw (c.in-Field.is, view-field) c.want_names_in_place-in-Field.ensures

pub want_names-returns-in-Paren : goal.want_names-returns-in-Paren
want_names-returns-in-Paren t c = rw (c.in-Paren.is, view-paren) (rw c.deref.ensures at c.want_names.ensures)

pub want_names-returns-in-Unary : goal.want_names-returns-in-Unary
want_names-returns-in-Unary t c = rw (c.in-Unary.is, view-unary) (rw c.deref-in-Unary.ensures at c.want_names-in-Unary.ensures)

pub want_names-returns-in-Chain : goal.want_names-returns-in-Chain
want_names-returns-in-Chain t c =
    rw (c.in-Chain.is, view-chain)
    (both c.args.best.now _ _ (unknown_name_faults c.args.scope.now (view c.in-Chain.first.value)) (names_in_links c.args.scope.now (links_from (map piece c.in-Chain.links.items)))
    (rw c.deref-in-Chain.ensures at c.want_names-in-Chain.ensures) (rw c.deref-in-Chain-2.ensures.value at c.want_names_in_links.ensures))

pub want_names-returns-in-Choice : goal.want_names-returns-in-Choice
want_names-returns-in-Choice t c =
    rw (c.in-Choice.is, view-choice)
    (three c.args.best.now _ _ _ (unknown_name_faults c.args.scope.now (view c.in-Choice.test.value)) (unknown_name_faults c.args.scope.now (view c.in-Choice.then.value)) (unknown_name_faults c.args.scope.now (view c.in-Choice.other.value))
    (rw c.deref-in-Choice.ensures at c.want_names-in-Choice.ensures) (rw c.deref-in-Choice-2.ensures at c.want_names-in-Choice-2.ensures)
    (rw c.deref-in-Choice-3.ensures at c.want_names-in-Choice-3.ensures))

pub want_names_in_place-returns-in-Whole : goal.want_names_in_place-returns-in-Whole
want_names_in_place-returns-in-Whole t c =
    rw (c.in-Whole.is, view-whole) (c.want_meaning.ensures ∙ ap (λ meant. least_fault_from c.args.best.now (name_faults meant c.in-Whole.name)) c.meaning.ensures)

pub want_names_in_place-returns-in-Cell : goal.want_names_in_place-returns-in-Cell
want_names_in_place-returns-in-Cell t c =
    rw (c.in-Cell.is, view-cell)
    (name_walk c.meaning-in-Cell.result (meaning c.args.scope.now c.in-Cell.name) c.in-Cell.name (unknown_name_faults c.args.scope.now (view c.in-Cell.index.value)) c.args.best.now _ _
    c.meaning-in-Cell.ensures c.want_meaning-in-Cell.ensures (rw c.deref.ensures at c.want_names.ensures))
