use Rattle.std.proofs.Common.{rules, arith, refl, Ok, ◌+◌, ℕ, drop, map, pos}
use Rattle.std.proofs.lemmas.Grind.{common_steps}
use Rattle.std.specs.declared.alloc.AllocError.{AllocError}
use Rattle.c_grammar.proofs.Viewed.{view-cell, view-chain, view-choice, view-field, view-number, view-paren, view-read, view-unary, view-whole}
use Rattle.c_grammar.specs.Tree as tree
use Rattle.c_grammar.specs.View.{links_from, piece, place_view, view}
use Rattle.c_names.specs.declared.kind.VariableKind.TheVariants.{Int, Status}
use Rattle.c_program.specs.Tree as pure
use Rattle.c_program.specs.Tree.{TypedExpr}
use Rattle.c_program.specs.View.{pure_expr, pure_link, pure_links, pure_place, typed_links}
use Rattle.c_program.specs.declared.expr.Field.{Field}
use Rattle.c_scope.proofs.Gives.{walked_onto}
use Rattle.c_scope.proofs.JoinRules.{so_far_first, so_far_last, so_far_next, walked_boxed, walked_pair, walked_plain}
use Rattle.c_scope.specs.Constants.{unary_of}
use Rattle.c_scope.specs.Kinds.{first_token, kind_of, place_first_token, place_kind}
use Rattle.c_scope.specs.Literals.{literal_at}
use Rattle.c_scope.specs.Scopes.{meaning}
use Rattle.c_scope.specs.Typing.{both}
use Rattle.c_scope.specs.declared.meaning.ExprKind.TheVariants.{Of}
use Rattle.c_type_expr.proofs.WalkRules.{before, kind_rule, link_rule, link_typing, links_left, links_placed, no_links_left, number_rule}
use Rattle.c_type_expr.specs.ExprTyping.{as_status, expr_typing, field_typing, indexed_typing, int_typing, links_typing, place_typing}
use Rattle.c_type_expr.proofs.expression.+walk.Goals as goal

pub expr_of-returns-in-Number : goal.expr_of-returns-in-Number
expr_of-returns-in-Number t c =
    rw (c.in-Number.is, view-number)
    (number_rule _ (pos (literal_at c.args.scope.now.text c.in-Number.at)) c.args.best.now (first_of (search rules, grind (arith, common_steps))))

pub expr_of-returns-in-Read : goal.expr_of-returns-in-Read
expr_of-returns-in-Read t c = rw (c.in-Read.is, view-read) c.read_of.ensures

pub expr_of-returns-in-Field : goal.expr_of-returns-in-Field
expr_of-returns-in-Field t c =
    rw (c.in-Field.is, view-field)
    (walked_pair c.args.best.now c.status_of.new.best c.field_in.new.best pure_place (λ (one : Field). one) pure_expr pure.field
    (as_status c.args.scope.now (place_view c.in-Field.place) (place_typing c.args.scope.now (place_view c.in-Field.place)))
    (field_typing c.args.scope.now (place_kind c.args.scope.now (place_view c.in-Field.place)) c.in-Field.name) c.status_of.result (Ok c.field_in.result) c.both.result
    c.field.result c.status_of.ensures
    (walked_plain AllocError c.status_of.new.best c.field_in.new.best c.field_in.result
    (field_typing c.args.scope.now (place_kind c.args.scope.now (place_view c.in-Field.place)) c.in-Field.name) (rw c.place_kind.ensures at c.field_in.ensures)) c.both.ensures
    c.field.ensures)

pub expr_of-returns-in-Paren : goal.expr_of-returns-in-Paren
expr_of-returns-in-Paren t c = rw (c.in-Paren.is, view-paren) (rw c.deref.ensures at c.int_of.ensures)

pub expr_of-returns-in-Unary : goal.expr_of-returns-in-Unary
expr_of-returns-in-Unary t c =
    rw (c.in-Unary.is, view-unary)
    (walked_onto c.args.best.now c.int_of-in-Unary.new.best (λ held. pure_expr held.value) pure_expr (pure.signed (unary_of c.in-Unary.sign))
    (int_typing c.args.scope.now (view c.in-Unary.operand.value)) c.in_box.result c.signed.result
    (walked_boxed c.args.best.now c.int_of-in-Unary.new.best pure_expr (int_typing c.args.scope.now (view c.in-Unary.operand.value)) c.int_of-in-Unary.result c.in_box.result
    (rw c.deref-in-Unary.ensures at c.int_of-in-Unary.ensures) c.in_box.ensures) (rw c.unary_of.ensures at c.signed.ensures))

pub expr_of-returns-in-Chain : goal.expr_of-returns-in-Chain
expr_of-returns-in-Chain t c =
    let first = view c.in-Chain.first.value in
    let links = links_from (map piece c.in-Chain.links.items) in
    rw (c.in-Chain.is, view-chain)
    (walked_pair c.args.best.now c.expr_of.new.best c.links_of.new.best (λ held. pure_expr held.value) (λ all. pure_links all.items) pure_expr pure.chain
    (expr_typing c.args.scope.now first) (links_typing c.args.scope.now (kind_of c.args.scope.now first) (first_token first) links) c.in_box-in-Chain.result c.links_of.result
    c.both-in-Chain.result c.chain.result
    (walked_boxed c.args.best.now c.expr_of.new.best pure_expr (expr_typing c.args.scope.now first) c.expr_of.result c.in_box-in-Chain.result
    (rw c.deref-in-Chain.ensures at c.expr_of.ensures) c.in_box-in-Chain.ensures)
    (rw (c.kind_of.ensures, c.first_token.ensures, c.deref-in-Chain-2.ensures, c.deref-in-Chain-3.ensures, c.deref-in-Chain-4.ensures.value) at c.links_of.ensures)
    c.both-in-Chain.ensures c.chain.ensures)

pub expr_of-returns-in-Choice : goal.expr_of-returns-in-Choice
expr_of-returns-in-Choice t c =
    let test = int_typing c.args.scope.now (view c.in-Choice.test.value) in
    let then = int_typing c.args.scope.now (view c.in-Choice.then.value) in
    let other = int_typing c.args.scope.now (view c.in-Choice.other.value) in
    let taken = c.int_of-in-Choice-2.new.best in
    let form : TypedExpr → TypedExpr → TypedExpr → TypedExpr = λ test then other. pure.choice test then other in
    rw (c.in-Choice.is, view-choice)
    (walked_pair c.args.best.now taken c.int_of-in-Choice-3.new.best (λ pair. form (pure_expr pair.0.value) (pure_expr pair.1.value)) (λ held. pure_expr held.value)
    pure_expr (λ with last. with last) (both form test then) other c.both-in-Choice.result c.in_box-in-Choice-3.result c.both-in-Choice-2.result c.choice.result
    (walked_pair c.args.best.now c.int_of-in-Choice.new.best taken (λ held. pure_expr held.value) (λ held. pure_expr held.value)
    (λ pair. form (pure_expr pair.0.value) (pure_expr pair.1.value)) form test then c.in_box-in-Choice.result c.in_box-in-Choice-2.result c.both-in-Choice.result
    c.both-in-Choice.result
    (walked_boxed c.args.best.now c.int_of-in-Choice.new.best pure_expr test c.int_of-in-Choice.result c.in_box-in-Choice.result
    (rw c.deref-in-Choice.ensures at c.int_of-in-Choice.ensures) c.in_box-in-Choice.ensures)
    (walked_boxed c.int_of-in-Choice.new.best taken pure_expr then c.int_of-in-Choice-2.result c.in_box-in-Choice-2.result
    (rw c.deref-in-Choice-2.ensures at c.int_of-in-Choice-2.ensures) c.in_box-in-Choice-2.ensures) c.both-in-Choice.ensures refl)
    (walked_boxed taken c.int_of-in-Choice-3.new.best pure_expr other c.int_of-in-Choice-3.result c.in_box-in-Choice-3.result
    (rw c.deref-in-Choice-3.ensures at c.int_of-in-Choice-3.ensures) c.in_box-in-Choice-3.ensures) c.both-in-Choice-2.ensures c.choice.ensures)

pub int_of-returns : goal.int_of-returns
int_of-returns t c =
    kind_rule pure_expr (Of Int) c.kind_of.result (kind_of c.args.scope.now (view c.args.e.now)) c.first_token.result (first_token (view c.args.e.now))
    (expr_typing c.args.scope.now (view c.args.e.now)) c.args.best.now c.expr_of.new.best c.of_kind.new.best c.in_ok-found.found c.of_kind.result c.in_ok-found.ensures
    c.kind_of.ensures c.first_token.ensures c.of_kind.ensures.best c.of_kind.ensures.form

pub links_of-loop-link-init : goal.links_of-loop-link-init
links_of-loop-link-init t c =
    so_far_first before pure_link c.args.best.now c.new-typed.result.items (links_typing c.args.scope.now c.args.left c.args.left_at (links_from (map piece c.args.links.now)))
    c.new-typed.ensures.items

pub links_of-loop-link-preserved : goal.links_of-loop-link-preserved
links_of-loop-link-preserved t c =
    let env = c.args.scope.now in let at = c.args.left_at in let links = c.args.links.now in
    let i = c.loop-link.link-index in let link = c.link-item.result in let kind = c.loop-link.kind in
    so_far_next before pure_link c.args.best.now c.loop-link.best c.of_operands-operand.new.best c.loop-link.faulty c.keep.new.faulty c.loop-link.typed.items c.keep.new.forms.items
    c.linked.result (link_typing env kind at link) (links_typing env kind at (links_from (map piece (drop i links))))
    (links_typing env (Of Int) at (links_from (map piece (drop (i + 1) links)))) (links_typing env c.args.left at (links_from (map piece links)))
    (links_left env kind at links i link c.loop-link-test.true c.link-item.is)
    (link_rule env kind at link c.loop-link.best c.expr_of.new.best c.of_operands-operand.new.best c.in_ok-operand.operand c.of_operands-operand.result c.linked.result
    c.in_ok-operand.ensures (rw (c.kind_of-right.ensures, c.first_token-right_at.ensures) at c.of_operands-operand.ensures.best)
    (rw (c.kind_of-right.ensures, c.first_token-right_at.ensures) at c.of_operands-operand.ensures.form) (rw c.operator_of.ensures at c.linked.ensures))
    c.in_ok-keep.ensures c.loop-link.invariant

pub links_of-returns : goal.links_of-returns
links_of-returns t c =
    let env = c.args.scope.now in let at = c.args.left_at in let links = c.args.links.now in
    let i = c.loop-link.link-index in let kind = c.loop-link.kind in
    so_far_last before pure.no_link typed_links pure_link c.args.best.now c.loop-link.best c.loop-link.faulty c.loop-link.typed.items
    (links_typing env kind at (links_from (map piece (drop i links)))) (links_typing env c.args.left at (links_from (map piece links))) c.all.result links_placed
    (no_links_left env kind at links i c.loop-link-test.false) c.all.ensures c.loop-link.invariant

pub place_of-returns-in-Whole : goal.place_of-returns-in-Whole
place_of-returns-in-Whole t c = rw (c.in-Whole.is, view-whole) c.whole_of.ensures

pub place_of-returns-in-Cell : goal.place_of-returns-in-Cell
place_of-returns-in-Cell t c =
    let array = indexed_typing c.args.scope.now c.in-Cell.name (meaning c.args.scope.now c.in-Cell.name) in
    let index = int_typing c.args.scope.now (view c.in-Cell.index.value) in
    rw (c.in-Cell.is, view-cell)
    (walked_pair c.args.best.now c.indexed_of.new.best c.int_of.new.best (λ (one : ℕ). one) (λ held. pure_expr held.value) pure_place pure.element array index
    (Ok c.indexed_of.result) c.in_box.result c.both.result c.element.result
    (walked_plain AllocError c.args.best.now c.indexed_of.new.best c.indexed_of.result array c.indexed_of.ensures)
    (walked_boxed c.indexed_of.new.best c.int_of.new.best pure_expr index c.int_of.result c.in_box.result (rw c.deref.ensures at c.int_of.ensures) c.in_box.ensures)
    c.both.ensures c.element.ensures)

pub read_of-returns-in-Whole : goal.read_of-returns-in-Whole
read_of-returns-in-Whole t c = rw (c.in-Whole.is, view-whole) c.name_of.ensures

pub read_of-returns-in-Cell : goal.read_of-returns-in-Cell
read_of-returns-in-Cell t c =
    let place = tree.cell c.in-Cell.name c.in-Cell.opening (view c.in-Cell.index.value) c.in-Cell.closing in
    rw (c.in-Cell.is, view-cell)
    (walked_onto c.args.best.now c.place_of.new.best pure_place pure_expr pure.read (place_typing c.args.scope.now place) c.place_of.result c.read.result
    (rw (c.in-Cell.is, view-cell) at c.place_of.ensures) c.read.ensures)

pub status_of-returns : goal.status_of-returns
status_of-returns t c =
    kind_rule pure_place (Of Status) c.place_kind.result (place_kind c.args.scope.now (place_view c.args.place.now)) c.place_first_token.result
    (place_first_token (place_view c.args.place.now)) (place_typing c.args.scope.now (place_view c.args.place.now)) c.args.best.now c.place_of.new.best c.of_kind.new.best
    c.in_ok-found.found c.of_kind.result c.in_ok-found.ensures c.place_kind.ensures c.place_first_token.ensures c.of_kind.ensures.best c.of_kind.ensures.form
