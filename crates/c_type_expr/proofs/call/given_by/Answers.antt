use Rattle.std.proofs.Common.{Ok, map, option_map, refl, slice_get}
use Rattle.c_grammar.specs.StmtView.{argument_view}
use Rattle.c_lex.specs.declared.fault.Why.TheVariants.{WrongType}
use Rattle.c_names.specs.declared.kind.VariableKind.TheVariants.{Int}
use Rattle.c_program.specs.Tree as pure
use Rattle.c_program.specs.View.{pure_call, pure_right}
use Rattle.c_scope.specs.Kinds.{kind_faults}
use Rattle.c_scope.specs.Typing.{also, behind, onto, refused}
use Rattle.c_scope.specs.Walks.{Gives}
use Rattle.c_scope.specs.declared.meaning.ExprKind.TheVariants.{Of}
use Rattle.c_scope.proofs.Gives.{walked_onto}
use Rattle.c_type_expr.specs.Calls.{gives_int}
use Rattle.c_type_expr.specs.ExprTyping.{function_typing}
use Rattle.c_type_expr.proofs.CallRules.{behind_refused, else_given, then_given}
use Rattle.c_type_expr.proofs.WalkRules.{kind_rule}
use Rattle.c_type_expr.proofs.call.given_by.Goals as goal

pub returns-then-not-gives_int : goal.returns-then-not-gives_int
returns-then-not-gives_int c =
    let call = function_typing c.args.scope.now c.args.name c.args.number (map (λ one. argument_view one.now) c.args.given.now) in
    else_given (λ t. Gives c.args.best.now c.refused.new.best (option_map pure_right c.refused.result) t) (gives_int (slice_get c.args.scope.now.functions c.args.number))
    c.gives_int.result (also (kind_faults c.args.wanted (Of Int) c.args.name) (onto pure.called call)) (behind call (refused c.args.name WrongType)) c.gives_int.ensures c.if-not-gives_int.true
    (behind_refused pure_right call c.args.name WrongType c.args.best.now c.function_of.new.best c.refused.new.best (option_map pure_call c.in_ok-function_of.field-0) c.refused.result
    c.in_ok-function_of.ensures c.refused.ensures)

pub returns : goal.returns
returns c =
    let call = function_typing c.args.scope.now c.args.name c.args.number (map (λ one. argument_view one.now) c.args.given.now) in
    then_given (λ t. Gives c.args.best.now c.of_kind.new.best (option_map pure_right c.of_kind.result) t) (gives_int (slice_get c.args.scope.now.functions c.args.number))
    c.gives_int.result (also (kind_faults c.args.wanted (Of Int) c.args.name) (onto pure.called call)) (behind call (refused c.args.name WrongType)) c.gives_int.ensures c.if-not-gives_int.false
    (kind_rule pure_right c.args.wanted (Of Int) (Of Int) c.args.name c.args.name (onto pure.called call) c.args.best.now c.function_of-2.new.best c.of_kind.new.best c.in_ok-found.found
    c.of_kind.result
    (walked_onto c.args.best.now c.function_of-2.new.best pure_call pure_right pure.called call c.function_of-2.result (Ok c.in_ok-found.found) c.function_of-2.ensures c.in_ok-found.ensures)
    refl refl c.of_kind.ensures.best c.of_kind.ensures.form)
