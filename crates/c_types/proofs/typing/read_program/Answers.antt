use Rattle.std.proofs.lemmas.Result.{err_from_is_err_and}
use Rattle.c_grammar.specs.StmtView.{tree_view}
use Rattle.c_program.specs.View.{pure_program}
use Rattle.c_types.specs.Checks as x
use Rattle.c_types.proofs.Laws.{never_both, or_fault, refusal_one}
use Rattle.c_types.proofs.typing.read_program.Goals as goal

pub returns-in_err-tree-clause-fault : goal.returns-in_err-tree-clause-fault
returns-in_err-tree-clause-fault c =
    let p = err_from_is_err_and c.from_residual-in_err-tree.result c.from_residual-in_err-tree.ensures.1 in
    rw (p.1, p.2) (or_fault c.args.text.now c.in_err-tree.field-0.0 (x.of_tree c.in_ok-tokens.tokens c.in_ok-tokens.ensures.list) c.in_err-tree.ensures.fault)

pub returns-in_err-tree-clause-only_fault : goal.returns-in_err-tree-clause-only_fault
returns-in_err-tree-clause-only_fault c = λ first is.
    let p = err_from_is_err_and c.from_residual-in_err-tree.result c.from_residual-in_err-tree.ensures.1 in
    rw (p.1, p.2)
    (refusal_one c.args.text.now c.in_err-tree.field-0.0
    (or_fault c.args.text.now c.in_err-tree.field-0.0 (x.of_tree c.in_ok-tokens.tokens c.in_ok-tokens.ensures.list) c.in_err-tree.ensures.fault) first is)

pub returns-in_err-program-clause-fault : goal.returns-in_err-program-clause-fault
returns-in_err-program-clause-fault c =
    let p = err_from_is_err_and c.from_residual-in_err-program.result c.from_residual-in_err-program.ensures.1 in
    rw (p.1, p.2)
    (or_fault c.args.text.now c.in_err-program.field-0.0 (x.of_types c.in_ok-tokens.tokens (tree_view c.in_ok-tree.tree) c.in_ok-tokens.ensures.list c.in_ok-tree.ensures.tree)
    c.in_err-program.ensures.fault)

pub returns-in_err-program-clause-only_fault : goal.returns-in_err-program-clause-only_fault
returns-in_err-program-clause-only_fault c = λ first is.
    let p = err_from_is_err_and c.from_residual-in_err-program.result c.from_residual-in_err-program.ensures.1 in
    rw (p.1, p.2)
    (refusal_one c.args.text.now c.in_err-program.field-0.0
    (or_fault c.args.text.now c.in_err-program.field-0.0 (x.of_types c.in_ok-tokens.tokens (tree_view c.in_ok-tree.tree) c.in_ok-tokens.ensures.list c.in_ok-tree.ensures.tree)
    c.in_err-program.ensures.fault) first is)

pub returns-clause-only_fault : goal.returns-clause-only_fault
returns-clause-only_fault c = λ first is.
    never_both c.args.text.now (pure_program c.in_ok-program.program) first
    (record {
      tokens = c.in_ok-tokens.tokens;
      tree = tree_view c.in_ok-tree.tree;
      lexed = c.in_ok-tokens.ensures.list;
      parsed = c.in_ok-tree.ensures.tree;
      typed = c.in_ok-program.ensures.program;
    }) is
