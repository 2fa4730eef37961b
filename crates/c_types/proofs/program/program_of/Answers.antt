use Rattle.std.proofs.Common.{Bor, ◌∙◌, ap, map}
use Rattle.std.specs.List.{position}
use Rattle.c_grammar.specs.StmtView.{external_view, head_view, tree_view}
use Rattle.c_grammar.specs.declared.statement.Head.{Head}
use Rattle.c_program.specs.View.{pure_function, pure_program}
use Rattle.c_types.specs.Programs.{heads_of, is_main}
use Rattle.c_types.proofs.Settled.{program_settled}
use Rattle.c_types.proofs.TextHeads.{text_env_of}
use Rattle.c_types.proofs.program.program_of.Goals as goal

pub returns : goal.returns
returns c =
    let tree = tree_view c.args.tree.now in
    let heads = c.in_ok-heads.ensures ∙ ap (λ externals. heads_of (map external_view externals)) c.deref.ensures.value in
    let viewed = map (λ (head : Bor Head). head_view head.now) in
    program_settled (λ all. map pure_function all.items) pure_program c.args.text.now c.in_ok-scope.scope tree (map external_view c.deref-3.result.now) (viewed c.in_ok-heads.heads.items)
    c.main_number-main.result c.in_ok-functions.functions c.program.result (c.in_ok-scope.ensures ∙ text_env_of c.args.text.now c.in_ok-heads.heads.items tree heads)
    (ap (map external_view) c.deref-3.ensures.value)
    (c.main_number-main.ensures ∙ ap (λ heads. position (is_main c.args.text.now) (viewed heads)) c.deref-2.ensures.value) heads c.in_ok-functions.ensures c.program.ensures
