use Rattle.std.proofs.Common.{Bor, rules, tests, ◌∙◌}
use Rattle.std.proofs.lemmas.Iterator.{YieldsList-from_slice}
use Rattle.std.proofs.lemmas.Iterator.Search.{position_from_yields_List}
use Rattle.c_grammar.specs.StmtView.{head_view}
use Rattle.c_grammar.specs.declared.statement.Head.{Head}
use Rattle.c_types.specs.Programs.{is_main}
use Rattle.c_types.proofs.TextHeads.{position_viewed}
use Rattle.c_types.proofs.heads.main_number.Goals as goal

pub returns : goal.returns
returns c =
    position_from_yields_List (λ (head : Bor Head). is_main c.args.text.now (head_view head.now)) _ _ _ c.position.ensures.ran (YieldsList-from_slice c.args.heads.now cc)
    (λ x b q k. search (rules, tests))
    ∙ position_viewed (λ (head : Bor Head). head_view head.now) (is_main c.args.text.now) c.args.heads.now
