use Rattle.c_lex.specs.Steps.{line_comment}
use Rattle.c_lex.proofs.comment.line_comment.Goals as goal

pub returns-clause-stands : goal.returns-clause-stands
returns-clause-stands c = λ on_define. line_comment c.run_end.ensures
