use Rattle.c_lex.specs.Steps.{define_line_ends, line_ends}
use Rattle.c_lex.proofs.step.newline.Goals as goal

pub returns-then-on_define-clause-stands : goal.returns-then-on_define-clause-stands
returns-then-on_define-clause-stands c = define_line_ends c.if-on_define.true

pub returns-else-on_define-clause-stands : goal.returns-else-on_define-clause-stands
returns-else-on_define-clause-stands c = line_ends c.if-on_define.false
