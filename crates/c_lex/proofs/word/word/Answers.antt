use Rattle.std.proofs.Common.{sym, ◌∙◌}
use Rattle.c_lex.specs.Steps.{name, left_out_word}
use Rattle.c_lex.proofs.word.word.Goals as goal

pub returns-then-is_left_out-clause-stands : goal.returns-then-is_left_out-clause-stands
returns-then-is_left_out-clause-stands c = λ on_define. left_out_word c.run_end-end.ensures (sym c.is_left_out.ensures ∙ c.if-is_left_out.true)

pub returns-else-is_left_out-clause-stands : goal.returns-else-is_left_out-clause-stands
returns-else-is_left_out-clause-stands c = λ on_define. name c.run_end-end.ensures (sym c.is_left_out.ensures ∙ c.if-is_left_out.false)
