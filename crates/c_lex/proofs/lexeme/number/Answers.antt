use Rattle.std.proofs.Common.{◌∙◌, sym}
use Rattle.std.specs.Prelude.{slice_range}
use Rattle.c_lex.specs.Steps.{number, bad_literal}
use Rattle.c_lex.proofs.LiteralLaws.{literal_there, no_literal}
use Rattle.c_lex.proofs.lexeme.number.Goals as goal

pub returns-in-Some-clause-stands : goal.returns-in-Some-clause-stands
returns-in-Some-clause-stands c = λ on_define.
    number c.run_end-end.ensures (literal_there (slice_range c.args.text.now c.args.at c.run_end-end.result) _ (sym c.in-Some.is ∙ c.literal_value.ensures))

pub returns-in-None-clause-stands : goal.returns-in-None-clause-stands
returns-in-None-clause-stands c = λ on_define.
    bad_literal c.run_end-end.ensures (no_literal (slice_range c.args.text.now c.args.at c.run_end-end.result) (sym c.in-None.is ∙ c.literal_value.ensures))
