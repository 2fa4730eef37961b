use Rattle.std.proofs.Common.{◌+◌, sym, subst}
use Rattle.c_lex.specs.Steps.{OpeningGivesStep, mark}
use Rattle.c_lex.specs.declared.opening.Opening.TheVariants as opens
use Rattle.c_lex.specs.declared.token.TokenKind.TheVariants as kinds
use Rattle.c_lex.specs.declared.step.LexicalStep.TheVariants.{Lexeme}
use Rattle.c_lex.proofs.lexeme.mark.Goals as goal

pub returns-clause-stands : goal.returns-clause-stands
returns-clause-stands c =
    λ on_define. subst (λ len. OpeningGivesStep c.args.text.now on_define c.args.at opens.Mark (Lexeme kinds.Mark (c.args.at + len))) (sym c.mark_length.ensures.value) mark
