use Rattle.std.proofs.Common.{◌+◌, refl, sym, subst}
use Rattle.c_lex.specs.Steps.{OpeningGivesStep, define_ends, space, bad_byte}
use Rattle.c_lex.specs.declared.token.TokenKind.TheVariants.{EndLine}
use Rattle.c_lex.specs.declared.fault.Why.TheVariants.{BadByte}
use Rattle.c_lex.specs.declared.step.LexicalStep.TheVariants.{Skip, Lexeme, Bad}
use Rattle.c_lex.proofs.Laws.{on_define_at_end}
use Rattle.c_lex.proofs.step.step_at.Goals as goal

pub returns-in-TextEnd-clause-stands : goal.returns-in-TextEnd-clause-stands
returns-in-TextEnd-clause-stands c =
    subst (λ o. OpeningGivesStep c.args.text.now c.args.on_define c.args.at o (Lexeme EndLine c.args.at)) c.in-TextEnd.ensures
    (define_ends (on_define_at_end c.args.text.now c.args.on_define c.args.at c.requires.more (sym c.in-TextEnd.ensures)))

pub returns-in-TextEnd-clause-within : goal.returns-in-TextEnd-clause-within
returns-in-TextEnd-clause-within c =
    (refl, on_define_at_end c.args.text.now c.args.on_define c.args.at c.requires.more (sym c.in-TextEnd.ensures))

pub returns-in-Space-clause-stands : goal.returns-in-Space-clause-stands
returns-in-Space-clause-stands c =
    subst (λ o. OpeningGivesStep c.args.text.now c.args.on_define c.args.at o (Skip (c.args.at + 1))) c.in-Space.ensures space

pub returns-in-LineComment-clause-within : goal.returns-in-LineComment-clause-within
returns-in-LineComment-clause-within c = c.line_comment.ensures.within c.args.on_define

pub returns-in-Directive-clause-within : goal.returns-in-Directive-clause-within
returns-in-Directive-clause-within c = c.directive.ensures.within c.args.on_define

pub returns-in-Word-clause-within : goal.returns-in-Word-clause-within
returns-in-Word-clause-within c = c.word.ensures.within c.args.on_define

pub returns-in-Digits-clause-within : goal.returns-in-Digits-clause-within
returns-in-Digits-clause-within c = c.number.ensures.within c.args.on_define

pub returns-in-Quote-clause-within : goal.returns-in-Quote-clause-within
returns-in-Quote-clause-within c = c.quote.ensures.within c.args.on_define

pub returns-in-Mark-clause-within : goal.returns-in-Mark-clause-within
returns-in-Mark-clause-within c = c.mark.ensures.within c.args.on_define

pub returns-in-Nothing-clause-stands : goal.returns-in-Nothing-clause-stands
returns-in-Nothing-clause-stands c =
    subst (λ o. OpeningGivesStep c.args.text.now c.args.on_define c.args.at o (Bad c.args.at BadByte)) c.in-Nothing.ensures bad_byte
