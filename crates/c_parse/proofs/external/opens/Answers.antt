use Rattle.std.proofs.Common.{List, sym, subst, ◌∙◌}
use Rattle.c_grammar.specs.declared.terminal.Span.{Span}
use Rattle.c_grammar.specs.declared.terminal.Symbol.TheVariants.{OpenParen}
use Rattle.c_grammar.specs.Symbols.{is}
use Rattle.c_grammar.specs.Reading.{expect}
use Rattle.c_grammar.proofs.Shorter.{expect_shorter}
use Rattle.c_parse.proofs.Loops.{SoFar, so_far-step, so_far-ends, so_far-fault}
use Rattle.c_parse.proofs.external.opens.Goals as goal

pub loop-rest-preserved : goal.loop-rest-preserved
loop-rest-preserved c =
    subst (λ (z : List Span). SoFar (is OpenParen) (expect OpenParen) c.args.terminals.now z c.in-Ok.read.1.now) (sym c.in_ok-push.ensures)
    (so_far-step _ _ _ c.loop-rest.found.items c.loop-rest.rest.now c.in-Ok.read.1.now c.in-Ok.read.0
    (sym c.heads.ensures ∙ c.loop-rest-test.true) c.in-Ok.ensures.read (expect_shorter _ _ _ c.in-Ok.ensures.read) c.loop-rest.invariant)

pub loop-rest-smaller : goal.loop-rest-smaller
loop-rest-smaller c = expect_shorter _ _ _ c.in-Ok.ensures.read

pub returns-in-Err : goal.returns-in-Err
returns-in-Err c = so_far-fault _ _ _ _ _ c.in-Err.error (sym c.heads.ensures ∙ c.loop-rest-test.true) c.in-Err.ensures.read c.loop-rest.invariant

pub returns : goal.returns
returns c = so_far-ends _ _ _ _ _ (sym c.heads.ensures ∙ c.loop-rest-test.false) c.loop-rest.invariant
