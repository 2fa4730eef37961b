use Rattle.std.proofs.Common.{subst, sym}
use Rattle.c_lex.specs.Readings.{AreSlices}
use Rattle.c_lex.proofs.SliceLaws.{slice_inside}
use Rattle.c_parse.proofs.terminals.terminals.Goals as goal

pub terminal-requires : goal.terminal-requires
terminal-requires c =
    slice_inside c.args.text.now 0 c.as_slice-tokens.result.now c.loop-token.token-index _
    (subst (λ tokens. AreSlices c.args.text.now 0 tokens) (sym c.as_slice-tokens.ensures) c.requires)
    c.loop-token-test.true
