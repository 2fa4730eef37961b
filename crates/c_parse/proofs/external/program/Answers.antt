use Rattle.std.proofs.Common.{◌≡◌, ◌==◌, true, false, List, [], ◌∷◌, length, refl, sym, ◌∙◌}
use Rattle.c_grammar.specs.declared.terminal.Terminal.{Terminal}
use Rattle.c_grammar.specs.StmtView.{external_view}
use Rattle.c_grammar.specs.Reading.{heads}
use Rattle.c_grammar.proofs.Shorter.{external_shorter}
use Rattle.c_parse.proofs.Loops.{so_far-push}
use Rattle.c_parse.proofs.external.program.Goals as goal

more_heads : (terminals : List Terminal) → (length terminals == 0) ≡ false → heads (λ x. true) terminals ≡ true
more_heads [] some = absurd (cc)
more_heads (terminal ∷ terminals) some = refl

pub loop-rest-preserved : goal.loop-rest-preserved
loop-rest-preserved c =
    so_far-push external_view _ _ _ c.loop-rest.externals.items c.push.new.list.items c.in-Ok.read.0 c.loop-rest.rest.now c.in-Ok.read.1.now
    (more_heads _ (sym c.is_empty.ensures ∙ c.loop-rest-test.true)) c.in-Ok.ensures (external_shorter _ _ c.in-Ok.ensures) c.in_ok-push.ensures c.loop-rest.invariant

pub loop-rest-smaller : goal.loop-rest-smaller
loop-rest-smaller c = external_shorter _ _ c.in-Ok.ensures
