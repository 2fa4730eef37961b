use Rattle.std.proofs.Common.{◌∙◌, ◌∷◌, [], ◌++◌, ap}
use mir.Syntax.{w32}
use Rattle.std.proofs.lemmas.Int.{to_z-of_z}
use Rattle.srr_log2.specs.EntryReading.{coded_int}
use Rattle.srr_log2.proofs.LoopLaws.{many_more}
use Rattle.srr_log2.proofs.list.many_ints.Goals as goal

pub loop-left-preserved : goal.loop-left-preserved
loop-left-preserved c =
    many_more coded_int c.loop-left.found c.add_int.new.found c.in_ok-int.int c.loop-left.left c.loop-left.cursor c.int.new.cursor _ c.loop-left-test.true c.loop-left.invariant c.in_ok-int.ensures.read
    (c.in_ok-add_int.ensures ∙ ap (λ int. c.loop-left.found ++ int ∷ []) (to_z-of_z w32 c.in_ok-int.int c.in_ok-int.ensures.fits))
