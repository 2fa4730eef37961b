use Rattle.std.proofs.Common.{◌∙◌, FitsSigned, of_z, rules, to_z, w32}
use Rattle.std.proofs.lemmas.Int.{to_z-of_z}
use Rattle.comms.proofs.ColourLemmas.{numbers_step}
use Rattle.comms.proofs.colours.numbers_for.Goals as goal

pub loop-ints-preserved : goal.loop-ints-preserved
loop-ints-preserved c =
    let fits : FitsSigned w32 c.colour_in.result = search rules in
    numbers_step c.args.colours.now c.args.first c.args.inputs.now c.loop-ints.ints-index c.loop-ints.numbers c.push.new.self c.ints-item.result (to_z w32 (of_z w32 c.colour_in.result))
    c.number_for.result c.loop-ints-test.true c.ints-item.is (to_z-of_z w32 c.colour_in.result fits ∙ c.colour_in.ensures) c.number_for.ensures c.loop-ints.invariant c.in_ok-push.ensures.ok
