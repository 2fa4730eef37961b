use Rattle.std.proofs.Common.{arith}
use Rattle.collectives.proofs.EntrantLemmas.{inputs_step}
use Rattle.collectives.proofs.entrants.Entrants.inputs.Goals as goal

pub loop-member-preserved : goal.loop-member-preserved
loop-member-preserved c =
    inputs_step c.as_slice-entrants.result.now c.args.members.now c.places_of-places.result c.loop-member.inputs c.add_input.new.inputs c.loop-member.member-index
    c.loop-member-test.true c.places_of-places.ensures (omega (arith, c.type_inv.members c.loop-member.member-index)) c.loop-member.invariant c.in_ok-add_input.ensures
