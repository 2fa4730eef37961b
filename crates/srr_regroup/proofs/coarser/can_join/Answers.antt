use Rattle.std.proofs.Common.{rules, refl}
use Rattle.srr_regroup.specs.Joining.{AreOfOneProgram, IsLeastShared}
use Rattle.srr_regroup.proofs.coarser.can_join.Goals as goal

pub returns-in-Some-clause-fault : goal.returns-in-Some-clause-fault
returns-in-Some-clause-fault c =
    let same : AreOfOneProgram c.args.one.now c.args.two.now = search rules in
    let found = c.in-Some.ensures.some c.in-Some.rank refl in
    let least : IsLeastShared c.args.one.now.group c.args.two.now.group c.in-Some.rank = rw (c.as_slice.ensures, c.as_slice-2.ensures) at found in
    (same, least)
