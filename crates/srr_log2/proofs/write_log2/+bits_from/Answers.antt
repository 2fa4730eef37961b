use Rattle.std.proofs.Common.{◌≤◌, arith, rules}
use Rattle.srr_log2.proofs.GroupLaws.{bits_fit}
use Rattle.srr_log2.proofs.write_log2.+bits_from.Goals as goal
use Rattle.srr_log2.proofs.write_log2.+bits_from.Goals.{then-contains, else-contains}

pub returns-clause-fits : goal.returns-clause-fits
returns-clause-fits t c =
    let low : c.if-contains.lowest ≤ 1 = elim c.if-contains.branch [ then-contains w ↦ rw w.lowest-is (omega arith) | else-contains w ↦ rw w.lowest-is (omega arith) ] in
    bits_fit c.if-contains.lowest c.bits_from-higher.result c.args.count (let some' = c.if-count-eq0.false in search rules) low c.bits_from-higher.ensures.fits
