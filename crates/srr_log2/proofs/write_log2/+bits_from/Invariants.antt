use Rattle.srr_log2.proofs.write_log2.+bits_from.Given as goal

abbrev pub decreases-bits_from : goal.decreases-bits_from
decreases-bits_from l = l.count
