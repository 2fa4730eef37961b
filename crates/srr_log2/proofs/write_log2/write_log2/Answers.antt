use Rattle.srr_log2.proofs.Short.{short_log}
use Rattle.srr_log2.proofs.write_log2.write_log2.Goals as goal

pub push_body-requires : goal.push_body-requires
push_body-requires c = short_log c.args.log.now c.requires
