use Rattle.std.proofs.Common.{◌-◌, length}
use Rattle.wiz_logs.proofs.commands.refine.+write_parts.Given as goal

abbrev pub decreases-write_parts : goal.decreases-write_parts
decreases-write_parts g l = length l.refinement.now.plan - l.k
