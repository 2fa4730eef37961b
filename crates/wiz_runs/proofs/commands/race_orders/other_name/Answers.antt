use Rattle.std.proofs.Common.{arith}
use Rattle.wiz_tool.proofs.FileNames.{decimal-decimal_text}
use Rattle.wiz_runs.proofs.commands.race_orders.other_name.Goals as goal

pub returns : goal.returns
returns c =
    rw (decimal-decimal_text c.args.other.now.rank (omega arith), decimal-decimal_text c.args.other.now.start (omega arith), decimal-decimal_text c.args.other.now.sender (omega arith))
    c.format.ensures.ok
