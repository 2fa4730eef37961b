use Rattle.std.proofs.Common.{arith}
use Rattle.wiz_tool.proofs.FileNames.{decimal-decimal_text}
use Rattle.wiz_searches.proofs.commands.explore_files.numbered_name.Goals as goal

pub returns : goal.returns
returns c = rw (decimal-decimal_text c.args.number (omega arith)) c.format.ensures.ok
