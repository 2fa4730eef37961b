use Rattle.std.proofs.Common.{rules}
use Rattle.run_drawing.proofs.LinkLemmas.{indexed_more}
use Rattle.run_drawing.proofs.links.Links.add.Goals as goal

pub returns-clause-indexed : goal.returns-clause-indexed
returns-clause-indexed c = indexed_more c.args.self.now _ c.args.link c.requires c.in_ok-keep.ensures c.in_ok-keep_some.ensures (search rules)
