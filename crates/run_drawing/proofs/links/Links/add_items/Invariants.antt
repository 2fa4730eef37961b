use Rattle.std.proofs.Common.{◌≡◌, ◌++◌, length}
use Rattle.run_drawing.specs.Links.{links_in}
use Rattle.run_drawing.specs.inside.Scenes.{AreIndexed}
use Rattle.run_drawing.proofs.links.Links.add_items.Given as goal

abbrev pub invariant-loop-rest : goal.invariant-loop-rest
invariant-loop-rest l = record {
  indexed : AreIndexed l.self;
  list : l.self.list.items ++ links_in l.tables.ranks l.depths l.before l.me l.starts l.rest
      ≡ l.initial.self.list.items ++ links_in l.tables.ranks l.depths l.before l.me l.starts l.items;
}

abbrev pub decreases-loop-rest : goal.decreases-loop-rest
decreases-loop-rest l = length l.rest
