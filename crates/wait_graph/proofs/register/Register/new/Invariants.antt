use Rattle.std.proofs.Common.{◌≤◌}
use Rattle.wait_graph.proofs.RegisterLemmas.{AreFirst}
use Rattle.wait_graph.proofs.register.Register.new.Given as goal

abbrev pub invariant-loop : goal.invariant-loop
invariant-loop l = record {
  most : l.counter ≤ l.n;
  are : AreFirst l.n l.counter l.ranks.items;
}
