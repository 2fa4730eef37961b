use Rattle.std.proofs.Common.{◌≡◌, ◌≤◌, drop, length, map}
use Rattle.c_grammar.specs.StmtView.{head_view}
use Rattle.c_scope.specs.Signatures.{function_entries}
use Rattle.c_scope.proofs.scope.Scope.of_functions.Given as goal

abbrev pub invariant-loop-number : goal.invariant-loop-number
invariant-loop-number l = record {
  entries : l.declared ≡ function_entries l.text l.number (map (λ head. head_view head.now) (drop l.number l.heads.items));
  within : l.number ≤ length l.heads.items;
}

abbrev pub decreases-loop-number : goal.decreases-loop-number
decreases-loop-number l = l.number
