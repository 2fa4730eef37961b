use Rattle.std.proofs.Common.{◌≡◌, vec_len, reverse}
use Rattle.c_scope.specs.Scopes.{closed}
use Rattle.c_scope.specs.inside.ScopeView.{IsScopeTable, entries_view}
use Rattle.c_scope.proofs.declarations.Declarations.close.Given as goal

abbrev pub invariant-loop-placed : goal.invariant-loop-placed
invariant-loop-placed l = record {
  entries : closed (entries_view l.self-inside.placed.items) ≡ closed (entries_view l.initial.self-inside.placed.items);
  kept : IsScopeTable (reverse l.self-inside.placed.items) l.self-inside.innermost l.self-inside.variables l.self-inside.depth;
}

abbrev pub decreases-loop-placed : goal.decreases-loop-placed
decreases-loop-placed l = vec_len l.self-inside.placed
