use Rattle.std.proofs.Common.{◌≡◌, drop}
use Rattle.c_grammar.specs.StmtView.{comma_list_view, parameter_view}
use Rattle.c_scope.specs.Signatures.{listed}
use Rattle.c_scope.specs.Walks.{unless_faulty}
use Rattle.c_types.specs.ProgramTyping.{parameters_typing}
use Rattle.c_types.specs.Programs.{after_parameters}
use Rattle.c_types.proofs.ParameterLoops.{TypedSoFar, behind_first}
use Rattle.c_types.proofs.parameters.listed_of.Given as goal

abbrev pub invariant-loop-behind : goal.invariant-loop-behind
invariant-loop-behind l = record {
  typed : TypedSoFar l.fn.best l.best (unless_faulty l.faulty l.parameters.items) (parameters_typing l.scope l.main (behind_first (drop l.behind-index l.behind-items)))
      (parameters_typing l.fn.scope l.main (listed (comma_list_view parameter_view l.list)));
  scope : after_parameters l.scope l.main (behind_first (drop l.behind-index l.behind-items)) ≡ after_parameters l.fn.scope l.main (listed (comma_list_view parameter_view l.list));
}
