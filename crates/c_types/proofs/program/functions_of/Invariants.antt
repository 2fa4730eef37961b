use Rattle.std.proofs.Common.{Bool, [], drop, map}
use Rattle.c_grammar.specs.StmtView.{external_view}
use Rattle.c_program.specs.View.{pure_function}
use Rattle.c_types.specs.ProgramTyping.{functions_typing}
use Rattle.c_types.proofs.Functions.{FunctionsSoFar}
use Rattle.c_types.proofs.program.functions_of.Given as goal

abbrev pub invariant-loop-external : goal.invariant-loop-external
invariant-loop-external l =
    (one_is : Bool)
    × FunctionsSoFar l.best one_is (map pure_function l.functions.items) (functions_typing l.scope l.seen (map external_view (drop l.external-index l.externals)))
    (functions_typing l.initial.scope [] (map external_view l.externals))
