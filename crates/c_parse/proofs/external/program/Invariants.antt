use Rattle.std.proofs.Common.{true, length, map}
use Rattle.c_grammar.specs.StmtView.{external_view}
use Rattle.c_grammar.specs.StmtReading.{read_external}
use Rattle.c_parse.proofs.Loops.{SoFar}
use Rattle.c_parse.proofs.external.program.Given as goal

abbrev pub invariant-loop-rest : goal.invariant-loop-rest
invariant-loop-rest l = SoFar (λ x. true) read_external l.terminals (map external_view l.externals.items) l.rest

abbrev pub decreases-loop-rest : goal.decreases-loop-rest
decreases-loop-rest l = length l.rest
