use Rattle.std.proofs.Common.{◌≡◌, drop, map}
use Rattle.c_program.specs.Meaning.{passed, passed_all}
use Rattle.c_program.specs.View.{pure_argument}
use Rattle.c_run_cells.proofs.Lists.{behind, each}
use Rattle.c_run_cells.proofs.parts.arguments_of.Given as goal

-- what is found so far, and what is behind it
abbrev pub invariant-loop-argument : goal.invariant-loop-argument
invariant-loop-argument l = passed_all (map pure_argument l.arguments) l.state ≡ behind l.passed.items (each (λ argument. passed (pure_argument argument) l.state) (drop l.argument-index l.arguments))
