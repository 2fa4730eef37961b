use Rattle.std.proofs.Common.{◌≡◌, ◌<◌, [], ℕ, length}
use Rattle.std.specs.List.{slice_index_or}
use Rattle.run_model.specs.Program.{IsAfter, Standing}
use Rattle.c_program.specs.declared.program.CProgram.{CProgram}
use Rattle.wiz_task.proofs.ranks.start_all.Given as goal

abbrev pub invariant-loop-rank : goal.invariant-loop-rank
invariant-loop-rank l =
    record {
      as_many : length l.runs.items ≡ l.rank;
      each : (rank : ℕ) (run : Standing CProgram) → rank < l.rank → IsAfter l.program l.n rank [] (slice_index_or l.runs.items rank run);
    }
