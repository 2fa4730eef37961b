use Rattle.std.proofs.Common.{◌≡◌, ◌<◌, ℕ, [], length, slice_index}
use Rattle.std.specs.List.{slice_index_or}
use Rattle.run_model.specs.Program.{IsAfter, Standing}
use Rattle.bench_replay.specs.declared.script.Script.{Script}
use Rattle.bench_replay.proofs.whole.start_all.Given as goal

abbrev pub invariant-loop-rank : goal.invariant-loop-rank
invariant-loop-rank l =
    record {
      as_many : length l.runs.items ≡ l.rank-index;
      each : (k : ℕ) (run : Standing Script) → k < l.rank-index
          → IsAfter l.script l.log.ranks (slice_index l.log.group k) [] (slice_index_or l.runs.items k run);
    }
