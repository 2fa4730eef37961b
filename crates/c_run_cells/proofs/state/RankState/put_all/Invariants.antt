use Rattle.std.proofs.Common.{◌≡◌, ◌+◌, length}
use Rattle.c_program.specs.State.{put_all}
use Rattle.c_run_cells.proofs.state.RankState.put_all.Given as goal

abbrev pub invariant-loop-rest : goal.invariant-loop-rest
invariant-loop-rest l = record {
  puts : put_all l.at l.rest l.self ≡ put_all l.initial.at l.initial.rest l.initial.self;
  places : l.at + length l.rest ≡ l.initial.at + length l.initial.rest;
}

abbrev pub decreases-loop-rest : goal.decreases-loop-rest
decreases-loop-rest l = length l.rest
