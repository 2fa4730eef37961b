-- What a machine and a replay tell of their ranks.
use Rattle.std.specs.Prelude.{ℕ, nat_lt}
use Rattle.mpi_call.specs.Collectives.{is_member}
use Rattle.run_model.specs.declared.event.Event.{Event}
use Rattle.srr_entry.specs.declared.log.Log.{Log}
use Rattle.replay_model.specs.Replays.{Breakpoint}
use Rattle.rank_threads.specs.inside.Reading.{FrameReading}
use Rattle.rank_threads.specs.inside.Numbered.{place_in}

-- all ranks run, and the seat of each has its number
abbrev pub machine_reading : {P : Type 0} → FrameReading P Event (P × ℕ)
machine_reading = record {
  program = λ f. f.0;
  ranks = λ f. f.1;
  runs = λ f rank. nat_lt rank f.1;
  seat = λ f rank. rank;
  reply = λ e. e.reply;
}

-- the ranks of the group run, and the seat of each has the number of its place
abbrev pub replay_reading : {P : Type 0} → FrameReading P Event (P × Log × Breakpoint)
replay_reading = record {
  program = λ f. f.0;
  ranks = λ f. f.1.ranks;
  runs = λ f rank. is_member f.1.group rank;
  seat = λ f rank. place_in f.1.group rank;
  reply = λ e. e.reply;
}
