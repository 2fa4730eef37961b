use denote.Param.Send.{sendable}
use Rattle.c_program.proofs.Sharing.{program_field}
use Rattle.rank_machine.proofs.Sharing.{rank_field}
use Rattle.tests_threads.proofs.starting.replay.Goals as goal

pub replay_threads-requires-sync-P : goal.replay_threads-requires-sync-P
replay_threads-requires-sync-P g c κs within = search (program_field, sendable) depth 60

pub replay_threads-requires-send-R : goal.replay_threads-requires-send-R
replay_threads-requires-send-R g c κs within = search (rank_field, sendable) depth 60
