use denote.Param.Send.{sendable}
use Rattle.c_program.proofs.Sharing.{program_field}
use Rattle.rank_machine.proofs.Sharing.{rank_field}
use Rattle.tests_threads.proofs.starting.record.Goals as goal

pub record_threads-requires-sync-P : goal.record_threads-requires-sync-P
record_threads-requires-sync-P g c κs within = search (program_field, sendable) depth 60

pub record_threads-requires-send-R : goal.record_threads-requires-send-R
record_threads-requires-send-R g c κs within = search (rank_field, sendable) depth 60
