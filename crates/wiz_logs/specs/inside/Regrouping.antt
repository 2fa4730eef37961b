-- What is refined and what is joined.
use Rattle.std.specs.Prelude.{List}
use Rattle.clap.specs.Words.{Text}
use Rattle.c_program.specs.View.{pure_program}
use Rattle.c_types.specs.Checks.{IsProgramOf}
use Rattle.srr_entry.specs.declared.log.Log.{Log}
use Rattle.run_model.specs.declared.event.Event.{Event}
use Rattle.srr_regroup.specs.Joining.{CanJoin}
use Rattle.srr_regroup.specs.Refining.{CanRefine}
use Rattle.srr_regroup.specs.Regrouping.{IsReplayOfAProgram}
use Rattle.srr_replay.specs.Rounds.{IsReplayable}
use Rattle.srr_log.specs.Bounds.{IsInBounds}
use Rattle.wiz_logs.specs.declared.regrouping.subject.Pair.{Pair}
use Rattle.wiz_logs.specs.declared.regrouping.subject.Refinement.{Refinement}
use Rattle.wiz_logs.specs.Logs.{AreLogsOf, IsLogOf, IsPlanOf}

-- it is the log and the plan that the texts of files hold, and the program of the log, which can be refined by the plan
pub record IsRefinementOf (texts : List Text) (refinement : Refinement) : Type 0 where
  pub is_log : IsLogOf texts refinement.log
  pub is_plan : IsPlanOf texts refinement.plan
  pub can_refine : CanRefine refinement.log refinement.plan
  pub is_program : IsProgramOf refinement.log.program (pure_program refinement.program)

-- they are the logs that the texts of files hold, which can be joined, and their program
pub record ArePairOf (texts : List Text) (pair : Pair) : Type 0 where
  pub are_logs : AreLogsOf texts pair.one pair.other
  pub can_join : CanJoin pair.one pair.other
  pub is_program : IsProgramOf pair.one.program (pure_program pair.program)

-- a log within its bounds, and a whole replay of it from which logs of other groups are made
pub record IsRegroupable (log : Log) (events : List Event) : Type 0 where
  pub in_bounds : IsInBounds log
  pub replayable : IsReplayable log
  pub replay : IsReplayOfAProgram log events

-- two such logs that can be joined
pub record AreJoinable (one : Log) (first : List Event) (other : Log) (second : List Event) : Type 0 where
  pub can_join : CanJoin one other
  pub one_log : IsRegroupable one first
  pub other_log : IsRegroupable other second
