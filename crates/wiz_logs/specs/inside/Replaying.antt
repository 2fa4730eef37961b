-- What is replayed.
use Rattle.c_program.specs.View.{pure_program}
use Rattle.std.specs.Prelude.{◌≡◌, List, Option, Some, None}
use Rattle.clap.specs.Words.{Text}
use Rattle.c_types.specs.Checks.{IsProgramOf}
use Rattle.srr_entry.specs.declared.log.Log.{Log}
use Rattle.srr_replay.specs.Rounds.{IsReplayable}
use Rattle.wiz_logs.specs.declared.replaying.subject.Subject.{Subject}
use Rattle.wiz_logs.specs.Logs.{IsLogOf, asked_program}

-- the text of the program with which a log is replayed
abbrev pub used_text : Log → Option Text → Text
used_text log None = log.program
used_text log (Some text) = text

-- it is the log that the texts of files hold, which can be replayed, and the program for it
pub record IsSubjectOf (texts : List Text) (subject : Subject) : Type 0 where
  pub is_log : IsLogOf texts subject.log
  pub replayable : IsReplayable subject.log
  pub is_text : used_text subject.log subject.text ≡ asked_program texts subject.log
  pub is_program : IsProgramOf (used_text subject.log subject.text) (pure_program subject.program)
