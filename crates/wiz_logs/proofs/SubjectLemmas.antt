-- What is replayed.
use Rattle.std.proofs.Common.{◌≡◌, ◌≤◌, ℕ, List, [], ◌∷◌, Option, Some, None, IfSome, refl, length}
use Rattle.std.specs.Option.{option_to_list}
use Rattle.srr_entry.specs.declared.log.Log.{Log}
use Rattle.srr_log.specs.Bounds.{IsInBounds}
use Rattle.srr_log2.specs.Formats.{IsTextOfLog}
use Rattle.wiz_trace.specs.StatsTexts.{IsCountable}
use Rattle.wiz_trace.proofs.Countable.{countable_in_bounds}
use Rattle.c_program.specs.View.{pure_program}
use Rattle.c_types.specs.Checks.{IsProgramOf}
use Rattle.wiz_logs.specs.declared.replaying.subject.Subject.{Subject}
use Rattle.wiz_logs.specs.Logs.{IsLogOf, asked_program}
use Rattle.wiz_io.specs.Files.{Files}
use Rattle.wiz_tool.specs.Inputs.{AreHeld, option_input, text_limit}
use Rattle.wiz_logs.specs.inside.Replaying.{IsSubjectOf, used_text}
use Rattle.wiz_task.proofs.LogLemmas.{IsReplayable-text, bounds_of}

-- it is within its bounds, and can be counted
pub log_bounds_of : (texts : List (List ℕ)) (log : Log) → IsLogOf texts log → IsInBounds log
log_bounds_of [] log is = absurd is
log_bounds_of (bytes ∷ more) log is = bounds_of bytes log is

pub countable_of : (texts : List (List ℕ)) (log : Log) → IsLogOf texts log → IsCountable log
countable_of texts log is = countable_in_bounds log (log_bounds_of texts log is)

-- what is replayed

pub used_short : (log : Log) (text : Option (List ℕ)) → length log.program ≤ text_limit → IfSome text (λ text. length text ≤ text_limit)
    → length (used_text log text) ≤ text_limit
used_short log None short other = short
used_short log (Some text) short other = other

used_is : (bytes : List ℕ) (log : Log) (text : Option (List ℕ)) → used_text log text ≡ asked_program (bytes ∷ option_to_list text) log
used_is bytes log None = refl
used_is bytes log (Some text) = refl

pub subject_of : (bytes : List ℕ) (text : Option (List ℕ)) (subject : Subject) → IsTextOfLog bytes subject.log → subject.text ≡ text
    → IsProgramOf (used_text subject.log subject.text) (pure_program subject.program) → IsSubjectOf (bytes ∷ option_to_list text) subject
subject_of bytes text subject is same is_program = record {
  is_log = is;
  replayable = IsReplayable-text bytes subject.log is;
  is_text = rw same (used_is bytes subject.log text);
  is_program = is_program;
}

-- an optional text is within its limit
pub held_short : (files : Option Files) (name text : Option (List ℕ)) → AreHeld files (option_input text_limit name) (option_to_list text)
    → IfSome text (λ text. length text ≤ text_limit)
held_short files name None held = tt
held_short files None (Some text) held = absurd held
held_short files (Some name) (Some text) held = held.0.1
