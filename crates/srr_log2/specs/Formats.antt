-- The text of a log in either format.
use Rattle.std.specs.Prelude.{◌≡◌, ◌⊎◌, ℕ, List, Bool, true, false, codes, take}
use Rattle.std.specs.Str.{bytes_eq}
use Rattle.group_plan.specs.OneReading.{HaveOneReading}
use Rattle.srr_entry.specs.declared.log.Log.{Log}
use Rattle.srr_log.specs.declared.fault.LogFault.{LogFault}
use Rattle.srr_log.specs.Faults.{IsFirstPartFault}
use Rattle.srr_log.specs.LogText.{IsLogText}
use Rattle.srr_log2.specs.LogBytes.{AreLogBytes}
use Rattle.srr_log2.specs.Reading.{IsFirstFieldFault}

-- a text is read as one of format 2 if its first five bytes are these, and else as one of format 1
abbrev pub is_format2 : List ℕ → Bool
is_format2 text = bytes_eq (take 5 text) (codes "srr 2")

-- the text of a log, in format 1 or in format 2
abbrev pub IsTextOfLog : List ℕ → Log → Type 0
IsTextOfLog text log = IsLogText text log ⊎ AreLogBytes text log

-- the first fault of a text, in the format that its first five bytes choose
abbrev pub IsFaultOfLog : List ℕ → LogFault → Type 0
IsFaultOfLog text fault =
    ((is_format2 text ≡ false) × IsFirstPartFault text fault) ⊎ ((is_format2 text ≡ true) × IsFirstFieldFault text fault)

-- each text says one log or has one first fault, and never both
abbrev pub LogsHaveOneReading : Type 0
LogsHaveOneReading = HaveOneReading IsTextOfLog IsFaultOfLog
