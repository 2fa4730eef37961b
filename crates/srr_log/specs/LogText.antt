-- The text of a log, format 1.
use Rattle.std.specs.Prelude.{◌≡◌, ℕ, List, []}
use Rattle.srr_entry.specs.declared.log.Log.{Log}
use Rattle.srr_log.specs.Bounds.{IsInBounds}
use Rattle.srr_log.specs.Parts.{log_parts, parts_text}

-- the whole text: that of its parts
abbrev pub log_text : Log → List ℕ
log_text log = parts_text (log_parts log) []

-- the text of a log that has one
abbrev pub IsLogText : List ℕ → Log → Type 0
IsLogText text log = (text ≡ log_text log) × IsInBounds log
