-- What was not read, as a fault of the whole text. The reading of format 2 uses this too.
use Rattle.std.specs.Prelude.{◌≡◌, ◌≤◌, ◌+◌, ℕ}
use Rattle.srr_log.specs.declared.fault.LogFault.{LogFault}
use Rattle.srr_log.specs.declared.fault.LogWhy.{LogWhy}
use Rattle.srr_log.specs.declared.read_error.ReadError.{ReadError}
use Rattle.srr_log.specs.declared.read_error.ReadError.TheVariants.{NoMemory, Fault}
use Rattle.srr_log.specs.declared.read_error.Unread.{Unread}
use Rattle.srr_log.specs.declared.read_error.Unread.TheVariants.{NotAllowed, NoMemory as UnreadMemory}
use Rattle.srr_log.specs.Faults.{no_memory}

-- the fault of a line that says nothing that is allowed, at its first byte
abbrev pub line_fault : Unread → LogWhy → ℕ → ReadError
line_fault NotAllowed why left = Fault why left
line_fault UnreadMemory why left = NoMemory

-- the fault's place is in a text of that length
abbrev pub IsWithin : ReadError → ℕ → Type 0
IsWithin NoMemory size = Unit {0}
IsWithin (Fault why left) size = left ≤ size

-- the fault with its place in a text of that length
abbrev pub IsPlaced : ReadError → ℕ → LogFault → Type 0
IsPlaced NoMemory size fault = fault ≡ no_memory
IsPlaced (Fault why left) size fault = (fault.why ≡ why) × (fault.at + left ≡ size)
