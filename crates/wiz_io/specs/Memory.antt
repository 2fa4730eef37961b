-- What contracts see of files and an output in memory.
use Rattle.std.specs.Prelude.{ℕ, List, Result, Ok, Err}
use Rattle.wiz_io.specs.declared.fault.ReadFault.{ReadFault}
use Rattle.wiz_io.specs.declared.fault.ReadFault.TheVariants.{Missing, TooLong, Failed as ReadFailed, NoMemory as ReadNoMemory}
use Rattle.wiz_io.specs.declared.fault.WriteFault.{WriteFault}
use Rattle.wiz_io.specs.declared.fault.WriteFault.TheVariants.{Failed as WriteFailed, NoMemory as WriteNoMemory}
use Rattle.wiz_io.specs.declared.memory.MemoryStore.{MemoryStore}
use Rattle.wiz_io.specs.Calls.{Calls, no_calls, raised_once, with_one_more}
use Rattle.wiz_io.specs.Files.{Files}
use Rattle.wiz_io.specs.FileTable.{files_in_table}

-- the files, the calls that are to fail and how many there were, and how many reads and writes failed
pub record Memory : Type 0 where
  pub files : Files
  pub calls : Calls
  pub read_faults : ℕ
  pub write_faults : ℕ

-- what contracts see of a store in memory
abbrev pub memory_of : MemoryStore → Memory
memory_of store = record {
  files = files_in_table store.table;
  calls = store.failures;
  read_faults = store.read_faults;
  write_faults = store.write_faults;
}

-- these files, no call and no fault so far
abbrev pub new_memory : Files → Memory
new_memory files = record { files = files; calls = no_calls; read_faults = 0; write_faults = 0 }

-- how many reads have failed after one more
abbrev pub read_faults_after : ℕ → Result (List ℕ) ReadFault → ℕ
read_faults_after faults (Ok bytes) = faults
read_faults_after faults (Err Missing) = faults
read_faults_after faults (Err TooLong) = faults
read_faults_after faults (Err ReadFailed) = raised_once faults
read_faults_after faults (Err ReadNoMemory) = faults

-- after a read: one more call, and one more fault where it failed
abbrev pub after_read : Memory → Result (List ℕ) ReadFault → Memory
after_read memory result = record memory {
  calls = with_one_more memory.calls;
  read_faults = read_faults_after memory.read_faults result;
}

-- how many writes have failed after one more
abbrev pub write_faults_after : {T : Type 0} → ℕ → Result T WriteFault → ℕ
write_faults_after faults (Ok done) = faults
write_faults_after faults (Err WriteFailed) = raised_once faults
write_faults_after faults (Err WriteNoMemory) = faults

-- after a write that leaves these files: one more call, and one more fault where it failed
abbrev pub after_write : {T : Type 0} → Memory → Files → Result T WriteFault → Memory
after_write memory files result = record memory {
  files = files;
  calls = with_one_more memory.calls;
  write_faults = write_faults_after memory.write_faults result;
}
