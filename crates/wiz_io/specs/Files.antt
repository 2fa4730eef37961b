-- Files by name, and what reads and writes say of them.
use Rattle.std.specs.Prelude.{◌≡◌, ◌≢◌, ◌+◌, ◌-◌, ◌^◌, ◌<◌, ◌≤◌, ℕ, List, Option, Some, None, Result, Ok, Err, length, min}
use Rattle.wiz_io.specs.declared.fault.ReadFault.{ReadFault}
use Rattle.wiz_io.specs.declared.fault.ReadFault.TheVariants.{Missing, TooLong, Failed, NoMemory}

-- the bytes of the file of each name, where there is one
abbrev pub Files : Type 0
Files = List ℕ → Option (List ℕ)

-- what a store tells: the files, where it tells them, and how many reads and writes failed
pub record ObservedFiles : Type 0 where
  pub files : Option Files
  pub reads : ℕ
  pub writes : ℕ

-- a count rose, or stands at its last value
abbrev pub HasRisen : ℕ → ℕ → Type 0
HasRisen before now = min (before + 1) (2 ^ 64 - 1) ≤ now

-- what is read of a file: its bytes, if there is one and it has not more than the limit
abbrev pub IsFileRead : Option (List ℕ) → ℕ → Result (List ℕ) ReadFault → Type 0
IsFileRead file limit (Ok bytes) = (file ≡ Some bytes) × (length bytes ≤ limit)
IsFileRead file limit (Err Missing) = file ≡ None
IsFileRead file limit (Err TooLong) = (bytes : List ℕ) × (file ≡ Some bytes) × (limit < length bytes)
IsFileRead file limit (Err Failed) = Unit {0}
IsFileRead file limit (Err NoMemory) = Unit {0}

-- where files are observed, each file of another name is as it was
abbrev pub ChangesOnly : Option Files → Option Files → List ℕ → Type 0
ChangesOnly None after name = after ≡ None
ChangesOnly (Some before) None name = ⊥
ChangesOnly (Some before) (Some after) name = (other : List ℕ) → other ≢ name → after other ≡ before other

-- where files are observed, the file of that name has these bytes
abbrev pub HasFile : Option Files → List ℕ → List ℕ → Type 0
HasFile None name bytes = Unit {0}
HasFile (Some files) name bytes = files name ≡ Some bytes

-- one file is set, and each of another name is as it was
pub record SetsFile (before after : Files) (name bytes : List ℕ) : Type 0 where
  pub this : after name ≡ Some bytes
  pub others : (other : List ℕ) → other ≢ name → after other ≡ before other
