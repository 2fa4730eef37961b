-- What was put out.
use Rattle.std.specs.Prelude.{◌≡◌, ℕ, List, ◌++◌, take, Option, Some, None, Result, Ok, Err}
use Rattle.wiz_io.specs.declared.fault.PutFault.{PutFault}
use Rattle.wiz_io.specs.declared.fault.PutFault.TheVariants.{Failed, NoMemory}
use Rattle.wiz_io.specs.Calls.{Calls, raised_once, with_one_more}

-- what a sink tells: the bytes so far, where it tells them, and how many puts failed
pub record ObservedOutput : Type 0 where
  pub bytes : Option (List ℕ)
  pub faults : ℕ

-- where the bytes are observed, they have grown by the piece, or after a refusal by a prefix of it
abbrev pub HasPut : {T : Type 0} → Option (List ℕ) → Option (List ℕ) → List ℕ → Result T PutFault → Type 0
HasPut None after piece result = after ≡ None
HasPut (Some before) None piece result = ⊥
HasPut (Some before) (Some after) piece (Ok done) = after ≡ before ++ piece
HasPut (Some before) (Some after) piece (Err fault) = (count : ℕ) × (after ≡ before ++ take count piece)

-- an output in memory: the bytes put out, the puts that are to fail and how many there were, and how many failed
pub record MemoryOutput : Type 0 where
  pub bytes : List ℕ
  pub calls : Calls
  pub faults : ℕ

-- after a put: the piece is out, or nothing of it; one more call, and one more fault where it failed
abbrev pub after_put : {T : Type 0} → MemoryOutput → List ℕ → Result T PutFault → MemoryOutput
after_put output piece (Ok done) = record output { bytes = output.bytes ++ piece; calls = with_one_more output.calls }
after_put output piece (Err Failed) = record output { calls = with_one_more output.calls; faults = raised_once output.faults }
after_put output piece (Err NoMemory) = record output { calls = with_one_more output.calls }
