-- Receives that follow a probe.
use Rattle.std.specs.Prelude.{◌≡◌, ℕ, [], ◌∷◌, Option, Some, Bool}
use Rattle.mpi_call.specs.declared.call.Call.{Call}
use Rattle.mpi_call.specs.declared.call.Call.TheVariants.{Post, Peek}
use Rattle.mpi_call.specs.declared.call.Source.{Source}
use Rattle.mpi_call.specs.declared.call.Tag.{Tag}
use Rattle.mpi_call.specs.declared.reply.Reply.{Reply}
use Rattle.run_model.specs.Views.{View}

-- what was seen last; of nothing, this
abbrev pub last_or : Option (Call × Reply) → View → Option (Call × Reply)
last_or last [] = last
last_or last (seen ∷ view) = last_or (Some seen) view

-- a receive asks for what a probe asked for
pub record AsksSame (call probe : Call) : Type 0 where
  pub comm : ℕ
  pub source : Source
  pub tag : Tag
  pub room : ℕ
  pub wait : Bool
  pub receives : call ≡ Post comm source tag room
  pub probes : probe ≡ Peek comm source tag wait
