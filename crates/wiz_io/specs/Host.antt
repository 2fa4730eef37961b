-- What contracts see of the host's files.
use Rattle.std.specs.Prelude.{ℕ}

-- how many reads and how many writes failed
pub record HostFaults : Type 0 where
  pub reads : ℕ
  pub writes : ℕ
