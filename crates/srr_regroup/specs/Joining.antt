-- Which logs can be joined, and why others cannot.
use Rattle.std.specs.Prelude.{◌≡◌, ◌≢◌, ◌<◌, ℕ, List, Option, Some, None, false, true, if◌then◌else◌, min}
use Rattle.mpi_call.specs.Collectives.{is_member}
use Rattle.srr_entry.specs.declared.log.Log.{Log}
use Rattle.srr_regroup.specs.declared.join_fault.JoinFault.{JoinFault}
use Rattle.srr_regroup.specs.declared.join_fault.JoinFault.TheVariants.{Ranks, Programs, Shared}

-- logs of one program, on one number of ranks
abbrev pub AreOfOneProgram : Log → Log → Type 0
AreOfOneProgram one two = (one.ranks ≡ two.ranks) × (one.program ≡ two.program)

-- of groups without a common rank
abbrev pub CanJoin : Log → Log → Type 0
CanJoin one two = AreOfOneProgram one two × ((rank : ℕ) → is_member one.group rank ≡ true → is_member two.group rank ≡ false)

-- the least rank of both groups
pub record IsLeastShared (one two : List ℕ) (rank : ℕ) : Type 0 where
  pub first : is_member one rank ≡ true
  pub second : is_member two rank ≡ true
  pub least : (other : ℕ) → other < rank → is_member one other ≡ true → is_member two other ≡ false

-- the lesser of the least so far, if there is one, and another rank, if it is in the group
abbrev pub lesser : Option ℕ → ℕ → ℕ
lesser None rank = rank
lesser (Some least) rank = min least rank

-- the least rank of a group that another has too, by the least so far and one rank more
abbrev pub lesser_shared : List ℕ → Option ℕ → ℕ → Option ℕ
lesser_shared group least rank = if is_member group rank then Some (lesser least rank) else least

-- why two logs cannot be joined: first the numbers of ranks differ, then the programs, then a rank is in both groups
abbrev pub IsJoinFault : Log → Log → JoinFault → Type 0
IsJoinFault one two (Ranks first second) = (first ≡ one.ranks) × (second ≡ two.ranks) × (one.ranks ≢ two.ranks)
IsJoinFault one two Programs = (one.ranks ≡ two.ranks) × (one.program ≢ two.program)
IsJoinFault one two (Shared rank) = AreOfOneProgram one two × IsLeastShared one.group two.group rank
