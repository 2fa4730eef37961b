-- What a place of a run rests on, and the places that a breakpoint cuts off.
use Rattle.std.specs.Prelude.{◌≡◌, ◌<◌, ℕ, zero, suc, List, [], ◌∷◌, ◌++◌, Option, Some, None, Bool, true, false, ◌==◌, if◌then◌else◌, length, slice_index}
use Rattle.mpi_call.specs.declared.call.Call.{Call}
use Rattle.mpi_call.specs.declared.reply.Reply.{Reply}
use Rattle.mpi_call.specs.Calls.{comm_of, listed_by}
use Rattle.mpi_call.specs.Collectives.{is_member, needs}
use Rattle.mpi_call.specs.Lists.{IsIn}
use Rattle.run_model.specs.Views.{View, is_start, start_at}
use Rattle.run_model.specs.Communicators.{instance_of, is_on, members_for_rank}
use Rattle.srr_entry.specs.declared.entry.Entry.{Entry}
use Rattle.srr_entry.specs.declared.entry.Entry.TheVariants.{Took, PeekedInside}
use Rattle.srr_entry.specs.declared.entry.Mark.{Mark}
use Rattle.srr_entry.specs.declared.entry.Mark.TheVariants.{Inside, Inner, Made}
use Rattle.srr_entry.specs.declared.entry.Marked.{Marked}
use Rattle.srr_entry.specs.Entries.{entry_of}
use Rattle.replay_model.specs.declared.step.Missing.{Missing}
use Rattle.replay_model.specs.declared.step.Missing.TheVariants.{Start, Member}
use Rattle.replay_model.specs.Replays.{Breakpoint, is_break}

-- the Enters of the needed members of one instance
abbrev pub rests_members : ℕ → ℕ → (ℕ → Bool) → List ℕ → List Missing
rests_members comm instance needed [] = []
rests_members comm instance needed (m ∷ members) =
    if needed m then Member m comm instance ∷ rests_members comm instance needed members
    else rests_members comm instance needed members

-- what the result of the rank's Enter rests on: the Enters of its instance that it needs
abbrev pub rests_enter : ℕ → ℕ → View → ℕ → Option Call → List Missing
rests_enter n me own k None = []
rests_enter n me own k (Some enter) =
    rests_members (comm_of enter) (instance_of own k (comm_of enter)) (needs enter (members_for_rank n own (comm_of enter)) me) (members_for_rank n own (comm_of enter))

-- a message from inside the group rests on its Send, a collective result from inside on the Enters that it needs. (That of an
-- undefined colour needs the rank's own Enter alone, an earlier call of the rank.)
abbrev pub rests_mark : ℕ → ℕ → View → ℕ → Mark → List Missing
rests_mark n me own k (Inside source start) = Start source start ∷ []
rests_mark n me own k Inner = rests_enter n me own k (start_at own k)
rests_mark n me own k (Made comm) = if comm == 0 then [] else rests_enter n me own k (start_at own k)
rests_mark n me own k mark = []

-- what completed starts rest on, in item order
abbrev pub rests_marks : ℕ → ℕ → View → List ℕ → List Marked → List Missing
rests_marks n me own starts [] = []
rests_marks n me own starts (marked ∷ marks) =
    rests_mark n me own (slice_index starts marked.index) marked.mark ++ rests_marks n me own starts marks

-- what an entry of rank `me` rests on, in item order and then in member order
abbrev pub rests : ℕ → ℕ → View → Call → Entry → List Missing
rests n me own call (Took marks) = rests_marks n me own (listed_by call) marks
rests n me own call (PeekedInside source start) = Start source start ∷ []
rests n me own call entry = []

-- the number after one that may be there
abbrev pub one_later : Option ℕ → Option ℕ
one_later None = None
one_later (Some number) = Some (suc number)

-- the call number of the i-th call of a view that passes a test, from 0
abbrev pub number_of_nth : (Call × Reply → Bool) → View → ℕ → Option ℕ
number_of_nth test [] i = None
number_of_nth test (seen ∷ view) zero = if test seen then Some 0 else one_later (number_of_nth test view zero)
number_of_nth test (seen ∷ view) (suc i) =
    if test seen then one_later (number_of_nth test view i) else one_later (number_of_nth test view (suc i))

-- an Enter on the communicator
abbrev pub is_enter_on : ℕ → Call × Reply → Bool
is_enter_on comm seen = if is_start seen then is_on comm seen.0 else false

-- the rank and the call number of what an entry rests on
abbrev pub rank_rested_on : Missing → ℕ
rank_rested_on (Start source start) = source
rank_rested_on (Member m comm instance) = m

-- the number of the call that has to be replayed first
abbrev pub call_rested_on : (ℕ → View) → Missing → Option ℕ
call_rested_on V (Start source start) = number_of_nth is_start (V source) start
call_rested_on V (Member m comm instance) = number_of_nth (is_enter_on comm) (V m) instance

-- a call of a rank, by number, is the breakpoint, or comes after a call of the rank that is cut off, or is of the group and
-- rests on one. V is what each rank has seen in the run.
pub data IsCutOff (n : ℕ) (group : List ℕ) (V : ℕ → View) (stop : Breakpoint) : ℕ → ℕ → Type 0 where
  stops : (rank number : ℕ) → is_break stop rank number ≡ true → IsCutOff n group V stop rank number
  follows : (rank number : ℕ) → IsCutOff n group V stop rank number → IsCutOff n group V stop rank (suc number)
  rests_on : (rank : ℕ) (view rest : View) (call : Call) (reply : Reply) (missing : Missing) (number : ℕ) → is_member group rank ≡ true → V rank ≡ view ++ (call, reply) ∷ rest → IsIn missing (rests n rank view call (entry_of n group rank view call reply)) → call_rested_on V missing ≡ Some number → IsCutOff n group V stop (rank_rested_on missing) number → IsCutOff n group V stop rank (length view)

-- the cut of a breakpoint: the group's places that it does not cut off
pub record IsInCut (n : ℕ) (group : List ℕ) (V : ℕ → View) (stop : Breakpoint) (rank number : ℕ) : Type 0 where
  pub member : is_member group rank ≡ true
  pub placed : number < length (V rank)
  pub free : IsCutOff n group V stop rank number → ⊥
