-- The first replayed start that an entry names or needs and that does not agree with it.
-- V is what each rank has seen, `own` what rank `me` itself has.
use Rattle.std.specs.Prelude.{ℕ, List, [], ◌∷◌, Option, Some, None, Bool, false, ◌&&◌, ◌==◌, if◌then◌else◌, nat_le, length, slice_index}
use Rattle.mpi_call.specs.declared.call.Call.{Call}
use Rattle.mpi_call.specs.declared.call.Call.TheVariants.{Post, Peek}
use Rattle.mpi_call.specs.Acceptance.{accepts}
use Rattle.mpi_call.specs.Calls.{comm_of, ints_of, listed_by}
use Rattle.mpi_call.specs.Collectives.{agree, needs}
use Rattle.run_model.specs.Lists.{same_ranks}
use Rattle.run_model.specs.Views.{View, start_at}
use Rattle.run_model.specs.Communicators.{Entered, enter_at, instance_of, members_for_rank}
use Rattle.srr_entry.specs.declared.entry.Mark.{Mark}
use Rattle.srr_entry.specs.declared.entry.Mark.TheVariants.{Inside, Inner, Made as MarkMade}
use Rattle.srr_entry.specs.declared.entry.Marked.{Marked}
use Rattle.srr_entry.specs.declared.entry.Entry.{Entry}
use Rattle.srr_entry.specs.declared.entry.Entry.TheVariants.{Took, PeekedInside}
use Rattle.replay_model.specs.declared.step.Found.{Found}

-- the first of two, where one is found
abbrev pub or_found : Option Found → Option Found → Option Found
or_found (Some found) rest = Some found
or_found None rest = rest

-- a named start has to be a Send that the receive or the probe accepts, and for a receive within its room
abbrev pub send_fits : ℕ → ℕ → Option Call → Call → Bool
send_fits me source (Some (Post comm from tag room)) sent =
    accepts me comm from tag source sent && nat_le (length (ints_of sent)) room
send_fits me source (Some (Peek comm from tag wait)) sent = accepts me comm from tag source sent
send_fits me source (Some call) sent = false
send_fits me source None sent = false

-- a replayed start that an entry names as a send, and that is no send which its call can take
abbrev pub break_send : ℕ → ℕ → ℕ → Option Call → Option Call → Option Found
break_send me source start taker None = None
break_send me source start taker (Some sent) =
    if send_fits me source taker sent then None else Some (record { rank = source; start = start; call = sent })

-- whether a communicator is known to have these members
abbrev pub has_members : List ℕ → Option (List ℕ) → Bool
has_members members (Some others) = same_ranks members others
has_members members None = false

-- a needed member's Enter has to agree, on the same members of the communicator
abbrev pub break_enter : Call → List ℕ → ℕ → Option Entered → Option Found
break_enter enter members m None = None
break_enter enter members m (Some entered) =
    if agree enter entered.call && has_members members entered.members then None
    else Some (record { rank = m; start = entered.number; call = entered.call })

-- the first member needed whose call of the collective does not agree
abbrev pub break_members : Call → List ℕ → (ℕ → Bool) → (ℕ → Option Entered) → List ℕ → Option Found
break_members enter all needed find [] = None
break_members enter all needed find (m ∷ members) =
    if needed m then or_found (break_enter enter all m (find m)) (break_members enter all needed find members)
    else break_members enter all needed find members

-- the same, of the collective call that a rank's start is
abbrev pub break_inner : ℕ → (ℕ → View) → ℕ → View → ℕ → Option Call → Option Found
break_inner n V me own k (Some enter) =
    break_members enter (members_for_rank n own (comm_of enter)) (needs enter (members_for_rank n own (comm_of enter)) me)
    (λ m. enter_at n (V m) (comm_of enter) (instance_of own k (comm_of enter)))
    (members_for_rank n own (comm_of enter))
break_inner n V me own k None = None

-- the first start that a mark names or needs and that does not agree
abbrev pub break_mark : ℕ → (ℕ → View) → ℕ → View → ℕ → Mark → Option Found
break_mark n V me own k (Inside source start) = break_send me source start (start_at own k) (start_at (V source) start)
break_mark n V me own k Inner = break_inner n V me own k (start_at own k)
break_mark n V me own k (MarkMade comm) = if comm == 0 then None else break_inner n V me own k (start_at own k)
break_mark n V me own k mark = None

-- the first of those of several marks
abbrev pub break_marks : ℕ → (ℕ → View) → ℕ → View → List ℕ → List Marked → Option Found
break_marks n V me own starts [] = None
break_marks n V me own starts (marked ∷ items) =
    or_found (break_mark n V me own (slice_index starts marked.index) marked.mark) (break_marks n V me own starts items)

-- the first, in item order and then in member order
abbrev pub broken : ℕ → (ℕ → View) → ℕ → View → Call → Entry → Option Found
broken n V me own call (Took items) = break_marks n V me own (listed_by call) items
broken n V me own call (PeekedInside source start) = break_send me source start (Some call) (start_at (V source) start)
broken n V me own call entry = None
