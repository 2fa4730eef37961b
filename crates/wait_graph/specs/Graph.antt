-- Who waits for whom in a run that is stuck.
use Rattle.std.specs.Prelude.{ℕ, zero, suc, List, [], ◌∷◌, ◌++◌, Option, Some, None, Bool, false, not, ◌&&◌, ◌==◌, if◌then◌else◌, filter, find, length, nat_lt}
use Rattle.std.specs.Option.{option_to_list}
use Rattle.std.specs.List.{list_all, list_any}
use Rattle.mpi_call.specs.declared.call.Call.{Call}
use Rattle.mpi_call.specs.Members.{is_member}
use Rattle.run_model.specs.declared.event.Event.{Event}
use Rattle.run_model.specs.Lists.{world}
use Rattle.run_model.specs.Program.{ends}
use Rattle.run_model.specs.Views.{view_of}
use Rattle.wait_graph.specs.Going.{going, stopped_call}
use Rattle.wait_graph.specs.declared.graph.Blocked.{Blocked}
use Rattle.wait_graph.specs.declared.graph.Graph.{Graph}
use Rattle.wait_graph.specs.declared.wait.Wait.{Wait}
use Rattle.wait_graph.specs.Waits.{waits_at}

-- a rank of the run that has not ended
abbrev pub is_live : ℕ → List Event → ℕ → Bool
is_live n G rank = nat_lt rank n && not (list_any ends (view_of G rank))

-- a rank waits for another with one of these
abbrev pub waits_for : List Wait → ℕ → Bool
waits_for waits rank = list_any (λ (wait : Wait). is_member wait.awaited rank) waits

-- the least rank that has not ended and that a rank waits for at a call, where it was stopped at one
abbrev pub next_at : ℕ → List Event → ℕ → Option Call → Option ℕ
next_at n G me None = None
next_at n G me (Some call) = find (λ rank. is_live n G rank && waits_for (waits_at n G me call) rank) (world n 0)

-- the same, of a rank of a run that is stuck
abbrev pub waited_rank : ℕ → List Event → ℕ → Option ℕ
waited_rank n events rank = next_at n (going events) rank (stopped_call events rank)

-- one of these can no longer come: all for whom a rank waits with it have ended
abbrev pub has_no_hope : ℕ → List Event → List Wait → Bool
has_no_hope n G waits = list_any (λ (wait : Wait). list_all (λ rank. not (is_live n G rank)) wait.awaited) waits

-- a rank was stopped at a call of which this holds
abbrev pub is_hopeless_at : ℕ → List Event → ℕ → Option Call → Bool
is_hopeless_at n G me None = false
is_hopeless_at n G me (Some call) = has_no_hope n G (waits_at n G me call)

-- the same, of a rank of a run that is stuck
abbrev pub is_hopeless : ℕ → List Event → ℕ → Bool
is_hopeless n events rank = is_hopeless_at n (going events) rank (stopped_call events rank)

-- what a function gives for a rank, where there is one
abbrev pub at_next : Option ℕ → (ℕ → Option (List ℕ)) → Option (List ℕ)
at_next None way = None
at_next (Some rank) way = way rank

-- a rank in front of others
abbrev pub in_front : ℕ → Option (List ℕ) → Option (List ℕ)
in_front rank None = None
in_front rank (Some ranks) = Some (rank ∷ ranks)

-- the ranks on the way back to a rank, each followed by the next one; none where the way ends, comes to a lower rank, or is too long
abbrev pub way_back : (ℕ → Option ℕ) → ℕ → ℕ → ℕ → Option (List ℕ)
way_back next zero home rank = None
way_back next (suc left) home rank =
    if rank == home then Some []
    else if nat_lt rank home then None
    else in_front rank (at_next (next rank) (way_back next left home))

-- the cycle whose least rank is this one
abbrev pub cycle_from : (ℕ → Option ℕ) → ℕ → ℕ → Option (List ℕ)
cycle_from next n home = in_front home (at_next (next home) (way_back next n home))

-- the cycles that begin with these ranks
abbrev pub cycles_in : (ℕ → Option ℕ) → ℕ → List ℕ → List (List ℕ)
cycles_in next n [] = []
cycles_in next n (rank ∷ ranks) = option_to_list (cycle_from next n rank) ++ cycles_in next n ranks

-- all cycles, by their least ranks
abbrev pub cycles : ℕ → List Event → List (List ℕ)
cycles n events = cycles_in (waited_rank n events) n (world n 0)

-- the hopeless ranks, rising
abbrev pub hopeless : ℕ → List Event → List ℕ
hopeless n events = filter (is_hopeless n events) (world n 0)

-- a rank that is stuck: its call, by number, and what it waits for there
abbrev pub blocked_at : ℕ → List Event → ℕ → Option Call → List Blocked
blocked_at n G rank None = []
blocked_at n G rank (Some call) =
    (record {
      rank = rank;
      number = length (view_of G rank);
      call = call;
      waits = waits_at n G rank call;
    }) ∷ []

-- those among these ranks
abbrev pub blocked_in : ℕ → List Event → List ℕ → List Blocked
blocked_in n events [] = []
blocked_in n events (rank ∷ ranks) = blocked_at n (going events) rank (stopped_call events rank) ++ blocked_in n events ranks

-- the ranks that are stuck, the cycles, and the hopeless ranks
abbrev pub graph_of : ℕ → List Event → Graph
graph_of n events = record {
  blocked = blocked_in n events (world n 0);
  cycles = cycles n events;
  hopeless = hopeless n events;
}
