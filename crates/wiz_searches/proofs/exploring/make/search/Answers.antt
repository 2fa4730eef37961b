use Rattle.std.proofs.Common.{sym}
use Rattle.group_plan.specs.Plans.{number_of_ranks}
use Rattle.wiz_runs.proofs.RunInputs.{picks_below, turns_below}
use Rattle.wiz_searches.proofs.SearchLemmas.{explored_at, found_of}
use Rattle.wiz_searches.proofs.exploring.make.search.Goals as goal

pub explore-requires-clause-setting : goal.explore-requires-clause-setting
explore-requires-clause-setting g c = record { program_is = c.new-starter.ensures; ranks_are = sym c.n.ensures.ranks }

pub explore-requires-clause-turns : goal.explore-requires-clause-turns
explore-requires-clause-turns g c =
    rw (c.as_slice.ensures, c.n.ensures.ranks) (turns_below (number_of_ranks c.args.ready.now.plan) c.requires.0.order c.args.ready.now.turns c.requires.1.prepared.are_turns)

pub explore-requires-clause-picks : goal.explore-requires-clause-picks
explore-requires-clause-picks g c =
    rw (c.as_slice.ensures, c.n.ensures.ranks) (picks_below (number_of_ranks c.args.ready.now.plan) c.requires.0.order c.args.ready.now.turns c.requires.1.prepared.are_turns)

pub all_waits-requires-clause-found : goal.all_waits-requires-clause-found
all_waits-requires-clause-found g c = λ found there.
    found_of c.args.ready.now c.args.bounds.polls c.in_ok-explored.explored
    (explored_at c.args.ready.now c.args.bounds.polls c.n.result c.as_slice.result.now c.in_ok-explored.explored c.n.ensures.ranks c.as_slice.ensures c.in_ok-explored.ensures)
    found (rw c.as_slice-2.ensures at there)

pub returns : goal.returns
returns g c = record {
  is_explored =
      explored_at c.args.ready.now c.args.bounds.polls c.n.result c.as_slice.result.now c.in_ok-explored.explored c.n.ensures.ranks c.as_slice.ensures c.in_ok-explored.ensures;
  are_waiting = rw c.as_slice-2.ensures at c.in_ok-waits.ensures;
}
