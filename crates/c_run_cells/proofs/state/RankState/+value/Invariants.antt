use Rattle.std.proofs.Common.{◌≡◌, drop}
use Rattle.c_program.specs.Values.{value_with_links}
use Rattle.c_program.specs.View.{pure_links}
use Rattle.c_run_cells.proofs.state.RankState.+value.Given as goal

abbrev pub invariant-chained-loop-link : goal.invariant-chained-loop-link
invariant-chained-loop-link l = value_with_links (pure_links (drop l.link-index l.links)) l.v l.self ≡ value_with_links (pure_links l.links) l.initial.v l.self
