use Rattle.wait_graph.proofs.Fitting.{none_found}
use Rattle.wait_graph.proofs.laws.none_found.Goals as goal

pub returns : goal.returns
returns c = none_found
