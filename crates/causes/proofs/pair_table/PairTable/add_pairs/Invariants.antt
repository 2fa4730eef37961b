use Rattle.std.proofs.Common.{◌≡◌, ◌++◌, List, length}
use Rattle.run_model.specs.Pairs.{Name}
use Rattle.causes.specs.PairTables.{AreOthers}
use Rattle.causes.proofs.pair_table.PairTable.add_pairs.Given as goal

abbrev pub invariant-loop-rest : goal.invariant-loop-rest
invariant-loop-rest l =
    record {
      names : l.self.names ≡ l.initial.self.names;
      others : (pairs : List (Name × Name)) → AreOthers pairs l.initial.self.others.entries → (done : List (Name × Name)) × AreOthers done l.self.others.entries × (done ++ l.rest ≡ pairs ++ l.met);
    }

abbrev pub decreases-loop-rest : goal.decreases-loop-rest
decreases-loop-rest l = length l.rest
