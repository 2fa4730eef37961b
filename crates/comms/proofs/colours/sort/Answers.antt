use Rattle.std.proofs.Common.{ℤ}
use Rattle.std.proofs.lemmas.Result.{on_ok_weaker}
use Rattle.mpi_call.proofs.SortLemmas.{by_key_is}
use Rattle.comms.proofs.colours.sort.Goals as goal

pub returns-clause-sorted : goal.returns-clause-sorted
returns-clause-sorted c =
    on_ok_weaker c.sort.result (λ up. by_key_is (λ (colour : ℤ). colour) c.args.colours.now.items c.sort.new.self.items up c.sort.ensures.stable) c.sort.ensures.sorted
