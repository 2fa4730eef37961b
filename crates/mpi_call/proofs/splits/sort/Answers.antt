use Rattle.std.proofs.Common.{rules, ℤ}
use Rattle.std.proofs.lemmas.Result.{on_ok_weaker}
use Rattle.mpi_call.proofs.SortLemmas.{by_key_from_sort}
use Rattle.mpi_call.specs.declared.splits.Candidate.{Candidate}
use Rattle.mpi_call.proofs.splits.sort.Goals as goal

pub returns : goal.returns
returns c =
    let key : Candidate → ℤ = λ candidate. candidate.key in
    on_ok_weaker c.sort_by_key.result
    (λ sorted. by_key_from_sort key c.args.candidates.now.items c.sort_by_key.new.self.items sorted c.sort_by_key.ensures.stable (λ f a r q k. search rules))
    c.sort_by_key.ensures.sorted
