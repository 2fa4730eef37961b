use Rattle.std.proofs.Common.{ap}
use Rattle.wiz_io.proofs.memory.MemoryStoreStore.write.Goals as goal

pub returns-in_err-set-clause-others : goal.returns-in_err-set-clause-others
returns-in_err-set-clause-others c = λ other differs. ap (λ files. files other) c.in_err-set.ensures.err
