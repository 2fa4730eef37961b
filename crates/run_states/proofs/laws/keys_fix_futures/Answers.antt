use Rattle.run_states.proofs.KeyLaws.{futures_fix_keys, keys_fix_futures}
use Rattle.run_states.proofs.laws.keys_fix_futures.Goals as goal

pub returns-clause-same : goal.returns-clause-same
returns-clause-same g c = keys_fix_futures (g.P.Program.next c.args.program.now) c.args.n

pub returns-clause-one : goal.returns-clause-one
returns-clause-one g c = futures_fix_keys c.args.n
