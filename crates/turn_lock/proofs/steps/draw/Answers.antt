use Rattle.std.proofs.Common.{rules}
use Rattle.turn_lock.proofs.Keeps.{draws_at}
use Rattle.turn_lock.proofs.steps.draw.Goals as goal

pub fetch_add-requires : goal.fetch_add-requires
fetch_add-requires g c = (
  search rules,
  search rules,
  draws_at g.T.Ledger.entries g.T.Ledger.frame _ _ _ _ c.args.token.now.me c.requires.idle.0 c.requires.idle.1 c.requires.idle.2,
)
