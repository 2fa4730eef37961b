use Rattle.std.proofs.Common.{rules}
use Rattle.turn_lock.proofs.Tokens.{joins}
use Rattle.turn_lock.proofs.steps.join.Goals as goal

pub join_seat-requires : goal.join_seat-requires
join_seat-requires g c = (
  search rules,
  search rules,
  search rules,
  search rules,
  joins g.T.Ledger.entries g.T.Ledger.frame _ _ _ _ c.args.token.now.me.0 c.args.other.me.0 c.requires.idle.0 c.requires.other.1 c.requires.idle.1,
)
