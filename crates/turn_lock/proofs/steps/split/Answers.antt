use Rattle.std.proofs.Common.{rules, ◌≡◌, ◌+◌, suc, ap, ◌∙◌, arith}
use Rattle.turn_lock.specs.Rule.{fresh_accounts}
use Rattle.turn_lock.proofs.Tokens.{splits}
use Rattle.turn_lock.proofs.steps.split.Goals as goal

pub split_seat-requires : goal.split_seat-requires
split_seat-requires g c =
    let k = c.requires.fresh.0 in let n = c.requires.fresh.1 in let e : n + 1 ≡ suc n = omega arith in (
      search rules,
      search rules,
      splits g.T.Ledger.entries g.T.Ledger.frame _ _ _ k n c.args.token.now.me.0 c.requires.idle (c.requires.fresh.2 ∙ ap (λ (m : _). fresh_accounts k m) e),
    )
