use Rattle.std.proofs.Common.{rules, ◌≡◌, [], ◌∷◌, ap, sym, subst, Some}
use Rattle.atomic_table.specs.Table.{opening}
use Rattle.turn_lock.specs.Rule.{TurnRule, first_view}
use Rattle.turn_lock.proofs.Tokens.{opens}
use Rattle.turn_lock.proofs.ends.laid.Goals as goal

pub new-requires : goal.new-requires
new-requires g c =
    let one : c.push.new.self.items ≡ Some c.args.value ∷ [] = search rules in
    let told = g.T.Ledger.frame c.args.terms.now.first.value in let seats = c.args.terms.now.seats in
    subst (λ (xs : _). TurnRule g.T.Ledger.entries g.T.Ledger.frame seats told (opening (0 ∷ 0 ∷ []) xs (first_view seats told))) (sym one)
    (opens g.T.Ledger.entries g.T.Ledger.frame seats told c.args.value c.requires.seats.1 c.requires.value.0 (ap g.T.Ledger.frame (sym c.requires.value.1)))
