use Rattle.std.proofs.Common.{rules, ◌≡◌, ◌∷◌, [], Some, sym, ap, ◌∙◌, subst}
use Rattle.atomic_table.specs.Table.{rest}
use Rattle.turn_lock.specs.Entries.{Grows}
use Rattle.turn_lock.specs.Rule.{seen_in}
use Rattle.turn_lock.specs.Steps.{IsOneAccount, turn_passed}
use Rattle.turn_lock.proofs.Keeps.{advances_at}
use Rattle.turn_lock.proofs.steps.give_turn.Goals as goal

pub fetch_add-served-requires : goal.fetch_add-served-requires
fetch_add-served-requires g c =
    let now = c.exchange.ensures.3 in
    let view : c.exchange.new.seat.me.0 ≡ c.args.token.now.me.0 = ap (λ m. m.0) now in
    let full : c.exchange.new.seat.me.1 ≡ (0, Some c.args.value) ∷ [] = ap (λ m. m.1) now ∙ ap (λ l. (0, Some c.args.value) ∷ rest l) c.requires.turn.1 in
    let k = c.requires.grows.0 in (
      search rules,
      search rules,
      advances_at g.T.Ledger.entries g.T.Ledger.frame _ _ _ _ c.requires.turn.0.0 k c.args.value c.exchange.new.seat.me (search rules)
          (ap (λ v. v.stage) view ∙ c.requires.turn.0.1) (subst (λ v. IsOneAccount k v.accounts) (sym view) c.requires.grows.1)
          (subst (λ v. Grows k (seen_in v.accounts) (g.T.Ledger.entries c.args.value)) (sym view) c.requires.grows.2) (c.requires.frame ∙ sym (ap (λ v. v.frame) view)) full,
    )

pub returns-clause-passed : goal.returns-clause-passed
returns-clause-passed g c =
    let now = c.exchange.ensures.3 in
    let view : c.exchange.new.seat.me.0 ≡ c.args.token.now.me.0 = ap (λ m. m.0) now in
    let full : c.exchange.new.seat.me.1 ≡ (0, Some c.args.value) ∷ [] = ap (λ m. m.1) now ∙ ap (λ l. (0, Some c.args.value) ∷ rest l) c.requires.turn.1 in
    c.fetch_add-served.ensures.2 c.args.value full ∙ ap (λ v. (turn_passed (g.T.Ledger.entries c.args.value) v, [])) view
