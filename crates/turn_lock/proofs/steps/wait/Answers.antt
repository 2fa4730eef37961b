use Rattle.std.proofs.Common.{rules, ◌≡◌, ◌∷◌, Some, sym, ap, ◌∙◌}
use Rattle.atomic_table.specs.Table.{rest}
use Rattle.turn_lock.specs.declared.view.Stage.TheVariants.{Waiting}
use Rattle.turn_lock.proofs.Keeps.{reads_at}
use Rattle.turn_lock.proofs.steps.wait.Goals as goal

pub load-served-requires : goal.load-served-requires
load-served-requires g c =
    let waits : c.loop.token.me.0.stage ≡ Waiting c.requires.waits.0 = ap (λ m. m.0.stage) c.loop.invariant.1 ∙ c.requires.waits.2 in (
      search rules,
      search rules,
      reads_at g.T.Ledger.entries g.T.Ledger.frame _ _ _ _ c.requires.waits.0 c.loop.token.me waits (ap (λ m. m.1) c.loop.invariant.1 ∙ c.requires.waits.3),
    )

pub exchange-requires : goal.exchange-requires
exchange-requires g c =
    let waits : c.loop.token.me.0.stage ≡ Waiting c.requires.waits.0 = ap (λ m. m.0.stage) c.loop.invariant.1 ∙ c.requires.waits.2 in
    let got = (c.load-served.ensures.2 c.requires.waits.0 waits).0 (c.if-served-ticket.true ∙ c.requires.waits.1) in
    let full : c.load-served.new.seat.me.1 ≡ (0, Some got.0) ∷ c.loop.token.me.1 = ap (λ m. m.1) got.1 in
    (search rules, (Some got.0, full ∙ ap (λ l. (0, Some got.0) ∷ rest l) (sym full)))
