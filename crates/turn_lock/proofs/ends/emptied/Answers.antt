use Rattle.std.proofs.Common.{◌≡◌, Some, None, sym, ◌∙◌, subst}
use Rattle.turn_lock.specs.inside.Ends.{EndsWith}
use Rattle.turn_lock.proofs.Tokens.{closes}
use Rattle.turn_lock.proofs.ends.emptied.Goals as goal

pub unreachable-requires : goal.unreachable-requires
unreachable-requires g c =
    let end = closes g.T.Ledger.entries g.T.Ledger.frame _ _ _ _ _ _ _ c.requires.idle c.requires.all c.close_with-closed.ensures.values.2 c.take-last.ensures.value in
    let no : None ≡ Some end.0 = sym c.in_default.is ∙ end.1 in cc

pub returns : goal.returns
returns g c =
    let end = closes g.T.Ledger.entries g.T.Ledger.frame _ _ _ _ _ _ _ c.requires.idle c.requires.all c.close_with-closed.ensures.values.2 c.take-last.ensures.value in
    let both : Some end.0 ≡ Some c.in-Some.value = sym end.1 ∙ c.in-Some.is in
    let same : end.0 ≡ c.in-Some.value = cc in
    let key = c.args.table.shared.key in
    subst (λ (x : _). EndsWith g.T.Ledger.entries g.T.Ledger.frame key.seats (g.T.Ledger.frame key.first.value) c.args.token.me.0.accounts x) same end.2
