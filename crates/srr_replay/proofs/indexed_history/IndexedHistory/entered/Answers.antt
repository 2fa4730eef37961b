use Rattle.std.proofs.Common.{◌≡◌, ◌∙◌, Some, ap, option_map, slice_get, sym}
use Rattle.view_tables.proofs.EnterTableLemmas.{enter_found, entered_same, number_there}
use Rattle.srr_replay.proofs.indexed_history.IndexedHistory.entered.Goals as goal

pub returns-in-Some-clause-enter : goal.returns-in-Some-clause-enter
returns-in-Some-clause-enter c =
    let at = c.in_ok-number.ensures.lookup.3 in
    let number = c.in_ok-number.field-0.now in
    let some = number_there c.get.result.now c.args.instance number at.0 (at.1 number) ∙ ap (λ l. slice_get l c.args.instance) c.get.ensures in
    let found = enter_found c.self.inside.ranks c.self.inside.events.events c.self.inside.enters c.args.rank c.args.comm c.args.instance number c.self.invariant.5 c.self.invariant.4 some in
    let same : Some c.in-Some.call.now ≡ Some found.one.call = (rw (← c.self.view_is) at c.in-Some.ensures) ∙ found.start in
    let call : c.in-Some.call.now ≡ found.one.call = cc in
    rw call found.enter

pub returns-in-Some-clause-found : goal.returns-in-Some-clause-found
returns-in-Some-clause-found c =
    let at = c.in_ok-number.ensures.lookup.3 in
    let number = c.in_ok-number.field-0.now in
    let some = number_there c.get.result.now c.args.instance number at.0 (at.1 number) ∙ ap (λ l. slice_get l c.args.instance) c.get.ensures in
    let found = enter_found c.self.inside.ranks c.self.inside.events.events c.self.inside.enters c.args.rank c.args.comm c.args.instance number c.self.invariant.5 c.self.invariant.4 some in
    let same : Some c.in-Some.call.now ≡ Some found.one.call = (rw (← c.self.view_is) at c.in-Some.ensures) ∙ found.start in
    let call : c.in-Some.call.now ≡ found.one.call = cc in
    rw (← c.self.view_is)
    (entered_same found.one number c.in-Some.call.now (option_map (λ members. members.now) c.known.result) found.number_is (sym call)
    (found.members ∙ sym (rw (← c.self.view_is) at c.known.ensures))
    ∙ sym found.at)

pub returns-in-None-clause-found : goal.returns-in-None-clause-found
returns-in-None-clause-found c =
    let at = c.in_ok-number.ensures.lookup.3 in
    let number = c.in_ok-number.field-0.now in
    let some = number_there c.get.result.now c.args.instance number at.0 (at.1 number) ∙ ap (λ l. slice_get l c.args.instance) c.get.ensures in
    let found = enter_found c.self.inside.ranks c.self.inside.events.events c.self.inside.enters c.args.rank c.args.comm c.args.instance number c.self.invariant.5 c.self.invariant.4 some in
    let none = (rw (← c.self.view_is) at c.in-None.ensures) ∙ found.start in
    absurd (cc)
