use Rattle.std.proofs.Common.{◌∙◌, None, Some, ap, map, refl, sym}
use Rattle.c_program.specs.State.{State}
use Rattle.c_run_cells.specs.inside.Named.{cells_named}
use Rattle.c_run_cells.specs.SlotView.{slot_view}
use Rattle.c_run_cells.proofs.NamedLaws.{values_are}
use Rattle.c_run_cells.proofs.state.RankState.variable.Goals as goal

pub returns-in-None : goal.returns-in-None
returns-in-None c =
    let found = sym c.in-None.is ∙ c.cells_named.ensures ∙ ap (λ s. cells_named c.args.name.now None (map slot_view s)) c.deref.ensures.value in
    values_are c.args.self.now c.args.name.now c.args.self.now.slots None (found ∙ ap (λ (s : State). cells_named c.args.name.now None s.slots) c.self.view_is)

pub returns-in_ok-values_from-in-Some : goal.returns-in_ok-values_from-in-Some
returns-in_ok-values_from-in-Some c =
    let found = sym c.in-Some.is ∙ c.cells_named.ensures ∙ ap (λ s. cells_named c.args.name.now None (map slot_view s)) c.deref.ensures.value in
    let are =
    values_are c.args.self.now c.args.name.now c.args.self.now.slots (Some c.in-Some.cells) (found ∙ ap (λ (s : State). cells_named c.args.name.now None s.slots) c.self.view_is) in
    ap Some (c.in_ok-values_from-in-Some.ensures ∙ rw (c.from.ensures.from, c.count.ensures) refl) ∙ are
