use Rattle.std.proofs.Common.{◌≡◌, ◌∙◌, List, ap, subst, sym}
use Rattle.run_model.specs.declared.event.Event.{Event}
use Rattle.mpi_machine.specs.Made.{IsPlain}
use Rattle.mpi_machine.specs.Turns.{MachineState}
use Rattle.mpi_machine.proofs.Moving.{keeps_now}
use Rattle.mpi_machine.proofs.Needed.{is_plain}
use Rattle.mpi_machine.proofs.machine.Machine.into_run.Goals as goal

pub returns-clause-plain : goal.returns-clause-plain
returns-clause-plain g c =
    let keeps = keeps_now g.P.Program.next c.self.inside.picks.written _ c.args.self c.self.inside.requests c.self.view_is c.self.invariant in
    let events : c.into_history.result.events ≡ c.args.self.events = c.into_history.ensures ∙ ap (λ (m : MachineState g.row.P.Denot). m.events) c.self.view_is in
    let F : List Event → Type 0 = λ l. IsPlain c.args.self.ranks c.self.inside.picks.written l in
    subst F (sym events) (is_plain c.args.self.ranks c.self.inside.picks.written c.args.self.events keeps.made.needed)
