use Rattle.mpi_machine.proofs.Moving.{keeps_now}
use Rattle.mpi_machine.proofs.Written.{no_earlier, some_earlier}
use Rattle.mpi_machine.proofs.machine.Machine.pick_of_index.Goals as goal

pub returns-then-none_before : goal.returns-then-none_before
returns-then-none_before g c = λ mode offered.
    let keeps = keeps_now g.P.Program.next c.self.inside.picks.written _ c.args.self.now c.self.inside.requests c.self.view_is c.self.invariant in
    no_earlier c.args.self.now.ranks c.args.self.now.events c.self.inside.requests c.args.rank c.args.starts.now c.as_slice.result.now mode c.args.index c.none_before.result
    keeps.knows c.as_slice.ensures c.none_before.ensures c.if-none_before.true offered

pub returns : goal.returns
returns g c = λ mode offered.
    let keeps = keeps_now g.P.Program.next c.self.inside.picks.written _ c.args.self.now c.self.inside.requests c.self.view_is c.self.invariant in
    some_earlier c.args.self.now.ranks c.args.self.now.events c.self.inside.requests c.args.rank c.args.starts.now c.as_slice.result.now mode c.args.index c.none_before.result
    keeps.knows c.as_slice.ensures c.none_before.ensures c.if-none_before.false offered
