use Rattle.std.proofs.Common.{◌∙◌, sym}
use Rattle.mpi_machine.proofs.Written.{other_message, same_message}
use Rattle.mpi_machine.proofs.machine.Machine.pick_of_sender.Goals as goal

pub returns-then-eq : goal.returns-then-eq
returns-then-eq g c = λ offered.
    same_message c.args.self.now.ranks c.args.self.now.events c.args.rank c.args.call.now c.call_from-narrowed.result c.args.sender c.choice.result c.choice-2.result
    c.requires c.call_from-narrowed.ensures c.choice.ensures c.choice-2.ensures (sym c.eq.ensures ∙ c.if-eq.true)

pub returns : goal.returns
returns g c = λ offered.
    other_message c.args.self.now.ranks c.args.self.now.events c.args.rank c.args.call.now c.call_from-narrowed.result c.args.sender c.choice.result c.choice-2.result
    c.call_from-narrowed.ensures c.choice.ensures c.choice-2.ensures (sym c.eq.ensures ∙ c.if-eq.false) offered
