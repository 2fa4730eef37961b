use Rattle.std.proofs.Common.{ℕ, refl}
use Rattle.rank_threads.specs.inside.Readings.{machine_reading}
use Rattle.rank_threads.proofs.Numbers.{adds, replies_of_own}
use Rattle.rank_threads.proofs.recorder.RecorderAttempts.attempt.Goals as goal

pub turn-requires-clause-next : goal.turn-requires-clause-next
turn-requires-clause-next g c =
    let own = replies_of_own (machine_reading {P = g.row.P.Denot}) (λ e. refl) (λ (rank : ℕ). rank) c.args.rank (λ r. refl) c.args.self.now.machine.value.events in
    rw c.deref_mut.ensures.value (rw own at c.requires.next)

pub returns-in-Ok-clause-entries : goal.returns-in-Ok-clause-entries
returns-in-Ok-clause-entries g c =
    adds (machine_reading {P = g.row.P.Denot}) (λ e. refl) (λ (rank : ℕ). rank) c.args.rank c.args.self.now.machine.value.events c.turn.new.machine.events c.in-Ok.answer (rw c.deref_mut.ensures.value at c.in-Ok.ensures.events)

pub returns-in-Ok-clause-shape : goal.returns-in-Ok-clause-shape
returns-in-Ok-clause-shape g c = λ reply is.
    let own = replies_of_own (machine_reading {P = g.row.P.Denot}) (λ e. refl) (λ (rank : ℕ). rank) c.args.rank (λ r. refl) c.args.self.now.machine.value.events in
    rw own (rw c.deref_mut.ensures.value at (c.in-Ok.ensures.shape reply is))
