use Rattle.std.proofs.Common.{refl}
use Rattle.rank_threads.specs.inside.Readings.{replay_reading}
use Rattle.rank_threads.specs.inside.Numbered.{place_in}
use Rattle.rank_threads.proofs.Numbers.{adds, replies_of_own, place_alone}
use Rattle.rank_threads.proofs.replayer.ReplayerAttempts.attempt.Goals as goal

pub step-requires-clause-next : goal.step-requires-clause-next
step-requires-clause-next g c =
    let replay = c.args.self.now.replay.value in
    let own = replies_of_own (replay_reading {P = g.row.P.Denot}) (λ e. refl) (place_in replay.log.group) c.args.rank (place_alone replay.log.group c.args.rank c.requires.runs) replay.events in
    rw c.deref_mut.ensures.value (rw own at c.requires.next)

pub returns-in-Ok-clause-entries : goal.returns-in-Ok-clause-entries
returns-in-Ok-clause-entries g c =
    let replay = c.args.self.now.replay.value in
    rw (c.in-Ok.ensures.log, c.deref_mut.ensures.value) (adds (replay_reading {P = g.row.P.Denot}) (λ e. refl) (place_in replay.log.group) c.args.rank replay.events c.step.new.replay.events c.in-Ok.answer (rw c.deref_mut.ensures.value at c.in-Ok.ensures.events))

pub returns-in-Ok-clause-shape : goal.returns-in-Ok-clause-shape
returns-in-Ok-clause-shape g c = λ reply is.
    let replay = c.args.self.now.replay.value in
    let own = replies_of_own (replay_reading {P = g.row.P.Denot}) (λ e. refl) (place_in replay.log.group) c.args.rank (place_alone replay.log.group c.args.rank c.requires.runs) replay.events in
    rw own (rw c.deref_mut.ensures.value at (c.in-Ok.ensures.shape reply is))
