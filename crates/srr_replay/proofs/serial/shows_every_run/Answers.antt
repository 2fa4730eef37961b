use Rattle.srr_replay.proofs.WholeReplays.{IsReplayOfRun-laws, IsWholeReplay-replayed}
use Rattle.srr_replay.proofs.serial.shows_every_run.Goals as goal

pub returns-clause-runs : goal.returns-clause-runs
returns-clause-runs g c = λ run is.
    IsReplayOfRun-laws (g.P.Program.next c.args.program.now) (g.P.Program.output c.args.program.now) (g.P.Program.variables c.args.program.now)
    c.args.log.now c.args.stop.now run _
    c.requires
    (c.begins_every_run.ensures.begins run is)
    (c.begins_every_run.ensures.stands run is)
    (c.has_the_cut.ensures.places run is)
    (c.has_the_cut.ensures.stands run is)
    (λ stopless. c.has_all_of_every_run.ensures.all stopless run is)
    (λ stopless. c.has_all_of_every_run.ensures.stands stopless run is)

pub returns-clause-alike : goal.returns-clause-alike
returns-clause-alike g c = λ other whole rank.
    c.replays_agree.ensures.views _ other (IsWholeReplay-replayed _ _ _ _ _ _ c.requires) whole rank
