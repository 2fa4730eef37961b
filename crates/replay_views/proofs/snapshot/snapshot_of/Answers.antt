use Rattle.std.proofs.Common.{sym}
use Rattle.std.proofs.lemmas.List.{length-map}
use Rattle.replay_views.proofs.SnapshotLemmas.{snapshot_is}
use Rattle.replay_views.proofs.snapshot.snapshot_of.Goals as goal

pub catch_up-requires-clause-came : goal.catch_up-requires-clause-came
catch_up-requires-clause-came g c = rw c.requires.rank c.requires.came

pub variables_at-requires-clause-says : goal.variables_at-requires-clause-says
variables_at-requires-clause-says g c = rw c.in_ok-want.ensures.ok c.in_ok-want.ensures.says

pub returns : goal.returns
returns g c =
    snapshot_is g.P.Program.next g.P.Program.variables (g.R.RankRun.standing c.args.run.now) (g.R.RankRun.standing c.catch_up.new.run) (g.R.RankRun.standing c.want.new.self) c.args.rank _ _
    c.args.stand.now c.in_ok-want.want _ _ _ c.requires.rank c.in_ok-catch_up.ensures c.in_ok-want.ensures.ok c.in_ok-want.ensures.says c.in_ok-variables.ensures
    c.ahead_of.ensures c.in_ok-last.ensures (sym (length-map c.args.own.now (λ event. (event.now.call, event.now.reply))))
