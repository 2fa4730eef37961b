use Rattle.std.proofs.Common.{length, map}
use Rattle.replay_views.proofs.WatchLemmas.{WatchedSoFar}
use Rattle.replay_views.proofs.watch.changes_of.Given as goal

abbrev pub invariant-loop-rest : goal.invariant-loop-rest
invariant-loop-rest g l =
    WatchedSoFar g.P.Program.next g.P.Program.variables l.name (g.R.RankRun.standing l.fn.run) (map (λ event. (event.now.call, event.now.reply)) l.own)
    (map (λ event. (event.now.call, event.now.reply)) l.rest) l.number l.last l.changes (g.R.RankRun.standing l.run)

abbrev pub decreases-loop-rest : goal.decreases-loop-rest
decreases-loop-rest g l = length l.rest
