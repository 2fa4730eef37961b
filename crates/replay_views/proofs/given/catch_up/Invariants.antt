use Rattle.std.proofs.Common.{◌≡◌, ◌++◌, length, map}
use Rattle.replay_views.specs.inside.Got.{HasGot}
use Rattle.run_model.specs.Views.{View}
use Rattle.replay_views.proofs.given.catch_up.Given as goal

abbrev pub invariant-loop-rest : goal.invariant-loop-rest
invariant-loop-rest g l =
    record {
      before : View;
      parts : before ++ map (λ event. (event.now.call, event.now.reply)) l.rest ≡ map (λ event. (event.now.call, event.now.reply)) l.own;
      got : HasGot (g.R.RankRun.standing l.fn.run).program (g.R.RankRun.standing l.fn.run).ranks (g.R.RankRun.standing l.fn.run).rank before (g.R.RankRun.standing l.run);
    }

abbrev pub decreases-loop-rest : goal.decreases-loop-rest
decreases-loop-rest g l = length l.rest
