use Rattle.std.proofs.Common.{arith}
use Rattle.run_model.proofs.Views.{length-view_of}
use Rattle.srr_replay.proofs.ReplaysLemmas.{AreCounts-after}
use Rattle.srr_replay.proofs.indexed_history.IndexedHistory.add.Goals as goal

pub rise-requires-clause-few : goal.rise-requires-clause-few
rise-requires-clause-few c =
    let below = rw (← c.self.view_is) at c.requires.rank in
    let count = c.self.invariant.0.1 c.args.event.rank below in
    let many = length-view_of c.self.inside.events.events c.args.event.rank in
    let short = c.in_ok-prepare.ensures.short in
    omega (arith, count, many, short)

pub invariant_of-self-2 : goal.invariant_of-self-2
invariant_of-self-2 c =
    let known = rw (← c.self.view_is) at c.requires.known in
    let below = rw (← c.self.view_is) at c.requires.rank in
    rw (c.push.ensures.events, c.in_ok-prepare.ensures.same, c.rise.ensures) (
      AreCounts-after _ _ _ _ below c.self.invariant.0,
      c.in_ok-prepare.ensures.ok.0,
      c.self.invariant.2,
      c.self.invariant.3,
      c.in_ok-prepare.ensures.ok.1,
      known,
      c.in_ok-prepare.ensures.ok.2,
    )
