use Rattle.std.proofs.Common.{◌∙◌, Some, ap, sym}
use Rattle.run_model.specs.Lists.{world}
use Rattle.run_model.specs.Views.{view_of}
use Rattle.run_model.proofs.CommunicatorLaws.{known_after-some}
use Rattle.srr_replay.proofs.indexed_history.IndexedHistory.known.Goals as goal

pub returns-then-comm-eq0 : goal.returns-then-comm-eq0
returns-then-comm-eq0 c =
    rw (← c.self.view_is, c.if-comm-eq0.true)
    (ap Some c.self.invariant.2 ∙ sym (known_after-some 0 (world c.self.inside.ranks 0) (view_of c.self.inside.events.events c.args.rank)))
