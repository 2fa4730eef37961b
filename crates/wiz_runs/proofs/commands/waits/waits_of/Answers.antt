use Rattle.wiz_runs.proofs.CommandLemmas.{waits_told}
use Rattle.wiz_runs.proofs.RecordingLemmas.{ranks_below}
use Rattle.wiz_runs.proofs.commands.waits.waits_of.Goals as goal

pub graph-requires : goal.graph-requires
graph-requires c = rw c.n-ranks.ensures.ranks (ranks_below _ _ _ c.requires)

pub waits_text-requires : goal.waits_text-requires
waits_text-requires c = rw c.n-ranks.ensures.ranks (ranks_below _ _ _ c.requires)

pub returns : goal.returns
returns c =
    waits_told c.n-ranks.result c.args.ready.now c.args.recording c.in_ok-graph.graph c.in_ok-text.text c.of_ending-status.result _
    c.n-ranks.ensures.ranks c.requires c.in_ok-graph.ensures c.in_ok-text.ensures c.of_ending-status.ensures c.text_of_run.ensures
    c.stuck_exactly.ensures.stuck c.stuck_exactly.ensures.blocked c.has_cause.ensures.waits c.has_cause.ensures.cause c.none_fits.ensures c.opens_differ.ensures
