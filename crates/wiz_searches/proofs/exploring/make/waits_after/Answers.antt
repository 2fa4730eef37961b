use Rattle.c_program.specs.View.{pure_program}
use Rattle.c_program.specs.Program.{next_of}
use Rattle.group_plan.specs.Plans.{number_of_ranks}
use Rattle.msg_races.proofs.Ranks.{run_ranks}
use Rattle.run_model.proofs.Prompt.{prompt_is_run}
use Rattle.wiz_tool.proofs.ResultLemmas.{if_ok}
use Rattle.wiz_searches.proofs.SearchLemmas.{waits_told}
use Rattle.wiz_searches.proofs.exploring.make.waits_after.Goals as goal

pub graph-requires : goal.graph-requires
graph-requires c =
    rw c.n-ranks.ensures.ranks
    (run_ranks (next_of (pure_program c.args.ready.now.program)) (number_of_ranks c.args.ready.now.plan) c.in_ok-recording.recording.history.events
    (prompt_is_run (next_of (pure_program c.args.ready.now.program)) (number_of_ranks c.args.ready.now.plan) c.in_ok-recording.recording.history.events c.in_ok-recording.ensures.recorded.picked.run))

pub waiting_text-requires : goal.waiting_text-requires
waiting_text-requires c =
    rw c.n-ranks.ensures.ranks
    (run_ranks (next_of (pure_program c.args.ready.now.program)) (number_of_ranks c.args.ready.now.plan) c.in_ok-recording.recording.history.events
    (prompt_is_run (next_of (pure_program c.args.ready.now.program)) (number_of_ranks c.args.ready.now.plan) c.in_ok-recording.recording.history.events c.in_ok-recording.ensures.recorded.picked.run))

pub returns : goal.returns
returns c =
    if_ok c.waiting_text.result _ _
    (λ text is. (
      c.in_ok-recording.recording.history.events,
      c.in_ok-recording.ensures.in_turns.taken,
      waits_told (number_of_ranks c.args.ready.now.plan) c.n-ranks.result c.in_ok-recording.recording.history.events c.in_ok-graph.graph text c.n-ranks.ensures.ranks c.in_ok-graph.ensures is,
    ))
    c.waiting_text.ensures
