use Rattle.c_program.specs.View.{pure_program}
use Rattle.wiz_runs.proofs.CommandLemmas.{advice_told}
use Rattle.wiz_runs.proofs.RecordingLemmas.{run_made}
use Rattle.wiz_runs.proofs.commands.advise.advise_on.Goals as goal

pub advise-requires-clause-run : goal.advise-requires-clause-run
advise-requires-clause-run c = rw c.n-ranks.ensures.ranks (run_made _ _ _ c.requires.made)

pub plan_cost-requires : goal.plan_cost-requires
plan_cost-requires c = record { run = run_made _ _ _ c.requires.made }

pub returns : goal.returns
returns c =
    advice_told c.args.most c.n-ranks.result c.min.result c.in_ok-given.given (pure_program c.args.ready.now.program) c.args.ready.now.plan c.args.recording c.in_ok-advice.advice
    c.in_ok-text.text c.of_ending-status.result _ c.n-ranks.ensures.ranks c.min.ensures c.in_ok-advice.ensures c.in_ok-given.ensures c.in_ok-text.ensures
    c.of_ending-status.ensures c.text_of_run.ensures c.one_advice.ensures c.every_cutting_costs.ensures
