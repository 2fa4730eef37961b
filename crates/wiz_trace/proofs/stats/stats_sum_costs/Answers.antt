use Rattle.wiz_trace.proofs.CountLaws.{sum_costs}
use Rattle.wiz_trace.proofs.stats.stats_sum_costs.Goals as goal

pub returns : goal.returns
returns c = sum_costs
