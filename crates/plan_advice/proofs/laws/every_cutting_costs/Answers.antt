use Rattle.plan_advice.proofs.Least.{certificates_bound}
use Rattle.plan_advice.proofs.laws.every_cutting_costs.Goals as goal

pub returns : goal.returns
returns c = certificates_bound
