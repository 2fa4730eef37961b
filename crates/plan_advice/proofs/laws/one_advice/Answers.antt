use Rattle.plan_advice.proofs.One.{one_advice}
use Rattle.plan_advice.proofs.laws.one_advice.Goals as goal

pub returns : goal.returns
returns c = one_advice
