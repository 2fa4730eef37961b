use Rattle.msg_races.proofs.One.{one_list}
use Rattle.msg_races.proofs.laws.one_list.Goals as goal

pub returns : goal.returns
returns c = one_list
