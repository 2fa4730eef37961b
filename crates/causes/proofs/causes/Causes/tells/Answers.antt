use Rattle.causes.proofs.Telling.{clocks_tell}
use Rattle.causes.proofs.causes.Causes.tells.Goals as goal

pub returns : goal.returns
returns c = clocks_tell c.args.self.now (rw (← c.self.view_is) c.self.invariant.1) (rw (← c.self.view_is) c.self.invariant.2)
