use Rattle.std.proofs.Common.{refl}
use Rattle.run_model.specs.Lists.{world}
use Rattle.run_model.proofs.CommunicatorLaws.{known_after-some}
use Rattle.run_model.proofs.communicators.are_the_members.Goals as goal

pub returns-then-comm-eq0 : goal.returns-then-comm-eq0
returns-then-comm-eq0 c =
    rw (c.are_all.ensures, c.if-comm-eq0.true, known_after-some 0 (world c.args.n 0) c.args.view.now) refl
