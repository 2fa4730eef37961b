use Rattle.std.proofs.Common.{◌∙◌, sym}
use Rattle.run_model.specs.Views.{view_of}
use Rattle.run_states.proofs.Instancing.{members_first}
use Rattle.run_states.proofs.origins.members_of.Goals as goal

pub returns-then-comm-eq0 : goal.returns-then-comm-eq0
returns-then-comm-eq0 c = λ n all. c.as_slice.ensures ∙ (all ∙ sym (members_first n c.args.comm (view_of c.args.before.now c.args.rank) c.if-comm-eq0.true))
