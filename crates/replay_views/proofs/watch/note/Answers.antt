use Rattle.std.proofs.Common.{◌∙◌, sym}
use Rattle.replay_views.proofs.ValueLemmas.{same_is}
use Rattle.replay_views.proofs.watch.note.Goals as goal

pub returns-then-have_same_values-clause-last : goal.returns-then-have_same_values-clause-last
returns-then-have_same_values-clause-last c = same_is c.args.last.now c.args.values (sym c.have_same_values.ensures ∙ c.if-have_same_values.true)
