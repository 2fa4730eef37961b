use Rattle.plan_advice.proofs.Given.{few_given, run_views}
use Rattle.plan_advice.proofs.holding.holds.Goals as goal

pub new-requires-clause-views : goal.new-requires-clause-views
new-requires-clause-views c = run_views c.args.n c.args.history.now.events c.requires.run

pub new-requires-clause-few : goal.new-requires-clause-few
new-requires-clause-few c = few_given c.args.n c.args.history.now.events c.requires.run
