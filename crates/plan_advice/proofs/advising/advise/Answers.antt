use Rattle.std.proofs.Common.{ap, refl}
use Rattle.std.specs.Prelude.{slice_index}
use Rattle.plan_advice.proofs.Given.{few_given, run_views}
use Rattle.plan_advice.proofs.Reached.{advised}
use Rattle.plan_advice.proofs.advising.advise.Goals as goal

pub new-requires-clause-views : goal.new-requires-clause-views
new-requires-clause-views c = run_views c.args.n c.args.history.now.events c.requires.run

pub new-requires-clause-few : goal.new-requires-clause-few
new-requires-clause-few c = few_given c.args.n c.args.history.now.events c.requires.run

pub returns : goal.returns
returns c =
    advised c.args.n c.args.history.now.events c.args.most c.in_ok-begins.field-0 _
    (rw (c.in_ok-costs.ensures.ranks, c.in_ok-costs.ensures.events) at c.in_ok-begins.ensures)
    (rw c.as_slice.ensures at c.in_ok-push_ends.ensures)
    (ap (λ l. slice_index l c.args.n) c.as_slice-2.ensures) refl
