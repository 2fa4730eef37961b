use Rattle.std.proofs.Common.{◌∙◌, ap, take, false}
use Rattle.requests.specs.Starts.{all_marked}
use Rattle.requests.proofs.Marking.{marks_gone}
use Rattle.requests.proofs.first_bad.first_bad_of.Goals as goal

pub returns-clause-same : goal.returns-clause-same
returns-clause-same c =
    c.unmark.ensures
    ∙ (ap (λ r. all_marked false (take c.mark_listed-count.result c.args.starts.now) r) c.mark_listed-count.ensures.marks
    ∙ marks_gone c.args.row.now (take c.mark_listed-count.result c.args.starts.now) c.mark_listed-count.ensures.open)
