use Rattle.std.proofs.Common.{◌∙◌}
use Rattle.requests.proofs.Marking.{bad_there}
use Rattle.requests.proofs.first_bad.first_bad.Goals as goal

pub returns-clause-value : goal.returns-clause-value
returns-clause-value c =
    c.first_bad_of.ensures.value
    ∙ bad_there c.args.rows.now.items c.index_mut.result.now c.args.me c.args.starts.now c.requires c.index_mut.ensures.value
