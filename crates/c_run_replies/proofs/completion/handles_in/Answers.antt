use Rattle.std.proofs.Common.{◌≡◌, ◌<◌, length, ◌∙◌, ap, arith, rules}
use Rattle.c_run_replies.proofs.CompletionLaws.{length-values_from}
use Rattle.c_run_replies.proofs.completion.handles_in.Goals as goal

pub returns-clause-few : goal.returns-clause-few
returns-clause-few c =
    let many : length c.in_ok-handles.handles ≡ c.args.requests.length = ap length c.in_ok-handles.ensures ∙ length-values_from c.args.requests.from c.args.requests.length c.args.state.now in
    let few : c.length-few.result < 4294967296 = search rules in
    let is : c.length-few.result ≡ c.args.requests.length = c.length-few.ensures in
    omega arith
