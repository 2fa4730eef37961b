use Rattle.std.proofs.Common.{◌≡◌, ◌≤◌, arith, ap, option_map}
use Rattle.c_run_replies.proofs.CellLaws.{put_result-left}
use Rattle.c_run_replies.proofs.reply.took_result.Goals as goal

pub returns-clause-left : goal.returns-clause-left
returns-clause-left c =
    let put : c.put_result.new.state.left ≤ c.learn.new.state.left = put_result-left c.args.into (option_map (λ got. got.now) c.in_ok-got.got) c.learn.new.state c.put_result.new.state c.in_ok-put_result.ensures in
    let noted : c.learn.new.state.left ≡ c.args.state.now.left = ap (λ s. s.left) c.in_ok-got.ensures.state in
    omega arith
