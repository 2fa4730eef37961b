use Rattle.std.proofs.Common.{refl, slice_index}
use Rattle.c_program.specs.View.{pure_program}
use Rattle.c_program.specs.Program.{next_of, variables_of}
use Rattle.wiz_tool.proofs.ResultLemmas.{on_ok}
use Rattle.wiz_logs.proofs.ViewLemmas.{snapshots_more}
use Rattle.wiz_logs.proofs.viewing.tell.+add_snapshots.Goals as goal

pub returns-in_ok-push-in-len1-up-ends : goal.returns-in_ok-push-in-len1-up-ends
returns-in_ok-push-in-len1-up-ends t c =
    on_ok c.add_snapshots.result _ _
    (λ more. snapshots_more (next_of (pure_program c.args.program.now)) (variables_of (pure_program c.args.program.now)) c.args.n c.args.by_rank.now c.args.group.now c.args.ends.now (slice_index c.args.group.now 0) c.stand-item.result
    c.args.snapshots.now c.push.new.self c.add_snapshots.new.snapshots c.in_ok-snapshot_of-in-len1-up-ends.field-0 c.in-len1-up.len_at_least c.in-len1-up-ends.len_at_least refl c.stand-item.is
    (rw (c.in_ok-run-in-len1-up-ends.ensures, c.get-own.ensures) at c.in_ok-snapshot_of-in-len1-up-ends.ensures) c.in_ok-push-in-len1-up-ends.ensures.ok more)
    c.add_snapshots.ensures
