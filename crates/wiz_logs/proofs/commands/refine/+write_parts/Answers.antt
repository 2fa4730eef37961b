use Rattle.std.proofs.Common.{List, ℕ, arith}
use Rattle.srr_regroup.specs.Regrouping.{refined}
use Rattle.wiz_logs.proofs.PartFiles.{parts_stopped, parts_written}
use Rattle.wiz_tool.proofs.ResultLemmas.{if_err, on_ok}
use Rattle.wiz_logs.proofs.commands.refine.+write_parts.Goals as goal

pub returns-clause-ok : goal.returns-clause-ok
returns-clause-ok g n c =
    let log = c.args.refinement.now.log in
    let groups : List (List ℕ) = c.args.refinement.now.plan in
    on_ok c.write_parts.result _ _
    (λ second. parts_written c.args.prefix.now log.group (refined log c.args.replayed.now.events.events) c.args.k groups
    (g.S.Store.observed c.args.store.now).files (g.S.Store.observed c.write_part.new.store).files (g.S.Store.observed c.write_parts.new.store).files
    (omega (arith, c.requires.1, c.groups.ensures, c.if-k-groups.false)) c.in_ok-write_part.ensures.ok second)
    c.write_parts.ensures.ok

pub returns-clause-stopped : goal.returns-clause-stopped
returns-clause-stopped g n c =
    let log = c.args.refinement.now.log in
    let groups : List (List ℕ) = c.args.refinement.now.plan in
    if_err c.write_parts.result _ _
    (λ why stopped. parts_stopped c.args.prefix.now log.group (refined log c.args.replayed.now.events.events) c.args.k groups
    (g.S.Store.observed c.args.store.now) (g.S.Store.observed c.write_part.new.store) (g.S.Store.observed c.write_parts.new.store) why
    (omega (arith, c.requires.1, c.groups.ensures, c.if-k-groups.false)) c.in_ok-write_part.ensures.ok stopped c.in_ok-write_part.ensures.later)
    c.write_parts.ensures.stopped
