use Rattle.std.proofs.Common.{[]}
use Rattle.wiz_searches.specs.Explorations.{found_turns, left_prefix, numbered_files}
use Rattle.wiz_tool.proofs.FileLemmas.{AreWritten-append, IsStopped-behind}
use Rattle.wiz_tool.proofs.ResultLemmas.{if_err, on_ok}
use Rattle.wiz_searches.proofs.SearchFiles.{found_apart, found_apart_all}
use Rattle.wiz_searches.proofs.commands.explore_files.write_orders.Goals as goal

pub returns-clause-ok : goal.returns-clause-ok
returns-clause-ok g c =
    let prefix = c.args.prefix.now in
    let explored = c.args.explored.now in
    let found = found_turns explored.found in
    on_ok c.write_left.result _ _
    (λ written. AreWritten-append (g.S.Store.observed c.args.store.now).files (g.S.Store.observed c.write_found.new.store).files (g.S.Store.observed c.write_left.new.store).files
    (numbered_files prefix 0 found) (numbered_files (left_prefix prefix) 0 explored.left) [] (rw c.as_slice.ensures at c.in_ok-write_found.ensures.ok)
    (rw (c.as_slice-2.ensures, c.deref.ensures, c.in_ok-left.ensures) at written) (found_apart_all prefix found explored.left))
    c.write_left.ensures.ok

pub returns-clause-stopped : goal.returns-clause-stopped
returns-clause-stopped g c =
    let prefix = c.args.prefix.now in
    let explored = c.args.explored.now in
    let found = found_turns explored.found in
    if_err c.write_left.result _ _
    (λ why stopped. IsStopped-behind (g.S.Store.observed c.args.store.now) (g.S.Store.observed c.write_found.new.store) (g.S.Store.observed c.write_left.new.store)
    (numbered_files prefix 0 found) (numbered_files (left_prefix prefix) 0 explored.left) why (rw c.as_slice.ensures at c.in_ok-write_found.ensures.ok)
    (rw (c.as_slice-2.ensures, c.deref.ensures, c.in_ok-left.ensures) at stopped) c.in_ok-write_found.ensures.later (found_apart prefix 0 found explored.left))
    c.write_left.ensures.stopped
