use Rattle.std.proofs.Common.{◌∙◌}
use Rattle.collectives.proofs.BoardLemmas.{on_found, on_none, seen_count, seen_enters, seen_trimmed}
use Rattle.collectives.specs.InstanceTable.{instance_lists}
use Rattle.collectives.proofs.board.Board.instances_on.Goals as goal

pub returns-in-Some-clause-enters : goal.returns-in-Some-clause-enters
returns-in-Some-clause-enters c = λ instance.
    seen_enters (instance_lists c.self.inside.table) c.args.self.now c.args.comm instance c.in-Some.instances.now c.self.view_is
    (on_found c.self.inside.table c.args.comm c.in-Some.instances.now c.in-Some.ensures)

pub returns-in-Some-clause-count : goal.returns-in-Some-clause-count
returns-in-Some-clause-count c = λ rank.
    seen_count (instance_lists c.self.inside.table) c.args.self.now c.args.comm rank c.in-Some.instances.now c.self.view_is
    (on_found c.self.inside.table c.args.comm c.in-Some.instances.now c.in-Some.ensures)

pub returns-in-None-clause-enters : goal.returns-in-None-clause-enters
returns-in-None-clause-enters c = λ instance.
    seen_enters (instance_lists c.self.inside.table) c.args.self.now c.args.comm instance c.self.inside.none c.self.view_is
    (c.self.invariant ∙ on_none c.self.inside.table c.args.comm c.in-None.ensures)

pub returns-in-None-clause-count : goal.returns-in-None-clause-count
returns-in-None-clause-count c = λ rank.
    seen_count (instance_lists c.self.inside.table) c.args.self.now c.args.comm rank c.self.inside.none c.self.view_is
    (c.self.invariant ∙ on_none c.self.inside.table c.args.comm c.in-None.ensures)

pub returns-in-Some-clause-trimmed : goal.returns-in-Some-clause-trimmed
returns-in-Some-clause-trimmed c = seen_trimmed (instance_lists c.self.inside.table) c.args.self.now c.self.view_is

pub returns-in-None-clause-trimmed : goal.returns-in-None-clause-trimmed
returns-in-None-clause-trimmed c = seen_trimmed (instance_lists c.self.inside.table) c.args.self.now c.self.view_is
