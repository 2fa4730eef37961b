use Rattle.std.proofs.Common.{◌<◌, subst, sym, ℕ}
use Rattle.collectives.proofs.BoardLemmas.{board_left, instances_listed, seen_count, trimmed}
use Rattle.collectives.specs.InstanceTable.{instances_in, instance_lists}
use Rattle.collectives.proofs.board.Board.leave.Goals as goal

pub leave-requires : goal.leave-requires
leave-requires c =
    let P : ℕ → Type 0 = λ k. 0 < k in
    subst P (sym (seen_count (instance_lists c.self.inside.table) c.args.self.now c.args.comm c.args.rank (instances_in c.self.inside.table c.args.comm) c.self.view_is
    (sym (instances_listed c.self.inside.table c.args.comm)))) c.requires

pub returns-clause-loses : goal.returns-clause-loses
returns-clause-loses c =
    board_left c.self.inside.table c.leave.new.self c.args.self.now c.args.comm c.args.rank c.self.view_is c.leave.ensures.others c.leave.ensures.loses

pub returns-clause-trimmed : goal.returns-clause-trimmed
returns-clause-trimmed c = trimmed (instance_lists c.leave.new.self)
