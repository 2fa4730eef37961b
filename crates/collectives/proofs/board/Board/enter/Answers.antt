use Rattle.std.proofs.Common.{◌∙◌}
use Rattle.std.proofs.lemmas.Result.{IfOk-weaker, on_err_weaker}
use Rattle.collectives.proofs.BoardLemmas.{answer_is, board_after, same_read}
use Rattle.collectives.proofs.board.Board.enter.Goals as goal

pub returns-clause-answer : goal.returns-clause-answer
returns-clause-answer c =
    IfOk-weaker c.enter.result _ _
    (λ entered answer. answer ∙ answer_is c.self.inside.table c.args.self.now c.comm_of.result c.args.rank c.args.call.now c.self.view_is c.comm_of.ensures) c.enter.ensures.answer

pub returns-clause-disagrees : goal.returns-clause-disagrees
returns-clause-disagrees c = λ other disagrees.
    c.enter.ensures.disagrees other (answer_is c.self.inside.table c.args.self.now c.comm_of.result c.args.rank c.args.call.now c.self.view_is c.comm_of.ensures ∙ disagrees)

pub returns-clause-after : goal.returns-clause-after
returns-clause-after c =
    IfOk-weaker c.enter.result _ _
    (λ entered after. board_after c.self.inside.table c.enter.new.self c.args.self.now c.comm_of.result c.args.rank c.args.call.now entered
    c.self.view_is c.comm_of.ensures c.enter.ensures.others after)
    c.enter.ensures.after

pub returns-clause-err : goal.returns-clause-err
returns-clause-err c =
    on_err_weaker c.enter.result (λ same. same_read c.self.inside.table c.enter.new.self c.args.self.now c.self.view_is same) c.enter.ensures.err
