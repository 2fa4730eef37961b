use Rattle.tests_machine.proofs.Positions.{next_later, next_taken}
use Rattle.tests_machine.proofs.starting.complete.Goals as goal

pub returns : goal.returns
returns c =
    next_later 2 c.args.at c.take.new.self (next_taken 2 c.args.at c.args.rank c.args.starts.now c.in_ok-answer.answer c.args.requests.now c.take.new.self c.requires.may c.in_ok-answer.ensures.after)
