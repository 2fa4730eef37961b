use Rattle.c_eval.proofs.Evaluations.{after-last}
use Rattle.c_eval.proofs.rank.last.Goals as goal

pub returns-in-Some : goal.returns-in-Some
returns-in-Some c = λ s. rw c.in-Some.ensures (after-last c.args.call s c.in-Some.field-0.now c.next.new.self)
