use Rattle.c_program.specs.Courses.{ended}
use Rattle.c_eval.proofs.RankLaws.{wants-from}
use Rattle.c_eval.proofs.rank.evaluate.Goals as goal

pub returns-in-Ok : goal.returns-in-Ok
returns-in-Ok c = wants-from _ _ _ _ (rw (← c.of-rest.ensures) (c.in-Ok.ensures.at (λ v s. ended s))) (c.last.ensures c.call_function.new.state)

pub returns-in-Err-Trapped : goal.returns-in-Err-Trapped
returns-in-Err-Trapped c =
    let h = rw (c.in-Err-Trapped.field-0-is) at c.in-Err-Trapped.ensures in
    wants-from _ _ _ _ (rw (← c.of-rest.ensures) (h (λ v s. ended s))) (c.last-in-Err-Trapped.ensures c.call_function.new.state)

pub returns-in-Err-Waits : goal.returns-in-Err-Waits
returns-in-Err-Waits c =
    let h = rw (c.in-Err-Waits.field-0-is) at c.in-Err-Waits.ensures in
    rw (← c.of-rest.ensures) (h (λ v s. ended s))

pub returns-in-Err-Over : goal.returns-in-Err-Over
returns-in-Err-Over c =
    let h = rw (c.in-Err-Over.field-0-is) at c.in-Err-Over.ensures in
    rw (← c.of-rest.ensures) (h (λ v s. ended s))
