use Rattle.std.proofs.Common.{MatchBool, subst, sym}
use Rattle.picked_runs.specs.declared.turn.Pick.{Pick}
use Rattle.picked_runs.specs.declared.turn.Pick.TheVariants.{Index, Sender}
use Rattle.explore.specs.Courses.{IsAnswered, IsTurnHeldBack}
use Rattle.explore.proofs.Answering.{first_done, pick_done}
use Rattle.explore.proofs.Offering.{index_apart, sender_apart}
use Rattle.explore.proofs.course.answer.Goals as goal

pub returns-in_ok-attempt-in-First-clause-answered : goal.returns-in_ok-attempt-in-First-clause-answered
returns-in_ok-attempt-in-First-clause-answered g c =
    let next = g.P.Program.next c.args.machine.now.program in
    let one = c.args.machine.now in
    let two = c.attempt.new.self in
    let F : Pick → Type 0 = λ pick. MatchBool c.is_replied.result (IsAnswered next one.ranks one.events two.events (record { rank = c.args.rank; pick = pick }) c.args.call) (IsTurnHeldBack one.ranks one.events two.events (record { rank = c.args.rank; pick = pick }) c.args.call) in
    subst F (sym c.in-First.is) (first_done next one two c.args.rank c.args.call c.in_ok-attempt-in-First.field-0 c.is_replied.result c.is_replied.ensures
    c.in_ok-attempt-in-First.ensures.answer c.in_ok-attempt-in-First.ensures.after)

pub returns-in_ok-attempt_from-in-Sender-clause-answered : goal.returns-in_ok-attempt_from-in-Sender-clause-answered
returns-in_ok-attempt_from-in-Sender-clause-answered g c =
    let next = g.P.Program.next c.args.machine.now.program in
    let one = c.args.machine.now in
    let two = c.attempt_from.new.self in
    let F : Pick → Type 0 = λ pick. MatchBool c.is_some.result (IsAnswered next one.ranks one.events two.events (record { rank = c.args.rank; pick = pick }) c.args.call) (IsTurnHeldBack one.ranks one.events two.events (record { rank = c.args.rank; pick = pick }) c.args.call) in
    subst F (sym c.in-Sender.is) (pick_done next one two c.args.rank c.args.call (Sender c.in-Sender.sender) c.in_ok-attempt_from-in-Sender.field-0 c.is_some.result (sender_apart c.in-Sender.sender)
    c.is_some.ensures c.in_ok-attempt_from-in-Sender.ensures.answer c.in_ok-attempt_from-in-Sender.ensures.after)

pub returns-in_ok-attempt_at-in-Index-clause-answered : goal.returns-in_ok-attempt_at-in-Index-clause-answered
returns-in_ok-attempt_at-in-Index-clause-answered g c =
    let next = g.P.Program.next c.args.machine.now.program in
    let one = c.args.machine.now in
    let two = c.attempt_at.new.self in
    let F : Pick → Type 0 = λ pick. MatchBool c.is_some-in-Index.result (IsAnswered next one.ranks one.events two.events (record { rank = c.args.rank; pick = pick }) c.args.call) (IsTurnHeldBack one.ranks one.events two.events (record { rank = c.args.rank; pick = pick }) c.args.call) in
    subst F (sym c.in-Index.is) (pick_done next one two c.args.rank c.args.call (Index c.in-Index.index) c.in_ok-attempt_at-in-Index.field-0 c.is_some-in-Index.result (index_apart c.in-Index.index)
    c.is_some-in-Index.ensures c.in_ok-attempt_at-in-Index.ensures.answer c.in_ok-attempt_at-in-Index.ensures.after)
