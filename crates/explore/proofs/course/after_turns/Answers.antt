use Rattle.std.proofs.Common.{◌≡◌, ◌∙◌, List, ap, arith, drop, length, subst, sym}
use Rattle.mpi_machine.specs.Turns.{MachineState}
use Rattle.explore.specs.Courses.{IsCourse}
use Rattle.explore.specs.Explored.{events_of_turns}
use Rattle.explore.proofs.Begun.{course_after, whole_slice}
use Rattle.explore.proofs.course.after_turns.Goals as goal

pub returns : goal.returns
returns g c =
    let first : List _ = c.in_ok-runs.runs.items in
    let new : List _ = c.take_turns.new.runs in
    let many : length first ≡ c.n-ranks.result = c.in_ok-runs.ensures.as_many in
    let as_many : length new ≡ length first = c.in_ok-take_turns.ensures.runs.as_many ∙ (ap (λ (m : MachineState _). m.ranks) c.in_ok-machine.ensures ∙ sym many) in
    let F : List _ → Type 0 = λ runs. IsCourse g.R.RankRun.standing c.args.setting.now.program.now c.args.setting.now.ranks
    (events_of_turns (g.P.Program.next c.args.setting.now.program.now) c.args.setting.now.ranks c.args.turns.now) c.take_turns.new.machine runs in
    subst F (sym (whole_slice first new (drop (length new) first) c.in_ok-runs.runs.len (omega (arith, c.in_ok-runs.runs.ok.0)) as_many))
    (course_after g.P.Program.next g.R.RankRun.standing c.args.setting.now.program.now c.args.setting.now.ranks c.n-ranks.result c.args.turns.now
    c.in_ok-machine.machine c.take_turns.new.machine c.take_turns.new.runs c.in_ok-machine.ensures (c.n-ranks.ensures.ranks ∙ c.requires.setting.ranks_are)
    c.in_ok-take_turns.ensures.goes c.in_ok-take_turns.ensures.runs)
