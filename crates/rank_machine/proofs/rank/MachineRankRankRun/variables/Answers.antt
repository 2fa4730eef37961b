use Rattle.std.proofs.Common.{◌≡◌, Some, true}
use Rattle.c_program.specs.Courses.{listed_of}
use Rattle.c_program.specs.Program.{next_of, variables_of}
use Rattle.c_program.specs.View.{pure_program}
use Rattle.rank_machine.proofs.Ranks.{none-kept, ready-variables}
use Rattle.rank_machine.proofs.rank.MachineRankRankRun.variables.Goals as goal

pub returns : goal.returns
returns c =
    let asked : c.self.inside.asked ≡ true = rw (← c.self.view_is) at c.requires.asked in
    let live : next_of (pure_program c.self.inside.program.now) c.self.inside.code.rank.ranks c.self.inside.code.rank.number c.self.inside.replies.items ≡ Some c.requires.live.0 = rw (← c.self.view_is) at c.requires.live.1 in
    let same : listed_of c.in-Some.going.stack.state c.in-Some.going.stack.state.slots ≡ variables_of (pure_program c.self.inside.program.now) c.self.inside.code.rank.ranks c.self.inside.code.rank.number c.self.inside.replies.items =
    ready-variables (pure_program c.self.inside.program.now) c.self.inside.code c.self.inside.replies.items _ c.self.inside.going c.in-Some.going c.self.invariant asked c.in-Some.is c.requires.live.0 live in
    rw (← c.self.view_is, ← same) c.variables.ensures

pub unreachable-requires : goal.unreachable-requires
unreachable-requires c =
    let asked : c.self.inside.asked ≡ true = rw (← c.self.view_is) at c.requires.asked in
    none-kept (pure_program c.self.inside.program.now) c.self.inside.code c.self.inside.replies.items _ c.self.inside.going c.self.invariant asked c.in-None.is
