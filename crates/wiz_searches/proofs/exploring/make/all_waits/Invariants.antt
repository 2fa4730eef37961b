use Rattle.std.proofs.Common.{take}
use Rattle.std.specs.List.{AllZip}
use Rattle.c_program.specs.View.{pure_program}
use Rattle.c_program.specs.Program.{next_of}
use Rattle.group_plan.specs.Plans.{number_of_ranks}
use Rattle.wiz_searches.specs.Explorations.{IsWaiting}
use Rattle.wiz_searches.proofs.exploring.make.all_waits.Given as goal

abbrev pub invariant-loop-found : goal.invariant-loop-found
invariant-loop-found l =
    AllZip (IsWaiting (next_of (pure_program l.ready.program)) (number_of_ranks l.ready.plan)) (take l.found-index l.listed) l.waits
