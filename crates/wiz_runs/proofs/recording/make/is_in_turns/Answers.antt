use Rattle.std.proofs.Common.{subst, ℕ}
use Rattle.c_program.specs.View.{pure_program}
use Rattle.c_program.specs.Program.{next_of, output_of}
use Rattle.group_plan.specs.Plans.{number_of_ranks}
use Rattle.picked_runs.specs.PickLaws.{EveryRunIsRecorded, TurnsFixRun}
use Rattle.run_model.specs.Views.{Next}
use Rattle.wiz_runs.proofs.RecordingLemmas.{in_turns}
use Rattle.wiz_runs.proofs.recording.make.is_in_turns.Goals as goal

pub returns : goal.returns
returns c =
    let next : Next = next_of (pure_program c.args.ready.now.program) in
    let n : ℕ = number_of_ranks c.args.ready.now.plan in
    let E : ℕ → Type 0 = λ k. EveryRunIsRecorded next k in
    let F : ℕ → Type 0 = λ k. TurnsFixRun next k in
    in_turns next (output_of (pure_program c.args.ready.now.program)) n c.args.ready.now.text c.args.ready.now.plan c.args.ready.now.turns c.args.recording.now
    (subst E c.n.ensures.ranks c.every_run_is_picked.ensures.recorded) (subst F c.n-2.ensures.ranks c.turns_fix_run.ensures.one) c.requires
