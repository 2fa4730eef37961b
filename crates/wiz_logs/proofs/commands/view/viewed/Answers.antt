use Rattle.c_program.specs.View.{pure_program}
use Rattle.std.proofs.Common.{[]}
use Rattle.wiz_logs.specs.Views.{reported_text, view_with_texts}
use Rattle.wiz_tool.specs.inside.Told.{outcome_written}
use Rattle.wiz_logs.proofs.ViewLemmas.{asked_is, have_come, tells, trace_is}
use Rattle.wiz_logs.proofs.commands.view.viewed.Goals as goal

pub told_text-requires-clause-came : goal.told_text-requires-clause-came
told_text-requires-clause-came c =
    have_come c.args.text.now c.args.log.now c.args.stop (pure_program c.args.program.now) c.args.replayed c.requires.log c.requires.program c.requires.replay

pub returns-in_ok-replays-in-Done : goal.returns-in_ok-replays-in-Done
returns-in_ok-replays-in-Done c =
    tells c.args.text.now c.args.log.now c.args.stop (view_with_texts c.args.asked.now) (pure_program c.args.program.now) c.args.replayed (outcome_written [] c.text_of_replays.result)
    c.requires.program c.requires.replay c.text_fixes_meaning.ensures c.a_step_back_is_a_part.ensures c.replays_step_back.ensures
    (asked_is c.args.replayed (reported_text (pure_program c.args.program.now) c.args.log.now (view_with_texts c.args.asked.now) c.args.replayed.events.events c.args.replayed.ends) c.in_ok-told-in-Done.told c.of_stands.result c.text_of_replays.result
    c.in-Done.is (rw c.as_slice.ensures at c.of_stands.ensures) c.in_ok-told-in-Done.ensures (rw c.in_ok-replays-in-Done.ensures at c.text_of_replays.ensures))

pub returns-in_ok-replays-in_default : goal.returns-in_ok-replays-in_default
returns-in_ok-replays-in_default c =
    tells c.args.text.now c.args.log.now c.args.stop (view_with_texts c.args.asked.now) (pure_program c.args.program.now) c.args.replayed (outcome_written [] c.text_of_replays-in_default.result)
    c.requires.program c.requires.replay c.text_fixes_meaning.ensures c.a_step_back_is_a_part.ensures c.replays_step_back.ensures
    (trace_is c.args.replayed (reported_text (pure_program c.args.program.now) c.args.log.now (view_with_texts c.args.asked.now) c.args.replayed.events.events c.args.replayed.ends) c.in_ok-told-in_default.told c.of_stands.result c.text_of_replays-in_default.result
    c.in_default.not-Done (rw c.as_slice.ensures at c.of_stands.ensures) c.in_ok-told-in_default.ensures (rw c.in_ok-replays-in_default.ensures at c.text_of_replays-in_default.ensures))
