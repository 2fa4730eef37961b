use Rattle.std.proofs.Common.{[]}
use Rattle.wiz_tool.specs.inside.Told.{outcome_written}
use Rattle.wiz_logs.proofs.DiffLemmas.{both_replay, compared_is, compares, first_ranks, status_is, traces_are}
use Rattle.wiz_logs.proofs.commands.diff.compared.Goals as goal

pub text_fixes_meaning-requires : goal.text_fixes_meaning-requires
text_fixes_meaning-requires c = rw c.as_slice.ensures c.requires.is_program

pub parts_by_a_reply-requires-clause-one : goal.parts_by_a_reply-requires-clause-one
parts_by_a_reply-requires-clause-one c = (both_replay c.args.runs.now c.args.first c.args.second c.requires).0

pub parts_by_a_reply-requires-clause-other : goal.parts_by_a_reply-requires-clause-other
parts_by_a_reply-requires-clause-other c = (both_replay c.args.runs.now c.args.first c.args.second c.requires).1

pub parts_by_a_reply-requires-clause-ranks : goal.parts_by_a_reply-requires-clause-ranks
parts_by_a_reply-requires-clause-ranks c = c.requires.can_compare.ranks

pub compare-requires : goal.compare-requires
compare-requires c = first_ranks c.args.runs.now c.args.first c.args.second c.requires

pub returns-in-Done : goal.returns-in-Done
returns-in-Done c =
    compares c.args.runs.now c.args.first c.args.second c.in_ok-ranks.ranks (outcome_written [] c.text_of_replays.result) c.requires c.in_ok-ranks.ensures
    (rw c.as_slice.ensures at c.text_fixes_meaning.ensures) c.parts_by_a_reply.ensures.parts c.parts_by_a_reply.ensures.alone
    (compared_is c.args.first c.args.second c.in_ok-ranks.ranks c.of_both.result c.of_comparison.result c.in_ok-text-in-Done.text c.in_ok-replays-in-Done.replays
    c.text_of_replays.result c.in-Done.is
    (status_is c.args.first c.args.second c.as_slice-2.result.now c.as_slice-3.result.now c.of_both.result c.as_slice-2.ensures c.as_slice-3.ensures c.of_both.ensures)
    c.in_ok-text-in-Done.ensures c.of_comparison.ensures c.in_ok-replays-in-Done.ensures c.text_of_replays.ensures)

pub returns : goal.returns
returns c =
    compares c.args.runs.now c.args.first c.args.second c.in_ok-ranks.ranks (outcome_written [] c.text_of_replays-in_default.result) c.requires c.in_ok-ranks.ensures
    (rw c.as_slice.ensures at c.text_fixes_meaning.ensures) c.parts_by_a_reply.ensures.parts c.parts_by_a_reply.ensures.alone
    (traces_are c.args.first c.args.second c.in_ok-ranks.ranks c.of_both.result c.in_ok-text-in_default.text c.in_ok-replays-in_default.replays
    c.text_of_replays-in_default.result c.in_default.not-Done
    (status_is c.args.first c.args.second c.as_slice-2.result.now c.as_slice-3.result.now c.of_both.result c.as_slice-2.ensures c.as_slice-3.ensures c.of_both.ensures)
    c.in_ok-replays-in_default.ensures c.in_ok-text-in_default.ensures c.text_of_replays-in_default.ensures)
