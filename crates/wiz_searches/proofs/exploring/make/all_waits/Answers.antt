use Rattle.std.proofs.Common.{◌∙◌, Some, ap, sym}
use Rattle.std.proofs.lemmas.Option.{slice_get-get_or}
use Rattle.c_program.specs.View.{pure_program}
use Rattle.c_program.specs.Program.{next_of}
use Rattle.group_plan.specs.Plans.{number_of_ranks}
use Rattle.wiz_searches.specs.Explorations.{IsWaiting}
use Rattle.wiz_searches.proofs.SearchLemmas.{one_in, zip_next}
use Rattle.wiz_searches.proofs.exploring.make.all_waits.Goals as goal

pub waits_in-requires-clause-found : goal.waits_in-requires-clause-found
waits_in-requires-clause-found c =
    c.requires.found c.found-item.result
    (one_in c.args.listed.now c.loop-found.found-index c.found-item.result
    (slice_get-get_or c.args.listed.now c.loop-found.found-index c.found-item.result c.loop-found-test.true ∙ ap (λ found. Some found) (sym c.found-item.is)))

pub loop-found-preserved : goal.loop-found-preserved
loop-found-preserved c =
    let there = slice_get-get_or c.args.listed.now c.loop-found.found-index c.found-item.result c.loop-found-test.true ∙ ap (λ found. Some found) (sym c.found-item.is) in
    rw c.in_ok-push.ensures.ok
    (zip_next (IsWaiting (next_of (pure_program c.args.ready.now.program)) (number_of_ranks c.args.ready.now.plan)) c.args.listed.now c.loop-found.waits c.loop-found.found-index c.found-item.result
    c.in_ok-text.text there c.loop-found.invariant c.in_ok-text.ensures)
