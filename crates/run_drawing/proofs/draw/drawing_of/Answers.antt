use Rattle.std.proofs.Common.{◌≡◌, ◌∙◌, ap, arith, length, sym}
use Rattle.std.proofs.lemmas.Result.{IfOk-at_ok}
use Rattle.group_plan.specs.Plans.{group_of, number_of_ranks}
use Rattle.run_drawing.specs.Drawings.{collective_at, drawn, drawn_marks, of_events, of_starts, probe_at, rank_groups, receive_at, unreceived_at}
use Rattle.run_drawing.specs.inside.Scenes.{basis_of}
use Rattle.msg_races.specs.Listing.{lists_below}
use Rattle.run_drawing.proofs.SceneLemmas.{one_each, same_drawn}
use Rattle.run_drawing.proofs.draw.drawing_of.Goals as goal

pub invariant_of-result : goal.invariant_of-result
invariant_of-result c =
    let same : length c.in_ok-groups_of.field-0 ≡ length (rank_groups c.args.plan.now) = ap length c.in_ok-groups_of.ensures in
    let each = one_each (λ rank. group_of rank c.args.plan.now) (number_of_ranks c.args.plan.now) in
    let few = c.n-n.ensures.plan.few in
    (c.columns.ensures.few, omega (arith, same, each, few))

pub returns : goal.returns
returns c =
    let basis = basis_of c.args.scene.now in
    let events = c.args.scene.now.causes.events in
    let all : c.n-n.result ≡ c.args.scene.now.causes.ranks = c.n-n.ensures.ranks ∙ sym c.requires.ranks in
    let rest = IfOk-at_ok _ c.in_ok-collectives.ensures.1 c.both-rest.ensures in
    same_drawn _ (drawn c.args.plan.now basis)
    c.in_ok-groups_of.ensures
    c.columns.ensures.columns
    (IfOk-at_ok _ c.in_ok-marks.ensures.0 c.all_marks-marks.ensures ∙ ap (lists_below (drawn_marks basis)) all)
    (IfOk-at_ok _ c.in_ok-marks.ensures.1 c.all_receives.ensures ∙ ap (lists_below (of_starts (receive_at basis) events)) all)
    (IfOk-at_ok _ c.in_ok-collectives.ensures.0 c.all_collectives.ensures
    ∙ ap (lists_below (of_starts (collective_at basis) events)) all)
    (IfOk-at_ok _ rest.0 c.all_probes.ensures ∙ ap (lists_below (of_events (probe_at basis) events)) all)
    (IfOk-at_ok _ rest.1 c.all_unreceived-unreceived.ensures
    ∙ ap (lists_below (of_starts (unreceived_at basis) events)) all)
