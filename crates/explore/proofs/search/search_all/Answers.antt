use Rattle.std.proofs.Common.{◌∙◌, ℕ, List, ap, refl}
use Rattle.run_model.specs.declared.event.Event.{Event}
use Rattle.run_model.specs.Views.{Next}
use Rattle.explore.specs.Explored.{events_of_turns}
use Rattle.std.proofs.Common.{drop}
use Rattle.srr_entry.specs.Outputs.{Output}
use Rattle.explore.proofs.Looking.{explored_all}
use Rattle.explore.proofs.search.search_all.Goals as goal

pub returns : goal.returns
returns g c =
    let next : Next = g.P.Program.next c.args.setting.now.program.now in
    let output : Output = g.P.Program.output c.args.setting.now.program.now in
    let n : ℕ = c.args.setting.now.ranks in
    let root : List Event = events_of_turns next n c.args.setting.now.under.now in
    let looked : ℕ = c.in_ok-looked.looked in
    let went = c.in_ok-looked.ensures.went in
    explored_all next output n c.args.bounds.polls c.args.setting.now.under.now c.begin.new.met c.look_at_all.new.met looked _
    (record {
      steps = c.every_step_is_made.ensures;
      futures = c.futures_are_same.ensures;
      halts = c.halts_decide_outcomes.ensures;
      patient = c.nothing_is_missed.ensures.patient;
      all = c.nothing_is_missed.ensures.all;
    }) c.in_ok-begin.ensures.begun went.under_way went.grows c.in_ok-looked.ensures.looked refl
    (c.in_ok-left.ensures ∙ ap (λ l. drop looked l) c.as_slice.ensures) refl
