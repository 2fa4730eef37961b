use Rattle.std.proofs.Common.{◌≡◌, ◌∙◌, ℕ, List, ap, false, refl, subst, sym}
use Rattle.run_model.specs.Views.{Next}
use Rattle.picked_runs.specs.declared.turn.Turn.{Turn}
use Rattle.srr_entry.specs.Outputs.{Output}
use Rattle.quiet_calls.specs.Quiet.{Races}
use Rattle.explore.specs.declared.found.Explored.{Explored}
use Rattle.explore.specs.declared.met.Met.{Met}
use Rattle.explore.specs.Explored.{IsExplored}
use Rattle.explore.specs.QuietFirst.{has_mismatch}
use Rattle.explore.specs.inside.RaceFlags.{races_of}
use Rattle.explore.proofs.QuietLooked.{not_both}
use Rattle.explore.proofs.QuietSearched.{HasEndedQuietly, explored_quietly, whole_is}
use Rattle.explore.proofs.search.search_quietly.Goals.{else-not-has_partial-via-then-not-has_partial+else-has_mismatch, else-not-has_partial-via-else-not-has_partial}
use Rattle.explore.proofs.search.search_quietly.Goals as goal

pub returns : goal.returns
returns g c explored same =
    let next : Next = g.P.Program.next c.args.setting.now.program.now in
    let output : Output = g.P.Program.output c.args.setting.now.program.now in
    let n : ℕ = c.args.setting.now.ranks in
    let under : List Turn = c.args.setting.now.under.now in
    let races : Races = races_of c.args.races.now in
    let met : Met = c.look_at_all_quietly.new.met in
    let went = c.in_ok-hindrance.ensures.went in
    let agreed : races.partial ≡ false → has_mismatch met.found ≡ false = λ whole. elim c.else-not-has_partial.branch [
      | else-not-has_partial-via-then-not-has_partial+else-has_mismatch w ↦ ap has_mismatch (sym w.as_slice.ensures) ∙ (sym w.has_mismatch.ensures ∙ w.if-has_mismatch.false)
      | else-not-has_partial-via-else-not-has_partial w ↦ not_both (sym whole ∙ (sym c.has_partial.ensures ∙ w.if-not-has_partial.false))
    ] in
    let e : HasEndedQuietly next output n c.args.bounds.polls races under c.begin.new.met met = record {
      halts = c.halts_decide_outcomes.ensures;
      patient = c.nothing_is_missed_quietly.ensures.patient;
      all = c.nothing_is_missed_quietly.ensures.all;
      begun = c.in_ok-begin.ensures.begun;
      way = went.under_way;
      grows = went.grows;
      looked = c.in_ok-hindrance.ensures.looked c.in_default.is;
      agreed = agreed;
    } in
    let F : Explored → Type 0 = λ e. IsExplored next output n c.args.bounds.polls under e in
    subst F (whole_is _ explored same) (explored_quietly next output n c.args.bounds.polls races under c.begin.new.met met _ e refl c.new.ensures refl)
