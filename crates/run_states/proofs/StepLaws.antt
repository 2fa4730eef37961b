-- Each step of a run is a move, or a call that is answered by a halt.
use Rattle.std.proofs.Common.{◌∙◌, ◌∷◌, ℕ, List, [], ap, sym}
use Rattle.run_model.specs.declared.event.Event.{Event}
use Rattle.run_model.specs.Due.{halt_of_reply}
use Rattle.run_model.specs.Run.{IsPromptEvent, IsPromptRun}
use Rattle.run_model.specs.Views.{Next}
use Rattle.run_model.proofs.Along.{Along-back}
use Rattle.run_model.proofs.Prompt.{IsPromptRun-front}
use Rattle.picked_runs.specs.declared.turn.Pick.{Pick}
use Rattle.picked_runs.specs.Made.{pick_of}
use Rattle.picked_runs.specs.Numbering.{IsNumberedInOrder}
use Rattle.picked_runs.specs.Picked.{IsPickedEvent}
use Rattle.picked_runs.proofs.Making.{event_picked}
use Rattle.run_states.specs.Moves.{IsPickSettled}
use Rattle.run_states.specs.StateLaws.{EveryStepIsMade, IsMadeStep}
use Rattle.run_states.proofs.RunPicks.{settled_of}
use Rattle.run_states.proofs.RunFacts.{all_below, run_matched}
use Rattle.run_states.proofs.Going.{allowed_goes}

pub step_made : (next : Next) (n : ℕ) (before : List Event) (event : Event) → IsPromptRun next n before → IsPromptEvent next n before event → IsNumberedInOrder n before event
    → IsMadeStep next n before event
step_made next n before event front step ordered =
    let pick : Pick = pick_of n before event in
    let picked : IsPickedEvent n before event pick = event_picked next n before event (run_matched next n before front) (all_below next n before front) step ordered in
    let settled : IsPickSettled n before event.rank event.call pick = settled_of n before event picked.event_is in
    record {
      pick = pick;
      made = picked.event_is;
      moves = λ free. record {
        below = step.rank;
        asked = step.call;
        offered = picked.offered;
        settled = settled;
        free = ap (λ (e : Event). halt_of_reply e.reply) (sym picked.event_is) ∙ free;
      };
      halts = λ halt stopped. record {
        below = step.rank;
        asked = step.call;
        offered = picked.offered;
        settled = settled;
        halts = ap (λ (e : Event). e.reply) (sym picked.event_is) ∙ stopped;
        goes = allowed_goes next n before event.rank event.call event.reply step.reply;
      };
    }

pub every_step_is_made : (next : Next) (n : ℕ) → EveryStepIsMade next n
every_step_is_made next n before after event is ordered =
    step_made next n before event (IsPromptRun-front next n before (event ∷ after) is) (Along-back (IsPromptEvent next n) [] before (event ∷ after) is.along).0
    (Along-back (IsNumberedInOrder n) [] before (event ∷ after) ordered).0
