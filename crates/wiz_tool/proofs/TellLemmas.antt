-- How a text and a refusal are told.
use Rattle.std.proofs.Common.{◌≡◌, refl, sym, ℕ, List, [], Option, Some, None}
use Rattle.std.proofs.lemmas.List.{append-nil}
use Rattle.wiz_io.specs.Output.{ObservedOutput}
use Rattle.replay_model.specs.declared.replayed.Replayed.{Replayed}
use Rattle.wiz_tool.specs.declared.report.Report.{Report}
use Rattle.wiz_tool.specs.declared.status.Status.{Status}
use Rattle.wiz_tool.specs.Messages.{message_text}
use Rattle.wiz_tool.specs.Statuses.{of_refusal}
use Rattle.wiz_tool.specs.Outcomes.{refusal_outcome, IsPut}
use Rattle.wiz_tool.specs.Inputs.{Refused}
use Rattle.wiz_tool.specs.Output.{OutputGrewBy}

-- what is put out of an empty text
pub nothing_put : (before : Option (List ℕ)) → OutputGrewBy before before []
nothing_put None = refl
nothing_put (Some before) = sym (append-nil before)

pub empty_put : (before : Option (List ℕ)) (text : List ℕ) → text ≡ [] → OutputGrewBy before before text
empty_put before text none = rw none (nothing_put before)

-- a refusal's message and status make its outcome
pub put_refusal : (refused : Refused) (text : List ℕ) (status : Status) (replays : List Replayed) (before after : ObservedOutput) (report : Report)
    → text ≡ message_text refused.refusal refused.name → status ≡ of_refusal refused.refusal → replays ≡ []
    → IsPut (record { files = []; text = text; status = status; run = None; replays = replays }) before after report
    → IsPut (refusal_outcome refused) before after report
put_refusal refused text status replays before after report text_is status_is none put = rw (← text_is, ← status_is, ← none) put
