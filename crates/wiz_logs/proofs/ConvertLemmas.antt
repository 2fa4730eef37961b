-- Writing one file, with nothing to put out.
use Rattle.std.proofs.Common.{◌≡◌, ℕ, List, [], ◌∷◌}
use Rattle.wiz_tool.specs.declared.report.Done.{Done}
use Rattle.wiz_logs.specs.Logs.{convert_outcome}
use Rattle.wiz_tool.specs.Outcomes.{text_outcome}
use Rattle.wiz_tool.specs.inside.Told.{outcome_written}
use Rattle.wiz_tool.proofs.FinishLemmas.{with_files}

pub converted_is_told : (file bytes text : List ℕ) (done : Done) → outcome_written [] done ≡ text_outcome text → text ≡ []
    → outcome_written ((record { name = file; bytes = bytes }) ∷ []) done ≡ convert_outcome file bytes
converted_is_told file bytes text done same none =
    let whole = with_files ((record { name = file; bytes = bytes }) ∷ []) done (text_outcome text) same in rw none at whole
