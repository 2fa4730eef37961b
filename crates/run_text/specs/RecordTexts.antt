-- The record text of a run.
use Rattle.std.specs.Prelude.{ℕ, suc, List, [], ◌∷◌, ◌++◌, codes, length}
use Rattle.run_model.specs.declared.ending.Ending.{Ending}
use Rattle.run_model.specs.declared.ending.Ending.TheVariants.{Finished, Halted}
use Rattle.wiz_base.specs.Decimals.{decimal_text}
use Rattle.run_text.specs.CallTexts.{halt_text}

-- the number of bytes, the bytes and a newline
abbrev pub output_text : List ℕ → List ℕ
output_text output = codes "output " ++ decimal_text (length output) ++ codes "\n" ++ output ++ codes "\n"

-- rank R output B, the bytes and a newline, for each rank from `rank` on
abbrev pub outputs_text : ℕ → List (List ℕ) → List ℕ
outputs_text rank [] = []
outputs_text rank (output ∷ outputs) =
    codes "rank " ++ decimal_text rank ++ codes " " ++ output_text output ++ outputs_text (suc rank) outputs

-- finished · halted HALT
abbrev pub ending_text : Ending → List ℕ
ending_text Finished = codes "finished\n"
ending_text (Halted halt) = codes "halted " ++ halt_text halt ++ codes "\n"

-- what each rank printed, and how the run ended
abbrev pub record_text : List (List ℕ) → Ending → List ℕ
record_text outputs ending = outputs_text 0 outputs ++ ending_text ending
