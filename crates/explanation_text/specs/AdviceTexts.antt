-- The advice text of a run.
use Rattle.std.specs.Prelude.{◌-◌, ◌==◌, if◌then◌else◌, ℕ, suc, List, [], ◌∷◌, ◌++◌, codes}
use Rattle.plan_advice.specs.declared.advice.Advice.{Advice}
use Rattle.run_model.specs.declared.ending.Ending.{Ending}
use Rattle.run_text.specs.RecordTexts.{ending_text}
use Rattle.wiz_base.specs.Decimals.{decimal_text}

-- A for a block of one rank, A-B for one of more
abbrev pub block_text : ℕ → ℕ → List ℕ
block_text first last = if first == last then decimal_text first else decimal_text first ++ codes "-" ++ decimal_text last

-- the blocks with these ends, the first of which begins at `begin`, each on a line of its own
abbrev pub blocks_text : ℕ → List ℕ → List ℕ
blocks_text begin [] = []
blocks_text begin (end ∷ ends) = block_text begin (end - 1) ++ codes "\n" ++ blocks_text end ends

-- bound J V for each number of ranks from `ranks` on
abbrev pub bounds_text : ℕ → List ℕ → List ℕ
bounds_text ranks [] = []
bounds_text ranks (bound ∷ bounds) =
    codes "bound " ++ decimal_text ranks ++ codes " " ++ decimal_text bound ++ codes "\n" ++ bounds_text (suc ranks) bounds

-- advice cost C given D, the blocks and the bounds, and how the run ended
abbrev pub advice_text : Advice → ℕ → Ending → List ℕ
advice_text advice given ending =
    codes "advice cost " ++ decimal_text advice.cost ++ codes " given " ++ decimal_text given ++ codes "\n"
    ++ blocks_text 0 advice.ends ++ bounds_text 0 advice.bounds ++ ending_text ending
