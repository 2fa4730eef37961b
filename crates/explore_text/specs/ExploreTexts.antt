-- The text of a search for every outcome.
use Rattle.std.specs.Prelude.{ℕ, suc, List, [], ◌∷◌, ◌++◌, Bool, true, false, codes, flat_map, length}
use Rattle.mpi_call.specs.declared.call.Halt.TheVariants.{Mismatched}
use Rattle.run_model.specs.declared.ending.Ending.{Ending}
use Rattle.run_model.specs.declared.ending.Ending.TheVariants.{Halted}
use Rattle.picked_runs.specs.declared.turn.Turn.{Turn}
use Rattle.run_states.specs.Outcomes.{RunOutcome}
use Rattle.explore.specs.declared.found.Explored.{Explored}
use Rattle.explore.specs.declared.found.FoundOutcome.{FoundOutcome}
use Rattle.explore.specs.declared.watch.Progress.{Progress}
use Rattle.run_text.specs.RecordTexts.{ending_text, output_text}
use Rattle.wiz_base.specs.Decimals.{decimal_text}

-- rank R output B, the bytes and a newline
abbrev pub printed_text : ℕ × List ℕ → List ℕ
printed_text printed = codes "rank " ++ decimal_text printed.0 ++ codes " " ++ output_text printed.1

-- finished · halted HALT; a mismatch names no rank
abbrev pub reported_ending_text : Ending → List ℕ
reported_ending_text (Halted (Mismatched rank)) = codes "halted mismatched\n"
reported_ending_text ending = ending_text ending

-- what is told of an outcome
abbrev pub outcome_text : RunOutcome → List ℕ
outcome_text outcome = flat_map printed_text outcome.printed ++ reported_ending_text outcome.ending

-- outcome I, what is told of it, and who waits
abbrev pub found_outcome_text : ℕ → RunOutcome → List ℕ → List ℕ
found_outcome_text number outcome waits = codes "outcome " ++ decimal_text number ++ codes "\n" ++ outcome_text outcome ++ waits

-- the outcomes from a number on, each with the text of who waits
abbrev pub all_found_text : ℕ → List FoundOutcome → List (List ℕ) → List ℕ
all_found_text number [] waits = []
all_found_text number (found ∷ listed) [] = []
all_found_text number (found ∷ listed) (text ∷ waits) = found_outcome_text number found.outcome text ++ all_found_text (suc number) listed waits

-- outcomes O states S
abbrev pub explored_counts_text : Explored → List ℕ
explored_counts_text explored =
    codes "outcomes " ++ decimal_text (length explored.found) ++ codes " states " ++ decimal_text explored.states ++ codes "\n"

-- complete · complete polls K, where a rank was held back
abbrev pub looked_text : ℕ → Bool → List ℕ
looked_text polls false = codes "complete\n"
looked_text polls true = codes "complete polls " ++ decimal_text polls ++ codes "\n"

-- the same, where no state is left; else incomplete most N
abbrev pub verdict_text : ℕ → ℕ → List (List Turn) → Bool → List ℕ
verdict_text most polls [] polled = looked_text polls polled
verdict_text most polls (turns ∷ left) polled = codes "incomplete most " ++ decimal_text most ++ codes "\n"

-- the outcomes, each with the text of who waits in it; how many they are and how many states were met; whether that is all
abbrev pub explore_text : ℕ → ℕ → Explored → List (List ℕ) → List ℕ
explore_text most polls explored waits =
    all_found_text 0 explored.found waits ++ explored_counts_text explored ++ verdict_text most polls explored.left explored.polled

-- outcomes O states S left L, how far a search is
abbrev pub progress_text : Progress → List ℕ
progress_text progress =
    codes "outcomes " ++ decimal_text progress.outcomes ++ codes " states " ++ decimal_text progress.states ++ codes " left " ++ decimal_text progress.left ++ codes "\n"
