-- A log that was read can be replayed.
use Rattle.std.proofs.Common.{◌≡◌, ◌<◌, ◌+◌, ◌==◌, ℕ, List, [], ◌∷◌, true, false, inl, inr, refl, arith}
use Rattle.std.proofs.lemmas.Bool.{eqb-true}
use Rattle.mpi_call.specs.Collectives.{is_distinct, is_member}
use Rattle.run_model.proofs.Views.{test_cases}
use Rattle.srr_entry.specs.declared.log.Log.{Log}
use Rattle.mpi_call.specs.Lists.{Rises}
use Rattle.srr_log.specs.Bounds.{IsInBounds}
use Rattle.srr_log2.specs.Formats.{IsTextOfLog}
use Rattle.srr_replay.specs.Rounds.{IsReplayable}

-- numbers that rise from above a number do not have it
rise_without : (numbers : List ℕ) (least number : ℕ) → Rises least numbers → number < least → is_member numbers number ≡ false
rise_without [] least number rise low = refl
rise_without (first ∷ numbers) least number rise low =
    elim (test_cases (first == number)) [
      | inl h ↦ (let same : first ≡ number = eqb-true first number h in absurd (omega (arith, same, rise.0, low)))
      | inr h ↦ rw (h, rise_without numbers (first + 1) number rise.1 (omega (arith, rise.0, low)))
    ]

rise_distinct : (numbers : List ℕ) (least : ℕ) → Rises least numbers → is_distinct numbers ≡ true
rise_distinct [] least rise = refl
rise_distinct (first ∷ numbers) least rise =
    rw (rise_without numbers (first + 1) first rise.1 (omega arith), rise_distinct numbers (first + 1) rise.1)

-- the text of a log in either format is that of a log within its bounds
pub bounds_of : (text : List ℕ) (log : Log) → IsTextOfLog text log → IsInBounds log
bounds_of text log (inl is) = is.1
bounds_of text log (inr is) = is.1

pub IsReplayable-text : (text : List ℕ) (log : Log) → IsTextOfLog text log → IsReplayable log
IsReplayable-text text log is_text =
    let is = bounds_of text log is_text in
    record {
      few = is.ranks.1;
      some = is.group.0;
      below = is.group.2;
      distinct = rise_distinct log.group 0 is.group.1;
      as_many = is.as_many;
      short = λ k entries below. (is.lists k entries below).0;
    }
