-- Each log of a recording is read back from its text.
use Rattle.std.proofs.Common.{◌≡◌, ◌<◌, ◌≤◌, ℕ, List, [], ◌∷◌, true, length, map, arith, refl}
use Rattle.std.specs.List.{AllByRecursion}
use Rattle.std.proofs.lemmas.Bool.{lt-ltb}
use Rattle.group_plan.specs.Plans.{IsPlan, number_of_ranks, rank_bound, IsRisingGroup as IsPlanGroup}
use Rattle.log_bounds.specs.RunBounds.{RepliesFit32, LogsAreInBounds, LogBytesAreShort}
use Rattle.run_model.specs.declared.event.Event.{Event}
use Rattle.picked_runs.specs.declared.turn.Pick.{Pick}
use Rattle.picked_runs.specs.Picked.{IsPicked}
use Rattle.run_model.specs.Lists.{are_below}
use Rattle.run_model.specs.Views.{Next}
use Rattle.run_model.proofs.Prompt.{prompt_is_run}
use Rattle.srr_entry.specs.declared.log.Log.{Log}
use Rattle.srr_entry.specs.Entries.{log_of}
use Rattle.srr_log.specs.Bounds.{IsGroup}
use Rattle.wiz_task.specs.Recordings.{IsReadable}
use Rattle.wiz_task.specs.inside.Recording.{AreInBounds}

below : (n : ℕ) (ranks : List ℕ) → rank_bound ranks ≤ n → are_below n ranks ≡ true
below n [] h = refl
below n (rank ∷ ranks) h = rw (lt-ltb rank n (omega (arith, h)), below n ranks (omega (arith, h))) refl

some : (ranks : List ℕ) → ((ranks ≡ []) → ⊥) → 0 < length ranks
some [] h = absurd (h refl)
some (rank ∷ ranks) h = omega arith

group_is : (n : ℕ) (ranks : List ℕ) → IsPlanGroup ranks → rank_bound ranks ≤ n → IsGroup n ranks
group_is n ranks h low = (some ranks h.0, h.1, below n ranks low)

readable_from : (next : Next) (n : ℕ) (text : List ℕ) (picks : List Pick) (events : List Event) (groups : List (List ℕ)) → LogsAreInBounds next n → LogBytesAreShort next n → IsPicked next n picks events → RepliesFit32 events
    → length text ≤ 65536 → AllByRecursion IsPlanGroup groups → number_of_ranks groups ≤ n → AllByRecursion IsReadable (map (log_of text n events) groups)
readable_from next n text picks events [] law brief picked words short are low = tt
readable_from next n text picks events (group ∷ groups) law brief picked words short are low =
    let bounds = law picks events group text picked words (group_is n group are.0 (omega (arith, low))) short in (
      record { is_text = (refl, bounds); short = brief events group text (prompt_is_run next n events picked.run) bounds },
      readable_from next n text picks events groups law brief picked words short are.1 (omega (arith, low)),
    )

pub readable_logs : (next : Next) (text : List ℕ) (picks : List Pick) (events : List Event) (groups : List (List ℕ)) → LogsAreInBounds next (number_of_ranks groups) → LogBytesAreShort next (number_of_ranks groups) → IsPicked next (number_of_ranks groups) picks events
    → RepliesFit32 events → length text ≤ 65536 → IsPlan groups → AllByRecursion IsReadable (map (log_of text (number_of_ranks groups) events) groups)
readable_logs next text picks events groups law brief picked words short plan =
    readable_from next (number_of_ranks groups) text picks events groups law brief picked words short plan.rising (omega arith)

-- and so it has a text
pub in_bounds_of : (logs : List Log) → AllByRecursion IsReadable logs → AreInBounds logs
in_bounds_of [] all = tt
in_bounds_of (log ∷ logs) all = (all.0.is_text.1, in_bounds_of logs all.1)
