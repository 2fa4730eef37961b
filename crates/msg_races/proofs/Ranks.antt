-- The events of a run are of its ranks.
use Rattle.std.proofs.Common.{◌<◌, ◌++◌, ◌∷◌, [], ℕ, zero, suc, List, arith}
use Rattle.run_model.specs.declared.event.Event.{Event}
use Rattle.run_model.specs.Lists.{Along}
use Rattle.run_model.specs.Run.{IsEvent, IsRun}
use Rattle.run_model.specs.Views.{Next}
use Rattle.causes.specs.Clocks.{AreOfRanks}

first_and_rest : (n : ℕ) (event : Event) (events : List Event) → event.rank < n → AreOfRanks n events → AreOfRanks n (event ∷ events)
first_and_rest n event events low rest zero d within = low
first_and_rest n event events low rest (suc i) d within = rest i d (omega (arith, within))

along_ranks : (next : Next) (n : ℕ) (before events : List Event) → Along (IsEvent next n) before events → AreOfRanks n events
along_ranks next n before [] all = λ i d within. absurd (omega (arith, within))
along_ranks next n before (event ∷ events) all =
    first_and_rest n event events all.0.rank (along_ranks next n (before ++ event ∷ []) events all.1)

pub run_ranks : (next : Next) (n : ℕ) (events : List Event) → IsRun next n events → AreOfRanks n events
run_ranks next n events is = along_ranks next n [] events is.along
