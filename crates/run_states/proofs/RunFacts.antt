-- What each run keeps, whatever its program.
use Rattle.std.proofs.Common.{ℕ, List, [], refl}
use Rattle.run_model.specs.declared.event.Event.{Event}
use Rattle.run_model.specs.Pairs.{IsAllMatched}
use Rattle.run_model.specs.Run.{IsPromptEvent, IsPromptRun}
use Rattle.run_model.specs.Views.{Next}
use Rattle.run_model.proofs.Along.{Along-keeps}
use Rattle.run_model.proofs.Prompt.{none_waits}
use Rattle.run_model.proofs.Origins.{AllBelow, AllBelow-more}

pub all_below : (next : Next) (n : ℕ) (run : List Event) → IsPromptRun next n run → AllBelow n run
all_below next n run is =
    Along-keeps (IsPromptEvent next n) (AllBelow n) (λ before event all step. AllBelow-more n before event all step.rank) [] run (record { empty = λ rank above. refl }) is.along

pub run_matched : (next : Next) (n : ℕ) (run : List Event) → IsPromptRun next n run → IsAllMatched run
run_matched next n run is = Along-keeps (IsPromptEvent next n) IsAllMatched (λ before event matched step. step.matched) [] run none_waits is.along
