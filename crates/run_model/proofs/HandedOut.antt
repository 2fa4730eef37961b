-- Events that are handed out to their ranks.
use Rattle.std.proofs.Common.{◌++◌, List, [], ap, replicate}
use Rattle.std.proofs.lemmas.List.{get_or-replicate, length-replicate}
use Rattle.run_model.specs.declared.event.Event.{Event}
use Rattle.run_model.specs.ByRank.{AreViewsBefore}
use Rattle.run_model.specs.Views.{View, view_of}

-- at first none are
pub handed_first : (events : List Event) → AreViewsBefore events events (replicate 256 [])
handed_first events =
    let none : View = [] in
    record {
      as_many = length-replicate 256 none;
      each = λ rank below. ap (λ (v : View). v ++ view_of events rank) (get_or-replicate 256 rank none none below);
    }
