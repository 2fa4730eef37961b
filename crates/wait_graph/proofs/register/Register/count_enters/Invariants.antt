use Rattle.std.proofs.Common.{◌≡◌, ◌≤◌, ◌-◌, ℕ, List, take}
use Rattle.run_model.specs.declared.event.Event.{Event}
use Rattle.run_model.specs.Communicators.{count_on}
use Rattle.run_model.specs.Views.{starts_of, view_of}
use Rattle.wait_graph.specs.Register.{IsRegister}
use Rattle.wait_graph.proofs.register.Register.count_enters.Given as goal

abbrev pub invariant-loop-number : goal.invariant-loop-number
invariant-loop-number l = record {
  few : l.count ≤ l.number;
  within : l.number ≤ l.below;
  counted : (n : ℕ) (events : List Event) → IsRegister n events l.self → l.count ≡ count_on l.comm (take l.number (starts_of (view_of events l.rank)));
}

abbrev pub decreases-loop-number : goal.decreases-loop-number
decreases-loop-number l = l.below - l.number
