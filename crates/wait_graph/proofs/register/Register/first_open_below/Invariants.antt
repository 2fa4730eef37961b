use Rattle.std.proofs.Common.{◌≡◌, ◌≤◌, ◌-◌, ℕ, List, drop, take}
use Rattle.run_model.specs.declared.event.Event.{Event}
use Rattle.run_model.specs.Views.{starts_of, view_of}
use Rattle.wait_graph.specs.Opens.{open_send_from}
use Rattle.wait_graph.specs.Register.{IsRegister}
use Rattle.wait_graph.proofs.register.Register.first_open_below.Given as goal

abbrev pub invariant-loop-start : goal.invariant-loop-start
invariant-loop-start l = record {
  within : l.start ≤ l.below;
  left : (n : ℕ) (events : List Event) → IsRegister n events l.self
      → open_send_from events l.sender l.receiver l.start (take (l.below - l.start) (drop l.start (starts_of (view_of events l.sender))))
      ≡ open_send_from events l.sender l.receiver 0 (take l.below (starts_of (view_of events l.sender)));
}

abbrev pub decreases-loop-start : goal.decreases-loop-start
decreases-loop-start l = l.below - l.start
