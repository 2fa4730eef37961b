-- The advice that the cheapest ways give.
use Rattle.std.proofs.Common.{◌≡◌, ◌<◌, ◌∙◌, List, arith, sym, ℕ}
use Rattle.std.specs.Prelude.{slice_index}
use Rattle.run_model.specs.declared.event.Event.{Event}
use Rattle.plan_advice.specs.declared.advice.Advice.{Advice}
use Rattle.plan_advice.specs.declared.ways.Ways.{Ways}
use Rattle.plan_advice.specs.Advices.{IsAdvice}
use Rattle.plan_advice.specs.Costs.{block_cost}
use Rattle.plan_advice.specs.inside.Ways.{AreFalling, AreLed, AreWays}

pub falling_less : (begins : List ℕ) (begin end : ℕ) → AreFalling begins end → 0 < end → begin ≡ slice_index begins end → AreFalling begins begin
falling_less begins begin end is some at =
    let less = is.falls end some (omega arith) in
    let within = is.within in
    record { within = omega (arith, less, within, at); falls = λ k one below. is.falls k one (omega (arith, below, less, at)) }

pub falling_ways : (block : ℕ → ℕ → ℕ) (most n : ℕ) (ways : Ways) → AreWays block most n ways → AreFalling ways.begins n
falling_ways block most n ways are =
    let many = are.many in
    record { within = omega (arith, many); falls = λ k some within. (are.begins k some within).reached.is_block.some }

pub advised : (n : ℕ) (events : List Event) (most : ℕ) (ways : Ways) (advice : Advice) → AreWays (block_cost n events) most n ways → AreLed ways.begins n advice.ends
    → advice.cost ≡ slice_index ways.bounds n → advice.bounds ≡ ways.bounds → IsAdvice n events most advice
advised n events most ways advice are led cost same =
    let lead = led (block_cost n events) most ways.bounds are.certificate.first are.begins in
    record {
      certified = record {
        bounds = rw same are.certificate;
        ends = lead.cutting;
        cost = cost ∙ sym lead.cost;
        last = rw same cost;
      };
      least = rw same lead.least;
    }
