-- Advice on the groups of a run: a cutting into blocks, and why no other cutting costs less.
use Rattle.std.specs.Prelude.{◌≡◌, ℕ, List, slice_index}
use Rattle.run_model.specs.declared.event.Event.{Event}
use Rattle.plan_advice.specs.declared.advice.Advice.{Advice}
use Rattle.plan_advice.specs.Costs.{block_cost}
use Rattle.plan_advice.specs.Cuttings.{AreLeast, IsCertificate, IsCutting, cutting_cost}

-- the bounds are a certificate for the run's blocks, and the ends are a cutting that costs the last bound
pub record IsCertified (n : ℕ) (events : List Event) (most : ℕ) (advice : Advice) : Type 0 where
  pub bounds : IsCertificate (block_cost n events) n most advice.bounds
  pub ends : IsCutting n most advice.ends
  pub cost : advice.cost ≡ cutting_cost (block_cost n events) advice.ends
  pub last : advice.cost ≡ slice_index advice.bounds n

-- and each block begins at the least rank from which its end's bound is reached
pub record IsAdvice (n : ℕ) (events : List Event) (most : ℕ) (advice : Advice) : Type 0 where
  pub certified : IsCertified n events most advice
  pub least : AreLeast (block_cost n events) most advice.bounds 0 advice.ends

-- there is one advice on a run
abbrev pub RunsHaveOneAdvice : Type 0
RunsHaveOneAdvice =
    (n : ℕ) (events : List Event) (most : ℕ) (one other : Advice) → IsAdvice n events most one → IsAdvice n events most other → one ≡ other
