-- The cheapest ways to cut the first ranks, as they are found.
use Rattle.std.specs.Prelude.{◌≡◌, ◌≤◌, ◌<◌, ◌+◌, ◌*◌, ◌^◌, ℕ, List, length, slice_index}
use Rattle.plan_advice.specs.declared.ways.LastBlock.{LastBlock}
use Rattle.plan_advice.specs.declared.ways.Ways.{Ways}
use Rattle.plan_advice.specs.Cuttings.{AreEnds, AreLeast, IsBlock, IsCertificate, IsLeastReached, IsReached, cost_from}

-- what it costs to come to `end` by a block from `begin`
abbrev pub cost_by : (ℕ → ℕ → ℕ) → List ℕ → ℕ → ℕ → ℕ
cost_by block bounds begin end = slice_index bounds begin + block begin end

-- of the blocks up to `end` that begin before `next`, the cheapest way, and the first of those
pub record IsCheapest (block : ℕ → ℕ → ℕ) (most : ℕ) (bounds : List ℕ) (next end : ℕ) (way : LastBlock) : Type 0 where
  pub is_block : IsBlock most way.begin end
  pub cost : way.cost ≡ cost_by block bounds way.begin end
  pub before : way.begin < next
  pub least : (other : ℕ) → other < next → IsBlock most other end → way.cost ≤ cost_by block bounds other end
  pub first : (other : ℕ) → other < way.begin → IsBlock most other end → way.cost < cost_by block bounds other end

-- fewer than 2^32 ints a rank
abbrev pub AreSmallCosts : List ℕ → Type 0
AreSmallCosts bounds = (k : ℕ) → k < length bounds → slice_index bounds k ≤ k * 2 ^ 32

-- for each end up to n the least beginning of a block from which its bound is reached
abbrev pub AreBegins : (ℕ → ℕ → ℕ) → ℕ → ℕ → List ℕ → List ℕ → Type 0
AreBegins block most n bounds begins =
    (end : ℕ) → 0 < end → end ≤ n → IsLeastReached block most bounds (slice_index begins end) end

-- the bounds of the first n ranks, and the beginnings of their last blocks
pub record AreWays (block : ℕ → ℕ → ℕ) (most n : ℕ) (ways : Ways) : Type 0 where
  pub certificate : IsCertificate block n most ways.bounds
  pub small : AreSmallCosts ways.bounds
  pub many : length ways.begins ≡ n + 1
  pub begins : AreBegins block most n ways.bounds ways.begins

-- each block begins before its end
pub record AreFalling (begins : List ℕ) (end : ℕ) : Type 0 where
  pub within : end < length begins
  pub falls : (k : ℕ) → 0 < k → k ≤ end → slice_index begins k < k

-- the ends are a cutting of the first `end` ranks, with the last blocks' beginnings
pub record LeadTo (block : ℕ → ℕ → ℕ) (most : ℕ) (bounds : List ℕ) (end : ℕ) (ends : List ℕ) : Type 0 where
  pub cutting : AreEnds end most 0 ends
  pub cost : cost_from block 0 ends ≡ slice_index bounds end
  pub least : AreLeast block most bounds 0 ends

-- so for any costs whose beginnings these are
abbrev pub AreLed : List ℕ → ℕ → List ℕ → Type 0
AreLed begins end ends =
    (block : ℕ → ℕ → ℕ) (most : ℕ) (bounds : List ℕ) → slice_index bounds 0 ≡ 0 → AreBegins block most end bounds begins
    → LeadTo block most bounds end ends

-- a bound is right: no block leads to less, and one leads to it
pub record IsBound (block : ℕ → ℕ → ℕ) (most : ℕ) (bounds : List ℕ) (end : ℕ) : Type 0 where
  pub below : (begin : ℕ) → IsBlock most begin end → slice_index bounds end ≤ cost_by block bounds begin end
  pub reached : (begin : ℕ) × IsReached block most bounds begin end
