-- Cuttings of n ranks into blocks, and certificates of the least cost. `block` is what the block from one rank to before another
-- costs, `most` the greatest number of ranks of a block.
use Rattle.std.specs.Prelude.{◌≡◌, ◌<◌, ◌≤◌, ◌+◌, ℕ, List, [], ◌∷◌, length, slice_index}

-- a block has 1 to `most` ranks
pub record IsBlock (most begin end : ℕ) : Type 0 where
  pub some : begin < end
  pub few : end ≤ begin + most

-- the ends of blocks, the first of which begins at `begin`, and each other where the one before it ends; the last end is n
abbrev pub AreEnds : ℕ → ℕ → ℕ → List ℕ → Type 0
AreEnds n most begin [] = begin ≡ n
AreEnds n most begin (end ∷ ends) = IsBlock most begin end × AreEnds n most end ends

-- a cutting of all n ranks, by the ends of its blocks
abbrev pub IsCutting : ℕ → ℕ → List ℕ → Type 0
IsCutting n most ends = AreEnds n most 0 ends

-- what the blocks from `begin` on cost together
abbrev pub cost_from : (ℕ → ℕ → ℕ) → ℕ → List ℕ → ℕ
cost_from block begin [] = 0
cost_from block begin (end ∷ ends) = block begin end + cost_from block end ends

-- what a cutting costs
abbrev pub cutting_cost : (ℕ → ℕ → ℕ) → List ℕ → ℕ
cutting_cost block ends = cost_from block 0 ends

-- a bound is reached from the beginning of a block
pub record IsReached (block : ℕ → ℕ → ℕ) (most : ℕ) (bounds : List ℕ) (begin end : ℕ) : Type 0 where
  pub is_block : IsBlock most begin end
  pub same : slice_index bounds begin + block begin end ≡ slice_index bounds end

-- a bound for each number of ranks: 0 for none; no block leads to less than a bound, and one leads to it
pub record IsCertificate (block : ℕ → ℕ → ℕ) (n most : ℕ) (bounds : List ℕ) : Type 0 where
  pub many : length bounds ≡ n + 1
  pub first : slice_index bounds 0 ≡ 0
  pub below : (begin end : ℕ) → end ≤ n → IsBlock most begin end
      → slice_index bounds end ≤ slice_index bounds begin + block begin end
  pub reached : (end : ℕ) → 0 < end → end ≤ n → (begin : ℕ) × IsReached block most bounds begin end

-- of all beginnings of a block from which a bound is reached, the least
pub record IsLeastReached (block : ℕ → ℕ → ℕ) (most : ℕ) (bounds : List ℕ) (begin end : ℕ) : Type 0 where
  pub reached : IsReached block most bounds begin end
  pub least : (other : ℕ) → other < begin → ¬ (IsReached block most bounds other end)

-- each block begins at the least such rank
abbrev pub AreLeast : (ℕ → ℕ → ℕ) → ℕ → List ℕ → ℕ → List ℕ → Type 0
AreLeast block most bounds begin [] = Unit {0}
AreLeast block most bounds begin (end ∷ ends) =
    IsLeastReached block most bounds begin end × AreLeast block most bounds end ends

-- no cutting costs less than a certificate's last bound
abbrev pub CertificatesBound : Type 0
CertificatesBound =
    (block : ℕ → ℕ → ℕ) (n most : ℕ) (bounds ends : List ℕ) → IsCertificate block n most bounds → IsCutting n most ends
    → slice_index bounds n ≤ cutting_cost block ends
