-- No cutting costs less than a certificate's last bound.
use Rattle.std.proofs.Common.{◌≤◌, ◌+◌, ◌∷◌, List, [], ap, arith, slice_index, ℕ}
use Rattle.plan_advice.specs.Cuttings.{AreEnds, CertificatesBound, IsCertificate, cost_from}

pub ends_within : (n most begin : ℕ) (ends : List ℕ) → AreEnds n most begin ends → begin ≤ n
ends_within n most begin [] are = omega (arith, are)
ends_within n most begin (end ∷ ends) are =
    let rest = ends_within n most end ends are.1 in
    let some = are.0.some in
    omega (arith, rest, some)

-- from each beginning on, by the blocks that follow
pub bound_from : (block : ℕ → ℕ → ℕ) (n most : ℕ) (bounds : List ℕ) → IsCertificate block n most bounds → (begin : ℕ) (ends : List ℕ)
    → AreEnds n most begin ends → slice_index bounds n ≤ slice_index bounds begin + cost_from block begin ends
bound_from block n most bounds is begin [] are = (let same = ap (λ k. slice_index bounds k) are in omega (arith, same))
bound_from block n most bounds is begin (end ∷ ends) are =
    let rest = bound_from block n most bounds is end ends are.1 in
    let within = ends_within n most end ends are.1 in
    let step = is.below begin end within are.0 in
    omega (arith, rest, step)

pub certificates_bound : CertificatesBound
certificates_bound block n most bounds ends is cutting =
    let all = bound_from block n most bounds is 0 ends cutting in
    let first = is.first in
    omega (arith, all, first)
