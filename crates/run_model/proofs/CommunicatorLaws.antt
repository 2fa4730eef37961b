-- The members of communicators.
use Rattle.std.proofs.Common.{◌≡◌, ◌<◌, ◌≤◌, ◌+◌, ◌-◌, ◌==◌, ℕ, zero, suc, List, [], ◌∷◌, ◌++◌, Some, None, true, refl, ap, sym, ◌∙◌, length, take, drop, slice_index, get_or, arith}
use Rattle.mpi_call.specs.declared.call.Call.{Call}
use Rattle.mpi_call.specs.declared.reply.Reply.{Reply}
use Rattle.std.proofs.Math.Seq.{take-length}
use Rattle.std.proofs.lemmas.Bool.{eq-eqb}
use Rattle.run_model.specs.Communicators.{known_after, learned}
use Rattle.run_model.specs.Lists.{same_ranks, world}
use Rattle.run_model.specs.Views.{View}

-- what is known of a communicator stays
pub known_after-some : (comm : ℕ) (members : List ℕ) (view : View) → known_after comm (Some members) view ≡ Some members
known_after-some comm members [] = refl
known_after-some comm members ((call, reply) ∷ view) = known_after-some comm members view

pub length-world : (n from : ℕ) → length (world n from) ≡ n
length-world zero from = refl
length-world (suc n) from = ap suc (length-world n (from + 1))

world-step : (n k : ℕ) → k < n → world (n - k) k ≡ k ∷ world (n - (k + 1)) (k + 1)
world-step n k lt = let e : n - k ≡ suc (n - (k + 1)) = omega (arith, lt) in rw e refl

-- one rank more of all ranks
pub same_ranks-world : (n k : ℕ) (members : List ℕ) → k < n → 1 ≤ length members → slice_index members 0 ≡ k → same_ranks (world (n - k) k) members ≡ same_ranks (world (n - (k + 1)) (k + 1)) (take (length members - 1) (drop 1 members))
same_ranks-world n k [] lt some first = absurd (omega (arith, some))
same_ranks-world n k (m ∷ members) lt some first =
    let same : (k == m) ≡ true = eq-eqb k m (sym first) in
    let rest : suc (length members) - 1 ≡ length members = omega arith in
    rw (world-step n k lt, same, rest, take-length members) refl

-- what the first reply teaches is known after all of them
pub known_after-first : (comm : ℕ) (view : View) (members : List ℕ) (seen d : Call × Reply) → 1 ≤ length view → seen ≡ get_or view 0 d → learned comm None seen.1 ≡ Some members → known_after comm None view ≡ Some members
known_after-first comm [] members seen d some is h = absurd (omega (arith, some))
known_after-first comm ((call, reply) ∷ view) members seen d some is h =
    let p : Call × Reply = (call, reply) in
    let same : p ≡ seen = sym is in
    let learnt : learned comm None reply ≡ Some members = ap (λ (q : Call × Reply). learned comm None q.1) same ∙ h in
    rw learnt (known_after-some comm members view)

-- all ranks but the last, and the last
pub world-snoc : (n from : ℕ) → world (suc n) from ≡ world n from ++ (from + n) ∷ []
world-snoc zero from = (let e : from + 0 ≡ from = omega arith in rw e refl)
world-snoc (suc n) from =
    let e : from + 1 + n ≡ from + suc n = omega arith in
    ap (λ ranks. from ∷ ranks) (world-snoc n (from + 1) ∙ rw e refl)

pub world-last : (n : ℕ) → world (n + 1) 0 ≡ world n 0 ++ n ∷ []
world-last n =
    let more : n + 1 ≡ suc n = omega arith in
    let none : 0 + n ≡ n = omega arith in
    ap (λ count. world count 0) more ∙ world-snoc n 0 ∙ ap (λ last. world n 0 ++ last ∷ []) none
