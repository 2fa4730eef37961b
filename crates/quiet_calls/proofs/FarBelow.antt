-- Histories far below the bound: those of the same views are too, and there is room for one more event of another.
use Rattle.std.proofs.Common.{◌≡◌, ◌∙◌, ◌++◌, ◌+◌, ◌<◌, ◌∷◌, ℕ, suc, List, [], length, length-append, sym, subst, arith}
use Rattle.mpi_call.specs.declared.limits.TheConstants.{MOST_EVENTS, MOST_SIZE}
use Rattle.run_model.specs.declared.event.Event.{Event}
use Rattle.run_model.specs.Due.{size_of, total_size}
use Rattle.run_model.specs.Views.{view_of}
use Rattle.quiet_calls.specs.Closure.{IsFarBelow}
use Rattle.quiet_calls.proofs.Room.{HasRoom, size_append}
use Rattle.quiet_calls.proofs.Sizes.{same_length, same_size}

below_by : (one other : List Event) → length one ≡ length other → total_size one ≡ total_size other → IsFarBelow one → IsFarBelow other
below_by one other count size below =
    let F : ℕ → Type 0 = λ c. c + c < MOST_EVENTS in
    let G : ℕ → Type 0 = λ c. c + c < MOST_SIZE in
    record { count = subst F count below.count; size = subst G size below.size }

pub below_same : (one other : List Event) → ((rank : ℕ) → view_of one rank ≡ view_of other rank) → IsFarBelow one → IsFarBelow other
below_same one other same below = below_by one other (same_length one other same) (same_size one other same) below

half_front : (a b most : ℕ) → (a + b) + (a + b) < most → a + a < most
half_front a b most h = omega (arith, h)

-- two that begin alike, one after the other
half_both : (a b c most : ℕ) → (a + b) + (a + b) < most → (a + c) + (a + c) < most → a + (b + c) < most
half_both a b c most h k = omega (arith, h, k)

half_more : (a c most : ℕ) → (a + 1) + (a + 1) < most → (a + c) + (a + c) < most → a + suc c < most
half_more a c most h k = omega (arith, h, k)

pub room_far : (one front : List Event) (q : Event) → IsFarBelow (one ++ q ∷ []) → IsFarBelow (one ++ front) → HasRoom (one ++ q ∷ front)
room_far one front q first below =
    let F : ℕ → Type 0 = λ c. c < MOST_EVENTS in
    let G : ℕ → Type 0 = λ c. c < MOST_SIZE in
    let N : ℕ → Type 0 = λ c. c + c < MOST_EVENTS in
    let S : ℕ → Type 0 = λ c. c + c < MOST_SIZE in
    let count : length (one ++ q ∷ front) ≡ length one + suc (length front) = length-append one (q ∷ front) in
    let size : total_size (one ++ q ∷ front) ≡ total_size one + (size_of q + total_size front) = size_append one (q ∷ front) in
    let last : total_size (one ++ q ∷ []) ≡ total_size one + size_of q =
    size_append one (q ∷ []) ∙ (let end : total_size one + (size_of q + 0) ≡ total_size one + size_of q = omega arith in end) in
    record {
      count = subst F (sym count) (half_more (length one) (length front) MOST_EVENTS (subst N (length-append one (q ∷ [])) first.count) (subst N (length-append one front) below.count));
      size = subst G (sym size) (half_both (total_size one) (size_of q) (total_size front) MOST_SIZE (subst S last first.size) (subst S (size_append one front) below.size));
    }

-- without the last
pub below_put : (base : List Event) (q x : Event) → IsFarBelow ((base ++ x ∷ []) ++ q ∷ []) → IsFarBelow (base ++ x ∷ [])
below_put base q x below =
    let N : ℕ → Type 0 = λ c. c + c < MOST_EVENTS in
    let S : ℕ → Type 0 = λ c. c + c < MOST_SIZE in
    record {
      count = half_front (length (base ++ x ∷ [])) 1 MOST_EVENTS (subst N (length-append (base ++ x ∷ []) (q ∷ [])) below.count);
      size = half_front (total_size (base ++ x ∷ [])) (size_of q + 0) MOST_SIZE (subst S (size_append (base ++ x ∷ []) (q ∷ [])) below.size);
    }
