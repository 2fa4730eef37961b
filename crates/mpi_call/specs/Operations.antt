-- The predefined reduction operations on `MPI_INT`, and their fold.
-- (MPI 3.1, Collective Communication, "Predefined Reduction Operations".)
use Rattle.std.specs.Prelude.{ℕ, ℤ, pos, List, Bool, true, false, not, ◌&&◌, ◌||◌, if◌then◌else◌, map, unwrap_or, bit_and, bit_or, bit_xor}
use Rattle.std.specs.Int.{w32, cast_unsigned, cast_signed, int_max, int_min, int_wrapping_add, int_wrapping_mul}
use Rattle.std.specs.List.{range_with_len, reduce, slice_index_or}
use Rattle.std.specs.Ordering.{int_eq}
use Rattle.mpi_call.specs.declared.call.Op.{Op}
use Rattle.mpi_call.specs.declared.call.Op.TheVariants.{Max, Min, Sum, Prod, Land, Band, Lor, Bor, Lxor, Bxor}

-- an int as a truth value, as in C: all but 0 are true
abbrev pub is_set : ℤ → Bool
is_set a = not (int_eq a (pos 0))

-- a truth value as an int, as in C
abbrev pub int_of : Bool → ℤ
int_of false = pos 0
int_of true = pos 1

-- the two ints' 32 bits, bit by bit
abbrev pub bitwise : (ℕ → ℕ → ℕ) → ℤ → ℤ → ℤ
bitwise bits a b = cast_signed w32 (bits (cast_unsigned w32 a) (cast_unsigned w32 b))

-- one operation on two ints; sums and products wrap at 32 bits
abbrev pub combined : Op → ℤ → ℤ → ℤ
combined Max a b = int_max a b
combined Min a b = int_min a b
combined Sum a b = int_wrapping_add w32 a b
combined Prod a b = int_wrapping_mul w32 a b
combined Land a b = int_of (is_set a && is_set b)
combined Band a b = bitwise bit_and a b
combined Lor a b = int_of (is_set a || is_set b)
combined Bor a b = bitwise bit_or a b
combined Lxor a b = int_of (if is_set a then not (is_set b) else is_set b)
combined Bxor a b = bitwise bit_xor a b

-- the fold of some ints, from the first on: one int alone is itself
abbrev pub fold_of : Op → List ℤ → ℤ
fold_of op ints = unwrap_or (reduce (combined op) ints) (pos 0)

-- each list's int at one place
abbrev pub column_of : List (List ℤ) → ℕ → List ℤ
column_of lists place = map (λ ints. slice_index_or ints place (pos 0)) lists

-- the fold of some lists of `count` ints, place by place
abbrev pub folds_of : Op → ℕ → List (List ℤ) → List ℤ
folds_of op count lists = map (λ place. fold_of op (column_of lists place)) (range_with_len 0 count)
