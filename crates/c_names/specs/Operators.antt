-- Operators on ints of 32 bits, which wrap. (ISO C, "Expressions"; what C leaves open is fixed here.)
use Rattle.std.specs.Prelude.{ℕ, ℤ, pos, ◌%◌, ◌&&◌, ◌||◌, not, if◌then◌else◌, Option, Some, None, int_lt, int_le, int_rem}
use Rattle.std.specs.Int.{w32, cast_unsigned, int_wrapping_add, int_wrapping_sub, int_wrapping_mul, int_wrapping_div, int_wrapping_neg, int_bit_and, int_bit_or, int_bit_xor, int_bit_not, int_shl, int_shr}
use Rattle.std.specs.Ordering.{int_eq}
use Rattle.mpi_call.specs.Operations.{is_set, int_of}
use Rattle.c_names.specs.declared.operator.Operator.{Operator}
use Rattle.c_names.specs.declared.operator.Operator.TheVariants as o
use Rattle.c_names.specs.declared.operator.UnaryOperator.{UnaryOperator}
use Rattle.c_names.specs.declared.operator.UnaryOperator.TheVariants as s

-- shifts are by the count's five lowest bits
abbrev pub shift_count : ℤ → ℕ
shift_count count = cast_unsigned w32 count % 32

-- a value, unless the divisor is zero
abbrev pub unless_zero : ℤ → ℤ → Option ℤ
unless_zero divisor value = if int_eq divisor (pos 0) then None else Some value

-- the value of an operator, or nothing where a divisor is zero; quotients go towards zero
abbrev pub applied : Operator → ℤ → ℤ → Option ℤ
applied o.LogicalOr a b = Some (int_of (is_set a || is_set b))
applied o.LogicalAnd a b = Some (int_of (is_set a && is_set b))
applied o.Or a b = Some (int_bit_or w32 a b)
applied o.Xor a b = Some (int_bit_xor w32 a b)
applied o.And a b = Some (int_bit_and w32 a b)
applied o.Equal a b = Some (int_of (int_eq a b))
applied o.NotEqual a b = Some (int_of (not (int_eq a b)))
applied o.Less a b = Some (int_of (int_lt a b))
applied o.AtMost a b = Some (int_of (int_le a b))
applied o.Greater a b = Some (int_of (int_lt b a))
applied o.AtLeast a b = Some (int_of (int_le b a))
applied o.ShiftLeft a b = Some (int_shl w32 a (shift_count b))
applied o.ShiftRight a b = Some (int_shr a (shift_count b))
applied o.Plus a b = Some (int_wrapping_add w32 a b)
applied o.Minus a b = Some (int_wrapping_sub w32 a b)
applied o.Times a b = Some (int_wrapping_mul w32 a b)
applied o.Divide a b = unless_zero b (int_wrapping_div w32 a b)
applied o.Remainder a b = unless_zero b (int_rem a b)

-- what a sign gives of an int
abbrev pub unary_applied : UnaryOperator → ℤ → ℤ
unary_applied s.Minus a = int_wrapping_neg w32 a
unary_applied s.Plus a = a
unary_applied s.Not a = int_of (not (is_set a))
unary_applied s.Complement a = int_bit_not w32 a
