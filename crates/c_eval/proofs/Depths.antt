-- How deep statements are nested, for the measure of evaluation.
use Rattle.std.proofs.Common.{◌≡◌, ℕ, zero, suc, ◌+◌, ◌-◌, ◌*◌, ◌<◌, ◌≤◌, List, [], ◌∷◌, Some, arith, max, slice_get}
use denote.Param.Weighed.{most}
use Rattle.c_program.specs.declared.program.Function.{Function}
use Rattle.c_program.specs.declared.statement.TypedPart.{size-TypedPart}

abbrev pub deepest : List Function → ℕ
deepest [] = 0
deepest (f ∷ fs) = max (most size-TypedPart f.body.items) (deepest fs)

-- a number above all that the body of a function takes
abbrev pub weight : List Function → ℕ
weight fs = 16 * deepest fs + 64

pub deepest-at : (fs : List Function) (number : ℕ) (f : Function) → slice_get fs number ≡ Some f → most size-TypedPart f.body.items ≤ deepest fs
deepest-at [] number f h = absurd (cc)
deepest-at (g ∷ fs) zero f h = let e : g ≡ f = cc in rw (← e) (omega arith)
deepest-at (g ∷ fs) (suc number) f h = let below : most size-TypedPart f.body.items ≤ deepest fs = deepest-at fs number f h in omega arith

-- one call less, and any statement of a body
pub fewer-calls : (d w x : ℕ) → 0 < d → x < w → (d - 1) * w + x < d * w
fewer-calls zero w x p h = absurd (omega arith)
fewer-calls (suc d) w x p h = let k : suc d - 1 ≡ d = omega arith in rw k (omega (arith, h))
