-- Calls in boxes, made of what the walks of their arguments found.
use Rattle.std.specs.Prelude.{◌≡◌, Option, None, Result, IfOk, IsOkAnd, IsSomeAnd, MatchOption}
use Rattle.std.specs.declared.alloc.Global.{Global}
use Rattle.std.specs.declared.boxed.Box.{Box}

-- a value in a box, which is made of what was found, if something was; where memory is out, nothing is said
abbrev pub IsMadeBy : {A B E : Type 0} → (A → B → Type 0) → Result (Option A) E → Result (Option (Box B Global)) E → Type 0
IsMadeBy makes found result =
    IfOk result (λ held. IsOkAnd found (λ one. MatchOption one (held ≡ None) (λ parts. IsSomeAnd held (λ box. makes parts box.value))))
