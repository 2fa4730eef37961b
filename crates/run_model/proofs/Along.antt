-- Lists in which each element is a step after those before it.
use Rattle.std.proofs.Common.{◌++◌, ◌∷◌, List, [], append-nil, append_assoc, subst}
use Rattle.run_model.specs.Lists.{Along}

-- one more step at the end
pub Along-snoc : {E : Type 0} (S : List E → E → Type 0) (before events : List E) (event : E) → Along S before events → S (before ++ events) event → Along S before (events ++ event ∷ [])
Along-snoc S before [] event all step = (let P : List _ → Type 0 = λ b. S b event in subst P (append-nil before) step, tt)
Along-snoc S before (first ∷ events) event all step =
    (all.0, Along-snoc S (before ++ first ∷ []) events event all.1 (rw append_assoc step))

-- what each step keeps holds after all of them
pub Along-keeps : {E : Type 0} (S : List E → E → Type 0) (P : List E → Type 0) → ((before : List E) (event : E) → P before → S before event → P (before ++ event ∷ [])) → (before events : List E) → P before → Along S before events → P (before ++ events)
Along-keeps S P keeps before [] holds all = rw append-nil holds
Along-keeps S P keeps before (first ∷ events) holds all =
    let rest = Along-keeps S P keeps (before ++ first ∷ []) events (keeps before first holds all.0) all.1 in
    rw append_assoc at rest

-- the steps of a prefix, and those behind it
pub Along-front : {E : Type 0} (S : List E → E → Type 0) (before xs ys : List E) → Along S before (xs ++ ys) → Along S before xs
Along-front S before [] ys all = tt
Along-front S before (x ∷ xs) ys all = (all.0, Along-front S (before ++ x ∷ []) xs ys all.1)

pub Along-back : {E : Type 0} (S : List E → E → Type 0) (before xs ys : List E) → Along S before (xs ++ ys) → Along S (before ++ xs) ys
Along-back S before [] ys all = rw append-nil all
Along-back S before (x ∷ xs) ys all =
    let rest = Along-back S (before ++ x ∷ []) xs ys all.1 in
    rw append_assoc at rest
