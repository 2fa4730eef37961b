-- How many others receives have.
use Rattle.std.proofs.Common.{◌≡◌, ◌<◌, ◌+◌, ◌++◌, ◌∷◌, [], ℕ, List, ap, arith, length}
use Rattle.msg_races.specs.declared.receives.WildcardReceive.{WildcardReceive}
use Rattle.msg_races.specs.Names.{count_racing}

pub count-append : (xs ys : List WildcardReceive) → count_racing (xs ++ ys) ≡ count_racing xs + count_racing ys
count-append [] ys = omega arith
count-append (x ∷ xs) ys = (let rest = count-append xs ys in omega (arith, rest))

pub count-push : (xs : List WildcardReceive) (x : WildcardReceive) → count_racing (xs ++ x ∷ []) ≡ count_racing xs + length x.others
count-push xs x = (let all = count-append xs (x ∷ []) in omega (arith, all))

-- where too many are counted early, there are too many in all
pub count-more : (most : ℕ) (xs more all : List WildcardReceive) → xs ++ more ≡ all → most < count_racing xs → most < count_racing all
count-more most xs more all whole above =
    let parts = count-append xs more in
    let same = ap count_racing whole in
    omega (arith, parts, same, above)
