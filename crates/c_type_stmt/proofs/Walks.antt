-- What is left out, and the parts of a block.
use Rattle.std.proofs.Common.{◌≡◌, List, [], ◌∷◌, Option, Some, None, option_map, Result, Ok, Err, refl, ap}
use Rattle.c_program.specs.Tree as pure
use Rattle.c_program.specs.View.{typed_parts}
use Rattle.c_scope.specs.Walks.{mapped}
use Rattle.c_scope.proofs.JoinRules.{placed}

pub mapped_given : {A B E : Type 0} (f : A → B) (found : Result (Option A) E) (result : Result (Option (Option A)) E)
    → result ≡ mapped (λ one. Some one) found → mapped (option_map f) result ≡ mapped (λ one. Some (f one)) found
mapped_given f (Err e) result k = ap (mapped (option_map f)) k
mapped_given f (Ok None) result k = ap (mapped (option_map f)) k
mapped_given f (Ok (Some a)) result k = ap (mapped (option_map f)) k

pub placed_parts : (ys : List pure.TypedPart) → placed pure.part ys pure.no_part ≡ typed_parts ys
placed_parts [] = refl
placed_parts (y ∷ ys) = ap (pure.part y) (placed_parts ys)
