-- The rows of the code are those of the definition.
use Rattle.std.proofs.Common.{◌≡◌, map, refl}
use Rattle.c_names.specs.Predefined.{names}
use Rattle.c_names.specs.declared.predefined.TheConstants.{NAMES}

pub names_are : map (λ row. (row.0.now, row.1)) NAMES ≡ names
unfolding names
names_are = refl
