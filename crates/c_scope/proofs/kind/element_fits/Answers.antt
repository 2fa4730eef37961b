use Rattle.std.proofs.Common.{◌≡◌, ◌||◌, refl}
use Rattle.c_names.specs.declared.kind.VariableKind.TheVariants.{Int, Status, Request, Communicator}
use Rattle.c_scope.specs.Kinds.{kind_fits}
use Rattle.c_scope.specs.declared.meaning.ExprKind.{ExprKind}
use Rattle.c_scope.specs.declared.meaning.ExprKind.TheVariants.{Of, NullRequest, Element, Other, Nothing}
use Rattle.c_scope.proofs.kind.element_fits.Goals as goal

one_fits : (wanted : ExprKind) → kind_fits wanted Element ≡ (kind_fits wanted (Of Int) || (kind_fits wanted (Of Status) || (kind_fits wanted (Of Request) || kind_fits wanted (Of Communicator))))
one_fits (Of Int) = refl
one_fits (Of Status) = refl
one_fits (Of Request) = refl
one_fits (Of Communicator) = refl
one_fits NullRequest = refl
one_fits Element = refl
one_fits Other = refl
one_fits Nothing = refl

pub returns : goal.returns
returns c = one_fits
