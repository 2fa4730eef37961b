use Rattle.std.proofs.Common.{◌≡◌, ◌∙◌, List, Some, slice_get, subst, ℕ}
use Rattle.mpi_call.specs.Lists.{IsIn}
use Rattle.explore.proofs.Looking.{got_at, got_in}
use Rattle.explore.proofs.ahead.PassedStates.comes_to.Goals as goal

pub returns-else-next-place-clause-there : goal.returns-else-next-place-clause-there
returns-else-next-place-clause-there c same =
    let come : ℕ = c.self.inside.come in
    let places : List ℕ = c.deref.result.now in
    let found : ℕ = c.in-Some.next.now in
    let got : slice_get places come ≡ Some found = got_at come places found c.in-Some.ensures.lookup.3.0 c.in-Some.ensures.lookup.1 in
    let I : List ℕ → Type 0 = λ l. IsIn c.args.place l in
    let P : ℕ → Type 0 = λ p. IsIn p places in
    subst I (c.deref.ensures.value ∙ c.self.view_is) (subst P c.if-next-place.false (got_in come places found got))
