use Rattle.std.proofs.Common.{◌&&◌, ◌≡◌, Bool, true, false, refl}
use Rattle.wiz_words.proofs.values.matches_of.Goals as goal

first : (a b : Bool) → (a && b) ≡ true → a ≡ true
first true b h = refl
first false b h = absurd (cc)

pub returns-in-Ok : goal.returns-in-Ok
returns-in-Ok c = (c.in-Ok.ensures.kinds c.requires, (c.in-Ok.ensures.matches (first _ _ c.requires)).0)
