-- What a whole text is, and which fault it has, by its grammar alone.
use Rattle.std.specs.Prelude.{◌≡◌, ◌≤◌, List, [], ◌∷◌, ◌++◌, length, Option, Some, None, IfSome}
use Rattle.c_grammar.specs.declared.terminal.Terminal.{Terminal}

module _ {A : Type 0} (spelled : A → List Terminal) (Good : A → Type 0) (deepest : A → Option (List Terminal)) where
  -- the text is this tree's, and nothing in it is too deep
  abbrev pub IsTextOf : List Terminal → A → Type 0
  IsTextOf ts a = Good a × (ts ≡ spelled a) × (deepest a ≡ None)

  -- some text goes on so after these terminals, with nothing too deep in them
  abbrev pub MayBegin : List Terminal → Type 0
  MayBegin ts = (a : A) × (z : List Terminal) × Good a × (spelled a ≡ ts ++ z) × IfSome (deepest a) (λ d. length d ≤ length z)

  -- no text has these terminals and then this one, or the end
  abbrev pub NoneGoesOn : List Terminal → List Terminal → Type 0
  NoneGoesOn front [] = (a : A) → Good a → spelled a ≡ front → ⊥
  NoneGoesOn front (x ∷ rest) = (a : A) (z : List Terminal) → Good a → spelled a ≡ front ++ x ∷ z → ⊥

  -- at the first terminal of rest
  pub record IsUnexpected (ts rest : List Terminal) : Type 0 where
    pub front : List Terminal
    pub is : ts ≡ front ++ rest
    pub before : MayBegin front
    pub none : NoneGoesOn front rest

  -- the first terminal of rest begins what is too deep
  pub record IsTooDeep (ts rest : List Terminal) : Type 0 where
    pub front : List Terminal
    pub head : Terminal
    pub tail : List Terminal
    pub at : rest ≡ head ∷ tail
    pub is : ts ≡ front ++ rest
    -- some text goes on from it, and it is the first there that is too deep
    pub tree : A
    pub more : List Terminal
    pub good : Good tree
    pub spells : spelled tree ≡ front ++ head ∷ more
    pub deep : deepest tree ≡ Some (head ∷ more)
