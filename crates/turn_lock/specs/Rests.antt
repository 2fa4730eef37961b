-- What a seat is between the calls of its lock.
use Rattle.std.specs.Prelude.{◌≡◌, ℕ, Bool, true, false, List, [], ◌∷◌, Option, None}
use Rattle.turn_lock.specs.Entries.{entries_of}
use Rattle.turn_lock.specs.Rule.{seen_in}
use Rattle.turn_lock.specs.Steps.{Here, IsOneAccount, own_in}
use Rattle.turn_lock.specs.declared.view.Stage.{Stage}
use Rattle.turn_lock.specs.declared.view.Stage.TheVariants.{Idle, Waiting, Turn}

-- whether a seat at this stage holds
abbrev pub has_turn : Stage → Bool
has_turn Idle = false
has_turn (Waiting t) = false
has_turn (Turn t) = true

-- it has taken no slot; or it has the turn and the slot, which is empty, and `stands` holds
abbrev pub StageRests : {T : Type 0} → Type 0 → List (ℕ × Option T) → Stage → Type 0
StageRests stands carried Idle = carried ≡ []
StageRests stands carried (Waiting t) = ⊥
StageRests stands carried (Turn t) = (carried ≡ (0, None) ∷ []) × stands

-- it has one account, and while it holds, its own entries are those that it has seen with its number
pub record IsAtRest {T E F : Type 0} (number : ℕ) (me : Here T E F) : Type 0 where
  pub accounts : IsOneAccount number me.0.accounts
  pub stage : StageRests (own_in me.0.accounts ≡ entries_of number (seen_in me.0.accounts)) me.1 me.0.stage
