-- What each kind of step does to the view and to the slot of the seat that steps.
use Rattle.std.specs.Prelude.{◌≡◌, ◌≢◌, ℕ, ◌%◌, ◌^◌, List, [], ◌∷◌, ◌++◌, Option, Some, None}
use Rattle.atomic_table.specs.Table.{Me, Step}
use Rattle.atomic_table.specs.Seated.{TableId}
use Rattle.turn_lock.specs.Entries.{entries_of, StartsWith}
use Rattle.turn_lock.specs.Rule.{account, seen_in}
use Rattle.turn_lock.specs.declared.view.Account.{Account}
use Rattle.turn_lock.specs.declared.view.TokenView.{TokenView}
use Rattle.turn_lock.specs.declared.view.Stage.{Stage}
use Rattle.turn_lock.specs.declared.view.Stage.TheVariants.{Idle, Waiting, Turn}

-- a seat's view, and the slots that it has taken
abbrev pub Here : Type 0 → Type 0 → Type 0 → Type 0
Here T E F = Me (Option T) (TokenView E F)

-- a table with the two words and the one slot of a lock
abbrev pub IsLockTable : TableId → Type 0
IsLockTable t = (t.words ≡ 2) × (t.slots ≡ 1)

module _ {E : Type 0} where
  -- the first account's own entries
  abbrev pub own_in : List (Account E) → List (ℕ × E)
  own_in [] = []
  own_in (x ∷ xs) = x.own

  -- there is one account, with the number k
  abbrev pub IsOneAccount : ℕ → List (Account E) → Type 0
  IsOneAccount k xs = xs ≡ account k (own_in xs) (seen_in xs) ∷ []

  -- each account has seen these entries
  abbrev pub informed : List (ℕ × E) → List (Account E) → List (Account E)
  informed es [] = []
  informed es (x ∷ xs) = account x.number x.own es ∷ informed es xs

  -- each account has seen these entries, and has its own ones among them
  abbrev pub renewed : List (ℕ × E) → List (Account E) → List (Account E)
  renewed es [] = []
  renewed es (x ∷ xs) = account x.number (entries_of x.number es) es ∷ renewed es xs

  -- the first account alone, and the others
  abbrev pub first_only : List (Account E) → List (Account E)
  first_only [] = []
  first_only (x ∷ xs) = x ∷ []

  abbrev pub but_first : List (Account E) → List (Account E)
  but_first [] = []
  but_first (x ∷ xs) = xs

module _ {E F : Type 0} where
  -- the same view at another stage
  abbrev pub with_stage : Stage → TokenView E F → TokenView E F
  with_stage a v = record { stage = a; accounts = v.accounts; frame = v.frame }

  -- the ticket t is served, and these entries are seen
  abbrev pub turned_to : ℕ → List (ℕ × E) → TokenView E F → TokenView E F
  turned_to t es v = record { stage = Turn t; accounts = informed es v.accounts; frame = v.frame }

  -- the turn is over, and these entries were given back
  abbrev pub turn_passed : List (ℕ × E) → TokenView E F → TokenView E F
  turn_passed es v = record { stage = Idle; accounts = renewed es v.accounts; frame = v.frame }

  -- a view without its first account, and an idle view of that one alone
  abbrev pub without_first : TokenView E F → TokenView E F
  without_first v = record { stage = v.stage; accounts = but_first v.accounts; frame = v.frame }

  abbrev pub first_alone : TokenView E F → TokenView E F
  first_alone v = record { stage = Idle; accounts = first_only v.accounts; frame = v.frame }

  -- a view with the accounts of another in front of its own, and the view that is left of the other
  abbrev pub both_views : TokenView E F → TokenView E F → TokenView E F
  both_views v w = record { stage = v.stage; accounts = w.accounts ++ v.accounts; frame = v.frame }

  abbrev pub spent_view : TokenView E F
  spent_view = record { stage = Idle; accounts = []; frame = None }

module _ {T E F : Type 0} where
  -- the word that was found is the seat's ticket
  abbrev pub Draws : Step (Option T) → Here T E F → ℕ → Here T E F → Type 0
  Draws st m r m' = (t : ℕ) × (r ≡ t % 2 ^ 64) × (m' ≡ (with_stage (Waiting t) m.0, m.1))

  -- what a seat knows of the value that comes with its turn: the frame, that it begins with all that the seat has seen, and
  -- which entries are the seat's own
  pub record IsNext (entries : T → List (ℕ × E)) (frame_of : T → F) (v : TokenView E F) (x : T) : Type 0 where
    pub frame : Some (frame_of x) ≡ v.frame
    pub seen : StartsWith (entries x) (seen_in v.accounts)
    pub own : (k : ℕ) → IsOneAccount k v.accounts → own_in v.accounts ≡ entries_of k (entries x)

  -- where the word found is the seat's ticket, the seat gains the turn and takes the value; else nothing changes
  abbrev pub ReadsTurn : (T → List (ℕ × E)) → (T → F) → Step (Option T) → Here T E F → ℕ → Here T E F → Type 0
  ReadsTurn entries frame_of st m r m' =
      (t : ℕ) → m.0.stage ≡ Waiting t
      → (r ≡ t % 2 ^ 64 → (x : T) × (m' ≡ (turned_to t (entries x) m.0, (0, Some x) ∷ m.1)) × IsNext entries frame_of m.0 x)
      × (r ≢ t % 2 ^ 64 → m' ≡ m)

  -- the value that lies in the slot goes back with its entries
  abbrev pub Advances : (T → List (ℕ × E)) → Step (Option T) → Here T E F → ℕ → Here T E F → Type 0
  Advances entries st m r m' = (x : T) → m.1 ≡ (0, Some x) ∷ [] → m' ≡ (turn_passed (entries x) m.0, [])

  -- the seat has gained the turn and holds the value x, and the slot is empty
  abbrev pub Takes : (T → List (ℕ × E)) → (T → F) → Here T E F → T → Here T E F → Type 0
  Takes entries frame_of m x m' =
      (t : ℕ) × (m' ≡ (turned_to t (entries x) m.0, (0, None) ∷ [])) × IsNext entries frame_of m.0 x
