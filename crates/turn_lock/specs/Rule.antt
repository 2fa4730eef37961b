-- The rule of the lock's table. Tickets count up and never wrap here: only the words are taken modulo 2 ^ 64.
use Rattle.std.specs.Prelude.{◌≡◌, ℕ, zero, suc, ◌+◌, ◌%◌, ◌^◌, ◌<◌, ◌≤◌, ◌⊎◌, List, [], ◌∷◌, length, All, Option, Some}
use mathlib.Core.Option.{some}
use lib.ListN.{get_elem?}
use Rattle.atomic_table.specs.Table.{State}
use Rattle.turn_lock.specs.declared.lock.TheConstants.{MOST_SEATS}
use Rattle.turn_lock.specs.Entries.{entries_of, StartsWith}
use Rattle.turn_lock.specs.declared.view.Account.{Account}
use Rattle.turn_lock.specs.declared.view.TokenView.{TokenView}
use Rattle.turn_lock.specs.declared.view.Stage.{Stage}
use Rattle.turn_lock.specs.declared.view.Stage.TheVariants.{Idle, Waiting, Turn}

-- an account with this number, these own entries and these seen ones
abbrev pub account : {E : Type 0} → ℕ → List (ℕ × E) → List (ℕ × E) → Account E
account k own seen = record { number = k; own = own; seen = seen }

-- n accounts, numbered from k, with no entries
abbrev pub fresh_accounts : {E : Type 0} → ℕ → ℕ → List (Account E)
fresh_accounts k zero = []
fresh_accounts k (suc n) = account k [] [] ∷ fresh_accounts (suc k) n

-- an idle token with these accounts
abbrev pub idle_view : {E F : Type 0} → List (Account E) → F → TokenView E F
idle_view accounts frame = record { stage = Idle; accounts = accounts; frame = Some frame }

-- the first token has every account
abbrev pub first_view : {E F : Type 0} → ℕ → F → TokenView E F
first_view seats frame = idle_view (fresh_accounts 0 seats) frame

-- what the first account has seen
abbrev pub seen_in : {E : Type 0} → List (Account E) → List (ℕ × E)
seen_in [] = []
seen_in (x ∷ xs) = x.seen

-- f of each, added up
abbrev pub total : {A : Type 0} → (A → ℕ) → List A → ℕ
total f [] = 0
total f (x ∷ xs) = f x + total f xs

-- how many tickets a seat has
abbrev pub tickets_at : Stage → ℕ
tickets_at Idle = 0
tickets_at (Waiting t) = 1
tickets_at (Turn t) = 1

-- how many tickets a view has
abbrev pub tickets : {E F : Type 0} → TokenView E F → ℕ
tickets v = tickets_at v.stage

-- how many accounts a view has
abbrev pub accounts_of : {E F : Type 0} → TokenView E F → ℕ
accounts_of v = length v.accounts

-- where the queue stands: the ticket that is served, the next one, and the view that drew each ticket
pub record Queue : Type 0 where
  pub serving : ℕ
  pub next : ℕ
  pub holder : ℕ → ℕ

-- the ticket of the view j was drawn by it and not passed yet; with the turn it is the one that is served, and `latest` holds
abbrev pub StageFits : Queue → Type 0 → ℕ → Stage → Type 0
StageFits q latest j Idle = Unit {0}
StageFits q latest j (Waiting t) = (q.serving ≤ t) × (t < q.next) × (q.holder t ≡ j)
StageFits q latest j (Turn t) = (q.serving ≡ t) × (t < q.next) × (q.holder t ≡ j) × latest

-- an account of the view j: its number is no other view's, its own entries are those of the history with that number,
-- and it has seen a prefix of the history
pub record AccountFits {E : Type 0} (seats : ℕ) (owner : ℕ → ℕ) (history : List (ℕ × E)) (j : ℕ) (a : Account E)
    : Type 0 where
  pub number : a.number < seats
  pub owned : owner a.number ≡ j
  pub own : a.own ≡ entries_of a.number history
  pub seen : StartsWith history a.seen

-- so are all of these accounts
abbrev pub AccountsFit : {E : Type 0} → ℕ → (ℕ → ℕ) → List (ℕ × E) → ℕ → List (Account E) → Type 0
AccountsFit seats owner history j [] = Unit {0}
AccountsFit seats owner history j (x ∷ xs) = AccountFits seats owner history j x × AccountsFit seats owner history j xs

-- what holds of the view j: with the turn it has seen the whole history, with an account it knows the frame, and only
-- with an account it draws a ticket
pub record ViewFits {E F : Type 0} (seats : ℕ) (told : F) (history : List (ℕ × E)) (q : Queue) (owner : ℕ → ℕ)
    (j : ℕ) (v : TokenView E F) : Type 0 where
  pub stage : StageFits q (seen_in v.accounts ≡ history) j v.stage
  pub accounts : AccountsFit seats owner history j v.accounts
  pub frame : 0 < length v.accounts → v.frame ≡ Some told
  pub live : tickets v ≤ length v.accounts

-- a table whose slot is empty or has a value
abbrev pub SlotTable : Type 0 → Type 0 → Type 0 → Type 0
SlotTable T E F = State (Option T) (TokenView E F)

-- the value lies in the slot, with the history for entries and the frame of `new`; or some seat has the turn
abbrev pub SlotFits : {T E F : Type 0} → (T → List (ℕ × E)) → (T → F) → F → List (ℕ × E) → SlotTable T E F → Type 0
SlotFits {T} {E} {F} entries frame_of told history s =
    ((x : T) × (s.homes ≡ some (Some x) ∷ []) × (entries x ≡ history) × (frame_of x ≡ told))
    ⊎ ((j : ℕ) × (v : TokenView E F) × (t : ℕ) × (get_elem? s.views j ≡ some v) × (v.stage ≡ Turn t))

-- the rule: each entry of the history is a seat's; the words are the next ticket and the one that is served; as many
-- tickets are drawn and not passed as there are views with one; there are as many accounts as seats, so at most `MOST_SEATS` wait
pub record TurnRule {T E F : Type 0} (entries : T → List (ℕ × E)) (frame_of : T → F) (seats : ℕ) (told : F)
    (s : SlotTable T E F) : Type 0 where
  pub history : List (ℕ × E)
  pub queue : Queue
  pub owner : ℕ → ℕ
  pub few : seats ≤ MOST_SEATS
  pub numbers : All (λ e. e.0 < seats) history
  pub words : s.words ≡ queue.next % 2 ^ 64 ∷ queue.serving % 2 ^ 64 ∷ []
  pub waiting : queue.next ≡ queue.serving + total tickets s.views
  pub shares : total accounts_of s.views ≡ seats
  pub each : (j : ℕ) (v : TokenView E F) → get_elem? s.views j ≡ some v → ViewFits seats told history queue owner j v
  pub slot : SlotFits entries frame_of told history s
