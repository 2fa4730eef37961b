-- What every course of a program keeps, and what states have to be for it.
use Rattle.std.specs.Prelude.{◌≡◌, ◌≤◌, ◌++◌, ℕ, ℤ, true, List, [], ◌∷◌, All, MatchBool, length}
use Rattle.mpi_call.specs.declared.reply.Reply.{Reply}
use Rattle.run_model.specs.Communicators.{known_in}
use Rattle.run_model.specs.Forms.{IsInOrder}
use Rattle.run_model.specs.Lists.{IsPrefixOf}
use Rattle.run_model.specs.Program.{IsCallInBounds, IsInForm, ends}
use Rattle.run_model.specs.Shape.{has_shape}
use Rattle.run_model.specs.Views.{View}
use Rattle.c_program.specs.declared.constants.TheConstants.{MOST_CELLS}
use Rattle.c_program.specs.declared.state.Passed.{Passed}
use Rattle.c_program.specs.declared.state.Passed.TheVariants.{Number, Cells as Lent}
use Rattle.c_program.specs.Courses.{Course, Asks, Over}
use Rattle.c_program.specs.Meaning.{FunctionMeaning, Exits}
use Rattle.c_program.specs.Performing.{Onward}
use Rattle.c_program.specs.State.{Slot, State, members_known}

-- rank `me` of n has seen this, in order, and the state knows the starts and the communicators of it; no range has more
-- elements than cells may stand
pub record IsGoodState (n me : ℕ) (own : View) (s : State) : Type 0 where
  pub order : IsInOrder n me own
  pub starts : length s.starts ≤ length own
  pub known : (comm : ℕ) → members_known n s comm ≡ known_in n own comm
  pub slots : All (λ (slot : Slot). slot.cells.length ≤ MOST_CELLS) s.slots

-- each call is in bounds and in form, what is printed goes on from what was printed before, and a reply in shape ends the
-- rank, or more follows
abbrev pub KeepsLaws : ℕ → ℕ → View → List ℕ → Course → Type 0
KeepsLaws n me own printed (Over s) = ⊥
KeepsLaws n me own printed (Asks s call go) =
    IsPrefixOf printed s.printed × IsCallInBounds n (length own) call × IsInForm n me own call
    × ((reply : Reply) → has_shape n me own call reply ≡ true
    → MatchBool (ends (call, reply)) (Unit {0}) (KeepsLaws n me (own ++ (call, reply) ∷ []) s.printed (go reply)))

-- what goes on from a state keeps this from each good one
abbrev pub KeepsOn : ℕ → ℕ → Onward → Type 0
KeepsOn n me go = (own : View) (s : State) → IsGoodState n me own s → KeepsLaws n me own s.printed (go s)

-- each way out of a statement keeps the laws
pub record KeepsExits (n me : ℕ) (k : Exits) : Type 0 where
  pub next : KeepsOn n me k.next
  pub broke : KeepsOn n me k.broke
  pub again : KeepsOn n me k.again
  pub back : (v : ℤ) → KeepsOn n me (k.back v)

-- a range that was passed has no more elements than cells may stand
abbrev pub IsPassable : Passed → Type 0
IsPassable (Number v) = Unit {0}
IsPassable (Lent cells) = cells.length ≤ MOST_CELLS

-- calls of functions keep the laws, where what goes on behind them does
abbrev pub KeepCalls : ℕ → ℕ → FunctionMeaning → Type 0
KeepCalls n me calls =
    (function : ℕ) (arguments : List Passed) (own : View) (s : State) (go : ℤ → Onward)
    → All IsPassable arguments → IsGoodState n me own s → ((v : ℤ) → KeepsOn n me (go v))
    → KeepsLaws n me own s.printed (calls function arguments s go)
