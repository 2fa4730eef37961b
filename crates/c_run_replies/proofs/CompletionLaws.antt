-- Steps of the loops over handles and items.
use Rattle.std.proofs.Common.{◌≡◌, ℕ, zero, suc, ◌+◌, ◌<◌, ◌≤◌, ℤ, pos, Bool, true, false, List, [], ◌∷◌, Option, Some, None, if◌then◌else◌, option_map, length, drop, drop-cons, add-one, get_or, refl, sym, ◌∙◌, ap, arith}
use Rattle.mpi_call.specs.declared.call.Fault.TheVariants.{OutOfBounds}
use Rattle.mpi_call.specs.declared.call.TakeMode.{TakeMode}
use Rattle.mpi_call.specs.declared.call.TakeMode.TheVariants.{All, Any, Several, TestAll, TestAny, TestSeveral}
use Rattle.mpi_call.specs.declared.reply.Got.{Got}
use Rattle.mpi_call.specs.declared.reply.Item.{Item}
use Rattle.mpi_call.specs.declared.reply.Reply.TheVariants.{Took}
use Rattle.c_program.specs.declared.effect.AnswerCells.{AnswerCells}
use Rattle.c_program.specs.Cells.{Cells}
use Rattle.c_program.specs.Courses.{trapped}
use Rattle.run_model.specs.Allowed.{takes_all}
use Rattle.c_program.specs.Performing.{Active, Onward, active_at, active_or_none, after_take, begun_at, completing_of, empties, first_place, handle_places, item_completed, none_active, or_trap, put_empties, put_empty, put_items, put_only_empty, put_places, status_at, status_place, with_answer, with_communicators}
use Rattle.c_program.specs.State.{State, any_source, ints_in_cells, null, put, undefined, values_from}
use Rattle.c_run_replies.specs.Left.{IsChanged, item_put}
use Rattle.c_run_replies.proofs.CellLaws.{done-goes, fails-trapped, left-completed, left-is, left-put_all, left-put_some, left-put_status}

pub length-values_from : (cell n : ℕ) (s : State) → length (values_from cell n s) ≡ n
length-values_from cell zero s = refl
length-values_from cell (suc n) s = ap suc (length-values_from (cell + 1) n s)

-- ---- items

-- a change after one that may fail
mapped : (o : Option State) (f : State → State) (s : State) (go : Onward) → or_trap (option_map f o) s go ≡ or_trap o s (λ t. go (f t))
mapped None f s go = refl
mapped (Some u) f s go = refl

map-left : (o : Option State) (cell : ℕ) (n : ℕ) → ((u : State) → o ≡ Some u → u.left ≡ n) → (u : State) → option_map (put cell null) o ≡ Some u → u.left ≡ n
map-left None cell n keeps u e = absurd (cc)
map-left (Some v) cell n keeps u e = let same : put cell null v ≡ u = cc in rw (← same) (keeps v refl)

module _ (n : ℕ) (requests : Cells) (mode : TakeMode) (answer : AnswerCells) where
  pub item_put-left : (one : Active) (number : ℕ) (got : Got) (s t : State) (done : Bool) → IsChanged (item_put (completing_of n requests mode answer) one number got s) s t done → t.left ≡ s.left
  item_put-left one number got s t done h = left-is (item_put (completing_of n requests mode answer) one number got s) s t done
      (map-left (item_completed (completing_of n requests mode answer) one number got s) (requests.from + one.place) s.left (λ u e. left-completed n (begun_at one.start s) (status_at answer.statuses (status_place mode one.place number)) got s u e)) h

  items-item : (active : List Active) (i : ℕ) (item : Item) (items : List Item) (s : State) (go : Onward)
      → put_items (completing_of n requests mode answer) active i (item ∷ items) s go ≡ or_trap (item_put (completing_of n requests mode answer) (active_or_none active item.index) i item.got s) s (λ t. put_items (completing_of n requests mode answer) active (suc i) items t go)
  items-item active i item items s go = sym (mapped (item_completed (completing_of n requests mode answer) (active_or_none active item.index) i item.got s) (put (requests.from + (active_or_none active item.index).place) null) s (λ t. put_items (completing_of n requests mode answer) active (suc i) items t go))

  pub items-next : (active : List Active) (items : List Item) (i : ℕ) (item : Item) (one : Active) (s t : State) (done : Bool) → i < length items → item ≡ get_or items i item → one ≡ active_or_none active item.index
      → IsChanged (item_put (completing_of n requests mode answer) one i item.got s) s t done → done ≡ true → (go : Onward)
      → put_items (completing_of n requests mode answer) active i (drop i items) s go ≡ put_items (completing_of n requests mode answer) active (i + 1) (drop (i + 1) items) t go
  items-next active items i item one s t done lt is one-is h d go =
      rw (add-one, drop-cons items i item, ← is) (items-item active i item (drop (suc i) items) s go ∙ rw (← one-is) (done-goes (item_put (completing_of n requests mode answer) one i item.got s) s t done _ h d))

  pub items-trap : (active : List Active) (items : List Item) (i : ℕ) (item : Item) (one : Active) (s t : State) (done : Bool) → i < length items → item ≡ get_or items i item → one ≡ active_or_none active item.index
      → IsChanged (item_put (completing_of n requests mode answer) one i item.got s) s t done → done ≡ false → (go : Onward)
      → put_items (completing_of n requests mode answer) active i (drop i items) s go ≡ trapped OutOfBounds t
  items-trap active items i item one s t done lt is one-is h d go =
      rw (drop-cons items i item, ← is) (items-item active i item (drop (suc i) items) s go ∙ rw (← one-is) (fails-trapped (item_put (completing_of n requests mode answer) one i item.got s) s t done _ h d))

-- ---- the steps that are left

left-put_places : (indices : Option Cells) (places : List ℤ) (s : State) → (put_places indices places s).left ≡ s.left
left-put_places None places s = refl
left-put_places (Some cells) places s = left-put_all cells.from places s

pub left-answered : (answer : AnswerCells) (flag index outcount : ℤ) (places : List ℤ) (s : State) → (with_answer answer flag index outcount places s).left ≡ s.left
left-answered answer flag index outcount places s =
    left-put_places answer.indices places _ ∙ left-put_some answer.outcount outcount _ ∙ left-put_some answer.flag flag _ ∙ left-put_some answer.index index s

put_empties-left : (active : List Active) (statuses : Option Cells) (starts place : ℕ) (handle : ℤ) (handles : List ℤ) (s : State)
    → active_at starts place handle ≡ active → ((t : State) → (put_empties statuses starts (suc place) handles t).left ≡ t.left) → (put_empties statuses starts place (handle ∷ handles) s).left ≡ s.left
put_empties-left [] statuses starts place handle handles s e keeps = rw (e, put_empties) (keeps (put_empty (status_at statuses place) s) ∙ left-put_status (status_at statuses place) any_source null (pos 0) s)
put_empties-left (one ∷ more) statuses starts place handle handles s e keeps = rw (e, put_empties) (keeps s)

left-put_empties : (statuses : Option Cells) (starts place : ℕ) (handles : List ℤ) (s : State) → (put_empties statuses starts place handles s).left ≡ s.left
left-put_empties statuses starts place [] s = refl
left-put_empties statuses starts place (handle ∷ handles) s = put_empties-left (active_at starts place handle) statuses starts place handle handles s refl (left-put_empties statuses starts (suc place) handles)

left-either : (b : Bool) (s t : State) → t.left ≡ s.left → (if b then t else s).left ≡ s.left
left-either true s t h = h
left-either false s t h = refl

pub left-empties : (requests : Cells) (mode : TakeMode) (answer : AnswerCells) (s : State) → (empties requests mode answer s).left ≡ s.left
left-empties requests mode answer s = left-either (takes_all mode) s _ (left-put_empties answer.statuses (length s.starts) 0 (ints_in_cells requests s) s)

left-put_only_empty : (mode : TakeMode) (answer : AnswerCells) (s : State) → (put_only_empty mode answer s).left ≡ s.left
left-put_only_empty All answer s = refl
left-put_only_empty Any answer s = left-put_status (status_at answer.statuses 0) any_source null (pos 0) s
left-put_only_empty Several answer s = refl
left-put_only_empty TestAll answer s = refl
left-put_only_empty TestAny answer s = left-put_status (status_at answer.statuses 0) any_source null (pos 0) s
left-put_only_empty TestSeveral answer s = refl

pub left-none_active : (requests : Cells) (mode : TakeMode) (answer : AnswerCells) (s : State) → (none_active requests mode answer s).left ≡ s.left
left-none_active requests mode answer s =
    left-answered answer (pos 1) undefined undefined [] _ ∙ left-put_only_empty mode answer (empties requests mode answer s) ∙ left-empties requests mode answer s

-- ---- whole calls

-- ---- what follows on items

pub take-goes : (n : ℕ) (requests : Cells) (mode : TakeMode) (answer : AnswerCells) (active : List Active) (items : List Item) (s u : State) (go : Onward)
    → u ≡ empties requests mode answer (with_communicators items s)
    → after_take (completing_of n requests mode answer) active (Took items) s go ≡ put_items (completing_of n requests mode answer) active 0 items u (λ v. go (with_answer answer (pos 1) (first_place (handle_places active items)) (pos (length items)) (handle_places active items) v))
take-goes n requests mode answer active items s u go is = rw is refl

pub take-left : (requests : Cells) (mode : TakeMode) (answer : AnswerCells) (items : List Item) (s u : State) → u ≡ empties requests mode answer (with_communicators items s) → u.left ≤ s.left
take-left requests mode answer items s u is = let same : u.left ≡ s.left = ap (λ s. s.left) is ∙ left-empties requests mode answer (with_communicators items s) in omega arith

pub answered-is : (answer : AnswerCells) (active : List Active) (items : List Item) (places : List ℤ) (s u : State)
    → places ≡ handle_places active items → u ≡ with_answer answer (pos 1) (first_place places) (pos (length items)) places s
    → with_answer answer (pos 1) (first_place (handle_places active items)) (pos (length items)) (handle_places active items) s ≡ u
answered-is answer active items places s u p e = rw (e, p) refl

pub answered-left : (answer : AnswerCells) (flag index outcount : ℤ) (places : List ℤ) (s u : State) → u ≡ with_answer answer flag index outcount places s → u.left ≤ s.left
answered-left answer flag index outcount places s u e = let same : u.left ≡ s.left = ap (λ s. s.left) e ∙ left-answered answer flag index outcount places s in omega arith
