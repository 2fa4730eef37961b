-- What changes of cells leave as it was.
use Rattle.std.proofs.Common.{◌≡◌, ℕ, ℤ, pos, ◌+◌, ◌≤◌, Bool, true, false, List, [], ◌∷◌, Option, Some, None, if◌then◌else◌, length, refl, sym, ◌∙◌, ap, arith}
use Rattle.std.proofs.lemmas.List.{set_past}
use Rattle.mpi_call.specs.declared.reply.Got.{Got}
use Rattle.mpi_call.specs.declared.reply.Got.TheVariants.{Sent, Nothing, Message, Joined, Made}
use Rattle.mpi_call.specs.declared.call.Fault.TheVariants.{OutOfBounds}
use Rattle.mpi_call.specs.declared.reply.Reply.{Reply}
use Rattle.mpi_call.specs.declared.reply.Reply.TheVariants.{Done, Took, NotYet, Peeked, Stopped}
use Rattle.c_program.specs.Courses.{trapped}
use Rattle.c_program.specs.declared.effect.Into.{Into}
use Rattle.c_program.specs.declared.effect.Into.TheVariants.{Nowhere, Cells as IntoCells, Handle}
use Rattle.c_program.specs.Performing.{Onward, completed, or_trap, probed, put_result, put_status, has_cells_for}
use Rattle.c_program.specs.State.{State, put, put_all, put_some}
use Rattle.c_program.specs.declared.state.Begun.{Begun}
use Rattle.c_run_replies.specs.Left.{IsChanged}

-- beyond the cells nothing changes
put-beyond : (cell : ℕ) (value : ℤ) (s : State) → length s.cells ≤ cell → put cell value s ≡ s
put-beyond cell value s h = ap (λ cells. record s { cells = cells }) (set_past s.cells cell value h)

pub put_all-beyond : (cell : ℕ) (values : List ℤ) (s : State) → length s.cells ≤ cell → put_all cell values s ≡ s
put_all-beyond cell [] s h = refl
put_all-beyond cell (value ∷ values) s h = rw (put-beyond cell value s h) (put_all-beyond (cell + 1) values s (omega arith))

-- the steps that are left stay
pub left-put_all : (cell : ℕ) (values : List ℤ) (s : State) → (put_all cell values s).left ≡ s.left
left-put_all cell [] s = refl
left-put_all cell (value ∷ values) s = left-put_all (cell + 1) values (put cell value s)

pub left-put_some : (cell : Option ℕ) (value : ℤ) (s : State) → (put_some cell value s).left ≡ s.left
left-put_some None value s = refl
left-put_some (Some cell) value s = refl

pub left-put_status : (at : Option ℕ) (source tag count : ℤ) (s : State) → (put_status at source tag count s).left ≡ s.left
left-put_status None source tag count s = refl
left-put_status (Some at) source tag count s = refl

-- the same of a change that may fail
pub left-is : (o : Option State) (s t : State) (done : Bool) → ((u : State) → o ≡ Some u → u.left ≡ s.left) → IsChanged o s t done → t.left ≡ s.left
left-is None s t done keeps h = ap (λ s. s.left) h.1
left-is (Some u) s t done keeps h = ap (λ s. s.left) h.1 ∙ keeps u refl

if-some : (b : Bool) (v u : State) (n : ℕ) → (if b then Some v else None) ≡ Some u → v.left ≡ n → u.left ≡ n
if-some true v u n e h = let same : v ≡ u = cc in rw (← same) h
if-some false v u n e h = absurd (cc)

some-is : (v u : State) (n : ℕ) → Some v ≡ Some u → v.left ≡ n → u.left ≡ n
some-is v u n e h = let same : v ≡ u = cc in rw (← same) h

pub left-completed : (n : ℕ) (start : Begun) (status : Option ℕ) (got : Got) (s u : State) → completed n start status got s ≡ Some u → u.left ≡ s.left
left-completed n start status Sent s u e = some-is _ u s.left e (left-put_status status _ _ _ s)
left-completed n start status Nothing s u e = some-is _ u s.left e (left-put_status status _ _ _ s)
left-completed n start status (Message source number tag ints) s u e =
    if-some (has_cells_for start.buffer ints s) _ u s.left e (left-put_status status _ _ _ (put_all start.buffer.from ints s) ∙ left-put_all start.buffer.from ints s)
left-completed n start status (Joined ints) s u e = some-is _ u s.left e (left-put_status status _ _ _ s)
left-completed n start status (Made comm members) s u e = some-is _ u s.left e (left-put_status status _ _ _ s)

pub completed-left : (n : ℕ) (start : Begun) (status : Option ℕ) (got : Got) (s t : State) (done : Bool) → IsChanged (completed n start status got s) s t done → t.left ≡ s.left
completed-left n start status got s t done h = left-is (completed n start status got s) s t done (λ u e. left-completed n start status got s u e) h

-- going on where the change is done, and the trap where it is not
pub done-goes : (o : Option State) (s t : State) (done : Bool) (go : Onward) → IsChanged o s t done → done ≡ true → or_trap o s go ≡ go t
done-goes None s t done go h e = absurd (cc)
done-goes (Some u) s t done go h e = ap go (sym h.1)

pub fails-trapped : (o : Option State) (s t : State) (done : Bool) (go : Onward) → IsChanged o s t done → done ≡ false → or_trap o s go ≡ trapped OutOfBounds t
fails-trapped None s t done go h e = ap (λ s. trapped OutOfBounds s) (sym h.1)
fails-trapped (Some u) s t done go h e = absurd (cc)

-- ---- the steps that are left, of what an effect changes

left-put_result : (into : Into) (got : Option Got) (s : State) → (put_result into got s).left ≡ s.left
left-put_result Nowhere got s = refl
left-put_result (IntoCells cells) None s = refl
left-put_result (IntoCells cells) (Some Sent) s = refl
left-put_result (IntoCells cells) (Some Nothing) s = refl
left-put_result (IntoCells cells) (Some (Message source number tag ints)) s = refl
left-put_result (IntoCells cells) (Some (Joined ints)) s = left-put_all cells.from ints s
left-put_result (IntoCells cells) (Some (Made comm members)) s = refl
left-put_result (Handle at) None s = refl
left-put_result (Handle at) (Some Sent) s = refl
left-put_result (Handle at) (Some Nothing) s = refl
left-put_result (Handle at) (Some (Message source number tag ints)) s = refl
left-put_result (Handle at) (Some (Joined ints)) s = refl
left-put_result (Handle at) (Some (Made comm members)) s = refl

pub put_result-left : (into : Into) (got : Option Got) (s t : State) → t ≡ put_result into got s → t.left ≤ s.left
put_result-left into got s t e = let same : t.left ≡ s.left = ap (λ s. s.left) e ∙ left-put_result into got s in omega arith

left-probed : (n comm : ℕ) (flag status : Option ℕ) (reply : Reply) (s : State) → (probed n comm flag status reply s).left ≡ s.left
left-probed n comm flag status Done s = left-put_some flag (pos 0) s
left-probed n comm flag status (Took items) s = left-put_some flag (pos 0) s
left-probed n comm flag status NotYet s = left-put_some flag (pos 0) s
left-probed n comm flag status (Peeked source start tag count) s = left-put_some flag (pos 1) _ ∙ left-put_status status _ _ _ s
left-probed n comm flag status (Stopped halt) s = left-put_some flag (pos 0) s
