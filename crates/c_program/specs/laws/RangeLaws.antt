-- Ranges that a good state gives: none has more elements than cells may stand.
use Rattle.std.proofs.Common.{◌≡◌, ◌+◌, ◌-◌, ◌*◌, ◌≤◌, ℕ, ℤ, pos, negsuc, Bool, true, false, List, [], ◌∷◌, Option, Some, None, Result, Ok, Err, All, if◌then◌else◌, nat_le, slice_get, refl, ap, subst, arith}
use Rattle.std.proofs.lemmas.List.Elements.{All-get_or, All-nil, All-cons}
use Rattle.std.proofs.lemmas.Option.{get_or_from_slice_get, slice_get_within}
use Rattle.mpi_call.specs.declared.call.Fault.{Fault}
use Rattle.mpi_call.specs.declared.call.Fault.TheVariants.{OutOfBounds}
use Rattle.c_program.specs.declared.constants.TheConstants.{MOST_CELLS}
use Rattle.c_program.specs.declared.state.Passed.{Passed}
use Rattle.c_program.specs.declared.state.Passed.TheVariants.{Number, Cells as Lent}
use Rattle.c_program.specs.Tree as t
use Rattle.c_program.specs.Tree.{TypedArgument, Reference}
use Rattle.c_program.specs.Cells.{Cells}
use Rattle.c_program.specs.laws.Keeping.{IsPassable}
use Rattle.c_program.specs.Meaning.{passed, passed_all}
use Rattle.c_program.specs.State.{Slot, State}
use Rattle.c_program.specs.Values.{given, or_fault, cells_of, elements_from, range, value}

-- what goes on with a value had one
pub given_ok : {A B : Type 0} (o : Result A Fault) (go : A → Result B Fault) (y : B) → given o go ≡ Ok y → (x : A) × (o ≡ Ok x) × (go x ≡ Ok y)
given_ok (Err fault) go y is = absurd (cc)
given_ok (Ok x) go y is = (x, refl, is)

-- no variable has more elements than cells may stand
abbrev pub SlotsFit : State → Type 0
SlotsFit s = All (λ (slot : Slot). slot.cells.length ≤ MOST_CELLS) s.slots

slot_fits : (slots : List Slot) (i : ℕ) (slot : Slot) → All (λ (slot : Slot). slot.cells.length ≤ MOST_CELLS) slots → slice_get slots i ≡ Some slot → slot.cells.length ≤ MOST_CELLS
slot_fits slots i slot all is =
    subst (λ (slot : Slot). slot.cells.length ≤ MOST_CELLS) (get_or_from_slice_get slots i slot slot is)
    (All-get_or (λ (slot : Slot). slot.cells.length ≤ MOST_CELLS) slots i slot (slice_get_within slots i slot is) all)

found_fits : (found : Option Slot) (cells : Cells) → ((slot : Slot) → found ≡ Some slot → slot.cells.length ≤ MOST_CELLS) → given (or_fault OutOfBounds found) (λ (slot : Slot). Ok slot.cells) ≡ Ok cells → cells.length ≤ MOST_CELLS
found_fits None cells fits is = absurd (cc)
found_fits (Some slot) cells fits is =
    let same : slot.cells ≡ cells = cc in
    subst (λ (cells : Cells). cells.length ≤ MOST_CELLS) same (fits slot refl)

pub cells_of_fits : (variable : ℕ) (s : State) (cells : Cells) → SlotsFit s → cells_of variable s ≡ Ok cells → cells.length ≤ MOST_CELLS
cells_of_fits variable s cells all is =
    found_fits (slice_get s.slots (s.base + variable)) cells (λ slot found. slot_fits s.slots (s.base + variable) slot all found) is

part_fits : (within : Bool) (whole part cells : Cells) → part.length ≤ whole.length → whole.length ≤ MOST_CELLS → (if within then Ok part else Err OutOfBounds) ≡ Ok cells → cells.length ≤ MOST_CELLS
part_fits true whole part cells shorter fits is =
    let same : part ≡ cells = cc in
    subst (λ (cells : Cells). cells.length ≤ MOST_CELLS) same (omega arith)
part_fits false whole part cells shorter fits is = absurd (cc)

pub elements_from_fit : (whole cells : Cells) (i : ℤ) → whole.length ≤ MOST_CELLS → elements_from whole i ≡ Ok cells → cells.length ≤ MOST_CELLS
elements_from_fit whole cells (negsuc i) fits is = absurd (cc)
elements_from_fit whole cells (pos i) fits is =
    part_fits (nat_le i whole.length) whole (record { from = whole.from + i * whole.width; length = whole.length - i; width = whole.width }) cells (omega arith) fits is

pub range_fits : (reference : Reference) (s : State) (cells : Cells) → SlotsFit s → range reference s ≡ Ok cells → cells.length ≤ MOST_CELLS
range_fits t.nothing s cells all is =
    let same : 0 ≡ cells.length = ap (λ (o : Result Cells Fault). elim o [ Ok cells ↦ cells.length | Err fault ↦ 0 ]) is in
    omega arith
range_fits (t.all_of variable) s cells all is = cells_of_fits variable s cells all is
range_fits (t.from variable index) s cells all is =
    let by_index = given_ok (value index s) (λ i. given (cells_of variable s) (λ cells. elements_from cells i)) cells is in
    let by_cells = given_ok (cells_of variable s) (λ cells. elements_from cells by_index.0) cells by_index.2 in
    elements_from_fit by_cells.0 cells by_index.0 (cells_of_fits variable s by_cells.0 all by_cells.1) by_cells.2

-- so arguments may be passed on
pub passed_is_passable : (argument : TypedArgument) (s : State) (one : Passed) → SlotsFit s → passed argument s ≡ Ok one → IsPassable one
passed_is_passable (t.by_value e) s one all is =
    let by_value = given_ok (value e s) (λ v. Ok (Number v)) one is in
    let same : Number by_value.0 ≡ one = cc in
    subst IsPassable same tt
passed_is_passable (t.by_reference reference) s one all is =
    let by_range = given_ok (range reference s) (λ cells. Ok (Lent cells)) one is in
    let same : Lent by_range.0 ≡ one = cc in
    subst IsPassable same (range_fits reference s by_range.0 all by_range.1)

pub passed_all_are_passable : (arguments : List TypedArgument) (s : State) (those : List Passed) → SlotsFit s → passed_all arguments s ≡ Ok those → All IsPassable those
passed_all_are_passable [] s those all is =
    let same : [] ≡ those = cc in
    subst (All IsPassable) same (All-nil IsPassable)
passed_all_are_passable (argument ∷ arguments) s those all is =
    let by_one = given_ok (passed argument s) (λ one. given (passed_all arguments s) (λ others. Ok (one ∷ others))) those is in
    let by_others = given_ok (passed_all arguments s) (λ others. Ok (by_one.0 ∷ others)) those by_one.2 in
    let same : by_one.0 ∷ by_others.0 ≡ those = cc in
    let one_passes : IsPassable by_one.0 = passed_is_passable argument s by_one.0 all by_one.1 in
    let others_pass : All IsPassable by_others.0 = passed_all_are_passable arguments s by_others.0 all by_others.1 in
    subst (All IsPassable) same (All-cons IsPassable by_one.0 by_others.0 one_passes others_pass)
