-- How long a result is.
use Rattle.std.proofs.Common.{◌≡◌, ℕ, suc, ◌+◌, ◌-◌, ◌*◌, ◌<◌, ◌≤◌, ℤ, List, [], ◌∷◌, length, get_or, take, drop, Bool, true, false, ◌&&◌, refl, ap, ap₂, ◌∙◌, cond, arith, Option, Some, None, length-append}
use Rattle.std.proofs.lemmas.Bool.{eq-eqb}
use Rattle.std.proofs.lemmas.List.{length-take-le, length-drop}
use Rattle.std.specs.List.{flat_map}
use Rattle.mpi_call.proofs.FoldLemmas.{length-folds_of}
use Rattle.mpi_call.proofs.InputLemmas.{all_long, and_left, and_right, needed_long, piece_within}
use Rattle.mpi_call.proofs.MemberLemmas.{place_of-within, at_place_of}
use Rattle.mpi_call.specs.Members.{is_member, place_of}
use Rattle.mpi_call.specs.Needs.{input_length, is_count_for, is_op_for, is_root, is_root_for, needs, result_length, takes_op, IsEnterOf}
use Rattle.mpi_call.specs.Results.{input_of, piece_at, pieces_of, reduced, result_of, AreInputsOf}
use Rattle.mpi_call.specs.declared.call.Call.{Call}
use Rattle.mpi_call.specs.declared.call.Call.TheVariants.{Enter}
use Rattle.mpi_call.specs.declared.call.Kind.{Kind}
use Rattle.mpi_call.specs.declared.call.Kind.TheVariants.{Barrier, Bcast, Reduce, Allreduce, Gather, Allgather, Scatter, Alltoall, Scan, Split, Dup}
use Rattle.mpi_call.specs.declared.call.Op.{Op}

-- lists of one length in a row
length-flat_map : (f : List ℤ → List ℤ) (long : ℕ) (inputs : List (List ℤ)) → ((k : ℕ) (d : List ℤ) → k < length inputs → length (f (get_or inputs k d)) ≡ long)
    → length (flat_map f inputs) ≡ length inputs * long
length-flat_map f long [] each = (let none : 0 ≡ 0 * long = omega arith in none)
length-flat_map f long (ints ∷ inputs) each =
    let first : length (f ints) ≡ long = each 0 [] (omega arith) in
    let others : length (flat_map f inputs) ≡ length inputs * long = length-flat_map f long inputs (λ k d h. each (suc k) d (omega arith)) in
    let whole : long + length inputs * long ≡ suc (length inputs) * long = grind arith in
    length-append (f ints) (flat_map f inputs) ∙ (ap₂ (λ a b. a + b) first others ∙ whole)

length-piece_at : (count place : ℕ) (ints : List ℤ) → place * count + count ≤ length ints → length (piece_at count place ints) ≡ count
length-piece_at count place ints fits =
    let left : length (drop (place * count) ints) ≡ length ints - place * count = length-drop (place * count) ints in
    length-take-le count (drop (place * count) ints) (omega arith)

-- the operation is there
length-reduced : (kind : Kind) (root : Option ℕ) (op : Option Op) (count : ℕ) (members : List ℕ) (inputs : List (List ℤ)) → takes_op kind ≡ true
    → (is_root_for kind root members && (is_op_for kind op && is_count_for kind count)) ≡ true → length (reduced op count inputs) ≡ count
length-reduced kind root None count members inputs takes form =
    let is_op : is_op_for kind None ≡ true =
    and_left (is_op_for kind None) (is_count_for kind count) (and_right (is_root_for kind root members) (is_op_for kind None && is_count_for kind count) form) in
    absurd (let no : false ≡ true = rw takes at is_op in cc)
length-reduced kind root (Some op) count members inputs takes form = length-folds_of op count inputs

-- the root's ints, where all need them
length-root_input : (call : Call) (root : ℕ) (members : List ℕ) (inputs : List (List ℤ)) (me long : ℕ) → is_member members root ≡ true → AreInputsOf call members inputs me
    → needs call members me root ≡ true → input_length call members root ≡ long → length (input_of members inputs root) ≡ long
length-root_input call root members inputs me long member fit needed is =
    let there : get_or members (place_of members root) 0 ≡ root = at_place_of members root member in
    let within : place_of members root < length members = place_of-within members root member in
    let in_inputs : place_of members root < length inputs = omega (arith, fit.as_many) in
    needed_long call members inputs me (place_of members root) [] fit in_inputs (ap (needs call members me) there ∙ needed)
    ∙ (ap (input_length call members) there ∙ is)

if_eq : (b : Bool) (long : ℕ) (xs : List ℤ) → (b ≡ true → length xs ≡ long) → length (cond b xs []) ≡ cond b long 0
if_eq true long xs h = h refl
if_eq false long xs h = refl

-- a result is as long as its table says
pub length-result_of : (call : Call) (members : List ℕ) (inputs : List (List ℤ)) (me : ℕ) → IsEnterOf call members me → is_member members me ≡ true → AreInputsOf call members inputs me
    → length (result_of call members inputs me) ≡ result_length call members me
length-result_of (Enter comm Barrier root op count ints) members inputs me enter member fit = refl
length-result_of (Enter comm Bcast None op count ints) members inputs me enter member fit = absurd (let no : false ≡ true = enter.form in cc)
length-result_of (Enter comm Bcast (Some root) op count ints) members inputs me enter member fit =
    length-root_input (Enter comm Bcast (Some root) op count ints) root members inputs me count
    (and_left (is_member members root) (is_op_for Bcast op && is_count_for Bcast count) enter.form) fit
    (rw (eq-eqb root root refl) refl) (rw (eq-eqb root root refl) refl)
length-result_of (Enter comm Reduce root op count ints) members inputs me enter member fit =
    if_eq (is_root root me) count (reduced op count inputs) (λ h. length-reduced Reduce root op count members inputs refl enter.form)
length-result_of (Enter comm Allreduce root op count ints) members inputs me enter member fit = length-reduced Allreduce root op count members inputs refl enter.form
length-result_of (Enter comm Gather root op count ints) members inputs me enter member fit =
    if_eq (is_root root me) (length members * count) (pieces_of inputs)
    (λ h. length-flat_map (λ ints. ints) count inputs (all_long (Enter comm Gather root op count ints) members inputs me count fit (λ who. rw h refl) (λ who. refl)) ∙ ap (λ n. n * count) fit.as_many)
length-result_of (Enter comm Allgather root op count ints) members inputs me enter member fit =
    length-flat_map (λ ints. ints) count inputs (all_long (Enter comm Allgather root op count ints) members inputs me count fit (λ who. refl) (λ who. refl)) ∙ ap (λ n. n * count) fit.as_many
length-result_of (Enter comm Scatter None op count ints) members inputs me enter member fit = absurd (let no : false ≡ true = enter.form in cc)
length-result_of (Enter comm Scatter (Some root) op count ints) members inputs me enter member fit =
    let long : length (input_of members inputs root) ≡ length members * count =
    length-root_input (Enter comm Scatter (Some root) op count ints) root members inputs me (length members * count)
    (and_left (is_member members root) (is_op_for Scatter op && is_count_for Scatter count) enter.form) fit
    (rw (eq-eqb root root refl) refl) (rw (eq-eqb root root refl) refl) in
    length-piece_at count (place_of members me) (input_of members inputs root)
    (piece_within members (place_of members me) count (length (input_of members inputs root)) (place_of-within members me member) long)
length-result_of (Enter comm Alltoall root op count ints) members inputs me enter member fit =
    length-flat_map (piece_at count (place_of members me)) count inputs
    (λ k d h. length-piece_at count (place_of members me) (get_or inputs k d)
    (piece_within members (place_of members me) count (length (get_or inputs k d)) (place_of-within members me member)
    (all_long (Enter comm Alltoall root op count ints) members inputs me (length members * count) fit (λ who. refl) (λ who. refl) k d h)))
    ∙ ap (λ n. n * count) fit.as_many
length-result_of (Enter comm Scan root op count ints) members inputs me enter member fit = length-reduced Scan root op count members (take (suc (place_of members me)) inputs) refl enter.form
length-result_of (Enter comm Split root op count ints) members inputs me enter member fit = refl
length-result_of (Enter comm Dup root op count ints) members inputs me enter member fit = refl
length-result_of call members inputs me enter member fit = absurd (let no : false ≡ true = enter.form in cc)
