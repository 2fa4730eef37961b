-- How long the ints are that a result is made of.
use Rattle.std.proofs.Common.{◌≡◌, ℕ, suc, ◌+◌, ◌*◌, ◌<◌, ◌≤◌, min, ℤ, List, [], length, get_or, take, Bool, true, false, ◌&&◌, sym, refl, subst, ap, ◌∙◌, arith, Option, Some, None}
use Rattle.std.proofs.lemmas.Bool.{eq-eqb, le-leb}
use Rattle.std.proofs.lemmas.List.{get_or_default, get_or-take, length-take}
use Rattle.std.proofs.Math.Nat.{mul-le-mul_right}
use Rattle.std.specs.Prelude.{◌==◌}
use Rattle.mpi_call.proofs.MemberLemmas.{place_of-within, at_place_of, place_of_at}
use Rattle.mpi_call.specs.Members.{is_member, place_of}
use Rattle.mpi_call.specs.Needs.{needs, input_length, is_root, has_form, is_count_for, is_op_for, IsEnterOf}
use Rattle.mpi_call.specs.Results.{root_input, AreInputsOf}
use Rattle.mpi_call.specs.declared.call.Call.{Call}
use Rattle.mpi_call.specs.declared.call.Call.TheVariants.{Enter}
use Rattle.mpi_call.specs.declared.call.Kind.{Kind}
use Rattle.mpi_call.specs.declared.call.Kind.TheVariants.{Reduce, Allreduce, Scatter, Alltoall, Scan}
use Rattle.mpi_call.specs.declared.call.Op.{Op}

-- a needed member's ints are as long as that member enters
pub needed_long : (call : Call) (members : List ℕ) (inputs : List (List ℤ)) (me k : ℕ) (d : List ℤ) → AreInputsOf call members inputs me
    → k < length inputs → needs call members me (get_or members k 0) ≡ true
    → length (get_or inputs k d) ≡ input_length call members (get_or members k 0)
needed_long call members inputs me k d fit within needed =
    let place : k < length members = omega (arith, fit.as_many) in
    ap length (get_or_default inputs k d [] within) ∙ fit.lengths k place needed

-- where all members are needed, all enter the same count
pub all_long : (call : Call) (members : List ℕ) (inputs : List (List ℤ)) (me count : ℕ) → AreInputsOf call members inputs me
    → ((who : ℕ) → needs call members me who ≡ true) → ((who : ℕ) → input_length call members who ≡ count)
    → (k : ℕ) (d : List ℤ) → k < length inputs → length (get_or inputs k d) ≡ count
all_long call members inputs me count fit needed long k d within =
    needed_long call members inputs me k d fit within (needed (get_or members k 0)) ∙ long (get_or members k 0)

pub allreduce_long : (call : Call) (comm : ℕ) (kind : Kind) (root : Option ℕ) (op : Option Op) (count : ℕ) (ints : List ℤ) (members : List ℕ) (inputs : List (List ℤ)) (me : ℕ)
    → call ≡ Enter comm kind root op count ints → kind ≡ Allreduce → AreInputsOf call members inputs me
    → (k : ℕ) (d : List ℤ) → k < length inputs → length (get_or inputs k d) ≡ count
allreduce_long call comm kind root op count ints members inputs me is is_kind fit =
    let whole : call ≡ Enter comm Allreduce root op count ints = is ∙ ap (λ (kind : Kind). Enter comm kind root op count ints) is_kind in
    let P : Call → Type 0 = λ call. AreInputsOf call members inputs me in
    all_long (Enter comm Allreduce root op count ints) members inputs me count (subst P whole fit) (λ who. refl) (λ who. refl)

pub reduce_long : (call : Call) (comm : ℕ) (kind : Kind) (root : Option ℕ) (op : Option Op) (count : ℕ) (ints : List ℤ) (members : List ℕ) (inputs : List (List ℤ)) (me : ℕ)
    → call ≡ Enter comm kind root op count ints → kind ≡ Reduce → is_root root me ≡ true → AreInputsOf call members inputs me
    → (k : ℕ) (d : List ℤ) → k < length inputs → length (get_or inputs k d) ≡ count
reduce_long call comm kind root op count ints members inputs me is is_kind at_root fit =
    let whole : call ≡ Enter comm Reduce root op count ints = is ∙ ap (λ (kind : Kind). Enter comm kind root op count ints) is_kind in
    let P : Call → Type 0 = λ call. AreInputsOf call members inputs me in
    all_long (Enter comm Reduce root op count ints) members inputs me count (subst P whole fit) (λ who. rw at_root refl) (λ who. refl)

-- a piece lies within as many pieces as there are members
pub piece_within : (members : List ℕ) (place count long : ℕ) → place < length members → long ≡ length members * count → place * count + count ≤ long
piece_within members place count long within is =
    let whole : suc place * count ≤ length members * count = mul-le-mul_right count within in
    let one_more : suc place * count ≡ place * count + count = grind arith in
    omega arith

pub alltoall_long : (call : Call) (comm : ℕ) (kind : Kind) (root : Option ℕ) (op : Option Op) (count : ℕ) (ints : List ℤ) (members : List ℕ) (inputs : List (List ℤ)) (me : ℕ)
    → call ≡ Enter comm kind root op count ints → kind ≡ Alltoall → is_member members me ≡ true → AreInputsOf call members inputs me
    → (k : ℕ) (d : List ℤ) → k < length inputs → place_of members me * count + count ≤ length (get_or inputs k d)
alltoall_long call comm kind root op count ints members inputs me is is_kind member fit k d within =
    let whole : call ≡ Enter comm Alltoall root op count ints = is ∙ ap (λ (kind : Kind). Enter comm kind root op count ints) is_kind in
    let P : Call → Type 0 = λ call. AreInputsOf call members inputs me in
    piece_within members (place_of members me) count (length (get_or inputs k d)) (place_of-within members me member)
    (all_long (Enter comm Alltoall root op count ints) members inputs me (length members * count) (subst P whole fit) (λ who. refl) (λ who. refl) k d within)

pub scan_long : (call : Call) (comm : ℕ) (kind : Kind) (root : Option ℕ) (op : Option Op) (count : ℕ) (ints : List ℤ) (members : List ℕ) (inputs : List (List ℤ)) (me : ℕ)
    → call ≡ Enter comm kind root op count ints → kind ≡ Scan → is_member members me ≡ true → AreInputsOf call members inputs me
    → (k : ℕ) (d : List ℤ) → k < length (take (place_of members me + 1) inputs) → length (get_or (take (place_of members me + 1) inputs) k d) ≡ count
scan_long call comm kind root op count ints members inputs me is is_kind member fit k d within =
    let whole : call ≡ Enter comm Scan root op count ints = is ∙ ap (λ (kind : Kind). Enter comm kind root op count ints) is_kind in
    let P : Call → Type 0 = λ call. AreInputsOf call members inputs me in
    let long : length (take (place_of members me + 1) inputs) ≡ min (place_of members me + 1) (length inputs) = length-take (place_of members me + 1) inputs in
    let up_to_me : k < place_of members me + 1 = omega arith in
    let in_all : k < length inputs = omega arith in
    let in_members : k < length members = omega (arith, fit.as_many) in
    let before : place_of members (get_or members k 0) ≤ k = place_of_at members k in_members in
    let not_after : place_of members (get_or members k 0) ≤ place_of members me = omega arith in
    ap length (get_or-take (place_of members me + 1) inputs k d up_to_me)
    ∙ needed_long (Enter comm Scan root op count ints) members inputs me k d (subst P whole fit) in_all (le-leb (place_of members (get_or members k 0)) (place_of members me) not_after)

pub and_left : (a b : Bool) → (a && b) ≡ true → a ≡ true
and_left true b h = refl
and_left false b h = absurd (cc)

pub and_right : (a b : Bool) → (a && b) ≡ true → b ≡ true
and_right true b h = h
and_right false b h = absurd (cc)

-- what the root of a scatter enters
scatter_root : (comm root : ℕ) (op : Option Op) (count : ℕ) (ints : List ℤ) (members : List ℕ) (inputs : List (List ℤ)) (me : ℕ)
    → is_member members root ≡ true → AreInputsOf (Enter comm Scatter (Some root) op count ints) members inputs me
    → length (get_or inputs (place_of members root) []) ≡ length members * count
scatter_root comm root op count ints members inputs me member fit =
    let call : Call = Enter comm Scatter (Some root) op count ints in
    let within : place_of members root < length members = place_of-within members root member in
    let in_inputs : place_of members root < length inputs = omega (arith, fit.as_many) in
    let there : get_or members (place_of members root) 0 ≡ root = at_place_of members root member in
    let same : (root == root) ≡ true = eq-eqb root root refl in
    let needed : needs call members me (get_or members (place_of members root) 0) ≡ true = rw (there, same) refl in
    let long : input_length call members (get_or members (place_of members root) 0) ≡ length members * count = rw (there, same) refl in
    needed_long call members inputs me (place_of members root) [] fit in_inputs needed ∙ long

scatter_long_of : (comm : ℕ) (root : Option ℕ) (op : Option Op) (count : ℕ) (ints : List ℤ) (members : List ℕ) (inputs : List (List ℤ)) (me : ℕ)
    → is_member members me ≡ true → has_form (Enter comm Scatter root op count ints) members ≡ true → AreInputsOf (Enter comm Scatter root op count ints) members inputs me
    → place_of members me * count + count ≤ length (root_input root members inputs)
scatter_long_of comm None op count ints members inputs me member form fit = absurd (cc)
scatter_long_of comm (Some root) op count ints members inputs me member form fit =
    let there : is_member members root ≡ true = and_left (is_member members root) (is_op_for Scatter op && is_count_for Scatter count) form in
    piece_within members (place_of members me) count (length (get_or inputs (place_of members root) [])) (place_of-within members me member)
    (scatter_root comm root op count ints members inputs me there fit)

pub scatter_long : (call : Call) (comm : ℕ) (kind : Kind) (root : Option ℕ) (op : Option Op) (count : ℕ) (ints : List ℤ) (members : List ℕ) (inputs : List (List ℤ)) (me : ℕ)
    → call ≡ Enter comm kind root op count ints → kind ≡ Scatter → is_member members me ≡ true → IsEnterOf call members me → AreInputsOf call members inputs me
    → place_of members me * count + count ≤ length (root_input root members inputs)
scatter_long call comm kind root op count ints members inputs me is is_kind member form fit =
    let whole : call ≡ Enter comm Scatter root op count ints = is ∙ ap (λ (kind : Kind). Enter comm kind root op count ints) is_kind in
    let P : Call → Type 0 = λ call. AreInputsOf call members inputs me in
    scatter_long_of comm root op count ints members inputs me member (sym (ap (λ call. has_form call members) whole) ∙ form.form) (subst P whole fit)
