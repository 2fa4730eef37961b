-- Enters that agree have parts of the same lengths.
use Rattle.std.proofs.Common.{◌&&◌, ◌==◌, ◌∙◌, ◌∷◌, ◌≡◌, List, None, Option, Some, [], ap, get_or, refl, sym, true, ℕ, ℤ}
use Rattle.std.proofs.lemmas.Bool.{and_parts, eqb-true}
use Rattle.mpi_call.specs.declared.call.Call.{Call}
use Rattle.mpi_call.specs.declared.call.Call.TheVariants.{Enter}
use Rattle.mpi_call.specs.declared.call.Kind.{Kind}
use Rattle.mpi_call.specs.declared.call.Kind.TheVariants.{Allgather, Allreduce, Alltoall, Barrier, Bcast, Dup, Gather, Reduce, Scan, Scatter, Split}
use Rattle.mpi_call.specs.declared.call.Op.{Op}
use Rattle.mpi_call.specs.Collectives.{agree, input_length}
use Rattle.mpi_call.specs.Needs.{kind_number, same_op, same_root}

-- the kinds in the order of their numbers
abbrev kind_at : ℕ → Kind
kind_at number = get_or (Barrier ∷ Bcast ∷ Reduce ∷ Allreduce ∷ Gather ∷ Allgather ∷ Scatter ∷ Alltoall ∷ Scan ∷ Split ∷ Dup ∷ []) number Dup

-- a kind's number names it
kind_back : (kind : Kind) → kind_at (kind_number kind) ≡ kind
kind_back Barrier = refl
kind_back Bcast = refl
kind_back Reduce = refl
kind_back Allreduce = refl
kind_back Gather = refl
kind_back Allgather = refl
kind_back Scatter = refl
kind_back Alltoall = refl
kind_back Scan = refl
kind_back Split = refl
kind_back Dup = refl

same_kind : (a b : Kind) → (kind_number a == kind_number b) ≡ true → a ≡ b
same_kind a b h = sym (kind_back a) ∙ (ap kind_at (eqb-true (kind_number a) (kind_number b) h) ∙ kind_back b)

same_root-is : (a b : Option ℕ) → same_root a b ≡ true → a ≡ b
same_root-is None None h = refl
same_root-is None (Some b) h = absurd (cc)
same_root-is (Some a) None h = absurd (cc)
same_root-is (Some a) (Some b) h = ap (λ x. Some x) (eqb-true a b h)

-- the length of what is entered goes by kind, root and count
input_length-parts : (comm comm' : ℕ) (kind : Kind) (root : Option ℕ) (op op' : Option Op) (count : ℕ) (ints ints' : List ℤ) (members : List ℕ) (m : ℕ)
    → input_length (Enter comm kind root op count ints) members m ≡ input_length (Enter comm' kind root op' count ints') members m
input_length-parts comm comm' Barrier root op op' count ints ints' members m = refl
input_length-parts comm comm' Bcast root op op' count ints ints' members m = refl
input_length-parts comm comm' Reduce root op op' count ints ints' members m = refl
input_length-parts comm comm' Allreduce root op op' count ints ints' members m = refl
input_length-parts comm comm' Gather root op op' count ints ints' members m = refl
input_length-parts comm comm' Allgather root op op' count ints ints' members m = refl
input_length-parts comm comm' Scatter root op op' count ints ints' members m = refl
input_length-parts comm comm' Alltoall root op op' count ints ints' members m = refl
input_length-parts comm comm' Scan root op op' count ints ints' members m = refl
input_length-parts comm comm' Split root op op' count ints ints' members m = refl
input_length-parts comm comm' Dup root op op' count ints ints' members m = refl

pub input_length-agree : (a b : Call) (members : List ℕ) (m : ℕ) → agree a b ≡ true
    → input_length a members m ≡ input_length b members m
input_length-agree (Enter comm kind root op count ints) (Enter comm' kind' root' op' count' ints') members m h =
    let one = and_parts (kind_number kind == kind_number kind') (same_root root root' && (same_op op op' && (count == count'))) h in
    let two = and_parts (same_root root root') (same_op op op' && (count == count')) one.1 in
    let three = and_parts (same_op op op') (count == count') two.1 in
    let kinds : kind ≡ kind' = same_kind kind kind' one.0 in
    let roots : root ≡ root' = same_root-is root root' two.0 in
    let counts : count ≡ count' = eqb-true count count' three.1 in
    ap (λ k. input_length (Enter comm k root op count ints) members m) kinds
    ∙ (ap (λ r. input_length (Enter comm kind' r op count ints) members m) roots
    ∙ (ap (λ c. input_length (Enter comm kind' root' op c ints) members m) counts
    ∙ input_length-parts comm comm' kind' root' op op' count' ints ints' members m))
input_length-agree (Enter comm kind root op count ints) b members m h = absurd (cc)
input_length-agree a b members m h = absurd (cc)
