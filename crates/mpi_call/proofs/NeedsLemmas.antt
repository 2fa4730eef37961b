-- Laws of `needs` and `agree`.
use Rattle.std.proofs.Common.{◌≡◌, ℕ, List, Bool, true, false, not, ◌&&◌, ◌||◌, refl, sym, inl, inr, ap₂, ◌∙◌, arith, Option, Some, None}
use Rattle.std.proofs.lemmas.Bool.{eq-eqb, eqb-true, le-leb, cases_Bool}
use Rattle.std.specs.Prelude.{◌==◌}
use Rattle.mpi_call.specs.Calls.{is_enter, makes}
use Rattle.mpi_call.specs.Members.{place_of}
use Rattle.mpi_call.specs.Needs.{agree, is_root, is_uncoloured, kind_number, needs, op_number, same_op, same_root}
use Rattle.mpi_call.specs.declared.call.Call.{Call}
use Rattle.mpi_call.specs.declared.call.Call.TheVariants.{Enter}
use Rattle.mpi_call.specs.declared.call.Kind.TheVariants.{Barrier, Bcast, Reduce, Allreduce, Gather, Allgather, Scatter, Alltoall, Scan, Split, Dup}
use Rattle.mpi_call.specs.declared.call.Op.{Op}

eqb-itself : (a : ℕ) → (a == a) ≡ true
eqb-itself a = eq-eqb a a refl

or-true : (a : Bool) → (a || true) ≡ true
or-true true = refl
or-true false = refl

-- me is always needed
pub needs-me : (call : Call) (members : List ℕ) (me : ℕ) → is_enter call ≡ true → needs call members me me ≡ true
needs-me (Enter comm Barrier root op count ints) members me h = refl
needs-me (Enter comm Bcast root op count ints) members me h = rw (eqb-itself me) (or-true (is_root root me))
needs-me (Enter comm Reduce root op count ints) members me h = rw (eqb-itself me) (or-true (is_root root me))
needs-me (Enter comm Allreduce root op count ints) members me h = refl
needs-me (Enter comm Gather root op count ints) members me h = rw (eqb-itself me) (or-true (is_root root me))
needs-me (Enter comm Allgather root op count ints) members me h = refl
needs-me (Enter comm Scatter root op count ints) members me h = rw (eqb-itself me) (or-true (is_root root me))
needs-me (Enter comm Alltoall root op count ints) members me h = refl
needs-me (Enter comm Scan root op count ints) members me h = le-leb (place_of members me) (place_of members me) (omega arith)
needs-me (Enter comm Split root op count ints) members me h = rw (eqb-itself me) (or-true (not (is_uncoloured (Enter comm Split root op count ints))))
needs-me (Enter comm Dup root op count ints) members me h = refl
needs-me call members me h = absurd (cc)

-- a communicator needs all members, but for an undefined colour
pub needs-coloured : (call : Call) (members : List ℕ) (me who : ℕ) → makes call ≡ true → is_uncoloured call ≡ false → needs call members me who ≡ true
needs-coloured (Enter comm Split root op count ints) members me who h g = rw g refl
needs-coloured (Enter comm Dup root op count ints) members me who h g = refl
needs-coloured call members me who h g = absurd (cc)

-- for an undefined colour it is me alone
pub needs-uncoloured : (call : Call) (members : List ℕ) (me who : ℕ) → is_uncoloured call ≡ true → needs call members me who ≡ (who == me)
needs-uncoloured (Enter comm Split root op count ints) members me who h = rw h refl
needs-uncoloured call members me who h = absurd (cc)

-- equal numbers either way round
pub eqb-sym : (a b : ℕ) → (a == b) ≡ (b == a)
eqb-sym a b =
    elim (cases_Bool (a == b)) [
      | inl h ↦ h ∙ sym (eq-eqb b a (sym (eqb-true a b h)))
      | inr h ↦ elim (cases_Bool (b == a)) [
        | inl g ↦ absurd (let same : (a == b) ≡ true = eq-eqb a b (sym (eqb-true b a g)) in cc)
        | inr g ↦ h ∙ sym g
      ]
    ]

same_root-sym : (a b : Option ℕ) → same_root a b ≡ same_root b a
same_root-sym None None = refl
same_root-sym None (Some b) = refl
same_root-sym (Some a) None = refl
same_root-sym (Some a) (Some b) = eqb-sym a b

same_op-sym : (a b : Option Op) → same_op a b ≡ same_op b a
same_op-sym None None = refl
same_op-sym None (Some b) = refl
same_op-sym (Some a) None = refl
same_op-sym (Some a) (Some b) = eqb-sym (op_number a) (op_number b)

same_root-refl : (a : Option ℕ) → same_root a a ≡ true
same_root-refl None = refl
same_root-refl (Some a) = eqb-itself a

same_op-refl : (a : Option Op) → same_op a a ≡ true
same_op-refl None = refl
same_op-refl (Some a) = eqb-itself (op_number a)

-- each Enter agrees with itself
pub agree-refl : (call : Call) → is_enter call ≡ true → agree call call ≡ true
agree-refl (Enter comm kind root op count ints) h = rw (eqb-itself (kind_number kind), same_root-refl root, same_op-refl op, eqb-itself count) refl
agree-refl call h = absurd (cc)

-- only Enters agree
not_agree : (a b : Call) → is_enter b ≡ false → agree a b ≡ false
not_agree (Enter comm kind root op count ints) (Enter comm' kind' root' op' count' ints') h = absurd (cc)
not_agree (Enter comm kind root op count ints) b h = refl
not_agree a b h = refl

-- agreement goes both ways
pub agree-sym : (a b : Call) → agree a b ≡ agree b a
agree-sym (Enter comm kind root op count ints) (Enter comm' kind' root' op' count' ints') =
    ap₂ (λ x y. x && y) (eqb-sym (kind_number kind) (kind_number kind'))
    (ap₂ (λ x y. x && y) (same_root-sym root root') (ap₂ (λ x y. x && y) (same_op-sym op op') (eqb-sym count count')))
agree-sym (Enter comm kind root op count ints) b = refl
agree-sym a b = sym (not_agree b a refl)

eqb-trans : (a b c : ℕ) → (a == b) ≡ true → (b == c) ≡ true → (a == c) ≡ true
eqb-trans a b c h g = eq-eqb a c (eqb-true a b h ∙ eqb-true b c g)

same_root-trans : (a b c : Option ℕ) → same_root a b ≡ true → same_root b c ≡ true → same_root a c ≡ true
same_root-trans None None None h g = refl
same_root-trans None None (Some c) h g = absurd (cc)
same_root-trans None (Some b) c h g = absurd (cc)
same_root-trans (Some a) None c h g = absurd (cc)
same_root-trans (Some a) (Some b) None h g = absurd (cc)
same_root-trans (Some a) (Some b) (Some c) h g = eqb-trans a b c h g

same_op-trans : (a b c : Option Op) → same_op a b ≡ true → same_op b c ≡ true → same_op a c ≡ true
same_op-trans None None None h g = refl
same_op-trans None None (Some c) h g = absurd (cc)
same_op-trans None (Some b) c h g = absurd (cc)
same_op-trans (Some a) None c h g = absurd (cc)
same_op-trans (Some a) (Some b) None h g = absurd (cc)
same_op-trans (Some a) (Some b) (Some c) h g = eqb-trans (op_number a) (op_number b) (op_number c) h g

-- four tests at once
four : (a b c d : Bool) → (a && (b && (c && d))) ≡ true → (a ≡ true) × (b ≡ true) × (c ≡ true) × (d ≡ true)
four true true true true h = (refl, refl, refl, refl)
four true true true false h = absurd (cc)
four true true false d h = absurd (cc)
four true false c d h = absurd (cc)
four false b c d h = absurd (cc)

-- and passes from one Enter to the next
pub agree-trans : (a b c : Call) → agree a b ≡ true → agree b c ≡ true → agree a c ≡ true
agree-trans (Enter comm kind root op count ints) (Enter comm' kind' root' op' count' ints') (Enter comm'' kind'' root'' op'' count'' ints'') h g =
    let p = four (kind_number kind == kind_number kind') (same_root root root') (same_op op op') (count == count') h in
    let q = four (kind_number kind' == kind_number kind'') (same_root root' root'') (same_op op' op'') (count' == count'') g in
    rw (
      eqb-trans (kind_number kind) (kind_number kind') (kind_number kind'') p.0 q.0,
      same_root-trans root root' root'' p.1 q.1,
      same_op-trans op op' op'' p.2 q.2,
      eqb-trans count count' count'' p.3 q.3,
    ) refl
agree-trans (Enter comm kind root op count ints) (Enter comm' kind' root' op' count' ints') c h g = absurd (cc)
agree-trans a b c h g = absurd (cc)
