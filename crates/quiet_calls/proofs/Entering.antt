-- The Enter of a collective that makes no communicator can be made before another rank's event that completes all it lists, if none disagrees with it.
use Rattle.std.proofs.Common.{◌≡◌, ◌<◌, ◌∙◌, ◌++◌, ◌==◌, ◌||◌, ◌∷◌, if◌then◌else◌, ℕ, ℤ, List, [], Some, None, Result, Ok, Err, Bool, true, false, append_assoc, inl, inr, length, not, slice_get, take, refl, ap, sym, subst}
use Rattle.std.proofs.Math.Seq.{take-append_seam}
use Rattle.std.proofs.lemmas.Bool.{and_parts, eqb-true, or_cases, or_parts}
use Rattle.std.specs.List.{list_any}
use Rattle.mpi_call.specs.declared.call.Call.{Call}
use Rattle.mpi_call.specs.declared.call.Call.TheVariants.{Send, Post, Enter, Take, Peek, Abort, Trap, End}
use Rattle.mpi_call.specs.declared.call.Kind.{Kind}
use Rattle.mpi_call.specs.declared.call.Kind.TheVariants.{Barrier, Bcast, Reduce, Allreduce, Gather, Allgather, Scatter, Alltoall, Scan, Split, Dup}
use Rattle.mpi_call.specs.declared.reply.Reply.{Reply}
use Rattle.mpi_call.specs.Calls.{comm_of, is_enter, makes}
use Rattle.mpi_call.specs.Collectives.{agree}
use Rattle.mpi_call.specs.Members.{is_member}
use Rattle.mpi_call.specs.Needs.{kind_number}
use Rattle.run_model.specs.declared.event.Event.{Event}
use Rattle.run_model.specs.Choice.{choice, suits}
use Rattle.run_model.specs.Communicators.{Entered, count_on, enter_at, instance_of, is_on, known_first}
use Rattle.run_model.specs.Due.{disagrees, is_mismatched}
use Rattle.run_model.specs.Lists.{world}
use Rattle.run_model.specs.Numbers.{origins_from}
use Rattle.run_model.specs.Views.{View, is_start, starts_of, view_of}
use Rattle.run_model.proofs.Choosing.{choice_is_none}
use Rattle.run_model.proofs.Enters.{own_at, take_all}
use Rattle.run_model.proofs.MemberLists.{AreMembers-world}
use Rattle.run_model.proofs.Prefixes.{Begins-more}
use Rattle.run_model.proofs.StartLemmas.{enter_at-kept, slice_get-last, starts_of-append}
use Rattle.run_model.proofs.Views.{option_cases, view_of-mine}

-- 1. an Enter suits nothing and is suited by nothing

pub enter_suits : (me : ℕ) (call : Call) (owner : ℕ) (start : Call) → is_enter call ≡ true → suits me call owner start ≡ false
enter_suits me (Enter comm kind root op count ints) owner start h = refl
enter_suits me call owner start h = absurd (cc)

pub suits_enter : (me : ℕ) (call : Call) (owner : ℕ) (start : Call) → is_enter start ≡ true → suits me call owner start ≡ false
suits_enter me (Send c dest t ints sync) owner (Enter comm kind root op count ints') h = refl
suits_enter me (Post c source t room) owner (Enter comm kind root op count ints) h = refl
suits_enter me (Peek c source t wait) owner (Enter comm kind root op count ints) h = refl
suits_enter me (Enter c kind' root' op' count' ints') owner (Enter comm kind root op count ints) h = refl
suits_enter me (Take starts mode) owner (Enter comm kind root op count ints) h = refl
suits_enter me (Abort code) owner (Enter comm kind root op count ints) h = refl
suits_enter me (Trap fault) owner (Enter comm kind root op count ints) h = refl
suits_enter me End owner (Enter comm kind root op count ints) h = refl
suits_enter me call owner start h = absurd (cc)

pub enter_choice : (before : List Event) (me : ℕ) (call : Call) → is_enter call ≡ true → choice before me call ≡ None
enter_choice before me call h =
    choice_is_none before me call (λ at o. (let no : true ≡ false = sym o.suited ∙ enter_suits me call o.name.0 o.start h in cc))

-- 2. it makes no communicator

pub enter_makes : (gathered : Result (List (List ℤ)) ℕ) (instance : ℕ) (call : Call) → makes call ≡ false → origins_from gathered instance call ≡ []
enter_makes (Err missing) instance call h = refl
enter_makes (Ok inputs) instance (Enter comm Split root op count ints) h = absurd (cc)
enter_makes (Ok inputs) instance (Enter comm Dup root op count ints) h = absurd (cc)
enter_makes (Ok inputs) instance (Enter comm kind root op count ints) h = refl
enter_makes (Ok inputs) instance call h = refl

makes_kind : (comm : ℕ) (kind : Kind) (root : _) (op : _) (count : ℕ) (ints : List ℤ)
    → makes (Enter comm kind root op count ints) ≡ ((kind_number kind == kind_number Split) || (kind_number kind == kind_number Dup))
makes_kind comm Barrier root op count ints = refl
makes_kind comm Bcast root op count ints = refl
makes_kind comm Reduce root op count ints = refl
makes_kind comm Allreduce root op count ints = refl
makes_kind comm Gather root op count ints = refl
makes_kind comm Allgather root op count ints = refl
makes_kind comm Scatter root op count ints = refl
makes_kind comm Alltoall root op count ints = refl
makes_kind comm Scan root op count ints = refl
makes_kind comm Split root op count ints = refl
makes_kind comm Dup root op count ints = refl

-- Enters that agree make communicators both, or neither does
pub agree_makes : (a b : Call) → agree a b ≡ true → makes a ≡ makes b
agree_makes (Enter comm kind root op count ints) (Enter comm' kind' root' op' count' ints') h =
    let number : kind_number kind ≡ kind_number kind' = eqb-true (kind_number kind) (kind_number kind') (and_parts (kind_number kind == kind_number kind') _ h).0 in
    makes_kind comm kind root op count ints
    ∙ (ap (λ (k : ℕ). (k == kind_number Split) || (k == kind_number Dup)) number ∙ sym (makes_kind comm' kind' root' op' count' ints'))
agree_makes a b h = absurd (cc)

-- 3. who disagrees

any_no : (f : ℕ → Bool) (xs : List ℕ) (m : ℕ) → list_any f xs ≡ false → is_member xs m ≡ true → f m ≡ false
any_no f [] m h there = absurd (cc)
any_no f (x ∷ xs) m h there =
    let parts = or_parts (f x) (list_any f xs) h in
    elim (or_cases (x == m) (is_member xs m) there) [
      | inl t ↦ (let F : ℕ → Type 0 = λ y. f y ≡ false in subst F (eqb-true x m t) parts.0)
      | inr later ↦ any_no f xs m parts.1 later
    ]

pub none_any : (f g : ℕ → Bool) (xs : List ℕ) → ((m : ℕ) → f m ≡ false → g m ≡ false) → list_any f xs ≡ false → list_any g xs ≡ false
none_any f g [] back h = refl
none_any f g (x ∷ xs) back h =
    let parts = or_parts (f x) (list_any f xs) h in
    ap (λ (b : Bool). b || list_any g xs) (back x parts.0) ∙ none_any f g xs back parts.1

-- whether one member's Enter disagrees
abbrev pub one_disagrees : ℕ → List Event → Call → ℕ → ℕ → Bool
one_disagrees n before call instance m = disagrees call (enter_at n (view_of before m) (comm_of call) instance)

pub next_instance : (own : View) (comm : ℕ) → instance_of own (length (starts_of own)) comm ≡ count_on comm (starts_of own)
next_instance own comm = ap (count_on comm) (take_all (starts_of own))

-- what is there stays
disagrees_front : (n : ℕ) (before more : List Event) (call : Call) (instance m : ℕ) → one_disagrees n (before ++ more) call instance m ≡ false → one_disagrees n before call instance m ≡ false
disagrees_front n before more call instance m h =
    elim (option_cases (enter_at n (view_of before m) (comm_of call) instance)) [
      | inl some ↦
          let kept : enter_at n (view_of (before ++ more) m) (comm_of call) instance ≡ Some some.0 =
          (enter_at-kept n (view_of before m) (view_of (before ++ more) m) (comm_of call) instance (Begins-more before more m)).kept some.0 some.1 in
          ap (disagrees call) some.1 ∙ (sym (ap (disagrees call) kept) ∙ h)
      | inr none ↦ ap (disagrees call) none
    ]

pub mismatched_front : (n : ℕ) (before more : List Event) (own : View) (call : Call) → is_mismatched n (before ++ more) own call ≡ false → is_mismatched n before own call ≡ false
mismatched_front n before more own call h =
    let instance : ℕ = instance_of own (length (starts_of own)) (comm_of call) in
    none_any (one_disagrees n (before ++ more) call instance) (one_disagrees n before call instance) (world n 0)
    (λ m. disagrees_front n before more call instance m) h

-- an Enter that was made is found
enter_mine : (n : ℕ) (view : View) (call : Call) (reply : Reply) (comm : ℕ) → is_start (call, reply) ≡ true → is_on comm call ≡ true
    → (entered : Entered) × (enter_at n (view ++ (call, reply) ∷ []) comm (count_on comm (starts_of view)) ≡ Some entered) × (entered.call ≡ call)
enter_mine n view call reply comm starts on =
    let after : View = view ++ (call, reply) ∷ [] in
    let all : starts_of after ≡ starts_of view ++ call ∷ [] = starts_of-append view ((call, reply) ∷ []) ∙ ap (λ (b : Bool). starts_of view ++ (if b then call ∷ [] else [])) starts in
    let k : ℕ = length (starts_of view) in
    let here : slice_get (starts_of after) k ≡ Some call = ap (λ l. slice_get l k) all ∙ slice_get-last (starts_of view) call in
    let front : take k (starts_of after) ≡ starts_of view = ap (take k) all ∙ take-append_seam (starts_of view) (call ∷ []) in
    let o = own_at comm 0 (known_first n comm) after k call here on in
    let F : List Call → Type 0 = λ l. enter_at n after comm (count_on comm l) ≡ Some o.0 in
    (o.0, subst F front o.1, o.2)

not_false : (b : Bool) → not b ≡ false → b ≡ true
not_false true h = refl
not_false false h = absurd (cc)

-- an Enter that agrees with it: of its instance, in a history in which none disagrees
pub agrees_in : (n : ℕ) (before after : List Event) (x : Event) (own : View) (call : Call) → is_mismatched n (before ++ x ∷ after) own call ≡ false → x.rank < n
    → is_start (x.call, x.reply) ≡ true → is_on (comm_of call) x.call ≡ true
    → count_on (comm_of call) (starts_of (view_of before x.rank)) ≡ count_on (comm_of call) (starts_of own) → agree call x.call ≡ true
agrees_in n before after x own call calm below starts on same =
    let C : ℕ = comm_of call in
    let instance : ℕ = instance_of own (length (starts_of own)) C in
    let I : List Event → Type 0 = λ l. is_mismatched n l own call ≡ false in
    let short : is_mismatched n (before ++ x ∷ []) own call ≡ false = mismatched_front n (before ++ x ∷ []) after own call (subst I (sym (append_assoc before (x ∷ []) after)) calm) in
    let one : one_disagrees n (before ++ x ∷ []) call instance x.rank ≡ false =
    any_no (one_disagrees n (before ++ x ∷ []) call instance) (world n 0) x.rank short (AreMembers-world n x.rank below).has_me in
    let e = enter_mine n (view_of before x.rank) x.call x.reply C starts on in
    let at : count_on C (starts_of (view_of before x.rank)) ≡ instance = same ∙ sym (next_instance own C) in
    let V : View → Type 0 = λ v. enter_at n v C instance ≡ Some e.0 in
    let J : ℕ → Type 0 = λ i. enter_at n (view_of before x.rank ++ (x.call, x.reply) ∷ []) C i ≡ Some e.0 in
    let there : enter_at n (view_of (before ++ x ∷ []) x.rank) C instance ≡ Some e.0 = subst V (sym (view_of-mine before x x.rank refl)) (subst J at e.1) in
    let no : not (agree call e.0.call) ≡ false = sym (ap (disagrees call) there) ∙ one in
    let yes : agree call e.0.call ≡ true = not_false (agree call e.0.call) no in
    let A : Call → Type 0 = λ c. agree call c ≡ true in
    subst A e.2 yes
