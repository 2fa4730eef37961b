-- Codes that are added to a set.
use Rattle.std.proofs.Common.{◌≡◌, ◌++◌, ◌∷◌, Bool, MatchBool, ℤ, List, [], false, if◌then◌else◌, inl, inr, map, not, refl, sym, subst, true}
use Rattle.std.specs.List.{list_any}
use Rattle.std.proofs.lemmas.Bool.{or_cases}
use Rattle.indexmap.specs.IndexSet.{insert_key}
use Rattle.mpi_call.specs.Lists.{IsIn}
use Rattle.run_states.specs.declared.code.StateCode.{StateCode}
use Rattle.explore.proofs.Trying.{map_append}

abbrev pub numbers : StateCode → List ℤ
numbers code = code.numbers.items

any_in : (eq : StateCode → StateCode → Bool) → ((one other : StateCode) → eq one other ≡ true → numbers one ≡ numbers other) → (codes : List StateCode) (code : StateCode)
    → list_any (eq code) codes ≡ true → IsIn (numbers code) (map numbers codes)
any_in eq same [] code h = absurd (cc)
any_in eq same (one ∷ codes) code h =
    elim (or_cases (eq code one) (list_any (eq code) codes) h) [
      | inl t ↦ inl (sym (same code one t))
      | inr t ↦ inr (any_in eq same codes code t)
    ]

abbrev pub IsInserted : List (List ℤ) → List (List ℤ) → List ℤ → Bool → Type 0
IsInserted old new code is_new = MatchBool is_new (new ≡ old ++ code ∷ []) ((new ≡ old) × IsIn code old)

inserted_by : (eq : StateCode → StateCode → Bool) → ((one other : StateCode) → eq one other ≡ true → numbers one ≡ numbers other) → (old : List StateCode) (code : StateCode) (has : Bool)
    → list_any (eq code) old ≡ has → IsInserted (map numbers old) (map numbers (if has then old else old ++ code ∷ [])) (numbers code) (not has)
inserted_by eq same old code true h = (refl, any_in eq same old code h)
inserted_by eq same old code false h = map_append numbers old (code ∷ [])

pub code_inserted : (eq : StateCode → StateCode → Bool) → ((one other : StateCode) → eq one other ≡ true → numbers one ≡ numbers other) → (old new : List StateCode) (code : StateCode) (is_new : Bool)
    → is_new ≡ not (list_any (eq code) old) → new ≡ insert_key eq old code → IsInserted (map numbers old) (map numbers new) (numbers code) is_new
code_inserted eq same old new code is_new added keys =
    let F : Bool → Type 0 = λ b. IsInserted (map numbers old) (map numbers new) (numbers code) b in
    let G : List StateCode → Type 0 = λ l. IsInserted (map numbers old) (map numbers l) (numbers code) (not (list_any (eq code) old)) in
    subst F (sym added) (subst G (sym keys) (inserted_by eq same old code (list_any (eq code) old) refl))
