-- Facts about the Enters of one instance.
use Rattle.std.proofs.Common.{◌≡◌, ℕ, suc, ◌+◌, ◌<◌, ◌≤◌, ℤ, List, [], ◌∷◌, ◌++◌, length, get_or, drop, replicate, map, take, true, not, refl, sym, inl, inr, ap, ap₂, ◌∙◌, arith, None}
use Rattle.std.proofs.lemmas.Bool.{cases_Bool}
use Rattle.std.proofs.lemmas.List.{drop_all, get_or-replicate, map_more}
use Rattle.std.specs.List.{find}
use Rattle.std.specs.Prelude.{◌==◌, option_map}
use Rattle.mpi_call.proofs.NeedsLemmas.{agree-trans}
use Rattle.mpi_call.specs.Calls.{is_enter}
use Rattle.mpi_call.specs.Needs.{agree}
use Rattle.mpi_call.specs.declared.call.Call.{Call}
use Rattle.mpi_call.specs.declared.call.Call.TheVariants.{Enter}
use Rattle.mpi_call.specs.Lists.{IsIn}
use Rattle.collectives.specs.Entrants.{AllAgree, first_against, ints_at, ints_by, enter_place}
use Rattle.collectives.specs.declared.entrants.Entrant.{Entrant}

-- only an Enter agrees with itself
agree-enter : (call : Call) → agree call call ≡ true → is_enter call ≡ true
agree-enter (Enter comm kind root op count ints) h = refl
agree-enter call h = absurd (cc)

pub first_is_enter : (entrants : List Entrant) (first : Entrant) → AllAgree entrants → 1 ≤ length entrants → first ≡ get_or entrants 0 first → is_enter first.call ≡ true
first_is_enter [] first all some is = absurd (omega arith)
first_is_enter (x ∷ others) first all some is =
    agree-enter first.call (ap₂ (λ (a b : Entrant). agree a.call b.call) is is ∙ all.pairs x x (inl refl) (inl refl))

none_found : (call : Call) (entrants : List Entrant) → ((e : Entrant) → IsIn e entrants → agree e.call call ≡ true) → find (λ (e : Entrant). not (agree e.call call)) entrants ≡ None
none_found call [] all = refl
none_found call (e ∷ others) all = rw (all e (inl refl)) (none_found call others (λ x h. all x (inr h)))

-- where the first agrees, all do
pub none_against : (entrants : List Entrant) (call : Call) (first : Entrant) → AllAgree entrants → 1 ≤ length entrants → first ≡ get_or entrants 0 first
    → agree first.call call ≡ true → None ≡ first_against entrants call
none_against [] call first all some is h = absurd (omega arith)
none_against (x ∷ others) call first all some is h =
    let head : agree x.call call ≡ true = ap (λ (a : Entrant). agree a.call call) (sym is) ∙ h in
    let none : find (λ (e : Entrant). not (agree e.call call)) (x ∷ others) ≡ None =
    none_found call (x ∷ others) (λ e among. agree-trans e.call x.call call (all.pairs e x among (inl refl)) head) in
    sym (ap (option_map (λ (e : Entrant). e.rank)) none)

-- the ints at a rank's place are what it entered
pub ints_at-place_by : (entrants : List Entrant) (rank : ℕ) → ints_at entrants (enter_place entrants rank) ≡ ints_by entrants rank
ints_at-place_by [] rank = refl
ints_at-place_by (e ∷ others) rank =
    elim (cases_Bool (e.rank == rank)) [
      | inl same ↦ rw same refl
      | inr other ↦
          let one_more : 1 + enter_place others rank ≡ suc (enter_place others rank) = omega arith in
          rw (other, one_more) (ints_at-place_by others rank)
    ]

-- the table of places begins with no place for any rank
pub places_at_first : (entrants : List Entrant) (rank : ℕ) → rank < 256
    → get_or (replicate 256 (length entrants)) rank 0 ≡ length entrants + enter_place (drop (length entrants) entrants) rank
places_at_first entrants rank h =
    let none : drop (length entrants) entrants ≡ [] = drop_all (length entrants) entrants (omega arith) in
    let same : length entrants ≡ length entrants + 0 = omega arith in
    get_or-replicate 256 rank (length entrants) 0 h ∙ (same ∙ ap (λ rest. length entrants + enter_place rest rank) (sym none))

-- one more member's ints
pub inputs_step : (entrants : List Entrant) (members places : List ℕ) (inputs new : List (List ℤ)) (i : ℕ) → i < length members
    → ((rank : ℕ) → rank < 256 → get_or places rank 0 ≡ enter_place entrants rank) → get_or members i 0 < 256
    → inputs ≡ map (ints_by entrants) (take i members) → new ≡ inputs ++ ints_at entrants (get_or places (get_or members i 0) 0) ∷ []
    → new ≡ map (ints_by entrants) (take (i + 1) members)
inputs_step entrants members places inputs new i within known byte so_far is =
    let here : ints_at entrants (get_or places (get_or members i 0) 0) ≡ ints_by entrants (get_or members i 0) =
    ap (ints_at entrants) (known (get_or members i 0) byte) ∙ ints_at-place_by entrants (get_or members i 0) in
    is ∙ (ap₂ (λ front ints. front ++ ints ∷ []) so_far here ∙ sym (map_more (ints_by entrants) members i 0 within))
