-- Facts about the board as a list of communicators.
use Rattle.std.proofs.Common.{◌≡◌, ◌≢◌, ℕ, zero, suc, ◌≤◌, ◌-◌, List, [], ◌∷◌, ◌++◌, ◌&&◌, Option, Some, None, cond, get_or, length, map, refl, sym, inl, inr, ap, ap₂, ◌∙◌, subst, arith, ◌⊎◌}
use Rattle.std.proofs.lemmas.Bool.{cases_Bool, cases_eq, cases_lt, eq-eqb, eqb-true}
use Rattle.std.proofs.lemmas.List.FromFn.{get_or-map-range_with_len, length-map-range_with_len}
use Rattle.std.proofs.lemmas.Map.Entries.{lookup_tail}
use Rattle.std.specs.Map.{lookup}
use Rattle.std.specs.Prelude.{◌==◌, nat_eq, nat_lt, unwrap_or}
use Rattle.mpi_call.specs.Calls.{comm_of}
use Rattle.mpi_call.specs.declared.call.Call.{Call}
use Rattle.collectives.proofs.InstanceLemmas.{neq-eqb}
use Rattle.collectives.specs.Boards.{enters_of, enters_made, board_answer, instances_on, stages_of, trim, trim_before, GainsEnter, IsBoardAfter, IsOrderly, IsTrimmed, LosesEnter, Stages}
use Rattle.collectives.specs.Entrants.{AllAgree, first_against, has_entered, without_rank}
use Rattle.collectives.specs.InstanceTable.{HaveSameInstances, HaveSameBeside, InstancesByCommunicator, above_all, instances_in, instance_lists}
use Rattle.collectives.specs.Instances.{instance_answer, enters_by, instance_enters, joins_unless, AreOrderly, Gains, IsInstancesAfter, Loses}
use Rattle.collectives.specs.declared.entrants.Entrant.{Entrant}
use Rattle.collectives.specs.declared.instances.Entered.{Entered}
use Rattle.collectives.specs.declared.instances.Entered.TheVariants.{Joined, Disagrees}

-- lists without the empty ones at the end read the same
read_before : {A : Type 0} (list : List A) (lists : List (List A)) (k : ℕ) → get_or (trim_before list lists) k [] ≡ get_or (list ∷ lists) k []
read_before [] [] zero = refl
read_before [] [] (suc k) = refl
read_before [] (other ∷ lists) k = refl
read_before (a ∷ list) lists k = refl

read_trim : {A : Type 0} (lists : List (List A)) (k : ℕ) → get_or (trim lists) k [] ≡ get_or lists k []
read_trim [] k = refl
read_trim (list ∷ lists) zero = read_before list (trim lists) zero
read_trim (list ∷ lists) (suc k) = read_before list (trim lists) (suc k) ∙ read_trim lists k

read_each : (stages : Stages) (comm : ℕ) → get_or (map trim stages) comm [] ≡ trim (get_or stages comm [])
read_each [] comm = refl
read_each (stage ∷ stages) zero = refl
read_each (stage ∷ stages) (suc comm) = read_each stages comm

-- and are the same where they read the same
trim_same : {A : Type 0} (one two : List (List A)) → ((k : ℕ) → get_or one k [] ≡ get_or two k []) → trim one ≡ trim two
trim_same [] [] same = refl
trim_same {A} [] (list ∷ lists) same = ap₂ (λ (l : List A) (r : List (List A)). trim_before l r) (same 0) (trim_same [] lists (λ k. same (suc k)))
trim_same {A} (list ∷ lists) [] same = ap₂ (λ (l : List A) (r : List (List A)). trim_before l r) (same 0) (trim_same lists [] (λ k. same (suc k)))
trim_same {A} (list ∷ lists) (other ∷ others) same = ap₂ (λ (l : List A) (r : List (List A)). trim_before l r) (same 0) (trim_same lists others (λ k. same (suc k)))

pub stages_same : (one two : Stages) → ((comm instance : ℕ) → enters_of one comm instance ≡ enters_of two comm instance) → stages_of one ≡ stages_of two
stages_same one two same =
    trim_same (map trim one) (map trim two)
    (λ comm. read_each one comm ∙ (trim_same (instances_on one comm) (instances_on two comm) (same comm) ∙ sym (read_each two comm)))

-- what is seen of the Enters
instances_seen : (stages : Stages) (comm : ℕ) → instances_on (stages_of stages) comm ≡ trim (instances_on stages comm)
instances_seen stages comm = read_trim (map trim stages) comm ∙ read_each stages comm

pub enters_seen : (stages : Stages) (comm instance : ℕ) → enters_of (stages_of stages) comm instance ≡ enters_of stages comm instance
enters_seen stages comm instance =
    ap (λ (all : List (List Entrant)). instance_enters all instance) (instances_seen stages comm) ∙ read_trim (instances_on stages comm) instance

count_before : (entrants : List Entrant) (others : List (List Entrant)) (rank : ℕ) → enters_by (trim_before entrants others) rank ≡ enters_by (entrants ∷ others) rank
count_before [] [] rank = refl
count_before [] (other ∷ others) rank = refl
count_before (entrant ∷ entrants) others rank = refl

count_trim : (instances : List (List Entrant)) (rank : ℕ) → enters_by (trim instances) rank ≡ enters_by instances rank
count_trim [] rank = refl
count_trim (entrants ∷ others) rank =
    count_before entrants (trim others) rank ∙ elim (cases_Bool (has_entered entrants rank)) [
      | inl here ↦ rw here (ap suc (count_trim others rank))
      | inr away ↦ rw away (count_trim others rank)
    ]

pub count_seen : (stages : Stages) (comm rank : ℕ) → enters_made (stages_of stages) comm rank ≡ enters_made stages comm rank
count_seen stages comm rank = ap (λ (all : List (List Entrant)). enters_by all rank) (instances_seen stages comm) ∙ count_trim (instances_on stages comm) rank

pub trimmed : (stages : Stages) → IsTrimmed (stages_of stages)
trimmed stages = stages_same (stages_of stages) stages (enters_seen stages)

-- boards with the same Enters are the same
pub same_stages : (one two : Stages) → IsTrimmed one → IsTrimmed two → ((comm instance : ℕ) → enters_of one comm instance ≡ enters_of two comm instance) → one ≡ two
same_stages one two trims also same = sym trims ∙ (stages_same one two same ∙ also)

-- the answer to an Enter
pub answer_seen : (stages : Stages) (rank : ℕ) (call : Call) → board_answer (stages_of stages) rank call ≡ board_answer stages rank call
answer_seen stages rank call =
    let comm : ℕ = comm_of call in
    let next : enters_made (stages_of stages) comm rank ≡ enters_made stages comm rank = count_seen stages comm rank in
    ap (λ (k : ℕ). joins_unless k (first_against (enters_of (stages_of stages) comm k) call)) next
    ∙ ap (λ (entrants : List Entrant). joins_unless (enters_made stages comm rank) (first_against entrants call)) (enters_seen stages comm (enters_made stages comm rank))

pub gains_seen : (old new : Stages) (comm instance : ℕ) (entrant : Entrant) → GainsEnter old new comm instance entrant → GainsEnter (stages_of old) (stages_of new) comm instance entrant
gains_seen old new comm instance entrant gains = record {
  at = λ other number. enters_seen new other number
      ∙ (gains.at other number ∙ sym (ap (λ (es : List Entrant). cond (other == comm && number == instance) (es ++ entrant ∷ []) es) (enters_seen old other number)));
}

pub loses_seen : (old new : Stages) (comm instance rank : ℕ) → LosesEnter old new comm instance rank → LosesEnter (stages_of old) (stages_of new) comm instance rank
loses_seen old new comm instance rank loses = record {
  at = λ other number. enters_seen new other number
      ∙ (loses.at other number ∙ sym (ap (λ (es : List Entrant). cond (other == comm && number == instance) (without_rank rank es) es) (enters_seen old other number)));
}

-- past the last communicator nobody has entered
none_past : (stages : Stages) (comm : ℕ) → length stages ≤ comm → instances_on stages comm ≡ []
none_past [] comm past = refl
none_past (stage ∷ stages) zero past = absurd (omega arith)
none_past (stage ∷ stages) (suc comm) past = none_past stages comm (omega arith)

-- the list reads as the table
none_above : (table : InstancesByCommunicator) (comm : ℕ) → above_all table ≤ comm → lookup (nat_eq comm) table ≡ None
none_above [] comm above = refl
none_above (entry ∷ entries) comm above =
    lookup_tail (nat_eq comm) entry entries (neq-eqb comm entry.0 (λ same. let is : comm ≡ entry.0 = same in absurd (omega (arith, is, above))))
    ∙ none_above entries comm (omega (arith, above))

pub instances_listed : (table : InstancesByCommunicator) (comm : ℕ) → instances_on (instance_lists table) comm ≡ instances_in table comm
instances_listed table comm =
    elim (cases_lt comm (above_all table)) [
      | inl below ↦ get_or-map-range_with_len (instances_in table) 0 (above_all table) comm comm [] below (omega arith)
      | inr above ↦ (
          let many : length (instance_lists table) ≡ above_all table = length-map-range_with_len (instances_in table) 0 (above_all table) in
          none_past (instance_lists table) comm (omega (arith, many, above)) ∙ sym (ap (λ (found : Option (List (List Entrant))). unwrap_or found []) (none_above table comm above)))
    ]

-- what is found of a communicator's instances, or not
pub on_found : (table : InstancesByCommunicator) (comm : ℕ) (found : List (List Entrant)) → Some found ≡ lookup (nat_eq comm) table → found ≡ instances_on (instance_lists table) comm
on_found table comm found is = ap (λ (o : Option (List (List Entrant))). unwrap_or o []) is ∙ sym (instances_listed table comm)

pub on_none : (table : InstancesByCommunicator) (comm : ℕ) → None ≡ lookup (nat_eq comm) table → [] ≡ instances_on (instance_lists table) comm
on_none table comm is = ap (λ (o : Option (List (List Entrant))). unwrap_or o []) is ∙ sym (instances_listed table comm)

-- the same instances are the same board
pub same_read : (old new : InstancesByCommunicator) (seen : Stages) → stages_of (instance_lists old) ≡ seen → HaveSameInstances old new → stages_of (instance_lists new) ≡ seen
same_read old new seen view same =
    stages_same (instance_lists new) (instance_lists old)
    (λ other instance. ap (λ (all : List (List Entrant)). instance_enters all instance) (instances_listed new other ∙ (same other ∙ sym (instances_listed old other))))
    ∙ view

all_same : (old new : InstancesByCommunicator) (comm : ℕ) → HaveSameBeside comm old new → instances_in new comm ≡ instances_in old comm → HaveSameInstances old new
all_same old new comm others same other =
    elim (cases_Bool (comm == other)) [
      | inl here ↦ (let F : ℕ → Type 0 = λ c. instances_in new c ≡ instances_in old c in subst F (eqb-true comm other here) same)
      | inr away ↦ others other away
    ]

-- one communicator's instances are others, and all else stays
record Sets (old new : Stages) (comm : ℕ) (instances : List (List Entrant)) : Type 0 where
  at : (other : ℕ) → instances_on new other ≡ cond (other == comm) instances (instances_on old other)

sets_is : (old new : InstancesByCommunicator) (comm : ℕ) → HaveSameBeside comm old new → Sets (instance_lists old) (instance_lists new) comm (instances_in new comm)
sets_is old new comm others = record { at = λ other. at other (cases_eq other comm) }
  where
    at : (other : ℕ) → (other ≡ comm) ⊎ (other ≢ comm) → instances_on (instance_lists new) other ≡ cond (other == comm) (instances_in new comm) (instances_on (instance_lists old) other)
    at other (inl here) = rw (eq-eqb other comm here) (instances_listed new other ∙ ap (instances_in new) here)
    at other (inr away) =
        rw (neq-eqb other comm away)
        (instances_listed new other ∙ (others other (neq-eqb comm other (λ same. away (sym same))) ∙ sym (instances_listed old other)))

gains_enter : (old new : Stages) (comm instance : ℕ) (entrant : Entrant) (instances : List (List Entrant)) → Sets old new comm instances
    → Gains (instances_on old comm) instances instance entrant → GainsEnter old new comm instance entrant
gains_enter old new comm instance entrant instances sets gains = record { at = λ other number. at other number (cases_eq other comm) }
  where
    at : (other number : ℕ) → (other ≡ comm) ⊎ (other ≢ comm)
        → enters_of new other number ≡ cond (other == comm && number == instance) (enters_of old other number ++ entrant ∷ []) (enters_of old other number)
    at other number (inl here) =
        ap (λ (all : List (List Entrant)). instance_enters all number) (sets.at other)
        ∙ rw (eq-eqb other comm here) (gains.at number ∙ ap (λ (c : ℕ). cond (number == instance) (enters_of old c number ++ entrant ∷ []) (enters_of old c number)) (sym here))
    at other number (inr away) =
        ap (λ (all : List (List Entrant)). instance_enters all number) (sets.at other) ∙ rw (neq-eqb other comm away) refl

loses_enter : (old new : Stages) (comm instance rank : ℕ) (instances : List (List Entrant)) → Sets old new comm instances
    → Loses (instances_on old comm) instances instance rank → LosesEnter old new comm instance rank
loses_enter old new comm instance rank instances sets loses = record { at = λ other number. at other number (cases_eq other comm) }
  where
    at : (other number : ℕ) → (other ≡ comm) ⊎ (other ≢ comm)
        → enters_of new other number ≡ cond (other == comm && number == instance) (without_rank rank (enters_of old other number)) (enters_of old other number)
    at other number (inl here) =
        ap (λ (all : List (List Entrant)). instance_enters all number) (sets.at other)
        ∙ rw (eq-eqb other comm here) (loses.at number ∙ ap (λ (c : ℕ). cond (number == instance) (without_rank rank (enters_of old c number)) (enters_of old c number)) (sym here))
    at other number (inr away) =
        ap (λ (all : List (List Entrant)). instance_enters all number) (sets.at other) ∙ rw (neq-eqb other comm away) refl

-- the board after an Enter, in the words of the board that was passed
pub board_after : (old new : InstancesByCommunicator) (seen : Stages) (comm rank : ℕ) (call : Call) (entered : Entered) → stages_of (instance_lists old) ≡ seen → comm ≡ comm_of call → HaveSameBeside comm old new
    → IsInstancesAfter (instances_in old comm) (instances_in new comm) rank call entered → IsBoardAfter seen (stages_of (instance_lists new)) rank call entered
board_after old new seen comm rank call (Joined instance) view same others after =
    let me : Entrant = record { rank = rank; call = call } in
    let P : List (List Entrant) → Type 0 = λ all. Gains all (instances_in new comm) instance me in
    let Q : ℕ → Type 0 = λ c. GainsEnter (stages_of (instance_lists old)) (stages_of (instance_lists new)) c instance me in
    let R : Stages → Type 0 = λ s. GainsEnter s (stages_of (instance_lists new)) (comm_of call) instance me in
    subst R view (subst Q same (gains_seen (instance_lists old) (instance_lists new) comm instance me
    (gains_enter (instance_lists old) (instance_lists new) comm instance me (instances_in new comm) (sets_is old new comm others) (subst P (sym (instances_listed old comm)) after))))
board_after old new seen comm rank call (Disagrees other) view same others after = same_read old new seen view (all_same old new comm others after)

-- the answer, in the same words
pub answer_is : (table : InstancesByCommunicator) (seen : Stages) (comm rank : ℕ) (call : Call) → stages_of (instance_lists table) ≡ seen → comm ≡ comm_of call
    → instance_answer (instances_in table comm) rank call ≡ board_answer seen rank call
answer_is table seen comm rank call view same =
    ap (λ (all : List (List Entrant)). instance_answer all rank call) (sym (instances_listed table comm) ∙ ap (instances_on (instance_lists table)) same)
    ∙ (sym (answer_seen (instance_lists table) rank call) ∙ ap (λ (s : Stages). board_answer s rank call) view)

-- what is found, in the words of the board that was passed
pub seen_enters : (stages seen : Stages) (comm instance : ℕ) (found : List (List Entrant)) → stages_of stages ≡ seen → found ≡ instances_on stages comm
    → instance_enters found instance ≡ enters_of seen comm instance
seen_enters stages seen comm instance found view is =
    ap (λ (all : List (List Entrant)). instance_enters all instance) is
    ∙ (sym (enters_seen stages comm instance) ∙ ap (λ (s : Stages). enters_of s comm instance) view)

pub seen_count : (stages seen : Stages) (comm rank : ℕ) (found : List (List Entrant)) → stages_of stages ≡ seen → found ≡ instances_on stages comm
    → enters_by found rank ≡ enters_made seen comm rank
seen_count stages seen comm rank found view is =
    ap (λ (all : List (List Entrant)). enters_by all rank) is ∙ (sym (count_seen stages comm rank) ∙ ap (λ (s : Stages). enters_made s comm rank) view)

pub seen_orderly : (seen : Stages) (comm rank : ℕ) (found : List (List Entrant)) → ((instance : ℕ) → instance_enters found instance ≡ enters_of seen comm instance)
    → enters_by found rank ≡ enters_made seen comm rank → AreOrderly found rank → IsOrderly seen comm rank
seen_orderly seen comm rank found enters count orderly = record {
  counted = λ number. sym (ap (λ (es : List Entrant). has_entered es rank) (enters number)) ∙ (orderly.counted number ∙ ap (nat_lt number) count);
  agreed = λ number. subst AllAgree (enters number) (orderly.agreed number);
}

pub seen_trimmed : (stages seen : Stages) → stages_of stages ≡ seen → IsTrimmed seen
seen_trimmed stages seen view = subst IsTrimmed view (trimmed stages)

-- the board after a rank has left
pub board_left : (old new : InstancesByCommunicator) (seen : Stages) (comm rank : ℕ) → stages_of (instance_lists old) ≡ seen → HaveSameBeside comm old new
    → Loses (instances_in old comm) (instances_in new comm) (enters_by (instances_in old comm) rank - 1) rank → LosesEnter seen (stages_of (instance_lists new)) comm (enters_made seen comm rank - 1) rank
board_left old new seen comm rank view others loses =
    let was : List (List Entrant) = instances_in old comm in
    let is : was ≡ instances_on (instance_lists old) comm = sym (instances_listed old comm) in
    let P : List (List Entrant) → Type 0 = λ all. Loses all (instances_in new comm) (enters_by was rank - 1) rank in
    let Q : ℕ → Type 0 = λ k. LosesEnter (stages_of (instance_lists old)) (stages_of (instance_lists new)) comm (k - 1) rank in
    let R : Stages → Type 0 = λ s. LosesEnter s (stages_of (instance_lists new)) comm (enters_made seen comm rank - 1) rank in
    subst R view (subst Q (seen_count (instance_lists old) seen comm rank was view is)
    (loses_seen (instance_lists old) (instance_lists new) comm (enters_by was rank - 1) rank
    (loses_enter (instance_lists old) (instance_lists new) comm (enters_by was rank - 1) rank (instances_in new comm) (sets_is old new comm others) (subst P is loses))))
