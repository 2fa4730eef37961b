-- What was tried stays tried, and from all that was tried a state is looked at.
use Rattle.std.proofs.Common.{◌≡◌, ◌∙◌, ◌++◌, ◌∷◌, Bool, ℕ, List, [], append_assoc, append-nil, Err, IfOk, Ok, OnOk, Result, inl, inr, map, refl, ap, sym, subst}
use Rattle.mpi_call.specs.Lists.{IsIn}
use Rattle.run_model.specs.declared.event.Event.{Event}
use Rattle.run_model.specs.Lists.{IsPrefixOf}
use Rattle.run_model.specs.Views.{Next}
use Rattle.picked_runs.specs.declared.turn.Turn.{Turn}
use Rattle.srr_entry.specs.Outputs.{Output}
use Rattle.run_states.specs.Moves.{IsVisited}
use Rattle.run_states.specs.Outcomes.{RunOutcome, halted_outcome, outcome_of_run}
use Rattle.explore.specs.declared.found.FoundOutcome.{FoundOutcome}
use Rattle.explore.specs.Explored.{IsListed, events_of_turns}
use Rattle.explore.specs.Searching.{StaysMet, IsFollowed, IsLookedAt, histories, question_of, seen_of}

-- 1. lists that grow

in_front : {A : Type 0} (x : A) (xs ys : List A) → IsIn x xs → IsIn x (xs ++ ys)
in_front x [] ys there = absurd there
in_front x (y ∷ xs) ys there =
    elim there [
      | inl same ↦ inl same
      | inr later ↦ inr (in_front x xs ys later)
    ]

pub in_longer : {A : Type 0} (x : A) (xs ys : List A) → IsPrefixOf xs ys → IsIn x xs → IsIn x ys
in_longer {A} x xs ys longer there =
    let F : List A → Type 0 = λ l. IsIn x l in
    subst F longer.1 (in_front x xs longer.0 there)

pub map_append : {A B : Type 0} (f : A → B) (xs ys : List A) → map f (xs ++ ys) ≡ map f xs ++ map f ys
map_append f [] ys = refl
map_append f (x ∷ xs) ys = ap (λ l. f x ∷ l) (map_append f xs ys)

histories_longer : (next : Next) (n : ℕ) (states states' : List (List Turn)) → IsPrefixOf states states' → IsPrefixOf (histories next n states) (histories next n states')
histories_longer next n states states' longer =
    (map (events_of_turns next n) longer.0, sym (map_append (events_of_turns next n) states longer.0) ∙ ap (map (events_of_turns next n)) longer.1)

pub met_longer : (next : Next) (n : ℕ) (states states' : List (List Turn)) (events : List Event) → IsPrefixOf states states'
    → IsVisited n (histories next n states) events → IsVisited n (histories next n states') events
met_longer next n states states' events longer met =
    (met.0, in_longer met.0 (histories next n states) (histories next n states') (histories_longer next n states states' longer) met.1, met.2)

pub listed_longer : (listed listed' : List FoundOutcome) (outcome : RunOutcome) → IsPrefixOf listed listed' → IsListed listed outcome → IsListed listed' outcome
listed_longer listed listed' outcome longer there = (there.0, in_longer there.0 listed listed' longer there.1, there.2)

pub followed_longer : (next : Next) (n polls : ℕ) (states states' : List (List Turn)) (listed listed' : List FoundOutcome) (polled polled' : Bool) (before : List Event) (event : Event)
    → StaysMet states states' listed listed' polled polled' → IsFollowed next n polls (seen_of states listed polled) before event → IsFollowed next n polls (seen_of states' listed' polled') before event
followed_longer next n polls states states' listed listed' polled polled' before event grows followed =
    elim followed [
      | inl met ↦ inl (met_longer next n states states' (before ++ event ∷ []) grows.states_stay met)
      | inr vain ↦ inr (grows.polled_stays vain.0, vain.1)
    ]

-- what was looked at stays looked at
pub looked_longer : (next : Next) (output : Output) (n polls : ℕ) (states states' : List (List Turn)) (listed listed' : List FoundOutcome) (polled polled' : Bool) (before : List Event)
    → StaysMet states states' listed listed' polled polled' → IsLookedAt (question_of next output n polls) (seen_of states listed polled) before
    → IsLookedAt (question_of next output n polls) (seen_of states' listed' polled') before
looked_longer next output n polls states states' listed listed' polled polled' before grows looked =
    record {
      moves = λ rank call pick move kept. followed_longer next n polls states states' listed listed' polled polled' before _ grows (looked.moves rank call pick move kept);
      halts = λ rank call pick halt halting. listed_longer listed listed' (halted_outcome next output n before halt) grows.listed_stay (looked.halts rank call pick halt halting);
      ends = λ ended. listed_longer listed listed' (outcome_of_run output n before) grows.listed_stay (looked.ends ended);
    }

pub grows_not : (states : List (List Turn)) (listed : List FoundOutcome) (polled : Bool) → StaysMet states states listed listed polled polled
grows_not states listed polled =
    record { states_stay = ([], append-nil states); listed_stay = ([], append-nil listed); polled_stays = λ h. h }

longer_trans : {A : Type 0} (xs ys zs : List A) → IsPrefixOf xs ys → IsPrefixOf ys zs → IsPrefixOf xs zs
longer_trans {A} xs ys zs one two =
    (one.0 ++ two.0, sym (append_assoc xs one.0 two.0) ∙ (ap (λ (l : List A). l ++ two.0) one.1 ∙ two.1))

pub grows_on : (one two three : List (List Turn)) (found more all : List FoundOutcome) (p q r : Bool) → StaysMet one two found more p q → StaysMet two three more all q r
    → StaysMet one three found all p r
grows_on one two three found more all p q r a b =
    record {
      states_stay = longer_trans one two three a.states_stay b.states_stay;
      listed_stay = longer_trans found more all a.listed_stay b.listed_stay;
      polled_stays = λ h. b.polled_stays (a.polled_stays h);
    }

-- 2. what is known of an answer
pub if_ok_map : {A E : Type 0} (W : Type 0) (P Q : A → Type 0) (r : Result A E) → ((x : A) → W → P x → Q x) → OnOk r W → IfOk r P → IfOk r Q
if_ok_map W P Q (Ok x) f w h = f x w h
if_ok_map W P Q (Err e) f w h = tt

pub on_ok_two : {A E : Type 0} (P Q R : Type 0) (r : Result A E) → (P → Q → R) → OnOk r P → OnOk r Q → OnOk r R
on_ok_two P Q R (Ok x) f a b = f a b
on_ok_two P Q R (Err e) f a b = tt

pub on_ok_map : {A E : Type 0} (P Q : Type 0) (r : Result A E) → (P → Q) → OnOk r P → OnOk r Q
on_ok_map P Q (Ok x) f h = f h
on_ok_map P Q (Err e) f h = tt
