-- The turns of one rank, one after the other, in the search's loops.
use Rattle.std.proofs.Common.{◌≡◌, ◌<◌, ◌+◌, ◌∙◌, ◌||◌, ◌⊎◌, Bool, MatchBool, ℕ, List, Some, arith, false, if◌then◌else◌, inl, inr, length, refl, ap, sym, subst, true}
use Rattle.mpi_call.specs.declared.call.Call.{Call}
use Rattle.mpi_call.specs.Calls.{listed_by}
use Rattle.run_model.specs.declared.event.Event.{Event}
use Rattle.run_model.specs.Run.{IsPromptRun}
use Rattle.run_model.specs.Serial.{call_after}
use Rattle.run_model.specs.Views.{Next}
use Rattle.picked_runs.specs.declared.turn.Pick.{Pick}
use Rattle.picked_runs.specs.declared.turn.Pick.TheVariants.{First, Sender, Index}
use Rattle.picked_runs.specs.declared.turn.Turn.{Turn}
use Rattle.picked_runs.specs.Picks.{has_pick}
use Rattle.srr_entry.specs.Outputs.{Output}
use Rattle.explore.specs.declared.met.Met.{Met}
use Rattle.explore.specs.Searching.{StaysMet, HasTried, HasTriedPicks, IsAnyPick, IsIndexBelow, IsSenderBelow, IsUnanswered, WentOn, question_of}
use Rattle.explore.proofs.Joining.{AreBoth, IsPick, last_below, one_not, one_tried, picks_all, picks_both, same_call}
use Rattle.explore.proofs.Offering.{IsChoiceOf, IsChoiceOrNone, any_choice, only_choices, only_senders, senders_of}
use Rattle.explore.proofs.Trying.{grows_on}

pub went_trans : (next : Next) (output : Output) (n : ℕ) (root : List Event) (one two three : Met) → WentOn next output n root one two → WentOn next output n root two three
    → WentOn next output n root one three
went_trans next output n root one two three a b =
    record {
      under_way = b.under_way;
      grows = grows_on one.states two.states three.states one.found two.found three.found one.polled two.polled three.polled a.grows b.grows;
    }

-- one turn, answered or not
one_of : (next : Next) (output : Output) (n polls : ℕ) (met : Met) (before : List Event) (turn : Turn) (answered : Bool) → IsPromptRun next n before → turn.rank < n
    → MatchBool answered (HasTried (question_of next output n polls) met before turn) (IsUnanswered next n before turn)
    → HasTriedPicks (question_of next output n polls) met before turn.rank (IsPick turn.pick) answered
one_of next output n polls met before turn true run below tried = one_tried next output n polls met before turn run below tried
one_of next output n polls met before turn false run below not = one_not next output n polls met before turn run not

-- what stands for whether one was answered behind a further turn
pub joined : (answered made after : Bool) → ((answered ≡ true) × (after ≡ true)) ⊎ ((answered ≡ false) × (after ≡ made)) → after ≡ (if answered then true else made)
joined answered made after which =
    let F : Bool → Bool = λ b. if b then true else made in
    elim which [
      | inl t ↦ t.1 ∙ sym (ap F t.0)
      | inr f ↦ f.1 ∙ sym (ap F f.0)
    ]

pub or_with : (a b : Bool) → (a || b) ≡ (if b then true else a)
or_with true true = refl
or_with true false = refl
or_with false true = refl
or_with false false = refl

turn_more : (next : Next) (output : Output) (n polls : ℕ) (met met' : Met) (before : List Event) (turn : Turn) (One Both : Pick → Type 0) (made answered : Bool)
    → IsPromptRun next n before → turn.rank < n → AreBoth One (IsPick turn.pick) Both → StaysMet met.states met'.states met.found met'.found met.polled met'.polled
    → HasTriedPicks (question_of next output n polls) met before turn.rank One made
    → MatchBool answered (HasTried (question_of next output n polls) met' before turn) (IsUnanswered next n before turn)
    → HasTriedPicks (question_of next output n polls) met' before turn.rank Both (if answered then true else made)
turn_more next output n polls met met' before turn One Both made answered run below are grows tried one =
    let F : Bool → Type 0 = λ b. HasTriedPicks (question_of next output n polls) met' before turn.rank Both b in
    subst F (or_with made answered) (picks_both next output n polls met met' before turn.rank One (IsPick turn.pick) Both made answered are grows tried
    (one_of next output n polls met' before turn answered run below one))

sender_both : (low : ℕ) → AreBoth (IsSenderBelow low) (IsPick (Sender low)) (IsSenderBelow (low + 1))
sender_both low =
    record {
      parts = λ pick is. (elim (last_below is.0 low is.2) [
        | inl less ↦ inl (is.0, is.1, less)
        | inr same ↦ inr (ap (λ s. Sender s) same ∙ sym is.1)
      ]);
      first = λ pick is. (is.0, is.1, (let less : is.0 < low = is.2 in omega (arith, less)));
      second = λ pick is. (low, sym is, omega arith);
    }

index_both : (low : ℕ) → AreBoth (IsIndexBelow low) (IsPick (Index low)) (IsIndexBelow (low + 1))
index_both low =
    record {
      parts = λ pick is. (elim (last_below is.0 low is.2) [
        | inl less ↦ inl (is.0, is.1, less)
        | inr same ↦ inr (ap (λ s. Index s) same ∙ sym is.1)
      ]);
      first = λ pick is. (is.0, is.1, (let less : is.0 < low = is.2 in omega (arith, less)));
      second = λ pick is. (low, sym is, omega arith);
    }

pub sender_more : (next : Next) (output : Output) (n polls : ℕ) (met met' : Met) (before : List Event) (rank low : ℕ) (made answered : Bool)
    → IsPromptRun next n before → rank < n → StaysMet met.states met'.states met.found met'.found met.polled met'.polled
    → HasTriedPicks (question_of next output n polls) met before rank (IsSenderBelow low) made
    → MatchBool answered (HasTried (question_of next output n polls) met' before (record { rank = rank; pick = Sender low })) (IsUnanswered next n before (record { rank = rank; pick = Sender low }))
    → HasTriedPicks (question_of next output n polls) met' before rank (IsSenderBelow (low + 1)) (if answered then true else made)
sender_more next output n polls met met' before rank low made answered run below grows tried one =
    turn_more next output n polls met met' before (record { rank = rank; pick = Sender low }) (IsSenderBelow low) (IsSenderBelow (low + 1)) made answered run below (sender_both low) grows tried one

pub index_more : (next : Next) (output : Output) (n polls : ℕ) (met met' : Met) (before : List Event) (rank low : ℕ) (made answered : Bool)
    → IsPromptRun next n before → rank < n → StaysMet met.states met'.states met.found met'.found met.polled met'.polled
    → HasTriedPicks (question_of next output n polls) met before rank (IsIndexBelow low) made
    → MatchBool answered (HasTried (question_of next output n polls) met' before (record { rank = rank; pick = Index low })) (IsUnanswered next n before (record { rank = rank; pick = Index low }))
    → HasTriedPicks (question_of next output n polls) met' before rank (IsIndexBelow (low + 1)) (if answered then true else made)
index_more next output n polls met met' before rank low made answered run below grows tried one =
    turn_more next output n polls met met' before (record { rank = rank; pick = Index low }) (IsIndexBelow low) (IsIndexBelow (low + 1)) made answered run below (index_both low) grows tried one

-- a sender was there: then only senders can be picked
pub rank_senders : (next : Next) (output : Output) (n polls : ℕ) (met : Met) (before : List Event) (rank : ℕ) (call : Call) → IsPromptRun next n before
    → call_after next n before rank ≡ Some call → HasTriedPicks (question_of next output n polls) met before rank (IsSenderBelow (senders_of call n)) true
    → HasTriedPicks (question_of next output n polls) met before rank IsAnyPick true
rank_senders next output n polls met before rank call run asked tried =
    let s = tried.some refl in
    let same : s.0 ≡ call = same_call (call_after next n before rank) s.0 call s.3 asked in
    let O : Call → Type 0 = λ c. has_pick n before rank c s.1 ≡ true in
    picks_all next output n polls met before rank call (IsSenderBelow (senders_of call n)) true asked
    (only_senders next n before rank call s.1 run s.2 (subst O same s.4)) (λ no. (let not : true ≡ false = no in absurd (cc))) tried

choice_both : (n : ℕ) (call : Call) → AreBoth (IsSenderBelow (senders_of call n)) (IsIndexBelow (length (listed_by call))) (IsChoiceOf n call)
choice_both n call = record { parts = λ pick is. is; first = λ pick is. inl is; second = λ pick is. inr is }

-- no sender was there, but a start at some index
pub rank_indices : (next : Next) (output : Output) (n polls : ℕ) (met met' : Met) (before : List Event) (rank : ℕ) (call : Call) → IsPromptRun next n before
    → call_after next n before rank ≡ Some call → StaysMet met.states met'.states met.found met'.found met.polled met'.polled
    → HasTriedPicks (question_of next output n polls) met before rank (IsSenderBelow (senders_of call n)) false
    → HasTriedPicks (question_of next output n polls) met' before rank (IsIndexBelow (length (listed_by call))) true
    → HasTriedPicks (question_of next output n polls) met' before rank IsAnyPick true
rank_indices next output n polls met met' before rank call run asked grows senders indices =
    let tried : HasTriedPicks (question_of next output n polls) met' before rank (IsChoiceOf n call) true =
    picks_both next output n polls met met' before rank (IsSenderBelow (senders_of call n)) (IsIndexBelow (length (listed_by call))) (IsChoiceOf n call) false true (choice_both n call) grows senders indices in
    let s = tried.some refl in
    let same : s.0 ≡ call = same_call (call_after next n before rank) s.0 call s.3 asked in
    let O : Call → Type 0 = λ c. has_pick n before rank c s.1 ≡ true in
    picks_all next output n polls met' before rank call (IsChoiceOf n call) true asked
    (only_choices next n before rank call s.1 run s.2 (subst O same s.4)) (λ no. (let not : true ≡ false = no in absurd (cc))) tried

-- neither: then nothing was picked
pub rank_first : (next : Next) (output : Output) (n polls : ℕ) (one two three : Met) (before : List Event) (rank : ℕ) (call : Call) (answered : Bool) → IsPromptRun next n before → rank < n
    → call_after next n before rank ≡ Some call → StaysMet one.states two.states one.found two.found one.polled two.polled
    → StaysMet two.states three.states two.found three.found two.polled three.polled
    → HasTriedPicks (question_of next output n polls) one before rank (IsSenderBelow (senders_of call n)) false
    → HasTriedPicks (question_of next output n polls) two before rank (IsIndexBelow (length (listed_by call))) false
    → MatchBool answered (HasTried (question_of next output n polls) three before (record { rank = rank; pick = First })) (IsUnanswered next n before (record { rank = rank; pick = First }))
    → HasTriedPicks (question_of next output n polls) three before rank IsAnyPick answered
rank_first next output n polls one two three before rank call answered run below asked grows more senders indices tried =
    let choices : HasTriedPicks (question_of next output n polls) two before rank (IsChoiceOf n call) false =
    picks_both next output n polls one two before rank (IsSenderBelow (senders_of call n)) (IsIndexBelow (length (listed_by call))) (IsChoiceOf n call) false false (choice_both n call) grows senders indices in
    let turn : Turn = record { rank = rank; pick = First } in
    let all : HasTriedPicks (question_of next output n polls) three before rank (IsChoiceOrNone n call) answered =
    picks_both next output n polls two three before rank (IsChoiceOf n call) (IsPick First) (IsChoiceOrNone n call) false answered
    (record { parts = λ pick is. is; first = λ pick is. inl is; second = λ pick is. inr is }) more choices (one_of next output n polls three before turn answered run below tried) in
    picks_all next output n polls three before rank call (IsChoiceOrNone n call) answered asked (any_choice next n before rank call run) (λ no. inr refl) all
