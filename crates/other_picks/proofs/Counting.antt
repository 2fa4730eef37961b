-- The numbers of starts after one more event.
use Rattle.std.proofs.Common.{◌≡◌, ◌≢◌, ◌<◌, ◌+◌, ◌≤◌, ◌==◌, ◌∙◌, ◌++◌, ◌∷◌, ℕ, zero, suc, List, [], replicate, slice_index, true, false, inl, inr, length, length-append, get_or, set, get_or-set_same, get_or-set_other, ap, refl, sym, append-nil, arith}
use Rattle.std.proofs.lemmas.Bool.{eqb-true, eq-eqb}
use Rattle.run_model.specs.declared.event.Event.{Event}
use Rattle.run_model.specs.Views.{View, is_start, starts_of, view_of}
use Rattle.run_model.proofs.StartLemmas.{starts_of-append}
use Rattle.run_model.proofs.Views.{length-view_of, test_cases, view_of-mine, view_of-other}
use Rattle.other_picks.specs.inside.Known.{AreStartCounts}

count_mine : (before : List Event) (event : Event) (rank : ℕ) → event.rank ≡ rank → is_start (event.call, event.reply) ≡ true
    → length (starts_of (view_of (before ++ event ∷ []) rank)) ≡ length (starts_of (view_of before rank)) + 1
count_mine before event rank same start =
    rw (view_of-mine before event rank same, starts_of-append (view_of before rank) ((event.call, event.reply) ∷ []), start, length-append (starts_of (view_of before rank)) (event.call ∷ [])) refl

count_rest : (before : List Event) (event : Event) (rank : ℕ) → is_start (event.call, event.reply) ≡ false
    → length (starts_of (view_of (before ++ event ∷ []) rank)) ≡ length (starts_of (view_of before rank))
count_rest before event rank idle =
    elim (test_cases (event.rank == rank)) [
      | inl t ↦ (
          let same : event.rank ≡ rank = eqb-true event.rank rank t in
          rw (view_of-mine before event rank same, starts_of-append (view_of before rank) ((event.call, event.reply) ∷ []), idle, append-nil (starts_of (view_of before rank))) refl)
      | inr t ↦ ap (λ (v : View). length (starts_of v)) (view_of-other before event rank t)
    ]

-- at first each has none
zero_at : (count k : ℕ) → slice_index (replicate count 0) k ≡ 0
zero_at zero k = refl
zero_at (suc count) zero = refl
zero_at (suc count) (suc k) = zero_at count k

pub none_counted : (count : ℕ) → AreStartCounts [] (replicate count 0)
none_counted count = record { each = λ rank low. zero_at count rank }

-- there are no more starts than events
starts_short : (view : View) → length (starts_of view) ≤ length view
starts_short [] = omega arith
starts_short (seen ∷ view) =
    let rest = starts_short view in
    elim (test_cases (is_start seen)) [ inl t ↦ rw t (omega arith) | inr t ↦ rw t (omega arith) ]

pub starts_few : (before : List Event) (rank : ℕ) → length (starts_of (view_of before rank)) ≤ length before
starts_few before rank = (let few = starts_short (view_of before rank) in let short = length-view_of before rank in omega arith)

pub counted_start : (before : List Event) (event : Event) (counts : List ℕ) → length counts ≡ 256 → event.rank < 256 → is_start (event.call, event.reply) ≡ true
    → AreStartCounts before counts → AreStartCounts (before ++ event ∷ []) (set counts event.rank (get_or counts event.rank 0 + 1))
counted_start before event counts wide below start are = record {
  each = λ rank low. elim (test_cases (event.rank == rank)) [
    | inl t ↦ (
        let same : event.rank ≡ rank = eqb-true event.rank rank t in
        let within : event.rank < length counts = omega arith in
        let here : get_or (set counts event.rank (get_or counts event.rank 0 + 1)) event.rank 0 ≡ get_or counts event.rank 0 + 1 =
        get_or-set_same counts event.rank (get_or counts event.rank 0 + 1) 0 within in
        ap (λ r. get_or (set counts event.rank (get_or counts event.rank 0 + 1)) r 0) (sym same)
        ∙ (here ∙ (ap (λ k. k + 1) (are.each event.rank below) ∙ (ap (λ r. length (starts_of (view_of before r)) + 1) same ∙ sym (count_mine before event rank same start)))))
    | inr t ↦ (
        let apart : rank ≢ event.rank = λ e. (let yes : (event.rank == rank) ≡ true = eq-eqb event.rank rank (sym e) in let no : true ≡ false = sym yes ∙ t in cc) in
        get_or-set_other counts event.rank rank (get_or counts event.rank 0 + 1) 0 apart
        ∙ (are.each rank low ∙ sym (ap (λ (v : View). length (starts_of v)) (view_of-other before event rank t))))
  ];
}

pub counted_rest : (before : List Event) (event : Event) (counts : List ℕ) → is_start (event.call, event.reply) ≡ false → AreStartCounts before counts
    → AreStartCounts (before ++ event ∷ []) counts
counted_rest before event counts idle are = record { each = λ rank low. are.each rank low ∙ sym (count_rest before event rank idle) }
