-- Events as entries, and the seats of ranks.
use Rattle.std.proofs.Common.{◌≡◌, ◌<◌, ◌==◌, ◌++◌, ◌∷◌, ◌∙◌, [], List, true, ℕ, inl, inr, refl, ap, sym, arith, length, ne_eqb, slice_index}
use Rattle.std.proofs.lemmas.Bool.{eq-eqb, eqb-true}
use Rattle.mpi_call.specs.Collectives.{is_distinct, is_member}
use Rattle.run_model.specs.declared.event.Event.{Event}
use Rattle.run_model.specs.Views.{replies_in, view_of}
use Rattle.run_model.proofs.Views.{test_cases}
use Rattle.srr_replay.proofs.RoundsLemmas.{distinct_at, member_of}
use Rattle.turn_lock.specs.Entries.{entries_of}
use Rattle.rank_threads.specs.inside.Reading.{FrameReading, AddsReply, replies_of}
use Rattle.rank_threads.specs.inside.Numbered.{AddsEvent, numbered, place_in}
use Rattle.rank_threads.specs.declared.attempts.Attempt.{Attempt}
use Rattle.rank_threads.specs.declared.attempts.Attempt.TheVariants.{Replied, Waits, Stops, Short}

-- no other rank has the seat of this one
abbrev pub IsSeatOf : (ℕ → ℕ) → ℕ → Type 0
IsSeatOf seat rank = (r : ℕ) → (seat r == seat rank) ≡ (r == rank)

module _ {P F : Type 0} (reading : FrameReading P Event F) (plain : (e : Event) → reading.reply e ≡ e.reply) (seat : ℕ → ℕ) (rank : ℕ) where
  -- a seat's own entries give the replies of its rank
  pub replies_of_own : IsSeatOf seat rank → (events : List Event) → replies_of reading (entries_of (seat rank) (numbered seat events)) ≡ replies_in (view_of events rank)
  replies_of_own alone [] = refl
  replies_of_own alone (event ∷ events) =
      elim (test_cases (event.rank == rank)) [
        | inl h ↦ rw (alone event.rank, h, plain event, replies_of_own alone events) refl
        | inr h ↦ rw (alone event.rank, h, replies_of_own alone events) refl
      ]

  numbered_more : (events : List Event) (event : Event) → numbered seat (events ++ event ∷ []) ≡ numbered seat events ++ (seat event.rank, event) ∷ []
  numbered_more [] event = refl
  numbered_more (x ∷ events) event = ap (λ (l : List (ℕ × Event)). (seat x.rank, x) ∷ l) (numbered_more events event)

  -- an event more is an entry more
  pub adds : (before after : List Event) (answer : Attempt) → AddsEvent rank before after answer → AddsReply reading (seat rank) (numbered seat before) (numbered seat after) answer
  adds before after (Replied reply) a =
      let event = a.0 in
      (event, plain event ∙ a.2, ap (numbered seat) a.3 ∙ (numbered_more before event ∙ ap (λ (r : ℕ). numbered seat before ++ (seat r, event) ∷ []) a.1))
  adds before after Waits a = ap (numbered seat) a
  adds before after Stops a = ap (numbered seat) a
  adds before after Short a = ap (numbered seat) a

-- the place of a member, and what stands there
place_below : (group : List ℕ) (r : ℕ) → is_member group r ≡ true → place_in group r < length group
place_below [] r member = absurd (cc)
place_below (x ∷ group) r member =
    elim (test_cases (x == r)) [
      | inl h ↦ rw h (omega arith)
      | inr h ↦ rw h (let rest = place_below group r (rw h at member) in omega (arith, rest))
    ]

place_there : (group : List ℕ) (r : ℕ) → place_in group r < length group → slice_index group (place_in group r) ≡ r
place_there [] r lt = absurd (omega (arith, lt))
place_there (x ∷ group) r lt =
    elim (test_cases (x == r)) [
      | inl h ↦ rw h (eqb-true x r h)
      | inr h ↦ rw h (place_there group r (let below = rw h at lt in omega (arith, below)))
    ]

pub place_alone : (group : List ℕ) (rank : ℕ) → is_member group rank ≡ true → IsSeatOf (place_in group) rank
place_alone group rank member r =
    elim (test_cases (r == rank)) [
      | inl h ↦ rw h (eq-eqb (place_in group r) (place_in group rank) (ap (place_in group) (eqb-true r rank h)))
      | inr h ↦ rw h (ne_eqb (place_in group r) (place_in group rank) (λ same.
          let below = place_below group rank member in
          let here : place_in group r < length group = omega (arith, same, below) in
          let is : r ≡ rank = sym (place_there group r here) ∙ (ap (slice_index group) same ∙ place_there group rank below) in
          let yes = eq-eqb r rank is in cc))
    ]

pub place_at : (group : List ℕ) (k : ℕ) → is_distinct group ≡ true → k < length group → place_in group (slice_index group k) ≡ k
place_at group k distinct lt =
    let below = place_below group (slice_index group k) (member_of group k lt) in
    distinct_at group (place_in group (slice_index group k)) k distinct below lt (place_there group (slice_index group k) below)
