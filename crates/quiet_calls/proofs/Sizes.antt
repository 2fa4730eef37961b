-- How many events a history has, and of what size, shows in what its ranks have seen.
use Rattle.std.proofs.Common.{◌≡◌, ◌+◌, ◌==◌, ◌∙◌, ◌∷◌, if◌then◌else◌, ℕ, List, [], false, inl, inr, length, refl, ap, sym, subst, arith}
use Rattle.std.proofs.lemmas.Bool.{eq-eqb, eqb-true}
use Rattle.mpi_call.specs.declared.call.Call.{Call}
use Rattle.mpi_call.specs.declared.reply.Reply.{Reply}
use Rattle.mpi_call.specs.Calls.{ints_of, listed_by}
use Rattle.run_model.specs.declared.event.Event.{Event}
use Rattle.run_model.specs.Due.{size_of, size_of_reply, total_size}
use Rattle.run_model.specs.Views.{View, view_of}
use Rattle.run_model.proofs.Views.{test_cases}

-- what events count for, each by its call and reply
abbrev weigh : (Call → Reply → ℕ) → List Event → ℕ
weigh weight [] = 0
weigh weight (event ∷ events) = weight event.call event.reply + weigh weight events

-- the events but for the first of a rank
abbrev without : ℕ → List Event → List Event
without rank [] = []
without rank (event ∷ events) = if event.rank == rank then events else event ∷ without rank events

-- a view behind its first call
abbrev behind : View → View
behind [] = []
behind (seen ∷ view) = view

without_own : (events : List Event) (rank : ℕ) → view_of (without rank events) rank ≡ behind (view_of events rank)
without_own [] rank = refl
without_own (event ∷ events) rank =
    elim (test_cases (event.rank == rank)) [
      | inl h ↦ rw h refl
      | inr h ↦ rw (h, h) (without_own events rank)
    ]

without_other : (events : List Event) (rank other : ℕ) → (rank == other) ≡ false → view_of (without rank events) other ≡ view_of events other
without_other [] rank other apart = refl
without_other (event ∷ events) rank other apart =
    elim (test_cases (event.rank == rank)) [
      | inl h ↦
          let F : ℕ → Type 0 = λ x. (x == other) ≡ false in
          let no : (event.rank == other) ≡ false = subst F (sym (eqb-true event.rank rank h)) apart in
          rw (h, no) refl
      | inr h ↦ elim (test_cases (event.rank == other)) [
        | inl u ↦ rw (h, u) (ap (λ (v : View). (event.call, event.reply) ∷ v) (without_other events rank other apart))
        | inr u ↦ rw (h, u) (without_other events rank other apart)
      ]
    ]

-- a rank's first event counts for what its call and reply do
weigh_front : (weight : Call → Reply → ℕ) (events : List Event) (rank : ℕ) (seen : Call × Reply) (rest : View) → view_of events rank ≡ seen ∷ rest
    → weigh weight events ≡ weight seen.0 seen.1 + weigh weight (without rank events)
weigh_front weight [] rank seen rest e = absurd (cc)
weigh_front weight (event ∷ events) rank seen rest e =
    elim (test_cases (event.rank == rank)) [
      | inl h ↦
          let p : Call × Reply = (event.call, event.reply) in
          let here : p ∷ view_of events rank ≡ seen ∷ rest = rw h at e in
          let same : p ≡ seen = cc in
          rw h (ap (λ (s : Call × Reply). weight s.0 s.1 + weigh weight events) same)
      | inr h ↦
          let later : weigh weight events ≡ weight seen.0 seen.1 + weigh weight (without rank events) = weigh_front weight events rank seen rest (rw h at e) in
          rw h (omega (arith, later))
    ]

weigh_same : (weight : Call → Reply → ℕ) (one other : List Event) → ((rank : ℕ) → view_of one rank ≡ view_of other rank)
    → weigh weight one ≡ weigh weight other
weigh_same weight [] [] same = refl
weigh_same weight [] (event ∷ other) same =
    let no : [] ≡ (event.call, event.reply) ∷ view_of other event.rank = rw (eq-eqb event.rank event.rank refl) at (same event.rank) in
    absurd (cc)
weigh_same weight (event ∷ one) other same =
    let rank : ℕ = event.rank in
    let seen : Call × Reply = (event.call, event.reply) in
    let here : view_of (event ∷ one) rank ≡ seen ∷ view_of one rank = rw (eq-eqb event.rank event.rank refl) refl in
    let mine : view_of other rank ≡ seen ∷ view_of one rank = sym (same rank) ∙ here in
    let front : weigh weight other ≡ weight event.call event.reply + weigh weight (without rank other) = weigh_front weight other rank seen (view_of one rank) mine in
    let F : ℕ → Type 0 = λ r. view_of one r ≡ view_of (without rank other) r in
    let own : F rank = sym (without_own other rank ∙ ap behind mine) in
    let later : (r : ℕ) → view_of one r ≡ view_of (without rank other) r =
    λ r. elim (test_cases (event.rank == r)) [
      | inl h ↦ subst F (eqb-true event.rank r h) own
      | inr h ↦ (let moved : view_of one r ≡ view_of other r = rw h at (same r) in moved ∙ sym (without_other other rank r h))
    ] in
    ap (λ w. weight event.call event.reply + w) (weigh_same weight one (without rank other) later) ∙ sym front

-- each event counts for one
abbrev once : Call → Reply → ℕ
once call reply = 1

weigh_once : (events : List Event) → weigh once events ≡ length events
weigh_once [] = refl
weigh_once (event ∷ events) = (let later : weigh once events ≡ length events = weigh_once events in omega (arith, later))

-- and for its size
abbrev size_by : Call → Reply → ℕ
size_by call reply = length (ints_of call) + (length (listed_by call) + size_of_reply reply)

weigh_size : (events : List Event) → weigh size_by events ≡ total_size events
weigh_size [] = refl
weigh_size (event ∷ events) = ap (λ t. size_of event + t) (weigh_size events)

pub same_length : (one other : List Event) → ((rank : ℕ) → view_of one rank ≡ view_of other rank) → length one ≡ length other
same_length one other same = sym (weigh_once one) ∙ (weigh_same once one other same ∙ weigh_once other)

pub same_size : (one other : List Event) → ((rank : ℕ) → view_of one rank ≡ view_of other rank) → total_size one ≡ total_size other
same_size one other same = sym (weigh_size one) ∙ (weigh_same size_by one other same ∙ weigh_size other)
