-- The halt of a run shows in what its ranks have seen.
use Rattle.std.proofs.Common.{◌≡◌, ◌==◌, ◌∙◌, ◌++◌, ◌∷◌, if◌then◌else◌, ℕ, List, [], Option, Some, None, inl, inr, refl, ap, sym, subst}
use Rattle.std.proofs.lemmas.Bool.{eq-eqb, eqb-true}
use Rattle.mpi_call.specs.declared.call.Call.{Call}
use Rattle.mpi_call.specs.declared.call.Halt.{Halt}
use Rattle.mpi_call.specs.declared.call.Halt.TheVariants.{Limit}
use Rattle.mpi_call.specs.declared.reply.Reply.{Reply}
use Rattle.mpi_call.specs.declared.reply.Reply.TheVariants.{Stopped}
use Rattle.run_model.specs.declared.event.Event.{Event}
use Rattle.run_model.specs.Allowed.{IsAllowedBy, IsStuck}
use Rattle.run_model.specs.Due.{halt_at, halt_of_reply, halted, is_full, or_else}
use Rattle.run_model.specs.Run.{IsPromptEvent, IsPromptRun}
use Rattle.run_model.specs.Views.{Next, View, moment_at, view_of}
use Rattle.run_model.proofs.Along.{Along-keeps}
use Rattle.run_model.proofs.Views.{option_cases, test_cases, view_of-mine, view_of-other}

-- the halt of the first Stopped reply of a view
abbrev halt_of : View → Option Halt
halt_of [] = None
halt_of ((call, reply) ∷ view) = or_else (halt_of_reply reply) (halt_of view)

-- it stands in some rank's view
halt_seen : (events : List Event) (halt : Halt) → halted events ≡ Some halt → (rank : ℕ) × (halt_of (view_of events rank) ≡ Some halt)
halt_seen [] halt h = absurd (cc)
halt_seen (event ∷ events) halt h =
    elim (option_cases (halt_of_reply event.reply)) [
      | inl some ↦ (event.rank, rw (eq-eqb event.rank event.rank refl, some.1) (rw some.1 at h))
      | inr none ↦
          let later = halt_seen events halt (rw none at h) in (
            later.0,
            elim (test_cases (event.rank == later.0)) [
              | inl t ↦ rw (t, none) later.1
              | inr f ↦ rw f later.1
            ],
          )
    ]

-- where there is none no rank has seen one
none_seen : (events : List Event) (rank : ℕ) → halted events ≡ None → halt_of (view_of events rank) ≡ None
none_seen [] rank h = refl
none_seen (event ∷ events) rank h =
    elim (option_cases (halt_of_reply event.reply)) [
      | inl some ↦ (let no : Some some.0 ≡ None = rw some.1 at h in absurd (cc))
      | inr none ↦
          let later : halt_of (view_of events rank) ≡ None = none_seen events rank (rw none at h) in
          elim (test_cases (event.rank == rank)) [
            | inl t ↦ rw (t, none) later
            | inr f ↦ rw f later
          ]
    ]

or_else-more : (a b c : Option Halt) → or_else a (or_else b c) ≡ or_else (or_else a b) c
or_else-more None b c = refl
or_else-more (Some halt) b c = refl

or_else-last : (a : Option Halt) → or_else a None ≡ a
or_else-last None = refl
or_else-last (Some halt) = refl

pub halted-append : (xs ys : List Event) → halted (xs ++ ys) ≡ or_else (halted xs) (halted ys)
halted-append [] ys = refl
halted-append (x ∷ xs) ys = rw (halted-append xs ys) (or_else-more (halt_of_reply x.reply) (halted xs) (halted ys))

halted-more : (before : List Event) (event : Event) → halted (before ++ event ∷ []) ≡ or_else (halted before) (halt_of_reply event.reply)
halted-more before event = halted-append before (event ∷ []) ∙ ap (or_else (halted before)) (or_else-last (halt_of_reply event.reply))

halt_of-more : (view : View) (call : Call) (reply : Reply) → halt_of (view ++ (call, reply) ∷ []) ≡ or_else (halt_of view) (halt_of_reply reply)
halt_of-more [] call reply = or_else-last (halt_of_reply reply)
halt_of-more ((c, r) ∷ view) call reply = rw (halt_of-more view call reply) (or_else-more (halt_of_reply r) (halt_of view) (halt_of_reply reply))

-- in a run each rank that has seen a halt has seen the run's
record HasOneHalt (events : List Event) : Type 0 where
  each : (rank : ℕ) (halt : Halt) → halt_of (view_of events rank) ≡ Some halt → halted events ≡ Some halt

one_halt_more : (next : Next) (n : ℕ) (before : List Event) (event : Event) → HasOneHalt before → IsPromptEvent next n before event
    → HasOneHalt (before ++ event ∷ [])
one_halt_more next n before event one step =
    record {
      each = λ rank halt h. elim (test_cases (event.rank == rank)) [
        | inl t ↦
            let mine : view_of (before ++ event ∷ []) rank ≡ view_of before rank ++ (event.call, event.reply) ∷ [] = view_of-mine before event rank (eqb-true event.rank rank t) in
            let seen : or_else (halt_of (view_of before rank)) (halt_of_reply event.reply) ≡ Some halt =
            sym (halt_of-more (view_of before rank) event.call event.reply) ∙ (ap halt_of (sym mine) ∙ h) in
            elim (option_cases (halt_of (view_of before rank))) [
              | inl was ↦
                  let same : Some was.0 ≡ Some halt = rw was.1 at seen in
                  halted-more before event ∙ (ap (λ o. or_else o (halt_of_reply event.reply)) (one.each rank was.0 was.1) ∙ same)
              | inr none ↦
                  let last : halt_of_reply event.reply ≡ Some halt = rw none at seen in
                  elim (option_cases (halted before)) [
                    | inl some ↦
                        let F : Option Halt → Type 0 = λ o. IsAllowedBy
                        (or_else o (if is_full before then Some Limit else halt_at n before event.rank (view_of before event.rank) event.call))
                        (IsStuck next n before) (moment_at n before event.rank) event.call event.reply in
                        let stopped : event.reply ≡ Stopped some.0 = subst F some.1 step.reply in
                        let same : Some some.0 ≡ Some halt = sym (ap halt_of_reply stopped) ∙ last in
                        halted-more before event ∙ (ap (λ o. or_else o (halt_of_reply event.reply)) some.1 ∙ same)
                    | inr free ↦ halted-more before event ∙ (ap (λ o. or_else o (halt_of_reply event.reply)) free ∙ last)
                  ]
            ]
        | inr f ↦
            let was : halt_of (view_of before rank) ≡ Some halt = ap halt_of (sym (view_of-other before event rank f)) ∙ h in
            halted-more before event ∙ ap (λ o. or_else o (halt_of_reply event.reply)) (one.each rank halt was)
      ];
    }

one_halt : (next : Next) (n : ℕ) (run : List Event) → IsPromptRun next n run → HasOneHalt run
one_halt next n run is = Along-keeps (IsPromptEvent next n) HasOneHalt (one_halt_more next n) [] run (record { each = λ rank halt h. absurd (cc) }) is.along

-- so runs of the same views have the same halt
pub halts_same : (next : Next) (n : ℕ) (one other : List Event) → IsPromptRun next n one → IsPromptRun next n other
    → ((rank : ℕ) → view_of one rank ≡ view_of other rank) → halted one ≡ halted other
halts_same next n one other first second same =
    elim (option_cases (halted one)) [
      | inl some ↦
          let p = halt_seen one some.0 some.1 in
          some.1 ∙ sym ((one_halt next n other second).each p.0 some.0 (ap halt_of (sym (same p.0)) ∙ p.1))
      | inr none ↦ elim (option_cases (halted other)) [
        | inl some ↦
            let p = halt_seen other some.0 some.1 in
            let no : None ≡ Some some.0 = sym none ∙ (one_halt next n one first).each p.0 some.0 (ap halt_of (same p.0) ∙ p.1) in
            absurd (cc)
        | inr free ↦ none ∙ sym free
      ]
    ]

-- and where one history has none, none of the same views has one
pub no_halt_same : (one other : List Event) → ((rank : ℕ) → view_of one rank ≡ view_of other rank) → halted one ≡ None → halted other ≡ None
no_halt_same one other same none =
    elim (option_cases (halted other)) [
      | inl some ↦
          let p = halt_seen other some.0 some.1 in
          let no : None ≡ Some some.0 = sym (none_seen one p.0 none) ∙ (ap halt_of (same p.0) ∙ p.1) in
          absurd (cc)
      | inr free ↦ free
    ]
