-- What every run of a lawful program keeps.
use Rattle.std.proofs.Common.{◌++◌, ◌<◌, ◌==◌, ◌∙◌, ◌∷◌, ◌≡◌, ◌≤◌, List, None, Some, [], inl, inr, refl, subst, sym, true, ℕ}
use Rattle.std.proofs.lemmas.Bool.{eqb-true, false_from_ne_true, or_cases, or_left, or_right}
use Rattle.std.specs.List.{list_any}
use Rattle.mpi_call.specs.declared.call.Call.{Call}
use Rattle.mpi_call.specs.declared.reply.Reply.{Reply}
use Rattle.mpi_call.specs.declared.reply.Reply.TheVariants.{Done, NotYet, Peeked, Stopped, Took}
use Rattle.run_model.specs.declared.event.Event.{Event}
use Rattle.run_model.specs.Lists.{world}
use Rattle.run_model.specs.Pairs.{IsMatched}
use Rattle.run_model.specs.Program.{EndsExactly, EntersInForm, IsRankOf, IsNextSeen, IsViewOf, ends}
use Rattle.run_model.specs.Run.{IsEvent, IsRun}
use Rattle.run_model.specs.Shape.{has_shape}
use Rattle.run_model.specs.Views.{Next, View, replies_in, view_of}
use Rattle.run_model.proofs.Along.{Along-back, Along-front, Along-keeps, Along-snoc}
use Rattle.run_model.proofs.Halts.{NamedStopped, is_stopped, named_more, names, was_stopped}
use Rattle.run_model.proofs.Instances.{Instances, Instances-more}
use Rattle.run_model.proofs.Matched.{none_matched}
use Rattle.run_model.proofs.Meeting.{event_matched}
use Rattle.run_model.specs.Forms.{AreMembers}
use Rattle.run_model.proofs.MemberLists.{AreMembers-world}
use Rattle.run_model.proofs.Origins.{AllBelow, AllBelow-more, KeepsInstances-event}
use Rattle.run_model.proofs.Shapes.{Unnamed, allowed_shaped}
use Rattle.run_model.proofs.Views.{test_cases, view_of-other, view_of-own}

-- the laws of a program that its runs rest on
pub record Lawful (next : Next) : Type 0 where
  pub ends : EndsExactly next
  pub enters : EntersInForm next

-- a prefix of a run is a run
pub IsRun-front : (next : Next) (n : ℕ) (xs ys : List Event) → IsRun next n (xs ++ ys) → IsRun next n xs
IsRun-front next n xs ys run = record { some = run.some; few = run.few; along = Along-front (IsEvent next n) [] xs ys run.along }

-- the event at a place of a run, after those before it
pub IsRun-event : (next : Next) (n : ℕ) (before after : List Event) (event : Event) → IsRun next n (before ++ event ∷ after)
    → IsEvent next n before event
IsRun-event next n before after event run = (Along-back (IsEvent next n) [] before (event ∷ after) run.along).0

no_instances : (n : ℕ) → Instances n (view_of [])
no_instances n =
    record {
      same = record {
        agrees = λ r s comm instance one two p q. absurd (cc);
        joins = λ r comm instance one p. absurd (cc);
        members = λ r s comm one two p q. (let e : Some one ≡ Some two = sym p ∙ q in cc);
        fine = λ r comm members low p. elim (test_cases (comm == 0)) [
          | inl t ↦ (
              let e : Some (world n 0) ≡ Some members = rw t at p in
              let same : world n 0 ≡ members = cc in
              subst (AreMembers n r) same (AreMembers-world n r low))
          | inr t ↦ (let no : None ≡ Some members = rw t at p in absurd (cc))
        ];
      };
      sources = λ r comm members p real. (let no : None ≡ Some members = rw real at p in absurd (cc));
    }

pub record Kept (next : Next) (n : ℕ) (events : List Event) : Type 0 where
  pub instances : Instances n (view_of events)
  pub below : AllBelow n events
  pub matched : IsMatched events
  pub halts : NamedStopped events
  pub came : (rank : ℕ) → rank < n → IsViewOf next n rank (view_of events rank)

stopped_ends : (call : Call) (reply : Reply) → is_stopped reply ≡ true → ends (call, reply) ≡ true
stopped_ends call (Stopped halt) h = refl
stopped_ends call Done h = absurd (cc)
stopped_ends call NotYet h = absurd (cc)
stopped_ends call (Took items) h = absurd (cc)
stopped_ends call (Peeked source start tag count) h = absurd (cc)

was_stopped-ends : (view : View) → was_stopped view ≡ true → list_any ends view ≡ true
was_stopped-ends [] h = absurd (cc)
was_stopped-ends ((call, reply) ∷ view) h =
    elim (or_cases (is_stopped reply) (was_stopped view) h) [
      | inl t ↦ or_left (ends (call, reply)) (list_any ends view) (stopped_ends call reply t)
      | inr t ↦ or_right (ends (call, reply)) (list_any ends view) (was_stopped-ends view t)
    ]

-- a live rank is one that no halt names
unnamed_live : (next : Next) (n : ℕ) (before : List Event) (me : ℕ) (call : Call) → Lawful next → Kept next n before
    → IsRankOf n me → next n me (replies_in (view_of before me)) ≡ Some call → Unnamed before me
unnamed_live next n before me call lawful kept rank live =
    record {
      unnamed = λ halt h. false_from_ne_true (names me halt) (λ named.
          let stopped = kept.halts.each halt me h named in
          let ended = was_stopped-ends (view_of before me) stopped in
          let none = (lawful.ends n me (view_of before me) rank (kept.came me rank.2)).1 ended in
          let no : Some call ≡ None = sym live ∙ none in
          cc);
    }

-- the reply of the next event has its call's shape
pub event_shaped : (next : Next) (n : ℕ) (before : List Event) (event : Event) → Lawful next → 0 < n → n ≤ 64 → Kept next n before
    → IsEvent next n before event → has_shape n event.rank (view_of before event.rank) event.call event.reply ≡ true
event_shaped next n before event lawful some few kept step =
    let unnamed = unnamed_live next n before event.rank event.call lawful kept (some, few, step.rank) step.call in
    allowed_shaped next n before event.rank event.call event.reply kept.matched (record { same = kept.instances.same; below = step.rank }) unnamed step.reply

came_more : (next : Next) (n : ℕ) (before : List Event) (event : Event) (rank : ℕ) → IsViewOf next n rank (view_of before rank)
    → IsEvent next n before event → has_shape n event.rank (view_of before event.rank) event.call event.reply ≡ true
    → IsViewOf next n rank (view_of (before ++ event ∷ []) rank)
came_more next n before event rank came step shaped =
    elim (test_cases (event.rank == rank)) [
      | inl h ↦ (
          let F : ℕ → Type 0 = λ r. IsViewOf next n r (view_of before r) → IsViewOf next n r (view_of (before ++ event ∷ []) r) in
          let own : F event.rank = λ here.
          rw (view_of-own before event)
          (Along-snoc (IsNextSeen next n event.rank) [] (view_of before event.rank) (event.call, event.reply) here
          (record { asked = step.call; shaped = shaped })) in
          subst F (eqb-true event.rank rank h) own came)
      | inr h ↦ rw (view_of-other before event rank h) came
    ]

kept_more : (next : Next) (n : ℕ) → Lawful next → 0 < n → n ≤ 64 → (before : List Event) (event : Event) → Kept next n before
    → IsEvent next n before event → Kept next n (before ++ event ∷ [])
kept_more next n lawful some few before event kept step =
    let form = lawful.enters n event.rank (view_of before event.rank) event.call (some, few, step.rank) (kept.came event.rank step.rank) step.call in
    let shaped = event_shaped next n before event lawful some few kept step in
    record {
      instances = Instances-more n before event step.rank kept.instances (KeepsInstances-event next n before event kept.below form step);
      below = AllBelow-more n before event kept.below step.rank;
      matched = event_matched next n before event step;
      halts = named_more next n before event kept.halts step;
      came = λ rank low. came_more next n before event rank (kept.came rank low) step shaped;
    }

pub kept_run : (next : Next) (n : ℕ) (run : List Event) → Lawful next → IsRun next n run → Kept next n run
kept_run next n run lawful is_run =
    Along-keeps (IsEvent next n) (Kept next n) (kept_more next n lawful is_run.some is_run.few) [] run
    (record {
      instances = no_instances n;
      below = record { empty = λ rank above. refl };
      matched = none_matched;
      halts = record { each = λ halt rank h named. absurd (cc) };
      came = λ rank low. tt;
    })
    is_run.along
