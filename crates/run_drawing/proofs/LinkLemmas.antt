-- One more link.
use Rattle.std.proofs.Common.{◌≡◌, ◌==◌, ◌++◌, ◌∷◌, [], ℕ, Bool, List, Option, Some, None, false, if◌then◌else◌, find, inl, inr, nat_eq, refl, ap, sym, ◌∙◌}
use Rattle.std.specs.Map.{lookup}
use Rattle.run_model.proofs.Views.{test_cases}
use Rattle.causes.specs.Positions.{is_at_position}
use Rattle.run_drawing.specs.declared.links.CompletedStart.{CompletedStart}
use Rattle.run_drawing.specs.declared.links.Links.{Links}
use Rattle.run_drawing.specs.inside.Scenes.{AreIndexed, or_link}

or_none : (link : Option CompletedStart) → or_link link None ≡ link
or_none None = refl
or_none (Some link) = refl

pub find_more : (test : CompletedStart → Bool) (xs : List CompletedStart) (x : CompletedStart) → find test (xs ++ x ∷ []) ≡ or_link (find test xs) (if test x then Some x else None)
find_more test [] x = refl
find_more test (y ∷ xs) x =
    elim (test_cases (test y)) [
      | inl h ↦ rw h refl
      | inr h ↦ rw h (find_more test xs x)
    ]

-- a key that has a link keeps it
pub kept_there : (old : Option CompletedStart) (key p : ℕ) (link : CompletedStart) → (key == p) ≡ false → or_link old (if key == p then Some link else None) ≡ old
kept_there old key p link h = rw h (or_none old)

-- links with one more are indexed by tables with one more
pub indexed_more : (old new : Links) (link : CompletedStart) → AreIndexed old
    → ((p : ℕ) → lookup (nat_eq p) new.by_start.entries ≡ or_link (lookup (nat_eq p) old.by_start.entries) (if link.start == p then Some link else None))
    → ((p : ℕ) → lookup (nat_eq p) new.by_cause.entries ≡ or_link (lookup (nat_eq p) old.by_cause.entries) (if is_at_position link.cause p then Some link else None))
    → new.list.items ≡ old.list.items ++ link ∷ []
    → AreIndexed new
indexed_more old new link are starts causes list = record {
  starts = λ p.
      starts p
      ∙ ap (λ o. or_link o (if link.start == p then Some link else None)) (are.starts p)
      ∙ sym (find_more (λ (l : CompletedStart). l.start == p) old.list.items link)
      ∙ ap (find (λ (l : CompletedStart). l.start == p)) (sym list);
  causes = λ p.
      causes p
      ∙ ap (λ o. or_link o (if is_at_position link.cause p then Some link else None)) (are.causes p)
      ∙ sym (find_more (λ (l : CompletedStart). is_at_position l.cause p) old.list.items link)
      ∙ ap (find (λ (l : CompletedStart). is_at_position l.cause p)) (sym list);
}
