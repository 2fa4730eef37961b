-- Entries that grow by one at most.
use Rattle.std.proofs.Common.{◌≡◌, ◌≢◌, ℕ, zero, suc, ◌<◌, ◌==◌, List, [], ◌∷◌, ◌++◌, All, sym, ap, ◌∙◌, subst, ⊎_elim, arith, append_assoc, ne_eqb}
use Rattle.std.proofs.lemmas.List.{append-nil}
use Rattle.std.proofs.lemmas.List.Elements.{filter-append, All-append}
use Rattle.turn_lock.specs.Entries.{entries_of, StartsWith, Grows}

module _ {E : Type 0} where
  pub starts_longer : (es more seen : List (ℕ × E)) → StartsWith es seen → StartsWith (es ++ more) seen
  starts_longer es more seen h = (h.0 ++ more, ap (λ (z : List (ℕ × E)). z ++ more) h.1 ∙ append_assoc seen h.0 more)

  -- entries that are equal to the seen ones begin with them
  pub starts_whole : (es seen : List (ℕ × E)) → seen ≡ es → StartsWith es seen
  starts_whole es seen e = ([], sym e ∙ sym (append-nil seen))

  -- an entry of the seat k leaves those of another seat
  of_other : (k k' : ℕ) (e : E) (es : List (ℕ × E)) → k ≢ k' → entries_of k' (es ++ (k, e) ∷ []) ≡ entries_of k' es
  of_other k k' e es ne = filter-append (λ (p : ℕ × E). p.0 == k') es ((k, e) ∷ []) ∙ (rw (ne_eqb k k' ne) (append-nil (entries_of k' es)))

  pub grown_other : (k k' : ℕ) (before after : List (ℕ × E)) → k ≢ k' → Grows k before after → entries_of k' before ≡ entries_of k' after
  grown_other k k' before after ne g = ⊎_elim (λ (same : after ≡ before). ap (entries_of k') (sym same))
      (λ (more : (e : E) × (after ≡ before ++ (k, e) ∷ [])). sym (ap (entries_of k') more.1 ∙ of_other k k' more.0 before ne)) g

  pub grown_starts : (k : ℕ) (before after seen : List (ℕ × E)) → Grows k before after → StartsWith before seen → StartsWith after seen
  grown_starts k before after seen g h = ⊎_elim (λ (same : after ≡ before). subst (λ (z : List (ℕ × E)). StartsWith z seen) (sym same) h)
      (λ (more : (e : E) × (after ≡ before ++ (k, e) ∷ [])). subst (λ (z : List (ℕ × E)). StartsWith z seen) (sym more.1) (starts_longer before ((k, more.0) ∷ []) seen h)) g

  pub grown_numbers : (seats k : ℕ) (before after : List (ℕ × E)) → k < seats → Grows k before after
      → All (λ (e : ℕ × E). e.0 < seats) before → All (λ (e : ℕ × E). e.0 < seats) after
  grown_numbers seats k before after lt g h =
      let P : ℕ × E → Type 0 = λ e. e.0 < seats in
      ⊎_elim (λ (same : after ≡ before). subst (All P) (sym same) h)
      (λ (more : (e : E) × (after ≡ before ++ (k, e) ∷ [])). subst (All P) (sym more.1) (All-append P before ((k, more.0) ∷ []) h (only more.0))) g
    where
      only : (e : E) → All (λ (p : ℕ × E). p.0 < seats) ((k, e) ∷ [])
      only e zero d inside = lt
      only e (suc i) d inside = absurd (omega arith)
