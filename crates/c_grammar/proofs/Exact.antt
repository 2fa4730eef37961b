-- From what a reader keeps: a whole text has its tree, and else the first fault of the grammar.
use Rattle.std.proofs.Common.{◌≡◌, ◌⊎◌, inl, inr, ◌<◌, ◌≤◌, ℕ, zero, suc, List, [], ◌∷◌, ◌++◌, length, Option, Some, None, Ok, Err, refl, sym, ap, ◌∙◌, append_assoc, arith, length-append, IfSome}
use Rattle.c_grammar.specs.declared.terminal.Terminal.{Terminal}
use Rattle.c_lex.specs.declared.fault.Why.TheVariants.{Unexpected, TooDeep}
use Rattle.c_grammar.specs.Reading.{Fault, Answer, refuse}
use Rattle.c_grammar.specs.Faults.{IsTextOf, NoneGoesOn, IsUnexpected, IsTooDeep}
use Rattle.c_grammar.proofs.Local.{IsLocal, rest_of, with_rest}
use Rattle.c_grammar.proofs.Laws.{outcome, GoesOn, unexpected}

pub test_le : (m n : ℕ) → (m ≤ n) ⊎ (n < m)
test_le zero n = inl (omega arith)
test_le (suc m) zero = inr (omega arith)
test_le (suc m) (suc n) = elim (test_le m n) [ inl h ↦ inl (omega arith) | inr h ↦ inr (omega arith) ]

pub record Longer (front z c d : List Terminal) : Type 0 where
  pub x : Terminal
  pub u : List Terminal
  pub d_is : d ≡ x ∷ (u ++ z)
  pub front_is : front ≡ c ++ x ∷ u

pub longer : (front z c d : List Terminal) → front ++ z ≡ c ++ d → length z < length d → Longer front z c d
longer [] z c d e l = absurd (omega (arith, ap length e, length-append c d))
longer (x ∷ front) z [] d e l = record { x = x; u = front; d_is = sym e; front_is = refl }
longer (x ∷ front) z (y ∷ c) d e l =
    let k = longer front z c d (cc) l in let h : x ≡ y = cc in
    record { x = k.x; u = k.u; d_is = k.d_is; front_is = ap (λ v. v ∷ front) h ∙ ap (λ v. y ∷ v) k.front_is }

module _ {A : Type 0} (spelled : A → List Terminal) (Good : A → Type 0) (deepest : A → Option (List Terminal)) (whole : List Terminal → Answer A)
    (local : IsLocal whole)
    (complete : (a : A) → Good a → whole (spelled a) ≡ outcome (deepest a) a [])
    (goes : (ts : List Terminal) (f : Fault) → whole ts ≡ Err f → GoesOn (λ a rest. spelled a) Good ts f) where
  -- the same answer at the same terminal, whatever follows it
  pub same_fault : (front : List Terminal) (x : Terminal) (r r' : List Terminal) (f : Fault) → whole (front ++ x ∷ r) ≡ Err f → f.rest ≡ x ∷ r → whole (front ++ x ∷ r') ≡ refuse f.why (x ∷ r')
  same_fault front x r r' f h e =
      local.alike front x r r' [] (ap rest_of h ∙ e) ∙ ap (λ a. with_rest a (x ∷ r')) h

  not_before : (ts : List Terminal) (f : Fault) (front z : List Terminal) (a : A) → f.why ≡ Unexpected → whole ts ≡ Err f → ts ≡ front ++ f.rest → Good a → spelled a ≡ front ++ z
      → IfSome (deepest a) (λ d. length d ≤ length z)
  not_before ts f front z a why h e g s = go (deepest a) (complete a g)
    where
      go : (o : Option (List Terminal)) → whole (spelled a) ≡ outcome o a [] → IfSome o (λ d. length d ≤ length z)
      go None k = tt
      go (Some d) k = elim (test_le (length d) (length z)) [
        | inl l ↦ l
        | inr l ↦
            let t : whole (front ++ z) ≡ refuse TooDeep d = ap whole (sym s) ∙ k in
            let ends = local.ends (front ++ z) in
            let cut : front ++ z ≡ ends.front ++ d = ends.is ∙ ap (λ v. ends.front ++ rest_of v) t in
            let w = longer front z ends.front d cut l in
            let t2 : whole (ends.front ++ w.x ∷ (w.u ++ z)) ≡ refuse TooDeep d =
            ap whole (sym (append_assoc ends.front (w.x ∷ w.u) z) ∙ ap (λ v. v ++ z) (sym w.front_is)) ∙ t in
            let far : whole (ends.front ++ w.x ∷ (w.u ++ f.rest)) ≡ refuse TooDeep (w.x ∷ (w.u ++ f.rest)) =
            same_fault ends.front w.x (w.u ++ z) (w.u ++ f.rest) (record { why = TooDeep; rest = d }) t2 w.d_is in
            let near : whole ts ≡ refuse TooDeep (w.x ∷ (w.u ++ f.rest)) =
            ap whole (e ∙ ap (λ v. v ++ f.rest) w.front_is ∙ append_assoc ends.front (w.x ∷ w.u) f.rest) ∙ far in
            absurd (let k2 : ◌≡◌ {A = Answer A} (Err f) (refuse TooDeep (w.x ∷ (w.u ++ f.rest))) = sym h ∙ near in
            let k3 : f.why ≡ TooDeep = cc in cc)
      ]

  no_text : (a : A) (rest : List Terminal) → Good a → whole (spelled a) ≡ refuse Unexpected rest → ⊥
  no_text a rest g h = go (deepest a) (complete a g)
    where
      go : (o : Option (List Terminal)) → whole (spelled a) ≡ outcome o a [] → ⊥
      go None k = absurd (cc)
      go (Some d) k = absurd (let m : ◌≡◌ {A = Answer A} (refuse TooDeep d) (refuse Unexpected rest) = sym k ∙ h in
          let f : Fault = record { why = TooDeep; rest = d } in let q : f ≡ unexpected rest = cc in let y = ap (λ (f : Fault). f.why) q in cc)

  none_goes : (ts front rest : List Terminal) → ts ≡ front ++ rest → whole ts ≡ refuse Unexpected rest → NoneGoesOn spelled Good deepest front rest
  none_goes ts front [] e h = λ a g s. no_text a [] g (ap whole (s ∙ sym (e ∙ nil front)) ∙ h)
    where
      nil : (v : List Terminal) → v ++ [] ≡ v
      nil [] = refl
      nil (x ∷ v) = ap (λ z. x ∷ z) (nil v)
  none_goes ts front (x ∷ r) e h = λ a z g s. no_text a (x ∷ z) g (ap whole s ∙ same_fault front x r z (unexpected (x ∷ r)) (ap whole (sym e) ∙ h) refl)

  pub unexpected_is : (ts rest : List Terminal) → whole ts ≡ refuse Unexpected rest → IsUnexpected spelled Good deepest ts rest
  unexpected_is ts rest h =
      let k = goes ts (unexpected rest) h in let m = k.goes [] in
      record {
        front = k.front;
        is = k.is;
        before = (k.tree, m.0, k.good, m.1, not_before ts (unexpected rest) k.front m.0 k.tree refl h k.is k.good m.1);
        none = none_goes ts k.front rest k.is h;
      }

  pub too_deep_is : (ts rest : List Terminal) (x : Terminal) (r : List Terminal) → rest ≡ x ∷ r → whole ts ≡ refuse TooDeep rest → IsTooDeep spelled Good deepest ts rest
  too_deep_is ts rest x r q h =
      let f : Fault = record { why = TooDeep; rest = x ∷ r } in
      let h2 : whole ts ≡ Err f = h ∙ ap (λ v. refuse TooDeep v) q in
      let k = goes ts f h2 in let m = k.goes [] in
      let far : whole (k.front ++ x ∷ m.0) ≡ refuse TooDeep (x ∷ m.0) = same_fault k.front x r m.0 f (ap whole (sym k.is) ∙ h2) refl in
      record {
        front = k.front;
        head = x;
        tail = r;
        at = q;
        is = k.is ∙ ap (λ v. k.front ++ v) (sym q);
        tree = k.tree;
        more = m.0;
        good = k.good;
        spells = m.1;
        deep = it (deepest k.tree) k.tree (x ∷ m.0) (sym (complete k.tree k.good) ∙ ap whole m.1 ∙ far);
      }
    where
      it : (o : Option (List Terminal)) (a : A) (d : List Terminal) → outcome o a [] ≡ refuse TooDeep d → o ≡ Some d
      it None a d e = absurd (cc)
      it (Some c) a d e = let g : ◌≡◌ {A = Answer A} (refuse TooDeep c) (refuse TooDeep d) = e in
          let f : Fault = record { why = TooDeep; rest = c } in let f' : Fault = record { why = TooDeep; rest = d } in let q : f ≡ f' = cc in ap (λ (f : Fault). Some f.rest) q

  pub text_read : (ts : List Terminal) (a : A) → IsTextOf spelled Good deepest ts a → whole ts ≡ Ok (a, [])
  text_read ts a h = ap whole h.1 ∙ complete a h.0 ∙ ap (λ o. outcome o a []) h.2
