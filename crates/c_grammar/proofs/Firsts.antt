-- The first fault of the grammar is where reading stops, so a text has one at most, and none where it has a tree.
use Rattle.std.proofs.Common.{◌≡◌, inl, inr, ◌≤◌, List, [], ◌∷◌, ◌++◌, length, Option, Some, None, Ok, Err, refl, sym, ap, ◌∙◌, append_assoc, arith, length-append, IfSome}
use Rattle.c_grammar.specs.declared.terminal.Terminal.{Terminal}
use Rattle.c_lex.specs.declared.fault.Why.{Why}
use Rattle.c_lex.specs.declared.fault.Why.TheVariants.{Unexpected, TooDeep}
use Rattle.c_grammar.specs.Reading.{Fault, Answer, refuse}
use Rattle.c_grammar.specs.Faults.{NoneGoesOn, IsUnexpected, IsTooDeep}
use Rattle.c_grammar.specs.StmtGrammar.{AreExternals}
use Rattle.c_grammar.specs.StmtReading.{read_whole_text}
use Rattle.c_grammar.specs.Programs.{spelling, first_too_deep, IsSyntaxFault}
use Rattle.c_grammar.specs.Tree.{Tree}
use Rattle.c_grammar.proofs.Local.{IsLocal}
use Rattle.c_grammar.proofs.Laws.{outcome, GoesOn, HasHead, seen}
use Rattle.c_grammar.proofs.Exact.{longer, same_fault, test_le}
use Rattle.c_grammar.proofs.ExternalLaws.{program_laws}
use Rattle.c_grammar.proofs.Programs.{complete, goes, read_tree}

nothing_behind : (v : List Terminal) → v ++ [] ≡ v
nothing_behind [] = refl
nothing_behind (x ∷ v) = ap (λ z. x ∷ z) (nothing_behind v)

-- two fronts of one list, after which as much is left
same_length : (front c z d : List Terminal) → front ++ z ≡ c ++ d → length z ≡ length d → (front ≡ c) × (z ≡ d)
same_length [] [] z d e l = (refl, e)
same_length [] (y ∷ c) z d e l = absurd (let k = ap length e in omega (arith, length-append c d))
same_length (x ∷ front) [] z d e l = absurd (let k = ap length e in omega (arith, length-append front z))
same_length (x ∷ front) (y ∷ c) z d e l =
    let k = same_length front c z d (cc) l in let h : x ≡ y = cc in
    (ap (λ v. v ∷ front) h ∙ ap (λ v. y ∷ v) k.0, k.1)

module _ {A : Type 0} (spelled : A → List Terminal) (Good : A → Type 0) (first_too_deep : A → Option (List Terminal)) (whole : List Terminal → Answer A)
    (local : IsLocal whole)
    (complete : (a : A) → Good a → whole (spelled a) ≡ outcome (first_too_deep a) a [])
    (goes : (ts : List Terminal) (f : Fault) → whole ts ≡ Err f → GoesOn (λ a rest. spelled a) Good ts f)
    (sound : (ts : List Terminal) (y : A × List Terminal) → whole ts ≡ Ok y → Good y.0 × (ts ≡ spelled y.0)) where
  pub deep_read : (ts rest : List Terminal) → IsTooDeep spelled Good first_too_deep ts rest → whole ts ≡ refuse TooDeep rest
  deep_read ts rest h =
      let f : Fault = record { why = TooDeep; rest = h.head ∷ h.more } in
      let tree : whole (h.front ++ h.head ∷ h.more) ≡ Err f =
      ap whole (sym h.spells) ∙ complete h.tree h.good ∙ ap (λ o. outcome o h.tree []) h.deep in
      ap whole (h.is ∙ ap (λ v. h.front ++ v) h.at)
      ∙ same_fault spelled Good first_too_deep whole local complete goes h.front h.head h.more h.tail f tree refl
      ∙ ap (λ v. refuse TooDeep v) (sym h.at)

  -- the text itself is none that no text goes on as
  no_text_is : (front rest : List Terminal) (a : A) → Good a → spelled a ≡ front ++ rest → NoneGoesOn spelled Good first_too_deep front rest → ⊥
  no_text_is front [] a g s none = none a g (s ∙ nothing_behind front)
  no_text_is front (x ∷ r) a g s none = none a r g s

  -- reading goes on after a terminal that none goes on with
  not_later : (front rest : List Terminal) (x : Terminal) (u z : List Terminal) (a : A) → Good a → spelled a ≡ (front ++ x ∷ u) ++ z → (r : List Terminal) → rest ≡ x ∷ r
      → NoneGoesOn spelled Good first_too_deep front rest → ⊥
  not_later front [] x u z a g s r is none = absurd (cc)
  not_later front (y ∷ rest) x u z a g s r is none =
      let e : y ≡ x = cc in
      none a (u ++ z) g (s ∙ append_assoc front (x ∷ u) z ∙ ap (λ v. front ++ v ∷ (u ++ z)) (sym e))

  -- reading stops before a terminal that some text goes on to, with nothing too deep
  not_earlier : (front : List Terminal) (x : Terminal) (u rest z : List Terminal) (f : Fault) (a : A) → whole (front ++ x ∷ (u ++ rest)) ≡ Err f → f.rest ≡ x ∷ (u ++ rest)
      → Good a → spelled a ≡ front ++ x ∷ (u ++ z) → IfSome (first_too_deep a) (λ d. length d ≤ length z) → ⊥
  not_earlier front x u rest z f a h e g s below = go (first_too_deep a) (complete a g) below
    where
      there : whole (spelled a) ≡ refuse f.why (x ∷ (u ++ z))
      there = ap whole s ∙ same_fault spelled Good first_too_deep whole local complete goes front x (u ++ rest) (u ++ z) f h e

      go : (o : Option (List Terminal)) → whole (spelled a) ≡ outcome o a [] → IfSome o (λ d. length d ≤ length z) → ⊥
      go None k l = absurd (let m : ◌≡◌ {A = Answer A} (refuse f.why (x ∷ (u ++ z))) (Ok (a, [])) = sym there ∙ k in cc)
      go (Some d) k l =
          let m : ◌≡◌ {A = Answer A} (refuse f.why (x ∷ (u ++ z))) (refuse TooDeep d) = sym there ∙ k in
          let p : Fault = record { why = f.why; rest = x ∷ (u ++ z) } in let q : Fault = record { why = TooDeep; rest = d } in
          let same : p ≡ q = cc in let rests = ap (λ (f : Fault). length f.rest) same in
          absurd (omega (arith, l, length-append u z))

  not_there : (front rest : List Terminal) (x : Terminal) (z r : List Terminal) (a : A) → Good a → spelled a ≡ front ++ x ∷ z → rest ≡ x ∷ r → NoneGoesOn spelled Good first_too_deep front rest → ⊥
  not_there front rest x z r a g s is none = not_later front rest x [] z a g (s ∙ sym (append_assoc front (x ∷ []) z)) r is none

  -- reading stops there for another reason
  no_other : (front rest : List Terminal) (why : Why) → NoneGoesOn spelled Good first_too_deep front rest → HasHead why rest
      → (a : A) (z : List Terminal) → Good a → spelled a ≡ front ++ (seen why rest ++ z) → refuse {A = A} why rest ≡ refuse Unexpected rest
  no_other front rest Unexpected none head a z g s = refl
  no_other front [] TooDeep none head a z g s = absurd head
  no_other front (x ∷ r) TooDeep none head a z g s = absurd (not_there front (x ∷ r) x z r a g s refl none)
  no_other front rest _ none head a z g s = absurd head

  pub unexpected_read : (ts rest : List Terminal) → IsUnexpected spelled Good first_too_deep ts rest → whole ts ≡ refuse Unexpected rest
  unexpected_read ts rest h = go (whole ts) refl
    where
      stopped : (f : Fault) → whole ts ≡ Err f → GoesOn (λ a rest. spelled a) Good ts f → whole ts ≡ refuse Unexpected rest
      stopped f k g = elim (test_le (length rest) (length f.rest)) [
        | inl l ↦ elim (test_le (length f.rest) (length rest)) [
          | inl m ↦
              let e = same_length g.front h.front f.rest rest (sym g.is ∙ h.is) (omega arith) in
              let n : NoneGoesOn spelled Good first_too_deep g.front f.rest = rw (e.0, e.1) h.none in
              let b = g.goes [] in
              k ∙ no_other g.front f.rest f.why n g.head g.tree b.0 g.good b.1 ∙ ap (λ v. refuse Unexpected v) e.1
          | inr m ↦
              let w = longer h.front rest g.front f.rest (sym h.is ∙ g.is) m in
              absurd (not_earlier g.front w.x w.u rest h.before.1 f h.before.0 (ap whole (sym (g.is ∙ ap (λ v. g.front ++ v) w.d_is)) ∙ k) w.d_is h.before.2
              (h.before.3 ∙ ap (λ v. v ++ h.before.1) w.front_is ∙ append_assoc g.front (w.x ∷ w.u) h.before.1) h.before.4)
        ]
        | inr l ↦
            let w = longer g.front f.rest h.front rest (sym g.is ∙ h.is) l in let b = g.goes [] in
            absurd (not_later h.front rest w.x w.u (seen f.why f.rest ++ b.0) g.tree g.good (b.1 ∙ ap (λ v. v ++ (seen f.why f.rest ++ b.0)) w.front_is) (w.u ++ f.rest) w.d_is h.none)
      ]

      go : (a : Answer A) → whole ts ≡ a → whole ts ≡ refuse Unexpected rest
      go (Ok y) k = let s = sound ts y k in absurd (no_text_is h.front rest y.0 s.0 (sym s.1 ∙ h.is) h.none)
      go (Err f) k = stopped f k (goes ts f k)

is_tree : (ts : List Terminal) (y : Tree × List Terminal) → read_whole_text ts ≡ Ok y → AreExternals y.0 × (ts ≡ spelling y.0)
is_tree ts y h = let t = read_tree ts y.0 y.1 h in (t.0, t.1)

-- the first fault is where reading stops
pub fault_read : (ts : List Terminal) (why : Why) (rest : List Terminal) → IsSyntaxFault ts why rest → read_whole_text ts ≡ refuse why rest
fault_read ts Unexpected rest h = unexpected_read spelling AreExternals first_too_deep read_whole_text program_laws.local complete goes is_tree ts rest h
fault_read ts TooDeep rest h = deep_read spelling AreExternals first_too_deep read_whole_text program_laws.local complete goes is_tree ts rest h
fault_read ts _ rest h = absurd h
