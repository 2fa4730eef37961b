-- What may be missing, and things with commas between them.
use Rattle.std.proofs.Common.{◌≡◌, inl, inr, Bool, true, false, ℕ, zero, suc, ◌<◌, ◌≤◌, List, [], ◌∷◌, ◌++◌, length, Option, Some, None, Ok, Err, refl, sym, ap, ◌∙◌, subst, arith, length-append}
use Rattle.c_grammar.specs.declared.terminal.Symbol.{Symbol}
use Rattle.c_grammar.specs.declared.terminal.Symbol.TheVariants as w
use Rattle.c_grammar.specs.declared.terminal.Span.{Span}
use Rattle.c_grammar.specs.declared.terminal.Terminal.{Terminal}
use Rattle.c_grammar.specs.Tree.{CommaList, comma_list}
use Rattle.c_grammar.specs.Symbols.{is}
use Rattle.c_grammar.specs.Grammar.{at, earlier}
use Rattle.c_grammar.specs.StmtGrammar.{spell_maybe, IsMaybe, spell_list, AreAll, spell_symbol, spell_after_comma, spell_comma_list, IsCommaList}
use Rattle.c_grammar.specs.Depth.{deep_maybe, deep_list, deep_comma_list}
use Rattle.c_grammar.specs.Reading.{Fault, Answer, ◌>>=◌, expect, heads, maybe, read_while, many, read_times}
use Rattle.c_grammar.specs.StmtReading.{read_after_comma, read_comma_list}
use Rattle.c_grammar.proofs.Local.{Ends, Alike, here, bind_ends, bind_alike, stays, rest_of, test_cases}
use Rattle.c_grammar.proofs.Laws.{Laws, Apart, GoesOn, within, outcome, last, bind_ok, bind_err}
use Rattle.c_grammar.proofs.Sequence.{Seq, done, token, part, peek, Choice, tree, spells, Fits, laws_of, Chosen}

pub pass : {A B : Type 0} (o : Option (List Terminal)) (a : A) (ts : List Terminal) (f : A × List Terminal → Answer B) (b : B) (us : List Terminal)
    → f (a, ts) ≡ Ok (b, us) → (outcome o a ts >>= f) ≡ outcome o b us
pass None a ts f b us h = h
pass (Some d) a ts f b us h = refl

pub plain : {A : Type 0} (a : Answer A) → a ≡ (a >>= λ p. Ok (p.0, p.1))
plain (Ok x) = refl
plain (Err e) = refl

pub expect_laws : (x : Symbol) → Laws (expect x) (spell_symbol x) (λ p. Unit {0}) (λ p rest. None) (λ p rest. Unit {0})
expect_laws x = laws_of (token x (λ p. done p)) (λ ts. plain (expect x ts)) (λ c rest. refl) (λ c g. tt)
    (λ p g. record { choice = (p, tt); of = refl; fits = tt; depth = λ rest. refl; follows = λ rest o. tt })

-- after what may be missing
abbrev pub OverMaybe : {A : Type 0} → (Symbol → Bool) → (A → List Terminal → Type 0) → Option A → List Terminal → Type 0
OverMaybe goes Over None rest = heads goes rest ≡ false
OverMaybe goes Over (Some a) rest = Over a rest

-- after a list
abbrev pub OverMany : {A : Type 0} → (Symbol → Bool) → (A → Type 0) → (A → List Terminal → Type 0) → List Terminal → Type 0
OverMany {A} goes Good Over rest = (heads goes rest ≡ false) × ((a : A) → Good a → Over a rest)

module _ {A : Type 0} {one : List Terminal → Answer A} {spelled : A → List Terminal → List Terminal} {Good : A → Type 0} {deeps : A → List Terminal → Option (List Terminal)}
    {Over : A → List Terminal → Type 0}
    (l : Laws one spelled Good deeps Over) where
  abbrev maybe_seq : (Symbol → Bool) → Seq (Option A)
  maybe_seq goes = peek goes (part l (λ a. done (Some a))) (done None)

  maybe_spelling : (goes : Symbol → Bool) (c : Choice (maybe_seq goes)) (rest : List Terminal) → spell_maybe spelled (tree (maybe_seq goes) c) rest ≡ spells (maybe_seq goes) c rest
  maybe_spelling goes (inl c) rest = refl
  maybe_spelling goes (inr c) rest = refl

  maybe_good : (goes : Symbol → Bool) (c : Choice (maybe_seq goes)) → Fits (maybe_seq goes) c → IsMaybe Good (tree (maybe_seq goes) c)
  maybe_good goes (inl c) g = g.0
  maybe_good goes (inr c) g = tt

  pub maybe_laws : (goes : Symbol → Bool) → ((a : A) → Good a → (rest : List Terminal) → heads goes (spelled a rest) ≡ true)
      → Laws (maybe goes one) (spell_maybe spelled) (IsMaybe Good) (deep_maybe deeps) (OverMaybe goes Over)
  maybe_laws goes starts = laws_of (maybe_seq goes) (λ ts. refl) (maybe_spelling goes) (maybe_good goes) chosen
    where
      chosen : (o : Option A) → IsMaybe Good o → Chosen (maybe_seq goes) (deep_maybe deeps) (OverMaybe goes Over) o
      chosen None g = record { choice = inr tt; of = refl; fits = tt; depth = λ rest. refl; follows = λ rest o. (o, tt) }
      chosen (Some a) g = record { choice = inl (a, tt); of = refl; fits = (g, tt); depth = λ rest. last (deeps a rest); follows = λ rest o. (starts a g rest, (o, tt)) }

  pub after_comma_laws : Laws (read_after_comma one) (spell_after_comma spelled) (λ b. Good b.1) (λ b rest. deeps b.1 rest) (λ b rest. Over b.1 rest)
  after_comma_laws = laws_of (token w.Comma (λ p. part l (λ a. done (p, a)))) (λ ts. refl) (λ c rest. refl) (λ c g. g.0)
      (λ b g. record { choice = (b.0, (b.1, tt)); of = refl; fits = (g, tt); depth = λ rest. last (deeps b.1 rest); follows = λ rest o. (o, tt) })

some_length : (goes : Symbol → Bool) (ts : List Terminal) → heads goes ts ≡ true → 0 < length ts
some_length goes [] h = absurd (cc)
some_length goes (t ∷ ts) h = omega arith

-- each thing takes a terminal
pub shortens : {A : Type 0} {one : List Terminal → Answer A} {spelled : A → List Terminal → List Terminal} {Good : A → Type 0} {deeps : A → List Terminal → Option (List Terminal)} {Over : A → List Terminal → Type 0}
    → Laws one spelled Good deeps Over → (goes : Symbol → Bool) → ((a : A) → Good a → (rest : List Terminal) → heads goes (spelled a rest) ≡ true)
    → (ts : List Terminal) (y : A × List Terminal) → one ts ≡ Ok y → length y.1 < length ts
shortens {spelled = spelled} l goes starts ts y h =
    let s = l.sound ts y h in
    rw (s.0, s.2 [] y.1, length-append (spelled y.0 []) y.1) (omega (arith, some_length goes (spelled y.0 []) (starts y.0 s.1 [])))

module _ {A : Type 0} {one : List Terminal → Answer A} {spelled : A → List Terminal → List Terminal} {Good : A → Type 0} {deeps : A → List Terminal → Option (List Terminal)}
    {Over : A → List Terminal → Type 0}
    (l : Laws one spelled Good deeps Over) (goes : Symbol → Bool)
    (starts : (a : A) → Good a → (rest : List Terminal) → heads goes (spelled a rest) ≡ true)
    (next : (a b : A) → Good a → Good b → (rest : List Terminal) → Over a (spelled b rest)) where
  turns_ends : (n : ℕ) (ts : List Terminal) → Ends ts (rest_of (read_while goes one n ts))
  turns_ends zero ts = here ts
  turns_ends (suc n) ts =
      elim (test_cases (heads goes ts)) [
        | inl e ↦ rw e (bind_ends ts (one ts) _ (l.local.ends ts) (λ y us. bind_ends us (read_while goes one n us) _ (turns_ends n us) (λ z vs. here vs)))
        | inr e ↦ rw e (here ts)
      ]

  same_head : (v : List Terminal) (x : Terminal) (r r' : List Terminal) → heads goes (v ++ x ∷ r) ≡ heads goes (v ++ x ∷ r')
  same_head [] x r r' = refl
  same_head (y ∷ v) x r r' = refl

  turns_alike : (n m : ℕ) (v : List Terminal) (x : Terminal) (r r' : List Terminal) → length (v ++ x ∷ r) ≤ n → length (v ++ x ∷ r') ≤ m
      → Alike x r r' (read_while goes one n (v ++ x ∷ r)) (read_while goes one m (v ++ x ∷ r'))
  turns_alike zero m v x r r' p q = absurd (omega (arith, p, length-append v (x ∷ r)))
  turns_alike (suc n) zero v x r r' p q = absurd (omega (arith, q, length-append v (x ∷ r')))
  turns_alike (suc n) (suc m) v x r r' p q =
      elim (test_cases (heads goes (v ++ x ∷ r))) [
        | inl e ↦ rw (e, sym (same_head v x r r') ∙ e) (bind_alike (one (v ++ x ∷ r)) (one (v ++ x ∷ r')) _ _ x r r' (l.local.alike v x r r')
            (λ a us. bind_ends us (read_while goes one n us) _ (turns_ends n us) (λ z vs. here vs))
            (λ a v' ea eb.
            let qa : length (v' ++ x ∷ r) ≤ n = omega (arith, shortens l goes starts (v ++ x ∷ r) _ ea) in
            let qb : length (v' ++ x ∷ r') ≤ m = omega (arith, shortens l goes starts (v ++ x ∷ r') _ eb) in
            bind_alike (read_while goes one n (v' ++ x ∷ r)) (read_while goes one m (v' ++ x ∷ r')) _ _ x r r'
            (turns_alike n m v' x r r' qa qb)
            (λ z vs. here vs) (λ z v2 _ _. stays (Ok (a ∷ z, [])) v2 x r r')))
        | inr e ↦ rw (e, sym (same_head v x r r') ∙ e) (stays (Ok ([], [])) v x r r')
      ]

  turns_complete : (m : ℕ) (list : List A) (rest : List Terminal) → AreAll Good list → OverMany goes Good Over rest → length (spell_list spelled list rest) ≤ m
      → read_while goes one m (spell_list spelled list rest) ≡ outcome (deep_list spelled deeps list rest) list rest
  turns_complete zero [] rest g o s = refl
  turns_complete (suc m) [] rest g o s = rw o.0 refl
  turns_complete zero (a ∷ more) rest g o s = absurd (omega (arith, s, some_length goes (spelled a (spell_list spelled more rest)) (starts a g.0 (spell_list spelled more rest))))
  turns_complete (suc m) (a ∷ more) rest g o s =
      rw (starts a g.0 us) (go (deeps a us) (l.complete a us g.0 (over more g.1)) (λ k. turns_complete m more rest g.1 o k))
    where
      us : List Terminal
      us = spell_list spelled more rest

      over : (more : List A) → AreAll Good more → Over a (spell_list spelled more rest)
      over [] h = o.1 a g.0
      over (b ∷ more) h = next a b g.0 h.0 (spell_list spelled more rest)

      go : (d : Option (List Terminal)) → one (spelled a us) ≡ outcome d a us → (length us ≤ m → read_while goes one m us ≡ outcome (deep_list spelled deeps more rest) more rest)
          → (one (spelled a us) >>= λ a. read_while goes one m a.1 >>= λ more. Ok (a.0 ∷ more.0, more.1)) ≡ outcome (earlier d (deep_list spelled deeps more rest)) (a ∷ more) rest
      go (Some d) k ih = rw k refl
      go None k ih =
          rw (k, ih (omega (arith, shortens l goes starts (spelled a us) (a, us) k, s)))
          (pass (deep_list spelled deeps more rest) more rest _ _ rest refl)

  abbrev ReadList : List Terminal → List A × List Terminal → Type 0
  ReadList ts y = (ts ≡ spell_list spelled y.0 y.1) × AreAll Good y.0 × Apart (spell_list spelled) y.0

  same_list : (ts : List Terminal) (x y : List A × List Terminal) → ◌≡◌ {A = Answer (List A)} (Ok x) (Ok y) → ReadList ts x → ReadList ts y
  same_list ts x y h r = let q : x ≡ y = cc in subst (λ y. ReadList ts y) q r

  one_more : (ts : List Terminal) (a : A × List Terminal) (b : List A × List Terminal) → one ts ≡ Ok a → ReadList a.1 b → ReadList ts (a.0 ∷ b.0, b.1)
  one_more ts a b h r =
      let s = l.sound ts a h in
      (s.0 ∙ ap (λ z. spelled a.0 z) r.0, (s.1, r.1), λ xs ys. ap (λ z. spelled a.0 z) (r.2 xs ys) ∙ s.2 (spell_list spelled b.0 xs) ys)

  turns_sound : (n : ℕ) (ts : List Terminal) (y : List A × List Terminal) → read_while goes one n ts ≡ Ok y → ReadList ts y
  turns_sound zero ts y h = same_list ts ([], ts) y h (refl, tt, λ xs ys. refl)
  turns_sound (suc n) ts y h =
      elim (test_cases (heads goes ts)) [
        | inl e ↦
            let g : (one ts >>= λ a. read_while goes one n a.1 >>= λ more. Ok (a.0 ∷ more.0, more.1)) ≡ Ok y = rw e at h in
            let a = bind_ok _ _ y g in let b = bind_ok _ _ y a.2 in
            same_list ts (a.0.0 ∷ b.0.0, b.0.1) y b.2 (one_more ts a.0 b.0 a.1 (turns_sound n a.0.1 b.0 b.1))
        | inr e ↦ let k : ◌≡◌ {A = Answer (List A)} (Ok ([], ts)) (Ok y) = rw e at h in same_list ts ([], ts) y k (refl, tt, λ xs ys. refl)
      ]

  turns_goes : (n : ℕ) (ts : List Terminal) (f : Fault) → read_while goes one n ts ≡ Err f → GoesOn (spell_list spelled) (AreAll Good) ts f
  turns_goes zero ts f h = absurd (cc)
  turns_goes (suc n) ts f h =
      elim (test_cases (heads goes ts)) [
        | inl e ↦
            let g : (one ts >>= λ a. read_while goes one n a.1 >>= λ more. Ok (a.0 ∷ more.0, more.1)) ≡ Err f = rw e at h in
            elim (bind_err _ _ f g) [
              | inl q ↦ within spelled Good (spell_list spelled) (AreAll Good) [] (λ a. a ∷ []) (λ a g. (g, tt)) (λ a rest g. (rest, refl)) ts ts f refl (l.goes ts f q)
              | inr a ↦
                  let s = l.sound ts a.0 a.1 in
                  elim (bind_err _ _ f a.2) [
                    | inl q ↦ within (spell_list spelled) (AreAll Good) (spell_list spelled) (AreAll Good) (spelled a.0.0 []) (λ more. a.0.0 ∷ more) (λ more g. (s.1, g))
                        (λ more rest g. (rest, s.2 [] (spell_list spelled more rest)))
                        ts a.0.1 f (s.0 ∙ s.2 [] a.0.1) (turns_goes n a.0.1 f q)
                    | inr b ↦ absurd (let k = b.2 in cc)
                  ]
            ]
        | inr e ↦ absurd (let k : ◌≡◌ {A = Answer (List A)} (Ok ([], ts)) (Err f) = rw e at h in cc)
      ]

  pub many_laws : Laws (many goes one) (spell_list spelled) (AreAll Good) (deep_list spelled deeps) (λ list rest. OverMany goes Good Over rest)
  many_laws = record {
    local = record {
      ends = λ ts. turns_ends (length ts) ts;
      alike = λ v x r r'. turns_alike _ _ v x r r' (omega arith) (omega arith);
    };
    complete = λ list rest g o. turns_complete (length (spell_list spelled list rest)) list rest g o (omega arith);
    sound = λ ts y h. turns_sound (length ts) ts y h;
    goes = λ ts f h. turns_goes (length ts) ts f h;
    some = [];
    fine = tt;
  }

-- what is always gone on with is read to its end
module _ {A : Type 0} {one : List Terminal → Answer A} {spelled : A → List Terminal → List Terminal} {Good : A → Type 0} {deeps : A → List Terminal → Option (List Terminal)}
    {Over : A → List Terminal → Type 0}
    (l : Laws one spelled Good deeps Over)
    (starts : (a : A) → Good a → (rest : List Terminal) → heads (λ x. true) (spelled a rest) ≡ true) where
  gone_out : (ts : List Terminal) → heads (λ x. true) ts ≡ false → ts ≡ []
  gone_out [] h = refl
  gone_out (t ∷ ts) h = absurd (cc)

  no_length : (ts : List Terminal) → length ts ≤ 0 → ts ≡ []
  no_length [] h = refl
  no_length (t ∷ ts) h = absurd (omega arith)

  same_end : (x y : List A × List Terminal) → ◌≡◌ {A = Answer (List A)} (Ok x) (Ok y) → x.1 ≡ [] → y.1 ≡ []
  same_end x y h e = let q : x ≡ y = cc in subst (λ (y : List A × List Terminal). y.1 ≡ []) q e

  pub turns_end : (n : ℕ) (ts : List Terminal) (y : List A × List Terminal) → length ts ≤ n → read_while (λ x. true) one n ts ≡ Ok y → y.1 ≡ []
  turns_end zero ts y s h = same_end ([], ts) y h (no_length ts s)
  turns_end (suc n) ts y s h =
      elim (test_cases (heads (λ x. true) ts)) [
        | inl e ↦
            let g : (one ts >>= λ a. read_while (λ x. true) one n a.1 >>= λ more. Ok (a.0 ∷ more.0, more.1)) ≡ Ok y = rw e at h in
            let a = bind_ok (one ts) (λ a. read_while (λ x. true) one n a.1 >>= λ more. Ok (a.0 ∷ more.0, more.1)) y g in
            let b = bind_ok (read_while (λ x. true) one n a.0.1) (λ more. Ok (a.0.0 ∷ more.0, more.1)) y a.2 in
            same_end (a.0.0 ∷ b.0.0, b.0.1) y b.2 (turns_end n a.0.1 b.0 (omega (arith, s, shortens l (λ x. true) starts ts a.0 a.1)) b.1)
        | inr e ↦ let k : ◌≡◌ {A = Answer (List A)} (Ok ([], ts)) (Ok y) = rw e at h in same_end ([], ts) y k (gone_out ts e)
      ]

-- after a list with commas
abbrev pub OverCommaList : {A : Type 0} → (A → Type 0) → (A → List Terminal → Type 0) → CommaList A → List Terminal → Type 0
OverCommaList Good Over r rest = OverMany (is w.Comma) Good Over rest

module _ {A : Type 0} {one : List Terminal → Answer A} {spelled : A → List Terminal → List Terminal} {Good : A → Type 0} {deeps : A → List Terminal → Option (List Terminal)}
    {Over : A → List Terminal → Type 0}
    (l : Laws one spelled Good deeps Over)
    (next : (a : A) (p : Span) (rest : List Terminal) → Good a → Over a (at w.Comma p ∷ rest)) where
  more_laws : Laws (many (is w.Comma) (read_after_comma one)) (spell_list (spell_after_comma spelled)) (AreAll (λ b. Good b.1))
      (deep_list (spell_after_comma spelled) (λ b rest. deeps b.1 rest)) (λ list rest. OverMany {A = Span × A} (is w.Comma) (λ b. Good b.1) (λ b rest. Over b.1 rest) rest)
  more_laws = many_laws (after_comma_laws l) (is w.Comma) (λ b g rest. refl) (λ a b g h rest. next a.1 b.0 (spelled b.1 rest) g)

  pub comma_list_laws : Laws (read_comma_list one) (spell_comma_list spelled) (IsCommaList Good) (deep_comma_list spelled deeps) (OverCommaList Good Over)
  comma_list_laws = laws_of (part l (λ a. part more_laws (λ more. done (comma_list a more)))) (λ ts. refl) (λ c rest. refl) (λ c g. (g.0, g.1.0)) chosen
    where
      over : (a : A) (more : List (Span × A)) (rest : List Terminal) → Good a → OverMany (is w.Comma) Good Over rest → Over a (spell_list (spell_after_comma spelled) more rest)
      over a [] rest g o = o.1 a g
      over a (b ∷ more) rest g o = next a b.0 _ g

      chosen : (r : CommaList A) → IsCommaList Good r → Chosen (part l (λ a. part more_laws (λ more. done (comma_list a more)))) (deep_comma_list spelled deeps) (OverCommaList Good Over) r
      chosen (comma_list a more) g = record {
        choice = (a, (more, tt));
        of = refl;
        fits = (g.0, (g.1, tt));
        depth = λ rest. ap (λ z. earlier (deeps a (spell_list (spell_after_comma spelled) more rest)) z) (last (deep_list (spell_after_comma spelled) (λ b rest. deeps b.1 rest) more rest));
        follows = λ rest o. (over a more rest g.0 o, ((o.0, λ b h. o.1 b.1 h), tt));
      }

module _ {A : Type 0} {one : List Terminal → Answer A} {spelled : A → List Terminal → List Terminal} {Good : A → Type 0} {deeps : A → List Terminal → Option (List Terminal)}
    (l : Laws one spelled Good deeps (λ a rest. Unit {0})) where
  -- this many things
  abbrev TimesLaws : ℕ → Type 0
  TimesLaws m = Laws (read_times one m) (spell_list spelled) (λ list. (length list ≡ m) × AreAll Good list) (deep_list spelled deeps) (λ list rest. Unit {0})

  times_none : TimesLaws 0
  times_none = laws_of (done []) (λ ts. refl) (λ c rest. refl) (λ c g. (refl, tt)) chosen
    where
      chosen : (list : List A) → (length list ≡ 0) × AreAll Good list → Chosen (done []) (deep_list spelled deeps) (λ list rest. Unit {0}) list
      chosen [] g = record { choice = tt; of = refl; fits = tt; depth = λ rest. refl; follows = λ rest o. tt }
      chosen (a ∷ more) g = absurd (omega (arith, g.0))

  times_more : (m : ℕ) → TimesLaws m → TimesLaws (suc m)
  times_more m lm = laws_of (part l (λ a. part lm (λ more. done (a ∷ more)))) (λ ts. refl) (λ c rest. refl) (λ c g. (let e = g.1.0.0 in omega arith, (g.0, g.1.0.1))) chosen
    where
      chosen : (list : List A) → (length list ≡ suc m) × AreAll Good list
          → Chosen (part l (λ a. part lm (λ more. done (a ∷ more)))) (deep_list spelled deeps) (λ list rest. Unit {0}) list
      chosen [] g = absurd (omega (arith, g.0))
      chosen (a ∷ more) g = record {
        choice = (a, (more, tt));
        of = refl;
        fits = (g.1.0, ((let e = g.0 in omega arith, g.1.1), tt));
        depth = λ rest. ap (λ z. earlier (deeps a (spell_list spelled more rest)) z) (last (deep_list spelled deeps more rest));
        follows = λ rest o. (tt, (tt, tt));
      }

  pub times_laws : (m : ℕ) → TimesLaws m
  times_laws zero = times_none
  times_laws (suc m) = times_more m (times_laws m)
