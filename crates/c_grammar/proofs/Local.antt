-- What is read rests on the terminals up to the one where reading stops, and on none after it.
use Rattle.std.proofs.Common.{◌≡◌, ◌⊎◌, inl, inr, Bool, true, false, ◌≤◌, List, [], ◌∷◌, ◌++◌, length, Option, Some, Ok, Err, refl, sym, ap, ◌∙◌, subst, append_assoc, arith, length-append, if◌then◌else◌}
use Rattle.c_grammar.specs.declared.terminal.Terminal.{Terminal}
use Rattle.c_grammar.specs.declared.terminal.Symbol.{Symbol}
use Rattle.c_lex.specs.declared.fault.Why.TheVariants.{Unexpected, TooDeep}
use Rattle.c_grammar.specs.Reading.{Answer, refuse, ◌>>=◌, expect, one_of, too_deep, first_of, heads}
use Rattle.c_grammar.specs.Symbols.{is}

abbrev pub rest_of : {A : Type 0} → Answer A → List Terminal
rest_of (Ok x) = x.1
rest_of (Err f) = f.rest

abbrev pub with_rest : {A : Type 0} → Answer A → List Terminal → Answer A
with_rest (Ok x) ts = Ok (x.0, ts)
with_rest (Err f) ts = Err (record f { rest = ts })

pub record Ends (ts rest : List Terminal) : Type 0 where
  pub front : List Terminal
  pub is : ts ≡ front ++ rest

abbrev pub Alike : {A : Type 0} → Terminal → List Terminal → List Terminal → Answer A → Answer A → Type 0
Alike x r r' a b = (u : List Terminal) → rest_of a ≡ u ++ x ∷ r → b ≡ with_rest a (u ++ x ∷ r')

pub record IsLocal {A : Type 0} (read : List Terminal → Answer A) : Type 0 where
  pub ends : (ts : List Terminal) → Ends ts (rest_of (read ts))
  pub alike : (v : List Terminal) (x : Terminal) (r r' : List Terminal) → Alike x r r' (read (v ++ x ∷ r)) (read (v ++ x ∷ r'))

pub here : (ts : List Terminal) → Ends ts ts
here ts = record { front = []; is = refl }

pub further : {t : Terminal} {ts rest : List Terminal} → Ends ts rest → Ends (t ∷ ts) rest
further {t} e = record { front = t ∷ e.front; is = ap (λ v. t ∷ v) e.is }

pub ends_trans : {a b c : List Terminal} → Ends a b → Ends b c → Ends a c
ends_trans {a} {b} {c} p q = record { front = p.front ++ q.front; is = p.is ∙ ap (λ v. p.front ++ v) q.is ∙ sym (append_assoc p.front q.front c) }

pub ends_shorter : {a b : List Terminal} → Ends a b → length b ≤ length a
ends_shorter {a} {b} e = rw e.is (rw length-append (omega arith))

pub bind_ends : {A B : Type 0} (ts : List Terminal) (a : Answer A) (f : A × List Terminal → Answer B)
    → Ends ts (rest_of a) → ((x : A) (us : List Terminal) → Ends us (rest_of (f (x, us)))) → Ends ts (rest_of (a >>= f))
bind_ends ts (Ok x) f e h = ends_trans e (h x.0 x.1)
bind_ends ts (Err g) f e h = e

-- two fronts of one rest are one
pub front_is : (u v r : List Terminal) (x : Terminal) → u ++ x ∷ r ≡ v ++ x ∷ r → u ≡ v
front_is [] [] r x h = refl
front_is [] (b ∷ v) r x h =
    absurd (let e : r ≡ v ++ x ∷ r = cc in omega (arith, ap length e, length-append v (x ∷ r)))
front_is (a ∷ u) [] r x h =
    absurd (let e : u ++ x ∷ r ≡ r = cc in omega (arith, ap length e, length-append u (x ∷ r)))
front_is (a ∷ u) (b ∷ v) r x h = let e : u ++ x ∷ r ≡ v ++ x ∷ r = cc in let k : u ≡ v = front_is u v r x e in cc

pub stays : {A : Type 0} (a : Answer A) (v : List Terminal) (x : Terminal) (r r' : List Terminal)
    → Alike x r r' (with_rest a (v ++ x ∷ r)) (with_rest a (v ++ x ∷ r'))
stays (Ok y) v x r r' u e = ap (λ z. Ok (y.0, z ++ x ∷ r')) (front_is v u r x e)
stays (Err f) v x r r' u e = ap (λ z. Err (record f { rest = z ++ x ∷ r' })) (front_is v u r x e)

pub gone : {A : Type 0} (a b : Answer A) (x : Terminal) (r r' : List Terminal) → Ends r (rest_of a) → Alike x r r' a b
gone a b x r r' h u e =
    absurd (omega (arith, ends_shorter h, ap length e, length-append u (x ∷ r)))

pub bind_alike : {A B : Type 0} (a b : Answer A) (f g : A × List Terminal → Answer B) (x : Terminal) (r r' : List Terminal)
    → Alike x r r' a b
    → ((y : A) (us : List Terminal) → Ends us (rest_of (f (y, us))))
    → ((y : A) (v : List Terminal) → a ≡ Ok (y, v ++ x ∷ r) → b ≡ Ok (y, v ++ x ∷ r') → Alike x r r' (f (y, v ++ x ∷ r)) (g (y, v ++ x ∷ r')))
    → Alike x r r' (a >>= f) (b >>= g)
bind_alike (Err h) b f g x r r' p q s u e = rw (p u e) refl
bind_alike (Ok y) b f g x r r' p q s u e =
    let k = q y.0 y.1 in
    let v : List Terminal = k.front ++ u in
    let e1 : y.1 ≡ v ++ x ∷ r = k.is ∙ ap (λ z. k.front ++ z) e ∙ sym (append_assoc k.front u (x ∷ r)) in
    let e2 : b ≡ Ok (y.0, v ++ x ∷ r') = p v e1 in
    let e3 = s y.0 v (ap (λ z. Ok (y.0, z)) e1) e2 u (subst (λ z. rest_of (f (y.0, z)) ≡ u ++ x ∷ r) e1 e) in
    ap (λ z. z >>= g) e2 ∙ e3 ∙ ap (λ z. with_rest (f (y.0, z)) (u ++ x ∷ r')) (sym e1)

-- at each first terminal reading stays before it, or goes on after it
pub data Step {A : Type 0} (t : Terminal) (step : List Terminal → Answer A) : Type 0 where
  at_it : (a : Answer A) → ((ts : List Terminal) → step ts ≡ with_rest a (t ∷ ts)) → Step t step
  behind : IsLocal step → Step t step

step_ends : {A : Type 0} (t : Terminal) (step : List Terminal → Answer A) → Step t step → (ts : List Terminal) → Ends (t ∷ ts) (rest_of (step ts))
step_ends t step (at_it (Ok a) h) ts = rw (h ts) (here (t ∷ ts))
step_ends t step (at_it (Err a) h) ts = rw (h ts) (here (t ∷ ts))
step_ends t step (behind h) ts = further (h.ends ts)

step_alike : {A : Type 0} (t : Terminal) (step : List Terminal → Answer A) → Step t step → (v : List Terminal) (x : Terminal) (r r' : List Terminal)
    → Alike x r r' (step (v ++ x ∷ r)) (step (v ++ x ∷ r'))
step_alike t step (at_it a h) v x r r' = rw (h (v ++ x ∷ r), h (v ++ x ∷ r')) (stays a (t ∷ v) x r r')
step_alike t step (behind h) v x r r' = h.alike v x r r'

step_first : {A : Type 0} (t : Terminal) (step : List Terminal → Answer A) → Step t step → (r r' : List Terminal)
    → Alike t r r' (step r) (step r')
step_first t step (at_it a h) r r' = rw (h r, h r') (stays a [] t r r')
step_first t step (behind h) r r' = gone _ _ t r r' (h.ends r)

pub by_head : {A : Type 0} (read : List Terminal → Answer A) → rest_of (read []) ≡ []
    → ((t : Terminal) → Step t (λ ts. read (t ∷ ts))) → IsLocal read
by_head read nil step = record {
  ends = λ ts. elim ts as (λ ts. Ends ts (rest_of (read ts))) [ [] ↦ rw nil (here []) | t ∷ ts ↦ step_ends t _ (step t) ts ];
  alike = λ v x r r'. elim v as (λ v. Alike x r r' (read (v ++ x ∷ r)) (read (v ++ x ∷ r'))) [ [] ↦ step_first x _ (step x) r r' | t ∷ v ↦ step_alike t _ (step t) v x r r' ];
}

pub bind_local : {A B : Type 0} (read : List Terminal → Answer A) (f : A × List Terminal → Answer B)
    → IsLocal read → ((y : A) → IsLocal (λ ts. f (y, ts))) → IsLocal (λ ts. read ts >>= f)
bind_local read f p q = record {
  ends = λ ts. bind_ends ts (read ts) f (p.ends ts) (λ y us. (q y).ends us);
  alike = λ v x r r'. bind_alike _ _ f f x r r' (p.alike v x r r') (λ y us. (q y).ends us) (λ y v' _ _. (q y).alike v' x r r');
}

pub ok_local : {A : Type 0} (a : A) → IsLocal (λ ts. Ok (a, ts))
ok_local a = record { ends = here; alike = λ v x r r'. stays (Ok (a, [])) v x r r' }

pub test_cases : (b : Bool) → (b ≡ true) ⊎ (b ≡ false)
test_cases true = inl refl
test_cases false = inr refl

pub expect-local : (x : Symbol) → IsLocal (expect x)
unfolding expect
expect-local x = by_head (expect x) refl (λ t.
    elim (test_cases (is x t.symbol)) [
      | inl e ↦ rw e (behind (ok_local t.span))
      | inr e ↦ rw e (at_it (refuse Unexpected []) (λ ts. refl))
    ])

pub one_of-local : (test : Symbol → Bool) → IsLocal (one_of test)
unfolding one_of
one_of-local test = by_head (one_of test) refl (λ t.
    elim (test_cases (test t.symbol)) [
      | inl e ↦ rw e (behind (ok_local t))
      | inr e ↦ rw e (at_it (refuse Unexpected []) (λ ts. refl))
    ])

pub too_deep-local : {A : Type 0} (starts : Symbol → Bool) → IsLocal (too_deep {A = A} starts)
unfolding too_deep
too_deep-local {A} starts = by_head (too_deep {A = A} starts) refl (λ t.
    elim (test_cases (starts t.symbol)) [
      | inl e ↦ rw e (at_it (refuse TooDeep []) (λ ts. refl))
      | inr e ↦ rw e (at_it (refuse Unexpected []) (λ ts. refl))
    ])

pub refuse_local : {A : Type 0} → IsLocal (λ ts. refuse {A = A} Unexpected ts)
refuse_local {A} = by_head (λ ts. refuse {A = A} Unexpected ts) refl (λ t. at_it (refuse Unexpected []) (λ ts. refl))

-- what is read is chosen by the first symbol
pub choose_local : {A : Type 0} (read : Option Symbol → List Terminal → Answer A) → ((o : Option Symbol) → IsLocal (read o)) → IsLocal (λ ts. read (first_of ts) ts)
choose_local read h = record {
  ends = λ ts. (h (first_of ts)).ends ts;
  alike = λ v x r r'. elim v as (λ v. Alike x r r' (read (first_of (v ++ x ∷ r)) (v ++ x ∷ r)) (read (first_of (v ++ x ∷ r')) (v ++ x ∷ r'))) [
    | [] ↦ (h (Some x.symbol)).alike [] x r r'
    | y ∷ v ↦ (h (Some y.symbol)).alike (y ∷ v) x r r'
  ];
}

abbrev pub branch : {A : Type 0} → (Symbol → Bool) → (List Terminal → Answer A) → (List Terminal → Answer A) → List Terminal → Answer A
branch test there other ts = if heads test ts then there ts else other ts

pub branch_local : {A : Type 0} (test : Symbol → Bool) (there other : List Terminal → Answer A) → IsLocal there → IsLocal other → IsLocal (branch test there other)
branch_local {A} test there other p q = record {
  ends = λ ts. elim (test_cases (heads test ts)) [ inl e ↦ rw e (p.ends ts) | inr e ↦ rw e (q.ends ts) ];
  alike = λ v x r r'. elim v as (λ v. Alike x r r' (branch test there other (v ++ x ∷ r)) (branch test there other (v ++ x ∷ r'))) [
    | [] ↦ elim (test_cases (test x.symbol)) [ inl e ↦ rw e (p.alike [] x r r') | inr e ↦ rw e (q.alike [] x r r') ]
    | y ∷ v ↦ elim (test_cases (test y.symbol)) [ inl e ↦ rw e (p.alike (y ∷ v) x r r') | inr e ↦ rw e (q.alike (y ∷ v) x r r') ]
  ];
}
