-- Productions as data, and what each reader that runs one keeps.
use Rattle.std.proofs.Common.{◌≡◌, ◌⊎◌, inl, inr, Bool, true, false, List, [], ◌∷◌, ◌++◌, Option, None, Ok, Err, refl, sym, ap, ◌∙◌, subst, if◌then◌else◌}
use Rattle.std.proofs.Math.Path.{fun_ext}
use Rattle.c_lex.specs.declared.fault.Why.TheVariants.{Unexpected}
use Rattle.c_grammar.specs.declared.terminal.Symbol.{Symbol}
use Rattle.c_grammar.specs.declared.terminal.Span.{Span}
use Rattle.c_grammar.specs.declared.terminal.Terminal.{Terminal}
use Rattle.c_grammar.specs.Symbols.{is}
use Rattle.c_grammar.specs.Grammar.{at, earlier}
use Rattle.c_grammar.specs.Reading.{Fault, Answer, refuse, ◌>>=◌, expect, one_of, first_of, heads}
use Rattle.c_grammar.proofs.Local.{IsLocal, ok_local, bind_local, refuse_local, choose_local, branch, branch_local, expect-local, one_of-local, test_cases}
use Rattle.c_grammar.proofs.Laws.{Laws, Apart, GoesOn, within, missing, unexpected, outcome, pass_on, bind_ok, bind_err, not_both, expect-is, expect-ok, expect-err, one_of-is, one_of-ok, one_of-err, zero_span}

-- how a production goes on
pub data Seq (T : Type 0) : Type 1 where
  done : T → Seq T
  token : Symbol → (Span → Seq T) → Seq T
  -- a terminal of one of these symbols, of which x is one
  pick : (test : Symbol → Bool) (x : Symbol) → test x ≡ true → (Terminal → Seq T) → Seq T
  part : {A : Type 0} {read : List Terminal → Answer A} {spelled : A → List Terminal → List Terminal} {Good : A → Type 0}
      {deeps : A → List Terminal → Option (List Terminal)} {Over : A → List Terminal → Type 0} → Laws read spelled Good deeps Over → (A → Seq T) → Seq T
  -- the symbol x after it would be its own, where it is open; so one that goes on with x is not
  split : {A : Type 0} {read : List Terminal → Answer A} {spelled : A → List Terminal → List Terminal} {Good : A → Type 0}
      {deeps : A → List Terminal → Option (List Terminal)} {Over : A → List Terminal → Type 0} → Laws read spelled Good deeps Over
      → (open_end : A → Bool) (x : Symbol) → ((ts : List Terminal) (y : A × List Terminal) → read ts ≡ Ok y → open_end y.0 ≡ true → heads (is x) y.1 ≡ false)
      → (A → Seq T) → (A → Seq T) → Seq T
  peek : (Symbol → Bool) → Seq T → Seq T → Seq T
  switch : (Option Symbol → Seq T) → Seq T
  -- nothing is read, though a tree of this production may stand here
  refused : Seq T → Seq T

abbrev pub run : {T : Type 0} → Seq T → List Terminal → Answer T
run (done t) ts = Ok (t, ts)
run (token x k) ts = expect x ts >>= λ p. run (k p.0) p.1
run (pick test x h k) ts = one_of test ts >>= λ s. run (k s.0) s.1
run (part {read = read} l k) ts = read ts >>= λ a. run (k a.0) a.1
run (split {read = read} l b x h k m) ts = read ts >>= λ a. if heads (is x) a.1 then run (k a.0) a.1 else run (m a.0) a.1
run (peek test s r) ts = if heads test ts then run s ts else run r ts
run (switch f) ts = run (f (first_of ts)) ts
run (refused s) ts = refuse Unexpected ts

-- the parts of a production that stand in a tree
abbrev pub Choice : {T : Type 0} → Seq T → Type 0
Choice (done t) = Unit {0}
Choice (token x k) = (p : Span) × Choice (k p)
Choice (pick test x h k) = (s : Terminal) × Choice (k s)
Choice (part {A = A} l k) = (a : A) × Choice (k a)
Choice (split {A = A} l b x h k m) = (a : A) × (Choice (k a) ⊎ Choice (m a))
Choice (peek test s r) = Choice s ⊎ Choice r
Choice (switch f) = (o : Option Symbol) × Choice (f o)
Choice (refused s) = Choice s

abbrev pub tree : {T : Type 0} (s : Seq T) → Choice s → T
tree (done t) c = t
tree (token x k) c = tree (k c.0) c.1
tree (pick test x h k) c = tree (k c.0) c.1
tree (part l k) c = tree (k c.0) c.1
tree (split l b x h k m) (a, inl c) = tree (k a) c
tree (split l b x h k m) (a, inr c) = tree (m a) c
tree (peek test s r) (inl c) = tree s c
tree (peek test s r) (inr c) = tree r c
tree (switch f) c = tree (f c.0) c.1
tree (refused s) c = tree s c

abbrev pub spells : {T : Type 0} (s : Seq T) → Choice s → List Terminal → List Terminal
spells (done t) c rest = rest
spells (token x k) c rest = at x c.0 ∷ spells (k c.0) c.1 rest
spells (pick test x h k) c rest = c.0 ∷ spells (k c.0) c.1 rest
spells (part {spelled = spelled} l k) c rest = spelled c.0 (spells (k c.0) c.1 rest)
spells (split {spelled = spelled} l b x h k m) (a, inl c) rest = spelled a (spells (k a) c rest)
spells (split {spelled = spelled} l b x h k m) (a, inr c) rest = spelled a (spells (m a) c rest)
spells (peek test s r) (inl c) rest = spells s c rest
spells (peek test s r) (inr c) rest = spells r c rest
spells (switch f) c rest = spells (f c.0) c.1 rest
spells (refused s) c rest = spells s c rest

abbrev pub Fits : {T : Type 0} (s : Seq T) → Choice s → Type 0
Fits (done t) c = Unit {0}
Fits (token x k) c = Fits (k c.0) c.1
Fits (pick test x h k) c = (test c.0.symbol ≡ true) × Fits (k c.0) c.1
Fits (part {Good = Good} l k) c = Good c.0 × Fits (k c.0) c.1
Fits (split {Good = Good} l b x h k m) (a, inl c) = Good a × (b a ≡ false) × Fits (k a) c
Fits (split {Good = Good} l b x h k m) (a, inr c) = Good a × Fits (m a) c
Fits (peek test s r) (inl c) = Fits s c
Fits (peek test s r) (inr c) = Fits r c
Fits (switch f) c = Fits (f c.0) c.1
Fits (refused s) c = Fits s c

abbrev pub depths : {T : Type 0} (s : Seq T) → Choice s → List Terminal → Option (List Terminal)
depths (done t) c rest = None
depths (token x k) c rest = depths (k c.0) c.1 rest
depths (pick test x h k) c rest = depths (k c.0) c.1 rest
depths (part {deeps = deeps} l k) c rest = earlier (deeps c.0 (spells (k c.0) c.1 rest)) (depths (k c.0) c.1 rest)
depths (split {deeps = deeps} l b x h k m) (a, inl c) rest = earlier (deeps a (spells (k a) c rest)) (depths (k a) c rest)
depths (split {deeps = deeps} l b x h k m) (a, inr c) rest = earlier (deeps a (spells (m a) c rest)) (depths (m a) c rest)
depths (peek test s r) (inl c) rest = depths s c rest
depths (peek test s r) (inr c) rest = depths r c rest
depths (switch f) c rest = depths (f c.0) c.1 rest
depths (refused s) c rest = None

-- what is read is this choice
abbrev pub Follows : {T : Type 0} (s : Seq T) → Choice s → List Terminal → Type 0
Follows (done t) c rest = Unit {0}
Follows (token x k) c rest = Follows (k c.0) c.1 rest
Follows (pick test x h k) c rest = Follows (k c.0) c.1 rest
Follows (part {Over = Over} l k) c rest = Over c.0 (spells (k c.0) c.1 rest) × Follows (k c.0) c.1 rest
Follows (split {Over = Over} l b x h k m) (a, inl c) rest = Over a (spells (k a) c rest) × (heads (is x) (spells (k a) c rest) ≡ true) × Follows (k a) c rest
Follows (split {Over = Over} l b x h k m) (a, inr c) rest = Over a (spells (m a) c rest) × (heads (is x) (spells (m a) c rest) ≡ false) × Follows (m a) c rest
Follows (peek test s r) (inl c) rest = (heads test (spells s c rest) ≡ true) × Follows s c rest
Follows (peek test s r) (inr c) rest = (heads test (spells r c rest) ≡ false) × Follows r c rest
Follows (switch f) c rest = (first_of (spells (f c.0) c.1 rest) ≡ c.0) × Follows (f c.0) c.1 rest
Follows (refused s) c rest = ⊥

pub seq_some : {T : Type 0} (s : Seq T) → (c : Choice s) × Fits s c
seq_some (done t) = (tt, tt)
seq_some (token x k) = let r = seq_some (k zero_span) in ((zero_span, r.0), r.1)
seq_some (pick test x h k) = let t : Terminal = at x zero_span in let r = seq_some (k t) in ((t, r.0), (h, r.1))
seq_some (part l k) = let r = seq_some (k l.some) in ((l.some, r.0), (l.fine, r.1))
seq_some (split l b x h k m) = let r = seq_some (m l.some) in ((l.some, inr r.0), (l.fine, r.1))
seq_some (peek test s q) = let r = seq_some q in (inr r.0, r.1)
seq_some (switch f) = let r = seq_some (f None) in ((None, r.0), r.1)
seq_some (refused s) = seq_some s

pub seq_local : {T : Type 0} (s : Seq T) → IsLocal (run s)
seq_local (done t) = ok_local t
seq_local (token x k) = bind_local (expect x) _ (expect-local x) (λ p. seq_local (k p))
seq_local (pick test x h k) = bind_local (one_of test) _ (one_of-local test) (λ s. seq_local (k s))
seq_local (part {read = read} l k) = bind_local read _ l.local (λ a. seq_local (k a))
seq_local (split {read = read} l b x h k m) = bind_local read _ l.local (λ a. branch_local (is x) (run (k a)) (run (m a)) (seq_local (k a)) (seq_local (m a)))
seq_local (peek test s r) = branch_local test (run s) (run r) (seq_local s) (seq_local r)
seq_local (switch f) = choose_local (λ o. run (f o)) (λ o. seq_local (f o))
seq_local (refused s) = refuse_local

pub seq_complete : {T : Type 0} (s : Seq T) (c : Choice s) (rest : List Terminal) → Fits s c → Follows s c rest → run s (spells s c rest) ≡ outcome (depths s c rest) (tree s c) rest
seq_complete (done t) c rest g o = refl
seq_complete (token x k) c rest g o = rw (expect-is x c.0 (spells (k c.0) c.1 rest)) (seq_complete (k c.0) c.1 rest g o)
seq_complete (pick test x h k) c rest g o = rw (one_of-is test c.0 (spells (k c.0) c.1 rest) g.0) (seq_complete (k c.0) c.1 rest g.1 o)
seq_complete (part {deeps = deeps} l k) c rest g o =
    rw (l.complete c.0 (spells (k c.0) c.1 rest) g.0 o.0)
    (pass_on (deeps c.0 (spells (k c.0) c.1 rest)) (depths (k c.0) c.1 rest) c.0 (spells (k c.0) c.1 rest) (λ a. run (k a.0) a.1) (tree (k c.0) c.1) rest (seq_complete (k c.0) c.1 rest g.1 o.1))
seq_complete {T} (split {deeps = deeps} l b x h k m) (a, inl c) rest g o =
    rw (l.complete a (spells (k a) c rest) g.0 o.0)
    (pass_on (deeps a (spells (k a) c rest)) (depths (k a) c rest) a (spells (k a) c rest) (λ a. branch {A = T} (is x) (run (k a.0)) (run (m a.0)) a.1) (tree (k a) c) rest (rw o.1 (seq_complete (k a) c rest g.2 o.2)))
seq_complete {T} (split {deeps = deeps} l b x h k m) (a, inr c) rest g o =
    rw (l.complete a (spells (m a) c rest) g.0 o.0)
    (pass_on (deeps a (spells (m a) c rest)) (depths (m a) c rest) a (spells (m a) c rest) (λ a. branch {A = T} (is x) (run (k a.0)) (run (m a.0)) a.1) (tree (m a) c) rest (rw o.1 (seq_complete (m a) c rest g.1 o.2)))
seq_complete (peek test s r) (inl c) rest g o = rw o.0 (seq_complete s c rest g o.1)
seq_complete (peek test s r) (inr c) rest g o = rw o.0 (seq_complete r c rest g o.1)
seq_complete (switch f) c rest g o = rw o.0 (seq_complete (f c.0) c.1 rest g o.1)
seq_complete (refused s) c rest g o = absurd o

closed : (b : Bool) {c : Bool} → (b ≡ true → c ≡ false) → c ≡ true → b ≡ false
closed false h q = refl
closed true {c} h q = not_both c q (h refl)

-- each part is what its reader read there
abbrev pub Reads : {T : Type 0} (s : Seq T) → Choice s → List Terminal → Type 0
Reads (done t) c rest = Unit {0}
Reads (token x k) c rest = Reads (k c.0) c.1 rest
Reads (pick test x h k) c rest = Reads (k c.0) c.1 rest
Reads (part {read = read} {spelled = spelled} l k) c rest = (read (spelled c.0 (spells (k c.0) c.1 rest)) ≡ Ok (c.0, spells (k c.0) c.1 rest)) × Reads (k c.0) c.1 rest
Reads (split {read = read} {spelled = spelled} l b x h k m) (a, inl c) rest = (read (spelled a (spells (k a) c rest)) ≡ Ok (a, spells (k a) c rest)) × (heads (is x) (spells (k a) c rest) ≡ true) × Reads (k a) c rest
Reads (split {read = read} {spelled = spelled} l b x h k m) (a, inr c) rest = (read (spelled a (spells (m a) c rest)) ≡ Ok (a, spells (m a) c rest)) × (heads (is x) (spells (m a) c rest) ≡ false) × Reads (m a) c rest
Reads (peek test s r) (inl c) rest = Reads s c rest
Reads (peek test s r) (inr c) rest = Reads r c rest
Reads (switch f) c rest = Reads (f c.0) c.1 rest
Reads (refused s) c rest = ⊥

pub record Sound {T : Type 0} (s : Seq T) (ts : List Terminal) (y : T × List Terminal) : Type 0 where
  pub choice : Choice s
  pub is : ts ≡ spells s choice y.1
  pub fits : Fits s choice
  pub of : tree s choice ≡ y.0
  pub reads : Reads s choice y.1
  pub apart : Apart (spells s) choice

-- a part, and what was read after it
module _ {A T : Type 0} {read : List Terminal → Answer A} {spelled : A → List Terminal → List Terminal} {Good : A → Type 0} {deeps : A → List Terminal → Option (List Terminal)}
    {Over : A → List Terminal → Type 0}
    (l : Laws read spelled Good deeps Over) (s : Seq T) (ts : List Terminal) (x : A × List Terminal) (y : T × List Terminal) (h : read ts ≡ Ok x) (r : Sound s x.1 y) where
  part_is : ts ≡ spelled x.0 (spells s r.choice y.1)
  part_is = (l.sound ts x h).0 ∙ ap (λ z. spelled x.0 z) r.is

  part_reads : read (spelled x.0 (spells s r.choice y.1)) ≡ Ok (x.0, spells s r.choice y.1)
  part_reads = ap read (sym part_is) ∙ h ∙ ap (λ z. Ok (x.0, z)) r.is

  part_apart : (xs ys : List Terminal) → spelled x.0 (spells s r.choice (xs ++ ys)) ≡ spelled x.0 (spells s r.choice xs) ++ ys
  part_apart xs ys = ap (λ z. spelled x.0 z) (r.apart xs ys) ∙ (l.sound ts x h).2 (spells s r.choice xs) ys

pub seq_sound : {T : Type 0} (s : Seq T) (ts : List Terminal) (y : T × List Terminal) → run s ts ≡ Ok y → Sound s ts y
seq_sound {T} (done t) ts y h =
    let p : T × List Terminal = (t, ts) in let k : ◌≡◌ {A = Answer T} (Ok p) (Ok y) = h in let q : p ≡ y = cc in
    subst (λ y. Sound (done t) ts y) q (record { choice = tt; is = refl; fits = tt; of = refl; reads = tt; apart = λ xs ys. refl })
seq_sound (token x k) ts y h =
    let a = bind_ok _ _ y h in
    let r = seq_sound (k a.0.0) a.0.1 y a.2 in
    record {
      choice = (a.0.0, r.choice);
      is = expect-ok x ts a.0 a.1 ∙ ap (λ z. at x a.0.0 ∷ z) r.is;
      fits = r.fits;
      of = r.of;
      reads = r.reads;
      apart = λ xs ys. ap (λ z. at x a.0.0 ∷ z) (r.apart xs ys);
    }
seq_sound (pick test x m k) ts y h =
    let a = bind_ok _ _ y h in
    let e = one_of-ok test ts a.0 a.1 in
    let r = seq_sound (k a.0.0) a.0.1 y a.2 in
    record {
      choice = (a.0.0, r.choice);
      is = e.0 ∙ ap (λ z. a.0.0 ∷ z) r.is;
      fits = (e.1, r.fits);
      of = r.of;
      reads = r.reads;
      apart = λ xs ys. ap (λ z. a.0.0 ∷ z) (r.apart xs ys);
    }
seq_sound (part l k) ts y h =
    let a = bind_ok _ _ y h in
    let r = seq_sound (k a.0.0) a.0.1 y a.2 in
    record {
      choice = (a.0.0, r.choice);
      is = part_is l (k a.0.0) ts a.0 y a.1 r;
      fits = ((l.sound ts a.0 a.1).1, r.fits);
      of = r.of;
      reads = (part_reads l (k a.0.0) ts a.0 y a.1 r, r.reads);
      apart = part_apart l (k a.0.0) ts a.0 y a.1 r;
    }
seq_sound (split l b x u k m) ts y h =
    let a = bind_ok _ _ y h in
    elim (test_cases (heads (is x) a.0.1)) [
      | inl q ↦
          let g : run (k a.0.0) a.0.1 ≡ Ok y = (let z = a.2 in rw q at z) in
          let r = seq_sound (k a.0.0) a.0.1 y g in
          record {
            choice = (a.0.0, inl r.choice);
            is = part_is l (k a.0.0) ts a.0 y a.1 r;
            fits = ((l.sound ts a.0 a.1).1, closed (b a.0.0) (λ z. u ts a.0 a.1 z) q, r.fits);
            of = r.of;
            reads = (part_reads l (k a.0.0) ts a.0 y a.1 r, sym (ap (λ z. heads (is x) z) r.is) ∙ q, r.reads);
            apart = part_apart l (k a.0.0) ts a.0 y a.1 r;
          }
      | inr q ↦
          let g : run (m a.0.0) a.0.1 ≡ Ok y = (let z = a.2 in rw q at z) in
          let r = seq_sound (m a.0.0) a.0.1 y g in
          record {
            choice = (a.0.0, inr r.choice);
            is = part_is l (m a.0.0) ts a.0 y a.1 r;
            fits = ((l.sound ts a.0 a.1).1, r.fits);
            of = r.of;
            reads = (part_reads l (m a.0.0) ts a.0 y a.1 r, sym (ap (λ z. heads (is x) z) r.is) ∙ q, r.reads);
            apart = part_apart l (m a.0.0) ts a.0 y a.1 r;
          }
    ]
seq_sound (peek test s r) ts y h =
    elim (test_cases (heads test ts)) [
      | inl e ↦
          let g : run s ts ≡ Ok y = rw e at h in let q = seq_sound s ts y g in
          record { choice = inl q.choice; is = q.is; fits = q.fits; of = q.of; reads = q.reads; apart = q.apart }
      | inr e ↦
          let g : run r ts ≡ Ok y = rw e at h in let q = seq_sound r ts y g in
          record { choice = inr q.choice; is = q.is; fits = q.fits; of = q.of; reads = q.reads; apart = q.apart }
    ]
seq_sound (switch f) ts y h =
    let q = seq_sound (f (first_of ts)) ts y h in
    record { choice = (first_of ts, q.choice); is = q.is; fits = q.fits; of = q.of; reads = q.reads; apart = q.apart }
seq_sound (refused s) ts y h = absurd (cc)

pub seq_goes : {T : Type 0} (s : Seq T) (ts : List Terminal) (f : Fault) → run s ts ≡ Err f → GoesOn (spells s) (Fits s) ts f
seq_goes (done t) ts f h = absurd (cc)
seq_goes (token x k) ts f h =
    elim (bind_err _ _ f h) [
      | inl q ↦ let d = seq_some (token x k) in missing (spells (token x k)) (Fits (token x k)) d.0 d.1 ts f (expect-err x ts f q)
      | inr a ↦ within (spells (k a.0.0)) (Fits (k a.0.0)) (spells (token x k)) (Fits (token x k)) (at x a.0.0 ∷ []) (λ c. (a.0.0, c)) (λ c g. g) (λ c rest g. (rest, refl))
          ts a.0.1 f (expect-ok x ts a.0 a.1) (seq_goes (k a.0.0) a.0.1 f a.2)
    ]
seq_goes (pick test x m k) ts f h =
    elim (bind_err _ _ f h) [
      | inl q ↦ let d = seq_some (pick test x m k) in missing (spells (pick test x m k)) (Fits (pick test x m k)) d.0 d.1 ts f (one_of-err test ts f q)
      | inr a ↦
          let e = one_of-ok test ts a.0 a.1 in
          within (spells (k a.0.0)) (Fits (k a.0.0)) (spells (pick test x m k)) (Fits (pick test x m k)) (a.0.0 ∷ []) (λ c. (a.0.0, c)) (λ c g. (e.1, g)) (λ c rest g. (rest, refl))
          ts a.0.1 f e.0 (seq_goes (k a.0.0) a.0.1 f a.2)
    ]
seq_goes (part {spelled = spelled} {Good = Good} l k) ts f h =
    elim (bind_err _ _ f h) [
      | inl q ↦ within spelled Good (spells (part l k)) (Fits (part l k)) [] (λ a. (a, (seq_some (k a)).0)) (λ a g. (g, (seq_some (k a)).1))
          (λ a rest g. (spells (k a) (seq_some (k a)).0 rest, refl)) ts ts f refl (l.goes ts f q)
      | inr a ↦
          let e = l.sound ts a.0 a.1 in
          within (spells (k a.0.0)) (Fits (k a.0.0)) (spells (part l k)) (Fits (part l k)) (spelled a.0.0 []) (λ c. (a.0.0, c)) (λ c g. (e.1, g))
          (λ c rest g. (rest, e.2 [] (spells (k a.0.0) c rest)))
          ts a.0.1 f (e.0 ∙ e.2 [] a.0.1) (seq_goes (k a.0.0) a.0.1 f a.2)
    ]
seq_goes (split {spelled = spelled} {Good = Good} l b x u k m) ts f h =
    elim (bind_err _ _ f h) [
      | inl q ↦ within spelled Good (spells (split l b x u k m)) (Fits (split l b x u k m)) [] (λ a. (a, inr (seq_some (m a)).0)) (λ a g. (g, (seq_some (m a)).1))
          (λ a rest g. (spells (m a) (seq_some (m a)).0 rest, refl)) ts ts f refl (l.goes ts f q)
      | inr a ↦
          let e = l.sound ts a.0 a.1 in
          elim (test_cases (heads (is x) a.0.1)) [
            | inl q ↦ let g : run (k a.0.0) a.0.1 ≡ Err f = (let z = a.2 in rw q at z) in
                within (spells (k a.0.0)) (Fits (k a.0.0)) (spells (split l b x u k m)) (Fits (split l b x u k m)) (spelled a.0.0 []) (λ c. (a.0.0, inl c))
                (λ c g. (e.1, closed (b a.0.0) (λ z. u ts a.0 a.1 z) q, g))
                (λ c rest g. (rest, e.2 [] (spells (k a.0.0) c rest)))
                ts a.0.1 f (e.0 ∙ e.2 [] a.0.1) (seq_goes (k a.0.0) a.0.1 f g)
            | inr q ↦ let g : run (m a.0.0) a.0.1 ≡ Err f = (let z = a.2 in rw q at z) in
                within (spells (m a.0.0)) (Fits (m a.0.0)) (spells (split l b x u k m)) (Fits (split l b x u k m)) (spelled a.0.0 []) (λ c. (a.0.0, inr c))
                (λ c g. (e.1, g))
                (λ c rest g. (rest, e.2 [] (spells (m a.0.0) c rest)))
                ts a.0.1 f (e.0 ∙ e.2 [] a.0.1) (seq_goes (m a.0.0) a.0.1 f g)
          ]
    ]
seq_goes (peek test s r) ts f h =
    elim (test_cases (heads test ts)) [
      | inl e ↦ let g : run s ts ≡ Err f = rw e at h in
          within (spells s) (Fits s) (spells (peek test s r)) (Fits (peek test s r)) [] (λ c. inl c) (λ c g. g) (λ c rest g. (rest, refl)) ts ts f refl (seq_goes s ts f g)
      | inr e ↦ let g : run r ts ≡ Err f = rw e at h in
          within (spells r) (Fits r) (spells (peek test s r)) (Fits (peek test s r)) [] (λ c. inr c) (λ c g. g) (λ c rest g. (rest, refl)) ts ts f refl (seq_goes r ts f g)
    ]
seq_goes (switch f) ts e h =
    within (spells (f (first_of ts))) (Fits (f (first_of ts))) (spells (switch f)) (Fits (switch f)) [] (λ c. (first_of ts, c)) (λ c g. g) (λ c rest g. (rest, refl)) ts ts e refl
    (seq_goes (f (first_of ts)) ts e h)
seq_goes {T} (refused s) ts f h =
    let d = seq_some s in
    let k : ◌≡◌ {A = Answer T} (Err (unexpected ts)) (Err f) = h in
    missing (spells (refused s)) (Fits (refused s)) d.0 d.1 ts f (cc)

-- a good tree is a choice
pub record Chosen {T : Type 0} (s : Seq T) (deeps : T → List Terminal → Option (List Terminal)) (Over : T → List Terminal → Type 0) (t : T) : Type 0 where
  pub choice : Choice s
  pub of : tree s choice ≡ t
  pub fits : Fits s choice
  pub depth : (rest : List Terminal) → depths s choice rest ≡ deeps t rest
  pub follows : (rest : List Terminal) → Over t rest → Follows s choice rest

-- the reader of a production
pub laws_of : {T : Type 0} {read : List Terminal → Answer T} {spelled : T → List Terminal → List Terminal} {Good : T → Type 0}
    {deeps : T → List Terminal → Option (List Terminal)} {Over : T → List Terminal → Type 0}
    → (s : Seq T) → ((ts : List Terminal) → read ts ≡ run s ts)
    → ((c : Choice s) (rest : List Terminal) → spelled (tree s c) rest ≡ spells s c rest)
    → ((c : Choice s) → Fits s c → Good (tree s c))
    → ((t : T) → Good t → Chosen s deeps Over t)
    → Laws read spelled Good deeps Over
laws_of {T} {read} {spelled} {Good} {deeps} {Over} s same spelling good chosen =
    subst (λ read. Laws read spelled Good deeps Over) (fun_ext (λ ts. sym (same ts))) (record {
      local = seq_local s;
      complete = λ t rest g o. let c = chosen t g in
          ap (λ z. run s z) (is t c rest) ∙ seq_complete s c.choice rest c.fits (c.follows rest o) ∙ ap (λ z. outcome z (tree s c.choice) rest) (c.depth rest) ∙ ap (λ z. outcome (deeps t rest) z rest) c.of;
      sound = λ ts y h. let c = seq_sound s ts y h in (
        c.is ∙ sym (spelling c.choice y.1) ∙ ap (λ z. spelled z y.1) c.of,
        subst Good c.of (good c.choice c.fits),
        subst (λ z. Apart spelled z) c.of (λ xs ys. spelling c.choice (xs ++ ys) ∙ c.apart xs ys ∙ ap (λ z. z ++ ys) (sym (spelling c.choice xs))),
      );
      goes = λ ts f h. within (spells s) (Fits s) spelled Good [] (tree s) good (λ c rest g. (rest, spelling c rest)) ts ts f refl (seq_goes s ts f h);
      some = tree s (seq_some s).0;
      fine = good (seq_some s).0 (seq_some s).1;
    })
  where
    is : (t : T) (c : Chosen s deeps Over t) (rest : List Terminal) → spelled t rest ≡ spells s c.choice rest
    is t c rest = ap (λ z. spelled z rest) (sym c.of) ∙ spelling c.choice rest
