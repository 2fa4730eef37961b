-- What a reader keeps: it reads each good tree from its spelling, what it reads is a good tree, and where it stops some tree goes on.
use Rattle.std.proofs.Common.{◌≡◌, ◌==◌, ◌⊎◌, inl, inr, Bool, true, false, ℕ, List, [], ◌∷◌, ◌++◌, Option, Some, None, Ok, Err, refl, sym, ap, ◌∙◌, subst, append_assoc, if◌then◌else◌, eqb-true, eq-eqb}
use Rattle.c_lex.specs.declared.fault.Why.{Why}
use Rattle.c_lex.specs.declared.fault.Why.TheVariants.{Unexpected, TooDeep}
use Rattle.c_grammar.specs.declared.terminal.Symbol.{Symbol}
use Rattle.c_grammar.specs.declared.terminal.Symbol.TheVariants as w
use Rattle.c_grammar.specs.declared.terminal.Span.{Span}
use Rattle.c_grammar.specs.declared.terminal.Terminal.{Terminal}
use Rattle.c_grammar.specs.Symbols.{is, symbol_code}
use Rattle.c_grammar.specs.Grammar.{at, earlier}
use Rattle.c_grammar.specs.Reading.{Fault, Answer, refuse, ◌>>=◌, expect, one_of}
use Rattle.c_grammar.proofs.Local.{IsLocal, test_cases}

abbrev pub outcome : {A : Type 0} → Option (List Terminal) → A → List Terminal → Answer A
outcome None a rest = Ok (a, rest)
outcome (Some d) a rest = refuse TooDeep d

pub pass_on : {A B : Type 0} (o p : Option (List Terminal)) (a : A) (ts : List Terminal) (f : A × List Terminal → Answer B) (b : B) (us : List Terminal)
    → f (a, ts) ≡ outcome p b us → (outcome o a ts >>= f) ≡ outcome (earlier o p) b us
pass_on None p a ts f b us h = h
pass_on (Some d) p a ts f b us h = refl

pub last : (o : Option (List Terminal)) → earlier o None ≡ o
last None = refl
last (Some d) = refl

pub eqb-false : (a b : ℕ) → (a ≡ b → ⊥) → (a == b) ≡ false
eqb-false a b h = elim (test_cases (a == b)) [ inl e ↦ absurd (h (eqb-true a b e)) | inr e ↦ e ]

pub not_both : {X : Type 0} (b : Bool) → b ≡ true → b ≡ false → X
not_both b p q = absurd (cc)

pub bind_ok : {A B : Type 0} (a : Answer A) (f : A × List Terminal → Answer B) (y : B × List Terminal) → (a >>= f) ≡ Ok y → (x : A × List Terminal) × (a ≡ Ok x) × (f x ≡ Ok y)
bind_ok (Ok x) f y h = (x, refl, h)
bind_ok (Err e) f y h = absurd (cc)

pub bind_err : {A B : Type 0} (a : Answer A) (f : A × List Terminal → Answer B) (g : Fault) → (a >>= f) ≡ Err g
    → (a ≡ Err g) ⊎ ((x : A × List Terminal) × (a ≡ Ok x) × (f x ≡ Err g))
bind_err (Ok x) f g h = inr (x, refl, h)
bind_err (Err e) f g h = inl (let k : ◌≡◌ {A = Answer _} (Err e) (Err g) = h in let q : e ≡ g = cc in ap (λ z. Err z) q)

abbrev pub unexpected : List Terminal → Fault
unexpected ts = record { why = Unexpected; rest = ts }

-- the symbol of a code
symbol_of : ℕ → Symbol
symbol_of n =
    if n == 0 then w.Name else if n == 1 then w.Number else if n == 2 then w.Text else if n == 3 then w.Define else if n == 4 then w.EndLine else if n == 5 then w.Int
    else if n == 6 then w.Void else if n == 7 then w.Char else if n == 8 then w.Status else if n == 9 then w.Request else if n == 10 then w.Communicator else if n == 11 then w.If
    else if n == 12 then w.Else else if n == 13 then w.While else if n == 14 then w.Do else if n == 15 then w.For else if n == 16 then w.Break else if n == 17 then w.Continue
    else if n == 18 then w.Return else if n == 19 then w.OpenParen else if n == 20 then w.CloseParen else if n == 21 then w.OpenBrace else if n == 22 then w.CloseBrace else if n == 23 then w.OpenBracket
    else if n == 24 then w.CloseBracket else if n == 25 then w.Semicolon else if n == 26 then w.Comma else if n == 27 then w.Dot else if n == 28 then w.Question else if n == 29 then w.Colon
    else if n == 30 then w.Assign else if n == 31 then w.PlusAssign else if n == 32 then w.MinusAssign else if n == 33 then w.TimesAssign else if n == 34 then w.DivideAssign else if n == 35 then w.RemainderAssign
    else if n == 36 then w.AndAssign else if n == 37 then w.OrAssign else if n == 38 then w.XorAssign else if n == 39 then w.ShiftLeftAssign else if n == 40 then w.ShiftRightAssign else if n == 41 then w.Increment
    else if n == 42 then w.Decrement else if n == 43 then w.LogicalOr else if n == 44 then w.LogicalAnd else if n == 45 then w.Or else if n == 46 then w.Xor else if n == 47 then w.And
    else if n == 48 then w.Equal else if n == 49 then w.NotEqual else if n == 50 then w.Less else if n == 51 then w.AtMost else if n == 52 then w.Greater else if n == 53 then w.AtLeast
    else if n == 54 then w.ShiftLeft else if n == 55 then w.ShiftRight else if n == 56 then w.Plus else if n == 57 then w.Minus else if n == 58 then w.Times else if n == 59 then w.Divide
    else if n == 60 then w.Remainder else if n == 61 then w.Not else w.Complement

symbol_of-code : (x : Symbol) → symbol_of (symbol_code x) ≡ x
unfolding symbol_of
symbol_of-code w.Name = refl
symbol_of-code w.Number = refl
symbol_of-code w.Text = refl
symbol_of-code w.Define = refl
symbol_of-code w.EndLine = refl
symbol_of-code w.Int = refl
symbol_of-code w.Void = refl
symbol_of-code w.Char = refl
symbol_of-code w.Status = refl
symbol_of-code w.Request = refl
symbol_of-code w.Communicator = refl
symbol_of-code w.If = refl
symbol_of-code w.Else = refl
symbol_of-code w.While = refl
symbol_of-code w.Do = refl
symbol_of-code w.For = refl
symbol_of-code w.Break = refl
symbol_of-code w.Continue = refl
symbol_of-code w.Return = refl
symbol_of-code w.OpenParen = refl
symbol_of-code w.CloseParen = refl
symbol_of-code w.OpenBrace = refl
symbol_of-code w.CloseBrace = refl
symbol_of-code w.OpenBracket = refl
symbol_of-code w.CloseBracket = refl
symbol_of-code w.Semicolon = refl
symbol_of-code w.Comma = refl
symbol_of-code w.Dot = refl
symbol_of-code w.Question = refl
symbol_of-code w.Colon = refl
symbol_of-code w.Assign = refl
symbol_of-code w.PlusAssign = refl
symbol_of-code w.MinusAssign = refl
symbol_of-code w.TimesAssign = refl
symbol_of-code w.DivideAssign = refl
symbol_of-code w.RemainderAssign = refl
symbol_of-code w.AndAssign = refl
symbol_of-code w.OrAssign = refl
symbol_of-code w.XorAssign = refl
symbol_of-code w.ShiftLeftAssign = refl
symbol_of-code w.ShiftRightAssign = refl
symbol_of-code w.Increment = refl
symbol_of-code w.Decrement = refl
symbol_of-code w.LogicalOr = refl
symbol_of-code w.LogicalAnd = refl
symbol_of-code w.Or = refl
symbol_of-code w.Xor = refl
symbol_of-code w.And = refl
symbol_of-code w.Equal = refl
symbol_of-code w.NotEqual = refl
symbol_of-code w.Less = refl
symbol_of-code w.AtMost = refl
symbol_of-code w.Greater = refl
symbol_of-code w.AtLeast = refl
symbol_of-code w.ShiftLeft = refl
symbol_of-code w.ShiftRight = refl
symbol_of-code w.Plus = refl
symbol_of-code w.Minus = refl
symbol_of-code w.Times = refl
symbol_of-code w.Divide = refl
symbol_of-code w.Remainder = refl
symbol_of-code w.Not = refl
symbol_of-code w.Complement = refl

pub same_symbol : (x y : Symbol) → symbol_code x ≡ symbol_code y → x ≡ y
same_symbol x y h = sym (symbol_of-code x) ∙ ap symbol_of h ∙ symbol_of-code y

pub is_symbol : (x y : Symbol) → is x y ≡ true → y ≡ x
is_symbol x y h = same_symbol y x (eqb-true _ _ h)

pub expect-is : (x : Symbol) (p : Span) (ts : List Terminal) → expect x (at x p ∷ ts) ≡ Ok (p, ts)
unfolding expect
expect-is x p ts = rw (eq-eqb (symbol_code x) (symbol_code x) refl) refl

pub expect-ok : (x : Symbol) (ts : List Terminal) (y : Span × List Terminal) → expect x ts ≡ Ok y → ts ≡ at x y.0 ∷ y.1
unfolding expect
expect-ok x [] y h = absurd (cc)
expect-ok x (t ∷ ts) y h =
    elim (test_cases (is x t.symbol)) [
      | inl e ↦
          let k : ◌≡◌ {A = Answer Span} (Ok (t.span, ts)) (Ok y) = rw e at h in
          let p : Span × List Terminal = (t.span, ts) in
          let q : p ≡ y = cc in
          ap (λ z. at z t.span ∷ ts) (is_symbol x t.symbol e) ∙ ap (λ (z : Span × List Terminal). at x z.0 ∷ z.1) q
      | inr e ↦ absurd (let k : refuse {A = Span} Unexpected (t ∷ ts) ≡ Ok y = rw e at h in cc)
    ]

pub expect-err : (x : Symbol) (ts : List Terminal) (f : Fault) → expect x ts ≡ Err f → unexpected ts ≡ f
unfolding expect
expect-err x [] f h = cc
expect-err x (t ∷ ts) f h =
    elim (test_cases (is x t.symbol)) [
      | inl e ↦ absurd (let k : ◌≡◌ {A = Answer Span} (Ok (t.span, ts)) (Err f) = rw e at h in cc)
      | inr e ↦ let k : ◌≡◌ {A = Answer Span} (Err (unexpected (t ∷ ts))) (Err f) = rw e at h in cc
    ]

pub one_of-is : (test : Symbol → Bool) (t : Terminal) (ts : List Terminal) → test t.symbol ≡ true → one_of test (t ∷ ts) ≡ Ok (t, ts)
unfolding one_of
one_of-is test t ts h = rw h refl

pub one_of-ok : (test : Symbol → Bool) (ts : List Terminal) (y : Terminal × List Terminal) → one_of test ts ≡ Ok y → (ts ≡ y.0 ∷ y.1) × (test y.0.symbol ≡ true)
unfolding one_of
one_of-ok test [] y h = absurd (cc)
one_of-ok test (t ∷ ts) y h =
    elim (test_cases (test t.symbol)) [
      | inl e ↦
          let k : ◌≡◌ {A = Answer Terminal} (Ok (t, ts)) (Ok y) = rw e at h in
          let p : Terminal × List Terminal = (t, ts) in
          let q : p ≡ y = cc in
          (ap (λ (z : Terminal × List Terminal). z.0 ∷ z.1) q, subst (λ (z : Terminal × List Terminal). test z.0.symbol ≡ true) q e)
      | inr e ↦ absurd (let k : refuse {A = Terminal} Unexpected (t ∷ ts) ≡ Ok y = rw e at h in cc)
    ]

pub one_of-err : (test : Symbol → Bool) (ts : List Terminal) (f : Fault) → one_of test ts ≡ Err f → unexpected ts ≡ f
unfolding one_of
one_of-err test [] f h = cc
one_of-err test (t ∷ ts) f h =
    elim (test_cases (test t.symbol)) [
      | inl e ↦ absurd (let k : ◌≡◌ {A = Answer Terminal} (Ok (t, ts)) (Err f) = rw e at h in cc)
      | inr e ↦ let k : ◌≡◌ {A = Answer Terminal} (Err (unexpected (t ∷ ts))) (Err f) = rw e at h in cc
    ]

-- the terminal that is too deep is one that may stand there
abbrev pub seen : Why → List Terminal → List Terminal
seen TooDeep [] = []
seen TooDeep (t ∷ ts) = t ∷ []
seen _ rest = []

abbrev pub HasHead : Why → List Terminal → Type 0
HasHead Unexpected rest = Unit {0}
HasHead TooDeep (t ∷ ts) = Unit {0}
HasHead _ rest = ⊥

pub record GoesOn {A : Type 0} (spelled : A → List Terminal → List Terminal) (Good : A → Type 0) (ts : List Terminal) (f : Fault) : Type 0 where
  pub front : List Terminal
  pub is : ts ≡ front ++ f.rest
  pub head : HasHead f.why f.rest
  pub tree : A
  pub good : Good tree
  pub goes : (rest : List Terminal) → (z : List Terminal) × (spelled tree rest ≡ front ++ (seen f.why f.rest ++ z))

module _ {A B : Type 0} (spa : A → List Terminal → List Terminal) (GoodA : A → Type 0) (spb : B → List Terminal → List Terminal) (GoodB : B → Type 0) where
  -- the tree goes on inside another one
  pub within : (pre : List Terminal) (wrap : A → B) → ((a : A) → GoodA a → GoodB (wrap a))
      → ((a : A) (rest : List Terminal) → GoodA a → (after : List Terminal) × (spb (wrap a) rest ≡ pre ++ spa a after))
      → (ts us : List Terminal) (f : Fault) → ts ≡ pre ++ us → GoesOn spa GoodA us f → GoesOn spb GoodB ts f
  within pre wrap good h ts us f e c = record {
    front = pre ++ c.front;
    is = e ∙ ap (λ z. pre ++ z) c.is ∙ sym (append_assoc pre c.front f.rest);
    head = c.head;
    tree = wrap c.tree;
    good = good c.tree c.good;
    goes = λ rest. let k = h c.tree rest c.good in let m = c.goes k.0 in
        (m.0, k.1 ∙ ap (λ z. pre ++ z) m.1 ∙ sym (append_assoc pre c.front _));
  }

module _ {B : Type 0} (spb : B → List Terminal → List Terminal) (GoodB : B → Type 0) where
  -- nothing of this tree stands here
  pub missing : (b : B) → GoodB b → (ts : List Terminal) (f : Fault) → unexpected ts ≡ f → GoesOn spb GoodB ts f
  missing b good ts f q =
      subst (λ f. GoesOn spb GoodB ts f) q (record { front = []; is = refl; head = tt; tree = b; good = good; goes = λ rest. (spb b rest, refl) })

-- what it spells stands before all the others
abbrev pub Apart : {A : Type 0} → (A → List Terminal → List Terminal) → A → Type 0
Apart spelled a = (xs ys : List Terminal) → spelled a (xs ++ ys) ≡ spelled a xs ++ ys

-- the trees of a reader: what they spell, which are good, where they are too deep, and what may follow
pub record Laws {A : Type 0} (read : List Terminal → Answer A) (spelled : A → List Terminal → List Terminal) (Good : A → Type 0)
    (deeps : A → List Terminal → Option (List Terminal)) (Over : A → List Terminal → Type 0) : Type 0 where
  -- it rests on the terminals up to the one where it stops
  pub local : IsLocal read
  -- a good tree is read from its spelling, or refused where it is too deep
  pub complete : (a : A) (rest : List Terminal) → Good a → Over a rest → read (spelled a rest) ≡ outcome (deeps a rest) a rest
  -- what is read is a good tree of the terminals that were taken
  pub sound : (ts : List Terminal) (y : A × List Terminal) → read ts ≡ Ok y → (ts ≡ spelled y.0 y.1) × Good y.0 × Apart spelled y.0
  -- where it stops, some good tree goes on
  pub goes : (ts : List Terminal) (f : Fault) → read ts ≡ Err f → GoesOn spelled Good ts f
  -- there is a good tree
  pub some : A
  pub fine : Good some

abbrev pub zero_span : Span
zero_span = record { start = 0; len = 0 }
