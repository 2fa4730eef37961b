-- Readers that look at two terminals: a name after which `(` stands begins a call.
use Rattle.std.proofs.Common.{◌≡◌, ◌&&◌, inl, inr, Bool, true, false, ℕ, zero, suc, ◌<◌, List, [], ◌∷◌, ◌++◌, Option, Some, Ok, Err, refl, sym, ap, ◌∙◌, subst, arith, if◌then◌else◌}
use Rattle.std.proofs.Math.Path.{fun_ext}
use Rattle.c_grammar.specs.declared.terminal.Symbol.TheVariants as w
use Rattle.c_grammar.specs.declared.terminal.Span.{Span}
use Rattle.c_grammar.specs.declared.terminal.Terminal.{Terminal}
use Rattle.c_grammar.specs.Tree.{Expr}
use Rattle.c_grammar.specs.Symbols.{is}
use Rattle.c_grammar.specs.Reading.{Answer, heads, read_place, unary_by, read_unary, read_binary, read_choice, expr_at}
use Rattle.c_grammar.specs.StmtReading.{calls}
use Rattle.c_grammar.proofs.Local.{IsLocal, Ends, Alike, rest_of, bind_ends, gone, test_cases}
use Rattle.c_grammar.proofs.Laws.{Laws, Apart, within, outcome, is_symbol, expect-is}
use Rattle.c_grammar.proofs.Sequence.{Seq, token, part, run, Choice, tree, spells, Fits, Chosen, seq_local, seq_some, seq_complete, seq_sound, seq_goes}
use Rattle.c_grammar.proofs.ExprLaws.{ExprLaws, RankLaws, expr_laws, place_laws, unary_laws, bin_laws, place_behind, named_behind, bin_behind, choice_behind}

-- a name that stands first is taken
abbrev pub Takes : {A : Type 0} → (List Terminal → Answer A) → Type 0
Takes reader = (t : Terminal) (ts : List Terminal) → t.symbol ≡ w.Name → Ends ts (rest_of (reader (t ∷ ts)))

pub token_takes : {T : Type 0} (k : Span → Seq T) → Takes (run (token w.Name k))
token_takes k t ts h =
    let e : t ∷ ts ≡ record { symbol = w.Name; span = t.span } ∷ ts = ap (λ z. record { symbol = z; span = t.span } ∷ ts) h in
    subst (λ z. Ends ts (rest_of (run (token w.Name k) z))) (sym e) (rw (expect-is w.Name t.span ts) ((seq_local (k t.span)).ends ts))

pub part_takes : {T A : Type 0} {reader : List Terminal → Answer A} {spelled : A → List Terminal → List Terminal} {Good : A → Type 0}
    {deeps : A → List Terminal → Option (List Terminal)} {Over : A → List Terminal → Type 0}
    (l : Laws reader spelled Good deeps Over) (k : A → Seq T) → Takes reader → Takes (run (part l k))
part_takes {reader = reader} l k h t ts e = bind_ends ts (reader (t ∷ ts)) _ (h t ts e) (λ y us. (seq_local (k y)).ends us)

pub place_takes : (n : ℕ) (index : List Terminal → Answer Expr) (li : ExprLaws n index) → Takes (read_place index)
unfolding read_place
place_takes n index li = token_takes (place_behind n index li)

unary_takes : (n : ℕ) (under : Bool → List Terminal → Answer Expr) (lt : ExprLaws n (under true)) (lf : RankLaws n 0 (under false)) → Takes (read_unary under)
unfolding read_unary
unary_takes n under lt lf t ts e =
    let h : Ends ts (rest_of (unary_by under (t ∷ ts) (Some w.Name))) = part_takes (place_laws n (under true) lt) (named_behind n under lt lf) (place_takes n (under true) lt) t ts e in
    subst (λ z. Ends ts (rest_of (unary_by under (t ∷ ts) (Some z)))) (sym e) h

bin_takes : (n : ℕ) (operand : List Terminal → Answer Expr) → RankLaws (suc n) 0 operand → Takes operand → (k : ℕ) → k < 11 → Takes (read_binary operand k)
unfolding read_binary
bin_takes n operand l h zero m = h
bin_takes n operand l h (suc k) m = part_takes (bin_laws n operand l k (omega arith)) (bin_behind n k (omega arith) (read_binary operand k) (bin_laws n operand l k (omega arith))) (bin_takes n operand l h k (omega arith))

pub expr_takes : (n : ℕ) → Takes (expr_at (suc n) true)
unfolding expr_at read_choice
expr_takes n =
    let l = expr_laws n in
    let u = unary_laws n (expr_at n) l.full l.operand in
    let b = bin_laws n (read_unary (expr_at n)) u 10 (omega arith) in
    part_takes b (choice_behind n (expr_at n) l.full b) (bin_takes n (read_unary (expr_at n)) u (unary_takes n (expr_at n) l.full l.operand) 10 (omega arith))

abbrev pub fork : {A : Type 0} → (List Terminal → Answer A) → (List Terminal → Answer A) → List Terminal → Answer A
fork a b ts = if calls ts then a ts else b ts

same_look : (v : List Terminal) (x : Terminal) (r r' : List Terminal) → heads (is w.OpenParen) (v ++ x ∷ r) ≡ heads (is w.OpenParen) (v ++ x ∷ r')
same_look [] x r r' = refl
same_look (y ∷ v) x r r' = refl

fork_local : {A : Type 0} (a b : List Terminal → Answer A) → IsLocal a → IsLocal b → Takes a → Takes b → IsLocal (fork a b)
fork_local {A} a b p q ta tb = record {
  ends = λ ts. elim (test_cases (calls ts)) [ inl e ↦ rw e (p.ends ts) | inr e ↦ rw e (q.ends ts) ];
  alike = alike;
}
  where
    same_calls : (y : Terminal) (v : List Terminal) (x : Terminal) (r r' : List Terminal) → calls (y ∷ (v ++ x ∷ r')) ≡ calls (y ∷ (v ++ x ∷ r))
    same_calls y v x r r' = ap (λ z. is w.Name y.symbol && z) (same_look v x r' r)

    none : (x : Terminal) (r : List Terminal) → is w.Name x.symbol ≡ false → calls (x ∷ r) ≡ false
    none x r e = rw e refl

    taken : (x : Terminal) (r : List Terminal) → x.symbol ≡ w.Name → Ends r (rest_of (fork a b (x ∷ r)))
    taken x r e = elim (test_cases (calls (x ∷ r))) [ inl h ↦ rw h (ta x r e) | inr h ↦ rw h (tb x r e) ]

    alike : (v : List Terminal) (x : Terminal) (r r' : List Terminal) → Alike x r r' (fork a b (v ++ x ∷ r)) (fork a b (v ++ x ∷ r'))
    alike [] x r r' = elim (test_cases (is w.Name x.symbol)) [
      | inl e ↦ gone (fork a b (x ∷ r)) (fork a b (x ∷ r')) x r r' (taken x r (is_symbol w.Name x.symbol e))
      | inr e ↦ rw (none x r e, none x r' e) (q.alike [] x r r')
    ]
    alike (y ∷ v) x r r' = elim (test_cases (calls (y ∷ (v ++ x ∷ r)))) [
      | inl e ↦ rw (e, same_calls y v x r r' ∙ e) (p.alike (y ∷ v) x r r')
      | inr e ↦ rw (e, same_calls y v x r r' ∙ e) (q.alike (y ∷ v) x r r')
    ]

-- the two terminals tell which of two productions a tree is of
pub data Forked {T : Type 0} (s r : Seq T) (spelled : T → List Terminal → List Terminal) (deeps : T → List Terminal → Option (List Terminal)) (Over : T → List Terminal → Type 0) (t : T) : Type 0 where
  call : Chosen s deeps Over t → ((rest : List Terminal) → Over t rest → calls (spelled t rest) ≡ true) → Forked s r spelled deeps Over t
  other : Chosen r deeps Over t → ((rest : List Terminal) → Over t rest → calls (spelled t rest) ≡ false) → Forked s r spelled deeps Over t

pub fork_laws : {T : Type 0} {reader : List Terminal → Answer T} {spelled : T → List Terminal → List Terminal} {Good : T → Type 0}
    {deeps : T → List Terminal → Option (List Terminal)} {Over : T → List Terminal → Type 0}
    → (s r : Seq T) → ((ts : List Terminal) → reader ts ≡ fork (run s) (run r) ts) → Takes (run s) → Takes (run r)
    → ((c : Choice s) (rest : List Terminal) → spelled (tree s c) rest ≡ spells s c rest)
    → ((c : Choice r) (rest : List Terminal) → spelled (tree r c) rest ≡ spells r c rest)
    → ((c : Choice s) → Fits s c → Good (tree s c))
    → ((c : Choice r) → Fits r c → Good (tree r c))
    → ((t : T) → Good t → Forked s r spelled deeps Over t)
    → Laws reader spelled Good deeps Over
fork_laws {T} {reader} {spelled} {Good} {deeps} {Over} s r same ts tr ss sr gs gr chosen =
    subst (λ reader. Laws reader spelled Good deeps Over) (fun_ext (λ ts. sym (same ts))) (record {
      local = fork_local (run s) (run r) (seq_local s) (seq_local r) ts tr;
      complete = λ t rest g o. complete t rest o (chosen t g);
      sound = λ us y h. elim (test_cases (calls us)) [
        | inl e ↦ let k : run s us ≡ Ok y = rw e at h in sound s ss gs us y k
        | inr e ↦ let k : run r us ≡ Ok y = rw e at h in sound r sr gr us y k
      ];
      goes = λ us f h. elim (test_cases (calls us)) [
        | inl e ↦ let k : run s us ≡ Err f = rw e at h in within (spells s) (Fits s) spelled Good [] (tree s) gs (λ c rest g. (rest, ss c rest)) us us f refl (seq_goes s us f k)
        | inr e ↦ let k : run r us ≡ Err f = rw e at h in within (spells r) (Fits r) spelled Good [] (tree r) gr (λ c rest g. (rest, sr c rest)) us us f refl (seq_goes r us f k)
      ];
      some = tree s (seq_some s).0;
      fine = gs (seq_some s).0 (seq_some s).1;
    })
  where
    sound : (s : Seq T) → ((c : Choice s) (rest : List Terminal) → spelled (tree s c) rest ≡ spells s c rest) → ((c : Choice s) → Fits s c → Good (tree s c))
        → (us : List Terminal) (y : T × List Terminal) → run s us ≡ Ok y → (us ≡ spelled y.0 y.1) × Good y.0 × Apart spelled y.0
    sound s ss gs us y h = let c = seq_sound s us y h in (
      c.is ∙ sym (ss c.choice y.1) ∙ ap (λ z. spelled z y.1) c.of,
      subst Good c.of (gs c.choice c.fits),
      subst (λ z. Apart spelled z) c.of (λ xs ys. ss c.choice (xs ++ ys) ∙ c.apart xs ys ∙ ap (λ z. z ++ ys) (sym (ss c.choice xs))),
    )

    one : (s : Seq T) → ((c : Choice s) (rest : List Terminal) → spelled (tree s c) rest ≡ spells s c rest) → (t : T) (rest : List Terminal) → Over t rest
        → Chosen s deeps Over t → run s (spelled t rest) ≡ outcome (deeps t rest) t rest
    one s ss t rest o c =
        ap (λ z. run s z) (ap (λ z. spelled z rest) (sym c.of) ∙ ss c.choice rest) ∙ seq_complete s c.choice rest c.fits (c.follows rest o)
        ∙ ap (λ z. outcome z (tree s c.choice) rest) (c.depth rest) ∙ ap (λ z. outcome (deeps t rest) z rest) c.of

    complete : (t : T) (rest : List Terminal) → Over t rest → Forked s r spelled deeps Over t → fork (run s) (run r) (spelled t rest) ≡ outcome (deeps t rest) t rest
    complete t rest o (call c look) = rw (look rest o) (one s ss t rest o c)
    complete t rest o (other c look) = rw (look rest o) (one r sr t rest o c)
