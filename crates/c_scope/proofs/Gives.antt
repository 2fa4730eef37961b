-- What a walk gives of a whole, from what it gives of the parts.
use Rattle.std.proofs.Common.{MatchResult, MatchOption, IsOkAnd, IsSomeAnd, ◌≡◌, ◌++◌, Bool, List, Option, Some, None, option_map, Result, Ok, Err, IfOk, refl, sym, ap, subst, ◌∙◌}
use Rattle.c_lex.specs.declared.fault.Why.{Why}
use Rattle.c_grammar.specs.declared.terminal.Span.{Span}
use Rattle.c_scope.specs.Least.{least_fault_from, fault_unless}
use Rattle.c_scope.specs.Typing.{Typing, faults_of, onto, both, three, four, five, also}
use Rattle.c_scope.specs.Walks.{Gives, Walked, are_none, typed_form, found_both, if_both, if_so, mapped}
use Rattle.c_scope.specs.declared.fault.TypingFault.{TypingFault}
use Rattle.c_scope.proofs.Least.{least_from_append}
use Rattle.c_scope.proofs.Typings.{faults_also, faults_both, faults_onto, form_also, form_both, form_onto, none_unless}

walked : (old mid new : Option TypingFault) (first second : List TypingFault) → mid ≡ least_fault_from old first → new ≡ least_fault_from mid second
    → new ≡ least_fault_from old (first ++ second)
walked old mid new first second m n = n ∙ ap (λ b. least_fault_from b second) m ∙ sym (least_from_append old first second)

-- the same form
pub gives_form : {A : Type 0} {old new : Option TypingFault} {found other : Option A} {t : Typing A} → Gives old new found t → other ≡ found → Gives old new other t
gives_form g e = record { best = g.best; form = e ∙ g.form }

pub gives_onto : {A B : Type 0} {old new : Option TypingFault} {found : Option A} (form : A → B) (t : Typing A)
    → Gives old new found t → Gives old new (option_map form found) (onto form t)
gives_onto {old} form t g = record {
  best = g.best ∙ ap (least_fault_from old) (sym (faults_onto form t));
  form = ap (option_map form) g.form ∙ sym (form_onto form t);
}

pub gives_both : {A B C : Type 0} {old mid new : Option TypingFault} {a : Option A} {b : Option B} (form : A → B → C) (s : Typing A) (t : Typing B)
    → Gives old mid a s → Gives mid new b t → Gives old new (if_both form a b) (both form s t)
gives_both {old} {mid} {new} {a} {b} form s t g h = record {
  best = walked old mid new (faults_of s) (faults_of t) g.best h.best ∙ ap (least_fault_from old) (sym (faults_both form s t));
  form = ap (λ one. if_both form one b) g.form ∙ ap (λ one. if_both form (typed_form s) one) h.form ∙ sym (form_both form s t);
}

pub gives_also : {A : Type 0} {old mid new : Option TypingFault} {found : Option A} (fs : List TypingFault) (t : Typing A)
    → Gives old mid found t → new ≡ least_fault_from mid fs → Gives old new (if_so (are_none fs) found) (also fs t)
gives_also {old} {mid} {new} {found} fs t g n = record {
  best = walked old mid new (faults_of t) fs g.best n ∙ ap (least_fault_from old) (sym (faults_also fs t));
  form = ap (if_so (are_none fs)) g.form ∙ sym (form_also fs t);
}

pub gives_unless : {A : Type 0} {old mid new : Option TypingFault} {found : Option A} (well : Bool) (at : Span) (why : Why) (t : Typing A)
    → Gives old mid found t → new ≡ least_fault_from mid (fault_unless well at why) → Gives old new (if_so well found) (also (fault_unless well at why) t)
gives_unless {found} well at why t g n =
    gives_form (gives_also (fault_unless well at why) t g n) (ap (λ one. if_so one found) (sym (none_unless well at why)))

-- ---- what walks found

both_viewed : {A B C D F : Type 0} (g : A → C) (h : B → D) (form : C → D → F) (a : Option A) (b : Option B)
    → option_map {T = A × B} (λ pair. form (g pair.0) (h pair.1)) (if_both (λ x y. (x, y)) a b) ≡ if_both form (option_map g a) (option_map h b)
both_viewed g h form None b = refl
both_viewed g h form (Some x) None = refl
both_viewed g h form (Some x) (Some y) = refl

-- of what two walks found, from what each gives
pub walked_both : {A B C D F E : Type 0} (old mid new : Option TypingFault) (g : A → C) (h : B → D) (form : C → D → F) (s : Typing C) (t : Typing D)
    (first : Result (Option A) E) (second : Result (Option B) E)
    → Walked g old mid first s → Walked h mid new second t → Walked {A = A × B} (λ pair. form (g pair.0) (h pair.1)) old new (found_both first second) (both form s t)
walked_both old mid new g h form s t (Err e) second p q = tt
walked_both old mid new g h form s t (Ok a) (Err e) p q = tt
walked_both old mid new g h form s t (Ok a) (Ok b) p q = gives_form (gives_both form s t p q) (both_viewed g h form a b)

-- the same, of other values whose pure form is the same
pub walked_as : {A B C E : Type 0} (old new : Option TypingFault) (g : A → C) (h : B → C) (t : Typing C) (found : Result (Option A) E) (result : Result (Option B) E)
    → Walked g old new found t → mapped h result ≡ mapped g found → Walked h old new result t
walked_as old new g h t found result w e = subst (λ one. IfOk one (λ form. Gives old new form t)) (sym e) w

pub mapped_onto : {A B C E : Type 0} (old new : Option TypingFault) (g : A → B) (form : B → C) (t : Typing B) (found : Result (Option A) E)
    → Walked g old new found t → Walked (λ x. form (g x)) old new found (onto form t)
mapped_onto old new g form t (Err e) w = tt
mapped_onto old new g form t (Ok None) w = gives_onto form t w
mapped_onto old new g form t (Ok (Some x)) w = gives_onto form t w

-- of a whole of one part
pub walked_onto : {A B C D E : Type 0} (old new : Option TypingFault) (g : A → B) (h : D → C) (form : B → C) (t : Typing B) (found : Result (Option A) E) (result : Result (Option D) E)
    → Walked g old new found t → mapped h result ≡ mapped (λ x. form (g x)) found → Walked h old new result (onto form t)
walked_onto old new g h form t found result w e = walked_as old new (λ x. form (g x)) h (onto form t) found result (mapped_onto old new g form t found w) e

-- ---- of two and more parts, joined one after another

pub walked_two : {A1 A2 B1 B2 C E : Type 0} (old b1 new : Option TypingFault) (g1 : A1 → B1) (g2 : A2 → B2) (form : B1 → B2 → C) (t1 : Typing B1) (t2 : Typing B2)
    (r1 : Result (Option A1) E) (r2 : Result (Option A2) E) (all : Result (Option (A1 × A2)) E)
    → Walked g1 old b1 r1 t1 → Walked g2 b1 new r2 t2 → all ≡ found_both r1 r2
    → Walked {A = A1 × A2} (λ all. form (g1 all.0) (g2 all.1)) old new all (both form t1 t2)
walked_two old b1 new g1 g2 form t1 t2 r1 r2 all w1 w2 e = rw e (walked_both old b1 new g1 g2 form t1 t2 r1 r2 w1 w2)

pub walked_three : {A1 A2 A3 B1 B2 B3 C E : Type 0} (old b1 b2 new : Option TypingFault) (g1 : A1 → B1) (g2 : A2 → B2) (g3 : A3 → B3) (form : B1 → B2 → B3 → C)
    (t1 : Typing B1) (t2 : Typing B2) (t3 : Typing B3) (r1 : Result (Option A1) E) (r2 : Result (Option A2) E) (r3 : Result (Option A3) E)
    (all : Result (Option ((A1 × A2) × A3)) E)
    → Walked g1 old b1 r1 t1 → Walked g2 b1 b2 r2 t2 → Walked g3 b2 new r3 t3 → all ≡ found_both (found_both r1 r2) r3
    → Walked {A = (A1 × A2) × A3} (λ all. form (g1 all.0.0) (g2 all.0.1) (g3 all.1)) old new all (three form t1 t2 t3)
walked_three old b1 b2 new g1 g2 g3 form t1 t2 t3 r1 r2 r3 all w1 w2 w3 e =
    walked_two old b2 new (λ all. form (g1 all.0) (g2 all.1)) g3 (λ with last. with last) (both form t1 t2) t3 (found_both r1 r2) r3 all
    (walked_both old b1 b2 g1 g2 form t1 t2 r1 r2 w1 w2) w3 e

pub walked_four : {A1 A2 A3 A4 B1 B2 B3 B4 C E : Type 0} (old b1 b2 b3 new : Option TypingFault) (g1 : A1 → B1) (g2 : A2 → B2) (g3 : A3 → B3) (g4 : A4 → B4)
    (form : B1 → B2 → B3 → B4 → C) (t1 : Typing B1) (t2 : Typing B2) (t3 : Typing B3) (t4 : Typing B4)
    (r1 : Result (Option A1) E) (r2 : Result (Option A2) E) (r3 : Result (Option A3) E) (r4 : Result (Option A4) E) (all : Result (Option (((A1 × A2) × A3) × A4)) E)
    → Walked g1 old b1 r1 t1 → Walked g2 b1 b2 r2 t2 → Walked g3 b2 b3 r3 t3 → Walked g4 b3 new r4 t4 → all ≡ found_both (found_both (found_both r1 r2) r3) r4
    → Walked {A = ((A1 × A2) × A3) × A4} (λ all. form (g1 all.0.0.0) (g2 all.0.0.1) (g3 all.0.1) (g4 all.1)) old new all (four form t1 t2 t3 t4)
walked_four old b1 b2 b3 new g1 g2 g3 g4 form t1 t2 t3 t4 r1 r2 r3 r4 all w1 w2 w3 w4 e =
    walked_two old b3 new (λ all. form (g1 all.0.0) (g2 all.0.1) (g3 all.1)) g4 (λ with last. with last) (three form t1 t2 t3) t4 (found_both (found_both r1 r2) r3) r4 all
    (walked_three old b1 b2 b3 g1 g2 g3 form t1 t2 t3 r1 r2 r3 _ w1 w2 w3 refl) w4 e

pub walked_five : {A1 A2 A3 A4 A5 B1 B2 B3 B4 B5 C E : Type 0} (old b1 b2 b3 b4 new : Option TypingFault) (g1 : A1 → B1) (g2 : A2 → B2) (g3 : A3 → B3) (g4 : A4 → B4) (g5 : A5 → B5)
    (form : B1 → B2 → B3 → B4 → B5 → C) (t1 : Typing B1) (t2 : Typing B2) (t3 : Typing B3) (t4 : Typing B4) (t5 : Typing B5)
    (r1 : Result (Option A1) E) (r2 : Result (Option A2) E) (r3 : Result (Option A3) E) (r4 : Result (Option A4) E) (r5 : Result (Option A5) E)
    (all : Result (Option ((((A1 × A2) × A3) × A4) × A5)) E)
    → Walked g1 old b1 r1 t1 → Walked g2 b1 b2 r2 t2 → Walked g3 b2 b3 r3 t3 → Walked g4 b3 b4 r4 t4 → Walked g5 b4 new r5 t5
    → all ≡ found_both (found_both (found_both (found_both r1 r2) r3) r4) r5
    → Walked {A = (((A1 × A2) × A3) × A4) × A5} (λ all. form (g1 all.0.0.0.0) (g2 all.0.0.0.1) (g3 all.0.0.1) (g4 all.0.1) (g5 all.1)) old new all (five form t1 t2 t3 t4 t5)
walked_five old b1 b2 b3 b4 new g1 g2 g3 g4 g5 form t1 t2 t3 t4 t5 r1 r2 r3 r4 r5 all w1 w2 w3 w4 w5 e =
    walked_two old b4 new (λ all. form (g1 all.0.0.0) (g2 all.0.0.1) (g3 all.0.1) (g4 all.1)) g5 (λ with last. with last) (four form t1 t2 t3 t4) t5
    (found_both (found_both (found_both r1 r2) r3) r4) r5 all
    (walked_four old b1 b2 b3 b4 g1 g2 g3 g4 form t1 t2 t3 t4 r1 r2 r3 r4 _ w1 w2 w3 w4 refl) w5 e

-- ---- of a form that is made of what a walk found

pub walked_made : {A B C E : Type 0} (old new : Option TypingFault) (g : A → C) (h : B → C) (t : Typing C) (post : A → B → Type 0)
    (found : Result (Option A) E) (result : Result (Option B) E)
    → Walked g old new found t
    → MatchResult found (λ one. MatchOption one (result ≡ Ok None) (λ a. IsOkAnd result (λ other. IsSomeAnd other (post a)))) (λ e. result ≡ Err e)
    → ((a : A) (b : B) → post a b → h b ≡ g a) → Walked h old new result t
walked_made old new g h t post (Ok (Some a)) (Ok (Some b)) w p same = gives_form w (ap (λ one. Some one) (same a b p))
walked_made old new g h t post (Ok (Some a)) (Ok None) w p same = absurd p
walked_made old new g h t post (Ok (Some a)) (Err f) w p same = absurd p
walked_made old new g h t post (Ok None) result w p same = rw p w
walked_made old new g h t post (Err e) result w p same = rw p tt
