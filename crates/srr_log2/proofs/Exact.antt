-- Readers that read exactly what is written, and how they go together.
use Rattle.std.proofs.Common.{◌≡◌, ℕ, zero, suc, ◌<◌, ◌≤◌, List, [], ◌∷◌, ◌++◌, length, refl, sym, ap, subst, ◌∙◌, append_assoc, arith, ℤ}
use Rattle.std.specs.Prelude.{All, FitsSigned, nat_lt}
use mir.Syntax.{w32}
use Rattle.std.specs.Int.{cast_signed, cast_unsigned}
use Rattle.std.proofs.lemmas.Bool.{lt-ltb, ltb-true}
use Rattle.std.proofs.lemmas.Int.{to_z-of_z, of_z-to_z}
use Rattle.std.proofs.Math.Facts.{sfits_to_z, Fits-of_z, Fits-lt-pow, Fits-of_lt}
use Rattle.std.proofs.lemmas.List.Elements.{All-head, All-tail, All-cons, All-nil}
use Rattle.srr_log.specs.declared.fault.LogWhy.TheVariants.{BadEntry}
use Rattle.srr_log.specs.Bounds.{IsSmallNumber, IsTag, AreInts}
use Rattle.srr_log2.specs.EntryBytes.{word_bytes, int_bytes, ints_bytes, counted_bytes}
use Rattle.srr_log2.specs.Fields.{Outcome, reads, Reader, onward, ◌>>=◌, give, coded_word, coded_many}
use Rattle.srr_log2.specs.EntryReading.{between, coded_small_number, coded_tag, coded_count, coded_int, coded_ints}
use Rattle.srr_log2.proofs.FieldLaws.{onward_reads, given, word_reads, word_written, between_holds, holds_between}

pub record IsExact {A : Type 0} (r : Reader A) (spell : A → List ℕ) (Ok : A → Type 0) : Type 0 where
  pub written : (a : A) (rest : List ℕ) → Ok a → r (spell a ++ rest) ≡ reads a rest
  pub read : (text rest : List ℕ) (a : A) → r text ≡ reads a rest → (text ≡ spell a ++ rest) × Ok a

-- one reader, and then another
pub go : {A B : Type 0} {r : Reader A} {spell : A → List ℕ} {Ok : A → Type 0} (exact : IsExact r spell Ok) (f : A → Reader B) (text rest : List ℕ) (b : B) → onward (r text) f ≡ reads b rest
    → (a : A) × (middle : List ℕ) × (text ≡ spell a ++ middle) × Ok a × (f a middle ≡ reads b rest)
go {r = r} exact f text rest b e = let a = onward_reads (r text) f b rest e in let x = exact.read text a.1 a.0 a.2 in (a.0, a.1, x.0, x.1, a.3)

pub put : {A B : Type 0} {r : Reader A} {spell : A → List ℕ} {Ok : A → Type 0} (exact : IsExact r spell Ok) (f : A → Reader B) (a : A) (middle : List ℕ) → Ok a → onward (r (spell a ++ middle)) f ≡ f a middle
put exact f a middle ok = ap (λ o. onward o f) (exact.written a middle ok)

-- one piece after another
pub along : (text a middle b rest : List ℕ) → text ≡ a ++ middle → middle ≡ b ++ rest → text ≡ (a ++ b) ++ rest
along text a middle b rest first second = first ∙ ap (λ xs. a ++ xs) second ∙ sym (append_assoc a b rest)

pub numbers : (least most : ℕ) → most < 4294967296 → IsExact (coded_word BadEntry (between least most)) word_bytes (λ n. (least ≤ n) × (n ≤ most))
numbers least most small = record {
  written = λ n rest ok. word_written BadEntry (between least most) n rest (omega (arith, ok.1)) (holds_between least most n ok.0 ok.1);
  read = λ text rest n e. let w = word_reads BadEntry (between least most) text rest n e in (w.0, between_holds least most n w.1);
}

-- two's complement
pub int_exact : IsExact coded_int int_bytes (λ int. FitsSigned w32 int)
unfolding coded_int
int_exact = record {
  written = λ int rest ok.
      let small : cast_unsigned w32 int < 4294967296 = Fits-lt-pow (Fits-of_z {w = w32} {z = int} ok) in
      let w = word_written BadEntry (λ number. nat_lt number 4294967296) (cast_unsigned w32 int) rest small (lt-ltb _ _ small) in
      ap (λ o. onward o (λ number. give (cast_signed w32 number))) w ∙ ap (λ z. given_int z rest) (to_z-of_z w32 int ok);
  read = λ text rest int e.
      let a = onward_reads (coded_word BadEntry (λ number. nat_lt number 4294967296) text) (λ number. give (cast_signed w32 number)) int rest e in
      let g = given (cast_signed w32 a.0) int a.1 rest a.3 in
      let w = word_reads BadEntry (λ number. nat_lt number 4294967296) text a.1 a.0 a.2 in
      let small : a.0 < 4294967296 = ltb-true _ _ w.1 in
      let back : cast_unsigned w32 (cast_signed w32 a.0) ≡ a.0 = of_z-to_z w32 a.0 small in
      let P : ℤ → Type 0 = λ z. (text ≡ int_bytes z ++ rest) × FitsSigned w32 z in
      subst P g.0 (w.0 ∙ ap (λ k. word_bytes k ++ a.1) (sym back) ∙ ap (λ xs. int_bytes (cast_signed w32 a.0) ++ xs) g.1, sfits_to_z {w = w32} {n = a.0} (Fits-of_lt {w = w32} small));
}
  where
    given_int : ℤ → List ℕ → Outcome ℤ
    given_int z rest = reads z rest

-- so many of a kind
abbrev pub spell_all : {A : Type 0} → (A → List ℕ) → List A → List ℕ
spell_all spell [] = []
spell_all spell (x ∷ xs) = spell x ++ spell_all spell xs

pub many_written : {A : Type 0} (r : Reader A) (spell : A → List ℕ) (Ok : A → Type 0) → IsExact r spell Ok → (xs : List A) (rest : List ℕ) → All Ok xs → coded_many r (length xs) (spell_all spell xs ++ rest) ≡ reads xs rest
many_written r spell Ok exact [] rest ok = refl
many_written r spell Ok exact (x ∷ xs) rest ok =
    let first = exact.written x (spell_all spell xs ++ rest) (All-head Ok x xs ok) in
    let others = many_written r spell Ok exact xs rest (All-tail Ok x xs ok) in
    rw (append_assoc (spell x) (spell_all spell xs) rest)
    (ap (λ o. onward o (λ v. coded_many r (length xs) >>= λ values. give (v ∷ values))) first ∙ ap (λ o. onward o (λ values. give (x ∷ values))) others)

pub many_read : {A : Type 0} (r : Reader A) (spell : A → List ℕ) (Ok : A → Type 0) → IsExact r spell Ok → (count : ℕ) (text rest : List ℕ) (xs : List A) → coded_many r count text ≡ reads xs rest
    → (text ≡ spell_all spell xs ++ rest) × (length xs ≡ count) × All Ok xs
many_read {A = A} r spell Ok exact zero text rest xs e =
    let g = given {A = List A} [] xs text rest e in
    let P : List A → Type 0 = λ vs. (text ≡ spell_all spell vs ++ rest) × (length vs ≡ 0) × All Ok vs in
    subst P g.0 (g.1, refl, All-nil Ok)
many_read {A = A} r spell Ok exact (suc count) text rest xs e =
    let a = onward_reads (r text) (λ v. coded_many r count >>= λ values. give (v ∷ values)) xs rest e in
    let b = onward_reads (coded_many r count a.1) (λ values. give (a.0 ∷ values)) xs rest a.3 in
    let g = given (a.0 ∷ b.0) xs b.1 rest b.3 in
    let first = exact.read text a.1 a.0 a.2 in
    let others = many_read r spell Ok exact count a.1 b.1 b.0 b.2 in
    let P : List A → Type 0 = λ vs. (text ≡ spell_all spell vs ++ rest) × (length vs ≡ suc count) × All Ok vs in
    subst P g.0 (along text (spell a.0) a.1 (spell_all spell b.0) rest first.0 (others.0 ∙ ap (λ xs. spell_all spell b.0 ++ xs) g.1), let m = others.1 in omega arith, All-cons Ok a.0 b.0 first.1 others.2)

ints_all : (ints : List ℤ) → spell_all int_bytes ints ≡ ints_bytes ints
ints_all [] = refl
ints_all (int ∷ ints) = ap (λ xs. int_bytes int ++ xs) (ints_all ints)

-- so many ints at most
pub ints_exact : (most : ℕ) → most < 4294967296 → IsExact (coded_ints most) counted_bytes (AreInts most)
unfolding coded_ints coded_count
ints_exact most small = record {
  written = λ ints rest ok.
      let count = (numbers 0 most small).written (length ints) (ints_bytes ints ++ rest) (omega arith, ok.0) in
      let others = many_written coded_int int_bytes (λ int. FitsSigned w32 int) int_exact ints rest ok.1 in
      rw (append_assoc (word_bytes (length ints)) (ints_bytes ints) rest)
      (ap (λ o. onward o (λ count. coded_many coded_int count)) count ∙ ap (λ xs. coded_many coded_int (length ints) (xs ++ rest)) (sym (ints_all ints)) ∙ others);
  read = λ text rest ints e.
      let a = onward_reads (coded_word BadEntry (between 0 most) text) (λ count. coded_many coded_int count) ints rest e in
      let n = (numbers 0 most small).read text a.1 a.0 a.2 in
      let m = many_read coded_int int_bytes (λ int. FitsSigned w32 int) int_exact a.0 a.1 rest ints a.3 in
      (along text (word_bytes (length ints)) a.1 (ints_bytes ints) rest (n.0 ∙ ap (λ k. word_bytes k ++ a.1) (sym m.1)) (m.0 ∙ ap (λ xs. xs ++ rest) (ints_all ints)), (let l = m.1 in let h = n.1.1 in omega arith, m.2));
}

pub small_exact : IsExact coded_small_number word_bytes IsSmallNumber
unfolding coded_small_number
small_exact = record {
  written = λ n rest ok. (numbers 0 999999 (omega arith)).written n rest (omega arith, ok);
  read = λ text rest n e. let r = (numbers 0 999999 (omega arith)).read text rest n e in (r.0, r.1.1);
}

pub tag_exact : IsExact coded_tag word_bytes IsTag
unfolding coded_tag
tag_exact = record {
  written = λ n rest ok. (numbers 0 2147483647 (omega arith)).written n rest (omega arith, ok);
  read = λ text rest n e. let r = (numbers 0 2147483647 (omega arith)).read text rest n e in (r.0, r.1.1);
}
