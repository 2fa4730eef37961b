-- A field that was written is read, and a field that was read is what was written.
use Rattle.std.proofs.Common.{◌≡◌, ℕ, ◌+◌, ◌^◌, ◌<◌, ◌≤◌, Bool, true, false, List, [], ◌∷◌, ◌++◌, length, get_or, take, drop, Option, Some, None, refl, sym, ap, ◌∙◌, arith, inl, inr}
use Rattle.std.specs.Prelude.{if◌then◌else◌, nat_lt, ◌&&◌}
use mir.Syntax.{w32}
use Rattle.std.specs.Int.{from_be_bytes}
use Rattle.std.specs.Str.{bytes_eq}
use Rattle.std.proofs.lemmas.Bool.{and_parts, lt-ltb, ltb-false, le-ltb, le-leb, leb-true, cases_Bool}
use Rattle.std.proofs.lemmas.List.{append-nil, take_at, drop_at, take-append-drop, length-append, length-take-le}
use Rattle.std.proofs.lemmas.Nat.{be_bytes_4}
use Rattle.std.proofs.lemmas.Slice.Eq.{bytes_eq-Decides}
use Rattle.byteorder.specs.Endian.{big_bytes, big_number}
use Rattle.byteorder.specs.Numbers.{big_number-reads_back, length-bytes_high_first}
use Rattle.srr_log.specs.declared.fault.LogWhy.{LogWhy}
use Rattle.srr_log.specs.declared.fault.LogWhy.TheVariants.{Short}
use Rattle.srr_log2.specs.EntryBytes.{word_bytes}
use Rattle.srr_log2.specs.EntryReading.{between}
use Rattle.srr_log2.specs.Fields.{Outcome, reads, stops, Reader, onward, give, allowed, coded_byte, coded_field, number_of, coded_word, only_if}

abbrev pub some : {A : Type 0} → A → Option A
some x = Some x

-- what was read in two steps
pub onward_reads : {A B : Type 0} (r : Outcome A) (f : A → Reader B) (b : B) (rest : List ℕ) → onward r f ≡ reads b rest → (a : A) × (middle : List ℕ) × (r ≡ reads a middle) × (f a middle ≡ reads b rest)
onward_reads (reads a middle) f b rest e = (a, middle, refl, e)
onward_reads (stops why left) f b rest e = absurd cc

pub given : {A : Type 0} (a b : A) (text rest : List ℕ) → give a text ≡ reads b rest → (a ≡ b) × (text ≡ rest)
given a b text rest e = (cc, cc)

pub allowed_reads : {A : Type 0} (said : Option A) (why : LogWhy) (left : ℕ) (after rest : List ℕ) (value : A) → allowed said why left after ≡ reads value rest → (said ≡ some value) × (after ≡ rest)
allowed_reads (Some x) why left after rest value e = (cc, cc)
allowed_reads None why left after rest value e = absurd cc

pub only_if_some : {A : Type 0} (b : Bool) (x y : A) → only_if b x ≡ some y → (b ≡ true) × (x ≡ y)
only_if_some true x y e = (refl, cc)
only_if_some false x y e = absurd cc

-- fields of some width
pub field_here : {A : Type 0} (width : ℕ) (why : List ℕ → LogWhy) (said : List ℕ → Option A) (found rest : List ℕ) → length found ≡ width
    → coded_field width why said (found ++ rest) ≡ allowed (said found) (why found) (length (found ++ rest)) rest
unfolding coded_field
field_here width why said found rest long =
    let enough : nat_lt (length (found ++ rest)) width ≡ false = le-ltb _ _ (omega (arith, length-append found rest, long)) in
    rw (enough, take_at found rest width long, drop_at found rest width long) refl

pub field_short : {A : Type 0} (width : ℕ) (why : List ℕ → LogWhy) (said : List ℕ → Option A) (text : List ℕ) → length text < width → coded_field width why said text ≡ stops Short 0
unfolding coded_field
field_short width why said text short = rw (lt-ltb _ _ short) refl

pub field_reads : {A : Type 0} (width : ℕ) (why : List ℕ → LogWhy) (said : List ℕ → Option A) (text rest : List ℕ) (value : A) → coded_field width why said text ≡ reads value rest
    → (found : List ℕ) × (length found ≡ width) × (said found ≡ some value) × (text ≡ found ++ rest)
unfolding coded_field
field_reads width why said text rest value e =
    elim (cases_Bool (nat_lt (length text) width)) [
      | inl short ↦
          let stopped : stops Short 0 ≡ reads value rest = sym (rw short refl) ∙ e in absurd cc
      | inr long ↦
          let enough : width ≤ length text = ltb-false _ _ long in
          let read : allowed (said (take width text)) (why (take width text)) (length text) (drop width text) ≡ reads value rest = sym (rw long refl) ∙ e in
          let is = allowed_reads (said (take width text)) (why (take width text)) (length text) (drop width text) rest value read in
          (take width text, length-take-le width text enough, is.0, sym (take-append-drop width text) ∙ ap (λ xs. take width text ++ xs) is.1)
    ]

-- numbers
pub number_is : (width number : ℕ) (is_allowed : ℕ → Bool) → number < 256 ^ width → number_of width is_allowed (big_bytes width number) ≡ only_if (is_allowed number) number
unfolding number_of
number_is width number is_allowed small =
    let back : big_number width (big_bytes width number) ≡ number = ap (big_number width) (sym (append-nil (big_bytes width number))) ∙ big_number-reads_back width number [] small in
    let same : bytes_eq (big_bytes width number) (big_bytes width number) ≡ true = (bytes_eq-Decides (big_bytes width number) (big_bytes width number)).1 refl in
    rw (back, same) (both_ways (is_allowed number) number)
  where
    both_ways : (b : Bool) (n : ℕ) → (if true && b then some n else None) ≡ only_if b n
    both_ways true n = refl
    both_ways false n = refl

pub number_was : (width number : ℕ) (is_allowed : ℕ → Bool) (found : List ℕ) → number_of width is_allowed found ≡ some number → (found ≡ big_bytes width number) × (is_allowed number ≡ true)
unfolding number_of
number_was width number is_allowed found e =
    let g = guarded (bytes_eq found (big_bytes width (big_number width found)) && is_allowed (big_number width found)) (big_number width found) number e in
    let both = and_parts _ _ g.0 in
    ((bytes_eq-Decides found (big_bytes width (big_number width found))).0 both.0 ∙ ap (big_bytes width) g.1, ap is_allowed (sym g.1) ∙ both.1)
  where
    guarded : (b : Bool) (x y : ℕ) → (if b then some x else None) ≡ some y → (b ≡ true) × (x ≡ y)
    guarded true x y e = (refl, cc)
    guarded false x y e = absurd cc

pub word_here : (why : LogWhy) (is_allowed : ℕ → Bool) (number : ℕ) (rest : List ℕ) → number < 4294967296
    → coded_word why is_allowed (word_bytes number ++ rest) ≡ allowed (only_if (is_allowed number) number) why (length (word_bytes number ++ rest)) rest
unfolding word_bytes
word_here why is_allowed number rest small =
    field_here 4 (λ _. why) (number_of 4 is_allowed) (word_bytes number) rest (length-bytes_high_first 4 number)
    ∙ ap (λ said. allowed said why (length (word_bytes number ++ rest)) rest) (number_is 4 number is_allowed small)

pub word_reads : (why : LogWhy) (is_allowed : ℕ → Bool) (text rest : List ℕ) (number : ℕ) → coded_word why is_allowed text ≡ reads number rest → (text ≡ word_bytes number ++ rest) × (is_allowed number ≡ true)
unfolding word_bytes
word_reads why is_allowed text rest number e =
    let f = field_reads 4 (λ _. why) (number_of 4 is_allowed) text rest number e in
    let n = number_was 4 number is_allowed f.0 f.2 in
    (f.3 ∙ ap (λ xs. xs ++ rest) n.0, n.1)

pub word_written : (why : LogWhy) (is_allowed : ℕ → Bool) (number : ℕ) (rest : List ℕ) → number < 4294967296 → is_allowed number ≡ true
    → coded_word why is_allowed (word_bytes number ++ rest) ≡ reads number rest
word_written why is_allowed number rest small ok = word_here why is_allowed number rest small ∙ rw ok refl

pub byte_reads : {A : Type 0} (why : LogWhy) (said : ℕ → Option A) (text rest : List ℕ) (value : A) → coded_byte why said text ≡ reads value rest → (byte : ℕ) × (text ≡ byte ∷ rest) × (said byte ≡ some value)
byte_reads why said [] rest value e = absurd cc
byte_reads why said (byte ∷ text) rest value e = let is = allowed_reads (said byte) why (length text + 1) text rest value e in (byte, ap (λ xs. byte ∷ xs) is.1, is.0)

-- numbers within bounds
pub between_holds : (least most number : ℕ) → between least most number ≡ true → (least ≤ number) × (number ≤ most)
between_holds least most number e = let p = and_parts _ _ e in (leb-true _ _ p.0, leb-true _ _ p.1)

pub holds_between : (least most number : ℕ) → least ≤ number → number ≤ most → between least most number ≡ true
holds_between least most number low high = rw (le-leb _ _ low, le-leb _ _ high) refl

-- bytes as they come from a file
abbrev pub AreBytes : List ℕ → Type 0
AreBytes bytes = (i : ℕ) → get_or bytes i 0 < 256

pub word_found : (bytes : List ℕ) (number : ℕ) → length bytes ≡ 4 → AreBytes bytes → number ≡ big_number 4 bytes → bytes ≡ word_bytes number
unfolding word_bytes
word_found bytes number long fits is = let value : big_number 4 bytes ≡ from_be_bytes w32 bytes = omega arith in sym (be_bytes_4 bytes number long fits (is ∙ value))

pub word_taken : (why : LogWhy) (is_allowed : ℕ → Bool) (bytes rest text : List ℕ) (number left : ℕ) → number < 4294967296 → bytes ≡ word_bytes number → text ≡ bytes ++ rest → left ≡ length text
    → coded_word why is_allowed text ≡ allowed (only_if (is_allowed number) number) why left rest
word_taken why is_allowed bytes rest text number left small written whole many =
    let spelled : text ≡ word_bytes number ++ rest = whole ∙ ap (λ xs. xs ++ rest) written in
    rw (many, spelled) (word_here why is_allowed number rest small)
