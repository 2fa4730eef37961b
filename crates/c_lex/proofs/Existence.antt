-- Each text has tokens or a first fault.
use Rattle.std.proofs.Common.{◌≡◌, ◌≢◌, ◌⊎◌, inl, inr, ◌<◌, ◌≤◌, ◌+◌, ◌-◌, ◌*◌, ◌==◌, ◌||◌, cond, ℕ, zero, suc, Bool, true, false, List, [], length, slice_index, refl, sym, ap, ◌∙◌, subst, arith}
use Rattle.std.specs.Prelude.{slice_range, nat_le, if◌then◌else◌, codes, take, count_by}
use Rattle.std.specs.Str.{bytes_eq}
use Rattle.std.proofs.lemmas.Bool.{cases_Bool, cases_order, eq-eqb, eqb-true, le-leb, leb-true, ltb-true, false_from_ne_true}
use Rattle.std.proofs.lemmas.Slice.Eq.{bytes_eq-Decides}
use Rattle.c_lex.specs.Bytes.{IsStretch, is_in_class}
use Rattle.c_lex.specs.Marks.{mark_length}
use Rattle.c_lex.specs.Openings.{opening}
use Rattle.c_lex.specs.Literals.{is_literal}
use Rattle.c_lex.specs.Words.{is_left_out}
use Rattle.c_lex.specs.Comments.{closes, IsFirstClose, NeverCloses}
use Rattle.c_lex.specs.Texts.{Inside, ends, goes_on, ends_line, character_length}
use Rattle.c_lex.specs.Steps as steps
use Rattle.c_lex.specs.Steps.{OpeningGivesStep, IsLexicalStep, EndsWithin}
use Rattle.c_lex.specs.Readings as readings
use Rattle.c_lex.specs.Readings.{LexicalReading, Tokens, FirstFault, ReadsTokens, AreTokens, IsFirstLexicalFault, with_token, token_at}
use Rattle.c_lex.specs.Places.{IsLineBegin, IsPlaceOf}
use Rattle.c_lex.specs.declared.bytes.ByteClass.{ByteClass}
use Rattle.c_lex.specs.declared.bytes.ByteClass.TheVariants.{Space, InWord, InLine, Printable}
use Rattle.c_lex.specs.declared.opening.Opening.{Opening}
use Rattle.c_lex.specs.declared.opening.Opening.TheVariants as opens
use Rattle.c_lex.specs.declared.token.Token.{Token}
use Rattle.c_lex.specs.declared.token.TokenKind.TheVariants as kinds
use Rattle.c_lex.specs.declared.fault.SourceFault.{SourceFault}
use Rattle.c_lex.specs.declared.fault.Why.{Why}
use Rattle.c_lex.specs.declared.fault.Why.TheVariants as whys
use Rattle.c_lex.specs.declared.step.LexicalStep.{LexicalStep}
use Rattle.c_lex.specs.declared.step.LexicalStep.TheVariants.{Skip, Lexeme, Bad}
use Rattle.c_lex.proofs.MarkLaws.{mark_length-within, past_is_zero}
use Rattle.c_lex.proofs.Laws.{end_past, opening_past}

-- ---- where things end

-- at this place and from the next one on
onward : (P : ℕ → Type 0) (from : ℕ) → P from → ((k : ℕ) → suc from ≤ k → P k) → (k : ℕ) → from ≤ k → P k
onward P from here after k low = elim (cases_order from k) [
  | inl e ↦ subst P e here
  | inr (inl less) ↦ after k (omega arith)
  | inr (inr more) ↦ absurd (omega arith)
]

run_nothing : (class : ByteClass) (text : List ℕ) (from limit : ℕ) → from ≡ limit → IsStretch class text from limit from
run_nothing class text from limit e = record { low = omega arith; high = omega arith; each = λ k a b. absurd (omega arith); longest = λ less. absurd (omega arith) }

run_stops : (class : ByteClass) (text : List ℕ) (from limit : ℕ) → from ≤ limit → is_in_class class (slice_index text from) ≡ false → IsStretch class text from limit from
run_stops class text from limit low stop = record { low = omega arith; high = low; each = λ k a b. absurd (omega arith); longest = λ less. stop }

run_more : (class : ByteClass) (text : List ℕ) (from limit end : ℕ) → is_in_class class (slice_index text from) ≡ true → IsStretch class text (suc from) limit end → IsStretch class text from limit end
run_more class text from limit end here run = record {
  low = let low = run.low in omega arith;
  high = run.high;
  each = onward (λ k. k < end → is_in_class class (slice_index text k) ≡ true) from (λ _. here) run.each;
  longest = run.longest;
}

run_within : (fuel : ℕ) (class : ByteClass) (text : List ℕ) (from limit : ℕ) → from ≤ limit → limit - from ≤ fuel → (end : ℕ) × IsStretch class text from limit end
run_within zero class text from limit low few = (from, run_nothing class text from limit (omega arith))
run_within (suc n) class text from limit low few = elim (cases_order from limit) [
  | inl e ↦ (from, run_nothing class text from limit e)
  | inr (inl less) ↦ elim (cases_Bool (is_in_class class (slice_index text from))) [
    | inl on ↦ let after = run_within n class text (suc from) limit (omega arith) (omega arith) in (after.0, run_more class text from limit after.0 on after.1)
    | inr off ↦ (from, run_stops class text from limit low off)
  ]
  | inr (inr more) ↦ absurd (omega arith)
]

run : (class : ByteClass) (text : List ℕ) (from limit : ℕ) → from ≤ limit → (end : ℕ) × IsStretch class text from limit end
run class text from limit low = run_within (limit - from) class text from limit low (omega arith)

close_within : (fuel : ℕ) (text : List ℕ) (from : ℕ) → length text - from ≤ fuel → ((close : ℕ) × IsFirstClose text from close) ⊎ NeverCloses text from
close_within zero text from few = inr (λ k low high. absurd (omega arith))
close_within (suc n) text from few = elim (cases_order (from + 1) (length text)) [
  | inl e ↦ inr (λ k low high. absurd (omega arith))
  | inr (inl less) ↦ elim (cases_Bool (closes text from)) [
    | inl here ↦ inl (from, record { low = omega arith; high = omega arith; is = here; first = λ k a b. absurd (omega arith) })
    | inr not_here ↦ elim (close_within n text (suc from) (omega arith)) [
      | inl found ↦ let low = found.1.low in inl (
        found.0,
        record {
          low = omega arith;
          high = found.1.high;
          is = found.1.is;
          first = onward (λ k. k < found.0 → closes text k ≡ false) from (λ _. not_here) found.1.first;
        },
      )
      | inr never ↦ inr (onward (λ k. k + 2 ≤ length text → closes text k ≡ false) from (λ _. not_here) never)
    ]
  ]
  | inr (inr more) ↦ inr (λ k low high. absurd (omega arith))
]

-- ---- characters of a text

bounded : (p q r s : Bool) (at len : ℕ) → at ≤ len → ((p || q) ≡ false → at < len) → (s ≡ false → at + 1 < len)
    → at + (if p || q then 0 else (if r then (if s then 0 else 2) else 1)) ≤ len
bounded true q r s at len low one two = omega arith
bounded false true r s at len low one two = omega arith
bounded false false true true at len low one two = omega arith
bounded false false true false at len low one two = let more = two refl in omega arith
bounded false false false s at len low one two = let more = one refl in omega arith

on_line : (text : List ℕ) (at : ℕ) → ends_line text at ≡ false → at < length text
on_line text at h = elim (cases_order at (length text)) [
  | inl e ↦ absurd (let t : nat_le (length text) at ≡ true = le-leb (length text) at (omega arith) in let no = rw t at h in cc)
  | inr (inl less) ↦ less
  | inr (inr more) ↦ absurd (let t : nat_le (length text) at ≡ true = le-leb (length text) at (omega arith) in let no = rw t at h in cc)
]

or_left : (p q : Bool) → (p || q) ≡ false → p ≡ false
or_left true q h = h
or_left false q h = refl

character_within : (text : List ℕ) (at : ℕ) → at ≤ length text → at + character_length text at ≤ length text
character_within text at low =
    bounded (ends_line text at) (slice_index text at == 34) (slice_index text at == 92) (ends_line text (at + 1)) at (length text) low
    (λ h. on_line text at (or_left _ _ h)) (λ h. on_line text (at + 1) h)

record EndOfInside (text : List ℕ) (at : ℕ) : Type 0 where
  end : ℕ
  inside : Inside text at end
  low : at ≤ end
  high : end ≤ length text

inside_within : (fuel : ℕ) (text : List ℕ) (at : ℕ) → at ≤ length text → length text - at ≤ fuel → EndOfInside text at
inside_within zero text at low few =
    let within = character_within text at low in
    record { end = at; inside = ends (omega arith); low = omega arith; high = low }
inside_within (suc n) text at low few = elim (cases_order 0 (character_length text at)) [
  | inl e ↦ record { end = at; inside = ends (sym e); low = omega arith; high = low }
  | inr (inl less) ↦
      let after = inside_within n text (at + character_length text at) (character_within text at low) (omega arith) in
      let past = after.low in
      record { end = after.end; inside = goes_on less after.inside; low = omega arith; high = after.high }
  | inr (inr more) ↦ absurd (omega arith)
]

-- ---- words

is_word : (word other : List ℕ) → bytes_eq word other ≡ true → other ≡ word
is_word word other test = sym ((bytes_eq-Decides word other).0 test)

is_no_word : (word other : List ℕ) → bytes_eq word other ≡ false → word ≢ other
is_no_word word other test same = let passes = (bytes_eq-Decides word other).1 same in cc

-- ---- what is at a place

record Found (text : List ℕ) (on_define : Bool) (at : ℕ) (o : Opening) : Type 0 where
  step : LexicalStep
  stands : OpeningGivesStep text on_define at o step
  within : EndsWithin text on_define at step

module _ (text : List ℕ) (at : ℕ) (less : at < length text) where
  newline : (on_define : Bool) → Found text on_define at opens.Newline
  newline true = record { step = Lexeme kinds.EndLine at; stands = steps.define_line_ends refl; within = (refl, refl) }
  newline false = record { step = Skip (at + 1); stands = steps.line_ends refl; within = (omega arith, omega arith) }

  line_comment : (on_define : Bool) → Found text on_define at opens.LineComment
  line_comment d =
      let end = run InLine text (at + 1) (length text) (omega arith) in
      let low = end.1.low in
      record { step = Skip end.0; stands = steps.line_comment end.1; within = (omega arith, end.1.high) }

  closed_comment : (on_define : Bool) (close : ℕ) → IsFirstClose text (at + 2) close → Found text on_define at opens.BlockComment
  closed_comment false close is =
      let low = is.low in
      record { step = Skip (close + 2); stands = steps.comment (record { closed = is; on_line = λ e. absurd (cc) }); within = (omega arith, is.high) }
  closed_comment true close is =
      let low = is.low in
      let newline = run InLine text at close (omega arith) in
      let high = newline.1.high in
      elim (cases_order newline.0 close) [
        | inl e ↦ record {
          step = Skip (close + 2);
          stands = steps.comment (record { closed = is; on_line = λ define. subst (λ end. IsStretch InLine text at close end) e newline.1 });
          within = (omega arith, is.high);
        }
        | inr (inl before) ↦ record {
          step = Bad at whys.OpenComment;
          stands = steps.split_comment refl (record { close = close; closed = is; newline = newline.0; run = newline.1; before = before });
          within = omega arith;
        }
        | inr (inr more) ↦ absurd (omega arith)
      ]

  block_comment : (on_define : Bool) → Found text on_define at opens.BlockComment
  block_comment d = elim (close_within (length text - (at + 2)) text (at + 2) (omega arith)) [
    | inl found ↦ closed_comment d found.0 found.1
    | inr never ↦ record { step = Bad at whys.OpenComment; stands = steps.endless_comment never; within = omega arith }
  ]

  directive : (on_define : Bool) → Found text on_define at opens.Directive
  directive d =
      let spaces = run Space text (at + 1) (length text) (omega arith) in
      let low = spaces.1.low in
      let end = run InWord text spaces.0 (length text) spaces.1.high in
      let past = end.1.low in
      let word = slice_range text spaces.0 end.0 in
      elim (cases_Bool (bytes_eq word (codes "include"))) [
        | inl include ↦
            let stop = run InLine text end.0 (length text) end.1.high in
            let after = stop.1.low in
            record {
              step = Skip stop.0;
              stands = steps.include (record { from = spaces.0; spaces = spaces.1; run = end.1; is = is_word word (codes "include") include }) stop.1;
              within = (omega arith, stop.1.high);
            }
        | inr other ↦ elim (cases_Bool (bytes_eq word (codes "define"))) [
          | inl define ↦ record {
            step = Lexeme kinds.Define end.0;
            stands = steps.define (record { from = spaces.0; spaces = spaces.1; run = end.1; is = is_word word (codes "define") define });
            within = (omega arith, end.1.high);
          }
          | inr neither ↦ record {
            step = Bad at whys.LeftOut;
            stands = steps.other_directive (record { from = spaces.0; spaces = spaces.1; run = end.1; is = refl })
                (is_no_word word (codes "include") other) (is_no_word word (codes "define") neither);
            within = omega arith;
          }
        ]
      ]

  word : (on_define : Bool) → Found text on_define at opens.Word
  word d =
      let end = run InWord text (at + 1) (length text) (omega arith) in
      let low = end.1.low in
      elim (cases_Bool (is_left_out (slice_range text at end.0))) [
        | inl left_out ↦ record { step = Bad at whys.LeftOut; stands = steps.left_out_word end.1 left_out; within = omega arith }
        | inr named ↦ record { step = Lexeme kinds.Name end.0; stands = steps.name end.1 named; within = (omega arith, end.1.high) }
      ]

  digits : (on_define : Bool) → Found text on_define at opens.Digits
  digits d =
      let end = run InWord text (at + 1) (length text) (omega arith) in
      let low = end.1.low in
      elim (cases_Bool (is_literal (slice_range text at end.0))) [
        | inl literal ↦ record { step = Lexeme kinds.Number end.0; stands = steps.number end.1 literal; within = (omega arith, end.1.high) }
        | inr none ↦ record { step = Bad at whys.BadLiteral; stands = steps.bad_literal end.1 none; within = omega arith }
      ]

  open_text : (on_define : Bool) (inside : EndOfInside text (at + 1)) → slice_index text inside.end ≢ 34 → Found text on_define at opens.Quote
  open_text d inside other =
      record { step = Bad at whys.OpenText; stands = steps.open_text (record { stop = inside.end; inside = inside.inside; open_there = other }); within = omega arith }

  close_inside : (close : ℕ) → slice_index text close ≡ 34 → close < length text
  close_inside close e = elim (cases_order close (length text)) [
    | inl same ↦ absurd (let z = past_is_zero text close (omega arith) in omega arith)
    | inr (inl before) ↦ before
    | inr (inr more) ↦ absurd (let z = past_is_zero text close (omega arith) in omega arith)
  ]

  closed_text : (on_define : Bool) (inside : EndOfInside text (at + 1)) → slice_index text inside.end ≡ 34 → Found text on_define at opens.Quote
  closed_text d inside closed =
      let low = inside.low in
      let high = close_inside inside.end closed in
      let place = run Printable text (at + 1) inside.end low in
      let short = place.1.high in
      elim (cases_order place.0 inside.end) [
        | inl e ↦ record {
          step = Lexeme kinds.Text (inside.end + 1);
          stands = steps.quoted (record { inside = inside.inside; closed = closed; printable = subst (λ end. IsStretch Printable text (at + 1) inside.end end) e place.1 });
          within = (omega arith, omega arith);
        }
        | inr (inl before) ↦ record {
          step = Bad place.0 whys.BadByte;
          stands = steps.bad_inside (record { close = inside.end; inside = inside.inside; closed = closed; printable = place.1; before = before });
          within = omega arith;
        }
        | inr (inr more) ↦ absurd (omega arith)
      ]

  quote : (on_define : Bool) → Found text on_define at opens.Quote
  quote d =
      let inside = inside_within (length text - (at + 1)) text (at + 1) (omega arith) (omega arith) in
      elim (cases_order (slice_index text inside.end) 34) [
        | inl e ↦ closed_text d inside e
        | inr (inl less) ↦ open_text d inside (λ e. omega arith)
        | inr (inr more) ↦ open_text d inside (λ e. omega arith)
      ]

  mark : (on_define : Bool) → 0 < mark_length text at → Found text on_define at opens.Mark
  mark d some =
      record { step = Lexeme kinds.Mark (at + mark_length text at); stands = steps.mark; within = (omega arith, mark_length-within text at (omega arith)) }

-- a mark begins where the opening says so
mark_begins : (a b c d e f g h i : Bool) → (if a then opens.Newline else (if b then opens.Space else (if c then opens.LineComment else (if d then opens.BlockComment else (if e then opens.Directive else (if f then opens.Word else (if g then opens.Digits else (if h then opens.Quote else (if i then opens.Mark else opens.Nothing))))))))) ≡ opens.Mark → i ≡ true
mark_begins true b c d e f g h i p = absurd (cc)
mark_begins false true c d e f g h i p = absurd (cc)
mark_begins false false true d e f g h i p = absurd (cc)
mark_begins false false false true e f g h i p = absurd (cc)
mark_begins false false false false true f g h i p = absurd (cc)
mark_begins false false false false false true g h i p = absurd (cc)
mark_begins false false false false false false true h i p = absurd (cc)
mark_begins false false false false false false false true i p = absurd (cc)
mark_begins false false false false false false false false true p = refl
mark_begins false false false false false false false false false p = absurd (cc)

-- a mark that begins in the text has a byte
pub mark_is_some : (text : List ℕ) (at : ℕ) → at < length text → opening text at ≡ opens.Mark → 0 < mark_length text at
mark_is_some text at less e =
    let h : nat_le (length text) at ≡ false = false_from_ne_true _ (λ t. let past = leb-true (length text) at t in omega arith) in
    ltb-true 0 (mark_length text at) (mark_begins _ _ _ _ _ _ _ _ _ (rw h at e))

found_inside : (text : List ℕ) (on_define : Bool) (at : ℕ) → at < length text → (o : Opening) → opening text at ≡ o → Found text on_define at o
found_inside text d at less opens.TextEnd e = absurd (end_past text at e less)
found_inside text d at less opens.Newline e = newline text at less d
found_inside text d at less opens.Space e = record { step = Skip (at + 1); stands = steps.space; within = (omega arith, omega arith) }
found_inside text d at less opens.LineComment e = line_comment text at less d
found_inside text d at less opens.BlockComment e = block_comment text at less d
found_inside text d at less opens.Directive e = directive text at less d
found_inside text d at less opens.Word e = word text at less d
found_inside text d at less opens.Digits e = digits text at less d
found_inside text d at less opens.Quote e = quote text at less d
found_inside text d at less opens.Mark e = mark text at less d (mark_is_some text at less e)
found_inside text d at less opens.Nothing e = record { step = Bad at whys.BadByte; stands = steps.bad_byte; within = omega arith }

found_at_end : (text : List ℕ) (at : ℕ) → length text ≤ at → Found text true at (opening text at)
found_at_end text at past =
    subst (λ o. Found text true at o) (sym (opening_past text at past)) (record { step = Lexeme kinds.EndLine at; stands = steps.define_ends refl; within = (refl, refl) })

-- ---- the whole text

-- what is read from a place on
abbrev HasReading : List ℕ → Bool → ℕ → Type 0
HasReading text on_define at = (reading : LexicalReading) × ReadsTokens text on_define at reading

abbrev left : List ℕ → Bool → ℕ → ℕ
left text on_define at = 2 * (length text - at) + cond on_define 1 0

once_more : (on_define : Bool) (n len at end : ℕ) → at < end → end ≤ len → 2 * (len - at) + cond on_define 1 0 ≤ suc n → 2 * (len - end) + 1 ≤ n
once_more true n len at end on within few = omega arith
once_more false n len at end on within few = omega arith

module _ (n : ℕ) (text : List ℕ) (again : (on_define : Bool) (at : ℕ) → at ≤ length text → left text on_define at ≤ n → HasReading text on_define at) where
  goes_on_by : (on_define : Bool) (at : ℕ) → at ≤ length text → left text on_define at ≤ suc n → (step : LexicalStep)
      → IsLexicalStep text on_define at step → EndsWithin text on_define at step → HasReading text on_define at
  goes_on_by d at low few (Skip end) is within =
      let on = within.0 in
      let after = again d end within.1 (omega arith) in
      (after.0, readings.skip is after.1)
  goes_on_by d at low few (Bad place why) is within = (FirstFault place why, readings.bad is)
  goes_on_by true at low few (Lexeme kinds.EndLine end) is within =
      let same = within.0 in
      let after = again false end (omega arith) (omega arith) in
      (with_token (token_at kinds.EndLine at end) after.0, readings.lexeme is after.1)
  goes_on_by false at low few (Lexeme kinds.EndLine end) is within = absurd (let no = within.1 in cc)
  goes_on_by d at low few (Lexeme kinds.Define end) is within =
      let on = within.0 in
      let after = again true end within.1 (once_more d n (length text) at end within.0 within.1 few) in
      (with_token (token_at kinds.Define at end) after.0, readings.lexeme is after.1)
  goes_on_by d at low few (Lexeme kinds.Name end) is within =
      let on = within.0 in
      let after = again d end within.1 (omega arith) in
      (with_token (token_at kinds.Name at end) after.0, readings.lexeme is after.1)
  goes_on_by d at low few (Lexeme kinds.Number end) is within =
      let on = within.0 in
      let after = again d end within.1 (omega arith) in
      (with_token (token_at kinds.Number at end) after.0, readings.lexeme is after.1)
  goes_on_by d at low few (Lexeme kinds.Text end) is within =
      let on = within.0 in
      let after = again d end within.1 (omega arith) in
      (with_token (token_at kinds.Text at end) after.0, readings.lexeme is after.1)
  goes_on_by d at low few (Lexeme kinds.Mark end) is within =
      let on = within.0 in
      let after = again d end within.1 (omega arith) in
      (with_token (token_at kinds.Mark at end) after.0, readings.lexeme is after.1)

  reads_on : (on_define : Bool) (at : ℕ) → at ≤ length text → left text on_define at ≤ suc n → HasReading text on_define at
  reads_on d at low few = elim (cases_order at (length text)) [
    | inl e ↦ ends_here d (omega arith) few
    | inr (inl less) ↦
        let found = found_inside text d at less (opening text at) refl in
        goes_on_by d at low few found.step found.stands found.within
    | inr (inr more) ↦ absurd (omega arith)
  ]
    where
      ends_here : (d : Bool) → length text ≤ at → left text d at ≤ suc n → HasReading text d at
      ends_here false past few = (Tokens [], readings.at_end (opening_past text at past))
      ends_here true past few =
          let found = found_at_end text at past in
          goes_on_by true at low few found.step found.stands found.within

reads_within : (fuel : ℕ) (text : List ℕ) (on_define : Bool) (at : ℕ) → at ≤ length text → left text on_define at ≤ fuel → HasReading text on_define at
reads_within zero text true at low few = absurd (omega arith)
reads_within zero text false at low few = (Tokens [], readings.at_end (opening_past text at (omega arith)))
reads_within (suc n) text d at low few = reads_on n text (reads_within n text) d at low few

-- ---- lines and columns

line_begin : (text : List ℕ) (place : ℕ) → (begin : ℕ) × IsLineBegin text place begin
line_begin text zero = (0, record { before = omega arith; first = inl refl; same_line = λ k a b. absurd (omega arith) })
line_begin text (suc p) = elim (cases_Bool (slice_index text p == 10)) [
  | inl here ↦ (
    suc p,
    record {
      before = omega arith;
      first = inr (let e : suc p - 1 ≡ p = omega arith in rw e (eqb-true _ _ here));
      same_line = λ k a b. absurd (omega arith);
    },
  )
  | inr not_here ↦
      let begin = line_begin text p in
      let before = begin.1.before in (
        begin.0,
        record {
          before = omega arith;
          first = begin.1.first;
          same_line = λ k a b. elim (cases_order k p) [
            | inl e ↦ λ is. let same : (slice_index text p == 10) ≡ true = eq-eqb _ _ (ap (slice_index text) (sym e) ∙ is) in cc
            | inr (inl less) ↦ begin.1.same_line k a less
            | inr (inr more) ↦ absurd (omega arith)
          ];
        },
      )
]

-- each reason has a fault at each place
pub fault_of : (text : List ℕ) (place : ℕ) (why : Why) → (fault : SourceFault) × (fault.why ≡ why) × IsPlaceOf text place fault.line fault.column
fault_of text place why =
    let begin = line_begin text place in (
      record { line = count_by (λ byte. byte == 10) (take place text) + 1; column = place - begin.0 + 1; why = why },
      refl,
      record { begin = begin.0; begins = begin.1; line_is = refl; column_is = refl },
    )

pub tokens_or_fault : (text : List ℕ) → ((list : List Token) × AreTokens text list) ⊎ ((fault : SourceFault) × IsFirstLexicalFault text fault)
tokens_or_fault text = told (reads_within (left text false 0) text false 0 (omega arith) (omega arith))
  where
    told : HasReading text false 0 → ((list : List Token) × AreTokens text list) ⊎ ((fault : SourceFault) × IsFirstLexicalFault text fault)
    told (Tokens list, reads) = inl (list, reads)
    told (FirstFault place why, reads) =
        let there = fault_of text place why in
        inr (there.0, (place, subst (λ w. ReadsTokens text false 0 (FirstFault place w)) (sym there.1) reads, there.2))
