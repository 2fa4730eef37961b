-- An order text is read back.
use Rattle.std.proofs.Common.{◌≡◌, ◌≢◌, ◌<◌, ◌==◌, false, not, sym, true, ℕ, List, [], ◌∷◌, ◌++◌, codes, flat_map, length, inl, inr, min, refl, take, ◌∙◌, ap, append-nil, append_assoc, arith}
use Rattle.std.specs.Char.{IsAsciiDigit}
use Rattle.std.specs.List.{AllByRecursion, list_all, slice_split}
use Rattle.std.proofs.Math.Seq.{take-length}
use Rattle.std.proofs.lemmas.Bool.{and_parts, cases_lt, eq-eqb, ne_eqb}
use Rattle.std.proofs.lemmas.List.Concat.{flat_map-append}
use Rattle.std.proofs.lemmas.List.Elements.{All-cons, All-head, All-nil, All-tail, All-weaker}
use Rattle.std.proofs.lemmas.List.Splits.{slice_split_at, length-slice_split}
use Rattle.wiz_base.specs.Decimals.{decimal_text}
use Rattle.wiz_base.specs.Lines.{HasNoNewline}
use Rattle.wiz_base.proofs.DecimalLaws.{decimal_text-excludes}
use Rattle.group_plan.specs.Lines.{lines_from}
use Rattle.group_plan.specs.OrderText.{IsOrderText, order_lines, pick_text, turn_text}
use Rattle.picked_runs.specs.declared.turn.Pick.{Pick}
use Rattle.picked_runs.specs.declared.turn.Pick.TheVariants.{First, Sender, Index}
use Rattle.picked_runs.specs.declared.turn.Turn.{Turn}
use Rattle.picked_runs.specs.Turns.{IsTurnOf, turns_of}
use Rattle.other_picks.specs.declared.other.OtherPick.{OtherPick}
use Rattle.run_model.specs.declared.event.Event.{Event}
use Rattle.run_model.specs.Chosen.{order_of}
use Rattle.other_picks.proofs.Cutting.{take_whole}
use Rattle.explanation_text.specs.OrderTexts.{order_text, other_order_text, turn_line}

line_from : (line : List ℕ) (pieces : List (List ℕ)) → 0 < length pieces → lines_from (λ line. line) (line ∷ pieces) ≡ line ∷ lines_from (λ line. line) pieces
line_from line [] some = absurd (omega arith)
line_from line (next ∷ others) some = refl

first_line : (line rest : List ℕ) → HasNoNewline line → order_lines (line ++ 10 ∷ rest) ≡ line ∷ order_lines rest
first_line line rest none =
    ap (lines_from (λ line. line)) (slice_split_at (λ byte. byte == 10) line 10 rest (All-weaker (λ byte. byte ≢ 10) (λ byte. (byte == 10) ≡ false) (λ byte apart. ne_eqb byte 10 apart) line none) refl)
    ∙ line_from line (slice_split (λ byte. byte == 10) rest) (omega (arith, length-slice_split (λ byte. byte == 10) rest))

newline_is_no_digit : ¬ (IsAsciiDigit 10)
newline_is_no_digit = λ h. omega (arith, h)

joined : (xs ys : List ℕ) → HasNoNewline xs → HasNoNewline ys → HasNoNewline (xs ++ ys)
joined [] ys left right = right
joined (x ∷ xs) ys left right =
    All-cons (λ byte. byte ≢ 10) x (xs ++ ys) (All-head (λ byte. byte ≢ 10) x xs left) (joined xs ys (All-tail (λ byte. byte ≢ 10) x xs left) right)

-- bytes that are tested
tested : (xs : List ℕ) → list_all (λ byte. not (byte == 10)) xs ≡ true → HasNoNewline xs
tested [] h = All-nil (λ byte. byte ≢ 10)
tested (x ∷ xs) h =
    let parts = and_parts (not (x == 10)) (list_all (λ byte. not (byte == 10)) xs) h in
    All-cons (λ byte. byte ≢ 10) x xs (λ e. (let no : not (x == 10) ≡ false = rw (eq-eqb x 10 e) refl in let bad : true ≡ false = sym parts.0 ∙ no in absurd (cc))) (tested xs parts.1)

no_newline_in : (number : ℕ) → HasNoNewline (decimal_text number)
no_newline_in number = decimal_text-excludes number 10 newline_is_no_digit

pick_line : (pick : Pick) → HasNoNewline (pick_text pick)
pick_line First = All-nil (λ byte. byte ≢ 10)
pick_line (Sender sender) = joined (codes " from ") (decimal_text sender) (tested (codes " from ") refl) (no_newline_in sender)
pick_line (Index index) = joined (codes " index ") (decimal_text index) (tested (codes " index ") refl) (no_newline_in index)

first_turn : (turn : Turn) (turns : List Turn) → order_lines (flat_map turn_line (turn ∷ turns)) ≡ turn_text turn ∷ order_lines (flat_map turn_line turns)
first_turn turn turns =
    ap order_lines (append_assoc (turn_text turn) (codes "\n") (flat_map turn_line turns))
    ∙ first_line (turn_text turn) (flat_map turn_line turns) (joined (decimal_text turn.rank) (pick_text turn.pick) (no_newline_in turn.rank) (pick_line turn.pick))

-- each line of turns of n ranks is read as its turn
pub IsOrderText-turns : (n : ℕ) (turns : List Turn) → AllByRecursion (IsTurnOf n) turns → IsOrderText n (flat_map turn_line turns) turns
IsOrderText-turns n [] of = tt
IsOrderText-turns n (turn ∷ turns) of =
    rw (first_turn turn turns) ((refl, of.0), IsOrderText-turns n turns of.1)

-- so many of a list, or all
pub take_within : (count : ℕ) (events : List Event) → take (min count (length events)) events ≡ take count events
take_within count events = elim (cases_lt count (length events)) [
  | inl less ↦ (let same : min count (length events) ≡ count = omega arith in ap (λ k. take k events) same)
  | inr more ↦ (
      let same : min count (length events) ≡ length events = omega arith in
      ap (λ k. take k events) same ∙ (take-length events ∙ sym (take_whole count events more)))
]

-- the turns of another pick of a run are those of an order, and one more
pub other_text : (events : List Event) (picks : List Pick) (other : OtherPick)
    → order_text (take other.at events) picks ++ turn_line (record { rank = other.rank; pick = Sender other.sender }) ≡ other_order_text events picks other
other_text events picks other =
    let turn : Turn = record { rank = other.rank; pick = Sender other.sender } in
    let turns : List Turn = turns_of (order_of (take other.at events)) picks in
    ap (λ text. flat_map turn_line turns ++ text) (sym (append-nil (turn_line turn))) ∙ sym (flat_map-append turn_line turns (turn ∷ []))
