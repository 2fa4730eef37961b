-- Which bytes do not stand in a line or a piece of it.
use Rattle.std.proofs.Common.{◌≢◌, ℕ, ◌<◌, ◌≤◌, List, [], ◌∷◌, ◌++◌, map, arith}
use Rattle.std.specs.Prelude.{All, codes, ℤ}
use Rattle.std.specs.List.{AllByRecursion}
use Rattle.std.proofs.lemmas.List.Elements.{All-nil, All-cons, All-append}
use Rattle.mpi_call.specs.declared.call.Halt.{Halt}
use Rattle.mpi_call.specs.declared.call.Halt.TheVariants.{Aborted, Trapped, Truncated, Mismatched, BadRequest, Limit, Stuck}
use Rattle.mpi_call.specs.Halts.{fault_number}
use Rattle.srr_entry.specs.declared.entry.Mark.{Mark}
use Rattle.srr_entry.specs.declared.entry.Mark.TheVariants.{Sent as MarkSent, Nothing, Inside, Outside, Inner, Outer, Made, MadeOutside}
use Rattle.srr_entry.specs.declared.entry.Marked.{Marked}
use Rattle.srr_entry.specs.declared.entry.Entry.{Entry}
use Rattle.srr_entry.specs.declared.entry.Entry.TheVariants.{Sent, Posted, Entered, Ended, Took, NotYet, PeekedInside, PeekedOutside, Stopped}
use Rattle.wiz_base.specs.Decimals.{decimal_text, number_text}
use Rattle.wiz_base.proofs.DecimalLaws.{decimal_text-excludes, number_text-excludes}
use Rattle.srr_log.specs.EntryText.{each_after, by_commas, ints_text, name_text, mark_text, item_text, halt_number, halt_details, entry_line}

abbrev pub NoByte : ℕ → List ℕ → Type 0
NoByte byte text = All (λ b. b ≢ byte) text

pub no_byte_nil : (byte : ℕ) → NoByte byte []
no_byte_nil byte = All-nil (λ b. b ≢ byte)

pub no_byte_cons : (byte b : ℕ) (text : List ℕ) → b ≢ byte → NoByte byte text → NoByte byte (b ∷ text)
no_byte_cons byte b text apart none = All-cons (λ b. b ≢ byte) b text apart none

pub no_byte_append : (byte : ℕ) (xs ys : List ℕ) → NoByte byte xs → NoByte byte ys → NoByte byte (xs ++ ys)
no_byte_append byte xs ys none none' = All-append (λ b. b ≢ byte) xs ys none none'

-- a byte below 44 is in no number
pub no_byte_decimal : (byte n : ℕ) → byte < 48 → NoByte byte (decimal_text n)
no_byte_decimal byte n low = decimal_text-excludes n byte (λ digit. omega (arith, digit.0))

pub no_byte_number : (byte : ℕ) (z : ℤ) → byte < 45 → NoByte byte (number_text z)
no_byte_number byte z low = number_text-excludes z byte (λ e. omega arith) (λ digit. omega (arith, digit.0))

pub no_byte_behind : (byte mark : ℕ) (pieces : List (List ℕ)) → mark ≢ byte → AllByRecursion (NoByte byte) pieces → NoByte byte (each_after mark pieces)
no_byte_behind byte mark [] apart none = no_byte_nil byte
no_byte_behind byte mark (piece ∷ pieces) apart (here, others) =
    no_byte_cons byte mark (piece ++ each_after mark pieces) apart (no_byte_append byte piece (each_after mark pieces) here (no_byte_behind byte mark pieces apart others))

pub no_byte_commas : (byte : ℕ) (pieces : List (List ℕ)) → 44 ≢ byte → AllByRecursion (NoByte byte) pieces → NoByte byte (by_commas pieces)
no_byte_commas byte [] apart none = no_byte_nil byte
no_byte_commas byte (piece ∷ pieces) apart (here, others) =
    no_byte_append byte piece (each_after 44 pieces) here (no_byte_behind byte 44 pieces apart others)

pub no_byte_map : {A : Type 0} (byte : ℕ) (spelled : A → List ℕ) → ((value : A) → NoByte byte (spelled value)) → (values : List A) → AllByRecursion (NoByte byte) (map spelled values)
no_byte_map byte spelled none [] = tt
no_byte_map byte spelled none (value ∷ values) = (none value, no_byte_map byte spelled none values)

-- no blank and no newline is in a mark
no_byte_name : (byte source start : ℕ) → byte < 44 → NoByte byte (name_text source start)
no_byte_name byte source start low =
    no_byte_append byte (decimal_text source) (46 ∷ decimal_text start) (no_byte_decimal byte source (omega arith))
    (no_byte_cons byte 46 (decimal_text start) (λ e. omega arith) (no_byte_decimal byte start (omega arith)))

no_byte_ints : (byte : ℕ) (ints : List ℤ) → byte < 44 → NoByte byte (ints_text ints)
no_byte_ints byte ints low = no_byte_commas byte (map number_text ints) (λ e. omega arith) (no_byte_map byte number_text (λ z. no_byte_number byte z (omega arith)) ints)

no_byte_marked : (byte mark n : ℕ) → byte < 44 → 44 ≤ mark → NoByte byte (mark ∷ decimal_text n)
no_byte_marked byte mark n low high = no_byte_cons byte mark (decimal_text n) (λ e. omega arith) (no_byte_decimal byte n (omega arith))

pub no_byte_mark : (byte : ℕ) (mark : Mark) → byte < 44 → NoByte byte (mark_text mark)
no_byte_mark byte MarkSent low = no_byte_cons byte 115 [] (λ e. omega arith) (no_byte_nil byte)
no_byte_mark byte Nothing low = no_byte_cons byte 110 [] (λ e. omega arith) (no_byte_nil byte)
no_byte_mark byte (Inside source start) low = no_byte_name byte source start low
no_byte_mark byte (Outside source start tag ints) low =
    no_byte_append byte (name_text source start ++ (46 ∷ decimal_text tag)) (58 ∷ ints_text ints)
    (no_byte_append byte (name_text source start) (46 ∷ decimal_text tag) (no_byte_name byte source start low) (no_byte_marked byte 46 tag low (omega arith)))
    (no_byte_cons byte 58 (ints_text ints) (λ e. omega arith) (no_byte_ints byte ints low))
no_byte_mark byte Inner low = no_byte_cons byte 99 [] (λ e. omega arith) (no_byte_nil byte)
no_byte_mark byte (Outer ints) low = no_byte_cons byte 99 (58 ∷ ints_text ints) (λ e. omega arith) (no_byte_cons byte 58 (ints_text ints) (λ e. omega arith) (no_byte_ints byte ints low))
no_byte_mark byte (Made comm) low = no_byte_cons byte 109 (46 ∷ decimal_text comm) (λ e. omega arith) (no_byte_marked byte 46 comm low (omega arith))
no_byte_mark byte (MadeOutside comm members) low =
    no_byte_append byte (codes "m." ++ decimal_text comm) (58 ∷ by_commas (map decimal_text members))
    (no_byte_cons byte 109 (46 ∷ decimal_text comm) (λ e. omega arith) (no_byte_marked byte 46 comm low (omega arith)))
    (no_byte_cons byte 58 (by_commas (map decimal_text members)) (λ e. omega arith)
    (no_byte_commas byte (map decimal_text members) (λ e. omega arith) (no_byte_map byte decimal_text (λ n. no_byte_decimal byte n (omega arith)) members)))

pub no_byte_item : (byte : ℕ) (item : Marked) → byte < 44 → NoByte byte (item_text item)
no_byte_item byte item low =
    no_byte_append byte (decimal_text item.index) (61 ∷ mark_text item.mark) (no_byte_decimal byte item.index (omega arith))
    (no_byte_cons byte 61 (mark_text item.mark) (λ e. omega arith) (no_byte_mark byte item.mark low))

-- no newline is in an entry's line
no_line_behind : (n : ℕ) → NoByte 10 (32 ∷ decimal_text n)
no_line_behind n = no_byte_cons 10 32 (decimal_text n) (λ e. omega (arith, e)) (no_byte_decimal 10 n (omega arith))

no_line_halt : (halt : Halt) → NoByte 10 (halt_details halt)
no_line_halt (Aborted rank code) =
    no_byte_append 10 (32 ∷ decimal_text rank) (32 ∷ number_text code) (no_line_behind rank) (no_byte_cons 10 32 (number_text code) (λ e. omega (arith, e)) (no_byte_number 10 code (omega arith)))
no_line_halt (Trapped rank fault) = no_byte_append 10 (32 ∷ decimal_text rank) (32 ∷ decimal_text (fault_number fault)) (no_line_behind rank) (no_line_behind (fault_number fault))
no_line_halt (Truncated rank start) = no_byte_append 10 (32 ∷ decimal_text rank) (32 ∷ decimal_text start) (no_line_behind rank) (no_line_behind start)
no_line_halt (Mismatched rank) = no_line_behind rank
no_line_halt (BadRequest rank start) = no_byte_append 10 (32 ∷ decimal_text rank) (32 ∷ decimal_text start) (no_line_behind rank) (no_line_behind start)
no_line_halt Limit = no_byte_nil 10
no_line_halt Stuck = no_byte_nil 10

no_line_letter : (letter : ℕ) (text : List ℕ) → 10 < letter → NoByte 10 text → NoByte 10 (letter ∷ text)
no_line_letter letter text above none = no_byte_cons 10 letter text (λ e. omega arith) none

pub no_line_entry : (entry : Entry) → NoByte 10 (entry_line entry)
no_line_entry Sent = no_line_letter 115 [] (omega arith) (no_byte_nil 10)
no_line_entry Posted = no_line_letter 112 [] (omega arith) (no_byte_nil 10)
no_line_entry Entered = no_line_letter 101 [] (omega arith) (no_byte_nil 10)
no_line_entry Ended = no_line_letter 122 [] (omega arith) (no_byte_nil 10)
no_line_entry (Took items) =
    no_line_letter 116 (each_after 32 (map item_text items)) (omega arith)
    (no_byte_behind 10 32 (map item_text items) (λ e. omega (arith, e)) (no_byte_map 10 item_text (λ item. no_byte_item 10 item (omega arith)) items))
no_line_entry NotYet = no_line_letter 110 [] (omega arith) (no_byte_nil 10)
no_line_entry (PeekedInside source start) =
    no_line_letter 107 (32 ∷ name_text source start) (omega arith) (no_line_letter 32 (name_text source start) (omega arith) (no_byte_name 10 source start (omega arith)))
no_line_entry (PeekedOutside source start tag count) =
    no_line_letter 107 (32 ∷ ((name_text source start ++ (46 ∷ decimal_text tag)) ++ (58 ∷ decimal_text count))) (omega arith)
    (no_line_letter 32 ((name_text source start ++ (46 ∷ decimal_text tag)) ++ (58 ∷ decimal_text count)) (omega arith)
    (no_byte_append 10 (name_text source start ++ (46 ∷ decimal_text tag)) (58 ∷ decimal_text count)
    (no_byte_append 10 (name_text source start) (46 ∷ decimal_text tag) (no_byte_name 10 source start (omega arith)) (no_byte_marked 10 46 tag (omega arith) (omega arith)))
    (no_byte_marked 10 58 count (omega arith) (omega arith))))
no_line_entry (Stopped halt) =
    no_line_letter 120 (32 ∷ (decimal_text (halt_number halt) ++ halt_details halt)) (omega arith)
    (no_line_letter 32 (decimal_text (halt_number halt) ++ halt_details halt) (omega arith)
    (no_byte_append 10 (decimal_text (halt_number halt)) (halt_details halt) (no_byte_decimal 10 (halt_number halt) (omega arith)) (no_line_halt halt)))
