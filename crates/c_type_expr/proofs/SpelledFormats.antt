-- The pieces that are read off a format are those that it spells; what is told of a format.
use Rattle.std.proofs.Common.{◌≡◌, ◌∙◌, ◌==◌, inl, inr, ℕ, Bool, true, false, List, Option, Some, None, if◌then◌else◌, refl, ap}
use Rattle.std.specs.Option.{option_map}
use Rattle.c_lex.specs.declared.fault.Why.TheVariants.{BadFormat}
use Rattle.c_grammar.specs.declared.terminal.Span.{Span}
use Rattle.c_program.specs.FormatReading.{format_pieces}
use Rattle.c_program.specs.Formats.{SpelledOrNot, ints_taken}
use Rattle.c_program.proofs.Spelling.{format_reads, read_spells, spelled_or_not}
use Rattle.c_program.specs.declared.format.FormatPiece.{FormatPiece}
use Rattle.c_scope.specs.Least.{fault, least_fault_from}
use Rattle.c_scope.specs.Walks.{Gives, if_so}
use Rattle.c_scope.specs.declared.fault.TypingFault.{TypingFault}
use Rattle.c_type_expr.specs.CallTyping.{if_spelled, read_format, spelled_pieces}
use Rattle.c_type_expr.specs.inside.FormatTests.{takes_ints}

none_read : (bytes : List ℕ) (found : Option (List FormatPiece)) → format_pieces bytes ≡ found → ((pieces : List FormatPiece) → format_pieces bytes ≡ Some pieces → ⊥) → found ≡ None
none_read bytes None e none = refl
none_read bytes (Some pieces) e none = absurd (none pieces e)

agrees : (bytes : List ℕ) (spelled : SpelledOrNot bytes) → format_pieces bytes ≡ if_spelled bytes spelled
agrees bytes (inl found) = format_reads found.1
agrees bytes (inr none) = none_read bytes (format_pieces bytes) refl (λ pieces e. none pieces (read_spells bytes pieces e))

pub pieces_are_spelled : (bytes : List ℕ) → format_pieces bytes ≡ spelled_pieces bytes
pieces_are_spelled bytes = agrees bytes (spelled_or_not bytes)

-- ---- a format of so many ints, or its fault

mapped_so : {A B : Type 0} (f : A → B) (well : Bool) (found : Option A) → option_map f (if_so well found) ≡ if_so well (option_map f found)
mapped_so f true found = refl
mapped_so f false found = refl

format_told : (best new : Option TypingFault) (at : Span) (count : ℕ) (format : List FormatPiece) (well : Bool) → (ints_taken format == count) ≡ well
    → new ≡ (if well then best else least_fault_from best (fault at BadFormat)) → Gives best new (if_so well (Some format)) (read_format at count (Some format))
format_told best new at count format true is told = rw is (record { best = told; form = refl })
format_told best new at count format false is told = rw is (record { best = told; form = refl })

pieces_told : (best new : Option TypingFault) (at : Span) (count : ℕ) (found : Option (List FormatPiece))
    → new ≡ (if takes_ints count found then best else least_fault_from best (fault at BadFormat))
    → Gives best new (if_so (takes_ints count found) found) (read_format at count found)
pieces_told best new at count None told = record { best = told; form = refl }
pieces_told best new at count (Some format) told = format_told best new at count format (ints_taken format == count) refl told

-- of pieces that are read, the form that is kept and the first fault
pub format_walked : {A : Type 0} (f : A → List FormatPiece) (best new : Option TypingFault) (at : Span) (count : ℕ) (bytes : List ℕ) (found : Option A) (well : Bool) (left : Option A)
    → option_map f found ≡ format_pieces bytes → well ≡ takes_ints count (spelled_pieces bytes) → left ≡ if_so well found
    → new ≡ (if well then best else least_fault_from best (fault at BadFormat)) → Gives best new (option_map f left) (read_format at count (spelled_pieces bytes))
format_walked f best new at count bytes found well left read test kept told =
    let form : option_map f left ≡ if_so (takes_ints count (spelled_pieces bytes)) (spelled_pieces bytes) =
    ap (option_map f) kept ∙ mapped_so f well found ∙ ap (if_so well) (read ∙ pieces_are_spelled bytes) ∙ ap (λ b. if_so b (spelled_pieces bytes)) test in
    let gives = pieces_told best new at count (spelled_pieces bytes) (told ∙ ap (λ (b : Bool). if b then best else least_fault_from best (fault at BadFormat)) test) in
    record { best = gives.best; form = form ∙ gives.form }

pub told_of_bad : {A : Type 0} (well : Bool) (best new told : A) → well ≡ false → new ≡ told → new ≡ (if well then best else told)
told_of_bad well best new told bad is = rw bad is

pub told_of_good : {A : Type 0} (well : Bool) (best new told : A) → well ≡ true → new ≡ best → new ≡ (if well then best else told)
told_of_good well best new told good is = rw good is
