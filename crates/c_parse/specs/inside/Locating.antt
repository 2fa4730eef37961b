-- The place of a refusal in the text.
use Rattle.std.specs.Prelude.{◌≡◌, ◌≤◌, ℕ, List, length}
use Rattle.c_lex.specs.NoMemory.{no_memory_fault}
use Rattle.c_lex.specs.Places.{IsPlaceOf}
use Rattle.c_lex.specs.declared.fault.SourceFault.{SourceFault}
use Rattle.c_parse.specs.declared.read.ParseError.{ParseError}
use Rattle.c_parse.specs.declared.read.ParseError.TheVariants.{Memory, At}
use Rattle.c_parse.specs.Parsing.{place_of_first}

-- the place of a refusal is within the text
abbrev pub StandsWithin : List ℕ → ParseError → Type 0
StandsWithin text Memory = Unit {0}
StandsWithin text (At why rest) = place_of_first text rest.now ≤ length text

-- being out of memory has no place
abbrev pub IsLocated : List ℕ → ParseError → SourceFault → Type 0
IsLocated text Memory fault = fault ≡ no_memory_fault
IsLocated text (At why rest) fault = (fault.why ≡ why) × IsPlaceOf text (place_of_first text rest.now) fault.line fault.column
