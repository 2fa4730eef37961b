-- What a function gave is what reading gives, unless memory ran out.
use Rattle.std.specs.Prelude.{◌≡◌, ◌⊎◌, true, false, List, ◌∷◌, [], Option, Some, None, Result, Ok, Err}
use Rattle.std.specs.Borrow.{Bor}
use Rattle.c_grammar.specs.declared.terminal.Symbol.{Symbol}
use Rattle.c_grammar.specs.declared.terminal.Span.{Span}
use Rattle.c_grammar.specs.declared.terminal.Terminal.{Terminal}
use Rattle.c_grammar.specs.Symbols.{is}
use Rattle.c_grammar.specs.Reading.{Answer, expect, heads, refuse}
use Rattle.c_parse.specs.declared.read.ParseError.{ParseError}
use Rattle.c_parse.specs.declared.read.ParseError.TheVariants as errors

-- what failed is what reading refuses, unless memory ran out
abbrev pub FailsToRead : {Y : Type 0} → ParseError → Answer Y → Type 0
FailsToRead errors.Memory read = Unit {0}
FailsToRead (errors.At why rest) read = read ≡ refuse why rest.now

-- what was read is what reading gives, seen by `view`; or it fails as reading does
abbrev pub AgreesWithReading : {X Y : Type 0} → (X → Y × List Terminal) → Result X ParseError → Answer Y → Type 0
AgreesWithReading view (Ok x) read = read ≡ Ok (view x)
AgreesWithReading view (Err error) read = FailsToRead error read

-- reading stopped at a terminal, not because memory ran out
abbrev pub HasPlace : ParseError → Type 0
HasPlace errors.Memory = ⊥
HasPlace (errors.At why rest) = Unit {0}

-- the first terminal and those after it, or there is none
abbrev pub IsFirstTerminal : List Terminal → Option (Terminal × Bor (List Terminal)) → Type 0
IsFirstTerminal terminals None = terminals ≡ []
IsFirstTerminal terminals (Some x) = terminals ≡ x.0 ∷ x.1.now

-- the first terminal is of this symbol, with its place and those after it; or it is not
abbrev pub TakesSymbol : Symbol → List Terminal → Option (Span × Bor (List Terminal)) → Type 0
TakesSymbol symbol terminals None = heads (is symbol) terminals ≡ false
TakesSymbol symbol terminals (Some x) = (heads (is symbol) terminals ≡ true) × (expect symbol terminals ≡ Ok (x.0, x.1.now))

-- a thing was read, and then a terminal of this symbol; or one of the two was not
abbrev pub IsEnded : {X : Type 0} → Symbol → Result (X × Bor (List Terminal)) ParseError → Result ((X × Span) × Bor (List Terminal)) ParseError → Type 0
IsEnded symbol read (Ok x) = (middle : Bor (List Terminal)) × (read ≡ Ok (x.0.0, middle)) × (expect symbol middle.now ≡ Ok (x.0.1, x.1.now))
IsEnded {X} symbol read (Err error) =
    (read ≡ Err error) ⊎ ((thing : X) × (middle : Bor (List Terminal)) × (read ≡ Ok (thing, middle)) × FailsToRead error (expect symbol middle.now))
