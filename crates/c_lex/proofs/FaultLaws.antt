-- A fault of a text is never that memory ran out.
use Rattle.std.proofs.Common.{◌≢◌, ℕ, Bool, List}
use Rattle.c_lex.specs.Steps as steps
use Rattle.c_lex.specs.Steps.{OpeningGivesStep}
use Rattle.c_lex.specs.Readings as readings
use Rattle.c_lex.specs.Readings.{LexicalReading, Tokens, FirstFault, ReadsTokens, with_token, token_at, IsFirstLexicalFault}
use Rattle.c_lex.specs.declared.fault.SourceFault.{SourceFault}
use Rattle.c_lex.specs.declared.fault.Why.TheVariants.{NoMemory}
use Rattle.c_lex.specs.declared.opening.Opening.{Opening}
use Rattle.c_lex.specs.declared.token.Token.{Token}
use Rattle.c_lex.specs.declared.step.LexicalStep.{LexicalStep}
use Rattle.c_lex.specs.declared.step.LexicalStep.TheVariants.{Skip, Lexeme, Bad}

abbrev NamesNoMemory : LexicalStep → Type 0
NamesNoMemory (Skip end) = Unit {0}
NamesNoMemory (Lexeme kind end) = Unit {0}
NamesNoMemory (Bad place why) = why ≢ NoMemory

no_memory_step : (text : List ℕ) (on_define : Bool) (at : ℕ) {o : Opening} {step : LexicalStep} → OpeningGivesStep text on_define at o step → NamesNoMemory step
no_memory_step text m at (steps.define_ends h) = tt
no_memory_step text m at (steps.define_line_ends h) = tt
no_memory_step text m at (steps.line_ends h) = tt
no_memory_step text m at steps.space = tt
no_memory_step text m at (steps.line_comment u) = tt
no_memory_step text m at (steps.comment u) = tt
no_memory_step text m at (steps.endless_comment u) = λ e. cc
no_memory_step text m at (steps.split_comment d u) = λ e. cc
no_memory_step text m at (steps.include d u) = tt
no_memory_step text m at (steps.define d) = tt
no_memory_step text m at (steps.other_directive d i n) = λ e. cc
no_memory_step text m at (steps.name u h) = tt
no_memory_step text m at (steps.left_out_word u h) = λ e. cc
no_memory_step text m at (steps.number u h) = tt
no_memory_step text m at (steps.bad_literal u h) = λ e. cc
no_memory_step text m at (steps.quoted u) = tt
no_memory_step text m at (steps.bad_inside u) = λ e. cc
no_memory_step text m at (steps.open_text u) = λ e. cc
no_memory_step text m at steps.mark = tt
no_memory_step text m at steps.bad_byte = λ e. cc

abbrev FaultsNoMemory : LexicalReading → Type 0
FaultsNoMemory (Tokens tokens) = Unit {0}
FaultsNoMemory (FirstFault place why) = why ≢ NoMemory

with_token_keeps : (token : Token) (reading : LexicalReading) → FaultsNoMemory reading → FaultsNoMemory (with_token token reading)
with_token_keeps token (Tokens tokens) h = tt
with_token_keeps token (FirstFault place why) h = h

no_memory_reading : (text : List ℕ) {on_define : Bool} {at : ℕ} {reading : LexicalReading} → ReadsTokens text on_define at reading → FaultsNoMemory reading
no_memory_reading text (readings.at_end e) = tt
no_memory_reading text (readings.skip s q) = no_memory_reading text q
no_memory_reading text (readings.lexeme {at = at} {end = end} {kind = kind} {reading = r} s q) =
    with_token_keeps (token_at kind at end) r (no_memory_reading text q)
no_memory_reading text (readings.bad {on_define = m} {at = at} s) = no_memory_step text m at s

pub fault_has_place : (text : List ℕ) (fault : SourceFault) → IsFirstLexicalFault text fault → fault.why ≢ NoMemory
fault_has_place text fault h = no_memory_reading text h.1
