use Rattle.std.proofs.Common.{◌≡◌, inr, IfErr, IfOk, Result, Ok, Err, List, sym, ap, ◌∙◌, Bor}
use Rattle.c_grammar.specs.declared.terminal.Span.{Span}
use Rattle.c_grammar.specs.declared.terminal.Symbol.{Symbol}
use Rattle.c_grammar.specs.declared.terminal.Terminal.{Terminal}
use Rattle.c_grammar.specs.Reading.{expect}
use Rattle.c_parse.specs.declared.read.ParseError.{ParseError}
use Rattle.c_parse.specs.inside.Gives.{AgreesWithReading, IsEnded}
use Rattle.c_parse.proofs.read.ended.Goals as goal

-- what was read, and what was read or refused after it
ended_is : {X : Type 0} (symbol : Symbol) (read : Result (X × Bor (List Terminal)) ParseError) (result : Result ((X × Span) × Bor (List Terminal)) ParseError)
    (thing : X) (middle : Bor (List Terminal)) (last : Result (Span × Bor (List Terminal)) ParseError) → read ≡ Ok (thing, middle)
    → AgreesWithReading (λ x. (x.0, x.1.now)) last (expect symbol middle.now) → IfOk result (λ x. x.0.0 ≡ thing)
    → IfOk result (λ x. last ≡ Ok (x.0.1, x.1)) → IfErr result (λ error. last ≡ Err error) → IsEnded symbol read result
ended_is symbol read (Ok x) thing middle last is gives same second none =
    (middle, is ∙ ap (λ z. Ok (z, middle)) (sym same), rw second at gives)
ended_is symbol read (Err error) thing middle last is gives same second fails = inr (thing, middle, is, rw fails at gives)

pub returns : goal.returns
returns g c =
    ended_is c.args.symbol _ _ c.in-Ok.read.0 c.in-Ok.read.1 c.expected.result c.in-Ok.is c.expected.ensures.read
    c.both.ensures.first c.both.ensures.second c.both.ensures.error
