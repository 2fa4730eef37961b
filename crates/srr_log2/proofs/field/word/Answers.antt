use Rattle.std.proofs.Common.{arith, refl}
use Rattle.srr_log2.specs.Fields.{number_of}
use Rattle.srr_log2.proofs.FieldLaws.{word_taken, field_short}
use Rattle.srr_log2.proofs.field.word.Goals as goal

pub returns-in-Some : goal.returns-in-Some
returns-in-Some c = λ why is_allowed.
    word_taken why is_allowed c.in-Some.bytes.now c.take.new.self c.args.cursor.now c.word_of.result _ (omega (arith, c.word_of.auto)) c.word_of.ensures c.in-Some.ensures.0 (rw c.rest-left.ensures refl)

pub returns-in-None : goal.returns-in-None
returns-in-None c = rw c.cut_off.ensures (λ why is_allowed. field_short 4 (λ _. why) (number_of 4 is_allowed) c.args.cursor.now c.in-None.ensures.0)
