use Rattle.std.proofs.lemmas.Result.{err_from_is_err_and}
use Rattle.srr_log2.specs.Reading.{coded_program}
use Rattle.srr_log2.proofs.TopLaws.{program_found, program_short, program_stop, field_stop}
use Rattle.srr_log2.proofs.read_log2.program.Goals as goal

pub returns-in_err-size : goal.returns-in_err-size
returns-in_err-size c =
    let p = err_from_is_err_and c.from_residual.result c.from_residual.ensures.1 in
    rw (p.1, p.2) (program_stop c.args.cursor.now c.number.new.cursor c.number.new.cursor c.in_err-size.field-0.0 c.in_err-size.ensures.read)

pub returns-in_err-bytes : goal.returns-in_err-bytes
returns-in_err-bytes c =
    let p = err_from_is_err_and c.from_residual-in_err-bytes.result c.from_residual-in_err-bytes.ensures.1 in
    rw (p.1, p.2) (field_stop c.in_ok-size.size (coded_program c.args.cursor.now) c.number.new.cursor c.field.new.cursor c.field.new.cursor c.in_err-bytes.field-0.0 c.in_err-bytes.ensures (program_short c.in_ok-size.size c.args.cursor.now c.number.new.cursor c.in_ok-size.ensures.read))

pub returns : goal.returns
returns c =
    rw c.in_ok-program.ensures (program_found c.in_ok-size.size c.args.cursor.now c.number.new.cursor c.in_ok-bytes.bytes.now c.field.new.cursor c.in_ok-size.ensures.read c.in_ok-bytes.ensures.0 c.in_ok-bytes.ensures.1)
