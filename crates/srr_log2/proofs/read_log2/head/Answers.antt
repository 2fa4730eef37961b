use Rattle.std.proofs.Common.{◌≢◌, rules}
use Rattle.std.specs.Prelude.{codes}
use Rattle.std.proofs.lemmas.Result.{err_from_is_err_and}
use Rattle.srr_log2.specs.Reading.{coded_head}
use Rattle.srr_log2.proofs.TopLaws.{head_found, head_other, head_short, field_stop}
use Rattle.srr_log2.proofs.read_log2.head.Goals as goal

pub returns-in_err-bytes : goal.returns-in_err-bytes
returns-in_err-bytes c =
    let p = err_from_is_err_and c.from_residual.result c.from_residual.ensures.1 in
    rw (p.1, p.2) (field_stop 6 (coded_head c.args.cursor.now) c.args.cursor.now c.field.new.cursor c.field.new.cursor c.in_err-bytes.field-0.0 c.in_err-bytes.ensures (head_short c.args.cursor.now))

pub returns-then-eq : goal.returns-then-eq
returns-then-eq c = head_found c.in_ok-bytes.bytes.now c.field.new.cursor c.args.cursor.now c.in_ok-bytes.ensures.0 c.in_ok-bytes.ensures.1 (search rules)

pub returns : goal.returns
returns c =
    let apart : c.in_ok-bytes.bytes.now ≢ codes "srr 2\n" = search rules in
    rw (c.in_ok-bytes.ensures.2, c.head_why-why.ensures) (head_other c.in_ok-bytes.bytes.now c.field.new.cursor c.args.cursor.now c.in_ok-bytes.ensures.0 c.in_ok-bytes.ensures.1 apart)
