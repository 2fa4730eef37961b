use Rattle.std.proofs.Common.{◌≢◌, rules}
use Rattle.sha2.specs.Sha256.{sha256}
use Rattle.std.proofs.lemmas.Result.{err_from_is_err_and}
use Rattle.srr_log2.specs.Reading.{coded_digest}
use Rattle.srr_log2.proofs.TopLaws.{digest_found, digest_other, digest_short, field_stop}
use Rattle.srr_log2.proofs.read_log2.digest.Goals as goal

pub returns-in_err-bytes : goal.returns-in_err-bytes
returns-in_err-bytes c =
    let p = err_from_is_err_and c.from_residual.result c.from_residual.ensures.1 in
    rw (p.1, p.2) (field_stop 32 (coded_digest c.args.before.now c.args.cursor.now) c.args.cursor.now c.field.new.cursor c.field.new.cursor c.in_err-bytes.field-0.0 c.in_err-bytes.ensures (digest_short c.args.before.now c.args.cursor.now))

pub returns-then-is_digest : goal.returns-then-is_digest
returns-then-is_digest c = digest_found c.args.before.now c.in_ok-bytes.bytes.now c.field.new.cursor c.args.cursor.now c.in_ok-bytes.ensures.0 c.in_ok-bytes.ensures.1 (search rules)

pub returns-else-is_digest : goal.returns-else-is_digest
returns-else-is_digest c =
    let apart : c.in_ok-bytes.bytes.now ≢ sha256 c.args.before.now = search rules in
    rw c.in_ok-bytes.ensures.2 (digest_other c.args.before.now c.in_ok-bytes.bytes.now c.field.new.cursor c.args.cursor.now c.in_ok-bytes.ensures.0 c.in_ok-bytes.ensures.1 apart)
