use Rattle.std.proofs.Common.{rules, ◌<◌, ◌^◌}
use Rattle.std.proofs.lemmas.Result.{err_from_is_err_and}
use Rattle.srr_log2.specs.Reading.{coded_group}
use Rattle.srr_log2.proofs.TopLaws.{group_found, group_other, group_short, field_stop}
use Rattle.srr_log2.proofs.read_log2.group.Goals as goal

pub returns-in_err-bytes : goal.returns-in_err-bytes
returns-in_err-bytes c =
    let p = err_from_is_err_and c.from_residual.result c.from_residual.ensures.1 in
    rw (p.1, p.2) (field_stop 8 (coded_group c.args.ranks c.args.cursor.now) c.args.cursor.now c.field.new.cursor c.field.new.cursor c.in_err-bytes.field-0.0 c.in_err-bytes.ensures (group_short c.args.ranks c.args.cursor.now))

pub returns-then-not-are_bits : goal.returns-then-not-are_bits
returns-then-not-are_bits c =
    let bad : ¬ ((0 < c.bits_of-bits.result) × (c.bits_of-bits.result < 2 ^ c.args.ranks)) = search rules in
    rw c.in_ok-bytes.ensures.2 (group_other c.args.ranks c.bits_of-bits.result c.in_ok-bytes.bytes.now c.field.new.cursor c.args.cursor.now c.in_ok-bytes.ensures.0 c.bits_of-bits.ensures c.in_ok-bytes.ensures.1 (search rules) bad)

pub returns : goal.returns
returns c =
    let ok : (0 < c.bits_of-bits.result) × (c.bits_of-bits.result < 2 ^ c.args.ranks) = search rules in
    group_found c.args.ranks c.bits_of-bits.result c.in_ok-group.group c.in_ok-bytes.bytes.now c.field.new.cursor c.args.cursor.now c.in_ok-bytes.ensures.0 c.bits_of-bits.ensures c.in_ok-bytes.ensures.1 (search rules) ok (search rules)
