use Rattle.std.proofs.Common.{[], ◌∷◌, refl, arith}
use Rattle.srr_log.specs.declared.fault.LogWhy.TheVariants.{BadGroup}
use Rattle.srr_log.specs.Parts.{group_line}
use Rattle.srr_log.specs.inside.LineReading.{group_line_in}
use Rattle.srr_log.specs.inside.Reading.{at_group}
use Rattle.srr_log.proofs.StateLaws.{reads_line, reads_unread}
use Rattle.srr_log.proofs.read_log.group.Goals as goal

pub returns-in-Ok : goal.returns-in-Ok
returns-in-Ok c =
    reads_line (at_group c.args.ranks) (λ group. group_line group ∷ []) c.args.cursor.now c.in_ok-line.line.now c.next_line.new.cursor c.in-Ok.group (group_line c.in-Ok.group) refl (rw c.in-Ok.ensures refl) c.in_ok-line.ensures.1

pub returns-in-Err : goal.returns-in-Err
returns-in-Err c =
    rw c.refused.ensures
    (reads_unread (at_group c.args.ranks) (λ group. group_line group ∷ []) c.args.cursor.now c.in_ok-line.line.now c.next_line.new.cursor c.next_line.new.cursor BadGroup _ c.in-Err.unread (group_line_in c.args.ranks c.in_ok-line.line.now) (λ group. group_line group) tt (omega arith) refl c.in-Err.ensures c.in_ok-line.ensures.0 c.in_ok-line.ensures.1 refl (rw c.rest-left.ensures refl))
