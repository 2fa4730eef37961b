use Rattle.std.proofs.Common.{[], ◌∷◌, refl, arith}
use Rattle.srr_log.specs.declared.fault.LogWhy.TheVariants.{BadEntry}
use Rattle.srr_log.specs.Parts.{entry_part}
use Rattle.srr_log.specs.inside.LineReading.{entry_line_in}
use Rattle.srr_log.specs.inside.Reading.{at_entry}
use Rattle.srr_log.proofs.StateLaws.{reads_line, reads_unread}
use Rattle.srr_log.proofs.read_log.entry.Goals as goal

pub returns-in-Ok : goal.returns-in-Ok
returns-in-Ok c = λ behind.
    reads_line (at_entry c.args.ranks c.args.group.now c.args.others behind) (λ entry. entry_part entry ∷ []) c.args.cursor.now c.in_ok-line.line.now c.next_line.new.cursor c.in-Ok.entry (entry_part c.in-Ok.entry) refl (rw c.in-Ok.ensures refl) c.in_ok-line.ensures.1

pub returns-in-Err : goal.returns-in-Err
returns-in-Err c = λ behind.
    rw c.refused.ensures
    (reads_unread (at_entry c.args.ranks c.args.group.now c.args.others behind) (λ entry. entry_part entry ∷ []) c.args.cursor.now c.in_ok-line.line.now c.next_line.new.cursor c.next_line.new.cursor BadEntry _ c.in-Err.unread
    (entry_line_in c.args.ranks c.args.group.now c.args.others c.in_ok-line.line.now) (λ entry. entry_part entry) tt (omega arith) refl c.in-Err.ensures c.in_ok-line.ensures.0 c.in_ok-line.ensures.1 refl (rw c.rest-left.ensures refl))
