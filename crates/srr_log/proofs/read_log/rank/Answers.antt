use Rattle.std.proofs.Common.{[], ◌∷◌, refl, sym, arith}
use Rattle.srr_log.specs.Parts.{rank_line}
use Rattle.srr_log.specs.inside.Reading.{at_list}
use Rattle.srr_log.proofs.StateLaws.{reads_line, reads_bad}
use Rattle.srr_log.proofs.read_log.rank.Goals as goal

pub returns-in-Some : goal.returns-in-Some
returns-in-Some c = λ n group ranks.
    reads_line (at_list n group (c.args.rank ∷ ranks)) (λ count. rank_line c.args.rank count ∷ []) c.args.cursor.now c.in_ok-line.line.now c.next_line.new.cursor c.in-Some.count (rank_line c.args.rank c.in-Some.count) refl (rw (sym c.in-Some.ensures) refl) c.in_ok-line.ensures.1

pub returns-in-None : goal.returns-in-None
returns-in-None c = λ n group ranks.
    reads_bad (at_list n group (c.args.rank ∷ ranks)) (λ count. rank_line c.args.rank count ∷ []) c.args.cursor.now c.in_ok-line.line.now c.next_line.new.cursor c.next_line.new.cursor _ _ tt (omega arith) (rw (sym c.in-None.ensures) refl) c.in_ok-line.ensures.0 c.in_ok-line.ensures.1 refl (rw c.rest-left.ensures refl)
