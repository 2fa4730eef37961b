use Rattle.std.proofs.Common.{[], ◌∷◌, refl, sym}
use Rattle.srr_log.specs.Parts.{ranks_line}
use Rattle.srr_log.specs.inside.Reading.{at_ranks}
use Rattle.srr_log.proofs.StateLaws.{reads_line, reads_bad}
use Rattle.srr_log.proofs.read_log.ranks.Goals as goal

pub returns-in-Some : goal.returns-in-Some
returns-in-Some c =
    reads_line at_ranks (λ ranks. ranks_line ranks ∷ []) c.args.cursor.now c.in_ok-line.line.now c.next_line.new.cursor c.in-Some.ranks (ranks_line c.in-Some.ranks) refl (rw (sym c.in-Some.ensures) refl) c.in_ok-line.ensures.1

pub returns-in-None : goal.returns-in-None
returns-in-None c =
    reads_bad at_ranks (λ ranks. ranks_line ranks ∷ []) c.args.cursor.now c.in_ok-line.line.now c.next_line.new.cursor c.next_line.new.cursor _ _ tt tt (rw (sym c.in-None.ensures) refl) c.in_ok-line.ensures.0 c.in_ok-line.ensures.1 refl (rw c.rest-left.ensures refl)
