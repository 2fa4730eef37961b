use Rattle.std.proofs.Common.{[], ◌∷◌, refl, sym}
use Rattle.srr_log.specs.Parts.{size_line}
use Rattle.srr_log.specs.inside.Reading.{at_size}
use Rattle.srr_log.proofs.StateLaws.{reads_line, reads_bad}
use Rattle.srr_log.proofs.read_log.size.Goals as goal

pub returns-in-Some : goal.returns-in-Some
returns-in-Some c = λ n group.
    reads_line (at_size n group) (λ size. size_line size ∷ []) c.args.cursor.now c.in_ok-line.line.now c.next_line.new.cursor c.in-Some.size (size_line c.in-Some.size) refl (rw (sym c.in-Some.ensures) refl) c.in_ok-line.ensures.1

pub returns-in-None : goal.returns-in-None
returns-in-None c = λ n group.
    reads_bad (at_size n group) (λ size. size_line size ∷ []) c.args.cursor.now c.in_ok-line.line.now c.next_line.new.cursor c.next_line.new.cursor _ _ tt tt (rw (sym c.in-None.ensures) refl) c.in_ok-line.ensures.0 c.in_ok-line.ensures.1 refl (rw c.rest-left.ensures refl)
