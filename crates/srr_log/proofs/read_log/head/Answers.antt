use Rattle.std.proofs.Common.{◌≢◌, [], ◌∷◌, refl, rules}
use Rattle.std.specs.Prelude.{codes}
use Rattle.srr_log.specs.Parts.{head_line}
use Rattle.srr_log.specs.inside.Reading.{at_head}
use Rattle.srr_log.proofs.StateLaws.{reads_bad, other_head}
use Rattle.srr_log.proofs.read_log.head.Goals as goal

pub returns : goal.returns
returns c =
    let apart : c.in_ok-line.line.now ≢ codes "srr 1" = search rules in
    reads_bad {A = Unit {0}} at_head (λ _. head_line ∷ []) c.args.cursor.now c.in_ok-line.line.now c.next_line.new.cursor c.next_line.new.cursor _ _ tt tt (other_head c.in_ok-line.line.now apart) c.in_ok-line.ensures.0 c.in_ok-line.ensures.1 c.head_fault-why.ensures (rw c.rest-left.ensures refl)
