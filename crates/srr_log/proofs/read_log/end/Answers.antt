use Rattle.std.proofs.Common.{◌≢◌, [], ◌∷◌, refl, rules}
use Rattle.std.specs.Prelude.{codes}
use Rattle.srr_log.specs.Parts.{end_line}
use Rattle.srr_log.specs.inside.Reading.{at_list}
use Rattle.srr_log.proofs.StateLaws.{reads_bad, other_end}
use Rattle.srr_log.proofs.read_log.end.Goals as goal

pub returns : goal.returns
returns c = λ n group.
    let apart : c.in_ok-line.line.now ≢ codes "end" = search rules in
    reads_bad {A = Unit {0}} (at_list n group []) (λ _. end_line ∷ []) c.args.cursor.now c.in_ok-line.line.now c.next_line.new.cursor c.next_line.new.cursor _ _ tt tt (other_end n group c.in_ok-line.line.now apart) c.in_ok-line.ensures.0 c.in_ok-line.ensures.1 refl (rw c.rest-left.ensures refl)
