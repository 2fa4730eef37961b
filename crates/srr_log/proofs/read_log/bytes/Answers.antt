use Rattle.std.proofs.Common.{◌≢◌, [], ◌∷◌, refl, ◌∙◌, drop}
use Rattle.srr_log.proofs.StateLaws.{reads_bad_program}
use Rattle.srr_log.proofs.read_log.bytes.Goals as goal

pub returns-then-not-is_newline : goal.returns-then-not-is_newline
returns-then-not-is_newline c = λ n group.
    let part = c.in-Some.part.now in
    let apart : drop c.args.size part ≢ 10 ∷ [] = λ e. let yes = c.is_newline.ensures.1 (c.split_at.ensures.back ∙ e) in cc (yes, c.if-not-is_newline.true) in
    reads_bad_program n group c.args.size _ c.args.cursor.now part c.take.new.self c.take.new.self c.in-Some.ensures.0 c.in-Some.ensures.1 apart (rw c.rest-left.ensures refl)
