use Rattle.srr_log.proofs.StateLaws.{reads_program}
use Rattle.srr_log.proofs.read_log.program.Goals as goal

pub returns : goal.returns
returns c = λ n group.
    reads_program n group c.in_ok-size.size c.args.cursor.now c.size.new.cursor c.bytes.new.cursor c.bytes.result (c.in_ok-size.ensures n group) (c.bytes.ensures n group)
