use Rattle.srr_log.proofs.StateLaws.{reads_list}
use Rattle.srr_log.proofs.read_log.list.Goals as goal

pub returns : goal.returns
returns c = λ behind.
    reads_list c.args.ranks c.args.group.now c.args.named c.in_ok-count.count behind c.args.cursor.now c.rank.new.cursor c.entries.new.cursor c.entries.result c.entries.ensures.many
    (c.in_ok-count.ensures c.args.ranks c.args.group.now behind) (c.entries.ensures.read behind)
