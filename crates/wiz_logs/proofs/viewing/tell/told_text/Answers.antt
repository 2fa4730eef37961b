use Rattle.wiz_logs.proofs.viewing.tell.told_text.Goals as goal

pub returns-in-Changes : goal.returns-in-Changes
returns-in-Changes c =
    rw c.in-Changes.is
    (rw (c.in_ok-changes-in-Changes.ensures, c.get-own.ensures, c.in_ok-by_rank.ensures, c.as_bytes.ensures.value, c.as_bytes-in-Changes.ensures.value) at c.watch_text.ensures)
