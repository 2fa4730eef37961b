use Rattle.std.proofs.Common.{inl, []}
use Rattle.wiz_tool.proofs.TellLemmas.{put_refusal}
use Rattle.wiz_tool.proofs.report.refuse.Goals as goal

pub returns-in-Ok-tell : goal.returns-in-Ok-tell
returns-in-Ok-tell g c =
    inl (put_refusal (record { refusal = c.args.refusal; name = c.args.name.now }) c.in-Ok.text c.of_refusal.result c.new.result _ _ _
    c.in-Ok.ensures c.of_refusal.ensures c.new.ensures (c.in-Ok-tell.ensures.put []))
