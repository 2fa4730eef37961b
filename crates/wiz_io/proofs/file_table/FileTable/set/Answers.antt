use Rattle.std.proofs.Common.{arith}
use Rattle.std.proofs.lemmas.Map.Text.{text_keys}
use Rattle.wiz_io.proofs.file_table.FileTable.set.Goals as goal

pub returns-clause-ok : goal.returns-clause-ok
returns-clause-ok c = record {
  this = grind (arith, text_keys, c.in_ok-insert.ensures.updates);
  others = λ other differs. grind (arith, text_keys, c.in_ok-insert.ensures.updates);
}
