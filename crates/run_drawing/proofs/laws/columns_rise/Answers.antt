use Rattle.run_drawing.proofs.ColumnLemmas.{columns_rise}
use Rattle.run_drawing.proofs.laws.columns_rise.Goals as goal

pub returns : goal.returns
returns c = columns_rise
