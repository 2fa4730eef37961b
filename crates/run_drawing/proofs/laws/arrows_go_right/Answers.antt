use Rattle.run_drawing.proofs.ArrowLemmas.{arrows_go_right}
use Rattle.run_drawing.proofs.laws.arrows_go_right.Goals as goal

pub returns : goal.returns
returns c = arrows_go_right
