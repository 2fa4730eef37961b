use Rattle.replay_views.proofs.CutLemmas.{step_back}
use Rattle.replay_views.proofs.laws.a_step_back_is_a_part.Goals as goal

pub returns : goal.returns
returns c = λ n group V. step_back n group V
