use Rattle.std.proofs.Common.{◌==◌, rules, tests}
use Rattle.std.proofs.lemmas.Iterator.{YieldsList-from_slice}
use Rattle.std.proofs.lemmas.Iterator.Search.{position_from_yields_List}
use Rattle.c_run_effects.proofs.comm.place_of.Goals as goal

pub returns : goal.returns
returns c = record {
  place = position_from_yields_List (λ member. member == c.args.rank) _ _ _ c.position.ensures.ran (YieldsList-from_slice c.args.members.now cc) (λ x b q k. search (rules, tests));
  bound = search rules;
}
