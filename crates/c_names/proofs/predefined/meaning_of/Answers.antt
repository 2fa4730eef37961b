use Rattle.std.proofs.Common.{◌∙◌, ap}
use Rattle.c_names.specs.Predefined.{predefined_in}
use Rattle.c_names.proofs.Names.{names_are}
use Rattle.c_names.proofs.predefined.meaning_of.Goals as goal

pub returns : goal.returns
returns c = c.find.ensures ∙ ap (λ rows. predefined_in rows c.args.name.now) names_are
