use Rattle.std.proofs.Common.{◌∙◌}
use Rattle.c_types.proofs.Names.{any_bytes}
use Rattle.c_types.proofs.seen.SeenNames.has.Goals as goal

pub returns : goal.returns
returns c = rw (← c.self.view_is) (c.contains.ensures ∙ any_bytes c.args.name.now c.self.inside.names.keys)
