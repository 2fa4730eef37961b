use Rattle.std.proofs.Common.{refl}
use Rattle.wiz_cli.proofs.limits.limits_are.Goals as goal

pub returns : goal.returns
returns c = record {
  text = refl;
  order = refl;
  log = refl;
  bytes = refl;
  literal = refl;
  depth = refl;
  elements = refl;
  steps = refl;
  cells = refl;
  printed = refl;
  calls = refl;
  tag = refl;
  ints = refl;
  result_ints = refl;
  starts = refl;
  ranks = refl;
  events = refl;
  size = refl;
  others = refl;
  other_picks = refl;
  drawn = refl;
  number = refl;
  entries = refl;
  program = refl;
  break_rank = refl;
  break_call = refl;
  start = refl;
  block_from = refl;
  seed = refl;
  rounds_from = refl;
  rounds = refl;
  states_from = refl;
  states = refl;
  usual = refl;
  polls_from = refl;
  polls = refl;
  patience = refl;
}
