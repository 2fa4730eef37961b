use Rattle.srr_regroup.proofs.laws.whole_replay_is_of_a_program.Goals as goal

pub returns : goal.returns
returns g c = record {
  next = g.P.Program.next c.args.program.now;
  asks = g.P.Program.asks_in_bounds c.args.program.now;
  enters = g.P.Program.enters_in_form c.args.program.now;
  whole = c.requires;
}
