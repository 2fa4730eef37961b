use Rattle.c_run_effects.proofs.probes.probe_effect.Goals as goal

pub returns-in-GetCount : goal.returns-in-GetCount
returns-in-GetCount c = rw (c.in-GetCount.is) (c.get_count.ensures c.args.rank)
