use Rattle.c_run_effects.proofs.communicators.communicator_effect.Goals as goal

pub returns-in-Free : goal.returns-in-Free
returns-in-Free c = rw (c.in-Free.is) (c.comm_free.ensures c.args.rank)
