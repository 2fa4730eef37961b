use Rattle.wiz_runs.proofs.commands.picture.write.Goals as goal

pub returns-in-Some-clause-told : goal.returns-in-Some-clause-told
returns-in-Some-clause-told g c = rw c.in-Some.is (rw c.as_slice.ensures at c.write_picture.ensures.told)

pub returns-in-None-clause-told : goal.returns-in-None-clause-told
returns-in-None-clause-told g c = rw c.in-None.is (c.tell_over.ensures c.args.file.now (g.S.Store.observed c.args.store.now))
