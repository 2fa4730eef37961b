use Rattle.std.proofs.Common.{◌∙◌, get_or, [], sym}
use Rattle.run_model.specs.Views.{view_of}
use Rattle.view_tables.proofs.StartTableLemmas.{taken_absent, taken_there}
use Rattle.srr_replay.proofs.indexed_history.IndexedHistory.is_taken.Goals as goal

pub returns-in-Some : goal.returns-in-Some
returns-in-Some c =
    rw (← c.self.view_is)
    (taken_there c.self.inside.events.events (view_of c.self.inside.events.events c.args.rank) (get_or c.self.inside.starts c.args.rank []) c.args.number c.in-Some.start
    (c.self.invariant.1.each c.args.rank) (sym c.in-Some.is ∙ c.get.ensures))

pub returns-in-None : goal.returns-in-None
returns-in-None c =
    rw (← c.self.view_is)
    (taken_absent c.self.inside.events.events (view_of c.self.inside.events.events c.args.rank) (get_or c.self.inside.starts c.args.rank []) c.args.number
    (c.self.invariant.1.each c.args.rank) (sym c.in-None.is ∙ c.get.ensures))
