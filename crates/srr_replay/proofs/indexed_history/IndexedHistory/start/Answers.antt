use Rattle.std.proofs.Common.{◌∙◌, get_or, [], sym}
use Rattle.run_model.specs.Views.{view_of}
use Rattle.view_tables.proofs.StartTableLemmas.{start_absent, start_there, start_within}
use Rattle.srr_replay.proofs.indexed_history.IndexedHistory.start.Goals as goal

pub get-requires-in-Some : goal.get-requires-in-Some
get-requires-in-Some c =
    start_within c.self.inside.events.events (view_of c.self.inside.events.events c.args.rank) (get_or c.self.inside.starts c.args.rank []) c.args.number c.in-Some.start
    (c.self.invariant.1.each c.args.rank) (sym c.in-Some.is ∙ c.get.ensures)

pub returns-in-Some : goal.returns-in-Some
returns-in-Some c =
    rw (← c.self.view_is)
    (start_there c.self.inside.events.events (view_of c.self.inside.events.events c.args.rank) (get_or c.self.inside.starts c.args.rank []) c.args.number c.in-Some.start c.get-in-Some.result.now
    (c.self.invariant.1.each c.args.rank) (sym c.in-Some.is ∙ c.get.ensures) c.get-in-Some.ensures)

pub returns-in-None : goal.returns-in-None
returns-in-None c =
    rw (← c.self.view_is)
    (start_absent c.self.inside.events.events (view_of c.self.inside.events.events c.args.rank) (get_or c.self.inside.starts c.args.rank []) c.args.number
    (c.self.invariant.1.each c.args.rank) (sym c.in-None.is ∙ c.get.ensures))
