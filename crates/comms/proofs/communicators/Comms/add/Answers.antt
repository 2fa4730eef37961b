use Rattle.std.proofs.Common.{subst}
use Rattle.comms.proofs.CommsLemmas.{makes_is}
use Rattle.comms.specs.Communicators.{Communicators, Makes}
use Rattle.comms.proofs.communicators.Comms.add.Goals as goal

pub returns-in-Ok-clause-ok : goal.returns-in-Ok-clause-ok
returns-in-Ok-clause-ok c =
    let old : Communicators = record { members = c.self.inside.members.items; given = c.self.inside.given.entries } in
    let P : Communicators → Type 0 = λ all.
    Makes all (record { members = c.append.new.self.items; given = c.insert.new.self.entries }) c.args.comm c.args.instance c.args.made.items c.args.numbers in
    subst P c.self.view_is
    (makes_is old c.append.new.self.items c.insert.new.self.entries c.args.comm c.args.instance c.args.made.items c.args.numbers c.in_ok-append.ensures.items c.in-Ok.ensures.updates.0)
