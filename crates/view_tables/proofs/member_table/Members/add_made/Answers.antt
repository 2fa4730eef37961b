use Rattle.std.proofs.Common.{◌∙◌, ap, nat_eq}
use Rattle.indexmap.specs.IndexMap.{insert_entry}
use Rattle.view_tables.proofs.MemberTableLemmas.{made_new, made_there}
use Rattle.view_tables.proofs.member_table.Members.add_made.Goals as goal

pub returns-in-Some-clause-ok : goal.returns-in-Some-clause-ok
returns-in-Some-clause-ok c =
    rw (← c.self.view_is) (made_there c.self.inside.lists.entries c.args.comm c.args.members.now _ c.in-Some.ensures.value)

pub returns-clause-ok : goal.returns-clause-ok
returns-clause-ok c =
    rw (← c.self.view_is)
    (c.in_ok-insert.ensures.entries
    ∙ ap (λ members. insert_entry nat_eq c.self.inside.lists.entries c.args.comm members) c.in_ok-members.ensures
    ∙ made_new c.self.inside.lists.entries c.args.comm c.args.members.now c.in_default.ensures.value)
