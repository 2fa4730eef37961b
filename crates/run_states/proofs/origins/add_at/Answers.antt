use Rattle.std.proofs.Common.{◌∙◌, ◌++◌, ap, sym}
use Rattle.run_states.proofs.Instancing.{made_there}
use Rattle.run_states.proofs.origins.add_at.Goals as goal

pub returns-in_ok-add_made-in-Some : goal.returns-in_ok-add_made-in-Some
returns-in_ok-add_made-in-Some c = λ n all.
    c.in_ok-add_made-in-Some.ensures ∙ ap (λ l. c.args.origins.now.items ++ l)
    (sym (made_there n c.args.before.now c.args.events.now c.args.event.now c.members_of-members.result.now c.in-Enter.comm c.in-Enter.kind c.in-Enter.root c.in-Enter.op c.in-Enter.count c.in-Enter.ints
    c.count_enters-instance.result c.in-Some.inputs c.in-Enter.is (sym c.is_start.ensures ∙ c.if-not-is_start.false) c.requires (c.members_of-members.ensures n all) c.count_enters-instance.ensures
    (sym (c.in_ok-inputs.ensures n) ∙ c.in-Some.is)))
