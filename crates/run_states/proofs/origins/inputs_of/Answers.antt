use Rattle.std.proofs.Common.{◌∙◌, ◌++◌, ◌∷◌, [], ap, refl, sym}
use Rattle.run_model.specs.Views.{view_of}
use Rattle.run_states.proofs.Instancing.{gathered_none_at, gathered_some_at}
use Rattle.run_states.proofs.origins.inputs_of.Goals as goal

pub returns-in_default-entered : goal.returns-in_default-entered
returns-in_default-entered c = λ n.
    gathered_none_at n (view_of c.args.events.now) c.args.comm c.args.instance c.loop-rest.inputs c.loop-rest.rest.now c.args.members.now _ _ c.in-len1-up.len_at_least refl
    (sym (rw c.in_default-entered.is at c.entered.ensures)) (c.loop-rest.invariant n)

pub loop-rest-preserved : goal.loop-rest-preserved
loop-rest-preserved c = λ n.
    gathered_some_at n (view_of c.args.events.now) c.args.comm c.args.instance c.loop-rest.inputs _ c.loop-rest.rest.now c.args.members.now _ _ c.in-Some.call.now c.in-len1-up.len_at_least refl
    (sym c.in-Some.ensures) (c.in_ok-push.ensures.ok ∙ ap (λ ints. c.loop-rest.inputs ++ ints ∷ []) c.in_ok-ints.ensures) (c.loop-rest.invariant n)
