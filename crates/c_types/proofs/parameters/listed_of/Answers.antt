use Rattle.std.proofs.Common.{drop, ◌+◌}
use Rattle.c_grammar.specs.StmtView.{comma_list_view, parameter_view}
use Rattle.c_scope.specs.Signatures.{listed}
use Rattle.c_scope.specs.Walks.{unless_faulty}
use Rattle.c_types.specs.ProgramTyping.{parameters_typing}
use Rattle.c_types.specs.Programs.{after_parameters}
use Rattle.c_types.proofs.ParameterLoops.{behind_first, behind_next, scope_next, typed_first, typed_last, typed_next}
use Rattle.c_types.proofs.parameters.listed_of.Goals as goal

pub loop-behind-init : goal.loop-behind-init
loop-behind-init c = record {
  typed = typed_first c.args.scope.now c.parameter_of.new.scope c.args.main (parameter_view c.args.list.now.first) (behind_first c.deref-behind-items.result.now)
      (behind_first c.args.list.now.more.items) c.new-parameters.result.items c.new-parameters.ensures.items (λ i. behind_first (c.deref-behind-items.ensures.value i))
      c.in_ok-first.ensures.scope c.in_ok-first.ensures.typed c.in_ok-keep.ensures;
  scope = λ i. after_parameters (c.in_ok-first.ensures.scope i) c.args.main (behind_first (c.deref-behind-items.ensures.value i));
}

pub loop-behind-preserved : goal.loop-behind-preserved
loop-behind-preserved c =
    let items = c.deref-behind-items.result.now in
    let i = c.loop-behind.behind-index in
    record {
      typed = typed_next c.loop-behind.scope c.parameter_of-in-loop-behind.new.scope c.args.main (behind_first (drop i items)) (behind_first (drop (i + 1) items))
          (parameter_view c.behind-item.result.item) (unless_faulty c.loop-behind.faulty c.loop-behind.parameters.items)
          (parameters_typing c.args.scope.now c.args.main (listed (comma_list_view parameter_view c.args.list.now)))
          (behind_next items i c.behind-item.result c.loop-behind-test.true c.behind-item.is) c.in_ok-one.ensures.scope c.loop-behind.invariant.typed c.in_ok-one.ensures.typed
          c.in_ok-keep-2.ensures;
      scope = scope_next c.loop-behind.scope c.parameter_of-in-loop-behind.new.scope _ c.args.main items i c.behind-item.result c.loop-behind-test.true c.behind-item.is
          c.in_ok-one.ensures.scope c.loop-behind.invariant.scope;
    }

pub returns-clause-typed : goal.returns-clause-typed
returns-clause-typed c =
    typed_last c.loop-behind.scope c.args.main c.deref-behind-items.result.now c.loop-behind.behind-index (unless_faulty c.loop-behind.faulty c.loop-behind.parameters.items)
    (parameters_typing c.args.scope.now c.args.main (listed (comma_list_view parameter_view c.args.list.now))) c.loop-behind-test.false c.loop-behind.invariant.typed c.all.ensures
