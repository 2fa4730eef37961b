use Rattle.std.proofs.Common.{[], map}
use Rattle.c_grammar.specs.StmtView.{external_view}
use Rattle.c_program.specs.View.{pure_function}
use Rattle.c_types.specs.ProgramTyping.{functions_typing}
use Rattle.c_types.proofs.Functions.{functions_faulty, functions_next, functions_typed}
use Rattle.c_types.proofs.program.functions_of.Goals as goal

pub loop-external-preserved : goal.loop-external-preserved
loop-external-preserved c = (
  _,
  functions_next c.loop-external.scope c.external_of.new.scope c.loop-external.seen c.external_of.new.seen c.args.externals.now c.loop-external.external-index c.external-item.result
      c.loop-external.invariant.0 (map pure_function c.loop-external.functions.items) (map pure_function c.add.new.functions.items)
      (functions_typing c.args.scope.now [] (map external_view c.args.externals.now)) c.loop-external-test.true c.external-item.is c.in_ok-one.ensures.scope c.in_ok-one.ensures.seen
      c.in_ok-one.ensures.typed c.in_ok-add.ensures c.loop-external.invariant.1,
)

pub returns-in-None : goal.returns-in-None
returns-in-None c =
    functions_typed c.loop-external.scope c.loop-external.seen c.args.externals.now c.loop-external.external-index c.loop-external.invariant.0
    (map pure_function c.loop-external.functions.items) (functions_typing c.args.scope.now [] (map external_view c.args.externals.now)) c.loop-external-test.false c.in-None.is
    c.loop-external.invariant.1

pub returns : goal.returns
returns c =
    functions_faulty c.loop-external.scope c.loop-external.seen c.args.externals.now c.loop-external.external-index c.loop-external.invariant.0
    (map pure_function c.loop-external.functions.items) (functions_typing c.args.scope.now [] (map external_view c.args.externals.now)) c.loop-external-test.false c.in-Some.is
    c.loop-external.invariant.1
