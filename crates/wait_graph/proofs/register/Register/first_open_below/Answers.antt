use Rattle.std.proofs.Common.{◌∙◌, arith, sym}
use Rattle.run_model.specs.Views.{starts_of, view_of}
use Rattle.wait_graph.proofs.OpenLemmas.{found_here, left_none, left_past, none_here}
use Rattle.wait_graph.proofs.register.Register.first_open_below.Goals as goal

pub returns-in_default : goal.returns-in_default
returns-in_default c = λ n events is.
    sym (left_past events c.args.sender c.args.receiver (starts_of (view_of events c.args.sender)) c.loop-start.start c.args.below (sym (c.in_default.ensures n events is)))
    ∙ c.loop-start.invariant.left n events is

pub returns-then-is_some : goal.returns-then-is_some
returns-then-is_some c = λ n events is.
    found_here events c.args.sender c.args.receiver (starts_of (view_of events c.args.sender)) c.loop-start.start c.args.below c.in-Some.call.now _ _
    c.loop-start-test.true (sym (c.in-Some.ensures n events is))
    (c.open_here-found.ensures n events is) (sym c.is_some.ensures ∙ c.if-is_some.true) (c.loop-start.invariant.left n events is)

pub loop-start-preserved : goal.loop-start-preserved
loop-start-preserved c = record {
  within = (let low = c.loop-start-test.true in omega (arith, low));
  left = λ n events is.
      none_here events c.args.sender c.args.receiver (starts_of (view_of events c.args.sender)) c.loop-start.start c.args.below c.in-Some.call.now c.open_here-found.result _
      c.loop-start-test.true (sym (c.in-Some.ensures n events is))
      (c.open_here-found.ensures n events is) (sym c.is_some.ensures ∙ c.if-is_some.false) (c.loop-start.invariant.left n events is);
}

pub returns : goal.returns
returns c = λ n events is.
    let past = c.loop-start-test.false in
    sym (left_none events c.args.sender c.args.receiver (starts_of (view_of events c.args.sender)) c.loop-start.start c.args.below (omega (arith, past)))
    ∙ c.loop-start.invariant.left n events is
