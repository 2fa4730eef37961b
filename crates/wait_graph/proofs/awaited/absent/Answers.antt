use Rattle.std.proofs.Common.{◌&&◌, Bool, ℕ, is_some, not}
use Rattle.mpi_call.specs.Needs.{needs}
use Rattle.run_model.specs.Communicators.{enter_at}
use Rattle.run_model.specs.Views.{view_of}
use Rattle.wait_graph.proofs.RegisterLemmas.{filter-end, filter-step}
use Rattle.wait_graph.proofs.awaited.absent.Goals as goal

pub loop-rest-preserved : goal.loop-rest-preserved
loop-rest-preserved c = λ n events is.
    let test : ℕ → Bool = λ member. needs c.args.enter.now c.args.members.now c.args.me member && not (is_some (enter_at n (view_of events member) c.args.comm c.args.instance)) in
    filter-step test c.is_absent-is_one.result c.loop-rest.ranks c.loop-rest.rest.now c.push_if.new.ranks _ 0 c.in-len1-up.len_at_least
    (c.is_absent-is_one.ensures n events is) c.in_ok-push_if.ensures (c.loop-rest.invariant n events is)

pub returns : goal.returns
returns c = λ n events is.
    let test : ℕ → Bool = λ member. needs c.args.enter.now c.args.members.now c.args.me member && not (is_some (enter_at n (view_of events member) c.args.comm c.args.instance)) in
    filter-end test c.loop-rest.ranks c.loop-rest.rest.now _ c.in_default.len_below (c.loop-rest.invariant n events is)
