use Rattle.std.proofs.Common.{◌∙◌, List, None, ap, arith, get_or, subst, sym}
use Rattle.run_model.specs.declared.event.Event.{Event}
use Rattle.wait_graph.specs.Graph.{cycles_in}
use Rattle.wait_graph.specs.Reading.{IsRunRead}
use Rattle.wait_graph.proofs.FoundLemmas.{all_found, below_all, below_here, first_found, graph_is, one_found}
use Rattle.wait_graph.proofs.stuck.graph.Goals as goal

pub loop-rest-init : goal.loop-rest-init
loop-rest-init c = record {
  below = below_all c.args.n c.as_slice-rest.result.now (c.as_slice-rest.ensures ∙ c.in_ok-ranks.ensures);
  found = first_found c.args.n c.args.history.now.events c.as_slice-rest.result.now c.new-blocked.result c.new-nexts.result.items c.new-hopeless.result c.new-blocked.ensures c.new-nexts.ensures.items c.new-hopeless.ensures;
}

pub find-requires : goal.find-requires
find-requires c =
    let low = (below_here c.args.n c.loop-rest.rest.now 0 c.loop-rest.invariant.below c.in-len1-up.len_at_least).0 in
    let many = c.in_ok-run.ensures.register.as_many in
    omega (arith, low, many)

pub loop-rest-preserved : goal.loop-rest-preserved
loop-rest-preserved c =
    let R : List Event → Type 0 = λ l. IsRunRead c.args.n l c.in_ok-run.run' in
    let read : IsRunRead c.args.n c.args.history.now.events c.in_ok-run.run' = subst R c.as_slice.ensures.events c.in_ok-run.ensures in
    let all = c.as_slice-in-len1-up.ensures ∙ c.in_ok-ranks.ensures in
    record {
      below = (below_here c.args.n c.loop-rest.rest.now 0 c.loop-rest.invariant.below c.in-len1-up.len_at_least).1;
      found =
          one_found c.args.n c.args.history.now.events c.as_slice-rest.result.now c.loop-rest.rest.now c.loop-rest.blocked c.push_some.new.all c.loop-rest.nexts.items c.push.new.self.items c.loop-rest.hopeless c.push_if.new.ranks 0 c.in_ok-found.found
          c.loop-rest.invariant.found c.in-len1-up.len_at_least (c.in_ok-found.ensures c.args.n c.args.history.now.events read all)
          c.in_ok-push_some.ensures c.in_ok-push.ensures.items c.in_ok-push_if.ensures;
    }

pub returns : goal.returns
returns c =
    let found = all_found c.args.n c.args.history.now.events c.as_slice-rest.result.now c.loop-rest.rest.now c.loop-rest.blocked c.loop-rest.nexts.items c.loop-rest.hopeless c.loop-rest.invariant.found c.in_default.len_below in
    let all = c.as_slice-rest.ensures ∙ c.in_ok-ranks.ensures in
    graph_is c.args.n c.args.history.now.events c.as_slice-rest.result.now c.loop-rest.blocked c.loop-rest.nexts.items c.in_ok-cycles.cycles c.loop-rest.hopeless c.requires all found.0 found.1 found.2
    (c.in_ok-cycles.ensures ∙ ap (λ l. cycles_in (λ rank. get_or l rank None) c.args.n c.as_slice-3.result.now) c.as_slice-2.ensures.value
    ∙ ap (cycles_in (λ rank. get_or c.loop-rest.nexts.items rank None) c.args.n) (c.as_slice-3.ensures ∙ sym c.as_slice-rest.ensures))
