use Rattle.std.proofs.Common.{◌≡◌, ◌↔◌, Bool, Some, ap, arith, false, get_or, inl, inr, nat_lt, refl, slice_get, true, ◌∙◌}
use Rattle.causes.specs.Before.{IsBefore}
use Rattle.std.proofs.lemmas.Option.{slice_get-get_or}
use Rattle.run_model.specs.declared.event.Event.{Event}
use Rattle.causes.proofs.Deciding.{decided, not_before}
use Rattle.causes.proofs.Telling.{test_is}
use Rattle.causes.proofs.causes.Causes.is_before.Goals as goal
use Rattle.causes.proofs.causes.Causes.is_before.Goals.{then-t-u-via-then-t-u, then-t-u-via-else-t-u+then-u-self}

pub returns-then-t-u : goal.returns-then-t-u
returns-then-t-u c =
    let is : (false ≡ true) ↔ IsBefore c.self.inside.ranks c.self.inside.events.now c.args.t c.args.u = (
      λ (h : false ≡ true). absurd {A = IsBefore c.self.inside.ranks c.self.inside.events.now c.args.t c.args.u} (cc),
      λ (before : IsBefore c.self.inside.ranks c.self.inside.events.now c.args.t c.args.u). absurd {A = false ≡ true} (not_before c.self.inside.ranks c.self.inside.events.now c.args.t c.args.u
          (elim c.then-t-u.branch [
            | then-t-u-via-then-t-u w ↦ inl w.if-t-u.true
            | then-t-u-via-else-t-u+then-u-self w ↦ inr w.if-u-self.true
          ])
          before),
    ) in
    rw (← c.self.view_is) (record {
      before = is;
      test = test_is (record { ranks = c.self.inside.ranks; events = c.self.inside.events.now; clocks = c.self.inside.clocks.items; numbers = c.self.inside.numbers.items }) c.args.t c.args.u false c.self.invariant.1 c.self.invariant.2 is;
    })

pub returns : goal.returns
returns c =
    let tells = rw (← c.self.view_is) at c.count.ensures.tells in
    let event : Event = get_or c.self.inside.events.now c.args.t c.index-self-t.result in
    let there : slice_get c.self.inside.events.now c.args.t ≡ Some event = slice_get-get_or c.self.inside.events.now c.args.t c.index-self-t.result (omega arith) in
    let number = ap (λ l. get_or l c.args.t 0) c.as_slice-numbers.ensures.value ∙ c.self.invariant.2.each c.args.t event there in
    let test : Bool = nat_lt (get_or c.as_slice-numbers.result.now c.args.t 0) c.count.result in
    let is = decided c.self.inside.ranks c.self.inside.events.now c.args.t c.args.u c.count.result event (get_or c.as_slice-numbers.result.now c.args.t 0) (omega arith) number (tells c.args.t event (omega arith) there refl) in
    rw (← c.self.view_is) (record {
      before = is;
      test = test_is (record { ranks = c.self.inside.ranks; events = c.self.inside.events.now; clocks = c.self.inside.clocks.items; numbers = c.self.inside.numbers.items }) c.args.t c.args.u test c.self.invariant.1 c.self.invariant.2 is;
    })
