use Rattle.std.proofs.Common.{◌≡◌, ◌≤◌, length, ◌∙◌, ap, arith, pos, refl}
use Rattle.c_program.specs.Performing.{with_answer, empties, first_place, with_communicators, handle_places}
use Rattle.c_run_replies.proofs.CompletionLaws.{take-goes, take-left, answered-is, answered-left}
use Rattle.c_run_replies.proofs.completion.took.Goals as goal

pub returns-then-not-branch-clause-comes : goal.returns-then-not-branch-clause-comes
returns-then-not-branch-clause-comes c = λ go.
    take-goes c.args.call.now.rank.ranks c.args.call.now.requests c.args.call.now.mode c.args.call.now.answer c.args.active.now c.args.items.now c.args.state.now c.noted.new.state go c.in_ok-noted.ensures
    ∙ c.in_ok-put_items.ensures.comes (λ s. go (with_answer c.args.call.now.answer (pos 1) (first_place (handle_places c.args.active.now c.args.items.now)) (pos (length c.args.items.now)) (handle_places c.args.active.now c.args.items.now) s))
    ∙ rw c.if-not-branch.true refl

pub returns-clause-comes : goal.returns-clause-comes
returns-clause-comes c = λ go.
    let prepared : c.noted.new.state ≡ empties c.args.call.now.requests c.args.call.now.mode c.args.call.now.answer (with_communicators c.args.items.now c.args.state.now) = c.in_ok-noted.ensures in
    let placed : c.deref.result.now ≡ handle_places c.args.active.now c.args.items.now = c.deref.ensures.value ∙ c.in_ok-places.ensures in
    let put : c.answered_took.new.state ≡ with_answer c.args.call.now.answer (pos 1) (first_place c.deref.result.now) (pos (length c.args.items.now)) c.deref.result.now c.put_items.new.state = c.in_ok-answered_took.ensures in
    take-goes c.args.call.now.rank.ranks c.args.call.now.requests c.args.call.now.mode c.args.call.now.answer c.args.active.now c.args.items.now c.args.state.now c.noted.new.state go prepared
    ∙ c.in_ok-put_items.ensures.comes (λ s. go (with_answer c.args.call.now.answer (pos 1) (first_place (handle_places c.args.active.now c.args.items.now)) (pos (length c.args.items.now)) (handle_places c.args.active.now c.args.items.now) s))
    ∙ rw c.if-not-branch.false (ap go (answered-is c.args.call.now.answer c.args.active.now c.args.items.now c.deref.result.now c.put_items.new.state c.answered_took.new.state placed put))

pub returns-then-not-branch-clause-left : goal.returns-then-not-branch-clause-left
returns-then-not-branch-clause-left c =
    let before : c.noted.new.state.left ≤ c.args.state.now.left = take-left c.args.call.now.requests c.args.call.now.mode c.args.call.now.answer c.args.items.now c.args.state.now c.noted.new.state c.in_ok-noted.ensures in
    let during : c.put_items.new.state.left ≤ c.noted.new.state.left = c.in_ok-put_items.ensures.left in
    omega arith

pub returns-clause-left : goal.returns-clause-left
returns-clause-left c =
    let before : c.noted.new.state.left ≤ c.args.state.now.left = take-left c.args.call.now.requests c.args.call.now.mode c.args.call.now.answer c.args.items.now c.args.state.now c.noted.new.state c.in_ok-noted.ensures in
    let during : c.put_items.new.state.left ≤ c.noted.new.state.left = c.in_ok-put_items.ensures.left in
    let behind : c.answered_took.new.state.left ≤ c.put_items.new.state.left = answered-left c.args.call.now.answer (pos 1) (first_place c.deref.result.now) (pos (length c.args.items.now)) c.deref.result.now c.put_items.new.state c.answered_took.new.state c.in_ok-answered_took.ensures in
    omega arith
