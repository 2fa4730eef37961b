use Rattle.std.proofs.Common.{◌≡◌, ◌<◌, ◌∙◌, ◌++◌, ◌∷◌, [], false, refl, subst, sym}
use Rattle.run_model.specs.declared.event.Event.{Event}
use Rattle.run_model.specs.Due.{stops}
use Rattle.wait_graph.specs.Register.{IsRegister}
use Rattle.wait_graph.proofs.ReadLemmas.{read_end, read_first, read_more}
use Rattle.wait_graph.proofs.reading.read.Goals as goal

pub loop-rest-init : goal.loop-rest-init
loop-rest-init c = read_first c.args.n c.args.events.now _ c.in_ok-register.ensures c.requires.ranks

pub loop-rest-preserved : goal.loop-rest-preserved
loop-rest-preserved c =
    let is = c.loop-rest.invariant in
    let F : Event → Type 0 = λ x. stops x.reply ≡ false in
    let P : Event → Type 0 = λ x. IsRegister c.args.n is.before c.loop-rest.register → x.rank < c.args.n → IsRegister c.args.n (is.before ++ x ∷ []) c.note.new.self in
    read_more c.args.n c.args.events.now c.loop-rest.rest.now c.loop-rest.register c.note.new.self c.event-item.result is c.in-len1-up.len_at_least
    (subst F c.event-item.is (sym c.stops.ensures ∙ c.if-stops.false)) (subst P c.event-item.is (c.in_ok-note.ensures c.args.n is.before))

pub returns : goal.returns
returns c = read_end c.args.n c.args.events.now c.loop-rest.rest.now c.loop-rest.register _ c.loop-rest.invariant c.in_default.len_below refl refl
