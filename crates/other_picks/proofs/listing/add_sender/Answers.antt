use Rattle.std.proofs.Common.{◌≡◌, ◌==◌, ◌∙◌, false, is_some, refl, sym, true}
use Rattle.std.proofs.lemmas.Bool.{eq-eqb, ne_eqb}
use Rattle.mpi_call.specs.declared.call.Call.TheVariants.{Peek}
use Rattle.mpi_call.specs.declared.call.Source.TheVariants.{From}
use Rattle.run_model.specs.Choice.{choice}
use Rattle.other_picks.proofs.listing.add_sender.Goals as goal

pub returns-then-sender-receive : goal.returns-then-sender-receive
returns-then-sender-receive c = λ before knows. rw (eq-eqb c.args.sender c.args.receive.now.took c.if-sender-receive.true) refl

pub returns-then-has_message : goal.returns-then-has_message
returns-then-has_message c = λ before knows.
    let wildcard = c.args.receive.now.wildcard in
    let other : (c.args.sender == c.args.receive.now.took) ≡ false = ne_eqb c.args.sender c.args.receive.now.took c.if-sender-receive.false in
    let found : is_some (choice before c.args.receive.now.rank (Peek wildcard.comm (From c.args.sender) wildcard.tag false)) ≡ true =
    sym (c.has_message.ensures before knows) ∙ c.if-has_message.true in
    rw (other, found) c.in_ok-add.ensures

pub returns : goal.returns
returns c = λ before knows.
    let wildcard = c.args.receive.now.wildcard in
    let other : (c.args.sender == c.args.receive.now.took) ≡ false = ne_eqb c.args.sender c.args.receive.now.took c.if-sender-receive.false in
    let none : is_some (choice before c.args.receive.now.rank (Peek wildcard.comm (From c.args.sender) wildcard.tag false)) ≡ false =
    sym (c.has_message.ensures before knows) ∙ c.if-has_message.false in
    rw (other, none) refl
