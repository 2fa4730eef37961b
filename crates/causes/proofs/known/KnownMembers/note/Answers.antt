use Rattle.std.proofs.Common.{ap, sym, ◌∙◌}
use Rattle.std.proofs.lemmas.Result.{on_ok_weaker}
use Rattle.mpi_call.specs.declared.reply.Reply.TheVariants.{Took}
use Rattle.causes.proofs.TableLemmas.{known_same, known_took}
use Rattle.causes.proofs.known.KnownMembers.note.Goals as goal

pub returns-in-Took : goal.returns-in-Took
returns-in-Took c =
    on_ok_weaker c.add_items.result
    (λ learns. λ before is. known_took before c.args.event.now c.as_slice.result.now c.args.self.now c.add_items.new.self (c.in-Took.is ∙ ap Took (sym c.as_slice.ensures)) learns is)
    c.add_items.ensures

pub returns-in_default : goal.returns-in_default
returns-in_default c = λ before is. known_same before c.args.event.now c.args.self.now (λ items e. c.in_default.not-Took items e) is
