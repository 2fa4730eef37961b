use Rattle.std.proofs.Common.{◌∙◌, ap, List, [], ℕ, get_or}
use Rattle.comms.proofs.CommsLemmas.{number_found, number_missed}
use Rattle.mpi_call.specs.Members.{place_of}
use Rattle.comms.specs.Communicators.{Communicators}
use Rattle.comms.proofs.communicators.Comms.made.Goals as goal

pub returns-in-Some : goal.returns-in-Some
returns-in-Some c =
    number_found c.args.self.now c.self.inside.given.entries c.self.inside.members.items c.args.comm c.args.instance c.args.me c.place_in-place.result c.at.result c.in-Some.numbers.now
    c.in-Some.ensures.value (ap (λ (all : Communicators). all.given) c.self.view_is) (ap (λ (all : Communicators). all.members) c.self.view_is)
    (c.place_in-place.ensures ∙ ap (λ (all : List (List ℕ)). place_of (get_or all c.args.comm []) c.args.me) c.deref.ensures.value) c.at.ensures

pub returns-in-None : goal.returns-in-None
returns-in-None c =
    number_missed c.args.self.now c.self.inside.given.entries c.args.comm c.args.instance c.args.me c.in-None.ensures.value (ap (λ (all : Communicators). all.given) c.self.view_is)
