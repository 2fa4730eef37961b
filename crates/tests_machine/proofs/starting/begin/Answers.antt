use Rattle.std.proofs.Common.{◌≡◌, ◌∙◌, false, sym, true}
use Rattle.requests.proofs.Sounding.{no_enter}
use Rattle.tests_machine.proofs.Positions.{message_starting, next_started}
use Rattle.tests_machine.proofs.starting.begin.Goals as goal

pub start-requires-clause-kind : goal.start-requires-clause-kind
start-requires-clause-kind c = message_starting c.args.call.now c.requires.kind

pub start-requires-clause-enter : goal.start-requires-clause-enter
start-requires-clause-enter c = λ enter. absurd (let no : true ≡ false = sym enter ∙ no_enter c.args.call.now c.requires.kind in cc)

pub returns-in-Made : goal.returns-in-Made
returns-in-Made c = next_started 2 c.args.at c.args.rank c.args.call.now c.args.requests.now c.start.new.self c.in_ok-start.field-0 c.requires.may c.in_ok-start.ensures.ok

pub returns-in-Disagrees : goal.returns-in-Disagrees
returns-in-Disagrees c = next_started 2 c.args.at c.args.rank c.args.call.now c.args.requests.now c.start.new.self c.in_ok-start.field-0 c.requires.may c.in_ok-start.ensures.ok
