use Rattle.std.proofs.Common.{◌≡◌, ◌∙◌, None, Option, Some, ap, false, slice_get, sym, true, List}
use Rattle.mpi_call.specs.declared.reply.Item.{Item}
use Rattle.requests.specs.declared.requests.TakeAnswer.{TakeAnswer}
use Rattle.requests.specs.declared.requests.TakeAnswer.TheVariants.{Took}
use Rattle.requests.specs.States.{RequestTable, table_of}
use Rattle.requests.proofs.TakingAt.{at_long, at_none, at_unready}
use Rattle.requests.proofs.answer.open_at.Goals as goal

pub returns-in_default : goal.returns-in_default
returns-in_default c =
    let table : RequestTable = table_of c.args.rows.now c.args.board.now c.args.comms.now in
    let at : slice_get c.args.starts.now c.args.index ≡ None = sym c.start_at.ensures ∙ c.in_default.is in
    sym (at_none table c.args.me c.args.starts.now c.args.index c.requires.good at)

pub returns-then-not-is_complete : goal.returns-then-not-is_complete
returns-then-not-is_complete c =
    let table : RequestTable = table_of c.args.rows.now c.args.board.now c.args.comms.now in
    let at : slice_get c.args.starts.now c.args.index ≡ Some c.in-Some.start = sym c.start_at.ensures ∙ c.in-Some.is in
    sym (at_unready table c.args.me c.args.starts.now c.args.index c.in-Some.start c.requires.good at (sym c.is_complete.ensures ∙ c.if-not-is_complete.true))

pub returns-then-is_long : goal.returns-then-is_long
returns-then-is_long c =
    let table : RequestTable = table_of c.args.rows.now c.args.board.now c.args.comms.now in
    let at : slice_get c.args.starts.now c.args.index ≡ Some c.in-Some.start = sym c.start_at.ensures ∙ c.in-Some.is in
    sym (at_long table c.args.me c.args.starts.now c.args.index c.in-Some.start true c.requires.good at
    (sym c.is_complete.ensures ∙ c.if-not-is_complete.false) (sym c.is_long.ensures ∙ c.if-is_long.true))

pub returns : goal.returns
returns c =
    let table : RequestTable = table_of c.args.rows.now c.args.board.now c.args.comms.now in
    let at : slice_get c.args.starts.now c.args.index ≡ Some c.in-Some.start = sym c.start_at.ensures ∙ c.in-Some.is in
    let answer : List Item → Option TakeAnswer = λ l. Some (Took l) in
    ap answer c.in_ok-taken.ensures
    ∙ sym (at_long table c.args.me c.args.starts.now c.args.index c.in-Some.start false c.requires.good at
    (sym c.is_complete.ensures ∙ c.if-not-is_complete.false) (sym c.is_long.ensures ∙ c.if-is_long.false))
