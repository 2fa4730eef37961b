use Rattle.view_tables.proofs.MemberTableLemmas.{IsMemberTable-after, IsMemberTable-back}
use Rattle.srr_replay.proofs.note.note.Goals as goal

pub returns-in-Err-clause-err : goal.returns-in-Err-clause-err
returns-in-Err-clause-err c = (
  c.in-Err.ensures.err.0,
  c.in-Err.ensures.err.1,
  rw (c.forget.ensures, c.count-known.ensures)
      (IsMemberTable-back c.args.ranks c.args.events.now.events c.args.event.now c.args.members.now c.note.new.self c.requires.rank c.requires.members c.in_ok-note.ensures.ok),
)

pub returns-clause-ok : goal.returns-clause-ok
returns-clause-ok c = (
  c.in_default.ensures.ok.0,
  c.in_default.ensures.ok.1,
  rw c.in_ok-note.ensures.ok
      (IsMemberTable-after c.args.ranks c.args.events.now.events c.args.event.now c.args.members.now c.requires.rank c.requires.members),
)
