use Rattle.std.proofs.Common.{◌≡◌, ◌∙◌, sym, true}
use Rattle.mpi_call.specs.Members.{is_member}
use Rattle.srr_replay.proofs.LogLemmas.{below_at}
use Rattle.wiz_logs.proofs.viewing.tell.changes_in.Goals as goal

pub start-requires-clause-member : goal.start-requires-clause-member
start-requires-clause-member c =
    below_at c.args.log.now.ranks c.args.log.now.group c.args.rank c.requires.log.below
    (sym (rw c.as_slice.ensures at c.is_member.ensures) ∙ c.if-not-is_member.false)

pub returns : goal.returns
returns c =
    let member : is_member c.args.log.now.group c.args.rank ≡ true = sym (rw c.as_slice.ensures at c.is_member.ensures) ∙ c.if-not-is_member.false in
    rw member (rw c.in_ok-run.ensures at c.changes_of.ensures)
