use Rattle.std.proofs.Common.{◌≡◌, ◌∙◌, false, sym, true}
use Rattle.mpi_call.specs.Collectives.{is_member}
use Rattle.srr_entry.proofs.Making.{ifok_map}
use Rattle.srr_regroup.proofs.Made.{first_entries, other_member, replay_view, second_entries}
use Rattle.srr_regroup.proofs.coarser.entries_in_both.Goals as goal

pub entries_of-requires : goal.entries_of-requires
entries_of-requires c =
    let there = rw c.as_slice.ensures at c.if-is_member.ensures in
    let mine : is_member c.args.one.now.group c.args.rank ≡ true = sym there in
    replay_view c.args.one.now c.args.first.now c.args.rank c.requires.logs.first_log c.requires.logs.first_replay mine

pub returns-then-is_member : goal.returns-then-is_member
returns-then-is_member c =
    let there = rw c.as_slice.ensures at c.if-is_member.ensures in
    let mine : is_member c.args.one.now.group c.args.rank ≡ true = sym there in
    ifok_map c.entries_of.result _ _
    (λ entries made. made ∙ first_entries c.args.one.now c.args.two.now c.args.first.now c.args.second.now c.args.group.now c.args.rank c.requires.logs mine)
    c.entries_of.ensures

pub entries_of-requires-2 : goal.entries_of-requires-2
entries_of-requires-2 c =
    let there = rw c.as_slice.ensures at c.if-is_member.ensures in
    let other : is_member c.args.one.now.group c.args.rank ≡ false = sym there in
    replay_view c.args.two.now c.args.second.now c.args.rank c.requires.logs.second_log c.requires.logs.second_replay
    (other_member c.args.one.now c.args.two.now c.args.rank c.requires.rank other)

pub returns : goal.returns
returns c =
    let there = rw c.as_slice.ensures at c.if-is_member.ensures in
    let other : is_member c.args.one.now.group c.args.rank ≡ false = sym there in
    ifok_map c.entries_of-2.result _ _
    (λ entries made. made ∙ second_entries c.args.one.now c.args.two.now c.args.first.now c.args.second.now c.args.group.now c.args.rank c.requires.logs other)
    c.entries_of-2.ensures
