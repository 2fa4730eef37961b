use Rattle.std.proofs.Common.{◌<◌, ◌∙◌, ℕ, List, [], ◌∷◌, ◌++◌, arith, rules, subst, sym}
use Rattle.std.proofs.lemmas.Result.{on_ok_weaker}
use Rattle.view_tables.specs.declared.start_table.StartRow.{StartRow}
use Rattle.view_tables.specs.EnterTable.{IsNotedFor}
use Rattle.view_tables.specs.StartTable.{IsStartTable}
use Rattle.view_tables.proofs.EnterTableLemmas.{IsEnterTable-after, IsEnterTable-kept}
use Rattle.view_tables.proofs.StartTableLemmas.{IsStartTable-after, few_starts}
use Rattle.srr_replay.proofs.note.note_start.Goals as goal

pub returns-in_default-clause-ok : goal.returns-in_default-clause-ok
returns-in_default-clause-ok c =
    let T : List (List StartRow) → Type 0 = λ table. IsStartTable c.args.ranks (c.args.events.now.events ++ c.args.event.now ∷ []) table in
    on_ok_weaker c.note.result
    (λ is. (
      subst T (sym is) (rw c.len-at.ensures (IsStartTable-after c.args.ranks c.args.events.now.events c.args.event.now c.args.starts.now c.requires.rank c.requires.takes c.requires.starts)),
      IsEnterTable-kept c.args.ranks c.args.events.now.events c.args.event.now c.args.enters.now (sym c.in_default.ensures) c.requires.enters,
    ))
    c.note.ensures.ok

pub count-number-requires : goal.count-number-requires
count-number-requires c =
    let few = few_starts c.args.ranks c.args.events.now.events c.args.starts.now c.args.event.now.rank c.requires.starts in
    let fits : c.len-at.result < 4294967296 = search rules in
    omega (arith, few, fits, c.len-at.ensures)

pub returns-clause-ok : goal.returns-clause-ok
returns-clause-ok c =
    let N : ℕ → Type 0 = λ k. IsNotedFor c.args.enters.now c.note-3.new.self c.args.event.now.rank c.in-Some.comm k in
    let noted = subst N (c.count-number.ensures ∙ (c.requires.starts.each c.args.event.now.rank).as_many) c.in_default-note.ensures.ok in (
      rw (c.in_ok-note.ensures.ok, c.len-at.ensures) (IsStartTable-after c.args.ranks c.args.events.now.events c.args.event.now c.args.starts.now c.requires.rank c.requires.takes c.requires.starts),
      IsEnterTable-after c.args.ranks c.args.events.now.events c.args.event.now c.in-Some.comm c.args.enters.now c.note-3.new.self (sym c.in-Some.ensures) noted c.requires.enters,
    )
