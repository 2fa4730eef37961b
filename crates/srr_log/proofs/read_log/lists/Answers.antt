use Rattle.std.proofs.Common.{◌≡◌, ◌+◌, [], ◌∷◌, ◌++◌, length, drop, ap, sym, ◌∙◌, subst, arith, length-append, List}
use Rattle.std.proofs.lemmas.Result.{err_from_is_err_and}
use Rattle.srr_entry.specs.declared.entry.Entry.{Entry}
use Rattle.srr_log.specs.Parts.{lists_parts}
use Rattle.srr_log.specs.inside.Reading.{at_list}
use Rattle.srr_log.proofs.StateLaws.{AreRead, no_lists_read, lists_onward, lists_stop}
use Rattle.srr_log.proofs.read_log.lists.Goals as goal

pub loop-named-init : goal.loop-named-init
loop-named-init c =
    let P : List (List Entry) → Type 0 = λ lists. AreRead (at_list c.args.ranks c.args.group.now c.args.group.now) (lists_parts c.args.group.now lists []) c.args.cursor.now c.args.cursor.now in
    record {
      many = ap length c.new-lists.ensures;
      read = subst P (sym c.new-lists.ensures) (no_lists_read c.args.ranks c.args.group.now c.args.group.now c.args.cursor.now);
    }

pub returns-in_err-entries-clause-read : goal.returns-in_err-entries-clause-read
returns-in_err-entries-clause-read c =
    let p = err_from_is_err_and c.from_residual.result c.from_residual.ensures.1 in
    rw (p.1, p.2) (lists_stop c.args.ranks c.args.group.now c.args.cursor.now c.loop-named.cursor c.list.new.cursor c.list.new.cursor c.loop-named.lists c.loop-named.named-index c.in_err-entries.field-0.0 c.loop-named.invariant.many c.loop-named-test.true
    c.loop-named.invariant.read (c.in_err-entries.ensures (drop (c.loop-named.named-index + 1) c.args.group.now)))

pub loop-named-preserved : goal.loop-named-preserved
loop-named-preserved c =
    let added : c.add_list.new.lists ≡ c.loop-named.lists ++ c.in_ok-entries.entries ∷ [] = c.in_ok-add_list.ensures in
    record {
      many = let long : length c.add_list.new.lists ≡ length c.loop-named.lists + 1 = ap length added ∙ length-append c.loop-named.lists (c.in_ok-entries.entries ∷ []) in omega arith;
      read = lists_onward c.args.ranks c.args.group.now c.args.cursor.now c.loop-named.cursor c.list.new.cursor c.loop-named.lists c.add_list.new.lists c.in_ok-entries.entries c.loop-named.named-index c.loop-named.invariant.many c.loop-named-test.true
          c.loop-named.invariant.read (c.in_ok-entries.ensures (drop (c.loop-named.named-index + 1) c.args.group.now)) added;
    }
