use Rattle.std.proofs.Common.{◌≡◌, ◌+◌, [], ◌∷◌, ◌++◌, length, ap, ◌∙◌, arith, length-append}
use Rattle.std.proofs.lemmas.Result.{err_from_is_err_and}
use Rattle.srr_log.proofs.StateLaws.{entries_onward, entries_stop}
use Rattle.srr_log.proofs.read_log.entries.Goals as goal

pub returns-in_err-entry-clause-read : goal.returns-in_err-entry-clause-read
returns-in_err-entry-clause-read c = λ behind.
    let p = err_from_is_err_and c.from_residual.result c.from_residual.ensures.1 in
    rw (p.1, p.2) (entries_stop c.args.ranks c.args.group.now c.args.count c.loop-left.left behind c.args.cursor.now c.loop-left.cursor c.entry.new.cursor c.entry.new.cursor c.loop-left.entries c.in_err-entry.field-0.0 c.loop-left.invariant.many (omega arith)
    (c.loop-left.invariant.read behind) (c.in_err-entry.ensures behind))

pub loop-left-preserved : goal.loop-left-preserved
loop-left-preserved c =
    let added : c.add_entry.new.entries ≡ c.loop-left.entries ++ c.in_ok-entry.entry ∷ [] = c.in_ok-add_entry.ensures in
    record {
      many = let long : length c.add_entry.new.entries ≡ length c.loop-left.entries + 1 = ap length added ∙ length-append c.loop-left.entries (c.in_ok-entry.entry ∷ []) in omega arith;
      read = λ behind.
          entries_onward c.args.ranks c.args.group.now c.args.count c.loop-left.left behind c.args.cursor.now c.loop-left.cursor c.entry.new.cursor c.loop-left.entries c.add_entry.new.entries c.in_ok-entry.entry c.loop-left.invariant.many (omega arith)
          (c.loop-left.invariant.read behind) (c.in_ok-entry.ensures behind) added;
    }
