use Rattle.std.proofs.Common.{◌∙◌, refl, sym}
use Rattle.requests.proofs.Marking.{read_all, read_bad, read_more}
use Rattle.requests.proofs.first_bad.mark_listed.Goals as goal

pub returns-then-not-is_open-clause-bad : goal.returns-then-not-is_open-clause-bad
returns-then-not-is_open-clause-bad c =
    read_bad c.args.row.now c.loop-rest.row c.args.starts.now c.loop-rest.rest.now c.loop-rest.at _ c.loop-rest.invariant c.in-len1-up.len_at_least
    (sym c.is_open.ensures ∙ c.if-not-is_open.true)

pub loop-rest-preserved : goal.loop-rest-preserved
loop-rest-preserved c =
    read_more c.args.row.now c.loop-rest.row c.mark.new.self c.args.starts.now c.loop-rest.rest.now c.loop-rest.at _ _ c.loop-rest.invariant c.in-len1-up.len_at_least
    (sym c.is_open.ensures ∙ c.if-not-is_open.false) c.mark.ensures refl

pub returns-clause-bad : goal.returns-clause-bad
returns-clause-bad c = read_all c.args.row.now c.loop-rest.row c.args.starts.now c.loop-rest.rest.now c.loop-rest.at c.loop-rest.invariant c.in_default.len_below
