use Rattle.std.proofs.Common.{[], ◌∷◌, refl, arith}
use Rattle.std.proofs.lemmas.Result.{err_from_is_err_and}
use Rattle.srr_log.specs.Parts.{end_line, lists_parts}
use Rattle.srr_log.specs.inside.Reading.{at_list}
use Rattle.srr_log.proofs.ReadLaws.{lists_stopped, end_stopped, end_read, reads_extra, read_all}
use Rattle.srr_log.proofs.read_log.lists_and_end.Goals as goal

pub returns-in_err-lists-clause-read : goal.returns-in_err-lists-clause-read
returns-in_err-lists-clause-read c =
    let p = err_from_is_err_and c.from_residual.result c.from_residual.ensures.1 in
    rw (p.1, p.2) (lists_stopped c.args.ranks c.args.group.now c.args.cursor.now c.lists.new.cursor c.lists.new.cursor c.in_err-lists.field-0.0 c.in_err-lists.ensures.read)

pub returns-in_err-end-clause-read : goal.returns-in_err-end-clause-read
returns-in_err-end-clause-read c =
    let p = err_from_is_err_and c.from_residual-in_err-end.result c.from_residual-in_err-end.ensures.1 in
    rw (p.1, p.2) (end_stopped c.args.ranks c.args.group.now c.args.cursor.now c.lists.new.cursor c.end.new.cursor c.in_ok-lists.lists c.in_err-end.field-0.0 c.in_ok-lists.ensures.many c.in_ok-lists.ensures.read (c.in_err-end.ensures c.args.ranks c.args.group.now))

pub returns-then-left-gt0-clause-read : goal.returns-then-left-gt0-clause-read
returns-then-left-gt0-clause-read c =
    let group = c.args.group.now in
    let lists = c.in_ok-lists.lists in
    reads_extra (at_list c.args.ranks group group) (λ lists. lists_parts group lists (end_line ∷ [])) (lists_parts group lists (end_line ∷ [])) c.args.cursor.now c.end.new.cursor c.rest-left.result.now _
    (end_read c.args.ranks group c.args.cursor.now c.lists.new.cursor c.end.new.cursor lists c.in_ok-lists.ensures.many c.in_ok-lists.ensures.read (c.in_ok-end.ensures c.args.ranks group))
    c.rest-left.ensures refl c.if-left-gt0.true

pub returns-clause-read : goal.returns-clause-read
returns-clause-read c =
    let group = c.args.group.now in
    let lists = c.in_ok-lists.lists in
    read_all (at_list c.args.ranks group group) (λ lists. lists_parts group lists (end_line ∷ [])) (lists_parts group lists (end_line ∷ [])) c.args.cursor.now c.end.new.cursor c.rest-left.result.now
    (end_read c.args.ranks group c.args.cursor.now c.lists.new.cursor c.end.new.cursor lists c.in_ok-lists.ensures.many c.in_ok-lists.ensures.read (c.in_ok-end.ensures c.args.ranks group))
    c.rest-left.ensures (λ more. let less = c.if-left-gt0.false in omega arith)
