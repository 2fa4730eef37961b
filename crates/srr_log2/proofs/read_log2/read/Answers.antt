use Rattle.std.proofs.Common.{ℕ, List, subst, ◌≡◌, ◌-◌, [], length, take, sym, ap, ◌∙◌}
use Rattle.std.proofs.lemmas.Result.{err_from_is_err_and}
use Rattle.srr_log2.specs.Reading.{coded_body}
use Rattle.std.specs.Prelude.{Err}
use Rattle.srr_entry.specs.declared.log.Log.{Log}
use Rattle.srr_log2.specs.Fields.{GivesFields, reads}
use Rattle.srr_log2.proofs.ReadLaws.{body_stop, close_stop, log_closed}
use Rattle.srr_log2.proofs.read_log2.read.Goals as goal

pub returns-in_err-log : goal.returns-in_err-log
returns-in_err-log c =
    let p = err_from_is_err_and c.from_residual.result c.from_residual.ensures.1 in
    let P : List ℕ → Type 0 = λ text. GivesFields {A = Log} (coded_body text) (Err c.in_err-log.field-0.0) c.body.new.cursor in
    rw (p.1, p.2) (body_stop c.args.text.now c.body.new.cursor [] c.in_err-log.field-0.0 (subst P c.new-cursor.ensures c.in_err-log.ensures))

pub returns-in_err-close : goal.returns-in_err-close
returns-in_err-close c =
    let p = err_from_is_err_and c.from_residual-in_err-close.result c.from_residual-in_err-close.ensures.1 in
    let body : coded_body c.args.text.now ≡ reads c.in_ok-log.log c.body.new.cursor = ap coded_body (sym c.new-cursor.ensures) ∙ c.in_ok-log.ensures in
    rw (p.1, p.2) (close_stop c.args.text.now c.body.new.cursor _ c.close.new.cursor [] c.in_ok-log.log c.in_err-close.field-0.0 body (ap (λ k. take k c.args.text.now) (c.saturating_sub-count.ensures ∙ ap (λ r. length c.args.text.now - length r) c.rest.ensures)) c.in_err-close.ensures)

pub returns : goal.returns
returns c =
    let body : coded_body c.args.text.now ≡ reads c.in_ok-log.log c.body.new.cursor = ap coded_body (sym c.new-cursor.ensures) ∙ c.in_ok-log.ensures in
    log_closed c.args.text.now c.body.new.cursor _ c.close.new.cursor c.in_ok-log.log _ body (ap (λ k. take k c.args.text.now) (c.saturating_sub-count.ensures ∙ ap (λ r. length c.args.text.now - length r) c.rest.ensures)) c.in_ok-close.ensures
