use Rattle.std.proofs.Common.{ℤ, ◌∙◌, FitsSigned, w32, w64, subst}
use Rattle.std.specs.Result.{OkIff}
use Rattle.std.proofs.lemmas.Int.{to_z-of_z}
use Rattle.srr_log.proofs.PieceLaws.{int_is, int_is_none}
use Rattle.srr_log.proofs.pieces.int.Goals as goal

pub returns-in-Ok : goal.returns-in-Ok
returns-in-Ok c =
    let read = c.in-Ok.ensures in
    let P : ℤ → Type 0 = λ z. OkIff c.try_from.result (FitsSigned w32 z) z in
    c.ok.ensures.value ∙ int_is c.args.text.now c.in-Ok.number c.try_from.result read.0 (subst P (to_z-of_z w64 c.in-Ok.number read.1) c.try_from.ensures)

pub returns-in-Err : goal.returns-in-Err
returns-in-Err c = int_is_none c.args.text.now c.in-Err.field-0 c.in-Err.ensures
