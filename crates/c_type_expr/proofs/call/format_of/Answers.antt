use Rattle.std.proofs.Common.{◌≡◌, ◌∙◌, if◌then◌else◌, ap, subst}
use Rattle.std.specs.Option.{option_map}
use Rattle.c_lex.specs.declared.fault.Why.TheVariants.{BadFormat}
use Rattle.c_scope.specs.Least.{fault, least_fault_from}
use Rattle.c_scope.specs.Scopes.{token_bytes}
use Rattle.c_scope.specs.Walks.{Gives}
use Rattle.c_type_expr.specs.Calls.{without_quotes}
use Rattle.c_type_expr.specs.CallTyping.{read_format, spelled_pieces}
use Rattle.c_type_expr.proofs.SpelledFormats.{format_walked, told_of_bad, told_of_good}
use Rattle.c_type_expr.proofs.call.format_of.Goals as goal
use Rattle.c_type_expr.proofs.call.format_of.Goals.{then-not-well, else-not-well}

pub returns : goal.returns
returns c =
    let best = c.args.best.now in
    let faulty = least_fault_from best (fault c.args.at BadFormat) in
    let told : c.if-not-well.best ≡ (if c.takes_ints-well.result then best else faulty) = elim c.if-not-well.branch [
      | then-not-well w ↦ told_of_bad c.takes_ints-well.result best c.if-not-well.best faulty w.if-not-well.true (w.best-is ∙ w.note_at.ensures)
      | else-not-well w ↦ told_of_good c.takes_ints-well.result best c.if-not-well.best faulty w.if-not-well.false w.best-is
    ] in
    subst (λ bytes. Gives best c.if-not-well.best (option_map (λ format. format.items) c.if_well.result) (read_format c.args.at c.args.count (spelled_pieces bytes)))
    (c.without_quotes-format.ensures ∙ ap without_quotes (c.token_bytes.ensures ∙ ap (λ text. token_bytes text c.args.at) c.text.ensures))
    (format_walked (λ format. format.items) best c.if-not-well.best c.args.at c.args.count c.without_quotes-format.result.now c.in_ok-found.found c.takes_ints-well.result c.if_well.result
    c.in_ok-found.ensures.read c.takes_ints-well.ensures c.if_well.ensures told)
