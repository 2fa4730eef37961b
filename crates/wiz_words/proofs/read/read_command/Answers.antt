use Rattle.std.proofs.Common.{◌∙◌, ap, subst, sym}
use Rattle.clap.specs.Words.{app_of, is_simple_and_free}
use Rattle.wiz_words.specs.Texts.{texts}
use Rattle.wiz_words.specs.Values.{AreMatchesOf, rows_found}
use Rattle.wiz_words.proofs.FormLemmas.{asked_by, begin_with, form_is, form_is_simple, refused}
use Rattle.wiz_words.proofs.read.read_command.Goals as goal

pub matches_of-requires : goal.matches_of-requires
matches_of-requires c =
    ap is_simple_and_free (form_is _ c.in-Some-form_named.form.now c.in-Some-form_named.ensures.1 c.in_ok-clap_form.ensures) ∙ form_is_simple _

pub returns-in-Some-2 : goal.returns-in-Some-2
returns-in-Some-2 c =
    let words = texts c.args.words.now in
    let form = c.in-Some-form_named.form.now in
    let begin = begin_with c.args.words.now c.in-Some.name.now form.verb c.in-Some.ensures.value (sym c.in-Some-form_named.ensures.0) in
    let is = form_is _ form c.in-Some-form_named.ensures.1 c.in_ok-clap_form.ensures in
    let given = subst (AreMatchesOf (app_of c.in_ok-clap_form.field-0) words) c.in-Some-2.is c.in_ok-matches.ensures in
    asked_by words form.verb (app_of c.in_ok-clap_form.field-0) (rows_found c.in-Some-2.matches) c.command_from.result begin is given.0 given.1 c.command_from.ensures

pub returns-in-None : goal.returns-in-None
returns-in-None c =
    let words = texts c.args.words.now in
    let form = c.in-Some-form_named.form.now in
    let begin = begin_with c.args.words.now c.in-Some.name.now form.verb c.in-Some.ensures.value (sym c.in-Some-form_named.ensures.0) in
    refused words form.verb (app_of c.in_ok-clap_form.field-0) begin (form_is _ form c.in-Some-form_named.ensures.1 c.in_ok-clap_form.ensures)
    (subst (AreMatchesOf (app_of c.in_ok-clap_form.field-0) words) c.in-None.is c.in_ok-matches.ensures)
