use Rattle.std.proofs.Common.{fold, map}
use Rattle.clap.specs.Words.{new_app, with_rule}
use Rattle.wiz_words.specs.Forms.{rule_by}
use Rattle.wiz_words.proofs.FormLemmas.{one_more}
use Rattle.wiz_words.proofs.forms.clap_form.Goals as goal

pub loop-rest-preserved : goal.loop-rest-preserved
loop-rest-preserved c =
    one_more (fold with_rule (new_app c.args.form.now.name.now) (map rule_by c.args.form.now.parts.now)) c.loop-rest.read c.in_ok-read.read c.argument_of.result
    c.loop-rest.rest.now _ c.in-len1-up.len_at_least c.argument_of.ensures.rule c.in_ok-read.ensures c.argument_of.ensures.local c.loop-rest.invariant
