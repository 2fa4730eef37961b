use Rattle.std.proofs.Common.{◌≡◌, fold, map, length}
use Rattle.clap.specs.Words.{app_of, new_app, with_rule}
use Rattle.wiz_words.specs.Forms.{rule_by}
use Rattle.wiz_words.proofs.forms.clap_form.Given as goal

abbrev pub invariant-loop-rest : goal.invariant-loop-rest
invariant-loop-rest l =
    fold with_rule (app_of l.read) (map rule_by l.rest) ≡ fold with_rule (new_app l.fn.form.name.now) (map rule_by l.fn.form.parts.now)

abbrev pub decreases-loop-rest : goal.decreases-loop-rest
decreases-loop-rest l = length l.rest
