use Rattle.std.proofs.Common.{◌≡◌, find, length, map}
use Rattle.std.specs.List.{AllByRecursion}
use Rattle.std.specs.Str.{bytes_eq}
use Rattle.wiz_words.specs.declared.forms.Form.{Form}
use Rattle.wiz_words.specs.Forms.{IsForm, verb_name, verb_named}
use Rattle.wiz_words.proofs.forms.form_named.Given as goal

abbrev pub invariant-loop-rest : goal.invariant-loop-rest
invariant-loop-rest l =
    (find (λ verb. bytes_eq l.fn.name (verb_name verb)) (map (λ (form : Form). form.verb) l.rest) ≡ verb_named l.fn.name) × AllByRecursion IsForm l.rest

abbrev pub decreases-loop-rest : goal.decreases-loop-rest
decreases-loop-rest l = length l.rest
