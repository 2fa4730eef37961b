use Rattle.std.proofs.Common.{◌≡◌, ◌-◌, length, take, drop, ap, ◌∙◌, length-drop}
use Rattle.std.proofs.Math.Seq.{take-length}
use Rattle.c_lex.specs.Marks.{marks, first_length, mark_length}
use Rattle.c_lex.proofs.mark.mark_length.Goals as goal

pub returns-clause-value : goal.returns-clause-value
unfolding mark_length marks
returns-clause-value c =
    let rest : take (length c.args.text.now - c.args.at) (drop c.args.at c.args.text.now) ≡ drop c.args.at c.args.text.now =
    rw (← length-drop c.args.at c.args.text.now) (take-length (drop c.args.at c.args.text.now)) in
    c.first_length.ensures.value ∙ ap (first_length marks) rest
