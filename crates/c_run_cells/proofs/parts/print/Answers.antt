use Rattle.std.proofs.Common.{◌≡◌, ◌∙◌, ap, rules}
use Rattle.std.proofs.lemmas.Result.{err_from_is_err_and}
use Rattle.c_program.specs.Meaning.{print as print_of}
use Rattle.c_program.specs.Prints.{text_of}
use Rattle.c_run_cells.proofs.PartLaws.{prints, prints-full}
use Rattle.c_run_cells.proofs.parts.print.Goals as goal

pub returns-in_err-ints : goal.returns-in_err-ints
returns-in_err-ints c =
    let p = err_from_is_err_and c.from_residual.result c.from_residual.ensures.1 in
    rw (p.1, p.2) (λ k. c.in_err-ints.ensures (λ vs t. print_of (text_of c.args.format.now vs) t k))

pub returns-then-printed-len : goal.returns-then-printed-len
returns-then-printed-len c =
    let text : c.in_ok-text.text.items ≡ text_of c.args.format.now c.in_ok-ints.ints = c.in_ok-text.ensures ∙ ap (text_of c.args.format.now) c.as_slice.ensures in
    record {
      at = λ k. c.in_ok-ints.ensures.at (λ vs t. print_of (text_of c.args.format.now vs) t k)
          ∙ prints c.args.format.now c.in_ok-ints.ints c.in_ok-text.text.items c.args.state.now c.print.new.self k text (search rules) (search rules);
      left = search rules;
    }

pub returns : goal.returns
returns c = λ k.
    let text : c.in_ok-text.text.items ≡ text_of c.args.format.now c.in_ok-ints.ints = c.in_ok-text.ensures ∙ ap (text_of c.args.format.now) c.as_slice.ensures in
    c.in_ok-ints.ensures.at (λ vs t. print_of (text_of c.args.format.now vs) t k)
    ∙ prints-full c.args.format.now c.in_ok-ints.ints c.in_ok-text.text.items c.args.state.now k text (search rules)
