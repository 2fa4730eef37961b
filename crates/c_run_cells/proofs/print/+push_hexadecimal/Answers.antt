use Rattle.std.proofs.Common.{◌≡◌, ◌∙◌, ◌++◌, ◌∷◌, ◌/◌, ◌%◌, [], ℕ, List, ap, rules, sym, append_assoc}
use Rattle.c_program.specs.Prints.{digit_text, hexadecimal_text}
use Rattle.c_run_cells.proofs.PrintLaws.{hexadecimal_step}
use Rattle.c_run_cells.proofs.print.+push_hexadecimal.Goals as goal

pub returns : goal.returns
returns t c =
    let pushed : c.push-2.new.self ≡ c.push_hexadecimal.new.out ++ c.digit_text-2.result ∷ [] = search rules in
    pushed
    ∙ ap (λ (digit : ℕ). c.push_hexadecimal.new.out ++ digit ∷ []) c.digit_text-2.ensures
    ∙ ap (λ (xs : List ℕ). xs ++ digit_text (c.args.n % 16) ∷ []) c.in_ok-push_hexadecimal.ensures
    ∙ append_assoc c.args.out.now (hexadecimal_text (c.args.n / 16)) (digit_text (c.args.n % 16) ∷ [])
    ∙ ap (λ (xs : List ℕ). c.args.out.now ++ xs) (sym (hexadecimal_step c.args.n c.if-n-lt16.false))
