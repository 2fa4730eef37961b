use Rattle.std.proofs.Common.{◌∙◌, ◌++◌, ℕ, ℤ, List, Option, ap, map, sym}
use Rattle.run_model.specs.Lists.{world}
use Rattle.run_model.specs.Pairs.{Name, partner_of}
use Rattle.run_states.specs.Codes.{code_of_partner, codes_of}
use Rattle.run_states.proofs.Coding.{codes_next, row_more}
use Rattle.run_states.proofs.pairs.add_rank.Goals as goal

pub loop-start-preserved : goal.loop-start-preserved
loop-start-preserved c =
    let f : ℕ → Option Name = λ k. partner_of c.args.pairs.now (c.args.rank, k) in
    let start : ℕ = c.loop-start.start in
    let first : List ℤ = c.args.code.now.numbers.items in
    let codes : List ℤ = codes_of code_of_partner (map f (world start 0)) in
    row_more first c.loop-start.code.numbers.items c.add_partner.new.code.numbers.items codes (code_of_partner c.partner_of.result) c.loop-start.invariant c.in_ok-add_partner.ensures
    ∙ ap (λ l. first ++ l) (ap (λ (p : Option Name). codes ++ code_of_partner p) c.partner_of.ensures ∙ sym (codes_next code_of_partner f start))
