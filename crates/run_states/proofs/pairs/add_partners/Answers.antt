use Rattle.std.proofs.Common.{◌≡◌, ◌∙◌, ◌++◌, ◌∷◌, ℕ, ℤ, pos, List, Option, ap, arith, map, sym}
use Rattle.run_model.specs.Lists.{world}
use Rattle.run_model.specs.Pairs.{Name, partner_of}
use Rattle.run_states.specs.Codes.{code_of_list, code_of_partner, codes_of}
use Rattle.run_states.specs.Keys.{partners_in}
use Rattle.run_states.proofs.Coding.{codes_next, list_made, rank_row, row_more, row_two}
use Rattle.run_states.proofs.pairs.add_partners.Goals as goal

pub loop-rank-preserved : goal.loop-rank-preserved
loop-rank-preserved c =
    let f : ℕ → List (Option Name) = partners_in c.args.events.now in
    let code : List (Option Name) → List ℤ = code_of_list code_of_partner in
    let rank : ℕ = c.loop-rank.rank in
    let count : ℕ = c.starts_in-count.result in
    let first : List ℤ = c.push.new.self.numbers.items in
    let here : List ℤ = c.loop-rank.code.numbers.items in
    let after : List ℤ = c.add_rank.new.code.numbers.items in
    let codes : List ℤ = codes_of code (map f (world rank 0)) in
    let partners : List ℤ = codes_of code_of_partner (map (λ k. partner_of c.args.pairs.now (rank, k)) (world count 0)) in
    let grown : after ≡ here ++ pos count ∷ partners = row_two here c.push_len.new.self.numbers.items after partners (pos count) c.in_ok-push_len.ensures c.in_ok-add_rank.ensures in
    let same : after ≡ here ++ code (f rank) = grown ∙ ap (λ l. here ++ l) (rank_row c.args.pairs.now c.args.events.now rank count c.requires c.starts_in-count.ensures) in
    row_more first here after codes (code (f rank)) c.loop-rank.invariant same ∙ ap (λ l. first ++ l) (sym (codes_next code f rank))

pub returns : goal.returns
returns c =
    let f : ℕ → List (Option Name) = partners_in c.args.events.now in
    let code : List (Option Name) → List ℤ = code_of_list code_of_partner in
    let first : List ℤ = c.args.code.now.numbers.items in
    let all : c.loop-rank.rank ≡ c.args.n = omega (arith, c.loop-rank.auto.rank-end, c.loop-rank-test.false) in
    let last : List ℤ = codes_of code (map f (world c.args.n 0)) in
    let whole : c.loop-rank.code.numbers.items ≡ c.push.new.self.numbers.items ++ last = c.loop-rank.invariant ∙ ap (λ r. c.push.new.self.numbers.items ++ codes_of code (map f (world r 0))) all in
    row_two first c.push.new.self.numbers.items c.loop-rank.code.numbers.items last (pos c.args.n) c.in_ok-push.ensures whole ∙ ap (λ l. first ++ l) (list_made code f c.args.n)
