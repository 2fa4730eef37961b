use Rattle.std.proofs.Common.{◌≡◌, ◌≤◌, ◌∙◌, ◌∷◌, ◌++◌, ℕ, List, [], Bool, ap, arith, codes, length, refl, sym}
use Rattle.std.proofs.lemmas.Result.{on_ok_weaker}
use Rattle.picked_runs.specs.declared.turn.Turn.{Turn}
use Rattle.wiz_base.specs.Decimals.{decimal_text}
use Rattle.explore_text.specs.ExploreTexts.{verdict_text}
use Rattle.explore_text.proofs.text.push_verdict.Goals as goal

-- where states are left
left_told : (most polls : ℕ) (left : List (List Turn)) (polled : Bool) → 1 ≤ length left
    → verdict_text most polls left polled ≡ codes "incomplete most " ++ decimal_text most ++ codes "\n"
left_told most polls [] polled some = absurd (omega (arith, some))
left_told most polls (turns ∷ left) polled some = refl

pub returns-in-len1-up : goal.returns-in-len1-up
returns-in-len1-up c =
    on_ok_weaker c.push_number.result
    (λ told. told
    ∙ ap (λ (text : List ℕ). c.args.out.now ++ text)
    (sym (left_told c.args.bounds.most c.args.bounds.polls c.args.explored.now.left c.args.explored.now.polled (rw c.as_slice.ensures at c.in-len1-up.len_at_least))))
    c.push_number.ensures
