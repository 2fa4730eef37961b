use Rattle.std.proofs.Common.{◌≡◌, ◌∙◌, ℕ, List, ap, arith, length, slice_get, subst}
use Rattle.std.proofs.lemmas.Grind.{common_steps}
use Rattle.std.proofs.lemmas.Option.{gets}
use Rattle.causes.specs.Positions.{positions}
use Rattle.causes.proofs.PositionLemmas.{few-positions}
use Rattle.msg_races.specs.Ways.{goes_way}
use Rattle.run_drawing.specs.Basis.{Basis}
use Rattle.run_drawing.specs.inside.Scenes.{basis_of}
use Rattle.run_drawing.proofs.ChoiceLemmas.{SkipsTo, all_taken, first_is, past_set}
use Rattle.run_drawing.proofs.choices.Skipped.first_open.Goals as goal

pub skip-count-requires-clause-short : goal.skip-count-requires-clause-short
skip-count-requires-clause-short c =
    let same : c.get-sent.result.now ≡ positions (goes_way c.args.way.now) 0 c.args.scene.now.causes.events = c.get-sent.ensures ∙ c.requires.scene.sends.each c.args.way.now in
    let long = ap length same in
    let few = few-positions (goes_way c.args.way.now) 0 c.args.scene.now.causes.events in
    let short = c.requires.scene.short in
    omega (arith, long, few, short)

pub returns-clause-first : goal.returns-clause-first
returns-clause-first c =
    let basis : Basis = basis_of c.args.scene.now in
    let same : c.get-sent.result.now ≡ positions (goes_way c.args.way.now) 0 c.args.scene.now.causes.events = c.get-sent.ensures ∙ c.requires.scene.sends.each c.args.way.now in
    let copied : c.copied.result ≡ slice_get c.get-sent.result.now c.skip-count.result = grind (arith, common_steps, gets) in
    let S : List ℕ → Type 0 = λ l. SkipsTo basis c.args.post l c.get.result c.skip-count.result in
    let skips = subst S same (record { taken = c.skip-count.ensures.taken; first = c.skip-count.ensures.first }) in
    copied
    ∙ ap (λ (l : List ℕ). slice_get l c.skip-count.result) same
    ∙ first_is basis c.args.post c.args.self.now c.args.way.now c.get.result c.skip-count.result c.requires.past c.get.ensures skips

pub returns-clause-past : goal.returns-clause-past
returns-clause-past c =
    let basis : Basis = basis_of c.args.scene.now in
    let same : c.get-sent.result.now ≡ positions (goes_way c.args.way.now) 0 c.args.scene.now.causes.events = c.get-sent.ensures ∙ c.requires.scene.sends.each c.args.way.now in
    let S : List ℕ → Type 0 = λ l. SkipsTo basis c.args.post l c.get.result c.skip-count.result in
    let skips = subst S same (record { taken = c.skip-count.ensures.taken; first = c.skip-count.ensures.first }) in
    past_set basis c.args.post c.args.self.now c.set.new.self c.args.way.now c.skip-count.result c.requires.past c.in_ok-set.ensures
    (all_taken basis c.args.post c.args.self.now c.args.way.now c.get.result c.skip-count.result c.requires.past c.get.ensures skips)
