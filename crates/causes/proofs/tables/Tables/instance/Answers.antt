use Rattle.std.proofs.Common.{◌≡◌, ℕ, List, ap, subst, sym, ◌∙◌}
use Rattle.std.specs.List.Sorted.{IsNonDecreasingBy}
use Rattle.mpi_call.specs.Lists.{count_below}
use Rattle.run_model.specs.Communicators.{is_enter_of}
use Rattle.causes.specs.Positions.{positions}
use Rattle.causes.specs.Tables.{positions_of_key}
use Rattle.causes.proofs.PositionLemmas.{count_below-positions, positions-sorted}
use Rattle.causes.proofs.tables.Tables.instance.Goals as goal

pub count_below-requires : goal.count_below-requires
count_below-requires c =
    let is : c.get.result.now ≡ positions (is_enter_of c.args.rank c.args.comm) 0 c.args.before.now = c.get.ensures ∙ ap (λ key. positions_of_key c.args.self.now.places key) c.enters_key.ensures ∙ c.requires.places.enters c.args.rank c.args.comm in
    let P : List ℕ → Type 0 = λ l. IsNonDecreasingBy (λ (n : ℕ). n) l in
    subst P (sym is) (positions-sorted (is_enter_of c.args.rank c.args.comm) c.args.before.now)

pub returns : goal.returns
returns c =
    let is : c.get.result.now ≡ positions (is_enter_of c.args.rank c.args.comm) 0 c.args.before.now = c.get.ensures ∙ ap (λ key. positions_of_key c.args.self.now.places key) c.enters_key.ensures ∙ c.requires.places.enters c.args.rank c.args.comm in
    c.count_below.ensures
    ∙ ap (λ l. count_below c.args.at l) is
    ∙ count_below-positions (is_enter_of c.args.rank c.args.comm) c.args.at c.args.before.now
