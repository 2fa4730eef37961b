use Rattle.std.proofs.Common.{◌≡◌, ℕ, sym, subst, ◌∙◌}
use Rattle.run_model.specs.Communicators.{members_for_rank}
use Rattle.run_model.specs.Lists.{world}
use Rattle.run_model.specs.Views.{view_of}
use Rattle.causes.proofs.TableLemmas.{members-world}
use Rattle.causes.proofs.tables.Tables.members.Goals as goal

pub returns-then-comm-eq0 : goal.returns-then-comm-eq0
returns-then-comm-eq0 c = λ before tables.
    let P : ℕ → Type 0 = λ comm. world c.args.self.now.ranks 0 ≡ members_for_rank c.args.self.now.ranks (view_of before c.args.rank) comm in
    tables.world_is ∙ subst P (sym c.if-comm-eq0.true) (members-world c.args.self.now.ranks (view_of before c.args.rank))
