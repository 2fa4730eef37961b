use Rattle.std.proofs.Common.{◌≡◌, ◌∙◌, ◌++◌, ◌∷◌, [], ap₂, arith, subst, sym, List, ℕ}
use Rattle.run_model.specs.Lists.{world}
use Rattle.comms.proofs.CommsLemmas.{small_world}
use Rattle.comms.specs.Communicators.{HaveFewMembers}
use Rattle.comms.proofs.communicators.Comms.new.Goals as goal

pub invariant_of-result : goal.invariant_of-result
invariant_of-result c =
    let is : c.push.new.self.items ≡ world c.args.ranks 0 ∷ [] =
    c.in_ok-push.ensures.items ∙ ap₂ (λ (front : List (List ℕ)) (ranks : List ℕ). front ++ ranks ∷ []) c.new-members.ensures.items c.in_ok-all_ranks.ensures in
    subst HaveFewMembers (sym is) (small_world c.args.ranks (omega arith))
