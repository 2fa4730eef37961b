use Rattle.std.proofs.Common.{◌≡◌, ◌++◌, ◌∷◌, [], List, Option, Some, ap, refl, subst, ◌∙◌}
use Rattle.run_model.specs.Pairs.{Name, mated, name_of_start, pairs_of}
use Rattle.causes.specs.PairTables.{AreOthers}
use Rattle.causes.proofs.PartnerLemmas.{partners_more}
use Rattle.causes.proofs.pair_table.PairTable.note.Goals as goal
use Rattle.causes.proofs.pair_table.PairTable.note.Goals.{then-is_start, else-is_start}

pub returns : goal.returns
returns c = λ before number are.
    let name : Option Name = c.if-is_start.name in
    let name_is : name ≡ name_of_start before (Some c.args.event.now) = elim c.if-is_start.branch [
      | then-is_start w ↦ rw (← w.if-is_start.ensures) (w.name-is ∙ ap (λ k. Some (c.args.event.now.rank, k)) number)
      | else-is_start w ↦ rw (← w.if-is_start.ensures) w.name-is
    ] in
    let names = c.in_ok-push.ensures.items ∙ ap (λ l. l.items ++ name ∷ []) (c.in_ok-add_pairs.ensures.names ∙ c.in_ok-add_mate.ensures.names) in
    let mate = c.in_ok-add_mate.ensures.others before c.args.event.now refl (ap (λ k. (c.args.event.now.rank, k)) number) are in
    let O : List (Name × Name) → Type 0 = λ l. AreOthers ((pairs_of before ++ mated before c.args.event.now) ++ l) c.add_pairs.new.self.others.entries in
    let others = subst O c.as_slice.ensures (c.in_ok-add_pairs.ensures.others (pairs_of before ++ mated before c.args.event.now) mate) in
    partners_more before c.args.event.now name c.args.self.now (record { names = c.push.new.self; others = c.add_pairs.new.self.others }) are name_is names others
