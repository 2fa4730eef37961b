use Rattle.std.proofs.Common.{◌≡◌, ◌||◌, is_some, take}
use Rattle.msg_races.specs.declared.names.Name.{Name as NameSpec}
use Rattle.run_model.specs.Pairs.{partner_of}
use Rattle.wait_graph.specs.Partners.{is_paired_in}
use Rattle.wait_graph.proofs.partners.Partners.join_all.Given as goal

abbrev pub invariant-loop-one : goal.invariant-loop-one
invariant-loop-one l = (name : NameSpec)
    → is_paired_in l.self name ≡ (is_paired_in l.initial.self name || is_some (partner_of (take l.one-index l.pairs) (name.rank, name.start)))
