use Rattle.std.proofs.Common.{◌≡◌, ◌∙◌, ◌||◌, Bool, List, ap, false, is_some, refl, true}
use Rattle.run_model.specs.Pairs.{Name, partner_of}
use Rattle.wait_graph.specs.Partners.{is_paired_in}
use Rattle.wait_graph.proofs.RegisterLemmas.{joined_all, joined_more}
use Rattle.wait_graph.proofs.partners.Partners.join_all.Goals as goal

pub loop-one-init : goal.loop-one-init
loop-one-init c = λ name. or-nothing (is_paired_in c.args.self.now name)
  where
    or-nothing : (b : Bool) → b ≡ (b || false)
    or-nothing true = refl
    or-nothing false = refl

pub loop-one-preserved : goal.loop-one-preserved
loop-one-preserved c = λ name.
    joined_more c.args.pairs.now c.loop-one.one-index ((0, 0), (0, 0)) (is_paired_in c.args.self.now name) (is_paired_in c.loop-one.self name)
    (is_paired_in c.join.new.self name) c.named.result c.named-in-loop-one.result name c.loop-one-test.true c.named.ensures c.named-in-loop-one.ensures
    (c.loop-one.invariant name) (c.in_ok-join.ensures name)

pub returns : goal.returns
returns c = λ name.
    c.loop-one.invariant name
    ∙ ap (λ (l : List (Name × Name)). is_paired_in c.args.self.now name || is_some (partner_of l (name.rank, name.start)))
    (joined_all c.args.pairs.now c.loop-one.one-index c.loop-one-test.false)
