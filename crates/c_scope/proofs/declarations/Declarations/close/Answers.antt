use Rattle.std.proofs.Common.{ap, ◌-◌, ◌∙◌, reverse}
use Rattle.c_scope.specs.declared.declarations.Placed.TheVariants.{Named}
use Rattle.c_scope.proofs.Hiding.{closed_last, kept_back, kept_last, kept_there}
use Rattle.c_scope.proofs.declarations.Declarations.close.Goals as goal

pub put_back-requires : goal.put_back-requires
put_back-requires c =
    kept_there _ _ _ _ c.in-Named.name c.in-Named.entity c.in-Named.hidden
    (kept_last _ c.pop.new.self.items _ (Named c.in-Named.name c.in-Named.entity c.in-Named.hidden) _ _ _ c.in-Some.ensures.items c.in-Named.is c.loop-placed.invariant.kept)

pub loop-placed-preserved : goal.loop-placed-preserved
loop-placed-preserved c =
    record {
      entries = closed_last _ c.pop.new.self.items _ c.in-Named.name c.in-Named.entity c.in-Named.hidden c.in-Some.ensures.items c.in-Named.is ∙ c.loop-placed.invariant.entries;
      kept = kept_back (reverse c.pop.new.self.items) _ _ _ _ _ c.in-Named.name c.in-Named.entity c.in-Named.hidden
          (kept_last _ c.pop.new.self.items _ (Named c.in-Named.name c.in-Named.entity c.in-Named.hidden) _ _ _ c.in-Some.ensures.items c.in-Named.is c.loop-placed.invariant.kept)
          c.put_back.ensures (ap (λ one. c.loop-placed.self-inside.variables - one) c.is_variable.ensures);
    }
