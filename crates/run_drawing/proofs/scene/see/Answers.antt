use Rattle.std.proofs.Common.{◌∙◌, List, ap, arith, length, refl, ℕ}
use Rattle.run_drawing.specs.Columns.{behind_all}
use Rattle.run_drawing.proofs.SceneLemmas.{scene_is}
use Rattle.run_drawing.proofs.TracedLemmas.{few_depths}
use Rattle.run_drawing.proofs.scene.see.Goals as goal

pub behind_all-behind-requires : goal.behind_all-behind-requires
behind_all-behind-requires c = record {
  few = λ p. few_depths c.args.n c.args.events.now (length c.args.events.now) c.in_ok-depths.field-0 c.as_slice.result.now p c.in_ok-depths.ensures (omega arith) c.requires.short c.as_slice.ensures.value;
}

pub returns-clause-scene : goal.returns-clause-scene
returns-clause-scene c = scene_is c.args.n c.args.events.now c.in_ok-depths.field-0 _ (record {
  short = c.requires.short;
  traced = c.in_ok-depths.ensures;
  ranks = c.in_ok-causes.ensures.ranks;
  events_are = c.in_ok-causes.ensures.events;
  depths = refl;
  late = refl;
  links = refl;
  sends = c.in_ok-sends.ensures;
  behind = c.behind_all-behind.ensures ∙ ap (λ (l : List ℕ). behind_all c.args.events.now l) c.as_slice.ensures.value;
})
