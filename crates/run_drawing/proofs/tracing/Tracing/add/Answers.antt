use Rattle.std.proofs.Common.{◌∙◌, ◌++◌, List, ℕ, ap, arith, length, length-take-le, refl, rules, sym, take}
use Rattle.std.proofs.lemmas.Option.{slice_get_read}
use Rattle.std.proofs.lemmas.Result.{on_ok_weaker}
use Rattle.causes.specs.Steps.{rests_on}
use Rattle.run_model.specs.declared.event.Event.{Event}
use Rattle.run_drawing.specs.Links.{deeper, deepest, depth_after, last_position, links_by}
use Rattle.run_drawing.proofs.TracedLemmas.{few_depths, traced_next}
use Rattle.run_drawing.proofs.tracing.Tracing.add.Goals as goal

pub depth_of-depth-requires-clause-few : goal.depth_of-depth-requires-clause-few
depth_of-depth-requires-clause-few c = λ p.
    let there = c.requires.there in
    few_depths c.args.self.now.tables.ranks c.args.events.now c.args.at c.args.self.now c.as_slice-2.result.now p c.requires.traced (omega (arith, there)) c.requires.short c.as_slice-2.ensures.value

pub returns : goal.returns
returns c =
    let there = c.requires.there in
    let e : Event = c.index-events-at.result in
    let long = length-take-le c.args.at c.args.events.now (omega (arith, there)) in
    on_ok_weaker c.note.result
    (λ told. traced_next c.args.self.now.tables.ranks c.args.events.now c.args.at c.index-events-at.result c.args.self.now _ c.requires.traced (record {
      depth = c.depth_of-depth.result;
      cause = c.in_ok-cause.cause;
      there = slice_get_read c.args.events.now (length c.args.events.now) c.args.at c.index-events-at.result refl there c.index-events-at.is;
      tables = told (take c.args.at c.args.events.now) (sym long) c.requires.traced.tables;
      ranks = c.note.ensures.ranks;
      depths_new = search rules;
      depth_is = c.depth_of-depth.ensures ∙ ap (λ (l : List ℕ). depth_after l (deeper l (last_position (take c.args.at c.args.events.now) c.index-events-at.result.rank) c.in_ok-cause.cause)) c.as_slice-2.ensures.value;
      causes = search rules;
      cause_is = c.in_ok-cause.ensures ∙ ap (λ (l : List ℕ). deepest l (rests_on c.args.self.now.tables.ranks (take c.args.at c.args.events.now) e.rank e.call e.reply)) c.as_slice.ensures.value;
      indexed = c.in_ok-add_event.ensures.indexed;
      links = c.in_ok-add_event.ensures.list ∙ ap (λ (l : List ℕ). c.args.self.now.links.list.items ++ links_by c.args.self.now.tables.ranks l (take c.args.at c.args.events.now) e.rank e.call e.reply) c.as_slice-3.ensures.value;
    }))
    c.note.ensures.tables
