use Rattle.run_model.specs.Views.{view_of}
use Rattle.explanation_text.specs.WaitsTexts.{taken_text_from}
use Rattle.explanation_text.proofs.WaitsLemmas.{all_texts, texts_more}
use Rattle.explanation_text.proofs.waits.push_all_taken.Goals as goal

pub loop-rest-preserved : goal.loop-rest-preserved
loop-rest-preserved c = λ n events is.
    texts_more (taken_text_from (view_of events c.args.me) c.args.me c.args.comm c.args.source.now c.args.tag.now) c.loop-rest.out c.push_taken_from.new.out _ c.loop-rest.rest.now
    (c.loop-rest.invariant n events is) c.in-len1-up.len_at_least (c.in_ok-push_taken_from.ensures n events is)

pub returns : goal.returns
returns c = λ n events is.
    all_texts (taken_text_from (view_of events c.args.me) c.args.me c.args.comm c.args.source.now c.args.tag.now) c.loop-rest.out _ c.loop-rest.rest.now c.in_default.len_below (c.loop-rest.invariant n events is)
