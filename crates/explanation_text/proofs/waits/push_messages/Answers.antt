use Rattle.std.proofs.Common.{ap, flat_map}
use Rattle.std.proofs.lemmas.Result.{on_ok_weaker}
use Rattle.run_model.specs.Views.{view_of}
use Rattle.explanation_text.specs.WaitsTexts.{open_text, taken_texts}
use Rattle.explanation_text.proofs.WaitsLemmas.{both_told}
use Rattle.explanation_text.proofs.waits.push_messages.Goals as goal

pub returns : goal.returns
returns c =
    on_ok_weaker c.push_opens.result
    (λ grown n events is all.
    let taken = taken_texts (view_of events c.args.me) c.args.me c.args.comm c.args.source.now c.args.tag.now in
    both_told c.args.out.now c.push_all_taken.new.out c.push_opens.new.out (taken c.args.ranks.now) _
    (flat_map (open_text c.args.comm c.args.source.now c.args.tag.now) c.args.opens.now)
    (c.in_ok-push_all_taken.ensures n events is) (ap taken all) grown)
    c.push_opens.ensures
