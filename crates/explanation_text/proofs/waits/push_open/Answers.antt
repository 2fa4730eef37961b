use Rattle.std.proofs.Common.{◌∙◌, ◌==◌, ◌++◌, List, ℕ, Bool, ap, codes, flat_map}
use Rattle.std.proofs.lemmas.Result.{on_ok_weaker}
use Rattle.mpi_call.specs.Acceptance.{source_agrees}
use Rattle.srr_log.specs.EntryText.{name_text}
use Rattle.wait_graph.specs.declared.difference.Difference.TheVariants.{Comm as ByComm, Source as BySource, Tag as ByTag}
use Rattle.wait_graph.specs.Opens.{difference_unless}
use Rattle.wiz_base.specs.Decimals.{decimal_text}
use Rattle.explanation_text.specs.WaitsTexts.{difference_text}
use Rattle.explanation_text.proofs.WaitsLemmas.{seven_told}
use Rattle.explanation_text.proofs.waits.push_open.Goals as goal

pub returns : goal.returns
returns c =
    let found = c.args.found.now in
    let words : Bool → Bool → List ℕ = λ source tag.
    flat_map difference_text (difference_unless (found.comm == c.args.comm) ByComm ++ (difference_unless source BySource ++ difference_unless tag ByTag)) in
    let told = c.in_ok-push_differences.ensures
    ∙ ap (λ s. c.push_text-3.new.out ++ words s c.is_tag_of.result) c.is_source_of.ensures
    ∙ ap (λ t. c.push_text-3.new.out ++ words (source_agrees c.args.source.now found.name.rank) t) c.is_tag_of.ensures in
    on_ok_weaker c.push_text-4.result
    (λ grown.
    seven_told c.args.out.now _ _ _ _ _ _ _ (codes "open ") (name_text found.name.rank found.name.start) (codes " tag=") (decimal_text found.tag) (codes " differs in") _ (codes "\n")
    c.in_ok-push_text.ensures.ok c.in_ok-push_name.ensures c.in_ok-push_text-2.ensures.ok c.in_ok-push_decimal.ensures.ok c.in_ok-push_text-3.ensures.ok told grown)
    c.push_text-4.ensures.ok
