use Rattle.std.proofs.Common.{Bor, ◌≡◌, ◌++◌, ◌∙◌, ℕ, List, None, Option, Some, ap, append-nil, length, refl, slice_get, sym}
use Rattle.std.proofs.lemmas.Bool.{ltb-true}
use Rattle.std.proofs.lemmas.Option.{slice_get_read}
use Rattle.std.proofs.lemmas.Result.{on_ok_weaker}
use Rattle.mpi_call.specs.declared.call.Call.{Call}
use Rattle.mpi_call.specs.declared.reply.Reply.{Reply}
use Rattle.run_model.specs.declared.event.Event.{Event}
use Rattle.run_model.specs.Views.{view_of}
use Rattle.trace_json.specs.JsonTexts.{span_in}
use Rattle.trace_json.proofs.SpanLemmas.{at_map, none_map}
use Rattle.trace_json.proofs.json.push_span.Goals as goal

pub returns-in-Some : goal.returns-in-Some
returns-in-Some c =
    let there = c.in-Some.ensures.lookup in
    let k : ℕ = c.args.mark.now.number in
    let at : slice_get c.get.result.now k ≡ Some c.in-Some.event.now =
    slice_get_read c.get.result.now (length c.get.result.now) k c.in-Some.event.now refl (ltb-true k (length c.get.result.now) (sym there.0)) there.1 in
    let f : Bor Event → Call × Reply = λ event. (event.now.call, event.now.reply) in
    let seen : slice_get (view_of c.args.by_rank.now c.args.mark.now.rank) k ≡ Some (f c.in-Some.event.now) =
    ap (λ (l : List (Call × Reply)). slice_get l k) (sym c.get.ensures) ∙ at_map f c.get.result.now k c.in-Some.event.now at in
    on_ok_weaker c.push_span_of.result
    (λ told. told ∙ ap (λ (o : Option (Call × Reply)). c.args.out.now ++ span_in c.args.groups.now c.args.mark.now o) (sym seen))
    c.push_span_of.ensures

pub returns-in-None : goal.returns-in-None
returns-in-None c =
    let there = c.in-None.ensures.lookup in
    let k : ℕ = c.args.mark.now.number in
    let f : Bor Event → Call × Reply = λ event. (event.now.call, event.now.reply) in
    let none : slice_get (view_of c.args.by_rank.now c.args.mark.now.rank) k ≡ None =
    ap (λ (l : List (Call × Reply)). slice_get l k) (sym c.get.ensures) ∙ none_map f c.get.result.now k there.3 in
    sym (append-nil c.args.out.now) ∙ ap (λ (o : Option (Call × Reply)). c.args.out.now ++ span_in c.args.groups.now c.args.mark.now o) (sym none)
