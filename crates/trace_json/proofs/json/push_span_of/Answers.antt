use Rattle.std.proofs.Common.{◌≡◌, ◌++◌, ◌∙◌, ℕ, List, ap}
use Rattle.std.specs.Prelude.{codes}
use Rattle.trace_json.specs.JsonTexts.{args_text, event_name_text, place_text}
use Rattle.trace_json.proofs.SpanLemmas.{five_texts}
use Rattle.trace_json.proofs.json.push_span_of.Goals as goal

pub returns : goal.returns
returns c =
    let o : List ℕ = c.args.out.now in
    let a : List ℕ = codes ",\n{\"name\":\"" in
    let n : List ℕ = event_name_text c.args.call.now c.args.reply.now in
    let b : List ℕ = codes "\",\"ph\":\"X\",\"dur\":1," in
    let p : List ℕ = place_text c.args.groups.now c.args.mark.now.rank c.args.mark.now.column in
    let g : List ℕ = args_text c.args.mark.now.number c.args.call.now c.args.reply.now in
    let first : c.push_text.new.out ≡ o ++ a = c.in_ok-push_text.ensures.ok in
    let second : c.push_name.new.out ≡ (o ++ a) ++ n = c.in_ok-push_name.ensures ∙ ap (λ (l : List ℕ). l ++ n) first in
    let third : c.push_text-2.new.out ≡ ((o ++ a) ++ n) ++ b = c.in_ok-push_text-2.ensures.ok ∙ ap (λ (l : List ℕ). l ++ b) second in
    let fourth : c.push_place.new.out ≡ (((o ++ a) ++ n) ++ b) ++ p = c.in_ok-push_place.ensures ∙ ap (λ (l : List ℕ). l ++ p) third in
    c.in_ok-push_args.ensures ∙ ap (λ (l : List ℕ). l ++ g) fourth ∙ five_texts o a n b p g
