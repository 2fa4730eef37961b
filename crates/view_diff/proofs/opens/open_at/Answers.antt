use Rattle.std.proofs.Common.{◌≡◌, ◌∙◌, ℕ, IfOk, List, ap, false, length, map, replicate, subst, sym, take}
use Rattle.std.proofs.lemmas.List.{length-map, take-map}
use Rattle.mpi_call.specs.declared.call.Call.{Call}
use Rattle.run_model.specs.Views.{View, starts_of, taken_of}
use Rattle.view_diff.specs.inside.Marking.{unmarked_from, with_taken_marks}
use Rattle.view_diff.specs.Opens.{open_receives_before, open_receives_from}
use Rattle.view_diff.proofs.Bared.{seen_in}
use Rattle.view_diff.proofs.OpenLemmas.{open_is}
use Rattle.view_diff.proofs.opens.open_at.Goals as goal

pub returns : goal.returns
returns c =
    let own : View = seen_in c.args.own.now in
    let before : View = seen_in c.up_to-before.result.now in
    let all : List Call = map (λ call. call.now) c.deref.result.now in
    let calls : all ≡ starts_of before = ap (λ l. map (λ call. call.now) l) c.deref.ensures.value ∙ c.in_ok-starts.ensures in
    let count : length c.deref.result.now ≡ length (starts_of before) = sym (length-map c.deref.result.now (λ call. call.now)) ∙ ap length calls in
    let first : before ≡ take c.args.number own =
    ap seen_in c.up_to-before.ensures ∙ sym (take-map (λ event. (event.now.call, event.now.reply)) c.args.number c.args.own.now) in
    let value : unmarked_from 0 all (with_taken_marks (replicate (length c.deref.result.now) false) before) ≡ open_receives_before own c.args.number =
    ap (λ starts. unmarked_from 0 starts (with_taken_marks (replicate (length c.deref.result.now) false) before)) calls
    ∙ ap (λ n. unmarked_from 0 (starts_of before) (with_taken_marks (replicate n false) before)) count
    ∙ open_is before
    ∙ ap (λ (view : View). open_receives_from 0 (taken_of view) (starts_of view)) first in
    let F : List (ℕ × Call) → Type 0 = λ open_ones. IfOk c.open_among.result (λ found. map (λ start. (start.number, start.call.now)) found.items ≡ open_ones) in
    subst F value c.open_among.ensures
