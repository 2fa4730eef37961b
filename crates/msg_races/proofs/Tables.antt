-- The tables after one more event.
use Rattle.std.proofs.Common.{◌≡◌, ◌+◌, ◌++◌, ◌∷◌, [], ℕ, List, Option, None, ap, arith, if◌then◌else◌, length, sym, ◌∙◌}
use Rattle.std.specs.Map.{lookup}
use Rattle.run_model.specs.declared.event.Event.{Event}
use Rattle.causes.proofs.PositionLemmas.{positions-push}
use Rattle.msg_races.specs.declared.completions.ReceiveCompletion.{ReceiveCompletion}
use Rattle.msg_races.specs.declared.names.Name.{Name}
use Rattle.msg_races.specs.declared.sends.Way.{Way}
use Rattle.msg_races.specs.inside.Completions.{AreCompletions, after_events, completion_after_reply, completion_of}
use Rattle.msg_races.specs.Names.{same_start}
use Rattle.msg_races.specs.Ways.{AreSends, goes_way, sent_at}

after_both : (name : Name) (at : ℕ) (xs ys : List Event) (known : Option ReceiveCompletion)
    → after_events name at (xs ++ ys) known ≡ after_events name (at + length xs) ys (after_events name at xs known)
after_both name at [] ys known = ap (λ k. after_events name k ys known) (omega arith)
after_both name at (x ∷ xs) ys known =
    let one : Option ReceiveCompletion = completion_after_reply name at x.rank x.call x.reply known in
    let from : at + 1 + length xs ≡ at + length (x ∷ xs) = omega arith in
    after_both name (at + 1) xs ys one ∙ ap (λ k. after_events name k ys (after_events name (at + 1) xs one)) from

completion_push : (name : Name) (xs : List Event) (x : Event)
    → completion_of (xs ++ x ∷ []) name ≡ completion_after_reply name (length xs) x.rank x.call x.reply (completion_of xs name)
completion_push name xs x =
    let from : 0 + length xs ≡ length xs = omega arith in
    after_both name 0 xs (x ∷ []) None ∙ ap (λ k. completion_after_reply name k x.rank x.call x.reply (completion_of xs name)) from

pub completions_more : (events : List Event) (event : Event) (old new : List (Name × ReceiveCompletion)) → AreCompletions events old
    → ((name : Name) → lookup (same_start name) new ≡ completion_after_reply name (length events) event.rank event.call event.reply (lookup (same_start name) old))
    → AreCompletions (events ++ event ∷ []) new
completions_more events event old new are adds = record {
  each = λ name.
      adds name
      ∙ ap (completion_after_reply name (length events) event.rank event.call event.reply) (are.each name)
      ∙ sym (completion_push name events event);
}

pub sends_more : (events : List Event) (event : Event) (old new : List (Way × List ℕ)) → AreSends events old
    → ((way : Way) → sent_at new way ≡ (if goes_way way event then sent_at old way ++ length events ∷ [] else sent_at old way))
    → AreSends (events ++ event ∷ []) new
sends_more events event old new are adds = record {
  each = λ way.
      let L : List ℕ → List ℕ = λ l. if goes_way way event then l ++ length events ∷ [] else l in
      adds way ∙ ap L (are.each way) ∙ sym (positions-push (goes_way way) events event);
}
