-- A run that goes on from one of two histories that leave the same has its like, which goes on from the other.
use Rattle.std.proofs.Common.{◌≡◌, ◌∙◌, ◌++◌, ◌∷◌, ℕ, List, [], Option, append-nil, append_assoc, inl, inr, is_some, length, refl, ap, sym, subst}
use Rattle.mpi_call.specs.declared.call.Call.{Call}
use Rattle.run_model.specs.declared.event.Event.{Event}
use Rattle.run_model.specs.Chosen.{order_of}
use Rattle.run_model.specs.Lists.{Along}
use Rattle.run_model.specs.Pairs.{AreAllMatched, IsAllMatched, Name, PostAccepts, named, pairs_of, partner_of}
use Rattle.run_model.specs.Run.{IsPromptEvent, IsPromptRun}
use Rattle.run_model.specs.Views.{Next, View, start_at}
use Rattle.run_model.proofs.Along.{Along-back, Along-snoc}
use Rattle.run_model.proofs.Prompt.{IsPromptRun-front}
use Rattle.run_model.proofs.RunLaws.{Lawful}
use Rattle.picked_runs.specs.declared.turn.Pick.{Pick}
use Rattle.picked_runs.specs.Made.{pick_of, picks_of}
use Rattle.picked_runs.specs.Numbering.{AreNumberedInOrder, IsNumberedInOrder}
use Rattle.picked_runs.specs.Picks.{picked_event}
use Rattle.picked_runs.specs.Picked.{IsPicked, IsPickedEvent, picks_and}
use Rattle.picked_runs.proofs.GoingOn.{picks_go_on}
use Rattle.picked_runs.proofs.Making.{event_picked, every_run_is_picked}
use Rattle.picked_runs.proofs.Numbering.{picks_number_in_order}
use Rattle.srr_entry.specs.Outputs.{Output}
use Rattle.run_states.specs.Futures.{SameEvent, SameFuture}
use Rattle.run_states.specs.Outcomes.{IsProbeKept}
use Rattle.run_states.specs.StateLaws.{FuturesAreSame}
use Rattle.run_states.proofs.HaltsSeen.{halts_same}
use Rattle.run_states.proofs.Alike.{Alike, alike}
use Rattle.run_states.proofs.Offers.{offered_same}
use Rattle.run_states.proofs.Events.{events_same}
use Rattle.run_states.proofs.Growing.{futures_grow}
use Rattle.run_states.proofs.RunPicks.{settled_of}
use Rattle.run_states.proofs.RunFacts.{all_below, run_matched}
use Rattle.run_states.proofs.Going.{allowed_goes}
use Rattle.run_states.proofs.Moving.{asks_same, goes_or_stuck_same}
use Rattle.run_states.proofs.Telling.{probes_alike}
use Rattle.run_states.proofs.OutcomesMet.{outcome_same}

-- 1. pairs meet their conditions in one as in the other

takes_same : (N M : Name → Option Call) → ((name : Name) → N name ≡ M name) → (post send : Name) → PostAccepts N post send → PostAccepts M post send
takes_same N M names post send takes =
    record {
      post_call = takes.post_call;
      send_call = takes.send_call;
      post_is = sym (names post) ∙ takes.post_is;
      send_is = sym (names send) ∙ takes.send_is;
      accepted = takes.accepted;
    }

conditions_same : (N M : Name → Option Call) (P Q : List (Name × Name)) → ((name : Name) → N name ≡ M name)
    → ((name : Name) → partner_of P name ≡ partner_of Q name) → AreAllMatched N P → AreAllMatched M Q
conditions_same N M P Q names pairs matched =
    let back : (name : Name) → M name ≡ N name = λ name. sym (names name) in
    record {
      matched = record {
        pairs_accept = λ a b h. elim (matched.matched.pairs_accept a b (pairs a ∙ h)) [
          | inl takes ↦ inl (takes_same N M names a b takes)
          | inr takes ↦ inr (takes_same N M names b a takes)
        ];
        one_partner = λ a b h. sym (pairs b) ∙ matched.matched.one_partner a b (pairs a ∙ h);
        no_overtaking = λ post send h start less takes. ap is_some (sym (pairs (send.0, start)))
            ∙ matched.matched.no_overtaking post send (pairs post ∙ h) start less (takes_same M N back post (send.0, start) takes);
        earliest_receive = λ post send h start less takes. ap is_some (sym (pairs (post.0, start)))
            ∙ matched.matched.earliest_receive post send (pairs post ∙ h) start less (takes_same M N back (post.0, start) send takes);
      };
      nothing_waits = λ post send takes p q. matched.nothing_waits post send (takes_same M N back post send takes) (pairs post ∙ p) (pairs send ∙ q);
    }

matched_same : (n : ℕ) (one other : List Event) → SameFuture n one other → IsAllMatched one → IsAllMatched other
matched_same n one other same matched =
    conditions_same (named one) (named other) (pairs_of one) (pairs_of other) (λ name. ap (λ (v : View). start_at v name.1) (same.views name.0)) same.pairs matched

-- 2. one more event

record HasLikeEvent (next : Next) (n : ℕ) (one other : List Event) (event : Event) : Type 0 where
  like : Event
  run : IsPromptRun next n (other ++ like ∷ [])
  numbered : AreNumberedInOrder n (other ++ like ∷ [])
  same : SameEvent one other event like
  future : SameFuture n (one ++ event ∷ []) (other ++ like ∷ [])

like_event : (next : Next) (n : ℕ) → Lawful next → (one other : List Event) (event : Event) → IsPromptRun next n one → IsPromptRun next n other → AreNumberedInOrder n other
    → SameFuture n one other → IsPromptEvent next n one event → IsNumberedInOrder n one event → HasLikeEvent next n one other event
like_event next n lawful one other event first second numbered same step ordered =
    let rank : ℕ = event.rank in
    let call : Call = event.call in
    let pick : Pick = pick_of n one event in
    let a : Alike n one other = alike n one other same (halts_same next n one other first second same.views) in
    let picked : IsPickedEvent n one event pick = event_picked next n one event (run_matched next n one first) (all_below next n one first) step ordered in
    let like : Event = picked_event n other rank call pick in
    let events : SameEvent one other (picked_event n one rank call pick) like = events_same n one other same a rank call pick picked.offered (settled_of n one event picked.event_is) in
    let F : Event → Type 0 = λ e. SameEvent one other e like in
    let event_same : SameEvent one other event like = subst F (sym picked.event_is) events in
    let future : SameFuture n (one ++ event ∷ []) (other ++ like ∷ []) = futures_grow n one other event like same event_same in
    let picks : List Pick = picks_of n other in
    let more : IsPicked next n (picks_and picks (length other) pick) (other ++ like ∷ []) =
    (picks_go_on next n lawful picks other rank call pick (every_run_is_picked next n other second numbered) step.rank
    (sym (asks_same next n one other rank same) ∙ step.call)
    (sym (offered_same n one other same a rank call pick) ∙ picked.offered)
    (goes_or_stuck_same next n one other rank call same a (allowed_goes next n one rank call event.reply step.reply))
    (matched_same n (one ++ event ∷ []) (other ++ like ∷ []) future step.matched)).more in
    record {
      like = like;
      run = more.run;
      numbered = picks_number_in_order next n (picks_and picks (length other) pick) (other ++ like ∷ []) more;
      same = event_same;
      future = future;
    }

-- 3. all of them

record IsLike (next : Next) (n : ℕ) (one other more rest : List Event) : Type 0 where
  run : IsPromptRun next n (other ++ rest)
  numbered : AreNumberedInOrder n (other ++ rest)
  order : order_of rest ≡ order_of more
  future : SameFuture n (one ++ more) (other ++ rest)
  probes : Along IsProbeKept one more → Along IsProbeKept other rest

like_run : (next : Next) (n : ℕ) → Lawful next → (one other more : List Event) → IsPromptRun next n one → IsPromptRun next n other → AreNumberedInOrder n other
    → SameFuture n one other → Along (IsPromptEvent next n) one more → Along (IsNumberedInOrder n) one more
    → (rest : List Event) × IsLike next n one other more rest
like_run next n lawful one other [] first second numbered same steps ordered =
    let R : List Event → Type 0 = λ l. IsPromptRun next n l in
    let N : List Event → Type 0 = λ l. AreNumberedInOrder n l in
    let F : List Event → Type 0 = λ l. SameFuture n l other in
    let G : List Event → Type 0 = λ l. SameFuture n (one ++ []) l in
    let end : other ≡ other ++ [] = sym (append-nil other) in (
      [],
      record {
        run = subst R end second;
        numbered = subst N end numbered;
        order = refl;
        future = subst G end (subst F (sym (append-nil one)) same);
        probes = λ kept. tt;
      },
    )
like_run next n lawful one other (event ∷ more) first second numbered same steps ordered =
    let e = like_event next n lawful one other event first second numbered same steps.0 ordered.0 in
    let longer : IsPromptRun next n (one ++ event ∷ []) = record { some = first.some; few = first.few; along = Along-snoc (IsPromptEvent next n) [] one event first.along steps.0 } in
    let tail = like_run next n lawful (one ++ event ∷ []) (other ++ e.like ∷ []) more longer e.run e.numbered e.future steps.1 ordered.1 in
    let rest : List Event = tail.0 in
    let t : IsLike next n (one ++ event ∷ []) (other ++ e.like ∷ []) more rest = tail.1 in
    let whole : (other ++ e.like ∷ []) ++ rest ≡ other ++ e.like ∷ rest = append_assoc other (e.like ∷ []) rest in
    let R : List Event → Type 0 = λ l. IsPromptRun next n l in
    let N : List Event → Type 0 = λ l. AreNumberedInOrder n l in
    let F : List Event → Type 0 = λ l. SameFuture n l ((other ++ e.like ∷ []) ++ rest) in
    let G : List Event → Type 0 = λ l. SameFuture n (one ++ event ∷ more) l in (
      e.like ∷ rest,
      record {
        run = subst R whole t.run;
        numbered = subst N whole t.numbered;
        order = ap (λ r. r ∷ order_of rest) (sym e.same.rank) ∙ ap (λ l. event.rank ∷ l) t.order;
        future = subst G whole (subst F (append_assoc one (event ∷ []) more) t.future);
        probes = λ kept. (probes_alike n one other event e.like same e.same kept.0, t.probes kept.1);
      },
    )

pub futures_are_same : (next : Next) (output : Output) (n : ℕ) → Lawful next → FuturesAreSame next output n
futures_are_same next output n lawful one other more is ordered second numbered same =
    let found = like_run next n lawful one other more (IsPromptRun-front next n one more is) second numbered same (Along-back (IsPromptEvent next n) [] one more is.along)
    (Along-back (IsNumberedInOrder n) [] one more ordered) in
    let rest : List Event = found.0 in
    let like : IsLike next n one other more rest = found.1 in
    record {
      rest = rest;
      run = like.run;
      numbered = like.numbered;
      order = like.order;
      future = like.future;
      outcome = outcome_same output n (one ++ more) (other ++ rest) (halts_same next n (one ++ more) (other ++ rest) is like.run like.future.views) like.future.views;
      probes = like.probes;
    }
