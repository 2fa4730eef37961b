-- After histories that leave the same, the same starts can meet, and then they leave the same.
use Rattle.std.proofs.Common.{◌≡◌, ◌<◌, ◌∙◌, ℕ, List, [], ◌∷◌, ◌++◌, Option, None, Some, is_some, true, inl, inr, append_assoc, refl, ap, sym}
use Rattle.std.proofs.Math.Path.{fun_ext}
use Rattle.mpi_call.specs.declared.call.Call.{Call}
use Rattle.run_model.specs.declared.event.Event.{Event}
use Rattle.run_model.specs.Numbers.{Origin, communicators_of, made_at}
use Rattle.run_model.specs.Pairs.{AreMatched, Name, PostAccepts, mated, named, pairs_of, partner_of}
use Rattle.run_model.specs.Views.{View, start_at, view_of}
use Rattle.run_model.proofs.Meeting.{pairs_of-push}
use Rattle.run_model.proofs.Views.{view_of-append}
use Rattle.run_states.specs.Futures.{SameFuture}
use Rattle.run_model.proofs.Numbered.{communicators_of-push}
use Rattle.run_states.proofs.Growing.{first_of, made_by, partner_more}

-- an event after which this pair meets too, last
abbrev pub then_meets : Event → Name × Name → Event
then_meets event pair = record { rank = event.rank; call = event.call; reply = event.reply; mate = event.mate; met = event.met ++ pair ∷ [] }

views_met : (front : List Event) (event : Event) (pair : Name × Name) (rank : ℕ)
    → view_of (front ++ event ∷ []) rank ≡ view_of (front ++ then_meets event pair ∷ []) rank
views_met front event pair rank = view_of-append front (event ∷ []) rank ∙ sym (view_of-append front (then_meets event pair ∷ []) rank)

pairs_met : (front : List Event) (event : Event) (pair : Name × Name)
    → pairs_of (front ++ then_meets event pair ∷ []) ≡ pairs_of (front ++ event ∷ []) ++ pair ∷ []
pairs_met front event pair =
    let P : List (Name × Name) = pairs_of front in
    let Q : List (Name × Name) = mated front event in
    let R : List (Name × Name) = pair ∷ [] in
    pairs_of-push front (then_meets event pair)
    ∙ (ap (λ l. P ++ l) (sym (append_assoc Q event.met R))
    ∙ (sym (append_assoc P (Q ++ event.met) R)
    ∙ ap (λ l. l ++ R) (sym (pairs_of-push front event))))

made_met : (n : ℕ) (front : List Event) (event : Event) (pair : Name × Name)
    → communicators_of n (front ++ event ∷ []) ≡ communicators_of n (front ++ then_meets event pair ∷ [])
made_met n front event pair =
    let views : view_of (front ++ event ∷ []) ≡ view_of (front ++ then_meets event pair ∷ []) = fun_ext (views_met front event pair) in
    communicators_of-push n front event
    ∙ (ap (λ (l : List Origin). communicators_of n front ++ l) (ap (λ (v : ℕ → View). made_by n v (view_of front event.rank) event.call event.reply) views)
    ∙ sym (communicators_of-push n front (then_meets event pair)))

takes_same : (N M : Name → Option Call) → ((name : Name) → N name ≡ M name) → (post send : Name) → PostAccepts N post send → PostAccepts M post send
takes_same N M names post send takes =
    record {
      post_call = takes.post_call;
      send_call = takes.send_call;
      post_is = sym (names post) ∙ takes.post_is;
      send_is = sym (names send) ∙ takes.send_is;
      accepted = takes.accepted;
    }

matched_on : (N M : Name → Option Call) (P Q : List (Name × Name)) → ((name : Name) → N name ≡ M name)
    → ((name : Name) → partner_of P name ≡ partner_of Q name) → AreMatched N P → AreMatched M Q
matched_on N M P Q names pairs matched =
    let back : (name : Name) → M name ≡ N name = λ name. sym (names name) in
    record {
      pairs_accept = λ a b h. elim (matched.pairs_accept a b (pairs a ∙ h)) [
        | inl takes ↦ inl (takes_same N M names a b takes)
        | inr takes ↦ inr (takes_same N M names b a takes)
      ];
      one_partner = λ a b h. sym (pairs b) ∙ matched.one_partner a b (pairs a ∙ h);
      no_overtaking = λ post send h start less takes. ap is_some (sym (pairs (send.0, start)))
          ∙ matched.no_overtaking post send (pairs post ∙ h) start less (takes_same M N back post (send.0, start) takes);
      earliest_receive = λ post send h start less takes. ap is_some (sym (pairs (post.0, start)))
          ∙ matched.earliest_receive post send (pairs post ∙ h) start less (takes_same M N back (post.0, start) send takes);
    }

one_more : (P Q : List (Name × Name)) (pair : Name × Name) → ((name : Name) → partner_of P name ≡ partner_of Q name) → (name : Name)
    → partner_of (P ++ pair ∷ []) name ≡ partner_of (Q ++ pair ∷ []) name
one_more P Q pair same name =
    partner_more P (pair ∷ []) name ∙ (ap (λ o. first_of o (partner_of (pair ∷ []) name)) (same name) ∙ sym (partner_more Q (pair ∷ []) name))

-- what can meet after one can meet after the other: both starts are unpaired there too (by `pairs`), and the conditions hold with their pair
pub meets_alike : (n : ℕ) (one other : List Event) (pair : Name × Name) → SameFuture n one other
    → AreMatched (named one) (pairs_of one ++ pair ∷ []) → AreMatched (named other) (pairs_of other ++ pair ∷ [])
meets_alike n one other pair same matched =
    matched_on (named one) (named other) (pairs_of one ++ pair ∷ []) (pairs_of other ++ pair ∷ []) (λ name. ap (λ (v : View). start_at v name.1) (same.views name.0))
    (one_more (pairs_of one) (pairs_of other) pair same.pairs) matched

-- and then they leave the same
pub futures_meet : (n : ℕ) (front behind : List Event) (event last : Event) (pair : Name × Name) → SameFuture n (front ++ event ∷ []) (behind ++ last ∷ [])
    → SameFuture n (front ++ then_meets event pair ∷ []) (behind ++ then_meets last pair ∷ [])
futures_meet n front behind event last pair same =
    record {
      views = λ rank. sym (views_met front event pair rank) ∙ (same.views rank ∙ views_met behind last pair rank);
      pairs = λ name. ap (λ l. partner_of l name) (pairs_met front event pair)
          ∙ (one_more (pairs_of (front ++ event ∷ [])) (pairs_of (behind ++ last ∷ [])) pair same.pairs name
          ∙ sym (ap (λ l. partner_of l name) (pairs_met behind last pair)));
      made = sym (made_met n front event pair) ∙ (same.made ∙ made_met n behind last pair);
    }
