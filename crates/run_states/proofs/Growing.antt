-- Histories that leave the same do so after events that are the same but for where their mates stand.
use Rattle.std.proofs.Common.{◌≡◌, ◌∙◌, ◌++◌, ◌==◌, ◌∷◌, if◌then◌else◌, ℕ, List, [], Option, Some, None, inl, inr, length, refl, ap, sym}
use Rattle.std.proofs.Math.Path.{fun_ext}
use Rattle.mpi_call.specs.declared.call.Call.{Call}
use Rattle.mpi_call.specs.declared.reply.Reply.{Reply}
use Rattle.mpi_call.specs.Calls.{comm_of}
use Rattle.run_model.specs.declared.event.Event.{Event}
use Rattle.run_model.specs.Communicators.{count_on, members_for_rank}
use Rattle.run_model.specs.Numbers.{Origin, communicators_of, entered_by_all, made_at, origins_from}
use Rattle.run_model.specs.Pairs.{Name, mated, pair_of, pair_with, pairs_of, partner_of, same_name}
use Rattle.run_model.specs.Views.{View, is_start, starts_of, view_of}
use Rattle.run_model.proofs.Numbered.{communicators_of-push}
use Rattle.run_model.proofs.Positions.{new_name}
use Rattle.run_model.proofs.Views.{option_cases, test_cases, view_of-append}
use Rattle.picked_runs.proofs.Grown.{pairs_of-push}
use Rattle.run_states.specs.Futures.{SameEvent, SameFuture, mate_name}

-- 1. views

views_grow : (n : ℕ) (one other : List Event) (a b : Event) → SameFuture n one other → SameEvent one other a b → (rank : ℕ)
    → view_of (one ++ a ∷ []) rank ≡ view_of (other ++ b ∷ []) rank
views_grow n one other a b same event rank =
    let seen : ℕ → Call → Reply → View = λ r call reply. (if r == rank then (call, reply) ∷ [] else []) in
    let last : view_of (a ∷ []) rank ≡ view_of (b ∷ []) rank =
    ap (λ r. seen r a.call a.reply) event.rank ∙ (ap (λ c. seen b.rank c a.reply) event.call ∙ ap (seen b.rank b.call) event.reply) in
    view_of-append one (a ∷ []) rank
    ∙ (ap (λ (v : View). v ++ view_of (a ∷ []) rank) (same.views rank)
    ∙ (ap (λ (v : View). view_of other rank ++ v) last ∙ sym (view_of-append other (b ∷ []) rank)))

-- 2. pairs

pair_is : (before : List Event) (event : Event) → mated before event ≡ pair_with (mate_name before event.mate) (new_name before event)
pair_is before event =
    elim (option_cases event.mate) [
      | inl some ↦ rw some.1 refl
      | inr none ↦ rw none refl
    ]

-- the first that is there
abbrev pub first_of : Option Name → Option Name → Option Name
first_of (Some name) other = Some name
first_of None other = other

pub partner_more : (P Q : List (Name × Name)) (name : Name) → partner_of (P ++ Q) name ≡ first_of (partner_of P name) (partner_of Q name)
partner_more [] Q name = refl
partner_more (pair ∷ P) Q name =
    elim (test_cases (same_name pair.0 name)) [
      | inl t ↦ rw t refl
      | inr t ↦ elim (test_cases (same_name pair.1 name)) [
        | inl u ↦ rw (t, u) refl
        | inr u ↦ rw (t, u) (partner_more P Q name)
      ]
    ]

names_same : (n : ℕ) (one other : List Event) (a b : Event) → SameFuture n one other → SameEvent one other a b → new_name one a ≡ new_name other b
names_same n one other a b same event =
    let name : ℕ → View → Name = λ r v. (r, length (starts_of v)) in
    ap (λ r. name r (view_of one r)) event.rank ∙ ap (name b.rank) (same.views b.rank)

pairs_grow : (n : ℕ) (one other : List Event) (a b : Event) → SameFuture n one other → SameEvent one other a b → (name : Name)
    → partner_of (pairs_of (one ++ a ∷ [])) name ≡ partner_of (pairs_of (other ++ b ∷ [])) name
pairs_grow n one other a b same event name =
    let pair : pair_of one a ≡ pair_of other b =
    ap (λ l. l ++ a.met)
    (pair_is one a ∙ (ap (λ m. pair_with m (new_name one a)) event.mate
    ∙ (ap (pair_with (mate_name other b.mate)) (names_same n one other a b same event) ∙ sym (pair_is other b))))
    ∙ ap (λ l. mated other b ++ l) event.met in
    ap (λ l. partner_of l name) (pairs_of-push one a)
    ∙ (partner_more (pairs_of one) (pair_of one a) name
    ∙ (ap (λ o. first_of o (partner_of (pair_of one a) name)) (same.pairs name)
    ∙ (ap (λ l. first_of (partner_of (pairs_of other) name) (partner_of l name)) pair
    ∙ sym (ap (λ l. partner_of l name) (pairs_of-push other b) ∙ partner_more (pairs_of other) (pair_of other b) name))))

-- 3. communicators

-- what an event makes, by the views after it, its rank's own view before it, its call and its reply
abbrev pub made_by : ℕ → (ℕ → View) → View → Call → Reply → List Origin
made_by n after own call reply =
    if is_start (call, reply)
    then origins_from
    (entered_by_all n after (comm_of call) (count_on (comm_of call) (starts_of own)) (members_for_rank n own (comm_of call)))
    (count_on (comm_of call) (starts_of own)) call
    else []

made_grow : (n : ℕ) (one other : List Event) (a b : Event) → SameFuture n one other → SameEvent one other a b → made_at n one a ≡ made_at n other b
made_grow n one other a b same event =
    let first : ℕ → View = view_of (one ++ a ∷ []) in
    let second : ℕ → View = view_of (other ++ b ∷ []) in
    let after : first ≡ second = fun_ext (views_grow n one other a b same event) in
    let own : view_of one a.rank ≡ view_of other b.rank = ap (view_of one) event.rank ∙ same.views b.rank in
    ap (λ (v : ℕ → View). made_by n v (view_of one a.rank) a.call a.reply) after
    ∙ (ap (λ (v : View). made_by n second v a.call a.reply) own
    ∙ (ap (λ c. made_by n second (view_of other b.rank) c a.reply) event.call ∙ ap (made_by n second (view_of other b.rank) b.call) event.reply))

pub futures_grow : (n : ℕ) (one other : List Event) (a b : Event) → SameFuture n one other → SameEvent one other a b → SameFuture n (one ++ a ∷ []) (other ++ b ∷ [])
futures_grow n one other a b same event =
    record {
      views = views_grow n one other a b same event;
      pairs = pairs_grow n one other a b same event;
      made = communicators_of-push n one a
          ∙ (ap (λ (l : List Origin). l ++ made_at n one a) same.made
          ∙ (ap (λ (l : List Origin). communicators_of n other ++ l) (made_grow n one other a b same event) ∙ sym (communicators_of-push n other b)));
    }
