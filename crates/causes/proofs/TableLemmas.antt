-- The tables after one more event.
use Rattle.std.proofs.Common.{◌≡◌, ◌≤◌, ◌-◌, ℕ, List, [], ◌∷◌, ◌++◌, ◌==◌, ◌&&◌, arith, drop, get_or, take, Bool, Option, Some, None, true, false, cond, inl, inr, refl, ap, sym, ◌∙◌, is_some, length, subst, if◌then◌else◌}
use Rattle.std.specs.Map.{lookup}
use Rattle.std.proofs.lemmas.Bool.{eqb-true}
use Rattle.mpi_call.specs.declared.call.Call.{Call}
use Rattle.mpi_call.specs.declared.call.Call.TheVariants.{Send, Post, Enter, Take, Peek, Abort, Trap, End}
use Rattle.mpi_call.specs.declared.reply.Got.TheVariants.{Made}
use Rattle.mpi_call.specs.declared.reply.Item.{Item}
use Rattle.mpi_call.specs.declared.reply.Reply.{Reply}
use Rattle.mpi_call.specs.declared.reply.Reply.TheVariants.{Done, Took, NotYet, Peeked, Stopped}
use Rattle.run_model.specs.declared.event.Event.{Event}
use Rattle.run_model.specs.Communicators.{is_enter_of, is_on, known_after, learned, made_in_got, made_in_items, members_for_rank, or_members, or_none as or_no_members}
use Rattle.run_model.specs.Lists.{world}
use Rattle.run_model.specs.Views.{View, is_start, view_of}
use Rattle.run_model.proofs.Enters.{known_after-append}
use Rattle.run_model.proofs.Views.{test_cases, view_of-other, view_of-own}
use Rattle.causes.specs.declared.key.Key.{Key}
use Rattle.causes.specs.Keys.{enters_key, events_key, same_key, starts_key}
use Rattle.causes.specs.Positions.{is_event_of, is_start_of, positions}
use Rattle.causes.specs.Tables.{AddsPosition, IsKnownTable, IsPlaceTable, Learns, adds_enter, adds_enter_by, adds_start, positions_of_key}
use Rattle.causes.proofs.JoinLemmas.{tail_is}
use Rattle.causes.proofs.PositionLemmas.{positions-push}

and-false : (a : Bool) → (a && false) ≡ false
and-false true = refl
and-false false = refl

-- nothing is added for a key of another kind
skipped : (test : Key → Bool) (at : ℕ) (old new : List (Key × List ℕ)) (key : Key) → AddsPosition test at old new → test key ≡ false → positions_of_key new key ≡ positions_of_key old key
skipped test at old new key adds apart = adds key ∙ rw apart refl

no_enter : (rank : ℕ) (call : Call) (key : Key) → ((comm : ℕ) → same_key (enters_key rank comm) key ≡ false) → adds_enter_by rank call key ≡ false
no_enter rank (Enter comm kind root op count ints) key h = h comm
no_enter rank (Send comm dest tag ints sync) key h = refl
no_enter rank (Post comm source tag room) key h = refl
no_enter rank (Take starts mode) key h = refl
no_enter rank (Peek comm source tag wait) key h = refl
no_enter rank (Abort code) key h = refl
no_enter rank (Trap fault) key h = refl
no_enter rank End key h = refl

enter_kept : (event : Event) (key : Key) → ((comm : ℕ) → same_key (enters_key event.rank comm) key ≡ false) → adds_enter event key ≡ false
enter_kept event key h = (let apart = no_enter event.rank event.call key h in rw apart (and-false (is_start (event.call, event.reply))))

enter_is : (rank : ℕ) (call : Call) (other comm : ℕ) → adds_enter_by rank call (enters_key other comm) ≡ (is_on comm call && (rank == other))
enter_is rank (Enter on kind root op count ints) other comm = refl
enter_is rank (Send on dest tag ints sync) other comm = refl
enter_is rank (Post on source tag room) other comm = refl
enter_is rank (Take starts mode) other comm = refl
enter_is rank (Peek on source tag wait) other comm = refl
enter_is rank (Abort code) other comm = refl
enter_is rank (Trap fault) other comm = refl
enter_is rank End other comm = refl

-- what is added for a key, where its test says as much as that of the events
added : (test : Key → Bool) (passes : Event → Bool) (events : List Event) (event : Event) (old new : List (Key × List ℕ)) (key : Key) → AddsPosition test (length events) old new → test key ≡ passes event → positions_of_key old key ≡ positions passes 0 events → positions_of_key new key ≡ positions passes 0 (events ++ event ∷ [])
added test passes events event old new key adds same is =
    adds key
    ∙ rw same (ap (λ (l : List ℕ). if passes event then l ++ length events ∷ [] else l) is)
    ∙ sym (positions-push passes events event)

-- the places of one more event
pub placed : (events : List Event) (event : Event) (old first second new : List (Key × List ℕ)) → AddsPosition (same_key (events_key event.rank)) (length events) old first → AddsPosition (adds_start event) (length events) first second → AddsPosition (adds_enter event) (length events) second new → IsPlaceTable events old → IsPlaceTable (events ++ event ∷ []) new
placed events event old first second new a b c is =
    let at : ℕ = length events in
    let start : Bool = is_start (event.call, event.reply) in
    record {
      own = λ rank.
          let key : Key = events_key rank in
          skipped (adds_enter event) at second new key c (enter_kept event key (λ comm. refl))
          ∙ skipped (adds_start event) at first second key b (and-false start)
          ∙ added (same_key (events_key event.rank)) (is_event_of rank) events event old first key a refl (is.own rank);
      starts = λ rank.
          let key : Key = starts_key rank in
          skipped (adds_enter event) at second new key c (enter_kept event key (λ comm. refl))
          ∙ added (adds_start event) (is_start_of rank) events event first second key b refl
          (skipped (same_key (events_key event.rank)) at old first key a refl ∙ is.starts rank);
      enters = λ rank comm.
          let key : Key = enters_key rank comm in
          added (adds_enter event) (is_enter_of rank comm) events event second new key c (ap (λ b. start && b) (enter_is event.rank event.call rank comm))
          (skipped (adds_start event) at first second key b (and-false start)
          ∙ skipped (same_key (events_key event.rank)) at old first key a refl ∙ is.enters rank comm);
    }

-- what a rank knows of its communicators
or_none : (a : Option (List ℕ)) → or_members a None ≡ a
or_none (Some x) = refl
or_none None = refl

or_assoc : (a b c : Option (List ℕ)) → or_members (or_members a b) c ≡ or_members a (or_members b c)
or_assoc (Some x) b c = refl
or_assoc None b c = refl

pub learned_all : (known : Option (List ℕ)) (comm : ℕ) (items : List Item) → or_members known (made_in_items comm items) ≡ learned comm known (Took items)
learned_all (Some members) comm items = refl
learned_all None comm items = refl

pub learned_none : (known : Option (List ℕ)) (comm : ℕ) (reply : Reply) → ((items : List Item) → reply ≡ Took items → ⊥) → learned comm known reply ≡ known
learned_none (Some members) comm reply apart = refl
learned_none None comm Done apart = refl
learned_none None comm (Took items) apart = absurd (apart items refl)
learned_none None comm NotYet apart = refl
learned_none None comm (Peeked source start tag count) apart = refl
learned_none None comm (Stopped halt) apart = refl

known_more : (events : List Event) (event : Event) (rank comm : ℕ) → known_after comm None (view_of (events ++ event ∷ []) rank) ≡ (if event.rank == rank then learned comm (known_after comm None (view_of events rank)) event.reply else known_after comm None (view_of events rank))
known_more events event rank comm =
    elim (test_cases (event.rank == rank)) [
      | inl h ↦ (
          let P : ℕ → Type 0 = λ r. known_after comm None (view_of (events ++ event ∷ []) r) ≡ learned comm (known_after comm None (view_of events r)) event.reply in
          let own : P event.rank = rw (view_of-own events event) (known_after-append comm None (view_of events event.rank) ((event.call, event.reply) ∷ [])) in
          rw h (subst P (eqb-true event.rank rank h) own))
      | inr h ↦ rw (h, view_of-other events event rank h) refl
    ]

pub known_took : (events : List Event) (event : Event) (items : List Item) (old new : List (Key × List ℕ)) → event.reply ≡ Took items → Learns event.rank (λ comm. made_in_items comm items) old new → IsKnownTable events old → IsKnownTable (events ++ event ∷ []) new
known_took events event items old new reply learns is =
    record {
      each = λ rank comm.
          learns rank comm
          ∙ ap (λ o. or_members o (if event.rank == rank then made_in_items comm items else None)) (is.each rank comm)
          ∙ elim (test_cases (event.rank == rank)) [
            | inl h ↦ rw h (learned_all (known_after comm None (view_of events rank)) comm items ∙ ap (learned comm (known_after comm None (view_of events rank))) (sym reply))
            | inr h ↦ rw h (or_none (known_after comm None (view_of events rank)))
          ]
          ∙ sym (known_more events event rank comm);
    }

pub known_same : (events : List Event) (event : Event) (table : List (Key × List ℕ)) → ((items : List Item) → event.reply ≡ Took items → ⊥) → IsKnownTable events table → IsKnownTable (events ++ event ∷ []) table
known_same events event table apart is =
    record {
      each = λ rank comm.
          is.each rank comm
          ∙ elim (test_cases (event.rank == rank)) [
            | inl h ↦ rw h (sym (learned_none (known_after comm None (view_of events rank)) comm event.reply apart))
            | inr h ↦ rw h refl
          ]
          ∙ sym (known_more events event rank comm);
    }

-- nothing more, one communicator more, and both
pub learns_none : (rank : ℕ) (made : ℕ → Option (List ℕ)) (table : List (Key × List ℕ)) → ((comm : ℕ) → made comm ≡ None) → Learns rank made table table
learns_none rank made table none other comm =
    elim (test_cases (rank == other)) [
      | inl h ↦ rw (h, none comm) (sym (or_none (lookup (same_key (enters_key other comm)) table)))
      | inr h ↦ rw h (sym (or_none (lookup (same_key (enters_key other comm)) table)))
    ]

pub learns_both : (rank : ℕ) (a b : ℕ → Option (List ℕ)) (old middle new : List (Key × List ℕ)) → Learns rank a old middle → Learns rank b middle new → Learns rank (λ comm. or_members (a comm) (b comm)) old new
learns_both rank a b old middle new first second other comm =
    second other comm
    ∙ ap (λ o. or_members o (if rank == other then b comm else None)) (first other comm)
    ∙ elim (test_cases (rank == other)) [
      | inl h ↦ rw h (or_assoc (lookup (same_key (enters_key other comm)) old) (a comm) (b comm))
      | inr h ↦ rw h (or_none (or_members (lookup (same_key (enters_key other comm)) old) None))
    ]

or_there : (a b : Option (List ℕ)) → is_some a ≡ true → or_members a b ≡ a
or_there (Some x) b h = refl
or_there None b h = absurd (cc)

at_key : (rank comm other on : ℕ) → (rank == other) ≡ true → (comm == on) ≡ true → (P : Key → Type 0) → P (enters_key rank comm) → P (enters_key other on)
at_key rank comm other on h k P p =
    let Q : ℕ → Type 0 = λ r. P (enters_key r comm) in
    let R : ℕ → Type 0 = λ c. P (enters_key other c) in
    subst R (eqb-true comm on k) (subst Q (eqb-true rank other h) p)

pub learns_there : (rank comm : ℕ) (members : List ℕ) (table : List (Key × List ℕ)) → is_some (lookup (same_key (enters_key rank comm)) table) ≡ true → Learns rank (λ on. made_in_got on (Made comm members)) table table
learns_there rank comm members table there other on =
    elim (test_cases (rank == other)) [
      | inl h ↦ elim (test_cases (comm == on)) [
        | inl k ↦ (
            let P : Key → Type 0 = λ key. is_some (lookup (same_key key) table) ≡ true in
            rw (h, k) (sym (or_there (lookup (same_key (enters_key other on)) table) (Some members) (at_key rank comm other on h k P there))))
        | inr k ↦ rw (h, k) (sym (or_none (lookup (same_key (enters_key other on)) table)))
      ]
      | inr h ↦ rw h (sym (or_none (lookup (same_key (enters_key other on)) table)))
    ]

pub learns_new : (rank comm : ℕ) (members : List ℕ) (old new : List (Key × List ℕ)) → lookup (same_key (enters_key rank comm)) old ≡ None → ((key : Key) → lookup (same_key key) new ≡ cond (same_key (enters_key rank comm) key) (Some members) (lookup (same_key key) old)) → Learns rank (λ on. made_in_got on (Made comm members)) old new
learns_new rank comm members old new none updates other on =
    updates (enters_key other on)
    ∙ elim (test_cases (comm == on)) [
      | inl k ↦ elim (test_cases (rank == other)) [
        | inl h ↦ (
            let P : Key → Type 0 = λ key. lookup (same_key key) old ≡ None in
            let apart = at_key rank comm other on h k P none in
            rw (h, k, apart) refl)
        | inr h ↦ rw (h, k) (sym (or_none (lookup (same_key (enters_key other on)) old)))
      ]
      | inr k ↦ elim (test_cases (rank == other)) [
        | inl h ↦ rw (h, k) (sym (or_none (lookup (same_key (enters_key other on)) old)))
        | inr h ↦ rw (h, k) (sym (or_none (lookup (same_key (enters_key other on)) old)))
      ]
    ]

-- all ranks are in communicator 0
stays_known : (comm : ℕ) (members : List ℕ) (own : View) → known_after comm (Some members) own ≡ Some members
stays_known comm members [] = refl
stays_known comm members ((call, reply) ∷ own) = stays_known comm members own

pub members-world : (n : ℕ) (own : View) → world n 0 ≡ members_for_rank n own 0
members-world n own = sym (ap or_no_members (stays_known 0 (world n 0) own))

pub learns_more : (rank : ℕ) (rest : List Item) (old middle new : List (Key × List ℕ)) (item : Item) → 1 ≤ length rest → item ≡ get_or rest 0 item → Learns rank (λ comm. made_in_got comm item.got) old middle → Learns rank (λ comm. made_in_items comm (take (length rest - 1) (drop 1 rest))) middle new → Learns rank (λ comm. made_in_items comm rest) old new
learns_more rank [] old middle new item long is first second = absurd (omega (arith, long))
learns_more rank (x ∷ xs) old middle new item long is first second =
    let P : List Item → Type 0 = λ l. Learns rank (λ comm. made_in_items comm l) middle new in
    let Q : Item → Type 0 = λ i. Learns rank (λ comm. made_in_got comm i.got) old middle in
    learns_both rank (λ comm. made_in_got comm x.got) (λ comm. made_in_items comm xs) old middle new (subst Q is first) (subst P (tail_is x xs) second)

-- the places of one more event, at the position that comes next
pub placed_at : (events : List Event) (event : Event) (at : ℕ) (key : Key) (old first second new : List (Key × List ℕ)) → key ≡ events_key event.rank → at ≡ length events → AddsPosition (same_key key) at old first → AddsPosition (adds_start event) at first second → AddsPosition (adds_enter event) at second new → IsPlaceTable events old → IsPlaceTable (events ++ event ∷ []) new
placed_at events event at key old first second new own is a b c table =
    let K : Key → Type 0 = λ k. AddsPosition (same_key k) at old first in
    let A : ℕ → Type 0 = λ n. AddsPosition (same_key (events_key event.rank)) n old first in
    let B : ℕ → Type 0 = λ n. AddsPosition (adds_start event) n first second in
    let C : ℕ → Type 0 = λ n. AddsPosition (adds_enter event) n second new in
    placed events event old first second new (subst A is (subst K own a)) (subst B is b) (subst C is c) table
