-- A quiet call that can be answered is answered so behind what others do.
use Rattle.std.proofs.Common.{◌≡◌, ◌≢◌, ◌∙◌, ◌++◌, ◌==◌, ◌+◌, ◌∷◌, if◌then◌else◌, ℕ, suc, ℤ, List, [], Option, Some, None, Result, Ok, Err, Bool, true, false, inl, inr, is_some, map, not, slice_get, slice_index, refl, ap, sym, subst, arith}
use Rattle.std.proofs.lemmas.Bool.{and_parts, or_cases, or_left, or_right}
use Rattle.std.specs.List.{list_all}
use Rattle.mpi_call.specs.declared.call.Call.{Call}
use Rattle.mpi_call.specs.declared.call.Call.TheVariants.{Send, Post, Enter, Take, Peek, Abort, Trap, End}
use Rattle.mpi_call.specs.declared.call.Halt.{Halt}
use Rattle.mpi_call.specs.declared.call.Halt.TheVariants.{Limit}
use Rattle.mpi_call.specs.declared.call.Source.TheVariants.{Any, From, Null}
use Rattle.mpi_call.specs.declared.call.Tag.{Tag}
use Rattle.mpi_call.specs.declared.call.TakeMode.TheVariants.{All, TestAll}
use Rattle.mpi_call.specs.declared.reply.Got.{Got}
use Rattle.mpi_call.specs.declared.reply.Got.TheVariants.{Made}
use Rattle.mpi_call.specs.declared.reply.Item.{Item}
use Rattle.mpi_call.specs.declared.reply.Reply.{Reply}
use Rattle.mpi_call.specs.declared.reply.Reply.TheVariants.{NotYet}
use Rattle.mpi_call.specs.Acceptance.{accepts, tag_agrees}
use Rattle.mpi_call.specs.Calls.{comm_of, makes}
use Rattle.mpi_call.specs.Collectives.{is_uncoloured, members_made}
use Rattle.run_model.specs.declared.event.Event.{Event}
use Rattle.run_model.specs.Allowed.{first_long, flags_of, taken_reply, true_places}
use Rattle.run_model.specs.Choice.{choice}
use Rattle.run_model.specs.Chosen.{collected, collected_by, got_of, halt_or, held_reply, items_at, message_of_pair, message_of}
use Rattle.run_model.specs.Communicators.{members_for_rank}
use Rattle.run_model.specs.Due.{due, halt_at, halt_of_reply, halted, is_full}
use Rattle.run_model.specs.Inputs.{inputs_of, is_gathered}
use Rattle.run_model.specs.Numbers.{Origin, communicators_of, made_at, number_among, origin_of}
use Rattle.run_model.specs.Pairs.{IsAllMatched, Name, named, pair_of, pairs_of, partner_of, same_name}
use Rattle.run_model.specs.Readiness.{is_ready}
use Rattle.run_model.specs.Views.{View, is_start, moment_at, moment_of, start_at, view_of}
use Rattle.run_model.proofs.Choosing.{choice_is_none}
use Rattle.run_model.proofs.ChosenGots.{AllOf}
use Rattle.run_model.proofs.Gathering.{inputs-kept}
use Rattle.run_model.proofs.Numbered.{AllMade, communicators_of-push}
use Rattle.run_model.proofs.OriginLists.{number_kept}
use Rattle.run_model.proofs.Prefixes.{Begins-more}
use Rattle.run_model.proofs.Taken.{none_parts}
use Rattle.run_model.proofs.Views.{option_cases, test_cases, view_of-other}
use Rattle.picked_runs.specs.declared.turn.Pick.{Pick}
use Rattle.picked_runs.specs.declared.turn.Pick.TheVariants.{First, Sender, Index}
use Rattle.picked_runs.specs.Picks.{has_pick, is_offered, picked_answer, picked_event, picked_mate, picked_reply}
use Rattle.picked_runs.proofs.Grown.{pairs_of-push}
use Rattle.quiet_calls.specs.Quiet.{is_steady}
use Rattle.picked_runs.proofs.Places.{flag_there}
use Rattle.quiet_calls.proofs.Still.{IsStill, is_still, no_third}
use Rattle.quiet_calls.proofs.Beside.{named_on}

-- 1. its event is still, whatever is picked

held_no : (test : Bool) → halt_of_reply (held_reply test) ≡ None → held_reply test ≢ NotYet → ⊥
held_no true free ready = ready refl
held_no false free ready = cc

pub quiet_still : (call : Call) → is_steady call ≡ true → is_still call ≡ true
quiet_still (Post comm Null tag room) h = refl
quiet_still (Post comm Any tag room) h = absurd (cc)
quiet_still (Post comm (From source) tag room) h = absurd (cc)
quiet_still (Take starts mode) h = refl
quiet_still End h = refl
quiet_still call h = absurd (cc)

-- nothing is there for a receive from the null process
null_never : (me comm : ℕ) (tag : Tag) (owner : ℕ) (start : Call) → accepts me comm Null tag owner start ≡ false
null_never me comm tag owner (Send c dest t ints sync) = no_third (c == comm) (dest == me) (tag_agrees tag t)
null_never me comm tag owner start = refl

pub null_choice : (before : List Event) (me comm : ℕ) (tag : Tag) (room : ℕ) → choice before me (Post comm Null tag room) ≡ None
null_choice before me comm tag room =
    choice_is_none before me (Post comm Null tag room)
    (λ at o. (let no : true ≡ false = sym o.suited ∙ null_never me comm tag o.name.0 o.start in absurd (cc)))

if_none : (b : Bool) (found : Option ℕ) → found ≡ None → (if b then found else None) ≡ None
if_none true found none = none
if_none false found none = refl

still_mate : (before : List Event) (me : ℕ) (call : Call) (reply : Reply) → is_steady call ≡ true → picked_mate before me call reply First ≡ None
still_mate before me (Post comm Null tag room) reply h = if_none (is_start (Post comm Null tag room, reply)) _ (null_choice before me comm tag room)
still_mate before me (Post comm Any tag room) reply h = absurd (cc)
still_mate before me (Post comm (From source) tag room) reply h = absurd (cc)
still_mate before me (Take starts mode) reply h = refl
still_mate before me End reply h = refl
still_mate before me call reply h = absurd (cc)

pub quiet_event : (n : ℕ) (before : List Event) (me : ℕ) (call : Call) → is_steady call ≡ true → IsStill (picked_event n before me call First)
quiet_event n before me call h =
    record { call = quiet_still call h; mate = still_mate before me call (picked_reply n before me call First) h; none_met = refl }

pub offers : (n : ℕ) (before : List Event) (me : ℕ) (call : Call) (sender : ℕ) → has_pick n before me call (Sender sender) ≡ true
    → is_offered n before me (view_of before me) call (Sender sender) ≡ true
offers n before me call sender h =
    (and_parts (not (is_some (due n before me (view_of before me) call))) (is_offered n before me (view_of before me) call (Sender sender)) h).1

index_offers : (n : ℕ) (before : List Event) (me : ℕ) (call : Call) (index : ℕ) → has_pick n before me call (Index index) ≡ true
    → is_offered n before me (view_of before me) call (Index index) ≡ true
index_offers n before me call index h =
    (and_parts (not (is_some (due n before me (view_of before me) call))) (is_offered n before me (view_of before me) call (Index index)) h).1

-- whatever can be picked for it, the event is the same
pub one_event : (n : ℕ) (before : List Event) (me : ℕ) (call : Call) (pick : Pick) → is_steady call ≡ true → has_pick n before me call pick ≡ true
    → picked_event n before me call pick ≡ picked_event n before me call First
one_event n before me (Post comm Null tag room) First h offered = refl
one_event n before me (Post comm Null tag room) (Sender sender) h offered =
    let some : is_some (choice before me (Post comm Null tag room)) ≡ true = offers n before me (Post comm Null tag room) sender offered in
    let no : false ≡ true = sym (ap is_some (null_choice before me comm tag room)) ∙ some in
    absurd (cc)
one_event n before me (Post comm Null tag room) (Index index) h offered =
    let no : false ≡ true = index_offers n before me (Post comm Null tag room) index offered in absurd (cc)
one_event n before me (Post comm Any tag room) pick h offered = absurd (cc)
one_event n before me (Post comm (From source) tag room) pick h offered = absurd (cc)
one_event n before me (Take starts All) pick h offered = refl
one_event n before me (Take starts TestAll) pick h offered = refl
one_event n before me (Take starts mode) pick h offered = absurd (cc)
one_event n before me End First h offered = refl
one_event n before me End (Sender sender) h offered = refl
one_event n before me End (Index index) h offered = refl
one_event n before me call pick h offered = absurd (cc)

-- 2. what is ready stays ready, and gives the same

pub partner_stays : (P Q : List (Name × Name)) (name other : Name) → partner_of P name ≡ Some other → partner_of (P ++ Q) name ≡ Some other
partner_stays [] Q name other h = absurd (cc)
partner_stays (pair ∷ P) Q name other h =
    elim (test_cases (same_name pair.0 name)) [
      | inl t ↦ rw t (rw t at h)
      | inr t ↦ elim (test_cases (same_name pair.1 name)) [
        | inl u ↦ rw (t, u) (rw (t, u) at h)
        | inr u ↦ rw (t, u) (partner_stays P Q name other (rw (t, u) at h))
      ]
    ]

pub paired_on : (before : List Event) (event : Event) (name other : Name) → partner_of (pairs_of before) name ≡ Some other
    → partner_of (pairs_of (before ++ event ∷ [])) name ≡ Some other
paired_on before event name other h =
    ap (λ l. partner_of l name) (pairs_of-push before event) ∙ partner_stays (pairs_of before) (pair_of before event) name other h

some_of : {A : Type 0} (o : Option A) → is_some o ≡ true → (x : A) × (o ≡ Some x)
some_of (Some x) h = (x, refl)
some_of None h = absurd (cc)

paired_ready : (before : List Event) (event : Event) (name : Name) → is_some (partner_of (pairs_of before) name) ≡ true
    → is_some (partner_of (pairs_of (before ++ event ∷ [])) name) ≡ true
paired_ready before event name h =
    let p = some_of (partner_of (pairs_of before) name) h in
    ap is_some (paired_on before event name p.0 p.1)

inputs_on : (n : ℕ) (before : List Event) (event : Event) (me : ℕ) (own : View) (k : ℕ) (enter : Call) (inputs : List (List ℤ))
    → inputs_of n (view_of before) me own k enter ≡ Ok inputs → inputs_of n (view_of (before ++ event ∷ [])) me own k enter ≡ Ok inputs
inputs_on n before event me own k enter inputs h =
    inputs-kept n (view_of before) (view_of (before ++ event ∷ [])) own me k enter inputs (Begins-more before (event ∷ [])) h

gathered_of : (r : Result (List (List ℤ)) ℕ) → is_gathered r ≡ true → (inputs : List (List ℤ)) × (r ≡ Ok inputs)
gathered_of (Ok inputs) h = (inputs, refl)
gathered_of (Err m) h = absurd (cc)

pub ready_on : (n : ℕ) (before : List Event) (event : Event) (me : ℕ) (own : View) (k : ℕ) (start : Option Call) → is_ready (moment_of n before me own) k start ≡ true
    → is_ready (moment_of n (before ++ event ∷ []) me own) k start ≡ true
ready_on n before event me own k None h = absurd (cc)
ready_on n before event me own k (Some (Send comm dest tag ints sync)) h =
    elim (or_cases (not sync) (is_some (partner_of (pairs_of before) (me, k))) h) [
      | inl t ↦ or_left (not sync) (is_some (partner_of (pairs_of (before ++ event ∷ [])) (me, k))) t
      | inr t ↦ or_right (not sync) (is_some (partner_of (pairs_of (before ++ event ∷ [])) (me, k))) (paired_ready before event (me, k) t)
    ]
ready_on n before event me own k (Some (Post comm Null tag room)) h = refl
ready_on n before event me own k (Some (Post comm Any tag room)) h = paired_ready before event (me, k) h
ready_on n before event me own k (Some (Post comm (From source) tag room)) h = paired_ready before event (me, k) h
ready_on n before event me own k (Some (Enter comm kind root op count ints)) h =
    let enter : Call = Enter comm kind root op count ints in
    let g = gathered_of (inputs_of n (view_of before) me own k enter) h in
    ap is_gathered (inputs_on n before event me own k enter g.0 g.1)
ready_on n before event me own k (Some (Take starts mode)) h = absurd (cc)
ready_on n before event me own k (Some (Peek comm source tag wait)) h = absurd (cc)
ready_on n before event me own k (Some (Abort code)) h = absurd (cc)
ready_on n before event me own k (Some (Trap fault)) h = absurd (cc)
ready_on n before event me own k (Some End) h = absurd (cc)

-- a paired start is there
pub there_of : (before : List Event) (name other : Name) → IsAllMatched before → partner_of (pairs_of before) name ≡ Some other → (call : Call) × (named before other ≡ Some call)
there_of before name other matched h =
    elim (matched.matched.pairs_accept name other h) [
      | inl takes ↦ (takes.send_call, takes.send_is)
      | inr takes ↦ (takes.post_call, takes.post_is)
    ]

message_on : (before : List Event) (event : Event) (name : Name) → IsAllMatched before → is_some (partner_of (pairs_of before) name) ≡ true
    → message_of (before ++ event ∷ []) (partner_of (pairs_of (before ++ event ∷ [])) name) ≡ message_of before (partner_of (pairs_of before) name)
message_on before event name matched h =
    let p = some_of (partner_of (pairs_of before) name) h in
    let there = there_of before name p.0 matched p.1 in
    ap (message_of (before ++ event ∷ [])) (paired_on before event name p.0 p.1)
    ∙ (ap (message_of_pair p.0) (named_on before (event ∷ []) p.0 there.0 there.1 ∙ sym there.1) ∙ sym (ap (message_of before) p.1))

collected_on : (makes_it uncoloured : Bool) (n : ℕ) (before : List Event) (event : Event) (me k : ℕ) (enter : Call) (inputs : List (List ℤ)) → AllMade n before
    → start_at (view_of before me) k ≡ Some enter → makes enter ≡ makes_it → is_uncoloured enter ≡ uncoloured
    → inputs_of n (view_of before) me (view_of before me) k enter ≡ Ok inputs
    → collected_by makes_it uncoloured (moment_of n (before ++ event ∷ []) me (view_of before me)) k enter inputs ≡ collected_by makes_it uncoloured (moment_at n before me) k enter inputs
collected_on true true n before event me k enter inputs made at m u h = refl
collected_on true false n before event me k enter inputs made at m u h =
    let own : View = view_of before me in
    let origin : Origin = origin_of own k enter in
    let give : ℕ → Got = λ number. Made number (members_made enter (members_for_rank n own (comm_of enter)) inputs me) in
    ap give (ap (λ l. number_among l origin) (communicators_of-push n before event)
    ∙ number_kept (communicators_of n before) (made_at n before event) origin (made me k enter inputs at m u h))
collected_on false uncoloured n before event me k enter inputs made at m u h = refl

got_on : (n : ℕ) (before : List Event) (event : Event) (me k : ℕ) (start : Option Call) → IsAllMatched before → AllMade n before → start_at (view_of before me) k ≡ start
    → is_ready (moment_at n before me) k start ≡ true
    → got_of (moment_of n (before ++ event ∷ []) me (view_of before me)) k start ≡ got_of (moment_at n before me) k start
got_on n before event me k None matched made at h = absurd (cc)
got_on n before event me k (Some (Send comm dest tag ints sync)) matched made at h = refl
got_on n before event me k (Some (Post comm Null tag room)) matched made at h = refl
got_on n before event me k (Some (Post comm Any tag room)) matched made at h = message_on before event (me, k) matched h
got_on n before event me k (Some (Post comm (From source) tag room)) matched made at h = message_on before event (me, k) matched h
got_on n before event me k (Some (Enter comm kind root op count ints)) matched made at h =
    let enter : Call = Enter comm kind root op count ints in
    let own : View = view_of before me in
    let g = gathered_of (inputs_of n (view_of before) me own k enter) h in
    ap (collected (moment_of n (before ++ event ∷ []) me own) k enter) (inputs_on n before event me own k enter g.0 g.1)
    ∙ (collected_on (makes enter) (is_uncoloured enter) n before event me k enter g.0 made at refl refl g.1
    ∙ sym (ap (collected (moment_of n before me own) k enter) g.1))
got_on n before event me k (Some (Take starts mode)) matched made at h = absurd (cc)
got_on n before event me k (Some (Peek comm source tag wait)) matched made at h = absurd (cc)
got_on n before event me k (Some (Abort code)) matched made at h = absurd (cc)
got_on n before event me k (Some (Trap fault)) matched made at h = absurd (cc)
got_on n before event me k (Some End) matched made at h = absurd (cc)

-- 3. completions of all that they list

pub all_same : (first second : ℕ → Bool) (starts : List ℕ) → ((k : ℕ) → first k ≡ true → second k ≡ true) → list_all (λ x. x) (map first starts) ≡ true
    → map second starts ≡ map first starts
all_same first second [] grows h = refl
all_same first second (k ∷ starts) grows h =
    let parts = and_parts (first k) (list_all (λ x. x) (map first starts)) h in
    ap (λ (b : Bool). b ∷ map second starts) (grows k parts.0 ∙ sym parts.0) ∙ ap (λ l. first k ∷ l) (all_same first second starts grows parts.1)

true_at : (P : ℕ → Type 0) (low : ℕ) (flags : List Bool) → ((i : ℕ) → slice_get flags i ≡ Some true → P (low + i)) → AllOf P (true_places low flags)
true_at P low [] each = tt
true_at P low (flag ∷ flags) each =
    let later : (i : ℕ) → slice_get flags i ≡ Some true → P (low + 1 + i) =
    λ i h. (let e : low + suc i ≡ low + 1 + i = omega arith in subst P e (each (suc i) h)) in
    elim (test_cases flag) [
      | inl t ↦ rw t ((let e : low + 0 ≡ low = omega arith in subst P e (each 0 (ap (λ (b : Bool). Some b) t))), true_at P (low + 1) flags later)
      | inr t ↦ rw t (true_at P (low + 1) flags later)
    ]

items_on : (n : ℕ) (before : List Event) (event : Event) (me : ℕ) (starts indices : List ℕ) → IsAllMatched before → AllMade n before
    → AllOf (λ i. is_ready (moment_at n before me) (slice_index starts i) (start_at (view_of before me) (slice_index starts i)) ≡ true) indices
    → items_at (moment_of n (before ++ event ∷ []) me (view_of before me)) starts indices ≡ items_at (moment_at n before me) starts indices
items_on n before event me starts [] matched made all = refl
items_on n before event me starts (index ∷ indices) matched made all =
    let own : View = view_of before me in
    let k : ℕ = slice_index starts index in
    let item : Got → Item = λ got. record { index = index; got = got } in
    ap (λ got. item got ∷ items_at (moment_of n (before ++ event ∷ []) me own) starts indices) (got_on n before event me k (start_at own k) matched made refl all.0)
    ∙ ap (λ (items : List Item). item (got_of (moment_of n before me own) k (start_at own k)) ∷ items) (items_on n before event me starts indices matched made all.1)

-- what a completion of all gives, by the flags and the items
abbrev all_reply : ℕ → View → List ℕ → Bool → List Bool → List Item → Reply
all_reply me own starts test flags items =
    if list_all (λ x. x) flags then taken_reply me (first_long own starts items) items else held_reply test

pub all_on : (n : ℕ) (before : List Event) (event : Event) (me : ℕ) (starts : List ℕ) (test : Bool) → IsAllMatched before → AllMade n before
    → list_all (λ x. x) (flags_of (moment_at n before me) starts) ≡ true
    → all_reply me (view_of before me) starts test (flags_of (moment_of n (before ++ event ∷ []) me (view_of before me)) starts)
    (items_at (moment_of n (before ++ event ∷ []) me (view_of before me)) starts (true_places 0 (flags_of (moment_of n (before ++ event ∷ []) me (view_of before me)) starts)))
    ≡ all_reply me (view_of before me) starts test (flags_of (moment_at n before me) starts)
    (items_at (moment_at n before me) starts (true_places 0 (flags_of (moment_at n before me) starts)))
all_on n before event me starts test matched made h =
    let own : View = view_of before me in
    let after : List Event = before ++ event ∷ [] in
    let first : ℕ → Bool = λ k. is_ready (moment_of n before me own) k (start_at own k) in
    let second : ℕ → Bool = λ k. is_ready (moment_of n after me own) k (start_at own k) in
    let flags : flags_of (moment_of n after me own) starts ≡ flags_of (moment_of n before me own) starts =
    all_same first second starts (λ k t. ready_on n before event me own k (start_at own k) t) h in
    let F : List ℕ → Type 0 = λ l. AllOf (λ i. first (slice_index starts i) ≡ true) l in
    let ready : AllOf (λ i. first (slice_index starts i) ≡ true) (true_places 0 (flags_of (moment_of n before me own) starts)) =
    true_at (λ i. first (slice_index starts i) ≡ true) 0 (flags_of (moment_of n before me own) starts)
    (λ i t. (let e : i ≡ 0 + i = omega arith in let P : ℕ → Type 0 = λ x. first (slice_index starts x) ≡ true in subst P e (flag_there first starts i true t))) in
    let R : List Bool → List Item → Reply = λ l items. all_reply me own starts test l items in
    ap (λ l. R l (items_at (moment_of n after me own) starts (true_places 0 l))) flags
    ∙ ap (R (flags_of (moment_of n before me own) starts)) (items_on n before event me starts (true_places 0 (flags_of (moment_of n before me own) starts)) matched made ready)

-- a reply that is neither a halt nor NotYet says that all is ready
pub all_ready : (n : ℕ) (before : List Event) (me : ℕ) (own : View) (starts : List ℕ) (test : Bool) (items : List Item)
    → halt_of_reply (all_reply me own starts test (flags_of (moment_of n before me own) starts) items) ≡ None → all_reply me own starts test (flags_of (moment_of n before me own) starts) items ≢ NotYet
    → list_all (λ x. x) (flags_of (moment_of n before me own) starts) ≡ true
all_ready n before me own starts test items free ready =
    elim (test_cases (list_all (λ x. x) (flags_of (moment_of n before me own) starts))) [
      | inl t ↦ t
      | inr f ↦ absurd (held_no test (rw f at free) (rw f at ready))
    ]

-- 4. the event behind another rank's

pub record IsFree (n : ℕ) (before : List Event) (me : ℕ) (call : Call) : Type 0 where
  pub halts : halted before ≡ None
  pub full : is_full before ≡ false
  pub own : halt_at n before me (view_of before me) call ≡ None

pub free_parts : (n : ℕ) (before : List Event) (me : ℕ) (call : Call) → due n before me (view_of before me) call ≡ None → IsFree n before me call
free_parts n before me call none =
    let last : Option Halt = halt_at n before me (view_of before me) call in
    let parts = none_parts (halted before) (if is_full before then Some Limit else last) none in
    elim (test_cases (is_full before)) [
      | inl t ↦ (let no : Some Limit ≡ None = rw t at parts.1 in absurd (cc))
      | inr f ↦ record { halts = parts.0; full = f; own = rw f at parts.1 }
    ]

pub free_due : (n : ℕ) (before : List Event) (me : ℕ) (call : Call) → IsFree n before me call → due n before me (view_of before me) call ≡ None
free_due n before me call free = rw (free.halts, free.full, free.own) refl

-- a reply that is no halt comes where none is due
pub reply_free : (n : ℕ) (before : List Event) (me : ℕ) (call : Call) (pick : Pick) → halt_of_reply (picked_reply n before me call pick) ≡ None
    → due n before me (view_of before me) call ≡ None
reply_free n before me call pick free =
    elim (option_cases (due n before me (view_of before me) call)) [
      | inl some ↦
          let no : Some some.0 ≡ None = sym (ap (λ o. halt_of_reply (halt_or o (picked_answer n before me (view_of before me) call pick))) some.1) ∙ free in
          absurd (cc)
      | inr none ↦ none
    ]

pub reply_answer : (n : ℕ) (before : List Event) (me : ℕ) (call : Call) (pick : Pick) → due n before me (view_of before me) call ≡ None
    → picked_reply n before me call pick ≡ picked_answer n before me (view_of before me) call pick
reply_answer n before me call pick none = ap (λ o. halt_or o (picked_answer n before me (view_of before me) call pick)) none

halt_on : (n : ℕ) (before after : List Event) (me : ℕ) (own : View) (call : Call) → is_steady call ≡ true → halt_at n before me own call ≡ None
    → halt_at n after me own call ≡ None
halt_on n before after me own (Post comm source tag room) h none = refl
halt_on n before after me own (Take starts mode) h none = none
halt_on n before after me own End h none = refl
halt_on n before after me own call h none = absurd (cc)

answer_on : (n : ℕ) (before : List Event) (event : Event) (me : ℕ) (call : Call) → is_steady call ≡ true → IsAllMatched before → AllMade n before
    → halt_of_reply (picked_answer n before me (view_of before me) call First) ≡ None → picked_answer n before me (view_of before me) call First ≢ NotYet
    → picked_answer n (before ++ event ∷ []) me (view_of before me) call First ≡ picked_answer n before me (view_of before me) call First
answer_on n before event me (Post comm source tag room) h matched made free ready = refl
answer_on n before event me End h matched made free ready = refl
answer_on n before event me (Take starts All) h matched made free ready =
    let own : View = view_of before me in
    all_on n before event me starts false matched made
    (all_ready n before me own starts false (items_at (moment_of n before me own) starts (true_places 0 (flags_of (moment_of n before me own) starts))) free ready)
answer_on n before event me (Take starts TestAll) h matched made free ready =
    let own : View = view_of before me in
    all_on n before event me starts true matched made
    (all_ready n before me own starts true (items_at (moment_of n before me own) starts (true_places 0 (flags_of (moment_of n before me own) starts))) free ready)
answer_on n before event me (Take starts mode) h matched made free ready = absurd (cc)
answer_on n before event me call h matched made free ready = absurd (cc)

-- a quiet call that is answered, other than by a halt or NotYet
pub record IsAnswered (n : ℕ) (before : List Event) (me : ℕ) (call : Call) : Type 0 where
  pub kind : is_steady call ≡ true
  pub free : halt_of_reply (picked_reply n before me call First) ≡ None
  pub ready : picked_reply n before me call First ≢ NotYet

pub record IsAnsweredOn (n : ℕ) (before after : List Event) (me : ℕ) (call : Call) : Type 0 where
  pub same : picked_event n after me call First ≡ picked_event n before me call First
  pub answered : IsAnswered n after me call

pub answered_on : (n : ℕ) (before : List Event) (event : Event) (me : ℕ) (call : Call) → IsAnswered n before me call → IsAllMatched before → AllMade n before
    → (event.rank == me) ≡ false → halted (before ++ event ∷ []) ≡ None → is_full (before ++ event ∷ []) ≡ false
    → IsAnsweredOn n before (before ++ event ∷ []) me call
answered_on n before event me call a matched made apart halts full =
    let after : List Event = before ++ event ∷ [] in
    let own : View = view_of before me in
    let seen : view_of after me ≡ own = view_of-other before event me apart in
    let none : due n before me own call ≡ None = reply_free n before me call First a.free in
    let was : picked_reply n before me call First ≡ picked_answer n before me own call First = reply_answer n before me call First none in
    let there : halt_at n after me own call ≡ None = halt_on n before after me own call a.kind (free_parts n before me call none).own in
    let H : View → Type 0 = λ v. halt_at n after me v call ≡ None in
    let now : due n after me (view_of after me) call ≡ None =
    free_due n after me call (record { halts = halts; full = full; own = subst H (sym seen) there }) in
    let F : Reply → Type 0 = λ r. halt_of_reply r ≡ None in
    let G : Reply → Type 0 = λ r. r ≢ NotYet in
    let answer : picked_answer n after me (view_of after me) call First ≡ picked_answer n before me own call First =
    ap (λ (v : View). picked_answer n after me v call First) seen ∙ answer_on n before event me call a.kind matched made (subst F was a.free) (subst G was a.ready) in
    let reply : picked_reply n after me call First ≡ picked_reply n before me call First = reply_answer n after me call First now ∙ (answer ∙ sym was) in
    let E : Reply → Option ℕ → Event = λ r m. record { rank = me; call = call; reply = r; mate = m; met = [] } in
    record {
      same = ap (λ r. E r (picked_mate after me call r First)) reply
          ∙ ap (E (picked_reply n before me call First)) (still_mate after me call (picked_reply n before me call First) a.kind
          ∙ sym (still_mate before me call (picked_reply n before me call First) a.kind));
      answered = record { kind = a.kind; free = ap halt_of_reply reply ∙ a.free; ready = subst G (sym reply) a.ready };
    }
