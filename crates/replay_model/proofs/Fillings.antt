-- The entry of an allowed reply stands for that reply, over what its group had seen.
use Rattle.std.proofs.Common.{◌∙◌, ◌∷◌, ◌≡◌, Bool, List, None, Ok, Option, Some, [], ap, append-nil, false, inl, inr, refl, slice_index, true, ℕ, ℤ}
use Rattle.std.specs.Prelude.{if◌then◌else◌}
use Rattle.mpi_call.specs.declared.call.Call.{Call}
use Rattle.mpi_call.specs.declared.call.Call.TheVariants.{Abort, End, Enter, Peek, Post, Send, Take, Trap}
use Rattle.mpi_call.specs.declared.call.Source.TheVariants.{Any, From, Null}
use Rattle.mpi_call.specs.declared.reply.Got.{Got}
use Rattle.mpi_call.specs.declared.reply.Item.{Item}
use Rattle.mpi_call.specs.declared.reply.Reply.{Reply}
use Rattle.mpi_call.specs.declared.reply.Reply.TheVariants.{Done, NotYet, Peeked, Stopped, Took}
use Rattle.mpi_call.specs.Calls.{comm_of, listed_by, makes}
use Rattle.mpi_call.specs.Collectives.{is_member, is_uncoloured, needs}
use Rattle.run_model.specs.declared.event.Event.{Event}
use Rattle.run_model.specs.Allowed.{IsAllowed}
use Rattle.run_model.specs.Communicators.{enter_at, instance_of, members_for_rank}
use Rattle.run_model.specs.Inputs.{gather, inputs_of}
use Rattle.run_model.specs.Readiness.{AreGots, IsFrom, IsGot, IsMessage}
use Rattle.run_model.specs.Views.{Next, View, moment_of, start_at, view_of}
use Rattle.run_model.proofs.Prefixes.{Begins}
use Rattle.run_model.proofs.TrueReplies.{IsTrueReply, reply_true}
use Rattle.run_model.proofs.Views.{test_cases}
use Rattle.srr_entry.specs.Entries.{all_within, entry_of, is_inner, mark_of_got, marks_of_items}
use Rattle.replay_model.specs.Filling.{as_took, fill_mark, fill_marks, filled_reply}

-- the views of a group; other ranks have seen nothing
abbrev pub within : List ℕ → (ℕ → View) → ℕ → View
within group V rank = if is_member group rank then V rank else []

pub Begins-within : (group : List ℕ) (V W : ℕ → View) → Begins V W → Begins (within group V) (within group W)
Begins-within group V W begins rank =
    elim (test_cases (is_member group rank)) [
      | inl i ↦ rw i (begins rank)
      | inr o ↦ rw o ([], refl)
    ]

pub within_begins : (group : List ℕ) (V : ℕ → View) → Begins (within group V) V
within_begins group V rank =
    elim (test_cases (is_member group rank)) [
      | inl t ↦ rw t ([], append-nil (V rank))
      | inr t ↦ rw t (V rank, refl)
    ]

-- In a run, the entry of a reply stands for that reply.
gather-within : (group : List ℕ) (V : ℕ → View) (n comm instance : ℕ) (needed : ℕ → Bool) (members : List ℕ)
    → all_within group needed members ≡ true
    → gather needed (λ m. enter_at n (within group V m) comm instance) members ≡ gather needed (λ m. enter_at n (V m) comm instance) members
gather-within group V n comm instance needed [] h = refl
gather-within group V n comm instance needed (m ∷ members) h =
    elim (test_cases (needed m)) [
      | inl t ↦ elim (test_cases (is_member group m)) [
        | inl i ↦
            let rest : all_within group needed members ≡ true = rw (t, i) at h in
            rw (t, i, gather-within group V n comm instance needed members rest)
        | inr o ↦ let no : false ≡ true = rw (t, o) at h in absurd (cc)
      ]
      | inr t ↦
          let rest : all_within group needed members ≡ true = rw t at h in
          rw (t, gather-within group V n comm instance needed members rest)
    ]

message : (n : ℕ) (group : List ℕ) (before : List Event) (own : View) (me k : ℕ) (got : Got) → IsMessage before me k got
    → fill_mark n (within group (view_of before)) me own k (mark_of_got n group me own k got) ≡ Ok got
message n group before own me k got is =
    let source : ℕ = is.send.0 in
    let start : ℕ = is.send.1 in
    elim (test_cases (is_member group source)) [
      | inl i ↦ rw (is.got_is, i, i, is.sent)
      | inr o ↦ rw (is.got_is, o)
    ]

inputs-within : (n : ℕ) (group : List ℕ) (V : ℕ → View) (own : View) (me k : ℕ) (enter : Call) (inputs : List (List ℤ))
    → start_at own k ≡ Some enter → is_inner n group me own (start_at own k) ≡ true → inputs_of n V me own k enter ≡ Ok inputs
    → inputs_of n (within group V) me own k enter ≡ Ok inputs
inputs-within n group V own me k enter inputs at inner gathered =
    let all : all_within group (needs enter (members_for_rank n own (comm_of enter)) me) (members_for_rank n own (comm_of enter)) ≡ true = rw at at inner in
    gather-within group V n (comm_of enter) (instance_of own k (comm_of enter)) (needs enter (members_for_rank n own (comm_of enter)) me) (members_for_rank n own (comm_of enter)) all ∙ gathered

collected : (n : ℕ) (group : List ℕ) (before : List Event) (own : View) (me k : ℕ) (enter : Call) (got : Got) (m u : Bool) (inputs : List (List ℤ))
    → start_at own k ≡ Some enter → inputs_of n (view_of before) me own k enter ≡ Ok inputs → IsFrom m u n me own enter inputs got
    → fill_mark n (within group (view_of before)) me own k (mark_of_got n group me own k got) ≡ Ok got
collected n group before own me k enter got true true inputs at gathered given =
    elim (test_cases (is_inner n group me own (start_at own k))) [
      | inl i ↦ rw (given, i)
      | inr o ↦ rw (given, o)
    ]
collected n group before own me k enter got true false inputs at gathered given =
    elim (test_cases (is_inner n group me own (start_at own k))) [
      | inl i ↦
          let there = inputs-within n group (view_of before) own me k enter inputs at i gathered in
          rw (given.got_is, i, given.is_new, at, there)
      | inr o ↦ rw (given.got_is, o)
    ]
collected n group before own me k enter got false u inputs at gathered given =
    elim (test_cases (is_inner n group me own (start_at own k))) [
      | inl i ↦
          let there = inputs-within n group (view_of before) own me k enter inputs at i gathered in
          rw (given, i, at, there)
      | inr o ↦ rw (given, o)
    ]

got_filled : (n : ℕ) (group : List ℕ) (before : List Event) (own : View) (me k : ℕ) (start : Option Call) (got : Got)
    → start_at own k ≡ start → IsGot (moment_of n before me own) k start got
    → fill_mark n (within group (view_of before)) me own k (mark_of_got n group me own k got) ≡ Ok got
got_filled n group before own me k None got at is = absurd is
got_filled n group before own me k (Some (Send comm dest tag ints sync)) got at is = rw is
got_filled n group before own me k (Some (Post comm Null tag room)) got at is = rw is
got_filled n group before own me k (Some (Post comm Any tag room)) got at is = message n group before own me k got is
got_filled n group before own me k (Some (Post comm (From source) tag room)) got at is = message n group before own me k got is
got_filled n group before own me k (Some (Enter comm kind root op count ints)) got at is =
    collected n group before own me k (Enter comm kind root op count ints) got (makes (Enter comm kind root op count ints)) (is_uncoloured (Enter comm kind root op count ints)) is.inputs at is.gathered is.given
got_filled n group before own me k (Some (Take starts mode)) got at is = absurd is
got_filled n group before own me k (Some (Peek comm source tag wait)) got at is = absurd is
got_filled n group before own me k (Some (Abort code)) got at is = absurd is
got_filled n group before own me k (Some (Trap fault)) got at is = absurd is
got_filled n group before own me k (Some End) got at is = absurd is

gots_filled : (n : ℕ) (group : List ℕ) (before : List Event) (own : View) (me : ℕ) (starts : List ℕ) (items : List Item)
    → AreGots (moment_of n before me own) starts items
    → fill_marks n (within group (view_of before)) me own starts (marks_of_items n group me own starts items) ≡ Ok items
gots_filled n group before own me starts [] are = refl
gots_filled n group before own me starts (item ∷ items) are =
    rw (got_filled n group before own me (slice_index starts item.index) (start_at own (slice_index starts item.index)) item.got refl are.0, gots_filled n group before own me starts items are.1)

pub filled_true : (n : ℕ) (group : List ℕ) (before : List Event) (own : View) (me : ℕ) (call : Call) (reply : Reply)
    → IsTrueReply n before own me call reply
    → filled_reply n (within group (view_of before)) me own call (entry_of n group me own call reply) ≡ Ok reply
filled_true n group before own me (Send comm dest tag ints sync) Done is = refl
filled_true n group before own me (Post comm source tag room) Done is = refl
filled_true n group before own me (Enter comm kind root op count ints) Done is = refl
filled_true n group before own me call Done is = refl
filled_true n group before own me call NotYet is = refl
filled_true n group before own me call (Stopped halt) is = refl
filled_true n group before own me call (Took items) is = ap as_took (gots_filled n group before own me (listed_by call) items is)
filled_true n group before own me call (Peeked source start tag count) is =
    elim (test_cases (is_member group source)) [
      | inl i ↦ rw (i, i, is.sent, is.counted)
      | inr o ↦ rw o
    ]

-- the entry of an allowed reply stands for it
pub filled_allowed : (next : Next) (n : ℕ) (group : List ℕ) (before : List Event) (me : ℕ) (call : Call) (reply : Reply)
    → IsAllowed next n before me call reply
    → filled_reply n (within group (view_of before)) me (view_of before me) call (entry_of n group me (view_of before me) call reply) ≡ Ok reply
filled_allowed next n group before me call reply is =
    filled_true n group before (view_of before me) me call reply (reply_true next n before me call reply is)
