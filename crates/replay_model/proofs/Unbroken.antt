-- In a run, no start that an entry rests on disagrees with it.
use Rattle.std.proofs.Common.{◌&&◌, ◌==◌, ◌∙◌, ◌∷◌, ◌≡◌, Bool, List, None, Option, Some, [], false, inl, inr, length, nat_le, refl, slice_index, true, ℕ, ℤ}
use Rattle.std.proofs.lemmas.Bool.{and_parts}
use Rattle.mpi_call.specs.declared.call.Call.{Call}
use Rattle.mpi_call.specs.declared.call.Call.TheVariants.{Abort, End, Enter, Peek, Post, Send, Take, Trap}
use Rattle.mpi_call.specs.declared.call.Source.{Source}
use Rattle.mpi_call.specs.declared.call.Source.TheVariants.{Any, From, Null}
use Rattle.mpi_call.specs.declared.call.Tag.{Tag}
use Rattle.mpi_call.specs.declared.reply.Got.{Got}
use Rattle.mpi_call.specs.declared.reply.Item.{Item}
use Rattle.mpi_call.specs.declared.reply.Reply.{Reply}
use Rattle.mpi_call.specs.declared.reply.Reply.TheVariants.{Done, NotYet, Peeked, Stopped, Took}
use Rattle.mpi_call.specs.Acceptance.{tag_agrees}
use Rattle.mpi_call.specs.Calls.{comm_of, is_enter, makes}
use Rattle.mpi_call.specs.Collectives.{agree, is_member, is_uncoloured, needs}
use Rattle.run_model.specs.declared.event.Event.{Event}
use Rattle.run_model.specs.Communicators.{Entered, enter_at, instance_of, members_for_rank}
use Rattle.run_model.specs.Pairs.{IsMatched}
use Rattle.run_model.specs.Readiness.{AreGots, IsFrom, IsGot, IsMessage}
use Rattle.run_model.specs.Shape.{got_fits, gots_fit, has_shape}
use Rattle.run_model.specs.Views.{View, moment_at, start_at, view_of}
use Rattle.run_model.proofs.MemberLists.{same_ranks-refl}
use Rattle.run_model.proofs.Instances.{SameInstances, other_enter, own_enter}
use Rattle.run_model.proofs.Matched.{taken_pair}
use Rattle.run_model.proofs.TrueReplies.{IsPeekedSend, IsTrueReply}
use Rattle.run_model.proofs.Views.{test_cases}
use Rattle.srr_entry.specs.Entries.{all_within, entry_of, is_inner, mark_of_got, marks_of_items}
use Rattle.replay_model.specs.Breaks.{break_enter, break_inner, break_mark, break_marks, break_members, broken}
use Rattle.replay_model.proofs.Fillings.{within}
use Rattle.replay_model.proofs.ShapedFits.{take_shape}

break_none : (enter : Call) (all : List ℕ) (m : ℕ) (o : Option Entered)
    → ((entered : Entered) → o ≡ Some entered → (agree enter entered.call ≡ true) × (entered.members ≡ Some all))
    → break_enter enter all m o ≡ None
break_none enter all m None fit = refl
break_none enter all m (Some entered) fit =
    let of = fit entered refl in
    rw (of.0, of.1, same_ranks-refl all)

fits_members : (enter : Call) (all : List ℕ) (needed : ℕ → Bool) (find : ℕ → Option Entered) (members : List ℕ)
    → ((m : ℕ) (entered : Entered) → find m ≡ Some entered → (agree enter entered.call ≡ true) × (entered.members ≡ Some all))
    → break_members enter all needed find members ≡ None
fits_members enter all needed find [] fit = refl
fits_members enter all needed find (m ∷ members) fit =
    let rest = fits_members enter all needed find members fit in
    elim (test_cases (needed m)) [
      | inl t ↦ rw (t, break_none enter all m (find m) (fit m), rest)
      | inr t ↦ rw (t, rest)
    ]

-- no Enter of an instance disagrees with a rank's own
inner_unbroken : (n : ℕ) (V : ℕ → View) (me k : ℕ) (enter : Call) → SameInstances n V → start_at (V me) k ≡ Some enter
    → is_enter enter ≡ true → break_inner n V me (V me) k (Some enter) ≡ None
inner_unbroken n V me k enter same at is =
    let C : ℕ = comm_of enter in
    let own = own_enter n V me k enter same at is in
    let M : List ℕ = own.members in
    rw own.all (fits_members enter M (needs enter M me) (λ m. enter_at n (V m) C (instance_of (V me) k C)) M (λ m entered found. (
    let other = other_enter n V me k m enter entered same own found in
    (other.agrees, other.known))))

break_members-within : (group : List ℕ) (V : ℕ → View) (n comm instance : ℕ) (enter : Call) (all : List ℕ) (needed : ℕ → Bool) (members : List ℕ)
    → all_within group needed members ≡ true
    → break_members enter all needed (λ m. enter_at n (within group V m) comm instance) members ≡ break_members enter all needed (λ m. enter_at n (V m) comm instance) members
break_members-within group V n comm instance enter all needed [] h = refl
break_members-within group V n comm instance enter all needed (m ∷ members) h =
    elim (test_cases (needed m)) [
      | inl t ↦ elim (test_cases (is_member group m)) [
        | inl i ↦ (let rest : all_within group needed members ≡ true = rw (t, i) at h in rw (t, i, break_members-within group V n comm instance enter all needed members rest))
        | inr o ↦ (let no : false ≡ true = rw (t, o) at h in absurd (cc))
      ]
      | inr t ↦ (let rest : all_within group needed members ≡ true = rw t at h in rw (t, break_members-within group V n comm instance enter all needed members rest))
    ]

-- the same within the group, where all that are needed are of it
inner_none : (n : ℕ) (group : List ℕ) (V : ℕ → View) (me k : ℕ) (enter : Call) → SameInstances n V
    → start_at (V me) k ≡ Some enter → is_enter enter ≡ true → is_inner n group me (V me) (Some enter) ≡ true
    → break_inner n (within group V) me (V me) k (start_at (V me) k) ≡ None
inner_none n group V me k enter same at is inner =
    let C : ℕ = comm_of enter in
    let M : List ℕ = members_for_rank n (V me) C in
    rw at
    (break_members-within group V n C (instance_of (V me) k C) enter M (needs enter M me) M inner
    ∙ inner_unbroken n V me k enter same at is)

-- a message from inside the group is one that the receive accepts, within its room
message_unbroken : (n : ℕ) (group : List ℕ) (before : List Event) (me k comm : ℕ) (source : Source) (tag : Tag) (room : ℕ) (got : Got)
    → IsMatched before → start_at (view_of before me) k ≡ Some (Post comm source tag room) → (is : IsMessage before me k got)
    → nat_le (length is.ints) room ≡ true
    → break_mark n (within group (view_of before)) me (view_of before me) k (mark_of_got n group me (view_of before me) k got) ≡ None
message_unbroken n group before me k comm source tag room got matched at is short =
    let accepted = taken_pair before (me, k) is.send comm source tag room is.comm is.dest is.tag is.ints is.sync matched is.paired at is.sent in
    elim (test_cases (is_member group is.send.0)) [
      | inl i ↦ rw (is.got_is, i, i, is.sent, at, accepted, short)
      | inr o ↦ rw (is.got_is, o)
    ]

message_short : (n : ℕ) (own : View) (before : List Event) (me k comm : ℕ) (source : Source) (tag : Tag) (room : ℕ) (got : Got)
    → (is : IsMessage before me k got) → got_fits n me own (Some (Post comm source tag room)) got ≡ true
    → nat_le (length is.ints) room ≡ true
message_short n own before me k comm Null tag room got is h = absurd (let no : false ≡ true = rw is.got_is at h in cc)
message_short n own before me k comm Any tag room got is h =
    let all : (tag_agrees tag is.tag && nat_le (length is.ints) room) ≡ true = rw is.got_is at h in
    (and_parts (tag_agrees tag is.tag) (nat_le (length is.ints) room) all).1
message_short n own before me k comm (From other) tag room got is h =
    let all : ((other == is.send.0) && (tag_agrees tag is.tag && nat_le (length is.ints) room)) ≡ true = rw is.got_is at h in
    let rest = and_parts (other == is.send.0) (tag_agrees tag is.tag && nat_le (length is.ints) room) all in
    (and_parts (tag_agrees tag is.tag) (nat_le (length is.ints) room) rest.1).1

collected_unbroken : (n : ℕ) (group : List ℕ) (before : List Event) (me k : ℕ) (enter : Call) (got : Got) (m u : Bool) (inputs : List (List ℤ))
    → SameInstances n (view_of before) → start_at (view_of before me) k ≡ Some enter → is_enter enter ≡ true
    → IsFrom m u n me (view_of before me) enter inputs got
    → break_mark n (within group (view_of before)) me (view_of before me) k (mark_of_got n group me (view_of before me) k got) ≡ None
collected_unbroken n group before me k enter got true true inputs same at is given =
    elim (test_cases (is_inner n group me (view_of before me) (start_at (view_of before me) k))) [
      | inl i ↦ rw (given, i)
      | inr o ↦ rw (given, o)
    ]
collected_unbroken n group before me k enter got true false inputs same at is given =
    elim (test_cases (is_inner n group me (view_of before me) (start_at (view_of before me) k))) [
      | inl i ↦ rw (given.got_is, i, given.is_new, inner_none n group (view_of before) me k enter same at is (rw at at i))
      | inr o ↦ rw (given.got_is, o)
    ]
collected_unbroken n group before me k enter got false u inputs same at is given =
    elim (test_cases (is_inner n group me (view_of before me) (start_at (view_of before me) k))) [
      | inl i ↦ rw (given, i, inner_none n group (view_of before) me k enter same at is (rw at at i))
      | inr o ↦ rw (given, o)
    ]

mark_unbroken : (n : ℕ) (group : List ℕ) (before : List Event) (me k : ℕ) (start : Option Call) (got : Got) → IsMatched before
    → SameInstances n (view_of before) → start_at (view_of before me) k ≡ start
    → IsGot (moment_at n before me) k start got → got_fits n me (view_of before me) start got ≡ true
    → break_mark n (within group (view_of before)) me (view_of before me) k (mark_of_got n group me (view_of before me) k got) ≡ None
mark_unbroken n group before me k None got matched same at is fit = absurd is
mark_unbroken n group before me k (Some (Send comm dest tag ints sync)) got matched same at is fit = rw is
mark_unbroken n group before me k (Some (Post comm Null tag room)) got matched same at is fit = rw is
mark_unbroken n group before me k (Some (Post comm Any tag room)) got matched same at is fit = message_unbroken n group before me k comm Any tag room got matched at is (message_short n (view_of before me) before me k comm Any tag room got is fit)
mark_unbroken n group before me k (Some (Post comm (From other) tag room)) got matched same at is fit = message_unbroken n group before me k comm (From other) tag room got matched at is (message_short n (view_of before me) before me k comm (From other) tag room got is fit)
mark_unbroken n group before me k (Some (Enter comm kind root op count ints)) got matched same at is fit =
    collected_unbroken n group before me k (Enter comm kind root op count ints) got (makes (Enter comm kind root op count ints)) (is_uncoloured (Enter comm kind root op count ints)) is.inputs same at refl is.given
mark_unbroken n group before me k (Some (Take starts mode)) got matched same at is fit = absurd is
mark_unbroken n group before me k (Some (Peek comm source tag wait)) got matched same at is fit = absurd is
mark_unbroken n group before me k (Some (Abort code)) got matched same at is fit = absurd is
mark_unbroken n group before me k (Some (Trap fault)) got matched same at is fit = absurd is
mark_unbroken n group before me k (Some End) got matched same at is fit = absurd is

marks_unbroken : (n : ℕ) (group : List ℕ) (before : List Event) (me : ℕ) (starts : List ℕ) (items : List Item) → IsMatched before
    → SameInstances n (view_of before) → AreGots (moment_at n before me) starts items
    → gots_fit n me (view_of before me) starts items ≡ true
    → break_marks n (within group (view_of before)) me (view_of before me) starts (marks_of_items n group me (view_of before me) starts items) ≡ None
marks_unbroken n group before me starts [] matched same are fit = refl
marks_unbroken n group before me starts (item ∷ items) matched same are fit =
    let own : View = view_of before me in
    let k : ℕ = slice_index starts item.index in
    let parts = and_parts (got_fits n me own (start_at own k) item.got) (gots_fit n me own starts items) fit in
    rw (mark_unbroken n group before me k (start_at own k) item.got matched same refl are.0 parts.0, marks_unbroken n group before me starts items matched same are.1 parts.1)

peeked_unbroken : (n : ℕ) (group : List ℕ) (before : List Event) (own : View) (me : ℕ) (call : Call) (source start tag count : ℕ)
    → IsPeekedSend before me call source start tag count
    → broken n (within group (view_of before)) me own call (entry_of n group me own call (Peeked source start tag count)) ≡ None
peeked_unbroken n group before own me (Peek comm from t wait) source start tag count is =
    elim (test_cases (is_member group source)) [
      | inl i ↦ rw (i, i, is.sent, is.accepted)
      | inr o ↦ rw o
    ]
peeked_unbroken n group before own me call source start tag count is = absurd (let no : false ≡ true = is.accepted in cc)

-- the entry of a true reply in shape breaks on nothing that its group had seen
pub unbroken : (n : ℕ) (group : List ℕ) (before : List Event) (me : ℕ) (call : Call) (reply : Reply) → IsMatched before
    → SameInstances n (view_of before) → IsTrueReply n before (view_of before me) me call reply
    → has_shape n me (view_of before me) call reply ≡ true
    → broken n (within group (view_of before)) me (view_of before me) call (entry_of n group me (view_of before me) call reply) ≡ None
unbroken n group before me (Send comm dest tag ints sync) Done matched same is shape = refl
unbroken n group before me (Post comm source tag room) Done matched same is shape = refl
unbroken n group before me (Enter comm kind root op count ints) Done matched same is shape = refl
unbroken n group before me call Done matched same is shape = refl
unbroken n group before me call NotYet matched same is shape = refl
unbroken n group before me call (Stopped halt) matched same is shape = refl
unbroken n group before me (Take starts mode) (Took items) matched same is shape =
    marks_unbroken n group before me starts items matched same is (take_shape n me (view_of before me) starts mode items shape).gots
unbroken n group before me call (Took items) matched same is shape = absurd (cc)
unbroken n group before me call (Peeked source start tag count) matched same is shape = peeked_unbroken n group before (view_of before me) me call source start tag count is
