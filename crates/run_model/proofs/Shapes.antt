-- In a run each reply has the shape of its call.
use Rattle.std.proofs.Common.{◌<◌, ◌==◌, ◌||◌, ◌∷◌, ◌≡◌, Bool, List, None, Ok, Option, Some, [], false, inl, inr, length, map, nat_le, nat_lt, not, refl, slice_index, subst, sym, true, ℕ, ℤ}
use Rattle.std.proofs.lemmas.Bool.{eq-eqb, le-leb, lt-ltb, ltb-false, not_from_false, or_left, or_right}
use Rattle.std.proofs.lemmas.List.{length-map}
use Rattle.mpi_call.specs.declared.call.Call.{Call}
use Rattle.mpi_call.specs.declared.call.Call.TheVariants.{Abort, End, Enter, Peek, Post, Send, Take, Trap}
use Rattle.mpi_call.specs.declared.call.Halt.{Halt}
use Rattle.mpi_call.specs.declared.call.Halt.TheVariants.{Aborted, BadRequest, Limit, Mismatched, Stuck, Trapped, Truncated}
use Rattle.mpi_call.specs.declared.call.Kind.{Kind}
use Rattle.mpi_call.specs.declared.call.Kind.TheVariants.{Allgather, Allreduce, Alltoall, Barrier, Bcast, Dup, Gather, Reduce, Scan, Scatter, Split}
use Rattle.mpi_call.specs.declared.call.Op.{Op}
use Rattle.mpi_call.specs.declared.call.Source.{Source}
use Rattle.mpi_call.specs.declared.call.Source.TheVariants.{Any, From, Null}
use Rattle.mpi_call.specs.declared.call.Tag.{Tag}
use Rattle.mpi_call.specs.declared.call.TakeMode.{TakeMode}
use Rattle.mpi_call.specs.declared.call.TakeMode.TheVariants.{All, Any as AnyOne, Several, TestAll, TestAny, TestSeveral}
use Rattle.mpi_call.specs.declared.reply.Got.{Got}
use Rattle.mpi_call.specs.declared.reply.Got.TheVariants.{Made}
use Rattle.mpi_call.specs.declared.reply.Item.{Item}
use Rattle.mpi_call.specs.declared.reply.Reply.{Reply}
use Rattle.mpi_call.specs.declared.reply.Reply.TheVariants.{Done, Stopped}
use Rattle.mpi_call.specs.Acceptance.{accepts, source_agrees, tag_agrees}
use Rattle.mpi_call.specs.Calls.{makes}
use Rattle.mpi_call.specs.Collectives.{IsEnterOf, is_member, is_uncoloured, members_made, result_length, result_of}
use Rattle.mpi_call.specs.Halts.{fault_number}
use Rattle.mpi_call.proofs.MadeLemmas.{int_eq-itself}
use Rattle.mpi_call.proofs.ResultLemmas.{length-result_of}
use Rattle.run_model.specs.declared.event.Event.{Event}
use Rattle.run_model.specs.Allowed.{IsAllowed, IsAllowedBy, IsDeadlock, IsHeld, IsLate, IsPeekAnswer, IsTakeAnswer, first_long, flags_of, has_open, is_long, is_some_mode, mode_holds, probe_of, taken_reply}
use Rattle.run_model.specs.Communicators.{members_for_rank}
use Rattle.run_model.specs.Due.{bad_request, due, halt_at, halted, is_full, is_mismatched}
use Rattle.run_model.specs.Inputs.{inputs_of}
use Rattle.run_model.specs.Lists.{same_ranks}
use Rattle.run_model.specs.Pairs.{IsMatched}
use Rattle.run_model.specs.Readiness.{AreGots, IsFrom, IsGot, IsMessage}
use Rattle.run_model.specs.Shape.{got_fits, gots_fit, halt_fits, has_count, has_shape, is_dup, is_test}
use Rattle.run_model.specs.Views.{Next, View, moment_at, moment_of, start_at, view_of}
use Rattle.run_model.proofs.Halts.{names}
use Rattle.run_model.proofs.Instances.{SameInstances, input_own, inputs_fit, own_enter}
use Rattle.run_model.proofs.Matched.{accepts-parts, taken_pair}
use Rattle.run_model.specs.Forms.{AreMembers}
use Rattle.run_model.proofs.MemberLists.{AreMembers-made, same_ranks-refl}
use Rattle.run_model.proofs.TakeShapes.{ChosenFits, bad_listed, chosen_fit, long_listed, none_bad}
use Rattle.run_model.proofs.Views.{option_cases, test_cases}

-- what a run gives of a rank's own Enters: they are apart, and the rank is below n
pub record Collects (n : ℕ) (before : List Event) (me : ℕ) : Type 0 where
  pub same : SameInstances n (view_of before)
  pub below : me < n

room_fits : (room : ℕ) (ints : List ℤ) → nat_lt room (length ints) ≡ false → nat_le (length ints) room ≡ true
room_fits room ints h = le-leb (length ints) room (ltb-false room (length ints) h)

-- a message is accepted, and within the room
pub record Receives (before : List Event) (me k comm : ℕ) (source : Source) (tag : Tag) (room : ℕ) (got : Got) : Type 0 where
  pub is : IsMessage before me k got
  pub accepted : accepts me comm source tag is.send.0 (Send is.comm is.dest is.tag is.ints is.sync) ≡ true
  pub source_is : source_agrees source is.send.0 ≡ true
  pub tag_is : tag_agrees tag is.tag ≡ true
  pub within : nat_le (length is.ints) room ≡ true

pub receives : (before : List Event) (me k comm : ℕ) (source : Source) (tag : Tag) (room : ℕ) (got : Got) → IsMatched before
    → start_at (view_of before me) k ≡ Some (Post comm source tag room) → IsMessage before me k got
    → is_long (Some (Post comm source tag room)) got ≡ false → Receives before me k comm source tag room got
receives before me k comm source tag room got matched at is short =
    let accepted = taken_pair before (me, k) is.send comm source tag room is.comm is.dest is.tag is.ints is.sync matched is.paired at is.sent in
    let agrees = accepts-parts me comm source tag is.send.0 is.comm is.dest is.tag is.ints is.sync accepted in
    let long : nat_lt room (length is.ints) ≡ false = rw is.got_is at short in
    record { is = is; accepted = accepted; source_is = agrees.source_is; tag_is = agrees.tag_is; within = room_fits room is.ints long }

message_shaped : (n : ℕ) (own : View) (before : List Event) (me k comm : ℕ) (source : Source) (tag : Tag) (room : ℕ) (got : Got)
    → Receives before me k comm source tag room got → got_fits n me own (Some (Post comm source tag room)) got ≡ true
message_shaped n own before me k comm Null tag room got of = absurd (let no : false ≡ true = of.source_is in cc)
message_shaped n own before me k comm Any tag room got of = rw (of.is.got_is, of.tag_is, of.within)
message_shaped n own before me k comm (From other) tag room got of = rw (of.is.got_is, of.source_is, of.tag_is, of.within)

dup_same : (call : Call) (members : List ℕ) (inputs : List (List ℤ)) (me : ℕ)
    → (not (is_dup call) || same_ranks members (members_made call members inputs me)) ≡ true
dup_same (Enter comm Dup root op count ints) members inputs me = same_ranks-refl members
dup_same (Enter comm Barrier root op count ints) members inputs me = refl
dup_same (Enter comm Bcast root op count ints) members inputs me = refl
dup_same (Enter comm Reduce root op count ints) members inputs me = refl
dup_same (Enter comm Allreduce root op count ints) members inputs me = refl
dup_same (Enter comm Gather root op count ints) members inputs me = refl
dup_same (Enter comm Allgather root op count ints) members inputs me = refl
dup_same (Enter comm Scatter root op count ints) members inputs me = refl
dup_same (Enter comm Alltoall root op count ints) members inputs me = refl
dup_same (Enter comm Scan root op count ints) members inputs me = refl
dup_same (Enter comm Split root op count ints) members inputs me = refl
dup_same (Send comm dest tag ints sync) members inputs me = refl
dup_same (Post comm source tag room) members inputs me = refl
dup_same (Take starts mode) members inputs me = refl
dup_same (Peek comm source tag wait) members inputs me = refl
dup_same (Abort code) members inputs me = refl
dup_same (Trap fault) members inputs me = refl
dup_same End members inputs me = refl

-- a new communicator's members, as the table gives them
new_shaped : (n me c : ℕ) (own : View) (comm : ℕ) (kind : Kind) (root : Option ℕ) (op : Option Op) (count : ℕ) (ints : List ℤ) (made : List ℕ)
    → makes (Enter comm kind root op count ints) ≡ true → is_uncoloured (Enter comm kind root op count ints) ≡ false
    → (c == 0) ≡ false → AreMembers n me made
    → (not (is_dup (Enter comm kind root op count ints)) || same_ranks (members_for_rank n own comm) made) ≡ true
    → got_fits n me own (Some (Enter comm kind root op count ints)) (Made c made) ≡ true
new_shaped n me c own comm kind root op count ints [] makes_is coloured real are dup = absurd (let no : false ≡ true = are.has_me in cc)
new_shaped n me c own comm kind root op count ints (m ∷ made) makes_is coloured real are dup = rw (makes_is, coloured, real, are.below, are.distinct, are.has_me, dup)

collected_shaped : (n : ℕ) (before : List Event) (me k comm : ℕ) (kind : Kind) (root : Option ℕ) (op : Option Op) (count : ℕ) (ints : List ℤ) (got : Got) (m u : Bool) (inputs : List (List ℤ))
    → Collects n before me → start_at (view_of before me) k ≡ Some (Enter comm kind root op count ints)
    → inputs_of n (view_of before) me (view_of before me) k (Enter comm kind root op count ints) ≡ Ok inputs
    → makes (Enter comm kind root op count ints) ≡ m → is_uncoloured (Enter comm kind root op count ints) ≡ u
    → IsFrom m u n me (view_of before me) (Enter comm kind root op count ints) inputs got
    → got_fits n me (view_of before me) (Some (Enter comm kind root op count ints)) got ≡ true
collected_shaped n before me k comm kind root op count ints got true true inputs of at gathered makes_is un given = rw (given, makes_is, un)
collected_shaped n before me k comm kind root op count ints got true false inputs of at gathered makes_is un given =
    let enter : Call = Enter comm kind root op count ints in
    let own : View = view_of before me in
    let mine = own_enter n (view_of before) me k enter of.same at refl in
    let old = of.same.fine me comm mine.members of.below mine.known in
    let F : List ℕ → Type 0 = λ l. AreMembers n me l in
    let are : AreMembers n me (members_for_rank n own comm) = subst F (sym mine.all) old in
    let input = input_own n (view_of before) me k enter inputs of.same at refl gathered are.has_me in
    let made = AreMembers-made n me enter (members_for_rank n own comm) inputs makes_is un are input in
    rw given.got_is
    (new_shaped n me given.comm own comm kind root op count ints (members_made enter (members_for_rank n own comm) inputs me) makes_is un given.is_new made (dup_same enter (members_for_rank n own comm) inputs me))
collected_shaped n before me k comm kind root op count ints got false u inputs of at gathered makes_is un given =
    let enter : Call = Enter comm kind root op count ints in
    let own : View = view_of before me in
    let M : List ℕ = members_for_rank n own comm in
    let mine = own_enter n (view_of before) me k enter of.same at refl in
    let old = of.same.fine me comm mine.members of.below mine.known in
    let F : List ℕ → Type 0 = λ l. is_member l me ≡ true in
    let member : is_member M me ≡ true = subst F (sym mine.all) old.has_me in
    let G : List ℕ → Type 0 = λ l. IsEnterOf enter l me in
    let fit = inputs_fit n (view_of before) me k enter inputs of.same at refl gathered in
    let long : length (result_of enter M inputs me) ≡ result_length enter M me = length-result_of enter M inputs me (subst G (sym mine.all) mine.form) member fit in
    let sized : (length (result_of enter M inputs me) == result_length enter M me) ≡ true = eq-eqb (length (result_of enter M inputs me)) (result_length enter M me) long in
    rw (given, makes_is, sized)

got_shaped : (n : ℕ) (before : List Event) (me k : ℕ) (start : Option Call) (got : Got) → IsMatched before → Collects n before me
    → start_at (view_of before me) k ≡ start → IsGot (moment_at n before me) k start got → is_long start got ≡ false
    → got_fits n me (view_of before me) start got ≡ true
got_shaped n before me k None got matched of at is short = absurd is
got_shaped n before me k (Some (Send comm dest tag ints sync)) got matched of at is short = rw is
got_shaped n before me k (Some (Post comm Null tag room)) got matched of at is short = rw is
got_shaped n before me k (Some (Post comm Any tag room)) got matched of at is short = message_shaped n (view_of before me) before me k comm Any tag room got (receives before me k comm Any tag room got matched at is short)
got_shaped n before me k (Some (Post comm (From source) tag room)) got matched of at is short = message_shaped n (view_of before me) before me k comm (From source) tag room got (receives before me k comm (From source) tag room got matched at is short)
got_shaped n before me k (Some (Enter comm kind root op count ints)) got matched of at is short =
    collected_shaped n before me k comm kind root op count ints got (makes (Enter comm kind root op count ints)) (is_uncoloured (Enter comm kind root op count ints)) is.inputs of at is.gathered refl refl is.given
got_shaped n before me k (Some (Take starts mode)) got matched of at is short = absurd is
got_shaped n before me k (Some (Peek comm source tag wait)) got matched of at is short = absurd is
got_shaped n before me k (Some (Abort code)) got matched of at is short = absurd is
got_shaped n before me k (Some (Trap fault)) got matched of at is short = absurd is
got_shaped n before me k (Some End) got matched of at is short = absurd is

gots_shaped : (n : ℕ) (before : List Event) (me : ℕ) (starts : List ℕ) (items : List Item) → IsMatched before
    → Collects n before me → AreGots (moment_at n before me) starts items
    → first_long (view_of before me) starts items ≡ None → gots_fit n me (view_of before me) starts items ≡ true
gots_shaped n before me starts [] matched of are short = refl
gots_shaped n before me starts (item ∷ items) matched of are short =
    let own : View = view_of before me in
    let k : ℕ = slice_index starts item.index in
    elim (test_cases (is_long (start_at own k) item.got)) [
      | inl t ↦ (let no : Some k ≡ None = rw t at short in absurd (cc))
      | inr t ↦ (
          let one = got_shaped n before me k (start_at own k) item.got matched of refl are.0 t in
          let rest = gots_shaped n before me starts items matched of are.1 (rw t at short) in
          rw (one, rest))
    ]

unnamed_fits : (me : ℕ) (call : Call) (halt : Halt) → names me halt ≡ false → halt_fits me call halt ≡ true
unnamed_fits me call (Aborted rank code) h = or_left _ _ (not_from_false _ h)
unnamed_fits me call (Trapped rank fault) h = or_left _ _ (not_from_false _ h)
unnamed_fits me call (Truncated rank start) h = or_left _ _ (not_from_false _ h)
unnamed_fits me call (Mismatched rank) h = or_left _ _ (not_from_false _ h)
unnamed_fits me call (BadRequest rank start) h = or_left _ _ (not_from_false _ h)
unnamed_fits me call Limit h = refl
unnamed_fits me call Stuck h = refl

stopped_shaped : (n me : ℕ) (own : View) (call : Call) (halt : Halt) (reply : Reply) → reply ≡ Stopped halt
    → halt_fits me call halt ≡ true → has_shape n me own call reply ≡ true
stopped_shaped n me own call halt reply is h = rw is h

held_take : (n me : ℕ) (own : View) (starts : List ℕ) (mode : TakeMode) (test : Bool) (stuck : Type 0) (reply : Reply)
    → is_test mode ≡ test → IsHeld test stuck reply → has_shape n me own (Take starts mode) reply ≡ true
held_take n me own starts mode true stuck reply t is = rw is t
held_take n me own starts mode false stuck reply t is = rw is.1

held_peek : (n me : ℕ) (own : View) (comm : ℕ) (source : Source) (tag : Tag) (wait test : Bool) (stuck : Type 0) (reply : Reply)
    → not wait ≡ test → IsHeld test stuck reply → has_shape n me own (Peek comm source tag wait) reply ≡ true
held_peek n me own comm source tag wait true stuck reply t is = rw is t
held_peek n me own comm source tag wait false stuck reply t is = rw is.1

taken_shaped : (n : ℕ) (before : List Event) (me : ℕ) (starts : List ℕ) (mode : TakeMode) (long : Option ℕ) (items : List Item) (reply : Reply)
    → IsMatched before → Collects n before me → bad_request (view_of before me) [] starts ≡ None
    → first_long (view_of before me) starts items ≡ long → reply ≡ taken_reply me long items
    → ChosenFits mode (length starts) (map (λ (item : Item). item.index) items)
    → AreGots (moment_at n before me) starts items → has_shape n me (view_of before me) (Take starts mode) reply ≡ true
taken_shaped n before me starts mode None items reply matched of good short is chosen gots =
    let own : View = view_of before me in
    let count : has_count mode (length starts) (length items) ≡ true = simp length-map at chosen.count in
    rw (is, count, chosen.rising, none_bad own [] starts good, gots_shaped n before me starts items matched of gots short)
taken_shaped n before me starts mode (Some k) items reply matched of good long is chosen gots =
    stopped_shaped n me (view_of before me) (Take starts mode) (Truncated me k) reply is (or_right _ _ (long_listed (view_of before me) starts 0 items k chosen.rising long))

take_shaped : (n : ℕ) (before : List Event) (me : ℕ) (starts : List ℕ) (mode : TakeMode) (condition : Bool) (stuck : Type 0) (reply : Reply)
    → IsMatched before → Collects n before me → bad_request (view_of before me) [] starts ≡ None
    → mode_holds mode (flags_of (moment_at n before me) starts) ≡ condition
    → IsTakeAnswer condition stuck (moment_at n before me) starts mode reply
    → has_shape n me (view_of before me) (Take starts mode) reply ≡ true
take_shaped n before me starts mode true stuck reply matched of good h is =
    let own : View = view_of before me in
    let chosen = chosen_fit mode (flags_of (moment_of n before me own) starts) (map (λ (item : Item). item.index) is.items) is.chosen h in
    let by_length : ChosenFits mode (length starts) (map (λ (item : Item). item.index) is.items) = simp length-map at chosen in
    taken_shaped n before me starts mode (first_long own starts is.items) is.items reply matched of good refl is.reply_is by_length is.gots
take_shaped n before me starts mode false stuck reply matched of good h is =
    held_take n me (view_of before me) starts mode (is_test mode) stuck reply refl is

peek_shaped : (n : ℕ) (before : List Event) (own : View) (me comm : ℕ) (source : Source) (tag : Tag) (wait found : Bool) (stuck : Type 0) (reply : Reply)
    → IsPeekAnswer found stuck before (probe_of me comm source tag) wait reply → has_shape n me own (Peek comm source tag wait) reply ≡ true
peek_shaped n before own me comm source tag wait true stuck reply is =
    let agrees = accepts-parts me comm source tag is.send.0 is.c is.dest is.t is.ints is.sync is.accepted in
    rw (is.reply_is, agrees.source_is, agrees.tag_is)
peek_shaped n before own me comm source tag wait false stuck reply is = held_peek n me own comm source tag wait (not wait) stuck reply refl is

-- a call that no earlier halt and no bound stops
answer_shaped : (n : ℕ) (before : List Event) (me : ℕ) (call : Call) (halt : Option Halt) (stuck : Type 0) (reply : Reply)
    → IsMatched before → Collects n before me → halt_at n before me (view_of before me) call ≡ halt
    → IsAllowedBy halt stuck (moment_at n before me) call reply → has_shape n me (view_of before me) call reply ≡ true
answer_shaped n before me (Send comm dest tag ints sync) halt stuck reply matched of h is =
    let F : Option Halt → Type 0 = λ x. IsAllowedBy x stuck (moment_at n before me) (Send comm dest tag ints sync) reply in
    let none : None ≡ halt = h in
    let done : reply ≡ Done = subst F (sym none) is in
    rw done
answer_shaped n before me (Post comm source tag room) halt stuck reply matched of h is =
    let F : Option Halt → Type 0 = λ x. IsAllowedBy x stuck (moment_at n before me) (Post comm source tag room) reply in
    let none : None ≡ halt = h in
    let done : reply ≡ Done = subst F (sym none) is in
    rw done
answer_shaped n before me End halt stuck reply matched of h is =
    let F : Option Halt → Type 0 = λ x. IsAllowedBy x stuck (moment_at n before me) End reply in
    let none : None ≡ halt = h in
    let done : reply ≡ Done = subst F (sym none) is in
    rw done
answer_shaped n before me (Abort code) halt stuck reply matched of h is =
    let F : Option Halt → Type 0 = λ x. IsAllowedBy x stuck (moment_at n before me) (Abort code) reply in
    stopped_shaped n me (view_of before me) (Abort code) (Aborted me code) reply (subst F (sym h) is) (or_right _ _ (int_eq-itself code))
answer_shaped n before me (Trap fault) halt stuck reply matched of h is =
    let F : Option Halt → Type 0 = λ x. IsAllowedBy x stuck (moment_at n before me) (Trap fault) reply in
    stopped_shaped n me (view_of before me) (Trap fault) (Trapped me fault) reply (subst F (sym h) is) (or_right _ _ (eq-eqb (fault_number fault) (fault_number fault) refl))
answer_shaped n before me (Peek comm source tag wait) halt stuck reply matched of h is =
    let F : Option Halt → Type 0 = λ x. IsAllowedBy x stuck (moment_at n before me) (Peek comm source tag wait) reply in
    let none : None ≡ halt = h in
    peek_shaped n before (view_of before me) me comm source tag wait (has_open n before me comm source tag) stuck reply (subst F (sym none) is)
answer_shaped n before me (Enter comm kind root op count ints) halt stuck reply matched of h is =
    let own : View = view_of before me in
    let F : Option Halt → Type 0 = λ x. IsAllowedBy x stuck (moment_of n before me own) (Enter comm kind root op count ints) reply in
    elim (test_cases (is_mismatched n before own (Enter comm kind root op count ints))) [
      | inl t ↦ (let some : Some (Mismatched me) ≡ halt = rw t at h in stopped_shaped n me own (Enter comm kind root op count ints) (Mismatched me) reply (subst F (sym some) is) (or_right _ _ refl))
      | inr t ↦ (let none : None ≡ halt = rw t at h in let done : reply ≡ Done = subst F (sym none) is in rw done)
    ]
answer_shaped n before me (Take starts mode) halt stuck reply matched of h is =
    let own : View = view_of before me in
    let F : Option Halt → Type 0 = λ x. IsAllowedBy x stuck (moment_of n before me own) (Take starts mode) reply in
    elim (option_cases (bad_request own [] starts)) [
      | inl bad ↦ (
          let some : Some (BadRequest me bad.0) ≡ halt = rw bad.1 at h in
          stopped_shaped n me own (Take starts mode) (BadRequest me bad.0) reply (subst F (sym some) is) (or_right _ _ (bad_listed own [] starts bad.0 bad.1)))
      | inr good ↦ (
          let none : None ≡ halt = rw good at h in
          take_shaped n before me starts mode (mode_holds mode (flags_of (moment_of n before me own) starts)) stuck reply matched of good refl (subst F (sym none) is))
    ]

-- the halt so far does not name the rank
pub record Unnamed (before : List Event) (me : ℕ) : Type 0 where
  pub unnamed : (halt : Halt) → halted before ≡ Some halt → names me halt ≡ false

given_shaped : (stuck : Type 0) (n : ℕ) (before : List Event) (me : ℕ) (call : Call) (reply : Reply) → IsMatched before
    → Collects n before me → Unnamed before me → IsAllowedBy (due n before me (view_of before me) call) stuck (moment_at n before me) call reply
    → has_shape n me (view_of before me) call reply ≡ true
given_shaped stuck n before me call reply matched of unnamed is =
    let own : View = view_of before me in
    let F : Option Halt → Type 0 = λ x. IsAllowedBy x stuck (moment_of n before me own) call reply in
    elim (option_cases (halted before)) [
      | inl some ↦ (
          let e : due n before me own call ≡ Some some.0 = rw some.1 in
          stopped_shaped n me own call some.0 reply (subst F e is) (unnamed_fits me call some.0 (unnamed.unnamed some.0 some.1)))
      | inr none ↦ elim (test_cases (is_full before)) [
        | inl t ↦ (
            let e : due n before me own call ≡ Some Limit = rw (none, t) in
            stopped_shaped n me own call Limit reply (subst F e is) refl)
        | inr t ↦ (
            let e : due n before me own call ≡ halt_at n before me own call = rw (none, t) in
            answer_shaped n before me call (halt_at n before me own call) stuck reply matched of refl (subst F e is))
      ]
    ]

-- a list of starts is in order where no halt is due
free_request : (n : ℕ) (before : List Event) (me : ℕ) (starts : List ℕ) (mode : TakeMode) → due n before me (view_of before me) (Take starts mode) ≡ None
    → bad_request (view_of before me) [] starts ≡ None
free_request n before me starts mode free =
    let own : View = view_of before me in
    elim (option_cases (bad_request own [] starts)) [
      | inl bad ↦ absurd (elim (option_cases (halted before)) [
        | inl some ↦ (let no : Some some.0 ≡ None = rw some.1 at free in cc)
        | inr none ↦ elim (test_cases (is_full before)) [
          | inl t ↦ (let no : Some Limit ≡ None = rw (none, t) at free in cc)
          | inr t ↦ (let no : Some (BadRequest me bad.0) ≡ None = rw (none, t, bad.1) at free in cc)
        ]
      ])
      | inr good ↦ good
    ]

part_count : (mode : TakeMode) (starts items : ℕ) → is_some_mode mode ≡ true → 0 < items → has_count mode starts items ≡ true
part_count Several starts items is some = lt-ltb 0 items some
part_count TestSeveral starts items is some = lt-ltb 0 items some
part_count All starts items is some = absurd (cc)
part_count AnyOne starts items is some = absurd (cc)
part_count TestAll starts items is some = absurd (cc)
part_count TestAny starts items is some = absurd (cc)

late_shaped : (n : ℕ) (before : List Event) (me : ℕ) (call : Call) (reply : Reply) → IsMatched before
    → Collects n before me → due n before me (view_of before me) call ≡ None → IsLate (moment_at n before me) call reply
    → has_shape n me (view_of before me) call reply ≡ true
late_shaped n before me (Take starts mode) reply matched of free is = elim is [
  | inl not_yet ↦ rw (not_yet.2, not_yet.0)
  | inr part ↦ (
      let own : View = view_of before me in
      let many : has_count mode (length starts) (length (map (λ (item : Item). item.index) part.items)) ≡ true =
      rw length-map (part_count mode (length starts) (length part.items) part.mode_is part.some) in
      taken_shaped n before me starts mode (first_long own starts part.items) part.items reply matched of (free_request n before me starts mode free) refl part.reply_is
      (record { count = many; rising = part.rising }) part.gots)
]
late_shaped n before me (Peek comm source tag wait) reply matched of free is = rw (is.1, is.0)
late_shaped n before me (Send comm dest tag ints sync) reply matched of free is = absurd is
late_shaped n before me (Post comm source tag room) reply matched of free is = absurd is
late_shaped n before me (Enter comm kind root op count ints) reply matched of free is = absurd is
late_shaped n before me (Abort code) reply matched of free is = absurd is
late_shaped n before me (Trap fault) reply matched of free is = absurd is
late_shaped n before me End reply matched of free is = absurd is

pub allowed_shaped : (next : Next) (n : ℕ) (before : List Event) (me : ℕ) (call : Call) (reply : Reply) → IsMatched before
    → Collects n before me → Unnamed before me → IsAllowed next n before me call reply
    → has_shape n me (view_of before me) call reply ≡ true
allowed_shaped next n before me call reply matched of unnamed is =
    elim is [
      | inl given ↦ given_shaped (IsDeadlock next n before) n before me call reply matched of unnamed given.0
      | inr late ↦ late_shaped n before me call reply matched of late.0 late.1
    ]
