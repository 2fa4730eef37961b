-- The entry of a reply in the shape of its call fits that call.
use Rattle.std.proofs.Common.{◌&&◌, ◌==◌, ◌∙◌, ◌∷◌, ◌≡◌, Bool, List, None, Option, Some, [], ap, arith, false, inl, inr, length, map, nat_le, not, refl, slice_index, subst, sym, true, ℕ, ℤ}
use Rattle.std.proofs.lemmas.Bool.{and_parts, eqb-true}
use Rattle.std.proofs.lemmas.List.{length-map}
use Rattle.std.specs.List.{list_all}
use Rattle.mpi_call.specs.declared.call.Call.{Call}
use Rattle.mpi_call.specs.declared.call.Call.TheVariants.{End, Enter, Peek, Post, Send, Take}
use Rattle.mpi_call.specs.declared.call.Kind.{Kind}
use Rattle.mpi_call.specs.declared.call.Op.{Op}
use Rattle.mpi_call.specs.declared.call.Source.TheVariants.{Any, From, Null}
use Rattle.mpi_call.specs.declared.call.TakeMode.{TakeMode}
use Rattle.mpi_call.specs.declared.reply.Got.{Got}
use Rattle.mpi_call.specs.declared.reply.Got.TheVariants.{Joined, Made, Message, Nothing, Sent}
use Rattle.mpi_call.specs.declared.reply.Item.{Item}
use Rattle.mpi_call.specs.declared.reply.Reply.{Reply}
use Rattle.mpi_call.specs.declared.reply.Reply.TheVariants.{Done, NotYet, Peeked, Stopped, Took}
use Rattle.mpi_call.specs.Acceptance.{source_agrees, tag_agrees}
use Rattle.mpi_call.specs.Calls.{comm_of, makes}
use Rattle.mpi_call.specs.Collectives.{is_member, is_uncoloured, needs}
use Rattle.mpi_call.proofs.NeedsLemmas.{needs-uncoloured}
use Rattle.run_model.specs.Communicators.{members_for_rank}
use Rattle.run_model.specs.Shape.{are_members, can_take, got_fits, gots_fit, has_count, has_shape, is_sized, rise_within}
use Rattle.run_model.specs.Views.{View, start_at}
use Rattle.run_model.proofs.Views.{test_cases}
use Rattle.srr_entry.specs.declared.entry.Entry.TheVariants.{Took as EntryTook}
use Rattle.srr_entry.specs.declared.entry.Marked.{Marked}
use Rattle.srr_entry.specs.Entries.{all_within, entry_of, is_inner, mark_of_got, marks_of_items}
use Rattle.replay_model.specs.Fits.{entry_fits, mark_fits, marks_fit}

pub all_within-me : (group : List ℕ) (needed : ℕ → Bool) (me : ℕ) (members : List ℕ) → ((who : ℕ) → needed who ≡ (who == me))
    → is_member group me ≡ true → all_within group needed members ≡ true
all_within-me group needed me [] alone member = refl
all_within-me group needed me (m ∷ members) alone member =
    let rest = all_within-me group needed me members alone member in
    elim (test_cases (m == me)) [
      | inl t ↦ (
          let same : m ≡ me = eqb-true m me t in
          let yes : needed m ≡ true = alone m ∙ t in
          let F : ℕ → Type 0 = λ x. is_member group x ≡ true in
          let inside : is_member group m ≡ true = subst F (sym same) member in
          rw (yes, inside, rest))
      | inr t ↦ (let no : needed m ≡ false = alone m ∙ t in rw (no, rest))
    ]

-- an uncoloured Split needs the rank alone
pub uncoloured_inner : (n : ℕ) (group : List ℕ) (me : ℕ) (own : View) (enter : Call) → is_member group me ≡ true
    → is_uncoloured enter ≡ true → is_inner n group me own (Some enter) ≡ true
uncoloured_inner n group me own enter member un =
    all_within-me group (needs enter (members_for_rank n own (comm_of enter)) me) me (members_for_rank n own (comm_of enter)) (λ who. needs-uncoloured enter (members_for_rank n own (comm_of enter)) me who un) member

pub not_true : (b : Bool) → not b ≡ true → b ≡ false
not_true true h = absurd (cc)
not_true false h = refl

joined_fits : (n : ℕ) (group : List ℕ) (me : ℕ) (own : View) (k comm : ℕ) (kind : Kind) (root : Option ℕ) (op : Option Op) (count : ℕ) (ints : List ℤ) (given : List ℤ)
    → start_at own k ≡ Some (Enter comm kind root op count ints)
    → got_fits n me own (Some (Enter comm kind root op count ints)) (Joined given) ≡ true
    → mark_fits n group me own (Some (Enter comm kind root op count ints)) (mark_of_got n group me own k (Joined given)) ≡ true
joined_fits n group me own k comm kind root op count ints given at h =
    let enter : Call = Enter comm kind root op count ints in
    let parts = and_parts (not (makes enter)) (is_sized n me own enter given) h in
    elim (test_cases (is_inner n group me own (Some enter))) [
      | inl i ↦ rw (at, i, parts.0, i)
      | inr o ↦ rw (at, o, parts.0, o, parts.1)
    ]

none_fits : (n : ℕ) (group : List ℕ) (me : ℕ) (own : View) (k c comm : ℕ) (kind : Kind) (root : Option ℕ) (op : Option Op) (count : ℕ) (ints : List ℤ)
    → is_member group me ≡ true → start_at own k ≡ Some (Enter comm kind root op count ints)
    → got_fits n me own (Some (Enter comm kind root op count ints)) (Made c []) ≡ true
    → mark_fits n group me own (Some (Enter comm kind root op count ints)) (mark_of_got n group me own k (Made c [])) ≡ true
none_fits n group me own k c comm kind root op count ints member at h =
    let enter : Call = Enter comm kind root op count ints in
    let one = and_parts (makes enter) (is_uncoloured enter && (c == 0)) h in
    let two = and_parts (is_uncoloured enter) (c == 0) one.1 in
    let inner = uncoloured_inner n group me own enter member two.0 in
    rw (at, inner, one.0, inner, two.1, two.0)

made_fits : (n : ℕ) (group : List ℕ) (me : ℕ) (own : View) (k c comm : ℕ) (kind : Kind) (root : Option ℕ) (op : Option Op) (count : ℕ) (ints : List ℤ) (m : ℕ) (members : List ℕ)
    → start_at own k ≡ Some (Enter comm kind root op count ints)
    → got_fits n me own (Some (Enter comm kind root op count ints)) (Made c (m ∷ members)) ≡ true
    → mark_fits n group me own (Some (Enter comm kind root op count ints)) (mark_of_got n group me own k (Made c (m ∷ members))) ≡ true
made_fits n group me own k c comm kind root op count ints m members at h =
    let enter : Call = Enter comm kind root op count ints in
    let one = and_parts (makes enter) (not (is_uncoloured enter) && (not (c == 0) && are_members n me enter (members_for_rank n own (comm_of enter)) (m ∷ members))) h in
    let two = and_parts (not (is_uncoloured enter)) (not (c == 0) && are_members n me enter (members_for_rank n own (comm_of enter)) (m ∷ members)) one.1 in
    let three = and_parts (not (c == 0)) (are_members n me enter (members_for_rank n own (comm_of enter)) (m ∷ members)) two.1 in
    let real : (c == 0) ≡ false = not_true (c == 0) three.0 in
    elim (test_cases (is_inner n group me own (Some enter))) [
      | inl i ↦ rw (at, i, one.0, i, real, two.0)
      | inr o ↦ rw (at, o, one.0, o, three.0, three.1)
    ]

-- what a start gave, in its shape, has a mark that fits
mark_shaped : (n : ℕ) (group : List ℕ) (me : ℕ) (own : View) (k : ℕ) (start : Option Call) (got : Got) → is_member group me ≡ true
    → start_at own k ≡ start → got_fits n me own start got ≡ true
    → mark_fits n group me own start (mark_of_got n group me own k got) ≡ true
mark_shaped n group me own k None got member at h = absurd (cc)
mark_shaped n group me own k (Some (Send comm dest tag ints sync)) Sent member at h = refl
mark_shaped n group me own k (Some (Post comm Null tag room)) Nothing member at h = refl
mark_shaped n group me own k (Some (Post comm Null tag room)) (Message source start t ints) member at h = absurd (cc)
mark_shaped n group me own k (Some (Post comm Any tag room)) (Message source start t ints) member at h =
    elim (test_cases (is_member group source)) [ inl i ↦ rw i | inr o ↦ rw o h ]
mark_shaped n group me own k (Some (Post comm (From other) tag room)) (Message source start t ints) member at h =
    let parts = and_parts (other == source) (tag_agrees tag t && nat_le (length ints) room) h in
    elim (test_cases (is_member group source)) [ inl i ↦ rw i parts.0 | inr o ↦ rw o h ]
mark_shaped n group me own k (Some (Enter comm kind root op count ints)) (Joined given) member at h = joined_fits n group me own k comm kind root op count ints given at h
mark_shaped n group me own k (Some (Enter comm kind root op count ints)) (Made c []) member at h = none_fits n group me own k c comm kind root op count ints member at h
mark_shaped n group me own k (Some (Enter comm kind root op count ints)) (Made c (m ∷ members)) member at h = made_fits n group me own k c comm kind root op count ints m members at h
mark_shaped n group me own k (Some call) (Made c []) member at h = absurd (cc)
mark_shaped n group me own k (Some call) (Made c (m ∷ members)) member at h = absurd (cc)
mark_shaped n group me own k (Some call) got member at h = absurd (cc)

marks_shaped : (n : ℕ) (group : List ℕ) (me : ℕ) (own : View) (starts : List ℕ) (items : List Item) → is_member group me ≡ true
    → gots_fit n me own starts items ≡ true → marks_fit n group me own starts (marks_of_items n group me own starts items) ≡ true
marks_shaped n group me own starts [] member h = refl
marks_shaped n group me own starts (item ∷ items) member h =
    let k : ℕ = slice_index starts item.index in
    let parts = and_parts (got_fits n me own (start_at own k) item.got) (gots_fit n me own starts items) h in
    rw (mark_shaped n group me own k (start_at own k) item.got member refl parts.0, marks_shaped n group me own starts items member parts.1)

-- marks
pub marks_index : (n : ℕ) (group : List ℕ) (me : ℕ) (own : View) (starts : List ℕ) (items : List Item)
    → map (λ (marked : Marked). marked.index) (marks_of_items n group me own starts items) ≡ map (λ (item : Item). item.index) items
marks_index n group me own starts [] = refl
marks_index n group me own starts (item ∷ items) = ap (λ l. item.index ∷ l) (marks_index n group me own starts items)

pub marks_length : (n : ℕ) (group : List ℕ) (me : ℕ) (own : View) (starts : List ℕ) (items : List Item)
    → length (marks_of_items n group me own starts items) ≡ length (map (λ (item : Item). item.index) items)
marks_length n group me own starts [] = refl
marks_length n group me own starts (item ∷ items) = (let rest = marks_length n group me own starts items in omega (arith, rest))

-- the parts of a Take's shape
pub record TakeShape (n me : ℕ) (own : View) (starts : List ℕ) (mode : TakeMode) (items : List Item) : Type 0 where
  pub count : has_count mode (length starts) (length items) ≡ true
  pub rising : rise_within 0 (length starts) (map (λ (item : Item). item.index) items) ≡ true
  pub listed : list_all (λ k. can_take own k) starts ≡ true
  pub gots : gots_fit n me own starts items ≡ true

pub take_shape : (n me : ℕ) (own : View) (starts : List ℕ) (mode : TakeMode) (items : List Item)
    → has_shape n me own (Take starts mode) (Took items) ≡ true → TakeShape n me own starts mode items
take_shape n me own starts mode items h =
    let one = and_parts (has_count mode (length starts) (length items)) (rise_within 0 (length starts) (map (λ (item : Item). item.index) items) && (list_all (λ k. can_take own k) starts && gots_fit n me own starts items)) h in
    let two = and_parts (rise_within 0 (length starts) (map (λ (item : Item). item.index) items)) (list_all (λ k. can_take own k) starts && gots_fit n me own starts items) one.1 in
    let three = and_parts (list_all (λ k. can_take own k) starts) (gots_fit n me own starts items) two.1 in
    record { count = one.0; rising = two.0; listed = three.0; gots = three.1 }

took_fits : (n : ℕ) (group : List ℕ) (me : ℕ) (own : View) (starts : List ℕ) (mode : TakeMode) (items : List Item)
    → is_member group me ≡ true → TakeShape n me own starts mode items
    → entry_fits n group me own (Take starts mode) (EntryTook (marks_of_items n group me own starts items)) ≡ true
unfolding entry_fits
took_fits n group me own starts mode items member shape =
    let many : length (map (λ (item : Item). item.index) items) ≡ length items = length-map items (λ (item : Item). item.index) in
    rw (marks_length n group me own starts items, many, shape.count, marks_index n group me own starts items, shape.rising, shape.listed, marks_shaped n group me own starts items member shape.gots)

-- the entry of a reply in shape fits
pub fits_shaped : (n : ℕ) (group : List ℕ) (me : ℕ) (own : View) (call : Call) (reply : Reply) → is_member group me ≡ true
    → has_shape n me own call reply ≡ true → entry_fits n group me own call (entry_of n group me own call reply) ≡ true
unfolding entry_fits
fits_shaped n group me own call (Stopped halt) member h = h
fits_shaped n group me own (Send comm dest tag ints sync) Done member h = refl
fits_shaped n group me own (Post comm source tag room) Done member h = refl
fits_shaped n group me own (Enter comm kind root op count ints) Done member h = refl
fits_shaped n group me own End Done member h = refl
fits_shaped n group me own (Take starts mode) NotYet member h = h
fits_shaped n group me own (Peek comm source tag wait) NotYet member h = h
fits_shaped n group me own (Peek comm from tag wait) (Peeked source start t count) member h =
    let parts = and_parts (source_agrees from source) (tag_agrees tag t) h in
    elim (test_cases (is_member group source)) [ inl i ↦ rw i parts.0 | inr o ↦ rw o h ]
fits_shaped n group me own (Take starts mode) (Took items) member h = took_fits n group me own starts mode items member (take_shape n me own starts mode items h)
fits_shaped n group me own call reply member h = absurd (cc)
