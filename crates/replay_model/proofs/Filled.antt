-- What an entry stands for does not change as others go on.
use Rattle.std.proofs.Common.{◌==◌, ◌∙◌, ◌∷◌, ◌≡◌, Bool, Err, List, None, Ok, Option, Result, Some, [], ap, inl, inr, refl, slice_index, sym, ℕ, ℤ}
use Rattle.mpi_call.specs.declared.call.Call.{Call}
use Rattle.mpi_call.specs.declared.reply.Got.{Got}
use Rattle.mpi_call.specs.declared.reply.Item.{Item}
use Rattle.mpi_call.specs.declared.reply.Reply.{Reply}
use Rattle.mpi_call.specs.Calls.{comm_of, ints_of, listed_by}
use Rattle.mpi_call.specs.Collectives.{needs}
use Rattle.run_model.specs.Communicators.{Entered, enter_at, instance_of, members_for_rank}
use Rattle.run_model.specs.Inputs.{gather, inputs_of}
use Rattle.run_model.specs.Views.{View, start_at}
use Rattle.run_model.proofs.Gathering.{inputs-kept, pushed, with_some}
use Rattle.run_model.proofs.Prefixes.{Begins}
use Rattle.run_model.proofs.StartLemmas.{Keeps, enter_at-kept, start_at-kept}
use Rattle.run_model.proofs.Views.{test_cases}
use Rattle.srr_entry.specs.declared.entry.Entry.{Entry}
use Rattle.srr_entry.specs.declared.entry.Entry.TheVariants.{Ended as EntryEnded, Entered as EntryEntered, NotYet as EntryNotYet, PeekedInside, PeekedOutside, Posted, Sent as EntrySent, Stopped as EntryStopped, Took as EntryTook}
use Rattle.srr_entry.specs.declared.entry.Mark.{Mark}
use Rattle.srr_entry.specs.declared.entry.Mark.TheVariants.{Inner, Inside, Made as MarkMade, MadeOutside, Nothing as MarkNothing, Outer, Outside, Sent as MarkSent}
use Rattle.srr_entry.specs.declared.entry.Marked.{Marked}
use Rattle.replay_model.specs.declared.step.Missing.{Missing}
use Rattle.replay_model.specs.Breaks.{break_inner, break_mark, break_marks, break_members, break_send, broken}
use Rattle.replay_model.specs.Filling.{as_took, asker_of, fill_inner, fill_made, fill_mark, fill_marks, filled_message, filled_reply, joined_result, made_new, peeked_from, push_item}

message-same : (source start : ℕ) (o p : Option Call) (got : Got) → Keeps o p → filled_message source start o ≡ Ok got → p ≡ o
message-same source start None p got keeps h = absurd (cc)
message-same source start (Some call) p got keeps h = keeps.kept call refl

peeked-same : (source start : ℕ) (o p : Option Call) (reply : Reply) → Keeps o p → peeked_from source start o ≡ Ok reply → p ≡ o
peeked-same source start None p reply keeps h = absurd (cc)
peeked-same source start (Some call) p reply keeps h = keeps.kept call refl

-- as long as none is missing, the same Enters are found, and the same of them disagree
pub break_members-same : (needed : ℕ → Bool) (find later : ℕ → Option Entered) (members : List ℕ) (inputs : List (List ℤ)) (enter : Call) (all : List ℕ)
    → ((m : ℕ) → Keeps (find m) (later m)) → gather needed find members ≡ Ok inputs
    → break_members enter all needed later members ≡ break_members enter all needed find members
break_members-same needed find later [] inputs enter all keeps h = refl
break_members-same needed find later (m ∷ members) inputs enter all keeps h =
    elim (test_cases (needed m)) [
      | inl t ↦
          let some = with_some m (find m) (gather needed find members) inputs (rw t at h) in
          let rest = pushed (ints_of some.0.call) (gather needed find members) inputs some.2 in
          let same = break_members-same needed find later members rest.0 enter all keeps rest.1 in
          let found : later m ≡ find m = (keeps m).kept some.0 some.1 ∙ sym some.1 in
          rw (t, found, same)
      | inr t ↦
          let rest = pushed [] (gather needed find members) inputs (rw t at h) in
          rw (t, break_members-same needed find later members rest.0 enter all keeps rest.1)
    ]

joined-ok : (n : ℕ) (own : View) (me k : ℕ) (enter : Call) (inputs : Result (List (List ℤ)) ℕ) (got : Got)
    → joined_result n me own k enter inputs ≡ Ok got → (all : List (List ℤ)) × (inputs ≡ Ok all)
joined-ok n own me k enter (Ok all) got h = (all, refl)
joined-ok n own me k enter (Err m) got h = absurd (cc)

made_new-ok : (comm n : ℕ) (own : View) (me k : ℕ) (enter : Call) (inputs : Result (List (List ℤ)) ℕ) (got : Got)
    → made_new comm (asker_of n me own) k enter inputs ≡ Ok got → (all : List (List ℤ)) × (inputs ≡ Ok all)
made_new-ok comm n own me k enter (Ok all) got h = (all, refl)
made_new-ok comm n own me k enter (Err m) got h = absurd (cc)

-- the same mark, over longer views
record SameMark (n : ℕ) (V W : ℕ → View) (own : View) (me k : ℕ) (mark : Mark) : Type 0 where
  filled : fill_mark n W me own k mark ≡ fill_mark n V me own k mark
  breaks : break_mark n W me own k mark ≡ break_mark n V me own k mark

enters-kept : (n : ℕ) (V W : ℕ → View) (own : View) (k : ℕ) (enter : Call) → Begins V W → (m : ℕ)
    → Keeps (enter_at n (V m) (comm_of enter) (instance_of own k (comm_of enter))) (enter_at n (W m) (comm_of enter) (instance_of own k (comm_of enter)))
enters-kept n V W own k enter begins m = enter_at-kept n (V m) (W m) (comm_of enter) (instance_of own k (comm_of enter)) (begins m)

break_inner-same : (n : ℕ) (V W : ℕ → View) (own : View) (me k : ℕ) (enter : Call) (inputs : List (List ℤ)) → Begins V W
    → inputs_of n V me own k enter ≡ Ok inputs → break_inner n W me own k (Some enter) ≡ break_inner n V me own k (Some enter)
break_inner-same n V W own me k enter inputs begins h =
    break_members-same (needs enter (members_for_rank n own (comm_of enter)) me) (λ m. enter_at n (V m) (comm_of enter) (instance_of own k (comm_of enter))) (λ m. enter_at n (W m) (comm_of enter) (instance_of own k (comm_of enter))) (members_for_rank n own (comm_of enter)) inputs enter (members_for_rank n own (comm_of enter)) (enters-kept n V W own k enter begins) h

fill_inner-same : (n : ℕ) (V W : ℕ → View) (own : View) (me k : ℕ) (enter : Option Call) (got : Got) → Begins V W
    → fill_inner n V me own k enter ≡ Ok got
    → (fill_inner n W me own k enter ≡ fill_inner n V me own k enter) × (break_inner n W me own k enter ≡ break_inner n V me own k enter)
fill_inner-same n V W own me k None got begins h = (refl, refl)
fill_inner-same n V W own me k (Some enter) got begins h =
    let all = joined-ok n own me k enter (inputs_of n V me own k enter) got h in
    let there = inputs-kept n V W own me k enter all.0 begins all.1 in
    (ap (joined_result n me own k enter) (there ∙ sym all.1), break_inner-same n V W own me k enter all.0 begins all.1)

fill_made-same : (comm n : ℕ) (V W : ℕ → View) (own : View) (me k : ℕ) (enter : Option Call) (got : Got) → Begins V W
    → fill_made comm V (asker_of n me own) k enter ≡ Ok got
    → (fill_made comm W (asker_of n me own) k enter ≡ fill_made comm V (asker_of n me own) k enter) × (break_inner n W me own k enter ≡ break_inner n V me own k enter)
fill_made-same comm n V W own me k None got begins h = (refl, refl)
fill_made-same comm n V W own me k (Some enter) got begins h =
    let all = made_new-ok comm n own me k enter (inputs_of n V me own k enter) got h in
    let there = inputs-kept n V W own me k enter all.0 begins all.1 in
    (ap (made_new comm (asker_of n me own) k enter) (there ∙ sym all.1), break_inner-same n V W own me k enter all.0 begins all.1)

fill_mark-same : (n : ℕ) (V W : ℕ → View) (own : View) (me k : ℕ) (mark : Mark) (got : Got) → Begins V W
    → fill_mark n V me own k mark ≡ Ok got → SameMark n V W own me k mark
fill_mark-same n V W own me k MarkSent got begins h = record { filled = refl; breaks = refl }
fill_mark-same n V W own me k MarkNothing got begins h = record { filled = refl; breaks = refl }
fill_mark-same n V W own me k (Outside source start tag ints) got begins h = record { filled = refl; breaks = refl }
fill_mark-same n V W own me k (Outer ints) got begins h = record { filled = refl; breaks = refl }
fill_mark-same n V W own me k (MadeOutside comm members) got begins h = record { filled = refl; breaks = refl }
fill_mark-same n V W own me k (Inside source start) got begins h =
    let same = message-same source start (start_at (V source) start) (start_at (W source) start) got (start_at-kept (V source) (W source) start (begins source)) h in
    record { filled = ap (filled_message source start) same; breaks = ap (break_send me source start (start_at own k)) same }
fill_mark-same n V W own me k Inner got begins h =
    let same = fill_inner-same n V W own me k (start_at own k) got begins h in
    record { filled = same.0; breaks = same.1 }
fill_mark-same n V W own me k (MarkMade comm) got begins h =
    elim (test_cases (comm == 0)) [
      | inl t ↦ record { filled = rw t; breaks = rw t }
      | inr t ↦
          let same = fill_made-same comm n V W own me k (start_at own k) got begins (rw t at h) in
          record { filled = rw t same.0; breaks = rw t same.1 }
    ]

push_item-ok : (index : ℕ) (first : Result Got Missing) (rest : Result (List Item) Missing) (items : List Item)
    → push_item index first rest ≡ Ok items → (got : Got) × (others : List Item) × (first ≡ Ok got) × (rest ≡ Ok others)
push_item-ok index (Err m) rest items h = absurd (cc)
push_item-ok index (Ok got) (Err m) items h = absurd (cc)
push_item-ok index (Ok got) (Ok others) items h = (got, others, refl, refl)

fill_marks-same : (n : ℕ) (V W : ℕ → View) (own : View) (me : ℕ) (starts : List ℕ) (marks : List Marked) (items : List Item)
    → Begins V W → fill_marks n V me own starts marks ≡ Ok items
    → (fill_marks n W me own starts marks ≡ fill_marks n V me own starts marks) × (break_marks n W me own starts marks ≡ break_marks n V me own starts marks)
fill_marks-same n V W own me starts [] items begins h = (refl, refl)
fill_marks-same n V W own me starts (marked ∷ marks) items begins h =
    let parts = push_item-ok marked.index (fill_mark n V me own (slice_index starts marked.index) marked.mark) (fill_marks n V me own starts marks) items h in
    let first = fill_mark-same n V W own me (slice_index starts marked.index) marked.mark parts.0 begins parts.2 in
    let rest = fill_marks-same n V W own me starts marks parts.1 begins parts.3 in
    (rw (first.filled, rest.0), rw (first.breaks, rest.1))

as_took-ok : (items : Result (List Item) Missing) (reply : Reply) → as_took items ≡ Ok reply
    → (all : List Item) × (items ≡ Ok all)
as_took-ok (Ok all) reply h = (all, refl)
as_took-ok (Err m) reply h = absurd (cc)

-- an entry that can be filled is filled alike later, and breaks alike
pub record SameEntry (n : ℕ) (V W : ℕ → View) (own : View) (me : ℕ) (call : Call) (entry : Entry) : Type 0 where
  pub fill : filled_reply n W me own call entry ≡ filled_reply n V me own call entry
  pub breaks : broken n W me own call entry ≡ broken n V me own call entry

pub filled-same : (n : ℕ) (V W : ℕ → View) (own : View) (me : ℕ) (call : Call) (entry : Entry) (reply : Reply) → Begins V W
    → filled_reply n V me own call entry ≡ Ok reply → SameEntry n V W own me call entry
filled-same n V W own me call EntrySent reply begins h = record { fill = refl; breaks = refl }
filled-same n V W own me call Posted reply begins h = record { fill = refl; breaks = refl }
filled-same n V W own me call EntryEntered reply begins h = record { fill = refl; breaks = refl }
filled-same n V W own me call EntryEnded reply begins h = record { fill = refl; breaks = refl }
filled-same n V W own me call EntryNotYet reply begins h = record { fill = refl; breaks = refl }
filled-same n V W own me call (PeekedOutside source start tag count) reply begins h = record { fill = refl; breaks = refl }
filled-same n V W own me call (EntryStopped halt) reply begins h = record { fill = refl; breaks = refl }
filled-same n V W own me call (PeekedInside source start) reply begins h =
    let same = peeked-same source start (start_at (V source) start) (start_at (W source) start) reply (start_at-kept (V source) (W source) start (begins source)) h in
    record { fill = ap (peeked_from source start) same; breaks = ap (break_send me source start (Some call)) same }
filled-same n V W own me call (EntryTook marks) reply begins h =
    let items = as_took-ok (fill_marks n V me own (listed_by call) marks) reply h in
    let same = fill_marks-same n V W own me (listed_by call) marks items.0 begins items.1 in
    record { fill = ap as_took same.0; breaks = same.1 }
