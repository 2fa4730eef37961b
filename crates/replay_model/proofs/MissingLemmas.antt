-- What is missing is the first that the entry rests on and that has not been replayed.
use Rattle.std.proofs.Common.{◌++◌, ◌==◌, ◌∙◌, ◌∷◌, ◌≡◌, Bool, Err, List, None, Ok, Option, Result, Some, [], inl, inr, refl, slice_index, sym, ℕ, ℤ}
use Rattle.std.specs.Prelude.{if◌then◌else◌, is_some}
use Rattle.mpi_call.specs.declared.call.Call.{Call}
use Rattle.mpi_call.specs.declared.call.Call.TheVariants.{Abort, End, Enter, Peek, Post, Send, Take, Trap}
use Rattle.mpi_call.specs.declared.reply.Got.{Got}
use Rattle.mpi_call.specs.declared.reply.Item.{Item}
use Rattle.mpi_call.specs.Calls.{comm_of, ints_of, listed_by}
use Rattle.mpi_call.specs.Collectives.{needs}
use Rattle.run_model.specs.Communicators.{Entered, enter_at, instance_of, members_for_rank}
use Rattle.run_model.specs.Inputs.{gather, inputs_of, push_ints, with_ints}
use Rattle.run_model.specs.Views.{View, start_at}
use Rattle.run_model.proofs.Views.{test_cases}
use Rattle.srr_entry.specs.declared.entry.Entry.{Entry}
use Rattle.srr_entry.specs.declared.entry.Entry.TheVariants.{Ended as EntryEnded, Entered as EntryEntered, NotYet as EntryNotYet, PeekedInside, PeekedOutside, Posted, Sent as EntrySent, Stopped as EntryStopped, Took as EntryTook}
use Rattle.srr_entry.specs.declared.entry.Mark.{Mark}
use Rattle.srr_entry.specs.declared.entry.Mark.TheVariants.{Inner, Inside, Made as MarkMade, MadeOutside, Nothing as MarkNothing, Outer, Outside, Sent as MarkSent}
use Rattle.srr_entry.specs.declared.entry.Marked.{Marked}
use Rattle.replay_model.specs.declared.step.Missing.{Missing}
use Rattle.replay_model.specs.declared.step.Missing.TheVariants.{Member, Start}
use Rattle.replay_model.specs.Filling.{as_took, asker_of, fill_inner, fill_made, fill_mark, fill_marks, filled_message, filled_reply, joined_result, made_new, peeked_from, push_item}
use Rattle.replay_model.specs.Rests.{rests, rests_enter, rests_mark, rests_marks, rests_members}

abbrev pub is_there : ℕ → (ℕ → View) → Missing → Bool
is_there n V (Start source start) = is_some (start_at (V source) start)
is_there n V (Member m comm instance) = is_some (enter_at n (V m) comm instance)

abbrev pub first_missing : ℕ → (ℕ → View) → List Missing → Option Missing
first_missing n V [] = None
first_missing n V (missing ∷ rest) = if is_there n V missing then first_missing n V rest else Some missing

-- What is missing is the first that the entry rests on and that is not there.
abbrev pub missing_in : {A : Type 0} → Result A Missing → Option Missing
missing_in (Ok x) = None
missing_in (Err missing) = Some missing

abbrev member_in : {A : Type 0} → ℕ → ℕ → Result A ℕ → Option Missing
member_in comm instance (Ok x) = None
member_in comm instance (Err m) = Some (Member m comm instance)

push-missing : (comm instance : ℕ) (ints : List ℤ) (rest : Result (List (List ℤ)) ℕ)
    → member_in comm instance (push_ints ints rest) ≡ member_in comm instance rest
push-missing comm instance ints (Ok x) = refl
push-missing comm instance ints (Err m) = refl

found_or : (n : ℕ) (V : ℕ → View) (m comm instance : ℕ) (o : Option Entered) (rest : Result (List (List ℤ)) ℕ) (more : List Missing)
    → enter_at n (V m) comm instance ≡ o → first_missing n V more ≡ member_in comm instance rest
    → first_missing n V (Member m comm instance ∷ more) ≡ member_in comm instance (with_ints m o rest)
found_or n V m comm instance None rest more e h = rw e
found_or n V m comm instance (Some entered) rest more e h = rw e (h ∙ sym (push-missing comm instance (ints_of entered.call) rest))

gather-missing : (n : ℕ) (V : ℕ → View) (comm instance : ℕ) (needed : ℕ → Bool) (members : List ℕ)
    → first_missing n V (rests_members comm instance needed members) ≡ member_in comm instance (gather needed (λ m. enter_at n (V m) comm instance) members)
gather-missing n V comm instance needed [] = refl
gather-missing n V comm instance needed (m ∷ members) =
    let rest = gather-missing n V comm instance needed members in
    elim (test_cases (needed m)) [
      | inl t ↦ rw t (found_or n V m comm instance (enter_at n (V m) comm instance) (gather needed (λ m. enter_at n (V m) comm instance) members) (rests_members comm instance needed members) refl rest)
      | inr t ↦ rw t (rest ∙ sym (push-missing comm instance [] (gather needed (λ m. enter_at n (V m) comm instance) members)))
    ]

joined-missing : (n : ℕ) (own : View) (me k : ℕ) (enter : Call) (r : Result (List (List ℤ)) ℕ)
    → member_in (comm_of enter) (instance_of own k (comm_of enter)) r ≡ missing_in (joined_result n me own k enter r)
joined-missing n own me k enter (Ok x) = refl
joined-missing n own me k enter (Err m) = refl

made-missing : (comm n : ℕ) (own : View) (me k : ℕ) (enter : Call) (r : Result (List (List ℤ)) ℕ)
    → member_in (comm_of enter) (instance_of own k (comm_of enter)) r ≡ missing_in (made_new comm (asker_of n me own) k enter r)
made-missing comm n own me k enter (Ok x) = refl
made-missing comm n own me k enter (Err m) = refl

inner-missing : (n : ℕ) (V : ℕ → View) (own : View) (me k : ℕ) (start : Option Call)
    → first_missing n V (rests_enter n me own k start) ≡ missing_in (fill_inner n V me own k start)
inner-missing n V own me k None = refl
inner-missing n V own me k (Some enter) =
    gather-missing n V (comm_of enter) (instance_of own k (comm_of enter)) (needs enter (members_for_rank n own (comm_of enter)) me) (members_for_rank n own (comm_of enter))
    ∙ joined-missing n own me k enter (inputs_of n V me own k enter)

new-missing : (comm n : ℕ) (V : ℕ → View) (own : View) (me k : ℕ) (start : Option Call)
    → first_missing n V (rests_enter n me own k start) ≡ missing_in (fill_made comm V (asker_of n me own) k start)
new-missing comm n V own me k None = refl
new-missing comm n V own me k (Some enter) =
    gather-missing n V (comm_of enter) (instance_of own k (comm_of enter)) (needs enter (members_for_rank n own (comm_of enter)) me) (members_for_rank n own (comm_of enter))
    ∙ made-missing comm n own me k enter (inputs_of n V me own k enter)

message-missing : (n : ℕ) (V : ℕ → View) (source start : ℕ) (o : Option Call) → start_at (V source) start ≡ o
    → first_missing n V (Start source start ∷ []) ≡ missing_in (filled_message source start o)
message-missing n V source start None e = rw e
message-missing n V source start (Some (Send comm dest tag ints sync)) e = rw e
message-missing n V source start (Some (Post comm from tag room)) e = rw e
message-missing n V source start (Some (Enter comm kind root op count ints)) e = rw e
message-missing n V source start (Some (Take starts mode)) e = rw e
message-missing n V source start (Some (Peek comm from tag wait)) e = rw e
message-missing n V source start (Some (Abort code)) e = rw e
message-missing n V source start (Some (Trap fault)) e = rw e
message-missing n V source start (Some End) e = rw e

peeked-missing : (n : ℕ) (V : ℕ → View) (source start : ℕ) (o : Option Call) → start_at (V source) start ≡ o
    → first_missing n V (Start source start ∷ []) ≡ missing_in (peeked_from source start o)
peeked-missing n V source start None e = rw e
peeked-missing n V source start (Some (Send comm dest tag ints sync)) e = rw e
peeked-missing n V source start (Some (Post comm from tag room)) e = rw e
peeked-missing n V source start (Some (Enter comm kind root op count ints)) e = rw e
peeked-missing n V source start (Some (Take starts mode)) e = rw e
peeked-missing n V source start (Some (Peek comm from tag wait)) e = rw e
peeked-missing n V source start (Some (Abort code)) e = rw e
peeked-missing n V source start (Some (Trap fault)) e = rw e
peeked-missing n V source start (Some End) e = rw e

mark-missing : (n : ℕ) (V : ℕ → View) (own : View) (me k : ℕ) (mark : Mark)
    → first_missing n V (rests_mark n me own k mark) ≡ missing_in (fill_mark n V me own k mark)
mark-missing n V own me k MarkSent = refl
mark-missing n V own me k MarkNothing = refl
mark-missing n V own me k (Outside source start tag ints) = refl
mark-missing n V own me k (Outer ints) = refl
mark-missing n V own me k (MadeOutside comm members) = refl
mark-missing n V own me k (Inside source start) = message-missing n V source start (start_at (V source) start) refl
mark-missing n V own me k Inner = inner-missing n V own me k (start_at own k)
mark-missing n V own me k (MarkMade comm) =
    elim (test_cases (comm == 0)) [
      | inl t ↦ rw t
      | inr t ↦ rw t (new-missing comm n V own me k (start_at own k))
    ]

abbrev or_first : Option Missing → Option Missing → Option Missing
or_first (Some missing) rest = Some missing
or_first None rest = rest

first_missing-append : (n : ℕ) (V : ℕ → View) (xs ys : List Missing)
    → first_missing n V (xs ++ ys) ≡ or_first (first_missing n V xs) (first_missing n V ys)
first_missing-append n V [] ys = refl
first_missing-append n V (x ∷ xs) ys =
    elim (test_cases (is_there n V x)) [
      | inl t ↦ rw t (first_missing-append n V xs ys)
      | inr t ↦ rw t
    ]

push_item-missing : (index : ℕ) (first : Result Got Missing) (rest : Result (List Item) Missing)
    → or_first (missing_in first) (missing_in rest) ≡ missing_in (push_item index first rest)
push_item-missing index (Ok got) (Ok items) = refl
push_item-missing index (Ok got) (Err m) = refl
push_item-missing index (Err m) (Ok items) = refl
push_item-missing index (Err m) (Err other) = refl

marks-missing : (n : ℕ) (V : ℕ → View) (own : View) (me : ℕ) (starts : List ℕ) (marks : List Marked)
    → first_missing n V (rests_marks n me own starts marks) ≡ missing_in (fill_marks n V me own starts marks)
marks-missing n V own me starts [] = refl
marks-missing n V own me starts (marked ∷ marks) =
    let k : ℕ = slice_index starts marked.index in
    rw (first_missing-append, mark-missing n V own me k marked.mark, marks-missing n V own me starts marks)
    (push_item-missing marked.index (fill_mark n V me own k marked.mark) (fill_marks n V me own starts marks))

took-missing : (items : Result (List Item) Missing) → missing_in items ≡ missing_in (as_took items)
took-missing (Ok x) = refl
took-missing (Err m) = refl

-- filled is Err of the first that the entry rests on and that is not there
pub filled-missing : (n : ℕ) (V : ℕ → View) (own : View) (me : ℕ) (call : Call) (entry : Entry)
    → first_missing n V (rests n me own call entry) ≡ missing_in (filled_reply n V me own call entry)
filled-missing n V own me call EntrySent = refl
filled-missing n V own me call Posted = refl
filled-missing n V own me call EntryEntered = refl
filled-missing n V own me call EntryEnded = refl
filled-missing n V own me call EntryNotYet = refl
filled-missing n V own me call (PeekedOutside source start tag count) = refl
filled-missing n V own me call (EntryStopped halt) = refl
filled-missing n V own me call (PeekedInside source start) = peeked-missing n V source start (start_at (V source) start) refl
filled-missing n V own me call (EntryTook marks) = marks-missing n V own me (listed_by call) marks ∙ took-missing (fill_marks n V me own (listed_by call) marks)
