-- The log of a group keeps few ints.
use Rattle.std.proofs.Common.{◌≤◌, ◌<◌, ◌*◌, ◌^◌, ◌∷◌, ◌++◌, ◌==◌, All, List, [], arith, inl, inr, length, ℕ}
use Rattle.std.specs.Prelude.{slice_index, sum_by}
use Rattle.std.proofs.lemmas.List.Sums.{sum_by-cons}
use Rattle.mpi_call.specs.declared.call.Call.{Call}
use Rattle.mpi_call.specs.declared.reply.Got.{Got}
use Rattle.mpi_call.specs.declared.reply.Got.TheVariants.{Sent, Nothing, Message, Joined, Made}
use Rattle.mpi_call.specs.declared.reply.Item.{Item}
use Rattle.mpi_call.specs.declared.reply.Reply.{Reply}
use Rattle.mpi_call.specs.declared.reply.Reply.TheVariants.{Done, NotYet, Peeked, Stopped, Took}
use Rattle.mpi_call.specs.Calls.{listed_by}
use Rattle.mpi_call.specs.Lists.{Rises}
use Rattle.mpi_call.specs.Members.{is_member}
use Rattle.run_model.specs.declared.event.Event.{Event}
use Rattle.run_model.specs.Views.{View, start_at, view_of}
use Rattle.run_model.proofs.Views.{test_cases}
use Rattle.srr_entry.specs.declared.entry.Marked.{Marked}
use Rattle.srr_entry.specs.Entries.{entries_from, entry_of, is_inner, mark_of_got, marks_of_items}
use Rattle.run_model.proofs.FewRanks.{few_ranks}
use Rattle.log_bounds.proofs.Weights.{rising_distinct}
use Rattle.plan_advice.specs.Costs.{IsRunOfAProgram, group_cost, ints_of_entry, ints_in_mark}
use Rattle.plan_advice.specs.inside.Pieces.{ints_given, ints_of_got, ints_of_items, ints_of_reply}
use Rattle.plan_advice.proofs.Given.{below_all, few_given}
use Rattle.plan_advice.proofs.Keeping.{done_costs}
use Rattle.plan_advice.proofs.Totals.{group_is}

mark_small : (n : ℕ) (group : List ℕ) (me : ℕ) (own : View) (k : ℕ) (got : Got) → ints_in_mark (mark_of_got n group me own k got) ≤ ints_of_got got
mark_small n group me own k Sent = omega arith
mark_small n group me own k Nothing = omega arith
mark_small n group me own k (Message source start tag ints) =
    elim (test_cases (is_member group source)) [ inl t ↦ rw t (omega arith) | inr t ↦ rw t (omega arith) ]
mark_small n group me own k (Joined ints) =
    elim (test_cases (is_inner n group me own (start_at own k))) [ inl t ↦ rw t (omega arith) | inr t ↦ rw t (omega arith) ]
mark_small n group me own k (Made comm members) =
    elim (test_cases (is_inner n group me own (start_at own k))) [ inl t ↦ rw t (omega arith) | inr t ↦ rw t (omega arith) ]

marks_small : (n : ℕ) (group : List ℕ) (me : ℕ) (own : View) (starts : List ℕ) (items : List Item)
    → sum_by (λ (item : Marked). ints_in_mark item.mark) (marks_of_items n group me own starts items) ≤ ints_of_items items
marks_small n group me own starts [] = omega arith
marks_small n group me own starts (item ∷ items) =
    let marked : Marked = record { index = item.index; mark = mark_of_got n group me own (slice_index starts item.index) item.got } in
    let cons = sum_by-cons (λ (item : Marked). ints_in_mark item.mark) marked (marks_of_items n group me own starts items) in
    let first = mark_small n group me own (slice_index starts item.index) item.got in
    let rest = marks_small n group me own starts items in
    omega (arith, cons, first, rest)

entry_small : (reply : Reply) (call : Call) (n me : ℕ) (group : List ℕ) (own : View) → ints_of_entry (entry_of n group me own call reply) ≤ ints_of_reply reply
entry_small Done call n me group own = (let none = done_costs call n me group own in omega (arith, none))
entry_small (Took items) call n me group own = marks_small n group me own (listed_by call) items
entry_small NotYet call n me group own = omega arith
entry_small (Peeked source start tag count) call n me group own =
    elim (test_cases (is_member group source)) [ inl t ↦ rw t (omega arith) | inr t ↦ rw t (omega arith) ]
entry_small (Stopped halt) call n me group own = omega arith

entries_small : (n : ℕ) (group : List ℕ) (me : ℕ) (own : View) (events : List Event)
    → sum_by ints_of_entry (entries_from n group me own (view_of events me)) ≤ ints_given events
entries_small n group me own [] = omega arith
entries_small n group me own (event ∷ events) =
    elim (test_cases (event.rank == me)) [
      | inl t ↦ rw t (
          let next : View = own ++ (event.call, event.reply) ∷ [] in
          let cons = sum_by-cons ints_of_entry (entry_of n group me own event.call event.reply) (entries_from n group me next (view_of events me)) in
          let first = entry_small event.reply event.call n me group own in
          let rest = entries_small n group me next events in
          omega (arith, cons, first, rest))
      | inr t ↦ rw t (let rest = entries_small n group me own events in omega (arith, rest))
    ]

sum_small : (f : ℕ → ℕ) (ranks : List ℕ) → ((rank : ℕ) → f rank ≤ 2 ^ 32) → sum_by f ranks ≤ length ranks * 2 ^ 32
sum_small f [] each = omega arith
sum_small f (rank ∷ ranks) each =
    let cons = sum_by-cons f rank ranks in
    let first = each rank in
    let rest = sum_small f ranks each in
    omega (arith, cons, first, rest)

few_in_group : (n : ℕ) (group : List ℕ) → n ≤ 64 → Rises 0 group → All (λ rank. rank < n) group → length group ≤ 64
few_in_group n group few rising below =
    let short = few_ranks n group (below_all n group below) (rising_distinct 0 group rising) in
    omega (arith, few, short)

pub group_small : (n : ℕ) (events : List Event) (group : List ℕ) → IsRunOfAProgram n events → Rises 0 group → All (λ rank. rank < n) group
    → group_cost n events group ≤ 2 ^ 38
group_small n events group is rising below =
    let whole = group_is n events group in
    let few = few_given n events is in
    let sum = sum_small (λ rank. sum_by ints_of_entry (entries_from n group rank [] (view_of events rank))) group
    (λ rank. (let one = entries_small n group rank [] events in omega (arith, one, few))) in
    let short = few_in_group n group is.run.few rising below in
    omega (arith, whole, sum, short)
