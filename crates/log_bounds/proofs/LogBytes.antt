-- The text of the log of a run is no longer than its limit, in either format.
use Rattle.std.proofs.Common.{◌≡◌, ◌≤◌, ◌<◌, ◌+◌, ◌*◌, ◌++◌, ◌∷◌, List, [], arith, false, inl, inr, length, nat_le, refl, true, ℕ}
use Rattle.std.proofs.lemmas.Bool.{leb-false, or_parts}
use Rattle.mpi_call.specs.declared.call.Call.{Call}
use Rattle.mpi_call.specs.declared.call.Call.TheVariants.{Abort, End, Enter, Peek, Post, Send, Take, Trap}
use Rattle.mpi_call.specs.declared.reply.Item.{Item}
use Rattle.mpi_call.specs.declared.reply.Reply.{Reply}
use Rattle.mpi_call.specs.declared.reply.Reply.TheVariants.{Done, NotYet, Peeked, Stopped, Took}
use Rattle.mpi_call.specs.Calls.{listed_by}
use Rattle.run_model.specs.declared.event.Event.{Event}
use Rattle.run_model.specs.Due.{is_full, size_of_items, size_of_reply, total_size}
use Rattle.run_model.specs.Program.{IsCallInBounds}
use Rattle.run_model.specs.Run.{IsEvent, IsRun}
use Rattle.run_model.specs.Views.{Next, view_of}
use Rattle.run_model.proofs.Along.{Along-keeps, Along-snoc}
use Rattle.run_model.proofs.Halts.{is_stopped}
use Rattle.run_model.proofs.RunLaws.{Lawful, kept_run}
use Rattle.run_model.proofs.Taken.{reply_taken}
use Rattle.run_model.proofs.Views.{test_cases}
use Rattle.log_bounds.specs.RunBounds.{LogBytesAreShort, LogTextsAreShort}
use Rattle.log_bounds.proofs.HistoryLengths.{short_run}
use Rattle.log_bounds.proofs.RunEntries.{InBounds}
use Rattle.log_bounds.proofs.RunLengths.{going_on, short_history}
use Rattle.log_bounds.proofs.RecordLengths.{log_bytes_short}
use Rattle.log_bounds.proofs.Sent.{contents_sent}
use Rattle.log_bounds.proofs.Sizes.{all_content, all_ints, all_items, content_in, content_of, content_seen, ints_seen, items_in, items_seen}
use Rattle.log_bounds.proofs.TextLengths.{log_text_short}
use Rattle.log_bounds.proofs.Weights.{weigh_push}

items_split : (items : List Item) → size_of_items items ≡ length items + content_of items
items_split [] = refl
items_split (item ∷ items) = (let rest = items_split items in omega (arith, rest))

reply_split : (reply : Reply) → size_of_reply reply ≡ items_in reply + content_in reply
reply_split Done = refl
reply_split (Took items) = items_split items
reply_split NotYet = refl
reply_split (Peeked source start tag count) = refl
reply_split (Stopped halt) = refl

-- a halt hands out nothing
stopped_empty : (reply : Reply) → is_stopped reply ≡ true → (items_in reply ≡ 0) × (content_in reply ≡ 0)
stopped_empty Done h = absurd (cc)
stopped_empty (Took items) h = absurd (cc)
stopped_empty NotYet h = absurd (cc)
stopped_empty (Peeked source start tag count) h = absurd (cc)
stopped_empty (Stopped halt) h = (refl, refl)

size_push : (before : List Event) (event : Event) → total_size (before ++ event ∷ []) ≡ total_size before + total_size (event ∷ [])
size_push [] event = omega arith
size_push (x ∷ before) event = (let rest = size_push before event in omega (arith, rest))

small_history : (before : List Event) → is_full before ≡ false → total_size before < 4194304
small_history before h =
    let parts = or_parts (nat_le 999000 (length before)) (nat_le 4194304 (total_size before)) h in
    leb-false 4194304 (total_size before) parts.1

-- a reply has no more items than its call lists starts, and a call lists 1,000,000 at most
items_listed : (next : Next) (n : ℕ) (before : List Event) (event : Event) (reply : Reply) → Lawful next → IsRun next n before → IsEvent next n before event
    → event.reply ≡ reply → items_in reply ≤ length (listed_by event.call)
items_listed next n before event Done lawful run step is = omega arith
items_listed next n before event NotYet lawful run step is = omega arith
items_listed next n before event (Peeked source start tag count) lawful run step is = omega arith
items_listed next n before event (Stopped halt) lawful run step is = omega arith
items_listed next n before event (Took items) lawful run step is = (reply_taken next n before event items step is).few

few_listed : (n got : ℕ) (call : Call) → IsCallInBounds n got call → length (listed_by call) ≤ 1000000
few_listed n got (Take starts mode) bounds = bounds.1
few_listed n got (Send comm dest tag ints sync) bounds = omega arith
few_listed n got (Post comm source tag room) bounds = omega arith
few_listed n got (Enter comm kind root op count ints) bounds = omega arith
few_listed n got (Peek comm source tag wait) bounds = omega arith
few_listed n got (Abort code) bounds = omega arith
few_listed n got (Trap fault) bounds = omega arith
few_listed n got End bounds = omega arith

-- what all replies hold: each item has two places in the size of the history, as a start that is listed and as an item, and
-- what the last reply hands out was sent before it
record IsLight (next : Next) (n : ℕ) (events : List Event) : Type 0 where
  run : IsRun next n events
  within : 2 * all_items events + (all_content events + all_ints events) ≤ total_size events
  light : 29 * all_items events + 12 * all_content events ≤ 102000000

light_more : (next : Next) (n : ℕ) → InBounds next → (before : List Event) (event : Event) → IsLight next n before → IsEvent next n before event
    → IsLight next n (before ++ event ∷ [])
light_more next n laws before event is step =
    let run = is.run in
    let kept = kept_run next n before laws.lawful run in
    let bounds = laws.asks n event.rank (view_of before event.rank) event.call (run.some, run.few, step.rank) (kept.came event.rank step.rank) step.call in
    let items = weigh_push items_seen before event in
    let content = weigh_push content_seen before event in
    let ints = weigh_push ints_seen before event in
    let size = size_push before event in
    let split = reply_split event.reply in
    let listed = items_listed next n before event event.reply laws.lawful run step refl in
    let few = few_listed n (length (view_of before event.rank)) event.call bounds in
    let within = is.within in
    let light = is.light in
    record {
      run = record { some = run.some; few = run.few; along = Along-snoc (IsEvent next n) [] before event run.along step };
      within = omega (arith, items, content, ints, size, split, listed, within);
      light = elim (test_cases (is_stopped event.reply)) [
        | inl t ↦ (
            let none = stopped_empty event.reply t in
            let no_items = none.0 in
            let no_content = none.1 in
            omega (arith, items, content, no_items, no_content, light))
        | inr t ↦ (
            let going = going_on next n before event.rank event.call event.reply step.reply t in
            let small = small_history before going.1 in
            let short = short_history before going.1 in
            let sent = contents_sent next n before event laws.lawful run step in
            omega (arith, items, content, listed, few, small, short, sent, within))
      ];
    }

light_run : (next : Next) (n : ℕ) (run : List Event) → InBounds next → IsRun next n run → IsLight next n run
light_run next n run laws is =
    let none : List Event = [] in
    let start : IsLight next n none = record { run = record { some = is.some; few = is.few; along = tt }; within = omega arith; light = omega arith } in
    Along-keeps (IsEvent next n) (IsLight next n) (light_more next n laws) none run start is.along

pub log_texts_are_short : (next : Next) (n : ℕ) → InBounds next → LogTextsAreShort next n
log_texts_are_short next n laws run group text is bounds =
    let bytes = log_text_short n run group text bounds in
    let events = short_run next n run laws.lawful is in
    let light = (light_run next n run laws is).light in
    let short = bounds.program in
    omega (arith, bytes, events, light, short)

pub log_bytes_are_short : (next : Next) (n : ℕ) → InBounds next → LogBytesAreShort next n
log_bytes_are_short next n laws run group text is bounds =
    let bytes = log_bytes_short n run group text bounds in
    let events = short_run next n run laws.lawful is in
    let light = (light_run next n run laws is).light in
    let short = bounds.program in
    omega (arith, bytes, events, light, short)
