-- A run gives few ints, and its ranks have views of ranks.
use Rattle.std.proofs.Common.{◌≡◌, ◌≤◌, ◌<◌, ◌+◌, ◌^◌, ◌++◌, ◌∷◌, All, List, [], arith, false, inl, inr, length, nat_le, refl, suc, true, ℕ}
use Rattle.std.proofs.lemmas.Bool.{leb-false, lt-ltb, or_parts}
use Rattle.mpi_call.specs.declared.reply.Got.{Got}
use Rattle.mpi_call.specs.declared.reply.Got.TheVariants.{Sent, Nothing, Message, Joined, Made}
use Rattle.mpi_call.specs.declared.reply.Item.{Item}
use Rattle.mpi_call.specs.declared.reply.Reply.{Reply}
use Rattle.mpi_call.specs.declared.reply.Reply.TheVariants.{Done, NotYet, Peeked, Stopped, Took}
use Rattle.run_model.specs.declared.event.Event.{Event}
use Rattle.run_model.specs.Due.{is_full, size_of_got, size_of_items, size_of_reply, total_size}
use Rattle.run_model.specs.Lists.{are_below, world}
use Rattle.run_model.specs.Run.{IsEvent, IsRun}
use Rattle.run_model.specs.Views.{Next}
use Rattle.run_model.proofs.Along.{Along-keeps, Along-snoc}
use Rattle.run_model.proofs.Halts.{is_stopped}
use Rattle.run_model.proofs.MemberLists.{AreMembers-world}
use Rattle.run_model.proofs.RunLaws.{Lawful}
use Rattle.run_model.proofs.Views.{test_cases}
use Rattle.srr_entry.specs.Seen.{AreRanksViews}
use Rattle.srr_entry.proofs.Making.{ranks_views}
use Rattle.log_bounds.proofs.RunLengths.{going_on, short_history}
use Rattle.log_bounds.proofs.Sent.{contents_sent}
use Rattle.log_bounds.proofs.Sizes.{all_ints, content_in, content_of, ints_seen}
use Rattle.log_bounds.proofs.Weights.{weigh_push}
use Rattle.plan_advice.specs.Costs.{IsRunOfAProgram}
use Rattle.plan_advice.specs.inside.Pieces.{ints_given, ints_of_got, ints_of_items, ints_of_reply}

got_small : (got : Got) → ints_of_got got ≤ size_of_got got
got_small Sent = omega arith
got_small Nothing = omega arith
got_small (Message source start tag ints) = omega arith
got_small (Joined ints) = omega arith
got_small (Made comm members) = omega arith

items_small : (items : List Item) → (ints_of_items items ≤ size_of_items items) × (ints_of_items items ≤ content_of items)
items_small [] = (omega arith, omega arith)
items_small (item ∷ items) =
    let first = got_small item.got in
    let rest = items_small items in
    let size = rest.0 in
    let content = rest.1 in
    (omega (arith, first, size), omega (arith, first, content))

reply_small : (reply : Reply) → (ints_of_reply reply ≤ size_of_reply reply) × (ints_of_reply reply ≤ content_in reply)
reply_small Done = (omega arith, omega arith)
reply_small (Took items) = items_small items
reply_small NotYet = (omega arith, omega arith)
reply_small (Peeked source start tag count) = (omega arith, omega arith)
reply_small (Stopped halt) = (omega arith, omega arith)

stopped_gives : (reply : Reply) → is_stopped reply ≡ true → ints_of_reply reply ≡ 0
stopped_gives Done h = refl
stopped_gives (Took items) h = absurd (cc)
stopped_gives NotYet h = refl
stopped_gives (Peeked source start tag count) h = refl
stopped_gives (Stopped halt) h = refl

given_push : (before : List Event) (event : Event) → ints_given (before ++ event ∷ []) ≡ ints_given before + ints_of_reply event.reply
given_push [] event = omega arith
given_push (x ∷ before) event = (let rest = given_push before event in omega (arith, rest))

size_push : (before : List Event) (event : Event) → total_size (before ++ event ∷ []) ≡ total_size before + total_size (event ∷ [])
size_push [] event = omega arith
size_push (x ∷ before) event = (let rest = size_push before event in omega (arith, rest))

small_history : (before : List Event) → is_full before ≡ false → total_size before < 4194304
small_history before h =
    let parts = or_parts (nat_le 999000 (length before)) (nat_le 4194304 (total_size before)) h in
    leb-false 4194304 (total_size before) parts.1

-- what was given and what was sent have their places in the size; the last reply gives what was sent before it
record IsLight (next : Next) (n : ℕ) (events : List Event) : Type 0 where
  run : IsRun next n events
  within : ints_given events + all_ints events ≤ total_size events
  light : ints_given events ≤ 5193304

light_more : (next : Next) (n : ℕ) → Lawful next → (before : List Event) (event : Event) → IsLight next n before → IsEvent next n before event
    → IsLight next n (before ++ event ∷ [])
light_more next n lawful before event is step =
    let run = is.run in
    let given = given_push before event in
    let ints = weigh_push ints_seen before event in
    let size = size_push before event in
    let small = reply_small event.reply in
    let small_size = small.0 in
    let small_content = small.1 in
    let within = is.within in
    let light = is.light in
    record {
      run = record { some = run.some; few = run.few; along = Along-snoc (IsEvent next n) [] before event run.along step };
      within = omega (arith, given, ints, size, small_size, within);
      light = elim (test_cases (is_stopped event.reply)) [
        | inl t ↦ (let none = stopped_gives event.reply t in omega (arith, given, none, light))
        | inr t ↦ (
            let going = going_on next n before event.rank event.call event.reply step.reply t in
            let size = small_history before going.1 in
            let short = short_history before going.1 in
            let sent = contents_sent next n before event lawful run step in
            omega (arith, given, small_content, size, short, sent, within))
      ];
    }

light_run : (next : Next) (n : ℕ) (run : List Event) → Lawful next → IsRun next n run → IsLight next n run
light_run next n run lawful is =
    let none : List Event = [] in
    let start : IsLight next n none = record { run = record { some = is.some; few = is.few; along = tt }; within = omega arith; light = omega arith } in
    Along-keeps (IsEvent next n) (IsLight next n) (light_more next n lawful) none run start is.along

pub lawful_of : (n : ℕ) (events : List Event) (is : IsRunOfAProgram n events) → Lawful is.next
lawful_of n events is = record { ends = is.ends; enters = is.enters }

pub few_given : (n : ℕ) (events : List Event) → IsRunOfAProgram n events → ints_given events < 2 ^ 32
few_given n events is = (let light = (light_run is.next n events (lawful_of n events is) is.run).light in omega (arith, light))

pub run_views : (n : ℕ) (events : List Event) → IsRunOfAProgram n events → AreRanksViews n (world n 0) events
run_views n events is =
    ranks_views is.next n (world n 0) events (lawful_of n events is) is.run (AreMembers-world n 0 is.run.some).below

pub below_all : (n : ℕ) (group : List ℕ) → All (λ rank. rank < n) group → are_below n group ≡ true
below_all n [] all = refl
below_all n (rank ∷ group) all =
    let first : rank < n = all 0 0 (omega arith) in
    rw (lt-ltb rank n first) (below_all n group (λ i d within. all (suc i) d (omega (arith, within))))

pub group_views : (n : ℕ) (events : List Event) (group : List ℕ) → IsRunOfAProgram n events → All (λ rank. rank < n) group → AreRanksViews n group events
group_views n events group is below = ranks_views is.next n group events (lawful_of n events is) is.run (below_all n group below)
