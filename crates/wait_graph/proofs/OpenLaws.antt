-- What is open to a blocked rank differs from what it waits for.
use Rattle.std.proofs.Common.{◌≡◌, ◌<◌, ◌∙◌, ◌+◌, ◌++◌, ◌∷◌, ◌&&◌, ◌==◌, [], ℕ, ℤ, zero, suc, Bool, List, Option, None, Some, false, true, inl, inr, ap, arith, is_some, nat_lt, not, refl, slice_get, subst, sym}
use Rattle.std.proofs.lemmas.Bool.{and_parts, eqb-true, ltb-true, or_parts}
use Rattle.mpi_call.specs.declared.call.Call.{Call}
use Rattle.mpi_call.specs.declared.call.Call.TheVariants.{Abort, End, Enter, Peek, Post, Send, Take, Trap}
use Rattle.mpi_call.specs.declared.call.Source.{Source}
use Rattle.mpi_call.specs.declared.call.Source.TheVariants.{Any, From, Null}
use Rattle.mpi_call.specs.declared.call.Tag.{Tag}
use Rattle.mpi_call.specs.declared.reply.Reply.{Reply}
use Rattle.mpi_call.specs.Calls.{is_starting}
use Rattle.mpi_call.specs.Lists.{IsIn}
use Rattle.run_model.specs.declared.event.Event.{Event}
use Rattle.run_model.specs.Allowed.{can_go, has_open, is_prompt}
use Rattle.run_model.specs.Due.{due}
use Rattle.run_model.specs.Lists.{are_below, world}
use Rattle.run_model.specs.Pairs.{IsAllMatched, Name, named, pairs_of, partner_of}
use Rattle.run_model.specs.Readiness.{is_ready}
use Rattle.run_model.specs.Run.{IsRun}
use Rattle.run_model.specs.Views.{Next, View, is_done, is_start, moment_at, start_at, starts_of, view_of}
use Rattle.run_model.proofs.RunLaws.{IsRun-front, Lawful, kept_run}
use Rattle.run_model.proofs.Views.{option_cases, test_cases}
use Rattle.wait_graph.specs.declared.message.Open.{Open}
use Rattle.wait_graph.specs.declared.wait.Wait.{Wait}
use Rattle.wait_graph.specs.Going.{going, halting}
use Rattle.wait_graph.specs.Laws.{DiffersFrom, IsDead, OpensDiffer}
use Rattle.wait_graph.specs.Opens.{first_open_send, listed_open, open_send_from, opens_of}
use Rattle.wait_graph.specs.Waits.{awaited_by, wait_at, waits_at, waits_in}
use Rattle.wait_graph.proofs.FoundLemmas.{below_all}
use Rattle.wait_graph.proofs.Fitting.{none_fits, none_found}
use Rattle.wait_graph.proofs.Halting.{parts_are, stuck_exactly, deadlock_if}

none_or : {A : Type 0} (o : Option A) → is_some o ≡ false → o ≡ None
none_or None h = refl
none_or (Some x) h = absurd (cc)

-- an unpaired Send to a rank, among the starts of a sender
record IsOpenAt (G : List Event) (sender receiver start : ℕ) (calls : List Call) (found : Open) : Type 0 where
  k : ℕ
  ints : List ℤ
  sync : Bool
  there : slice_get calls k ≡ Some (Send found.comm receiver found.tag ints sync)
  rank : found.name.rank ≡ sender
  number : found.name.start ≡ start + k
  free : partner_of (pairs_of G) (sender, start + k) ≡ None

later : (G : List Event) (sender receiver start : ℕ) (call : Call) (calls : List Call) (found : Open) → IsOpenAt G sender receiver (suc start) calls found → IsOpenAt G sender receiver start (call ∷ calls) found
later G sender receiver start call calls found is =
    let F : ℕ → Type 0 = λ i. partner_of (pairs_of G) (sender, i) ≡ None in
    let same : suc start + is.k ≡ start + suc is.k = omega arith in
    record { k = suc is.k; ints = is.ints; sync = is.sync; there = is.there; rank = is.rank; number = is.number ∙ same; free = subst F same is.free }

open_is : (G : List Event) (sender receiver start : ℕ) (calls : List Call) (found : Open) → open_send_from G sender receiver start calls ≡ Some found → IsOpenAt G sender receiver start calls found
open_is G sender receiver start [] found h = absurd (cc)
open_is G sender receiver start (Send comm dest tag ints sync ∷ calls) found h =
    let paired : Bool = is_some (partner_of (pairs_of G) (sender, start)) in
    elim (test_cases ((dest == receiver) && not paired)) [
      | inl t ↦ (
          let mine : Open = record { name = record { rank = sender; start = start }; comm = comm; tag = tag } in
          let one : Some mine ≡ Some found = rw t at h in
          let same : mine ≡ found = cc in
          let parts = and_parts (dest == receiver) (not paired) t in
          let to = eqb-true dest receiver parts.0 in
          let F : ℕ → Type 0 = λ i. partner_of (pairs_of G) (sender, i) ≡ None in
          let alone : paired ≡ false = (elim (test_cases paired) [
            | inl u ↦ absurd (let no : false ≡ true = rw u at parts.1 in cc)
            | inr u ↦ u
          ]) in
          let At : Open → Type 0 = λ o. IsOpenAt G sender receiver start (Send comm dest tag ints sync ∷ calls) o in
          subst At same (record {
            k = 0;
            ints = ints;
            sync = sync;
            there = ap (λ d. Some (Send comm d tag ints sync)) to;
            rank = refl;
            number = omega arith;
            free = subst F (omega arith) (none_or (partner_of (pairs_of G) (sender, start)) alone);
          }))
      | inr t ↦ later G sender receiver start (Send comm dest tag ints sync) calls found (open_is G sender receiver (suc start) calls found (rw t at h))
    ]
open_is G sender receiver start (Post comm source tag room ∷ calls) found h = later G sender receiver start (Post comm source tag room) calls found (open_is G sender receiver (suc start) calls found h)
open_is G sender receiver start (Enter comm kind root op count ints ∷ calls) found h = later G sender receiver start (Enter comm kind root op count ints) calls found (open_is G sender receiver (suc start) calls found h)
open_is G sender receiver start (Take starts mode ∷ calls) found h = later G sender receiver start (Take starts mode) calls found (open_is G sender receiver (suc start) calls found h)
open_is G sender receiver start (Peek comm source tag wait ∷ calls) found h = later G sender receiver start (Peek comm source tag wait) calls found (open_is G sender receiver (suc start) calls found h)
open_is G sender receiver start (Abort code ∷ calls) found h = later G sender receiver start (Abort code) calls found (open_is G sender receiver (suc start) calls found h)
open_is G sender receiver start (Trap fault ∷ calls) found h = later G sender receiver start (Trap fault) calls found (open_is G sender receiver (suc start) calls found h)
open_is G sender receiver start (End ∷ calls) found h = later G sender receiver start End calls found (open_is G sender receiver (suc start) calls found h)

-- an unpaired Send to a rank, by its name
record IsOpenTo (n : ℕ) (G : List Event) (receiver : ℕ) (found : Open) : Type 0 where
  ints : List ℤ
  sync : Bool
  below : found.name.rank < n
  sent : named G (found.name.rank, found.name.start) ≡ Some (Send found.comm receiver found.tag ints sync)
  free : partner_of (pairs_of G) (found.name.rank, found.name.start) ≡ None

first_is : (n : ℕ) (G : List Event) (sender receiver : ℕ) (found : Open) → sender < n → first_open_send G sender receiver ≡ Some found → IsOpenTo n G receiver found
first_is n G sender receiver found below h =
    let is = open_is G sender receiver 0 (starts_of (view_of G sender)) found h in
    let number : found.name.start ≡ is.k = (let a = is.number in omega (arith, a)) in
    let at : 0 + is.k ≡ is.k = omega arith in
    let N : Name → Type 0 = λ p. named G p ≡ Some (Send found.comm receiver found.tag is.ints is.sync) in
    let P : Name → Type 0 = λ p. partner_of (pairs_of G) p ≡ None in
    let here : Name = (sender, is.k) in
    let there : Name = (found.name.rank, found.name.start) in
    let same : here ≡ there = (let r = is.rank in cc) in
    let F : ℕ → Type 0 = λ i. partner_of (pairs_of G) (sender, i) ≡ None in
    record {
      ints = is.ints;
      sync = is.sync;
      below = (let r = is.rank in omega (arith, r, below));
      sent = subst N same is.there;
      free = subst P same (subst F at is.free);
    }

listed_is : (n : ℕ) (G : List Event) (senders : List ℕ) (receiver : ℕ) (found : Open) → are_below n senders ≡ true → IsIn found (opens_of G senders receiver) → IsOpenTo n G receiver found
listed_is n G [] receiver found below among = absurd among
listed_is n G (sender ∷ senders) receiver found below among =
    let parts = and_parts (nat_lt sender n) (are_below n senders) below in
    elim (option_cases (first_open_send G sender receiver)) [
      | inl some ↦ (
          let L : Option Open → Type 0 = λ o. IsIn found (listed_open o ++ opens_of G senders receiver) in
          elim (subst L some.1 among) [
            | inl same ↦ first_is n G sender receiver found (ltb-true sender n parts.0) (some.1 ∙ ap Some same)
            | inr rest ↦ listed_is n G senders receiver found parts.1 rest
          ])
      | inr none ↦ (
          let L : Option Open → Type 0 = λ o. IsIn found (listed_open o ++ opens_of G senders receiver) in
          listed_is n G senders receiver found parts.1 (subst L none among))
    ]

-- a start that is waited for was made and is not ready
record IsUnready (n : ℕ) (G : List Event) (me : ℕ) (call : Call) : Type 0 where
  k : ℕ
  made : start_at (view_of G me) k ≡ Some call
  unready : is_ready (moment_at n G me) k (Some call) ≡ false

wait_is : (n : ℕ) (G : List Event) (me : ℕ) (starts : List ℕ) (wait : Wait) → IsIn wait (waits_in n G me starts) → IsUnready n G me wait.call
wait_is n G me [] wait among = absurd among
wait_is n G me (k ∷ starts) wait among = elim (option_cases (start_at (view_of G me) k)) [
  | inl call ↦ (
      let L : Option Call → Type 0 = λ o. IsIn wait (wait_at n G me k o ++ waits_in n G me starts) in
      let here : IsIn wait (wait_at n G me k (Some call.0) ++ waits_in n G me starts) = subst L call.1 among in
      elim (test_cases (is_ready (moment_at n G me) k (Some call.0))) [
        | inl t ↦ wait_is n G me starts wait (rw t at here)
        | inr t ↦ (
            let one : IsIn wait ((record { start = Some k; call = call.0; awaited = awaited_by n G me k call.0 }) ∷ waits_in n G me starts) = rw t at here in
            elim one [
              | inl same ↦ (
                  let is : call.0 ≡ wait.call = ap (λ (w : Wait). w.call) same in
                  let U : Call → Type 0 = λ c. IsUnready n G me c in
                  subst U is (record { k = k; made = call.1; unready = t }))
              | inr rest ↦ wait_is n G me starts wait rest
            ])
      ])
  | inr none ↦ (
      let L : Option Call → Type 0 = λ o. IsIn wait (wait_at n G me k o ++ waits_in n G me starts) in
      wait_is n G me starts wait (subst L none among))
]

-- a receive that is not ready is not paired
unpaired : (n : ℕ) (G : List Event) (me k comm room : ℕ) (source : Source) (tag : Tag) → is_ready (moment_at n G me) k (Some (Post comm source tag room)) ≡ false
    → partner_of (pairs_of G) (me, k) ≡ None
unpaired n G me k comm room Any tag h = none_or (partner_of (pairs_of G) (me, k)) h
unpaired n G me k comm room (From rank) tag h = none_or (partner_of (pairs_of G) (me, k)) h
unpaired n G me k comm room Null tag h = absurd (cc)

start_differs : (n : ℕ) (G : List Event) (me : ℕ) (found : Open) (call : Call) → IsAllMatched G → IsOpenTo n G me found → ((comm : ℕ) (source : Source) (tag : Tag) (wait : Bool) → call ≡ Peek comm source tag wait → ⊥)
    → IsUnready n G me call → DiffersFrom found call
start_differs n G me found (Post comm source tag room) matched is_open no_probe is =
    none_fits G (me, is.k) (found.name.rank, found.name.start) comm room found.comm found.tag source tag is_open.ints is_open.sync matched
    is.made (unpaired n G me is.k comm room source tag is.unready) is_open.sent is_open.free
start_differs n G me found (Peek comm source tag wait) matched is_open no_probe is = absurd (no_probe comm source tag wait refl)
start_differs n G me found (Send comm dest tag ints sync) matched is_open no_probe is = tt
start_differs n G me found (Enter comm kind root op count ints) matched is_open no_probe is = tt
start_differs n G me found (Take starts mode) matched is_open no_probe is = tt
start_differs n G me found (Abort code) matched is_open no_probe is = tt
start_differs n G me found (Trap fault) matched is_open no_probe is = tt
start_differs n G me found End matched is_open no_probe is = tt

-- a start is a call that starts something
first_starting : (seen : Call × Reply) (calls : List Call) (k : ℕ) (call : Call) → is_start seen ≡ true
    → ((j : ℕ) → slice_get calls j ≡ Some call → is_starting call ≡ true) → slice_get (seen.0 ∷ calls) k ≡ Some call → is_starting call ≡ true
first_starting (made, reply) calls zero call t rest h =
    let same : made ≡ call = cc in
    ap is_starting (sym same) ∙ (and_parts (is_starting made) (is_done reply) t).0
first_starting (made, reply) calls (suc k) call t rest h = rest k h

starting : (view : View) (k : ℕ) (call : Call) → slice_get (starts_of view) k ≡ Some call → is_starting call ≡ true
starting [] k call h = absurd (cc)
starting (seen ∷ view) k call h = elim (test_cases (is_start seen)) [
  | inl t ↦ first_starting seen (starts_of view) k call t (λ j there. starting view j call there) (rw t at h)
  | inr t ↦ starting view k call (rw t at h)
]

no_probe : (n : ℕ) (G : List Event) (me : ℕ) (call : Call) → IsUnready n G me call → (comm : ℕ) (source : Source) (tag : Tag) (wait : Bool) → call ≡ Peek comm source tag wait → ⊥
no_probe n G me call is comm source tag wait e =
    let starts = starting (view_of G me) is.k call is.made in
    let no : false ≡ true = sym (ap is_starting e) ∙ starts in
    cc

-- a blocked rank's call
call_differs : (n : ℕ) (G : List Event) (me : ℕ) (call : Call) (wait : Wait) (found : Open) → IsAllMatched G → can_go n G me (view_of G me) call ≡ false
    → IsIn wait (waits_at n G me call) → IsOpenTo n G me found → DiffersFrom found wait.call
call_differs n G me (Take starts mode) wait found matched held among is_open =
    let is = wait_is n G me starts wait among in
    start_differs n G me found wait.call matched is_open (no_probe n G me wait.call is) is
call_differs n G me (Peek comm source tag waits) wait found matched held among is_open =
    let parts = or_parts (is_some (due n G me (view_of G me) (Peek comm source tag waits))) (is_prompt n G me (view_of G me) (Peek comm source tag waits)) held in
    let nothing = or_parts (not waits) (has_open n G me comm source tag) parts.1 in
    let differs = none_found n G me comm found.comm found.tag (found.name.rank, found.name.start) source tag is_open.ints is_open.sync nothing.1 is_open.below is_open.sent is_open.free in
    elim among [
      | inl same ↦ (
          let is : Peek comm source tag waits ≡ wait.call = ap (λ (w : Wait). w.call) same in
          let D : Call → Type 0 = λ c. DiffersFrom found c in
          subst D is differs)
      | inr none ↦ absurd none
    ]
call_differs n G me (Send comm dest tag ints sync) wait found matched held among is_open = absurd among
call_differs n G me (Post comm source tag room) wait found matched held among is_open = absurd among
call_differs n G me (Enter comm kind root op count ints) wait found matched held among is_open = absurd among
call_differs n G me (Abort code) wait found matched held among is_open = absurd among
call_differs n G me (Trap fault) wait found matched held among is_open = absurd among
call_differs n G me End wait found matched held among is_open = absurd among

pub opens_differ : (next : Next) (n : ℕ) → Lawful next → OpensDiffer next n
opens_differ next n lawful events is stuck rank call below live wait found among is_open =
    let G : List Event = going events in
    let F : List Event → Type 0 = λ l. IsRun next n l in
    let run : IsRun next n G = IsRun-front next n G (halting events) (subst F (sym (parts_are events)) is.is_run) in
    let dead : IsDead next n G = (stuck_exactly next n events is).0 stuck in
    call_differs n G rank call wait found (record { matched = (kept_run next n G lawful run).matched; nothing_waits = (deadlock_if next n events is stuck).1 }) (dead.stuck rank call below live) among
    (listed_is n G (world n 0) rank found (below_all n (world n 0) refl) is_open)
