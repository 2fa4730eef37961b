-- What is due, ready, given and can go after histories that leave the same.
use Rattle.std.proofs.Common.{◌≡◌, ◌∙◌, ◌∷◌, ◌&&◌, ◌||◌, ◌+◌, if◌then◌else◌, ℕ, ℤ, List, [], Option, Some, None, Bool, not, is_some, Result, Ok, Err, length, map, slice_index, refl, ap, true, false}
use Rattle.std.proofs.Math.Path.{fun_ext}
use Rattle.std.specs.List.{list_any}
use Rattle.mpi_call.specs.declared.call.Call.{Call}
use Rattle.mpi_call.specs.declared.call.Call.TheVariants.{Send, Post, Enter, Take, Peek, Abort, Trap, End}
use Rattle.mpi_call.specs.declared.call.Halt.{Halt}
use Rattle.mpi_call.specs.declared.call.Halt.TheVariants.{Limit, Mismatched}
use Rattle.mpi_call.specs.declared.call.Source.{Source}
use Rattle.mpi_call.specs.declared.call.Source.TheVariants.{Any, From, Null}
use Rattle.mpi_call.specs.declared.call.Tag.{Tag}
use Rattle.mpi_call.specs.declared.reply.Got.{Got}
use Rattle.mpi_call.specs.declared.reply.Got.TheVariants.{Made}
use Rattle.mpi_call.specs.declared.reply.Item.{Item}
use Rattle.mpi_call.specs.Acceptance.{accepts}
use Rattle.mpi_call.specs.Calls.{comm_of, makes}
use Rattle.mpi_call.specs.Collectives.{is_uncoloured, members_made}
use Rattle.run_model.specs.declared.event.Event.{Event}
use Rattle.run_model.specs.Allowed.{can_go, flags_of, has_open, mode_holds, is_prompt, open_in, probe_of}
use Rattle.run_model.specs.Chosen.{collected, collected_by, got_of, items_at, message_of_pair, message_of}
use Rattle.run_model.specs.Communicators.{enter_at, instance_of, members_for_rank}
use Rattle.run_model.specs.Due.{disagrees, due, halt_at, halted, is_full, is_mismatched, or_else}
use Rattle.run_model.specs.Inputs.{inputs_of, is_gathered}
use Rattle.run_model.specs.Lists.{world}
use Rattle.run_model.specs.Numbers.{Origin, communicators_of, number_among, origin_of}
use Rattle.run_model.specs.Pairs.{Name, pairs_of, partner_of}
use Rattle.run_model.specs.Readiness.{is_ready}
use Rattle.run_model.specs.Shape.{is_test}
use Rattle.run_model.specs.Views.{View, moment_of, start_at, starts_of, view_of}
use Rattle.run_states.specs.Futures.{SameFuture}
use Rattle.run_states.proofs.Sizes.{full_same}

-- two histories leave the same, and have the same halt
pub record Alike (n : ℕ) (one other : List Event) : Type 0 where
  pub views : view_of one ≡ view_of other
  pub pairs : partner_of (pairs_of one) ≡ partner_of (pairs_of other)
  pub made : communicators_of n one ≡ communicators_of n other
  pub halts : halted one ≡ halted other
  pub full : is_full one ≡ is_full other

pub alike : (n : ℕ) (one other : List Event) → SameFuture n one other → halted one ≡ halted other → Alike n one other
alike n one other same halts =
    record { views = fun_ext same.views; pairs = fun_ext same.pairs; made = same.made; halts = halts; full = full_same one other same.views }

-- 1. readiness

ready_same : (n : ℕ) (one other : List Event) → Alike n one other → (me : ℕ) (own : View) (k : ℕ) (start : Option Call)
    → is_ready (moment_of n one me own) k start ≡ is_ready (moment_of n other me own) k start
ready_same n one other a me own k None = refl
ready_same n one other a me own k (Some (Send comm dest tag ints sync)) = ap (λ (p : Name → Option Name). not sync || is_some (p (me, k))) a.pairs
ready_same n one other a me own k (Some (Post comm Null tag room)) = refl
ready_same n one other a me own k (Some (Post comm Any tag room)) = ap (λ (p : Name → Option Name). is_some (p (me, k))) a.pairs
ready_same n one other a me own k (Some (Post comm (From source) tag room)) = ap (λ (p : Name → Option Name). is_some (p (me, k))) a.pairs
ready_same n one other a me own k (Some (Enter comm kind root op count ints)) =
    ap (λ (v : ℕ → View). is_gathered (inputs_of n v me own k (Enter comm kind root op count ints))) a.views
ready_same n one other a me own k (Some (Take starts mode)) = refl
ready_same n one other a me own k (Some (Peek comm source tag wait)) = refl
ready_same n one other a me own k (Some (Abort code)) = refl
ready_same n one other a me own k (Some (Trap fault)) = refl
ready_same n one other a me own k (Some End) = refl

pub flags_same : (n : ℕ) (one other : List Event) → Alike n one other → (me : ℕ) (own : View) (starts : List ℕ)
    → flags_of (moment_of n one me own) starts ≡ flags_of (moment_of n other me own) starts
flags_same n one other a me own starts =
    let first : ℕ → Bool = λ k. is_ready (moment_of n one me own) k (start_at own k) in
    let second : ℕ → Bool = λ k. is_ready (moment_of n other me own) k (start_at own k) in
    let same : first ≡ second = fun_ext (λ k. ready_same n one other a me own k (start_at own k)) in
    ap (λ (ready : ℕ → Bool). map ready starts) same

-- 2. what is given

message_same : (n : ℕ) (one other : List Event) → Alike n one other → (partner : Option Name) → message_of one partner ≡ message_of other partner
message_same n one other a None = refl
message_same n one other a (Some send) = ap (λ (v : ℕ → View). message_of_pair send (start_at (v send.0) send.1)) a.views

paired_same : (n : ℕ) (one other : List Event) → Alike n one other → (me k : ℕ)
    → message_of one (partner_of (pairs_of one) (me, k)) ≡ message_of other (partner_of (pairs_of other) (me, k))
paired_same n one other a me k =
    message_same n one other a (partner_of (pairs_of one) (me, k)) ∙ ap (λ (p : Name → Option Name). message_of other (p (me, k))) a.pairs

collected_by-same : (n : ℕ) (one other : List Event) → Alike n one other → (makes_it uncoloured : Bool) (me : ℕ) (own : View) (k : ℕ) (enter : Call) (inputs : List (List ℤ))
    → collected_by makes_it uncoloured (moment_of n one me own) k enter inputs ≡ collected_by makes_it uncoloured (moment_of n other me own) k enter inputs
collected_by-same n one other a true true me own k enter inputs = refl
collected_by-same n one other a true false me own k enter inputs =
    ap (λ (made : List Origin). Made (number_among made (origin_of own k enter)) (members_made enter (members_for_rank n own (comm_of enter)) inputs me)) a.made
collected_by-same n one other a false uncoloured me own k enter inputs = refl

collected-same : (n : ℕ) (one other : List Event) → Alike n one other → (me : ℕ) (own : View) (k : ℕ) (enter : Call) (inputs : Result (List (List ℤ)) ℕ)
    → collected (moment_of n one me own) k enter inputs ≡ collected (moment_of n other me own) k enter inputs
collected-same n one other a me own k enter (Err missing) = refl
collected-same n one other a me own k enter (Ok inputs) = collected_by-same n one other a (makes enter) (is_uncoloured enter) me own k enter inputs

pub got_same : (n : ℕ) (one other : List Event) → Alike n one other → (me : ℕ) (own : View) (k : ℕ) (start : Option Call)
    → got_of (moment_of n one me own) k start ≡ got_of (moment_of n other me own) k start
got_same n one other a me own k None = refl
got_same n one other a me own k (Some (Send comm dest tag ints sync)) = refl
got_same n one other a me own k (Some (Post comm Null tag room)) = refl
got_same n one other a me own k (Some (Post comm Any tag room)) = paired_same n one other a me k
got_same n one other a me own k (Some (Post comm (From source) tag room)) = paired_same n one other a me k
got_same n one other a me own k (Some (Enter comm kind root op count ints)) =
    let enter : Call = Enter comm kind root op count ints in
    collected-same n one other a me own k enter (inputs_of n (view_of one) me own k enter)
    ∙ ap (λ (v : ℕ → View). collected (moment_of n other me own) k enter (inputs_of n v me own k enter)) a.views
got_same n one other a me own k (Some (Take starts mode)) = refl
got_same n one other a me own k (Some (Peek comm source tag wait)) = refl
got_same n one other a me own k (Some (Abort code)) = refl
got_same n one other a me own k (Some (Trap fault)) = refl
got_same n one other a me own k (Some End) = refl

pub items_same : (n : ℕ) (one other : List Event) → Alike n one other → (me : ℕ) (own : View) (starts indices : List ℕ)
    → items_at (moment_of n one me own) starts indices ≡ items_at (moment_of n other me own) starts indices
items_same n one other a me own starts [] = refl
items_same n one other a me own starts (index ∷ indices) =
    let k : ℕ = slice_index starts index in
    let item : Got → Item = λ got. record { index = index; got = got } in
    ap (λ got. item got ∷ items_at (moment_of n one me own) starts indices) (got_same n one other a me own k (start_at own k))
    ∙ ap (λ (items : List Item). item (got_of (moment_of n other me own) k (start_at own k)) ∷ items) (items_same n one other a me own starts indices)

-- 3. the halt that is due

mismatched_same : (n : ℕ) (one other : List Event) → Alike n one other → (own : View) (enter : Call) → is_mismatched n one own enter ≡ is_mismatched n other own enter
mismatched_same n one other a own enter =
    ap (λ (v : ℕ → View). list_any (λ m. disagrees enter (enter_at n (v m) (comm_of enter) (instance_of own (length (starts_of own)) (comm_of enter)))) (world n 0)) a.views

halt_at-same : (n : ℕ) (one other : List Event) → Alike n one other → (me : ℕ) (own : View) (call : Call) → halt_at n one me own call ≡ halt_at n other me own call
halt_at-same n one other a me own (Enter comm kind root op count ints) =
    ap (λ (b : Bool). if b then Some (Mismatched me) else None) (mismatched_same n one other a own (Enter comm kind root op count ints))
halt_at-same n one other a me own (Send comm dest tag ints sync) = refl
halt_at-same n one other a me own (Post comm source tag room) = refl
halt_at-same n one other a me own (Take starts mode) = refl
halt_at-same n one other a me own (Peek comm source tag wait) = refl
halt_at-same n one other a me own (Abort code) = refl
halt_at-same n one other a me own (Trap fault) = refl
halt_at-same n one other a me own End = refl

pub due_same : (n : ℕ) (one other : List Event) → Alike n one other → (me : ℕ) (own : View) (call : Call) → due n one me own call ≡ due n other me own call
due_same n one other a me own call =
    let D : Option Halt → Bool → Option Halt → Option Halt = λ h full last. or_else h (if full then Some Limit else last) in
    ap (λ h. D h (is_full one) (halt_at n one me own call)) a.halts
    ∙ (ap (λ b. D (halted other) b (halt_at n one me own call)) a.full ∙ ap (D (halted other) (is_full other)) (halt_at-same n one other a me own call))

-- 4. what can go

open_in-same : (P Q : List (Name × Name)) → ((name : Name) → partner_of P name ≡ partner_of Q name) → (me comm : ℕ) (source : Source) (tag : Tag) (sender start : ℕ) (calls : List Call)
    → open_in P (probe_of me comm source tag) sender start calls ≡ open_in Q (probe_of me comm source tag) sender start calls
open_in-same P Q same me comm source tag sender start [] = refl
open_in-same P Q same me comm source tag sender start (call ∷ calls) =
    let B : Option Name → Bool → Bool = λ o later. (accepts me comm source tag sender call && not (is_some o)) || later in
    ap (λ o. B o (open_in P (probe_of me comm source tag) sender (start + 1) calls)) (same (sender, start))
    ∙ ap (B (partner_of Q (sender, start))) (open_in-same P Q same me comm source tag sender (start + 1) calls)

open_same : (n : ℕ) (one other : List Event) → Alike n one other → (me comm : ℕ) (source : Source) (tag : Tag) → has_open n one me comm source tag ≡ has_open n other me comm source tag
open_same n one other a me comm source tag =
    let looked : List Event → ℕ → Bool = λ events sender. open_in (pairs_of events) (probe_of me comm source tag) sender 0 (starts_of (view_of events sender)) in
    let pointwise : (name : Name) → partner_of (pairs_of one) name ≡ partner_of (pairs_of other) name = λ name. ap (λ (p : Name → Option Name). p name) a.pairs in
    let each : (sender : ℕ) → looked one sender ≡ looked other sender =
    λ sender. ap (λ (v : ℕ → View). open_in (pairs_of one) (probe_of me comm source tag) sender 0 (starts_of (v sender))) a.views
    ∙ open_in-same (pairs_of one) (pairs_of other) pointwise me comm source tag sender 0 (starts_of (view_of other sender)) in
    let same : looked one ≡ looked other = fun_ext each in
    ap (λ (look : ℕ → Bool). list_any look (world n 0)) same

prompt_same : (n : ℕ) (one other : List Event) → Alike n one other → (me : ℕ) (own : View) (call : Call) → is_prompt n one me own call ≡ is_prompt n other me own call
prompt_same n one other a me own (Take starts mode) = ap (λ (flags : List Bool). is_test mode || mode_holds mode flags) (flags_same n one other a me own starts)
prompt_same n one other a me own (Peek comm source tag wait) = ap (λ (b : Bool). not wait || b) (open_same n one other a me comm source tag)
prompt_same n one other a me own (Send comm dest tag ints sync) = refl
prompt_same n one other a me own (Post comm source tag room) = refl
prompt_same n one other a me own (Enter comm kind root op count ints) = refl
prompt_same n one other a me own (Abort code) = refl
prompt_same n one other a me own (Trap fault) = refl
prompt_same n one other a me own End = refl

pub goes_same : (n : ℕ) (one other : List Event) → Alike n one other → (me : ℕ) (own : View) (call : Call) → can_go n one me own call ≡ can_go n other me own call
goes_same n one other a me own call =
    ap (λ (o : Option Halt). is_some o || is_prompt n one me own call) (due_same n one other a me own call)
    ∙ ap (λ (b : Bool). is_some (due n other me own call) || b) (prompt_same n one other a me own call)
