-- What the replies of a run rest on is there.
use Rattle.std.proofs.Common.{◌≡◌, ◌+◌, ◌∷◌, [], ℕ, ℤ, zero, suc, Bool, List, Option, Some, None, Result, Ok, Err, true, false, not, inl, inr, is_some, map, refl, ap, sym, ◌∙◌, arith, slice_get, slice_index, subst}
use Rattle.std.proofs.lemmas.Bool.{and_parts}
use Rattle.std.specs.List.{list_all}
use Rattle.mpi_call.specs.declared.call.Call.{Call}
use Rattle.mpi_call.specs.declared.call.Call.TheVariants.{Abort, End, Enter, Peek, Post, Send, Take, Trap}
use Rattle.mpi_call.specs.declared.call.Halt.{Halt}
use Rattle.mpi_call.specs.declared.call.Source.{Source}
use Rattle.mpi_call.specs.declared.call.Source.TheVariants.{Any, From, Null}
use Rattle.mpi_call.specs.declared.call.Tag.{Tag}
use Rattle.mpi_call.specs.declared.call.TakeMode.{TakeMode}
use Rattle.mpi_call.specs.declared.call.TakeMode.TheVariants.{All, Any as AnyOne, Several, TestAll, TestAny, TestSeveral}
use Rattle.mpi_call.specs.declared.reply.Got.{Got}
use Rattle.mpi_call.specs.declared.reply.Got.TheVariants.{Message as GotMessage, Nothing, Sent}
use Rattle.mpi_call.specs.declared.reply.Item.{Item}
use Rattle.mpi_call.specs.declared.reply.Reply.{Reply}
use Rattle.mpi_call.specs.declared.reply.Reply.TheVariants.{Done, NotYet, Peeked, Stopped, Took}
use Rattle.mpi_call.specs.Calls.{ints_of, listed_by, makes}
use Rattle.mpi_call.specs.Collectives.{is_uncoloured}
use Rattle.mpi_call.specs.Lists.{IsIn}
use Rattle.mpi_call.specs.Needs.{needs}
use Rattle.run_model.specs.declared.event.Event.{Event}
use Rattle.run_model.specs.Allowed.{AreChosen, IsAllowed, IsAllowedBy, IsAnswer, IsDeadlock, IsHeld, IsLate, IsOne, IsPartReply, IsPeekAnswer, IsTakeAnswer, first_long, flags_of, has_open, mode_holds, probe_of, taken_reply, true_places}
use Rattle.run_model.specs.Communicators.{Entered, enter_at, instance_of, members_for_rank}
use Rattle.run_model.specs.Due.{due}
use Rattle.run_model.specs.Inputs.{gather, inputs_of, is_gathered}
use Rattle.run_model.specs.Pairs.{Name, named, pairs_of, partner_of}
use Rattle.run_model.specs.Readiness.{AreGots, IsFrom, IsGot, IsMessage, is_ready}
use Rattle.run_model.specs.Run.{IsEvent}
use Rattle.run_model.specs.Shape.{is_test}
use Rattle.run_model.specs.Views.{Next, View, moment_at, moment_of, start_at, view_of}
use Rattle.run_model.proofs.Gathering.{pushed, with_some}
use Rattle.run_model.proofs.TrueReplies.{reply_true}
use Rattle.run_model.proofs.Views.{option_cases, test_cases}

-- a start that a reply completes is ready, and gives this
pub record IsCompleted (n : ℕ) (before : List Event) (me number : ℕ) (got : Got) : Type 0 where
  pub ready : is_ready (moment_at n before me) number (start_at (view_of before me) number) ≡ true
  pub gives : IsGot (moment_at n before me) number (start_at (view_of before me) number) got

true_in : (low : ℕ) (flags : List Bool) (i : ℕ) → IsIn i (true_places low flags) → (k : ℕ) × (i ≡ low + k) × (slice_get flags k ≡ Some true)
true_in low [] i h = absurd h
true_in low (flag ∷ flags) i h = elim (test_cases flag) [
  | inl t ↦ elim (rw t at h) [
    | inl e ↦ (0, omega (arith, e), ap (λ (b : Bool). Some b) t)
    | inr later ↦ (let rest = true_in (low + 1) flags i later in let is = rest.1 in (suc rest.0, omega (arith, is), rest.2))
  ]
  | inr t ↦ (let rest = true_in (low + 1) flags i (rw t at h) in let is = rest.1 in (suc rest.0, omega (arith, is), rest.2))
]

all_true : (flags : List Bool) (indices : List ℕ) (i : ℕ) → indices ≡ true_places 0 flags → IsIn i indices → slice_get flags i ≡ Some true
all_true flags indices i is h =
    let P : List ℕ → Type 0 = λ l. IsIn i l in
    let found = true_in 0 flags i (subst P is h) in
    let sum = found.1 in
    let same : found.0 ≡ i = omega (arith, sum) in
    let Q : ℕ → Type 0 = λ k. slice_get flags k ≡ Some true in
    subst Q same found.2

one_true : (flags : List Bool) (indices : List ℕ) (i : ℕ) → IsOne flags indices → IsIn i indices → slice_get flags i ≡ Some true
one_true flags indices i is h =
    let P : List ℕ → Type 0 = λ l. IsIn i l in
    let Q : ℕ → Type 0 = λ k. slice_get flags k ≡ Some true in
    elim (subst P is.1 h) [
      | inl e ↦ subst Q e is.2
      | inr never ↦ absurd never
    ]

chosen_true : (mode : TakeMode) (flags : List Bool) (indices : List ℕ) (i : ℕ) → AreChosen mode flags indices → IsIn i indices → slice_get flags i ≡ Some true
chosen_true All flags indices i are h = all_true flags indices i are h
chosen_true TestAll flags indices i are h = all_true flags indices i are h
chosen_true AnyOne flags indices i are h = one_true flags indices i are h
chosen_true TestAny flags indices i are h = one_true flags indices i are h
chosen_true Several flags indices i are h = all_true flags indices i are h
chosen_true TestSeveral flags indices i are h = all_true flags indices i are h

flag_at : (ready : ℕ → Bool) (starts : List ℕ) (i : ℕ) (flag : Bool) → slice_get (map ready starts) i ≡ Some flag → ready (slice_index starts i) ≡ flag
flag_at ready [] i flag h = absurd (cc)
flag_at ready (k ∷ starts) zero flag h = cc
flag_at ready (k ∷ starts) (suc i) flag h = flag_at ready starts i flag h

index_in : (items : List Item) (item : Item) → IsIn item items → IsIn item.index (map (λ (item : Item). item.index) items)
index_in [] item h = absurd h
index_in (x ∷ items) item h = elim h [ inl e ↦ inl (ap (λ (i : Item). i.index) e) | inr later ↦ inr (index_in items item later) ]

got_in : (n : ℕ) (before : List Event) (me : ℕ) (own : View) (starts : List ℕ) (items : List Item) (item : Item) → AreGots (moment_of n before me own) starts items → IsIn item items
    → IsGot (moment_of n before me own) (slice_index starts item.index) (start_at own (slice_index starts item.index)) item.got
got_in n before me own starts [] item are h = absurd h
got_in n before me own starts (x ∷ items) item are h = elim h [
  | inl e ↦ (let G : Item → Type 0 = λ i. IsGot (moment_of n before me own) (slice_index starts i.index) (start_at own (slice_index starts i.index)) i.got in subst G e are.0)
  | inr later ↦ got_in n before me own starts items item are.1 later
]

chosen_items : (me : ℕ) (long : Option ℕ) (chosen items : List Item) → Took items ≡ taken_reply me long chosen → chosen ≡ items
chosen_items me None chosen items h = cc
chosen_items me (Some k) chosen items h = absurd (cc)

held_takes : (test : Bool) (stuck : Type 0) (items : List Item) → IsHeld test stuck (Took items) → ⊥
held_takes true stuck items is = cc
held_takes false stuck items is = (let no = is.1 in cc)

take_completes : (condition : Bool) (stuck : Type 0) (n : ℕ) (before : List Event) (me : ℕ) (starts : List ℕ) (mode : TakeMode) (items : List Item) (item : Item)
    → IsTakeAnswer condition stuck (moment_at n before me) starts mode (Took items) → IsIn item items → IsCompleted n before me (slice_index starts item.index) item.got
take_completes true stuck n before me starts mode items item is h =
    let own : View = view_of before me in
    let same : is.items ≡ items = chosen_items me (first_long own starts is.items) is.items items is.reply_is in
    let P : List Item → Type 0 = λ l. IsIn item l in
    let there : IsIn item is.items = subst P (sym same) h in
    let flag = chosen_true mode (flags_of (moment_of n before me own) starts) (map (λ (item : Item). item.index) is.items) item.index is.chosen (index_in is.items item there) in
    record {
      ready = flag_at (λ k. is_ready (moment_of n before me own) k (start_at own k)) starts item.index true flag;
      gives = got_in n before me own starts is.items item is.gots there;
    }
take_completes false stuck n before me starts mode items item is h = absurd (held_takes (is_test mode) stuck items is)

peek_takes : (found : Bool) (stuck : Type 0) (before : List Event) (me comm : ℕ) (source : Source) (tag : Tag) (wait : Bool) (items : List Item)
    → IsPeekAnswer found stuck before (probe_of me comm source tag) wait (Took items) → ⊥
peek_takes true stuck before me comm source tag wait items is = (let no = is.reply_is in cc)
peek_takes false stuck before me comm source tag wait items is = held_takes (not wait) stuck items is

answer_completes : (stuck : Type 0) (n : ℕ) (before : List Event) (me : ℕ) (call : Call) (items : List Item) (item : Item)
    → IsAnswer stuck (moment_at n before me) call (Took items) → IsIn item items → IsCompleted n before me (slice_index (listed_by call) item.index) item.got
answer_completes stuck n before me (Take starts mode) items item is h =
    take_completes (mode_holds mode (flags_of (moment_at n before me) starts)) stuck n before me starts mode items item is h
answer_completes stuck n before me (Peek comm source tag wait) items item is h = absurd (peek_takes (has_open n before me comm source tag) stuck before me comm source tag wait items is)
answer_completes stuck n before me (Send comm dest tag ints sync) items item is h = absurd (let no : Took items ≡ Done = is in cc)
answer_completes stuck n before me (Post comm source tag room) items item is h = absurd (let no : Took items ≡ Done = is in cc)
answer_completes stuck n before me (Enter comm kind root op count ints) items item is h = absurd (let no : Took items ≡ Done = is in cc)
answer_completes stuck n before me (Abort code) items item is h = absurd (let no : Took items ≡ Done = is in cc)
answer_completes stuck n before me (Trap fault) items item is h = absurd (let no : Took items ≡ Done = is in cc)
answer_completes stuck n before me End items item is h = absurd (let no : Took items ≡ Done = is in cc)

allowed_completes : (halt : Option Halt) (stuck : Type 0) (n : ℕ) (before : List Event) (me : ℕ) (call : Call) (items : List Item) (item : Item)
    → IsAllowedBy halt stuck (moment_at n before me) call (Took items) → IsIn item items → IsCompleted n before me (slice_index (listed_by call) item.index) item.got
allowed_completes None stuck n before me call items item is h = answer_completes stuck n before me call items item is h
allowed_completes (Some halt) stuck n before me call items item is h = absurd (let no : Took items ≡ Stopped halt = is in cc)

-- a part completes what is ready
all_pass : (test : Item → Bool) (items : List Item) (item : Item) → list_all test items ≡ true → IsIn item items → test item ≡ true
all_pass test [] item all h = absurd h
all_pass test (x ∷ items) item all h =
    let parts = and_parts (test x) (list_all test items) all in
    elim h [
      | inl e ↦ ap test (sym e) ∙ parts.0
      | inr later ↦ all_pass test items item parts.1 later
    ]

part_completes : (n : ℕ) (before : List Event) (me : ℕ) (starts : List ℕ) (mode : TakeMode) (items : List Item) (item : Item)
    → IsPartReply (moment_at n before me) starts mode (Took items) → IsIn item items → IsCompleted n before me (slice_index starts item.index) item.got
part_completes n before me starts mode items item is h =
    let own : View = view_of before me in
    let same : is.items ≡ items = chosen_items me (first_long own starts is.items) is.items items is.reply_is in
    let P : List Item → Type 0 = λ l. IsIn item l in
    let there : IsIn item is.items = subst P (sym same) h in
    record {
      ready = all_pass (λ (i : Item). is_ready (moment_of n before me own) (slice_index starts i.index) (start_at own (slice_index starts i.index))) is.items item is.ready there;
      gives = got_in n before me own starts is.items item is.gots there;
    }

late_completes : (n : ℕ) (before : List Event) (me : ℕ) (call : Call) (items : List Item) (item : Item)
    → IsLate (moment_at n before me) call (Took items) → IsIn item items → IsCompleted n before me (slice_index (listed_by call) item.index) item.got
late_completes n before me (Take starts mode) items item is h = elim is [
  | inl not_yet ↦ absurd (let no : Took items ≡ NotYet = not_yet.2 in cc)
  | inr part ↦ part_completes n before me starts mode items item part h
]
late_completes n before me (Peek comm source tag wait) items item is h = absurd (let no : Took items ≡ NotYet = is.1 in cc)
late_completes n before me (Send comm dest tag ints sync) items item is h = absurd is
late_completes n before me (Post comm source tag room) items item is h = absurd is
late_completes n before me (Enter comm kind root op count ints) items item is h = absurd is
late_completes n before me (Abort code) items item is h = absurd is
late_completes n before me (Trap fault) items item is h = absurd is
late_completes n before me End items item is h = absurd is

-- so each item of a reply of a run
pub item_completed : (next : Next) (n : ℕ) (before : List Event) (event : Event) (items : List Item) (item : Item) → IsEvent next n before event → event.reply ≡ Took items → IsIn item items
    → IsCompleted n before event.rank (slice_index (listed_by event.call) item.index) item.got
item_completed next n before event items item is took h =
    let A : Reply → Type 0 = λ reply. IsAllowed next n before event.rank event.call reply in
    elim (subst A took is.reply) [
      | inl given ↦ allowed_completes (due n before event.rank (view_of before event.rank) event.call) (IsDeadlock next n before) n before event.rank event.call items item given.0 h
      | inr late ↦ late_completes n before event.rank event.call items item late.1 h
    ]

-- 1. a message comes from the partner

from_message : (makes_is uncoloured : Bool) (n me : ℕ) (own : View) (enter : Call) (inputs : List (List ℤ)) (source start tag : ℕ) (ints : List ℤ)
    → IsFrom makes_is uncoloured n me own enter inputs (GotMessage source start tag ints) → ⊥
from_message true true n me own enter inputs source start tag ints is = cc
from_message true false n me own enter inputs source start tag ints is = (let no = is.got_is in cc)
from_message false true n me own enter inputs source start tag ints is = cc
from_message false false n me own enter inputs source start tag ints is = cc

got_message : (n : ℕ) (before : List Event) (me : ℕ) (own : View) (k : ℕ) (start : Option Call) (source number tag : ℕ) (ints : List ℤ)
    → IsGot (moment_of n before me own) k start (GotMessage source number tag ints) → IsMessage before me k (GotMessage source number tag ints)
got_message n before me own k None source number tag ints is = absurd is
got_message n before me own k (Some (Send comm dest t sent sync)) source number tag ints is = absurd (let no : GotMessage source number tag ints ≡ Sent = is in cc)
got_message n before me own k (Some (Post comm Null t room)) source number tag ints is = absurd (let no : GotMessage source number tag ints ≡ Nothing = is in cc)
got_message n before me own k (Some (Post comm Any t room)) source number tag ints is = is
got_message n before me own k (Some (Post comm (From from) t room)) source number tag ints is = is
got_message n before me own k (Some (Enter comm kind root op count entered)) source number tag ints is =
    absurd (from_message (makes (Enter comm kind root op count entered)) (is_uncoloured (Enter comm kind root op count entered)) n me own (Enter comm kind root op count entered) is.inputs source number tag ints is.given)
got_message n before me own k (Some (Take starts mode)) source number tag ints is = absurd is
got_message n before me own k (Some (Peek comm from t wait)) source number tag ints is = absurd is
got_message n before me own k (Some (Abort code)) source number tag ints is = absurd is
got_message n before me own k (Some (Trap fault)) source number tag ints is = absurd is
got_message n before me own k (Some End) source number tag ints is = absurd is

pub record IsFromPartner (before : List Event) (me number source start : ℕ) : Type 0 where
  pub paired : partner_of (pairs_of before) (me, number) ≡ Some (source, start)
  pub comm : ℕ
  pub dest : ℕ
  pub tag : ℕ
  pub ints : List ℤ
  pub sync : Bool
  pub sent : named before (source, start) ≡ Some (Send comm dest tag ints sync)

pub from_partner : (n : ℕ) (before : List Event) (me number source start tag : ℕ) (ints : List ℤ) → IsCompleted n before me number (GotMessage source start tag ints) → IsFromPartner before me number source start
from_partner n before me number source start tag ints is =
    let message = got_message n before me (view_of before me) number (start_at (view_of before me) number) source start tag ints is.gives in
    let gots : GotMessage source start tag ints ≡ GotMessage message.send.0 message.send.1 message.tag message.ints = message.got_is in
    let rank : source ≡ message.send.0 = cc in
    let count : start ≡ message.send.1 = cc in
    let pair : ℕ → ℕ → Name = λ x y. (x, y) in
    let name : message.send ≡ (source, start) = ap (λ x. pair x message.send.1) (sym rank) ∙ ap (pair source) (sym count) in
    record {
      paired = message.paired ∙ ap (λ (n : Name). Some n) name;
      comm = message.comm;
      dest = message.dest;
      tag = message.tag;
      ints = message.ints;
      sync = message.sync;
      sent = (let P : Name → Type 0 = λ n. named before n ≡ Some (Send message.comm message.dest message.tag message.ints message.sync) in subst P name message.sent);
    }

-- 2. the members that a collective needs have entered

gathered_found : (needed : ℕ → Bool) (find : ℕ → Option Entered) (members : List ℕ) (inputs : List (List ℤ)) (m : ℕ) → gather needed find members ≡ Ok inputs → IsIn m members → needed m ≡ true
    → (entered : Entered) × (find m ≡ Some entered)
gathered_found needed find [] inputs m h there need = absurd there
gathered_found needed find (x ∷ members) inputs m h there need = elim (test_cases (needed x)) [
  | inl t ↦ (
      let some = with_some x (find x) (gather needed find members) inputs (rw t at h) in
      let rest = pushed (ints_of some.0.call) (gather needed find members) inputs some.2 in
      elim there [
        | inl e ↦ (let F : ℕ → Type 0 = λ y. (entered : Entered) × (find y ≡ Some entered) in subst F e (some.0, some.1))
        | inr later ↦ gathered_found needed find members rest.0 m rest.1 later need
      ])
  | inr t ↦ (
      let rest = pushed [] (gather needed find members) inputs (rw t at h) in
      elim there [
        | inl e ↦ (let no : false ≡ true = sym t ∙ (ap needed e ∙ need) in absurd (cc))
        | inr later ↦ gathered_found needed find members rest.0 m rest.1 later need
      ])
]

gathered_ok : (r : Result (List (List ℤ)) ℕ) → is_gathered r ≡ true → (inputs : List (List ℤ)) × (r ≡ Ok inputs)
gathered_ok (Ok inputs) h = (inputs, refl)
gathered_ok (Err m) h = absurd (cc)

pub needed_entered : (n : ℕ) (before : List Event) (me number : ℕ) (got : Got) (comm : ℕ) (kind : _) (root : _) (op : _) (count : ℕ) (ints : List ℤ) (m : ℕ) → IsCompleted n before me number got
    → start_at (view_of before me) number ≡ Some (Enter comm kind root op count ints) → IsIn m (members_for_rank n (view_of before me) comm)
    → needs (Enter comm kind root op count ints) (members_for_rank n (view_of before me) comm) me m ≡ true
    → (entered : Entered) × (enter_at n (view_of before m) comm (instance_of (view_of before me) number comm) ≡ Some entered)
needed_entered n before me number got comm kind root op count ints m is start there need =
    let own : View = view_of before me in
    let enter : Call = Enter comm kind root op count ints in
    let R : Option Call → Type 0 = λ o. is_ready (moment_of n before me own) number o ≡ true in
    let ready : is_gathered (inputs_of n (view_of before) me own number enter) ≡ true = subst R start is.ready in
    let inputs = gathered_ok (inputs_of n (view_of before) me own number enter) ready in
    gathered_found (needs enter (members_for_rank n own comm) me) (λ x. enter_at n (view_of before x) comm (instance_of own number comm)) (members_for_rank n own comm) inputs.0 m inputs.1 there need

-- 3. a synchronous send is paired

pub sync_paired : (n : ℕ) (before : List Event) (me number : ℕ) (got : Got) (comm dest tag : ℕ) (ints : List ℤ) → IsCompleted n before me number got
    → start_at (view_of before me) number ≡ Some (Send comm dest tag ints true) → (mate : Name) × (partner_of (pairs_of before) (me, number) ≡ Some mate)
sync_paired n before me number got comm dest tag ints is start =
    let R : Option Call → Type 0 = λ o. is_ready (moment_at n before me) number o ≡ true in
    let ready : is_some (partner_of (pairs_of before) (me, number)) ≡ true = subst R start is.ready in
    elim (option_cases (partner_of (pairs_of before) (me, number))) [
      | inl some ↦ (some.0, some.1)
      | inr none ↦ (let no : false ≡ true = rw none at ready in absurd (cc))
    ]

-- 4. a probe finds a Send

pub peeked_sent : (next : Next) (n : ℕ) (before : List Event) (event : Event) (source start tag count : ℕ) → IsEvent next n before event → event.reply ≡ Peeked source start tag count
    → (call : Call) × (start_at (view_of before source) start ≡ Some call)
peeked_sent next n before event source start tag count is peeked =
    let A : Reply → Type 0 = λ reply. IsAllowed next n before event.rank event.call reply in
    let send = reply_true next n before event.rank event.call (Peeked source start tag count) (subst A peeked is.reply) in
    (Send send.comm send.dest tag send.ints send.sync, send.sent)
