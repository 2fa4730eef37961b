-- Where the communicators that a rank learns of come from.
use Rattle.std.proofs.Common.{◌++◌, ◌+◌, ◌<◌, ◌==◌, ◌∙◌, ◌∷◌, ◌≡◌, ◌≤◌, ◌⊎◌, Bool, List, None, Ok, Option, Some, [], ap, append-nil, arith, false, inl, inr, length, not, refl, slice_index, subst, suc, sym, true, zero, ℕ, ℤ}
use Rattle.std.proofs.lemmas.Bool.{cases_lt, eq-eqb, eqb-true, or_parts}
use Rattle.std.specs.List.{list_any}
use Rattle.mpi_call.specs.declared.call.Call.{Call}
use Rattle.mpi_call.specs.declared.call.Call.TheVariants.{Abort, End, Enter, Peek, Post, Send, Take, Trap}
use Rattle.mpi_call.specs.declared.call.Halt.{Halt}
use Rattle.mpi_call.specs.declared.call.Halt.TheVariants.{Limit, Mismatched}
use Rattle.mpi_call.specs.declared.call.Kind.{Kind}
use Rattle.mpi_call.specs.declared.call.Op.{Op}
use Rattle.mpi_call.specs.declared.call.Source.TheVariants.{Any, From, Null}
use Rattle.mpi_call.specs.declared.reply.Got.{Got}
use Rattle.mpi_call.specs.declared.reply.Got.TheVariants.{Joined, Made, Message, Nothing, Sent}
use Rattle.mpi_call.specs.declared.reply.Item.{Item}
use Rattle.mpi_call.specs.declared.reply.Reply.{Reply}
use Rattle.mpi_call.specs.declared.reply.Reply.TheVariants.{Done, NotYet, Peeked, Stopped, Took}
use Rattle.mpi_call.specs.Calls.{comm_of, is_enter, listed_by, makes}
use Rattle.mpi_call.specs.Collectives.{agree, is_uncoloured, members_made}
use Rattle.run_model.specs.declared.event.Event.{Event}
use Rattle.run_model.specs.Allowed.{IsAllowed, IsAllowedBy, IsDeadlock}
use Rattle.run_model.specs.Communicators.{Entered, enter_at, instance_of, is_on, known_after, known_first, known_in, learned, made_in_got, made_in_items, members_for_rank, or_members}
use Rattle.run_model.specs.Due.{disagrees, due, halted, is_full, is_mismatched}
use Rattle.run_model.specs.Inputs.{inputs_of}
use Rattle.run_model.specs.Lists.{world}
use Rattle.run_model.specs.Pairs.{Name}
use Rattle.run_model.specs.Program.{IsInForm}
use Rattle.run_model.specs.Readiness.{AreGots, IsFrom, IsGot}
use Rattle.mpi_call.specs.Lists.{IsIn}
use Rattle.run_model.specs.Run.{IsEvent, numbers_made, numbers_in_items, numbers_in_reply, numbers_in_view}
use Rattle.run_model.specs.Views.{Next, View, is_start, moment_at, moment_of, start_at, starts_of, view_of}
use Rattle.run_model.proofs.Enters.{known_after-append, not_world, take_all}
use Rattle.run_model.proofs.Instances.{Enters, IsIn-front, KeepsInstances, Provenance, numbers_of-append}
use Rattle.run_model.proofs.TrueReplies.{IsTrueReply, reply_true}
use Rattle.run_model.proofs.Views.{option_cases, test_cases, view_of-mine, view_of-other}

-- An event of a run keeps the instances apart.
-- where a new communicator comes from
record FromItems (n : ℕ) (before : List Event) (own : View) (me comm : ℕ) (starts : List ℕ) (items : List Item) (members : List ℕ) : Type 0 where
  k : ℕ
  enter : Call
  inputs : List (List ℤ)
  at : start_at own k ≡ Some enter
  is : is_enter enter ≡ true
  makes_is : makes enter ≡ true
  coloured : is_uncoloured enter ≡ false
  gathered : inputs_of n (view_of before) me own k enter ≡ Ok inputs
  given : members ≡ members_made enter (members_for_rank n own (comm_of enter)) inputs me
  number : IsIn (comm, k) (numbers_in_items starts items)

IsIn-back : (a : Name) (xs ys : List Name) → IsIn a ys → IsIn a (xs ++ ys)
IsIn-back a [] ys inside = inside
IsIn-back a (x ∷ xs) ys inside = inr (IsIn-back a xs ys inside)

made_given : (m u : Bool) (n : ℕ) (own : View) (me : ℕ) (enter : Call) (inputs : List (List ℤ)) (c : ℕ) (members : List ℕ)
    → (c == 0) ≡ false → IsFrom m u n me own enter inputs (Made c members)
    → (m ≡ true) × (u ≡ false) × (members ≡ members_made enter (members_for_rank n own (comm_of enter)) inputs me)
made_given true true n own me enter inputs c members real given =
    (let e : c ≡ 0 = cc in let t : (c == 0) ≡ true = eq-eqb c 0 e in let no : true ≡ false = sym t ∙ real in absurd (cc))
made_given true false n own me enter inputs c members real given =
    (let e : Made c members ≡ Made given.comm (members_made enter (members_for_rank n own (comm_of enter)) inputs me) = given.got_is in
    let same : members ≡ members_made enter (members_for_rank n own (comm_of enter)) inputs me = cc in
    (refl, refl, same))
made_given false u n own me enter inputs c members real given = absurd (cc)

from_got : (n : ℕ) (before : List Event) (own : View) (me k : ℕ) (start : Option Call) (c : ℕ) (members : List ℕ) (starts : List ℕ) (items : List Item)
    → (c == 0) ≡ false → start_at own k ≡ start → IsGot (moment_of n before me own) k start (Made c members)
    → IsIn (c, k) (numbers_in_items starts items) → FromItems n before own me c starts items members
from_got n before own me k None c members starts items real at is number = absurd is
from_got n before own me k (Some (Send comm dest tag ints sync)) c members starts items real at is number = absurd (let e : Made c members ≡ Sent = is in cc)
from_got n before own me k (Some (Post comm Null tag room)) c members starts items real at is number = absurd (let e : Made c members ≡ Nothing = is in cc)
from_got n before own me k (Some (Post comm Any tag room)) c members starts items real at is number = absurd (let e : Made c members ≡ Message is.send.0 is.send.1 is.tag is.ints = is.got_is in cc)
from_got n before own me k (Some (Post comm (From source) tag room)) c members starts items real at is number = absurd (let e : Made c members ≡ Message is.send.0 is.send.1 is.tag is.ints = is.got_is in cc)
from_got n before own me k (Some (Enter comm kind root op count ints)) c members starts items real at is number =
    let enter : Call = Enter comm kind root op count ints in
    let given = made_given (makes enter) (is_uncoloured enter) n own me enter is.inputs c members real is.given in
    record { k = k; enter = enter; inputs = is.inputs; at = at; is = refl; makes_is = given.0; coloured = given.1; gathered = is.gathered; given = given.2; number = number }
from_got n before own me k (Some (Take listed mode)) c members starts items real at is number = absurd is
from_got n before own me k (Some (Peek comm source tag wait)) c members starts items real at is number = absurd is
from_got n before own me k (Some (Abort code)) c members starts items real at is number = absurd is
from_got n before own me k (Some (Trap fault)) c members starts items real at is number = absurd is
from_got n before own me k (Some End) c members starts items real at is number = absurd is

more_items : (n : ℕ) (before : List Event) (own : View) (me comm : ℕ) (starts : List ℕ) (item : Item) (items : List Item) (members : List ℕ)
    → FromItems n before own me comm starts items members → FromItems n before own me comm starts (item ∷ items) members
more_items n before own me comm starts item items members from =
    record {
      k = from.k;
      enter = from.enter;
      inputs = from.inputs;
      at = from.at;
      is = from.is;
      makes_is = from.makes_is;
      coloured = from.coloured;
      gathered = from.gathered;
      given = from.given;
      number = IsIn-back (comm, from.k) (numbers_made (slice_index starts item.index) item.got) (numbers_in_items starts items) from.number;
    }

made_cases : (comm : ℕ) (got : Got) (rest : Option (List ℕ)) (members : List ℕ)
    → or_members (made_in_got comm got) rest ≡ Some members → (got ≡ Made comm members) ⊎ (rest ≡ Some members)
made_cases comm (Made c others) rest members h =
    elim (test_cases (c == comm)) [
      | inl t ↦ (
          let e : Some others ≡ Some members = rw t at h in
          let same : others ≡ members = cc in
          let number : c ≡ comm = eqb-true c comm t in
          inl (ap (λ x. Made x others) number ∙ ap (λ x. Made comm x) same))
      | inr t ↦ inr (rw t at h)
    ]
made_cases comm Sent rest members h = inr h
made_cases comm Nothing rest members h = inr h
made_cases comm (Message source start tag ints) rest members h = inr h
made_cases comm (Joined ints) rest members h = inr h

from_items : (n : ℕ) (before : List Event) (own : View) (me comm : ℕ) (starts : List ℕ) (items : List Item) (members : List ℕ)
    → (comm == 0) ≡ false → AreGots (moment_of n before me own) starts items → made_in_items comm items ≡ Some members
    → FromItems n before own me comm starts items members
from_items n before own me comm starts [] members real are h = absurd (cc)
from_items n before own me comm starts (item ∷ items) members real are h =
    elim (made_cases comm item.got (made_in_items comm items) members h) [
      | inl e ↦ (
          let k : ℕ = slice_index starts item.index in
          let F : Got → Type 0 = λ g. IsGot (moment_of n before me own) k (start_at own k) g in
          let G : Got → Type 0 = λ g. IsIn (comm, k) (numbers_made k g) in
          let first : IsIn (comm, k) (numbers_made k item.got) = subst G (sym e) (inl refl) in
          let inside = IsIn-front (comm, k) (numbers_made k item.got) (numbers_in_items starts items) first in
          from_got n before own me k (start_at own k) comm members starts (item ∷ items) real refl (subst F e are.0) inside)
      | inr later ↦ more_items n before own me comm starts item items members (from_items n before own me comm starts items members real are.1 later)
    ]

learned_from : (n : ℕ) (before : List Event) (me comm : ℕ) (call : Call) (reply : Reply) (members : List ℕ) → (comm == 0) ≡ false
    → IsTrueReply n before (view_of before me) me call reply → learned comm None reply ≡ Some members
    → (p : Provenance n (view_of before) me comm members) × IsIn (comm, p.k) (numbers_in_reply call reply)
learned_from n before me comm call Done members real is h = absurd (cc)
learned_from n before me comm call NotYet members real is h = absurd (cc)
learned_from n before me comm call (Peeked source start tag count) members real is h = absurd (cc)
learned_from n before me comm call (Stopped halt) members real is h = absurd (cc)
learned_from n before me comm call (Took items) members real is h =
    let from = from_items n before (view_of before me) me comm (listed_by call) items members real is h in
    (record { k = from.k; enter = from.enter; inputs = from.inputs; at = from.at; is = from.is; makes_is = from.makes_is; coloured = from.coloured; gathered = from.gathered; given = from.given }, from.number)

world_any : (f : ℕ → Bool) (n low m : ℕ) → list_any f (world n low) ≡ false → low ≤ m → m < low + n → f m ≡ false
world_any f zero low m h above below = absurd (omega arith)
world_any f (suc n) low m h above below =
    let parts = or_parts (f low) (list_any f (world n (low + 1))) h in
    elim (test_cases (low == m)) [
      | inl t ↦ (let same : low ≡ m = eqb-true low m t in let F : ℕ → Type 0 = λ x. f x ≡ false in subst F same parts.0)
      | inr t ↦ (
          let apart : low ≡ m → ⊥ = λ e. (let yes : (low == m) ≡ true = eq-eqb low m e in let no : true ≡ false = sym yes ∙ t in cc) in
          world_any f n (low + 1) m parts.1 (omega arith) (omega arith))
    ]

given_enter : (stuck : Type 0) (n : ℕ) (before : List Event) (me c : ℕ) (kind : Kind) (root : Option ℕ) (op : Option Op) (count : ℕ) (ints : List ℤ) (reply : Reply)
    → IsAllowedBy (due n before me (view_of before me) (Enter c kind root op count ints)) stuck (moment_at n before me) (Enter c kind root op count ints) reply
    → is_start (Enter c kind root op count ints, reply) ≡ true → is_mismatched n before (view_of before me) (Enter c kind root op count ints) ≡ false
given_enter stuck n before me c kind root op count ints reply is start =
    let own : View = view_of before me in
    let call : Call = Enter c kind root op count ints in
    let F : Option Halt → Type 0 = λ x. IsAllowedBy x stuck (moment_of n before me own) call reply in
    elim (option_cases (due n before me own call)) [
      | inl some ↦ (
          let stopped : reply ≡ Stopped some.0 = subst F some.1 is in
          let no : false ≡ true = rw stopped at start in absurd (cc))
      | inr free ↦ elim (option_cases (halted before)) [
        | inl some ↦ (let no : Some some.0 ≡ None = rw some.1 at free in absurd (cc))
        | inr none ↦ elim (test_cases (is_full before)) [
          | inl t ↦ (let no : Some Limit ≡ None = rw (none, t) at free in absurd (cc))
          | inr t ↦ elim (test_cases (is_mismatched n before own call)) [
            | inl u ↦ (let no : Some (Mismatched me) ≡ None = rw (none, t, u) at free in absurd (cc))
            | inr u ↦ u
          ]
        ]
      ]
    ]

accepted_enter : (next : Next) (n : ℕ) (before : List Event) (me : ℕ) (call : Call) (reply : Reply) (comm : ℕ)
    → IsAllowed next n before me call reply → is_start (call, reply) ≡ true → is_on comm call ≡ true
    → (is_mismatched n before (view_of before me) call ≡ false) × (comm_of call ≡ comm)
accepted_enter next n before me (Send c dest tag ints sync) reply comm is start on = absurd (cc)
accepted_enter next n before me (Post c source tag room) reply comm is start on = absurd (cc)
accepted_enter next n before me (Take starts mode) reply comm is start on = absurd (cc)
accepted_enter next n before me (Peek c source tag wait) reply comm is start on = absurd (cc)
accepted_enter next n before me (Abort code) reply comm is start on = absurd (cc)
accepted_enter next n before me (Trap fault) reply comm is start on = absurd (cc)
accepted_enter next n before me End reply comm is start on = absurd (cc)
accepted_enter next n before me (Enter c kind root op count ints) reply comm is start on = (
  elim is [
    | inl given ↦ given_enter (IsDeadlock next n before) n before me c kind root op count ints reply given.0 start
    | inr late ↦ absurd late.1
  ],
  eqb-true c comm on,
)

agree_from : (n : ℕ) (before : List Event) (own : View) (call : Call) (m comm : ℕ) (entered : Entered) → m < n
    → is_mismatched n before own call ≡ false → comm_of call ≡ comm
    → enter_at n (view_of before m) comm (instance_of own (length (starts_of own)) comm) ≡ Some entered
    → agree call entered.call ≡ true
agree_from n before own call m comm entered below h comm_is found =
    let at : enter_at n (view_of before m) (comm_of call) (instance_of own (length (starts_of own)) (comm_of call)) ≡ Some entered = rw comm_is found in
    let one = world_any (λ m. disagrees call (enter_at n (view_of before m) (comm_of call) (instance_of own (length (starts_of own)) (comm_of call)))) n 0 m h (omega arith) (omega arith) in
    let two : not (agree call entered.call) ≡ false = rw at at one in
    elim (test_cases (agree call entered.call)) [
      | inl t ↦ t
      | inr t ↦ (let no : true ≡ false = rw t at two in absurd (cc))
    ]

pub record AllBelow (n : ℕ) (events : List Event) : Type 0 where
  pub empty : (rank : ℕ) → n ≤ rank → view_of events rank ≡ []

pub AllBelow-more : (n : ℕ) (before : List Event) (event : Event) → AllBelow n before → event.rank < n
    → AllBelow n (before ++ event ∷ [])
AllBelow-more n before event all below =
    record {
      empty = λ rank above. (
          let apart : event.rank ≡ rank → ⊥ = λ e. absurd (omega arith) in
          elim (test_cases (event.rank == rank)) [
            | inl t ↦ absurd (apart (eqb-true event.rank rank t))
            | inr t ↦ rw (view_of-other before event rank t) (all.empty rank above)
          ]);
    }

enters_from : (n : ℕ) (view : View) (me comm : ℕ) (call : Call) → IsInForm n me view call → is_on comm call ≡ true
    → Enters n view me comm call
enters_from n view me comm (Enter c kind root op count ints) form on =
    let F : ℕ → Type 0 = λ x. known_in n view x ≡ Some form.0 in
    record { members = form.0; known = subst F (eqb-true c comm on) form.1; form = form.2 }
enters_from n view me comm (Send c dest tag ints sync) form on = absurd (cc)
enters_from n view me comm (Post c source tag room) form on = absurd (cc)
enters_from n view me comm (Take starts mode) form on = absurd (cc)
enters_from n view me comm (Peek c source tag wait) form on = absurd (cc)
enters_from n view me comm (Abort code) form on = absurd (cc)
enters_from n view me comm (Trap fault) form on = absurd (cc)
enters_from n view me comm End form on = absurd (cc)

-- an event of a run, whose Enter is in form, does to instances what it may
pub KeepsInstances-event : (next : Next) (n : ℕ) (before : List Event) (event : Event) → AllBelow n before
    → IsInForm n event.rank (view_of before event.rank) event.call → IsEvent next n before event → KeepsInstances n before event
KeepsInstances-event next n before event all form step =
    let own : View = view_of before event.rank in
    record {
      enters = λ comm start on. enters_from n own event.rank comm event.call form on;
      agreed = λ comm m entered start on found. (
          let accepted = accepted_enter next n before event.rank event.call event.reply comm step.reply start on in
          let at : enter_at n (view_of before m) comm (instance_of own (length (starts_of own)) comm) ≡ Some entered = rw (take_all (starts_of own)) found in
          elim (cases_lt m n) [
            | inl below ↦ agree_from n before own event.call m comm entered below accepted.0 accepted.1 at
            | inr above ↦ (
                let none : view_of before m ≡ [] = all.empty m above in
                let no : None ≡ Some entered = rw none at found in
                absurd (cc))
          ]);
      source = λ comm members none known. (
          let real = not_world n comm own none in
          let after : known_after comm (known_in n own comm) ((event.call, event.reply) ∷ []) ≡ Some members = sym (known_after-append comm (known_first n comm) own ((event.call, event.reply) ∷ [])) ∙ (rw (view_of-mine before event event.rank refl) at known) in
          let learned_now : learned comm None event.reply ≡ Some members = rw none at after in
          let true_reply = reply_true next n before event.rank event.call event.reply step.reply in
          let from = learned_from n before event.rank comm event.call event.reply members real true_reply learned_now in
          record { from = from.0; number = rw (view_of-mine before event event.rank refl, numbers_of-append own ((event.call, event.reply) ∷ []), append-nil) (IsIn-back (comm, from.0.k) (numbers_in_view own) (numbers_in_reply event.call event.reply) from.1) });
      numbered = step.numbered;
    }
