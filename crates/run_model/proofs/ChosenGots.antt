-- What the machine takes of ready starts is what they give.
use Rattle.std.proofs.Common.{◌≡◌, ◌∙◌, ◌∷◌, ◌+◌, ◌==◌, Bool, Err, List, None, Ok, Option, Result, Some, [], ap, arith, false, inl, inr, is_some, map, refl, slice_get, slice_index, subst, suc, sym, take, true, zero, ℕ, ℤ}
use Rattle.std.proofs.lemmas.Bool.{eqb-true, false_from_ne_true}
use Rattle.std.specs.List.{list_any, position_or_len}
use Rattle.mpi_call.specs.declared.call.Call.{Call}
use Rattle.mpi_call.specs.declared.call.Call.TheVariants.{Abort, End, Enter, Peek, Post, Send, Take, Trap}
use Rattle.mpi_call.specs.declared.call.Source.{Source}
use Rattle.mpi_call.specs.declared.call.Source.TheVariants.{Any, From, Null}
use Rattle.mpi_call.specs.declared.call.Tag.{Tag}
use Rattle.mpi_call.specs.declared.call.TakeMode.{TakeMode}
use Rattle.mpi_call.specs.declared.call.TakeMode.TheVariants.{All, Any as AnyOne, Several, TestAll, TestAny, TestSeveral}
use Rattle.mpi_call.specs.declared.reply.Item.{Item}
use Rattle.mpi_call.specs.Acceptance.{accepts}
use Rattle.mpi_call.specs.Calls.{makes}
use Rattle.mpi_call.specs.Collectives.{is_uncoloured}
use Rattle.run_model.specs.declared.event.Event.{Event}
use Rattle.run_model.specs.Allowed.{AreChosen, IsOne, flags_of, mode_holds, true_places}
use Rattle.run_model.specs.Choice.{chosen_places}
use Rattle.run_model.specs.Chosen.{collected, collected_by, got_of, items_at, message_of}
use Rattle.run_model.specs.Inputs.{inputs_of, is_gathered}
use Rattle.run_model.specs.Numbers.{communicators_of, number_among, origin_of, same_origin}
use Rattle.run_model.specs.Pairs.{IsAllMatched, Name, named, pairs_of, partner_of, post_accepts}
use Rattle.run_model.specs.Readiness.{AreGots, IsCollected, IsFrom, IsGot, IsMessage, is_ready}
use Rattle.run_model.specs.Views.{View, moment_at, moment_of, start_at, view_of}
use Rattle.run_model.proofs.Views.{option_cases, test_cases}

-- what is accepted is a Send
pub record IsSend (call : Call) : Type 0 where
  pub comm : ℕ
  pub dest : ℕ
  pub tag : ℕ
  pub ints : List ℤ
  pub sync : Bool
  pub is : call ≡ Send comm dest tag ints sync

pub accepted_send : (me comm : ℕ) (source : Source) (tag : Tag) (sender : ℕ) (call : Call) → accepts me comm source tag sender call ≡ true → IsSend call
accepted_send me comm source tag sender (Send c dest t ints sync) h = record { comm = c; dest = dest; tag = t; ints = ints; sync = sync; is = refl }
accepted_send me comm source tag sender call h = absurd (cc)

-- and no receive is
never_post : (post : ℕ) (call : Call) (sender comm : ℕ) (source : Source) (tag : Tag) (room : ℕ) → post_accepts post call sender (Post comm source tag room) ≡ true → ⊥
never_post post (Post c s t r) sender comm source tag room h = cc
never_post post call sender comm source tag room h = cc

paired_message : (before : List Event) (me k comm : ℕ) (source : Source) (tag : Tag) (room : ℕ) → IsAllMatched before
    → start_at (view_of before me) k ≡ Some (Post comm source tag room) → is_some (partner_of (pairs_of before) (me, k)) ≡ true
    → IsMessage before me k (message_of before (partner_of (pairs_of before) (me, k)))
paired_message before me k comm source tag room matched at h =
    elim (option_cases (partner_of (pairs_of before) (me, k))) [
      | inl some ↦
          let send : Name = some.0 in
          let F : Option Name → Type 0 = λ o. IsMessage before me k (message_of before o) in
          subst F (sym some.1) (elim (matched.matched.pairs_accept (me, k) send some.1) [
            | inl takes ↦
                let calls : Some takes.post_call ≡ Some (Post comm source tag room) = sym takes.post_is ∙ at in
                let post : takes.post_call ≡ Post comm source tag room = cc in
                let accepted : post_accepts me (Post comm source tag room) send.0 takes.send_call ≡ true = rw post at takes.accepted in
                let s = accepted_send me comm source tag send.0 takes.send_call accepted in
                let there : named before send ≡ Some (Send s.comm s.dest s.tag s.ints s.sync) = takes.send_is ∙ ap (λ (c : Call). Some c) s.is in
                rw there (record { send = send; comm = s.comm; dest = s.dest; tag = s.tag; ints = s.ints; sync = s.sync; paired = some.1; sent = there; got_is = refl })
            | inr takes ↦
                let calls : Some takes.send_call ≡ Some (Post comm source tag room) = sym takes.send_is ∙ at in
                let post : takes.send_call ≡ Post comm source tag room = cc in
                let accepted : post_accepts send.0 takes.post_call me (Post comm source tag room) ≡ true = rw post at takes.accepted in
                absurd (never_post send.0 takes.post_call me comm source tag room accepted)
          ])
      | inr none ↦ (let no : false ≡ true = rw none at h in absurd (cc))
    ]

pub suc-new : (place : ℕ) → (suc place == 0) ≡ false
suc-new place = false_from_ne_true (suc place == 0) (λ t. (let e : suc place ≡ 0 = eqb-true (suc place) 0 t in absurd (omega arith)))

from_by : (makes_is uncoloured : Bool) (n : ℕ) (before : List Event) (own : View) (me k : ℕ) (enter : Call) (inputs : List (List ℤ))
    → IsFrom makes_is uncoloured n me own enter inputs (collected_by makes_is uncoloured (moment_of n before me own) k enter inputs)
from_by true true n before own me k enter inputs = refl
from_by true false n before own me k enter inputs =
    let number : ℕ = number_among (communicators_of n before) (origin_of own k enter) in
    record { comm = number; is_new = suc-new (position_or_len (λ other. same_origin other (origin_of own k enter)) (communicators_of n before)); got_is = refl }
from_by false true n before own me k enter inputs = refl
from_by false false n before own me k enter inputs = refl

collected_is : (n : ℕ) (before : List Event) (own : View) (me k : ℕ) (enter : Call) (inputs : Result (List (List ℤ)) ℕ)
    → inputs_of n (view_of before) me own k enter ≡ inputs → is_gathered inputs ≡ true
    → IsCollected (moment_of n before me own) k enter (collected (moment_of n before me own) k enter inputs)
collected_is n before own me k enter (Ok inputs) e h =
    record { inputs = inputs; gathered = e; given = from_by (makes enter) (is_uncoloured enter) n before own me k enter inputs }
collected_is n before own me k enter (Err missing) e h = absurd (cc)

pub got_is : (n : ℕ) (before : List Event) (me k : ℕ) (start : Option Call) → IsAllMatched before → start_at (view_of before me) k ≡ start
    → is_ready (moment_at n before me) k start ≡ true
    → IsGot (moment_at n before me) k start (got_of (moment_at n before me) k start)
got_is n before me k None matched at h = absurd (cc)
got_is n before me k (Some (Send comm dest tag ints sync)) matched at h = refl
got_is n before me k (Some (Post comm Null tag room)) matched at h = refl
got_is n before me k (Some (Post comm Any tag room)) matched at h = paired_message before me k comm Any tag room matched at h
got_is n before me k (Some (Post comm (From source) tag room)) matched at h = paired_message before me k comm (From source) tag room matched at h
got_is n before me k (Some (Enter comm kind root op count ints)) matched at h =
    collected_is n before (view_of before me) me k (Enter comm kind root op count ints) (inputs_of n (view_of before) me (view_of before me) k (Enter comm kind root op count ints)) refl h
got_is n before me k (Some (Take starts mode)) matched at h = absurd (cc)
got_is n before me k (Some (Peek comm source tag wait)) matched at h = absurd (cc)
got_is n before me k (Some (Abort code)) matched at h = absurd (cc)
got_is n before me k (Some (Trap fault)) matched at h = absurd (cc)
got_is n before me k (Some End) matched at h = absurd (cc)

-- each of these numbers has a property
abbrev pub AllOf : (ℕ → Type 0) → List ℕ → Type 0
AllOf P [] = Unit {0}
AllOf P (x ∷ xs) = P x × AllOf P xs

all_places : (P : ℕ → Type 0) (low : ℕ) (flags : List Bool) → ((i : ℕ) → slice_get flags i ≡ Some true → P (low + i)) → AllOf P (true_places low flags)
all_places P low [] each = tt
all_places P low (flag ∷ flags) each =
    let later : (i : ℕ) → slice_get flags i ≡ Some true → P (low + 1 + i) =
    λ i h. (let e : low + suc i ≡ low + 1 + i = omega arith in subst P e (each (suc i) h)) in
    elim (test_cases flag) [
      | inl t ↦ rw t ((let e : low + 0 ≡ low = omega arith in subst P e (each 0 (ap (λ (b : Bool). Some b) t))), all_places P (low + 1) flags later)
      | inr t ↦ rw t (all_places P (low + 1) flags later)
    ]

all_take : (P : ℕ → Type 0) (xs : List ℕ) → AllOf P xs → AllOf P (take 1 xs)
all_take P [] all = tt
all_take P (x ∷ xs) all = (all.0, tt)

by_mode : (P : ℕ → Type 0) (mode : TakeMode) (flags : List Bool) → AllOf P (true_places 0 flags) → AllOf P (chosen_places mode flags)
by_mode P All flags all = all
by_mode P TestAll flags all = all
by_mode P AnyOne flags all = all_take P (true_places 0 flags) all
by_mode P TestAny flags all = all_take P (true_places 0 flags) all
by_mode P Several flags all = all
by_mode P TestSeveral flags all = all

all_chosen : (P : ℕ → Type 0) (mode : TakeMode) (flags : List Bool) → ((i : ℕ) → slice_get flags i ≡ Some true → P i) → AllOf P (chosen_places mode flags)
all_chosen P mode flags each =
    let all : AllOf P (true_places 0 flags) = all_places P 0 flags (λ i h. (let e : i ≡ 0 + i = omega arith in subst P e (each i h))) in
    by_mode P mode flags all

flag_at : (ready : ℕ → Bool) (starts : List ℕ) (i : ℕ) (flag : Bool) → slice_get (map ready starts) i ≡ Some flag → ready (slice_index starts i) ≡ flag
flag_at ready [] i flag h = absurd (cc)
flag_at ready (k ∷ starts) zero flag h = cc
flag_at ready (k ∷ starts) (suc i) flag h = flag_at ready starts i flag h

gots_at : (n : ℕ) (before : List Event) (me : ℕ) (starts indices : List ℕ) → IsAllMatched before
    → AllOf (λ i. is_ready (moment_at n before me) (slice_index starts i) (start_at (view_of before me) (slice_index starts i)) ≡ true) indices
    → AreGots (moment_at n before me) starts (items_at (moment_at n before me) starts indices)
gots_at n before me starts [] matched all = tt
gots_at n before me starts (i ∷ indices) matched all =
    (got_is n before me (slice_index starts i) (start_at (view_of before me) (slice_index starts i)) matched refl all.0, gots_at n before me starts indices matched all.1)

pub gots_are : (n : ℕ) (before : List Event) (me : ℕ) (starts : List ℕ) (mode : TakeMode) → IsAllMatched before
    → AreGots (moment_at n before me) starts (items_at (moment_at n before me) starts (chosen_places mode (flags_of (moment_at n before me) starts)))
gots_are n before me starts mode matched =
    let own : View = view_of before me in
    let ready : ℕ → Bool = λ k. is_ready (moment_of n before me own) k (start_at own k) in
    gots_at n before me starts (chosen_places mode (flags_of (moment_of n before me own) starts)) matched
    (all_chosen (λ i. ready (slice_index starts i) ≡ true) mode (flags_of (moment_of n before me own) starts) (λ i h. flag_at ready starts i true h))

pub items_at-indices : (n : ℕ) (before : List Event) (own : View) (me : ℕ) (starts indices : List ℕ)
    → map (λ (item : Item). item.index) (items_at (moment_of n before me own) starts indices) ≡ indices
items_at-indices n before own me starts [] = refl
items_at-indices n before own me starts (i ∷ indices) = ap (λ l. i ∷ l) (items_at-indices n before own me starts indices)

-- the least ready place, where there is one
one_true : (low : ℕ) (flags : List Bool) → list_any (λ x. x) flags ≡ true → (i : ℕ) × (take 1 (true_places low flags) ≡ (low + i) ∷ []) × (slice_get flags i ≡ Some true)
one_true low [] h = absurd (cc)
one_true low (true ∷ flags) h = (0, (let e : low ≡ low + 0 = omega arith in ap (λ (x : ℕ). x ∷ []) e), refl)
one_true low (false ∷ flags) h =
    let rest = one_true (low + 1) flags h in
    (suc rest.0, (let e : low + 1 + rest.0 ≡ low + suc rest.0 = omega arith in rest.1 ∙ ap (λ (x : ℕ). x ∷ []) e), rest.2)

least_one : (flags : List Bool) → list_any (λ x. x) flags ≡ true → IsOne flags (take 1 (true_places 0 flags))
least_one flags h =
    let one = one_true 0 flags h in
    let e : 0 + one.0 ≡ one.0 = omega arith in
    (one.0, one.1 ∙ ap (λ (x : ℕ). x ∷ []) e, one.2)

pub chosen_are : (mode : TakeMode) (flags : List Bool) → mode_holds mode flags ≡ true → AreChosen mode flags (chosen_places mode flags)
chosen_are All flags h = refl
chosen_are TestAll flags h = refl
chosen_are AnyOne flags h = least_one flags h
chosen_are TestAny flags h = least_one flags h
chosen_are Several flags h = refl
chosen_are TestSeveral flags h = refl
