-- What is written down of a pick.
use Rattle.std.proofs.Common.{◌≡◌, ◌≢◌, ◌<◌, ◌+◌, ◌==◌, ◌&&◌, ◌∙◌, ◌++◌, ◌∷◌, Bool, Err, IfOk, List, None, Ok, Option, Result, Some, [], ap, arith, false, if◌then◌else◌, inl, inr, is_some, length, not, refl, subst, suc, sym, take, true, zero, ℕ, slice_index}
use Rattle.std.proofs.lemmas.Bool.{and_parts, eq-eqb, eqb-true, or_left, or_right}
use Rattle.std.proofs.lemmas.List.{length-map}
use Rattle.std.specs.List.{list_any, slice_set}
use Rattle.std.specs.Option.{option_eq}
use Rattle.mpi_call.specs.declared.call.Call.{Call}
use Rattle.mpi_call.specs.declared.call.Call.TheVariants.{Abort, End, Enter, Peek, Post, Send, Take, Trap}
use Rattle.mpi_call.specs.declared.call.Halt.{Halt}
use Rattle.mpi_call.specs.declared.call.Halt.TheVariants.{Limit, Truncated}
use Rattle.mpi_call.specs.declared.call.Source.{Source}
use Rattle.mpi_call.specs.declared.call.Tag.{Tag}
use Rattle.mpi_call.specs.declared.call.TakeMode.{TakeMode}
use Rattle.mpi_call.specs.declared.call.TakeMode.TheVariants.{All, Any as AnyOne, Several, TestAll, TestAny, TestSeveral}
use Rattle.mpi_call.specs.declared.reply.Item.{Item}
use Rattle.mpi_call.specs.declared.reply.Reply.{Reply}
use Rattle.mpi_call.specs.declared.reply.Reply.TheVariants.{Done, Peeked, Stopped, Took}
use Rattle.mpi_call.specs.Members.{is_member}
use Rattle.match_core.proofs.Positions.{name_at-one}
use Rattle.run_model.specs.declared.event.Event.{Event}
use Rattle.run_model.specs.Allowed.{first_long, flags_of, mode_holds, is_long, taken_reply, true_places}
use Rattle.run_model.specs.Choice.{choice}
use Rattle.run_model.specs.Chosen.{IsChosenEvent, got_of, halt_or, held_reply, items_at, peek_reply, peeked_at, peeked_in}
use Rattle.run_model.specs.Due.{bad_halt, bad_request, due, halted, is_full, or_else}
use Rattle.run_model.specs.Readiness.{is_ready}
use Rattle.run_model.specs.Pairs.{Name, name_at, named}
use Rattle.run_model.specs.Shape.{is_test}
use Rattle.run_model.specs.Views.{Next, View, is_start, moment_at, moment_of, start_at, taken_of, view_of}
use Rattle.run_model.proofs.Views.{test_cases}
use Rattle.picked_runs.specs.declared.turn.Pick.{Pick}
use Rattle.picked_runs.specs.declared.turn.Pick.TheVariants.{First, Index, Sender}
use Rattle.picked_runs.specs.Picked.{IsPicked}
use Rattle.picked_runs.specs.Picks.{call_from, completes_one, has_pick, is_ready_at, looks, picked_choice, picked_event, picked_places, picked_reply}
use Rattle.picked_runs.proofs.Allowing.{picks_can_go}
use Rattle.picked_runs.proofs.Firsts.{first_event}
use Rattle.picked_runs.proofs.Probes.{picked_found}
use Rattle.requests.specs.Histories.{KnowsHistory}
use Rattle.requests.specs.States.{MatchingState}
use Rattle.mpi_machine.specs.Made.{IsMadeByPicks, IsNeeded}
use Rattle.mpi_machine.specs.Picking.{HasPicked, IsWritten, after_pick, picked_of}
use Rattle.mpi_machine.specs.Turns.{IsAsked, MachineState}
use Rattle.mpi_machine.specs.Waits.{ready_in}
use Rattle.mpi_machine.proofs.Growing.{not_true}
use Rattle.mpi_machine.proofs.Waiting.{before_same}

-- a call that can go with a pick can go with what is written down of it
pub has_written : (next : Next) (n : ℕ) (picks : List Pick) (events : List Event) (rank : ℕ) (call : Call) (pick written : Pick) (reply : Reply) → IsMadeByPicks next n picks events
    → IsAsked next n events rank call → pick ≢ First → has_pick n events rank call pick ≡ true → picked_reply n events rank call pick ≡ reply
    → IsWritten n events rank call pick written → HasPicked next (moment_at n events rank) call written reply
has_written next n picks events rank call pick written reply made asked apart offered reply_is is =
    let run : IsPicked next n picks events = record { run = made.run; along = made.along } in
    let same : picked_event n events rank call pick ≡ picked_event n events rank call written = is.picked.event_is in
    let F : Event → Type 0 = λ e. IsNeeded n events e written in
    record {
      asked = asked;
      go = picks_can_go next n picks events rank call pick run apart offered;
      offered = is.picked.offered;
      needed = subst F same is.needed;
      reply_is = sym (ap (λ (e : Event). e.reply) same) ∙ reply_is;
    }

-- it is answered alike
pub written_answer : (n : ℕ) (events : List Event) (rank : ℕ) (call : Call) (pick written : Pick) → has_pick n events rank call pick ≡ true
    → IsWritten n events rank call pick written → picked_of n events rank call written ≡ picked_of n events rank call pick
written_answer n events rank call pick written offered is =
    rw (is.picked.offered, offered) (ap (λ (e : Event). Some e.reply) (sym is.picked.event_is))

written_after : {P : Type 0} (machine : MachineState P) (rank : ℕ) (call : Call) (pick written : Pick) (answer : Option Reply)
    → IsWritten machine.ranks machine.events rank call pick written → after_pick machine rank call written answer ≡ after_pick machine rank call pick answer
written_after machine rank call pick written None is = refl
written_after {P} machine rank call pick written (Some reply) is =
    let F : Event → MachineState P = λ e. record machine { events = machine.events ++ e ∷ []; kept = slice_set machine.kept rank None } in
    ap F (sym is.picked.event_is)

pub after_written : {P E : Type 0} (machine later : MachineState P) (rank : ℕ) (call : Call) (pick written : Pick) (result : Result (Option Reply) E)
    → IsWritten machine.ranks machine.events rank call pick written → IfOk result (λ answer. later ≡ after_pick machine rank call written answer)
    → IfOk result (λ answer. later ≡ after_pick machine rank call pick answer)
after_written machine later rank call pick written (Ok answer) is after = after ∙ written_after machine rank call pick written answer is
after_written machine later rank call pick written (Err e) is after = after

-- nothing is written down where without a pick the event is the same
written_none : (n : ℕ) (events : List Event) (rank : ℕ) (call : Call) (pick : Pick) → picked_event n events rank call First ≡ picked_event n events rank call pick
    → IsWritten n events rank call pick First
written_none n events rank call pick same = record { picked = record { offered = refl; event_is = sym same }; needed = λ own. refl }

-- and else the pick
written_pick : (n : ℕ) (events : List Event) (rank : ℕ) (call : Call) (pick : Pick) → has_pick n events rank call pick ≡ true
    → (IsChosenEvent n events (picked_event n events rank call pick) → ⊥) → IsWritten n events rank call pick pick
written_pick n events rank call pick offered other = record { picked = record { offered = offered; event_is = refl }; needed = λ own. absurd (other own) }

-- what a pick that can be made says: no halt is due
none_due : (due_halt : Option Halt) (offered : Bool) → (not (is_some due_halt) && offered) ≡ true → (due_halt ≡ None) × (offered ≡ true)
none_due None offered h = (refl, h)
none_due (Some halt) offered h = absurd (cc)

-- 1. whom a receive or a probe takes its message from

found_some : (o : Option ℕ) → is_some o ≡ true → (at : ℕ) × (o ≡ Some at)
found_some None h = absurd (cc)
found_some (Some at) h = (at, refl)

same_sender : (n : ℕ) (events : List Event) (rank : ℕ) (call : Call) (sender : ℕ) → looks call ≡ true → choice events rank call ≡ picked_choice events rank call (Sender sender)
    → picked_event n events rank call First ≡ picked_event n events rank call (Sender sender)
same_sender n events rank (Post comm source tag room) sender h same =
    let call : Call = Post comm source tag room in
    let reply : Reply = picked_reply n events rank call First in
    let E : Option ℕ → Event = λ o. record { rank = rank; call = call; reply = reply; mate = if is_start (call, reply) then o else None; met = [] } in
    ap E same
same_sender n events rank (Peek comm source tag wait) sender h same =
    let call : Call = Peek comm source tag wait in
    let E : Option ℕ → Event = λ o. record { rank = rank; call = call; reply = halt_or (due n events rank (view_of events rank) call) (peek_reply events wait o); mate = None; met = [] } in
    ap E same
same_sender n events rank call sender h same = absurd (cc)

-- a receive that would be paired with the same message anyhow
post_own : (n : ℕ) (events : List Event) (rank comm : ℕ) (source : Source) (tag : Tag) (room sender : ℕ) → due n events rank (view_of events rank) (Post comm source tag room) ≡ None
    → IsChosenEvent n events (picked_event n events rank (Post comm source tag room) (Sender sender))
    → choice events rank (Post comm source tag room) ≡ picked_choice events rank (Post comm source tag room) (Sender sender)
post_own n events rank comm source tag room sender none own =
    let call : Call = Post comm source tag room in
    let M : Option Halt → Option ℕ → Option ℕ = λ halt o. if is_start (call, halt_or halt Done) then o else None in
    let own_mate : M (due n events rank (view_of events rank) call) (choice events rank call) ≡ choice events rank call = ap (λ halt. M halt (choice events rank call)) none in
    let mate : M (due n events rank (view_of events rank) call) (picked_choice events rank call (Sender sender)) ≡ picked_choice events rank call (Sender sender) =
    ap (λ halt. M halt (picked_choice events rank call (Sender sender))) none in
    sym own_mate ∙ (sym (ap (λ (e : Event). e.mate) own) ∙ mate)

-- the name that a probe's reply tells
told : (name : Name) (start : Option Call) (source number tag count : ℕ) → peeked_in name start ≡ Peeked source number tag count → name ≡ (source, number)
told name None source number tag count h = absurd (cc)
told name (Some (Send comm dest t ints sync)) source number tag count h =
    let r : Peeked name.0 name.1 t (length ints) ≡ Peeked source number tag count = h in
    let one : name.0 ≡ source = cc in
    let two : name.1 ≡ number = cc in
    let e : (name.0, name.1) ≡ (source, number) = ap (λ x. (x, name.1)) one ∙ ap (λ x. (source, x)) two in
    e
told name (Some (Post comm s t room)) source number tag count h = absurd (cc)
told name (Some (Enter comm kind root op many ints)) source number tag count h = absurd (cc)
told name (Some (Take starts mode)) source number tag count h = absurd (cc)
told name (Some (Peek comm s t wait)) source number tag count h = absurd (cc)
told name (Some (Abort code)) source number tag count h = absurd (cc)
told name (Some (Trap fault)) source number tag count h = absurd (cc)
told name (Some End) source number tag count h = absurd (cc)

told_at : (events : List Event) (found : Option Name) (source number tag count : ℕ) → peeked_at events found ≡ Peeked source number tag count → found ≡ Some (source, number)
told_at events None source number tag count h = absurd (cc)
told_at events (Some name) source number tag count h = ap (λ (x : Name). Some x) (told name (named events name) source number tag count h)

-- a reply tells one position
told_one : (events : List Event) (wait : Bool) (own : Option ℕ) (at source number tag count : ℕ) → peek_reply events wait own ≡ Peeked source number tag count
    → peeked_at events (name_at events at) ≡ Peeked source number tag count → own ≡ Some at
told_one events wait (Some other) at source number tag count own found =
    ap (λ (x : ℕ). Some x) (name_at-one events other at (source, number) (source, number) (told_at events (name_at events other) source number tag count own) (told_at events (name_at events at) source number tag count found) refl)
told_one events true None at source number tag count own found = absurd (cc)
told_one events false None at source number tag count own found = absurd (cc)

-- a probe that would find the same message anyhow
peek_own : (n : ℕ) (events : List Event) (rank comm : ℕ) (source : Source) (tag : Tag) (wait : Bool) (sender at : ℕ) → due n events rank (view_of events rank) (Peek comm source tag wait) ≡ None
    → picked_choice events rank (Peek comm source tag wait) (Sender sender) ≡ Some at → IsChosenEvent n events (picked_event n events rank (Peek comm source tag wait) (Sender sender))
    → choice events rank (Peek comm source tag wait) ≡ Some at
peek_own n events rank comm source tag wait sender at none found own =
    let call : Call = Peek comm source tag wait in
    let R : Option Halt → Option ℕ → Reply = λ halt o. halt_or halt (peek_reply events wait o) in
    let D : Option Halt = due n events rank (view_of events rank) call in
    let is = picked_found events rank comm source tag wait sender at found in
    let same : R D (picked_choice events rank call (Sender sender)) ≡ R D (choice events rank call) = ap (λ (e : Event). e.reply) own in
    let here : R D (picked_choice events rank call (Sender sender)) ≡ peeked_at events (name_at events at) = ap (λ halt. R halt (picked_choice events rank call (Sender sender))) none ∙ ap (R None) found in
    let there : R D (choice events rank call) ≡ peek_reply events wait (choice events rank call) = ap (λ halt. R halt (choice events rank call)) none in
    told_one events wait (choice events rank call) at is.send.0 is.send.1 is.t (length is.ints) (sym there ∙ (sym same ∙ (here ∙ is.reply_is))) is.reply_is

sender_own : (n : ℕ) (events : List Event) (rank : ℕ) (call : Call) (sender : ℕ) → has_pick n events rank call (Sender sender) ≡ true
    → IsChosenEvent n events (picked_event n events rank call (Sender sender)) → choice events rank call ≡ picked_choice events rank call (Sender sender)
sender_own n events rank (Post comm source tag room) sender offered own =
    let call : Call = Post comm source tag room in
    let none = none_due (due n events rank (view_of events rank) call) (looks call && is_some (picked_choice events rank call (Sender sender))) offered in
    post_own n events rank comm source tag room sender none.0 own
sender_own n events rank (Peek comm source tag wait) sender offered own =
    let call : Call = Peek comm source tag wait in
    let none = none_due (due n events rank (view_of events rank) call) (looks call && is_some (picked_choice events rank call (Sender sender))) offered in
    let there = found_some (picked_choice events rank call (Sender sender)) none.1 in
    peek_own n events rank comm source tag wait sender there.0 none.0 there.1 own ∙ sym there.1
sender_own n events rank call sender offered own =
    let none = none_due (due n events rank (view_of events rank) call) (looks call && is_some (picked_choice events rank call (Sender sender))) offered in
    absurd (cc)

equal : (a b : Option ℕ) → a ≡ b → option_eq ◌==◌ a b ≡ true
equal None None same = refl
equal None (Some b) same = absurd (cc)
equal (Some a) None same = absurd (cc)
equal (Some a) (Some b) same = (let one : a ≡ b = cc in eq-eqb a b one)

equal_told : (a b : Option ℕ) → option_eq ◌==◌ a b ≡ true → a ≡ b
equal_told None None h = refl
equal_told None (Some b) h = absurd (cc)
equal_told (Some a) None h = absurd (cc)
equal_told (Some a) (Some b) h = ap (λ (x : ℕ). Some x) (eqb-true a b h)

-- what is written down of a sender, by whether the message is found anyhow
pub same_message : (n : ℕ) (events : List Event) (rank : ℕ) (call narrowed : Call) (sender : ℕ) (own picked : Option ℕ) → looks call ≡ true → narrowed ≡ call_from sender call
    → own ≡ choice events rank call → picked ≡ choice events rank narrowed → option_eq ◌==◌ own picked ≡ true → IsWritten n events rank call (Sender sender) First
same_message n events rank call narrowed sender own picked h is one two same =
    let there : choice events rank narrowed ≡ picked_choice events rank call (Sender sender) = ap (choice events rank) is in
    written_none n events rank call (Sender sender) (same_sender n events rank call sender h (sym one ∙ (equal_told own picked same ∙ (two ∙ there))))

pub other_message : (n : ℕ) (events : List Event) (rank : ℕ) (call narrowed : Call) (sender : ℕ) (own picked : Option ℕ) → narrowed ≡ call_from sender call
    → own ≡ choice events rank call → picked ≡ choice events rank narrowed → option_eq ◌==◌ own picked ≡ false
    → has_pick n events rank call (Sender sender) ≡ true → IsWritten n events rank call (Sender sender) (Sender sender)
other_message n events rank call narrowed sender own picked is one two other offered =
    written_pick n events rank call (Sender sender) offered (λ event.
    let there : choice events rank narrowed ≡ picked_choice events rank call (Sender sender) = ap (choice events rank) is in
    let same : own ≡ picked = one ∙ (sender_own n events rank call sender offered event ∙ (sym there ∙ sym two)) in
    let wrong : true ≡ false = sym (equal own picked same) ∙ other in
    cc)

-- 2. which start a completion of one start completes

same_index : (n : ℕ) (events : List Event) (rank : ℕ) (starts : List ℕ) (mode : TakeMode) (index : ℕ)
    → picked_places mode (flags_of (moment_at n events rank) starts) First ≡ picked_places mode (flags_of (moment_at n events rank) starts) (Index index)
    → picked_event n events rank (Take starts mode) First ≡ picked_event n events rank (Take starts mode) (Index index)
same_index n events rank starts mode index same =
    let own : View = view_of events rank in
    let flags : List Bool = flags_of (moment_of n events rank own) starts in
    let call : Call = Take starts mode in
    let R : List Item → Reply = λ items. if mode_holds mode flags then taken_reply rank (first_long own starts items) items else held_reply (is_test mode) in
    let E : List ℕ → Event = λ places. record { rank = rank; call = call; reply = halt_or (due n events rank own call) (R (items_at (moment_of n events rank own) starts places)); mate = None; met = [] } in
    ap E same

-- the least place whose flag is true
first_place : (flags : List Bool) (at index : ℕ) → is_ready_at flags index ≡ true → list_any (λ x. x) (take index flags) ≡ false
    → take 1 (true_places at flags) ≡ (at + index) ∷ []
first_place [] at index ready none = absurd (cc)
first_place (true ∷ flags) at zero ready none = (let e : at ≡ at + 0 = omega arith in ap (λ (x : ℕ). x ∷ []) e)
first_place (false ∷ flags) at zero ready none = absurd (cc)
first_place (true ∷ flags) at (suc index) ready none = absurd (cc)
first_place (false ∷ flags) at (suc index) ready none =
    let e : (at + 1) + index ≡ at + suc index = omega arith in
    first_place flags (at + 1) index ready none ∙ ap (λ (x : ℕ). x ∷ []) e

earlier_place : (flags : List Bool) (at index : ℕ) → list_any (λ x. x) (take index flags) ≡ true
    → (place : ℕ) × (take 1 (true_places at flags) ≡ (at + place) ∷ []) × (place < index) × (is_ready_at flags place ≡ true)
earlier_place [] at zero some = absurd (cc)
earlier_place [] at (suc index) some = absurd (cc)
earlier_place (flag ∷ flags) at zero some = absurd (cc)
earlier_place (true ∷ flags) at (suc index) some = (let e : at ≡ at + 0 = omega arith in (0, ap (λ (x : ℕ). x ∷ []) e, omega arith, refl))
earlier_place (false ∷ flags) at (suc index) some =
    let p = earlier_place flags (at + 1) index some in
    let e : (at + 1) + p.0 ≡ at + suc p.0 = omega arith in
    (suc p.0, p.1 ∙ ap (λ (x : ℕ). x ∷ []) e, omega (arith, p.2), p.3)

-- a list without a bad start has no start twice
good_first : (own : View) (earlier starts : List ℕ) (k : ℕ) → bad_request own earlier (k ∷ starts) ≡ None
    → (is_member earlier k ≡ false) × (bad_request own (k ∷ earlier) starts ≡ None)
good_first own earlier starts k good =
    elim (test_cases (is_some (start_at own k) && (not (is_member (taken_of own) k) && not (is_member earlier k)))) [
      | inl t ↦ (
          let a = and_parts (is_some (start_at own k)) (not (is_member (taken_of own) k) && not (is_member earlier k)) t in
          let b = and_parts (not (is_member (taken_of own) k)) (not (is_member earlier k)) a.1 in
          (not_true (is_member earlier k) b.1, rw t at good))
      | inr t ↦ (let no : Some k ≡ None = rw t at good in absurd (cc))
    ]

not_earlier : (own : View) (earlier starts : List ℕ) (k index : ℕ) → bad_request own earlier starts ≡ None → is_member earlier k ≡ true → index < length starts
    → slice_index starts index ≢ k
not_earlier own earlier [] k index good there within same = absurd (omega arith)
not_earlier own earlier (x ∷ starts) k zero good there within same =
    let parts = good_first own earlier starts x good in
    let e : x ≡ k = same in
    let no : true ≡ false = sym there ∙ (ap (is_member earlier) (sym e) ∙ parts.0) in
    cc
not_earlier own earlier (x ∷ starts) k (suc index) good there within same =
    let parts = good_first own earlier starts x good in
    not_earlier own (x ∷ earlier) starts k index parts.1 (or_right (x == k) (is_member earlier k) there) (omega arith) same

apart_starts : (own : View) (earlier starts : List ℕ) (place index : ℕ) → bad_request own earlier starts ≡ None → place < index → index < length starts
    → slice_index starts place ≢ slice_index starts index
apart_starts own earlier [] place index good less within same = absurd (omega arith)
apart_starts own earlier (x ∷ starts) place zero good less within same = absurd (omega arith)
apart_starts own earlier (x ∷ starts) zero (suc index) good less within same =
    let parts = good_first own earlier starts x good in
    not_earlier own (x ∷ earlier) starts x index parts.1 (or_left (x == x) (is_member earlier x) (eq-eqb x x refl)) (omega arith) (sym same)
apart_starts own earlier (x ∷ starts) (suc place) (suc index) good less within same =
    let parts = good_first own earlier starts x good in
    apart_starts own (x ∷ earlier) starts place index parts.1 (omega arith) (omega arith) same

-- two places have two replies
abbrev reply_at : ℕ → List Event → ℕ → View → List ℕ → ℕ → Reply
reply_at n events rank own starts place = taken_reply rank (first_long own starts (items_at (moment_of n events rank own) starts (place ∷ []))) (items_at (moment_of n events rank own) starts (place ∷ []))

abbrev item_at : ℕ → List Event → ℕ → View → List ℕ → ℕ → Item
item_at n events rank own starts place =
    record { index = place; got = got_of (moment_of n events rank own) (slice_index starts place) (start_at own (slice_index starts place)) }

abbrev reply_by : ℕ → ℕ → Item → Bool → Reply
reply_by rank start item long = taken_reply rank (if long then Some start else None) (item ∷ [])

two_replies : (rank s t : ℕ) (one other : Item) (a b : Bool) → s ≢ t → one.index ≢ other.index → reply_by rank s one a ≡ reply_by rank t other b → ⊥
two_replies rank s t one other true true starts places same = (let e : Stopped (Truncated rank s) ≡ Stopped (Truncated rank t) = same in let f : s ≡ t = cc in starts f)
two_replies rank s t one other true false starts places same = (let e : Stopped (Truncated rank s) ≡ Took (other ∷ []) = same in cc)
two_replies rank s t one other false true starts places same = (let e : Took (one ∷ []) ≡ Stopped (Truncated rank t) = same in cc)
two_replies rank s t one other false false starts places same =
    (let e : Took (one ∷ []) ≡ Took (other ∷ []) = same in let f : one ≡ other = cc in places (ap (λ (i : Item). i.index) f))

apart_replies : (n : ℕ) (events : List Event) (rank : ℕ) (own : View) (starts : List ℕ) (place index : ℕ) → bad_request own [] starts ≡ None → place < index → index < length starts
    → reply_at n events rank own starts index ≡ reply_at n events rank own starts place → ⊥
apart_replies n events rank own starts place index good less within same =
    let s : ℕ → ℕ = λ i. slice_index starts i in
    let long : ℕ → Bool = λ i. is_long (start_at own (s i)) (got_of (moment_of n events rank own) (s i) (start_at own (s i))) in
    two_replies rank (s index) (s place) (item_at n events rank own starts index) (item_at n events rank own starts place) (long index) (long place)
    (λ e. apart_starts own [] starts place index good less within (sym e)) (λ e. absurd (omega (arith, less, e))) same

ready_within : (flags : List Bool) (index : ℕ) → is_ready_at flags index ≡ true → index < length flags
ready_within [] index h = absurd (cc)
ready_within (flag ∷ flags) zero h = omega arith
ready_within (flag ∷ flags) (suc index) h = (let less = ready_within flags index h in omega (arith, less))

ready_any : (flags : List Bool) (index : ℕ) → is_ready_at flags index ≡ true → list_any (λ x. x) flags ≡ true
ready_any [] index h = absurd (cc)
ready_any (true ∷ flags) index h = refl
ready_any (false ∷ flags) zero h = absurd (cc)
ready_any (false ∷ flags) (suc index) h = ready_any flags index h

-- a completion of one start, by its mode
record TakesOne (flags : List Bool) (mode : TakeMode) (index : ℕ) : Type 0 where
  picked : picked_places mode flags (Index index) ≡ index ∷ []
  own : picked_places mode flags First ≡ take 1 (true_places 0 flags)
  held : mode_holds mode flags ≡ list_any (λ x. x) flags

takes_one : (flags : List Bool) (starts : List ℕ) (mode : TakeMode) (index : ℕ) → completes_one (Take starts mode) ≡ true → TakesOne flags mode index
takes_one flags starts AnyOne index h = record { picked = refl; own = refl; held = refl }
takes_one flags starts TestAny index h = record { picked = refl; own = refl; held = refl }
takes_one flags starts All index h = absurd (cc)
takes_one flags starts Several index h = absurd (cc)
takes_one flags starts TestAll index h = absurd (cc)
takes_one flags starts TestSeveral index h = absurd (cc)

due_good : (halt : Option Halt) (full : Bool) (me : ℕ) (bad : Option ℕ) → or_else halt (if full then Some Limit else bad_halt me bad) ≡ None → bad ≡ None
due_good (Some halt) full me bad h = absurd (cc)
due_good None true me bad h = absurd (cc)
due_good None false me (Some k) h = absurd (cc)
due_good None false me None h = refl

-- a pick of an index that can be made
record HasIndex (n : ℕ) (events : List Event) (rank : ℕ) (starts : List ℕ) (mode : TakeMode) (index : ℕ) : Type 0 where
  none : due n events rank (view_of events rank) (Take starts mode) ≡ None
  good : bad_request (view_of events rank) [] starts ≡ None
  one : TakesOne (flags_of (moment_at n events rank) starts) mode index
  ready : is_ready_at (flags_of (moment_at n events rank) starts) index ≡ true

has_index : (n : ℕ) (events : List Event) (rank : ℕ) (starts : List ℕ) (mode : TakeMode) (index : ℕ) → has_pick n events rank (Take starts mode) (Index index) ≡ true
    → HasIndex n events rank starts mode index
has_index n events rank starts mode index offered =
    let own : View = view_of events rank in
    let call : Call = Take starts mode in
    let flags : List Bool = flags_of (moment_of n events rank own) starts in
    let d = none_due (due n events rank own call) (completes_one call && is_ready_at flags index) offered in
    let parts = and_parts (completes_one call) (is_ready_at flags index) d.1 in
    record {
      none = d.0;
      good = due_good (halted events) (is_full events) rank (bad_request own [] starts) d.0;
      one = takes_one flags starts mode index parts.0;
      ready = parts.1;
    }

-- what is written down of an index, by whether an earlier start is ready
index_none : (n : ℕ) (events : List Event) (rank : ℕ) (starts : List ℕ) (mode : TakeMode) (index : ℕ) → has_pick n events rank (Take starts mode) (Index index) ≡ true
    → list_any (λ x. x) (take index (flags_of (moment_at n events rank) starts)) ≡ false → IsWritten n events rank (Take starts mode) (Index index) First
index_none n events rank starts mode index offered none =
    let flags : List Bool = flags_of (moment_at n events rank) starts in
    let has = has_index n events rank starts mode index offered in
    let e : 0 + index ≡ index = omega arith in
    let first : take 1 (true_places 0 flags) ≡ index ∷ [] = first_place flags 0 index has.ready none ∙ ap (λ (x : ℕ). x ∷ []) e in
    written_none n events rank (Take starts mode) (Index index) (same_index n events rank starts mode index (has.one.own ∙ (first ∙ sym has.one.picked)))

index_pick : (n : ℕ) (events : List Event) (rank : ℕ) (starts : List ℕ) (mode : TakeMode) (index : ℕ) → has_pick n events rank (Take starts mode) (Index index) ≡ true
    → list_any (λ x. x) (take index (flags_of (moment_at n events rank) starts)) ≡ true → IsWritten n events rank (Take starts mode) (Index index) (Index index)
index_pick n events rank starts mode index offered some =
    let own : View = view_of events rank in
    let call : Call = Take starts mode in
    let flags : List Bool = flags_of (moment_of n events rank own) starts in
    let ready : ℕ → Bool = λ k. is_ready (moment_of n events rank own) k (start_at own k) in
    let has = has_index n events rank starts mode index offered in
    let earlier = earlier_place flags 0 index some in
    let e : 0 + earlier.0 ≡ earlier.0 = omega arith in
    let first : picked_places mode flags First ≡ earlier.0 ∷ [] = has.one.own ∙ (earlier.1 ∙ ap (λ (x : ℕ). x ∷ []) e) in
    let within : index < length starts = (let many : length flags ≡ length starts = length-map starts ready in let less = ready_within flags index has.ready in omega (arith, many, less)) in
    let R : Option Halt → Bool → List ℕ → Reply = λ halt held places. (
    let items : List Item = items_at (moment_of n events rank own) starts places in
    halt_or halt (if held then taken_reply rank (first_long own starts items) items else held_reply (is_test mode))) in
    let D : Option Halt = due n events rank own call in
    let held : mode_holds mode flags ≡ true = has.one.held ∙ ready_any flags index has.ready in
    let clear : (places : List ℕ) → R D (mode_holds mode flags) places ≡ R None true places = λ places. ap (λ halt. R halt (mode_holds mode flags) places) has.none ∙ ap (λ h. R None h places) held in
    let made : picked_reply n events rank call (Index index) ≡ reply_at n events rank own starts index =
    clear (picked_places mode flags (Index index)) ∙ ap (R None true) has.one.picked in
    let chosen : picked_reply n events rank call First ≡ reply_at n events rank own starts earlier.0 = clear (picked_places mode flags First) ∙ ap (R None true) first in
    written_pick n events rank call (Index index) offered (λ same.
    let replies : picked_reply n events rank call (Index index) ≡ picked_reply n events rank call First = ap (λ (x : Event). x.reply) (same ∙ sym (first_event n events rank call)) in
    apart_replies n events rank own starts earlier.0 index has.good earlier.2 within (sym made ∙ (replies ∙ chosen)))

not_false : (b : Bool) → not b ≡ false → b ≡ true
not_false true h = refl
not_false false h = absurd (cc)

-- which is told from what is known of the starts
pub no_earlier : (n : ℕ) (events : List Event) (state : MatchingState) (rank : ℕ) (starts listed : List ℕ) (mode : TakeMode) (index : ℕ) (none : Bool) → KnowsHistory n events state → listed ≡ starts
    → none ≡ not (list_any (λ k. ready_in state rank k) (take index listed)) → none ≡ true → has_pick n events rank (Take starts mode) (Index index) ≡ true
    → IsWritten n events rank (Take starts mode) (Index index) First
no_earlier n events state rank starts listed mode index none knows same is told offered =
    let any : List ℕ → Bool = λ l. list_any (λ k. ready_in state rank k) (take index l) in
    let quiet : any starts ≡ false = not_true (any starts) (ap (λ (l : List ℕ). not (any l)) (sym same) ∙ (sym is ∙ told)) in
    index_none n events rank starts mode index offered
    (sym (before_same n events state rank starts index knows (has_index n events rank starts mode index offered).good) ∙ quiet)

pub some_earlier : (n : ℕ) (events : List Event) (state : MatchingState) (rank : ℕ) (starts listed : List ℕ) (mode : TakeMode) (index : ℕ) (none : Bool) → KnowsHistory n events state → listed ≡ starts
    → none ≡ not (list_any (λ k. ready_in state rank k) (take index listed)) → none ≡ false → has_pick n events rank (Take starts mode) (Index index) ≡ true
    → IsWritten n events rank (Take starts mode) (Index index) (Index index)
some_earlier n events state rank starts listed mode index none knows same is told offered =
    let any : List ℕ → Bool = λ l. list_any (λ k. ready_in state rank k) (take index l) in
    let ready : any starts ≡ true = not_false (any starts) (ap (λ (l : List ℕ). not (any l)) (sym same) ∙ (sym is ∙ told)) in
    index_pick n events rank starts mode index offered
    (sym (before_same n events state rank starts index knows (has_index n events rank starts mode index offered).good) ∙ ready)
