-- A pick that can be made, and leaves nothing to the order of events, makes the same event after histories that leave the same.
use Rattle.std.proofs.Common.{◌≡◌, ◌∙◌, if◌then◌else◌, ℕ, List, Option, Some, None, Bool, true, false, inl, inr, not, refl, ap, sym}
use Rattle.std.proofs.lemmas.Bool.{and_parts, and_right}
use Rattle.mpi_call.specs.declared.call.Call.{Call}
use Rattle.mpi_call.specs.declared.call.Call.TheVariants.{Send, Post, Enter, Take, Peek, Abort, Trap, End}
use Rattle.mpi_call.specs.declared.call.Halt.{Halt}
use Rattle.mpi_call.specs.declared.call.TakeMode.{TakeMode}
use Rattle.mpi_call.specs.declared.reply.Item.{Item}
use Rattle.mpi_call.specs.declared.reply.Reply.{Reply}
use Rattle.mpi_call.specs.declared.reply.Reply.TheVariants.{Stopped}
use Rattle.mpi_call.specs.Calls.{is_starting}
use Rattle.run_model.specs.declared.event.Event.{Event}
use Rattle.run_model.specs.Allowed.{first_long, flags_of, mode_holds, taken_reply}
use Rattle.run_model.specs.Choice.{choice}
use Rattle.run_model.specs.Chosen.{halt_or, held_reply, items_at, peek_reply, peeked_at, peeked_in}
use Rattle.run_model.specs.Due.{due}
use Rattle.run_model.specs.Pairs.{Name, named}
use Rattle.run_model.specs.Shape.{is_test}
use Rattle.run_model.specs.Views.{View, is_done, is_start, moment_of, start_at, view_of}
use Rattle.run_model.proofs.Choosing.{choice_some}
use Rattle.run_model.proofs.Views.{option_cases, test_cases}
use Rattle.picked_runs.specs.declared.turn.Pick.{Pick}
use Rattle.picked_runs.specs.declared.turn.Pick.TheVariants.{First, Sender, Index}
use Rattle.picked_runs.specs.Picks.{call_from, has_pick, picked_answer, picked_choice, picked_event, picked_items, picked_mate, picked_places, picked_reply}
use Rattle.run_states.specs.Futures.{SameEvent, SameFuture, mate_name}
use Rattle.run_states.specs.Moves.{IsPickSettled}
use Rattle.run_states.proofs.Alike.{Alike, flags_same, items_same}
use Rattle.run_states.proofs.Naming.{choice_names, enters_own, narrowed_own, none_moves, sends_own}
use Rattle.run_states.proofs.Offers.{index_completes, no_pick_none, own_due, sender_looks}

-- a pick that can be made where no halt is due
record Goes (n : ℕ) (one other : List Event) (me : ℕ) (call : Call) (pick : Pick) : Type 0 where
  same : SameFuture n one other
  alike : Alike n one other
  none : due n one me (view_of one me) call ≡ None
  offered : has_pick n one me call pick ≡ true
  settled : IsPickSettled n one me call pick

starting_of : (call : Call) (reply : Reply) → is_start (call, reply) ≡ true → is_starting call ≡ true
starting_of call reply h = (and_parts (is_starting call) (is_done reply) h).0

-- 1. the start that is chosen has one name

nothing_names : (n : ℕ) (one other : List Event) (me : ℕ) (call : Call) → SameFuture n one other → choice one me call ≡ None
    → mate_name one (choice one me call) ≡ mate_name other (choice other me call)
nothing_names n one other me call same none = ap (mate_name one) none ∙ sym (ap (mate_name other) (none_moves n one other same me call none))

chosen_names : (n : ℕ) (one other : List Event) (me : ℕ) (call : Call) (pick : Pick) → Goes n one other me call pick → is_starting call ≡ true
    → mate_name one (picked_choice one me call pick) ≡ mate_name other (picked_choice other me call pick)
chosen_names n one other me (Send comm dest tag ints sync) First g starting = choice_names n one other g.same me (Send comm dest tag ints sync) (sends_own me comm dest tag ints sync)
chosen_names n one other me (Send comm dest tag ints sync) (Sender sender) g starting =
    let no : false ≡ true = sender_looks n one me (Send comm dest tag ints sync) sender g.offered in absurd (cc)
chosen_names n one other me (Send comm dest tag ints sync) (Index index) g starting =
    let no : false ≡ true = index_completes n one me (Send comm dest tag ints sync) index g.offered in absurd (cc)
chosen_names n one other me (Enter comm kind root op count ints) First g starting =
    choice_names n one other g.same me (Enter comm kind root op count ints) (enters_own me comm kind root op count ints)
chosen_names n one other me (Enter comm kind root op count ints) (Sender sender) g starting =
    let no : false ≡ true = sender_looks n one me (Enter comm kind root op count ints) sender g.offered in absurd (cc)
chosen_names n one other me (Enter comm kind root op count ints) (Index index) g starting =
    let no : false ≡ true = index_completes n one me (Enter comm kind root op count ints) index g.offered in absurd (cc)
chosen_names n one other me (Post comm source tag room) First g starting =
    nothing_names n one other me (Post comm source tag room) g.same (no_pick_none n one me (Post comm source tag room) refl g.none g.settled)
chosen_names n one other me (Post comm source tag room) (Sender sender) g starting =
    choice_names n one other g.same me (call_from sender (Post comm source tag room)) (narrowed_own me sender (Post comm source tag room) refl)
chosen_names n one other me (Post comm source tag room) (Index index) g starting =
    let no : false ≡ true = index_completes n one me (Post comm source tag room) index g.offered in absurd (cc)
chosen_names n one other me (Take starts mode) pick g starting = absurd (cc)
chosen_names n one other me (Peek comm source tag wait) pick g starting = absurd (cc)
chosen_names n one other me (Abort code) pick g starting = absurd (cc)
chosen_names n one other me (Trap fault) pick g starting = absurd (cc)
chosen_names n one other me End pick g starting = absurd (cc)

mates_same : (n : ℕ) (one other : List Event) (me : ℕ) (call : Call) (reply : Reply) (pick : Pick) → Goes n one other me call pick
    → mate_name one (picked_mate one me call reply pick) ≡ mate_name other (picked_mate other me call reply pick)
mates_same n one other me call reply pick g =
    elim (test_cases (is_start (call, reply))) [
      | inl t ↦ rw t (chosen_names n one other me call pick g (starting_of call reply t))
      | inr f ↦ rw f refl
    ]

-- 2. the reply

-- the reply to a probe by the name of what it finds
abbrev peek_by : List Event → Bool → Option Name → Reply
peek_by before wait None = held_reply (not wait)
peek_by before wait (Some send) = peeked_in send (named before send)

peek_named : (before : List Event) (me : ℕ) (call : Call) (wait : Bool) → peek_reply before wait (choice before me call) ≡ peek_by before wait (mate_name before (choice before me call))
peek_named before me call wait =
    elim (option_cases (choice before me call)) [
      | inl some ↦
          let there : mate_name before (Some some.0) ≡ Some (choice_some before me call some.0 some.1).chosen.name = (choice_some before me call some.0 some.1).chosen.there in
          ap (peek_reply before wait) some.1 ∙ (ap (peeked_at before) there ∙ sym (ap (λ o. peek_by before wait (mate_name before o)) some.1 ∙ ap (peek_by before wait) there))
      | inr none ↦ ap (peek_reply before wait) none ∙ sym (ap (λ o. peek_by before wait (mate_name before o)) none)
    ]

peek_by-same : (n : ℕ) (one other : List Event) → SameFuture n one other → (wait : Bool) (found : Option Name) → peek_by one wait found ≡ peek_by other wait found
peek_by-same n one other same wait None = refl
peek_by-same n one other same wait (Some send) = ap (λ (v : View). peeked_in send (start_at v send.1)) (same.views send.0)

peek_same : (n : ℕ) (one other : List Event) → SameFuture n one other → (me : ℕ) (call : Call) (wait : Bool)
    → mate_name one (choice one me call) ≡ mate_name other (choice other me call)
    → peek_reply one wait (choice one me call) ≡ peek_reply other wait (choice other me call)
peek_same n one other same me call wait names =
    peek_named one me call wait ∙ (ap (peek_by one wait) names
    ∙ (peek_by-same n one other same wait (mate_name other (choice other me call)) ∙ sym (peek_named other me call wait)))

take_same : (n : ℕ) (one other : List Event) → Alike n one other → (me : ℕ) (own : View) (starts : List ℕ) (mode : TakeMode) (pick : Pick)
    → picked_answer n one me own (Take starts mode) pick ≡ picked_answer n other me own (Take starts mode) pick
take_same n one other a me own starts mode pick =
    let R : List Bool → List Item → Reply = λ flags items. (if mode_holds mode flags then taken_reply me (first_long own starts items) items else held_reply (is_test mode)) in
    let flags : flags_of (moment_of n one me own) starts ≡ flags_of (moment_of n other me own) starts = flags_same n one other a me own starts in
    let items : picked_items (moment_of n one me own) starts mode pick ≡ picked_items (moment_of n other me own) starts mode pick =
    ap (λ (l : List Bool). items_at (moment_of n one me own) starts (picked_places mode l pick)) flags
    ∙ items_same n one other a me own starts (picked_places mode (flags_of (moment_of n other me own) starts) pick) in
    ap (λ l. R l (picked_items (moment_of n one me own) starts mode pick)) flags ∙ ap (R (flags_of (moment_of n other me own) starts)) items

answers_same : (n : ℕ) (one other : List Event) (me : ℕ) (own : View) (call : Call) (pick : Pick) → Goes n one other me call pick
    → picked_answer n one me own call pick ≡ picked_answer n other me own call pick
answers_same n one other me own (Take starts mode) pick g = take_same n one other g.alike me own starts mode pick
answers_same n one other me own (Peek comm source tag wait) First g =
    let call : Call = Peek comm source tag wait in
    peek_same n one other g.same me call wait (nothing_names n one other me call g.same (no_pick_none n one me call refl g.none g.settled))
answers_same n one other me own (Peek comm source tag wait) (Sender sender) g =
    peek_same n one other g.same me (call_from sender (Peek comm source tag wait)) wait
    (choice_names n one other g.same me (call_from sender (Peek comm source tag wait)) (narrowed_own me sender (Peek comm source tag wait) refl))
answers_same n one other me own (Peek comm source tag wait) (Index index) g =
    let no : false ≡ true = index_completes n one me (Peek comm source tag wait) index g.offered in absurd (cc)
answers_same n one other me own (Send comm dest tag ints sync) pick g = refl
answers_same n one other me own (Post comm source tag room) pick g = refl
answers_same n one other me own (Enter comm kind root op count ints) pick g = refl
answers_same n one other me own (Abort code) pick g = refl
answers_same n one other me own (Trap fault) pick g = refl
answers_same n one other me own End pick g = refl

replies_same : (n : ℕ) (one other : List Event) (me : ℕ) (call : Call) (pick : Pick) → Goes n one other me call pick
    → picked_reply n one me call pick ≡ picked_reply n other me call pick
replies_same n one other me call pick g =
    let answer : picked_answer n one me (view_of one me) call pick ≡ picked_answer n other me (view_of other me) call pick =
    answers_same n one other me (view_of one me) call pick g ∙ ap (λ (v : ℕ → View). picked_answer n other me (v me) call pick) g.alike.views in
    ap (λ (o : Option Halt). halt_or o (picked_answer n one me (view_of one me) call pick)) (own_due n one other g.alike me call)
    ∙ ap (halt_or (due n other me (view_of other me) call)) answer

-- 3. the event

-- a call that is answered by a halt starts nothing
halt_mate : (before : List Event) (me : ℕ) (call : Call) (pick : Pick) (halt : Halt) → mate_name before (picked_mate before me call (Stopped halt) pick) ≡ None
halt_mate before me call pick halt =
    let idle : is_start (call, Stopped halt) ≡ false = and_right (is_starting call) false refl in
    rw idle refl

halt_reply : (n : ℕ) (before : List Event) (me : ℕ) (call : Call) (pick : Pick) (halt : Halt) → due n before me (view_of before me) call ≡ Some halt
    → picked_reply n before me call pick ≡ Stopped halt
halt_reply n before me call pick halt h = ap (λ o. halt_or o (picked_answer n before me (view_of before me) call pick)) h

pub events_same : (n : ℕ) (one other : List Event) → SameFuture n one other → Alike n one other → (me : ℕ) (call : Call) (pick : Pick)
    → has_pick n one me call pick ≡ true → IsPickSettled n one me call pick
    → SameEvent one other (picked_event n one me call pick) (picked_event n other me call pick)
events_same n one other same a me call pick offered settled =
    elim (option_cases (due n one me (view_of one me) call)) [
      | inl some ↦
          let halt : Halt = some.0 in
          let first : picked_reply n one me call pick ≡ Stopped halt = halt_reply n one me call pick halt some.1 in
          let second : picked_reply n other me call pick ≡ Stopped halt = halt_reply n other me call pick halt (sym (own_due n one other a me call) ∙ some.1) in
          record {
            rank = refl;
            call = refl;
            reply = first ∙ sym second;
            mate = ap (λ r. mate_name one (picked_mate one me call r pick)) first ∙ (halt_mate one me call pick halt
                ∙ sym (ap (λ r. mate_name other (picked_mate other me call r pick)) second ∙ halt_mate other me call pick halt));
            met = refl;
          }
      | inr none ↦
          let g : Goes n one other me call pick = record { same = same; alike = a; none = none; offered = offered; settled = settled } in
          let reply : picked_reply n one me call pick ≡ picked_reply n other me call pick = replies_same n one other me call pick g in
          record {
            rank = refl;
            call = refl;
            reply = reply;
            mate = ap (λ r. mate_name one (picked_mate one me call r pick)) reply ∙ mates_same n one other me call (picked_reply n other me call pick) pick g;
            met = refl;
          }
    ]
