-- What an event of a run picked: nothing only where nothing could be picked.
use Rattle.std.proofs.Common.{◌≡◌, ◌∙◌, ◌∷◌, ◌+◌, if◌then◌else◌, ℕ, zero, suc, List, [], Option, Some, None, Bool, true, false, inl, inr, is_some, length, not, slice_index, take, refl, ap, sym, subst}
use Rattle.std.proofs.lemmas.Bool.{and_left, and_parts, false_from_ne_true, or_left, or_right}
use Rattle.std.specs.List.{list_any}
use Rattle.mpi_call.specs.declared.call.Call.{Call}
use Rattle.mpi_call.specs.declared.call.Call.TheVariants.{Send, Post, Enter, Take, Peek, Abort, Trap, End}
use Rattle.mpi_call.specs.declared.call.Halt.{Halt}
use Rattle.mpi_call.specs.declared.call.TakeMode.{TakeMode}
use Rattle.mpi_call.specs.declared.call.TakeMode.TheVariants.{All, Any as AnyOne, Several, TestAll, TestAny, TestSeveral}
use Rattle.mpi_call.specs.declared.reply.Item.{Item}
use Rattle.mpi_call.specs.declared.reply.Reply.{Reply}
use Rattle.mpi_call.specs.declared.reply.Reply.TheVariants.{Peeked}
use Rattle.mpi_call.specs.Calls.{listed_by}
use Rattle.run_model.specs.declared.event.Event.{Event}
use Rattle.run_model.specs.Allowed.{first_long, flags_of, mode_holds, taken_reply, true_places}
use Rattle.run_model.specs.Choice.{choice}
use Rattle.run_model.specs.Chosen.{got_of, halt_or, held_reply, items_at, peek_reply, peeked_at, peeked_in}
use Rattle.run_model.specs.Due.{due}
use Rattle.run_model.specs.Pairs.{named}
use Rattle.run_model.specs.Shape.{is_test}
use Rattle.run_model.specs.Views.{View, moment_at, moment_of, start_at, view_of}
use Rattle.run_model.proofs.Choosing.{IsOpenAt, choice_none, choice_some}
use Rattle.run_model.proofs.ChosenGots.{accepted_send}
use Rattle.run_model.proofs.Views.{option_cases}
use Rattle.picked_runs.specs.declared.turn.Pick.{Pick}
use Rattle.picked_runs.specs.declared.turn.Pick.TheVariants.{First, Sender, Index}
use Rattle.picked_runs.specs.Picks.{call_from, completes_one, has_pick, is_offered, is_ready_at, looks, picked_answer, picked_event, picked_mate, picked_places, picked_reply}
use Rattle.picked_runs.specs.Made.{index_in, pick_by, pick_of, pick_unless, pick_of_partner}
use Rattle.picked_runs.proofs.Allowing.{pick_there}
use Rattle.picked_runs.proofs.Narrowing.{suits_back}
use Rattle.run_states.specs.Moves.{HasNoPick, IsPickSettled}

-- an event that picked nothing, where no halt is due
record IsPlain (n : ℕ) (before : List Event) (me : ℕ) (call : Call) (reply : Reply) (mate : Option ℕ) : Type 0 where
  reply_is : reply ≡ picked_answer n before me (view_of before me) call First
  mate_is : mate ≡ picked_mate before me call reply First
  pick_is : pick_by before call reply mate ≡ First

-- 1. it found no message

plain_finds : (n : ℕ) (before : List Event) (me : ℕ) (call : Call) (reply : Reply) (mate : Option ℕ) (at : ℕ) → IsPlain n before me call reply mate
    → looks call ≡ true → choice before me call ≡ Some at → ⊥
plain_finds n before me (Post comm source tag room) reply mate at p look found =
    let call : Call = Post comm source tag room in
    let o = (choice_some before me call at found).chosen in
    let mated : mate ≡ Some at = p.mate_is ∙ (ap (λ r. picked_mate before me call r First) p.reply_is ∙ found) in
    let no : Sender o.name.0 ≡ First = sym (ap pick_of_partner o.there) ∙ (sym (ap (pick_by before call reply) mated) ∙ p.pick_is) in
    cc
plain_finds n before me (Peek comm source tag wait) reply mate at p look found =
    let call : Call = Peek comm source tag wait in
    let o = (choice_some before me call at found).chosen in
    let s = accepted_send me comm source tag o.name.0 o.start o.suited in
    let sent : named before o.name ≡ Some (Send s.comm s.dest s.tag s.ints s.sync) = o.made ∙ ap (λ (c : Call). Some c) s.is in
    let replied : reply ≡ Peeked o.name.0 o.name.1 s.tag (length s.ints) =
    p.reply_is ∙ (ap (peek_reply before wait) found ∙ (ap (peeked_at before) o.there ∙ ap (peeked_in o.name) sent)) in
    let no : Sender o.name.0 ≡ First = sym (ap (λ r. pick_by before call r mate) replied) ∙ p.pick_is in
    cc
plain_finds n before me (Send comm dest tag ints sync) reply mate at p look found = absurd (cc)
plain_finds n before me (Enter comm kind root op count ints) reply mate at p look found = absurd (cc)
plain_finds n before me (Take starts mode) reply mate at p look found = absurd (cc)
plain_finds n before me (Abort code) reply mate at p look found = absurd (cc)
plain_finds n before me (Trap fault) reply mate at p look found = absurd (cc)
plain_finds n before me End reply mate at p look found = absurd (cc)

plain_senders : (n : ℕ) (before : List Event) (me : ℕ) (call : Call) (reply : Reply) (mate : Option ℕ) → IsPlain n before me call reply mate
    → (sender : ℕ) → has_pick n before me call (Sender sender) ≡ true → ⊥
plain_senders n before me call reply mate p sender h =
    let there = pick_there n before me call (Sender sender) (λ e. absurd (cc)) h in
    let narrowed : Call = call_from sender call in
    let parts = and_parts (looks call) (is_some (choice before me narrowed)) there.offered in
    elim (option_cases (choice before me narrowed)) [
      | inl some ↦
          let o = (choice_some before me narrowed some.0 some.1).chosen in
          let wide : IsOpenAt before me call some.0 =
          record { name = o.name; start = o.start; there = o.there; made = o.made; free = o.free; suited = (suits_back me sender call o.name.0 o.start parts.0 o.suited).0 } in
          elim (option_cases (choice before me call)) [
            | inl found ↦ plain_finds n before me call reply mate found.0 p parts.0 found.1
            | inr none ↦ choice_none before me call none some.0 wide
          ]
      | inr none ↦ (let no : false ≡ true = rw none at parts.1 in cc)
    ]

-- 2. it completed nothing

any_ready : (flags : List Bool) (index : ℕ) → is_ready_at flags index ≡ true → list_any (λ x. x) flags ≡ true
any_ready [] index h = absurd (cc)
any_ready (flag ∷ flags) zero h = or_left flag (list_any (λ x. x) flags) h
any_ready (flag ∷ flags) (suc index) h = or_right flag (list_any (λ x. x) flags) (any_ready flags index h)

first_place : (flags : List Bool) (at : ℕ) → list_any (λ x. x) flags ≡ true → (place : ℕ) × (take 1 (true_places at flags) ≡ place ∷ [])
first_place [] at h = absurd (cc)
first_place (true ∷ flags) at h = (at, refl)
first_place (false ∷ flags) at h = first_place flags (at + 1) h

taken_index : (starts : List ℕ) (me : ℕ) (long : Option ℕ) (item : Item) (items : List Item) → index_in starts (taken_reply me long (item ∷ items)) ≡ First → ⊥
taken_index starts me None item items h = cc
taken_index starts me (Some k) item items h = cc

one_taken : (n : ℕ) (before : List Event) (me : ℕ) (own : View) (starts : List ℕ) (mode : TakeMode) (reply : Reply)
    → mode_holds mode (flags_of (moment_of n before me own) starts) ≡ list_any (λ x. x) (flags_of (moment_of n before me own) starts)
    → picked_places mode (flags_of (moment_of n before me own) starts) First ≡ take 1 (true_places 0 (flags_of (moment_of n before me own) starts))
    → reply ≡ picked_answer n before me own (Take starts mode) First → index_in starts reply ≡ First
    → list_any (λ x. x) (flags_of (moment_of n before me own) starts) ≡ true → ⊥
one_taken n before me own starts mode reply held places reply_is pick_is any =
    let flags : List Bool = flags_of (moment_of n before me own) starts in
    let first = first_place flags 0 any in
    let R : Bool → List ℕ → Reply = λ holding indices. (
    let items : List Item = items_at (moment_of n before me own) starts indices in
    let taken : Reply = taken_reply me (first_long own starts items) items in
    if holding then taken else held_reply (is_test mode)) in
    let item : Item = record { index = first.0; got = got_of (moment_of n before me own) (slice_index starts first.0) (start_at own (slice_index starts first.0)) } in
    let replied : reply ≡ R true (first.0 ∷ []) =
    reply_is ∙ (ap (λ b. R b (picked_places mode flags First)) (held ∙ any) ∙ ap (R true) (places ∙ first.1)) in
    taken_index starts me (first_long own starts (item ∷ [])) item [] (sym (ap (index_in starts) replied) ∙ pick_is)

plain_completes : (n : ℕ) (before : List Event) (me : ℕ) (call : Call) (reply : Reply) (mate : Option ℕ) → IsPlain n before me call reply mate
    → completes_one call ≡ true → list_any (λ x. x) (flags_of (moment_at n before me) (listed_by call)) ≡ true → ⊥
plain_completes n before me (Take starts AnyOne) reply mate p one any = one_taken n before me (view_of before me) starts AnyOne reply refl refl p.reply_is p.pick_is any
plain_completes n before me (Take starts TestAny) reply mate p one any = one_taken n before me (view_of before me) starts TestAny reply refl refl p.reply_is p.pick_is any
plain_completes n before me (Take starts All) reply mate p one any = absurd (cc)
plain_completes n before me (Take starts Several) reply mate p one any = absurd (cc)
plain_completes n before me (Take starts TestAll) reply mate p one any = absurd (cc)
plain_completes n before me (Take starts TestSeveral) reply mate p one any = absurd (cc)
plain_completes n before me (Send comm dest tag ints sync) reply mate p one any = absurd (cc)
plain_completes n before me (Post comm source tag room) reply mate p one any = absurd (cc)
plain_completes n before me (Enter comm kind root op count ints) reply mate p one any = absurd (cc)
plain_completes n before me (Peek comm source tag wait) reply mate p one any = absurd (cc)
plain_completes n before me (Abort code) reply mate p one any = absurd (cc)
plain_completes n before me (Trap fault) reply mate p one any = absurd (cc)
plain_completes n before me End reply mate p one any = absurd (cc)

plain_indices : (n : ℕ) (before : List Event) (me : ℕ) (call : Call) (reply : Reply) (mate : Option ℕ) → IsPlain n before me call reply mate
    → (index : ℕ) → has_pick n before me call (Index index) ≡ true → ⊥
plain_indices n before me call reply mate p index h =
    let there = pick_there n before me call (Index index) (λ e. absurd (cc)) h in
    let flags : List Bool = flags_of (moment_at n before me) (listed_by call) in
    let parts = and_parts (completes_one call) (is_ready_at flags index) there.offered in
    plain_completes n before me call reply mate p parts.0 (any_ready flags index parts.1)

-- 3. so nothing could be picked

settled_by : (n : ℕ) (before : List Event) (event : Event) (pick : Pick) → due n before event.rank (view_of before event.rank) event.call ≡ None
    → event ≡ picked_event n before event.rank event.call pick → pick_by before event.call event.reply event.mate ≡ pick
    → IsPickSettled n before event.rank event.call pick
settled_by n before event (Sender sender) none made is = tt
settled_by n before event (Index index) none made is = tt
settled_by n before event First none made is =
    let me : ℕ = event.rank in
    let call : Call = event.call in
    let replied : event.reply ≡ picked_reply n before me call First = ap (λ (e : Event). e.reply) made in
    let mated : event.mate ≡ picked_mate before me call (picked_reply n before me call First) First = ap (λ (e : Event). e.mate) made in
    let plain : IsPlain n before me call event.reply event.mate = record {
      reply_is = replied ∙ ap (λ (o : Option Halt). halt_or o (picked_answer n before me (view_of before me) call First)) none;
      mate_is = mated ∙ ap (λ r. picked_mate before me call r First) (sym replied);
      pick_is = is;
    } in
    record {
      senders = λ sender. false_from_ne_true (has_pick n before me call (Sender sender)) (plain_senders n before me call event.reply event.mate plain sender);
      indices = λ index. false_from_ne_true (has_pick n before me call (Index index)) (plain_indices n before me call event.reply event.mate plain index);
    }

-- nor where a halt is due
no_pick_due : (n : ℕ) (before : List Event) (me : ℕ) (call : Call) (halt : Halt) → due n before me (view_of before me) call ≡ Some halt → HasNoPick n before me call
no_pick_due n before me call halt h =
    let off : not (is_some (due n before me (view_of before me) call)) ≡ false = ap (λ (o : Option Halt). not (is_some o)) h in
    record {
      senders = λ sender. and_left (not (is_some (due n before me (view_of before me) call))) (is_offered n before me (view_of before me) call (Sender sender)) off;
      indices = λ index. and_left (not (is_some (due n before me (view_of before me) call))) (is_offered n before me (view_of before me) call (Index index)) off;
    }

pub settled_of : (n : ℕ) (before : List Event) (event : Event) → event ≡ picked_event n before event.rank event.call (pick_of n before event)
    → IsPickSettled n before event.rank event.call (pick_of n before event)
settled_of n before event made =
    let due_is : Option Halt = due n before event.rank (view_of before event.rank) event.call in
    let P : Pick = pick_by before event.call event.reply event.mate in
    elim (option_cases due_is) [
      | inl some ↦
          let F : Option Halt → Type 0 = λ o. IsPickSettled n before event.rank event.call (pick_unless o P) in
          subst F (sym some.1) (no_pick_due n before event.rank event.call some.0 some.1)
      | inr none ↦ settled_by n before event (pick_of n before event) none made (sym (ap (λ (o : Option Halt). pick_unless o P) none))
    ]
