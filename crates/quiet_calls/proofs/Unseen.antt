-- A rank's call is answered behind a still event of another rank as it was without it.
use Rattle.std.proofs.Common.{◌≡◌, ◌∙◌, ◌++◌, ◌==◌, ◌&&◌, ◌||◌, ◌∷◌, if◌then◌else◌, ℕ, ℤ, List, [], Option, Some, None, Result, Ok, Err, Bool, true, false, inl, inr, is_some, length, map, not, slice_index, refl, ap, sym}
use Rattle.std.proofs.Math.Path.{fun_ext}
use Rattle.std.specs.List.{list_any}
use Rattle.mpi_call.specs.declared.call.Call.{Call}
use Rattle.mpi_call.specs.declared.call.Call.TheVariants.{Send, Post, Enter, Take, Peek, Abort, Trap, End}
use Rattle.mpi_call.specs.declared.call.Halt.{Halt}
use Rattle.mpi_call.specs.declared.call.Halt.TheVariants.{Limit, Mismatched}
use Rattle.mpi_call.specs.declared.call.Source.{Source}
use Rattle.mpi_call.specs.declared.call.Tag.{Tag}
use Rattle.mpi_call.specs.declared.call.Source.TheVariants.{Any, From, Null}
use Rattle.mpi_call.specs.declared.call.TakeMode.{TakeMode}
use Rattle.mpi_call.specs.declared.reply.Got.{Got}
use Rattle.mpi_call.specs.declared.reply.Got.TheVariants.{Made}
use Rattle.mpi_call.specs.declared.reply.Item.{Item}
use Rattle.mpi_call.specs.declared.reply.Reply.{Reply}
use Rattle.mpi_call.specs.Calls.{comm_of, listed_by, makes}
use Rattle.mpi_call.specs.Collectives.{is_uncoloured, members_made, needs}
use Rattle.run_model.specs.declared.event.Event.{Event}
use Rattle.run_model.specs.Allowed.{can_go, first_long, flags_of, has_open, mode_holds, is_prompt, taken_reply}
use Rattle.run_model.specs.Choice.{choice}
use Rattle.run_model.specs.Chosen.{collected, collected_by, got_of, halt_or, held_reply, items_at, message_of, peek_reply, peeked_at, peeked_in}
use Rattle.run_model.specs.Communicators.{Entered, enter_at, instance_of, members_for_rank}
use Rattle.run_model.specs.Due.{disagrees, due, halt_at, halted, is_full, is_mismatched, or_else}
use Rattle.run_model.specs.Inputs.{gather, inputs_of, is_gathered}
use Rattle.run_model.specs.Lists.{world}
use Rattle.run_model.specs.Numbers.{Origin, communicators_of, number_among, origin_of}
use Rattle.run_model.specs.Pairs.{pairs_of, partner_of}
use Rattle.run_model.specs.Readiness.{is_ready}
use Rattle.run_model.specs.Shape.{is_test}
use Rattle.run_model.specs.Views.{View, is_start, moment_of, start_at, starts_of, view_of}
use Rattle.run_model.proofs.Choosing.{choice_some}
use Rattle.run_model.proofs.Views.{option_cases, view_of-other}
use Rattle.picked_runs.specs.declared.turn.Pick.{Pick}
use Rattle.picked_runs.specs.declared.turn.Pick.TheVariants.{First, Sender, Index}
use Rattle.picked_runs.specs.Picks.{completes_one, has_pick, is_offered, is_ready_at, looking, looks, picked_answer, picked_event, picked_items, picked_mate, picked_places, picked_reply}
use Rattle.quiet_calls.proofs.Still.{IsStill}
use Rattle.quiet_calls.proofs.Beside.{choice_stays, enters_stay, has_open-stays, made_stay, message_stays, name_on, named_on, pairs_stay}

-- an event of another rank leaves to a rank what it had: its own starts, the Enters of all ranks, what there is for its calls; it brings no halt and
-- does not fill the history
pub record LeavesAlone (n : ℕ) (before : List Event) (event : Event) (me : ℕ) : Type 0 where
  pub own : view_of (before ++ event ∷ []) me ≡ view_of before me
  pub halts : halted (before ++ event ∷ []) ≡ halted before
  pub full : is_full (before ++ event ∷ []) ≡ is_full before
  pub enters : (comm instance m : ℕ) → enter_at n (view_of (before ++ event ∷ []) m) comm instance ≡ enter_at n (view_of before m) comm instance
  pub made : communicators_of n (before ++ event ∷ []) ≡ communicators_of n before
  pub paired : (k : ℕ) → partner_of (pairs_of (before ++ event ∷ [])) (me, k) ≡ partner_of (pairs_of before) (me, k)
  pub given : (k : ℕ) → message_of (before ++ event ∷ []) (partner_of (pairs_of before) (me, k)) ≡ message_of before (partner_of (pairs_of before) (me, k))
  pub choices : (call : Call) → choice (before ++ event ∷ []) me call ≡ choice before me call
  pub opens : (comm : ℕ) (source : Source) (tag : Tag) → has_open n (before ++ event ∷ []) me comm source tag ≡ has_open n before me comm source tag

-- 1. readiness

inputs_stay : (n : ℕ) (before : List Event) (event : Event) (me : ℕ) → LeavesAlone n before event me → (own : View) (k : ℕ) (enter : Call)
    → inputs_of n (view_of (before ++ event ∷ [])) me own k enter ≡ inputs_of n (view_of before) me own k enter
inputs_stay n before event me b own k enter =
    let members : List ℕ = members_for_rank n own (comm_of enter) in
    ap (λ (find : ℕ → Option Entered). gather (needs enter members me) find members)
    (fun_ext (λ m. b.enters (comm_of enter) (instance_of own k (comm_of enter)) m))

ready_stays : (n : ℕ) (before : List Event) (event : Event) (me : ℕ) → LeavesAlone n before event me → (own : View) (k : ℕ) (start : Option Call)
    → is_ready (moment_of n (before ++ event ∷ []) me own) k start ≡ is_ready (moment_of n before me own) k start
ready_stays n before event me b own k None = refl
ready_stays n before event me b own k (Some (Send comm dest tag ints sync)) = ap (λ o. not sync || is_some o) (b.paired k)
ready_stays n before event me b own k (Some (Post comm Null tag room)) = refl
ready_stays n before event me b own k (Some (Post comm Any tag room)) = ap is_some (b.paired k)
ready_stays n before event me b own k (Some (Post comm (From source) tag room)) = ap is_some (b.paired k)
ready_stays n before event me b own k (Some (Enter comm kind root op count ints)) =
    ap is_gathered (inputs_stay n before event me b own k (Enter comm kind root op count ints))
ready_stays n before event me b own k (Some (Take starts mode)) = refl
ready_stays n before event me b own k (Some (Peek comm source tag wait)) = refl
ready_stays n before event me b own k (Some (Abort code)) = refl
ready_stays n before event me b own k (Some (Trap fault)) = refl
ready_stays n before event me b own k (Some End) = refl

pub flags_stay : (n : ℕ) (before : List Event) (event : Event) (me : ℕ) → LeavesAlone n before event me → (own : View) (starts : List ℕ)
    → flags_of (moment_of n (before ++ event ∷ []) me own) starts ≡ flags_of (moment_of n before me own) starts
flags_stay n before event me b own starts =
    ap (λ (ready : ℕ → Bool). map ready starts) (fun_ext (λ k. ready_stays n before event me b own k (start_at own k)))

-- 2. what is given

given_stays : (n : ℕ) (before : List Event) (event : Event) (me : ℕ) → LeavesAlone n before event me → (k : ℕ)
    → message_of (before ++ event ∷ []) (partner_of (pairs_of (before ++ event ∷ [])) (me, k)) ≡ message_of before (partner_of (pairs_of before) (me, k))
given_stays n before event me b k = ap (message_of (before ++ event ∷ [])) (b.paired k) ∙ b.given k

collected_by-stays : (n : ℕ) (before : List Event) (event : Event) (me : ℕ) → LeavesAlone n before event me → (makes_it uncoloured : Bool) (own : View) (k : ℕ) (enter : Call) (inputs : List (List ℤ))
    → collected_by makes_it uncoloured (moment_of n (before ++ event ∷ []) me own) k enter inputs ≡ collected_by makes_it uncoloured (moment_of n before me own) k enter inputs
collected_by-stays n before event me b true true own k enter inputs = refl
collected_by-stays n before event me b true false own k enter inputs =
    ap (λ (made : List Origin). Made (number_among made (origin_of own k enter)) (members_made enter (members_for_rank n own (comm_of enter)) inputs me)) b.made
collected_by-stays n before event me b false uncoloured own k enter inputs = refl

collected_stays : (n : ℕ) (before : List Event) (event : Event) (me : ℕ) → LeavesAlone n before event me → (own : View) (k : ℕ) (enter : Call) (inputs : Result (List (List ℤ)) ℕ)
    → collected (moment_of n (before ++ event ∷ []) me own) k enter inputs ≡ collected (moment_of n before me own) k enter inputs
collected_stays n before event me b own k enter (Err missing) = refl
collected_stays n before event me b own k enter (Ok inputs) = collected_by-stays n before event me b (makes enter) (is_uncoloured enter) own k enter inputs

got_stays : (n : ℕ) (before : List Event) (event : Event) (me : ℕ) → LeavesAlone n before event me → (own : View) (k : ℕ) (start : Option Call)
    → got_of (moment_of n (before ++ event ∷ []) me own) k start ≡ got_of (moment_of n before me own) k start
got_stays n before event me b own k None = refl
got_stays n before event me b own k (Some (Send comm dest tag ints sync)) = refl
got_stays n before event me b own k (Some (Post comm Null tag room)) = refl
got_stays n before event me b own k (Some (Post comm Any tag room)) = given_stays n before event me b k
got_stays n before event me b own k (Some (Post comm (From source) tag room)) = given_stays n before event me b k
got_stays n before event me b own k (Some (Enter comm kind root op count ints)) =
    let enter : Call = Enter comm kind root op count ints in
    ap (collected (moment_of n (before ++ event ∷ []) me own) k enter) (inputs_stay n before event me b own k enter)
    ∙ collected_stays n before event me b own k enter (inputs_of n (view_of before) me own k enter)
got_stays n before event me b own k (Some (Take starts mode)) = refl
got_stays n before event me b own k (Some (Peek comm source tag wait)) = refl
got_stays n before event me b own k (Some (Abort code)) = refl
got_stays n before event me b own k (Some (Trap fault)) = refl
got_stays n before event me b own k (Some End) = refl

items_stay : (n : ℕ) (before : List Event) (event : Event) (me : ℕ) → LeavesAlone n before event me → (own : View) (starts indices : List ℕ)
    → items_at (moment_of n (before ++ event ∷ []) me own) starts indices ≡ items_at (moment_of n before me own) starts indices
items_stay n before event me b own starts [] = refl
items_stay n before event me b own starts (index ∷ indices) =
    let k : ℕ = slice_index starts index in
    let item : Got → Item = λ got. record { index = index; got = got } in
    ap (λ got. item got ∷ items_at (moment_of n (before ++ event ∷ []) me own) starts indices) (got_stays n before event me b own k (start_at own k))
    ∙ ap (λ (items : List Item). item (got_of (moment_of n before me own) k (start_at own k)) ∷ items) (items_stay n before event me b own starts indices)

-- 3. the halt that is due, and whether the call can go

mismatched_stays : (n : ℕ) (before : List Event) (event : Event) (me : ℕ) → LeavesAlone n before event me → (own : View) (enter : Call)
    → is_mismatched n (before ++ event ∷ []) own enter ≡ is_mismatched n before own enter
mismatched_stays n before event me b own enter =
    let instance : ℕ = instance_of own (length (starts_of own)) (comm_of enter) in
    ap (λ (find : ℕ → Option Entered). list_any (λ m. disagrees enter (find m)) (world n 0))
    (fun_ext (λ m. b.enters (comm_of enter) instance m))

halt_at-stays : (n : ℕ) (before : List Event) (event : Event) (me : ℕ) → LeavesAlone n before event me → (own : View) (call : Call)
    → halt_at n (before ++ event ∷ []) me own call ≡ halt_at n before me own call
halt_at-stays n before event me b own (Enter comm kind root op count ints) =
    ap (λ (x : Bool). if x then Some (Mismatched me) else None) (mismatched_stays n before event me b own (Enter comm kind root op count ints))
halt_at-stays n before event me b own (Send comm dest tag ints sync) = refl
halt_at-stays n before event me b own (Post comm source tag room) = refl
halt_at-stays n before event me b own (Take starts mode) = refl
halt_at-stays n before event me b own (Peek comm source tag wait) = refl
halt_at-stays n before event me b own (Abort code) = refl
halt_at-stays n before event me b own (Trap fault) = refl
halt_at-stays n before event me b own End = refl

pub due_by : (h h' : Option Halt) (full full' : Bool) (last last' : Option Halt) → h ≡ h' → full ≡ full' → last ≡ last'
    → or_else h (if full then Some Limit else last) ≡ or_else h' (if full' then Some Limit else last')
due_by h h' full full' last last' p q r =
    let D : Option Halt → Bool → Option Halt → Option Halt = λ a b c. or_else a (if b then Some Limit else c) in
    ap (λ a. D a full last) p ∙ (ap (λ b. D h' b last) q ∙ ap (D h' full') r)

due_stays : (n : ℕ) (before : List Event) (event : Event) (me : ℕ) → LeavesAlone n before event me → (own : View) (call : Call)
    → due n (before ++ event ∷ []) me own call ≡ due n before me own call
due_stays n before event me b own call =
    due_by (halted (before ++ event ∷ [])) (halted before) (is_full (before ++ event ∷ [])) (is_full before)
    (halt_at n (before ++ event ∷ []) me own call) (halt_at n before me own call) b.halts b.full (halt_at-stays n before event me b own call)

prompt_stays : (n : ℕ) (before : List Event) (event : Event) (me : ℕ) → LeavesAlone n before event me → (own : View) (call : Call)
    → is_prompt n (before ++ event ∷ []) me own call ≡ is_prompt n before me own call
prompt_stays n before event me b own (Take starts mode) = ap (λ (flags : List Bool). is_test mode || mode_holds mode flags) (flags_stay n before event me b own starts)
prompt_stays n before event me b own (Peek comm source tag wait) = ap (λ (x : Bool). not wait || x) (b.opens comm source tag)
prompt_stays n before event me b own (Send comm dest tag ints sync) = refl
prompt_stays n before event me b own (Post comm source tag room) = refl
prompt_stays n before event me b own (Enter comm kind root op count ints) = refl
prompt_stays n before event me b own (Abort code) = refl
prompt_stays n before event me b own (Trap fault) = refl
prompt_stays n before event me b own End = refl

goes_stays : (n : ℕ) (before : List Event) (event : Event) (me : ℕ) → LeavesAlone n before event me → (own : View) (call : Call)
    → can_go n (before ++ event ∷ []) me own call ≡ can_go n before me own call
goes_stays n before event me b own call =
    ap (λ (o : Option Halt). is_some o || is_prompt n (before ++ event ∷ []) me own call) (due_stays n before event me b own call)
    ∙ ap (λ (x : Bool). is_some (due n before me own call) || x) (prompt_stays n before event me b own call)

-- 4. the answer

pub peeked_stays : (before : List Event) (event : Event) (me : ℕ) (call : Call) (wait : Bool)
    → peek_reply (before ++ event ∷ []) wait (choice before me call) ≡ peek_reply before wait (choice before me call)
peeked_stays before event me call wait =
    elim (option_cases (choice before me call)) [
      | inl some ↦
          let o = (choice_some before me call some.0 some.1).chosen in
          let one : peek_reply (before ++ event ∷ []) wait (Some some.0) ≡ peeked_in o.name (Some o.start) =
          ap (peeked_at (before ++ event ∷ [])) (name_on before (event ∷ []) some.0 o.name o.there)
          ∙ ap (peeked_in o.name) (named_on before (event ∷ []) o.name o.start o.made) in
          let other : peek_reply before wait (Some some.0) ≡ peeked_in o.name (Some o.start) =
          ap (peeked_at before) o.there ∙ ap (peeked_in o.name) o.made in
          ap (peek_reply (before ++ event ∷ []) wait) some.1 ∙ (one ∙ (sym other ∙ sym (ap (peek_reply before wait) some.1)))
      | inr none ↦ ap (peek_reply (before ++ event ∷ []) wait) none ∙ sym (ap (peek_reply before wait) none)
    ]

peek_stays : (n : ℕ) (before : List Event) (event : Event) (me : ℕ) → LeavesAlone n before event me → (call : Call) (wait : Bool)
    → peek_reply (before ++ event ∷ []) wait (choice (before ++ event ∷ []) me call) ≡ peek_reply before wait (choice before me call)
peek_stays n before event me b call wait =
    ap (peek_reply (before ++ event ∷ []) wait) (b.choices call) ∙ peeked_stays before event me call wait

take_stays : (n : ℕ) (before : List Event) (event : Event) (me : ℕ) → LeavesAlone n before event me → (own : View) (starts : List ℕ) (mode : TakeMode) (pick : Pick)
    → picked_answer n (before ++ event ∷ []) me own (Take starts mode) pick ≡ picked_answer n before me own (Take starts mode) pick
take_stays n before event me b own starts mode pick =
    let after : List Event = before ++ event ∷ [] in
    let R : List Bool → List Item → Reply = λ flags items. (if mode_holds mode flags then taken_reply me (first_long own starts items) items else held_reply (is_test mode)) in
    let flags : flags_of (moment_of n after me own) starts ≡ flags_of (moment_of n before me own) starts = flags_stay n before event me b own starts in
    let items : picked_items (moment_of n after me own) starts mode pick ≡ picked_items (moment_of n before me own) starts mode pick =
    ap (λ (l : List Bool). items_at (moment_of n after me own) starts (picked_places mode l pick)) flags
    ∙ items_stay n before event me b own starts (picked_places mode (flags_of (moment_of n before me own) starts) pick) in
    ap (λ l. R l (picked_items (moment_of n after me own) starts mode pick)) flags ∙ ap (R (flags_of (moment_of n before me own) starts)) items

answer_stays : (n : ℕ) (before : List Event) (event : Event) (me : ℕ) → LeavesAlone n before event me → (own : View) (call : Call) (pick : Pick)
    → picked_answer n (before ++ event ∷ []) me own call pick ≡ picked_answer n before me own call pick
answer_stays n before event me b own (Take starts mode) pick = take_stays n before event me b own starts mode pick
answer_stays n before event me b own (Peek comm source tag wait) pick = peek_stays n before event me b (looking (Peek comm source tag wait) pick) wait
answer_stays n before event me b own (Send comm dest tag ints sync) pick = refl
answer_stays n before event me b own (Post comm source tag room) pick = refl
answer_stays n before event me b own (Enter comm kind root op count ints) pick = refl
answer_stays n before event me b own (Abort code) pick = refl
answer_stays n before event me b own (Trap fault) pick = refl
answer_stays n before event me b own End pick = refl

-- 5. the event of another rank

-- whether a pick can be made, by the halt that is due and by whether there is what is picked
abbrev has_with : Option Halt → Bool → Pick → Bool
has_with halt offered First = true
has_with halt offered pick = not (is_some halt) && offered

pub record IsUnseen (n : ℕ) (before : List Event) (event : Event) (me : ℕ) (call : Call) (pick : Pick) : Type 0 where
  pub same : picked_event n (before ++ event ∷ []) me call pick ≡ picked_event n before me call pick
  pub offered : has_pick n (before ++ event ∷ []) me call pick ≡ has_pick n before me call pick
  pub goes : can_go n (before ++ event ∷ []) me (view_of (before ++ event ∷ []) me) call ≡ can_go n before me (view_of before me) call

offered_stays : (n : ℕ) (before : List Event) (event : Event) (me : ℕ) → LeavesAlone n before event me → (own : View) (call : Call) (pick : Pick)
    → is_offered n (before ++ event ∷ []) me own call pick ≡ is_offered n before me own call pick
offered_stays n before event me b own call First = refl
offered_stays n before event me b own call (Sender sender) = ap (λ (o : Option ℕ). looks call && is_some o) (b.choices (looking call (Sender sender)))
offered_stays n before event me b own call (Index index) = ap (λ (l : List Bool). completes_one call && is_ready_at l index) (flags_stay n before event me b own (listed_by call))

pick_by : (n : ℕ) (before : List Event) (me : ℕ) (own : View) (call : Call) (pick : Pick) → view_of before me ≡ own
    → has_pick n before me call pick ≡ has_with (due n before me own call) (is_offered n before me own call pick) pick
pick_by n before me own call First same = refl
pick_by n before me own call (Sender sender) same =
    ap (λ (v : View). not (is_some (due n before me v call)) && is_offered n before me v call (Sender sender)) same
pick_by n before me own call (Index index) same =
    ap (λ (v : View). not (is_some (due n before me v call)) && is_offered n before me v call (Index index)) same

pub unseen : (n : ℕ) (before : List Event) (event : Event) (me : ℕ) (call : Call) (pick : Pick) → LeavesAlone n before event me → IsUnseen n before event me call pick
unseen n before event me call pick b =
    let after : List Event = before ++ event ∷ [] in
    let own : View = view_of before me in
    let seen : view_of after me ≡ own = b.own in
    let answer : picked_answer n after me (view_of after me) call pick ≡ picked_answer n before me own call pick =
    ap (λ (v : View). picked_answer n after me v call pick) seen ∙ answer_stays n before event me b own call pick in
    let halt : due n after me (view_of after me) call ≡ due n before me own call =
    ap (λ (v : View). due n after me v call) seen ∙ due_stays n before event me b own call in
    let reply : picked_reply n after me call pick ≡ picked_reply n before me call pick =
    ap (λ o. halt_or o (picked_answer n after me (view_of after me) call pick)) halt ∙ ap (halt_or (due n before me own call)) answer in
    let E : Reply → Option ℕ → Event = λ r m. record { rank = me; call = call; reply = r; mate = m; met = [] } in
    let mate : (r : Reply) → picked_mate after me call r pick ≡ picked_mate before me call r pick =
    λ r. ap (λ (o : Option ℕ). if is_start (call, r) then o else None) (b.choices (looking call pick)) in
    record {
      same = ap (λ r. E r (picked_mate after me call r pick)) reply ∙ ap (E (picked_reply n before me call pick)) (mate (picked_reply n before me call pick));
      offered = pick_by n after me own call pick seen
          ∙ (ap (λ o. has_with o (is_offered n after me own call pick) pick) (due_stays n before event me b own call)
          ∙ (ap (λ x. has_with (due n before me own call) x pick) (offered_stays n before event me b own call pick)
          ∙ sym (pick_by n before me own call pick refl)));
      goes = ap (λ (v : View). can_go n after me v call) seen ∙ goes_stays n before event me b own call;
    }

-- 6. a still event leaves every other rank alone

pub still_leaves : (n : ℕ) (before : List Event) (event : Event) (me : ℕ) → IsStill event → halted (before ++ event ∷ []) ≡ halted before
    → is_full (before ++ event ∷ []) ≡ is_full before → (event.rank == me) ≡ false → LeavesAlone n before event me
still_leaves n before event me still halts full apart =
    record {
      own = view_of-other before event me apart;
      halts = halts;
      full = full;
      enters = λ comm instance m. enters_stay n before event still comm instance m;
      made = made_stay n before event still;
      paired = λ k. ap (λ l. partner_of l (me, k)) (pairs_stay before event still);
      given = λ k. message_stays before event still (partner_of (pairs_of before) (me, k));
      choices = λ call. choice_stays before event still me call;
      opens = λ comm source tag. has_open-stays n before event still me comm source tag;
    }
