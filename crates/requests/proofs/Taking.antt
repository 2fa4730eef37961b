-- What a completion answers and leaves, by the history.
use Rattle.std.proofs.Common.{◌≡◌, ◌<◌, ◌+◌, ◌&&◌, ◌||◌, ◌==◌, ℕ, ℤ, zero, suc, List, [], ◌∷◌, ◌++◌, Option, Some, None, Bool, true, false, not, cond, set, length, map, slice_get, slice_index, take, inl, inr, refl, ap, sym, ◌∙◌, subst, arith, append-nil, get_or-set_same}
use Rattle.std.specs.Prelude.{option_map}
use Rattle.std.proofs.lemmas.Bool.{cases_eq, eqb-true, eq-eqb, and_parts}
use Rattle.std.proofs.lemmas.List.{set-get_or}
use Rattle.mpi_call.specs.declared.call.Call.{Call}
use Rattle.mpi_call.specs.declared.call.Call.TheVariants.{Send, Post, Enter, Take}
use Rattle.mpi_call.specs.declared.call.Source.TheVariants.{Any, From, Null}
use Rattle.mpi_call.specs.declared.reply.Got.{Got}
use Rattle.mpi_call.specs.declared.call.TakeMode.{TakeMode}
use Rattle.mpi_call.specs.declared.call.TakeMode.TheVariants.{All, Any as AnyOne, Several, TestAll, TestAny, TestSeveral}
use Rattle.mpi_call.specs.declared.reply.Item.{Item}
use Rattle.mpi_call.specs.Calls.{comm_of, is_enter, makes}
use Rattle.mpi_call.specs.Collectives.{is_uncoloured, members_made}
use Rattle.mpi_call.specs.Members.{is_member}
use Rattle.run_model.specs.declared.event.Event.{Event}
use Rattle.run_model.specs.Allowed.{first_long, flags_of, mode_holds, taken_reply, true_places}
use Rattle.run_model.specs.Choice.{chosen_places}
use Rattle.run_model.specs.Chosen.{chosen_answer, held_reply, items_of, message_of_pair}
use Rattle.run_model.specs.Communicators.{made_in_got, made_in_items, or_members}
use Rattle.collectives.specs.Boards.{Stages, enters_of}
use Rattle.comms.specs.Communicators.{Communicators, members_of, old_members}
use Rattle.requests.specs.Enters.{needed_ints}
use Rattle.run_model.specs.Due.{bad_request}
use Rattle.run_model.specs.Pairs.{Name, name_at, partner_of}
use Rattle.run_model.specs.Shape.{is_test}
use Rattle.run_model.specs.Views.{View, items_taken, moment_at, moment_of, taken_of, view_of}
use Rattle.run_model.proofs.ChosenGots.{AllOf}
use Rattle.run_model.proofs.Views.{option_cases, test_cases, view_of-mine, view_of-other}
use Rattle.picked_runs.proofs.Grown.{named-other}
use Rattle.match_core.proofs.Knowing.{knows_others}
use Rattle.requests.specs.declared.start.MadeStart.{MadeStart}
use Rattle.requests.specs.declared.requests.TakeAnswer.{TakeAnswer}
use Rattle.requests.specs.declared.requests.TakeAnswer.TheVariants.{Took, NotReady, TooLong, BadStart}
use Rattle.requests.specs.Starts.{Rows, all_marked, call_of_start, found_in, is_gone, marked, partner_name, row_of, with_row}
use Rattle.requests.specs.States.{MatchingState, RequestTable, with_rows}
use Rattle.requests.specs.Taking.{collected_as, collected_in, got_as, got_in, inputs_in, is_complete_as, is_gathered_in, members_for, partner_message, answer_in, bad_or, held_or, places_from, takes_one, can_take_in, first_bad, first_long_in, flags_in, is_start_complete, handed_item, handed_items, long_or, rows_after}
use Rattle.requests.specs.Histories.{Answers, IsNumbered, KnowsHistory, KnowsTaken, communicator_given, took_event}
use Rattle.requests.proofs.Found.{get-marked, length-row, not_same}
use Rattle.requests.proofs.Pairing.{name_at-push, one_more, pairs-alone}
use Rattle.requests.proofs.Starting.{taken_of-append}
use Rattle.requests.proofs.Known.{calls_there, name_past}
use Rattle.requests.proofs.Sounding.{found-marked, marked_shape, there_is}
use Rattle.requests.proofs.ChosenPlaces.{IsPlace, places_complete}
use Rattle.requests.proofs.Entering.{IsThere, enters_on}
use Rattle.requests.proofs.Answering.{among-append, complete_enter, own_start, bad_same, flags_are, items_same, long_same}

-- the answer
chosen_is : (n : ℕ) (events : List Event) (own : View) (me : ℕ) (starts : List ℕ) (mode : TakeMode) (long : Option ℕ) (items : List Item)
    → mode_holds mode (flags_of (moment_of n events me own) starts) ≡ true → items_of (moment_of n events me own) starts mode ≡ items → first_long own starts items ≡ long
    → chosen_answer n events me own (Take starts mode) ≡ taken_reply me long items
chosen_is n events own me starts mode long items h i l =
    let all : List Item = items_of (moment_of n events me own) starts mode in
    ap (λ (b : Bool). cond b (taken_reply me (first_long own starts all) all) (held_reply (is_test mode))) h
    ∙ (ap (λ (x : List Item). taken_reply me (first_long own starts x) x) i ∙ ap (λ (o : Option ℕ). taken_reply me o items) l)

answers_by : (n : ℕ) (events : List Event) (me : ℕ) (starts : List ℕ) (mode : TakeMode) (bad : Option ℕ) (ready : Bool) (long : Option ℕ) (items : List Item)
    → bad_request (view_of events me) [] starts ≡ bad → mode_holds mode (flags_of (moment_at n events me) starts) ≡ ready
    → items_of (moment_at n events me) starts mode ≡ items → first_long (view_of events me) starts items ≡ long
    → Answers n events me starts mode (bad_or bad ready long items)
answers_by n events me starts mode (Some k) ready long items b h i l = b
answers_by n events me starts mode None false long items b h i l = (b, h)
answers_by n events me starts mode None true (Some k) items b h i l = (b, h, chosen_is n events (view_of events me) me starts mode (Some k) items h i l)
answers_by n events me starts mode None true None items b h i l = (b, h, chosen_is n events (view_of events me) me starts mode None items h i l)

pub answers_are : (n : ℕ) (events : List Event) (state : MatchingState) (me : ℕ) (starts : List ℕ) (mode : TakeMode) → KnowsHistory n events state
    → Answers n events me starts mode (answer_in state.table me starts mode)
answers_are n events state me starts mode knows =
    answers_by n events me starts mode (first_bad state.table.rows me [] starts) (mode_holds mode (flags_in state.table me starts))
    (first_long_in state.table.rows me starts (handed_items state.table me starts mode)) (handed_items state.table me starts mode)
    (bad_same n events state me [] [] starts knows (λ j. refl)) (ap (mode_holds mode) (flags_are n events state me starts knows))
    (items_same n events state me starts mode knows) (long_same n events state me starts (handed_items state.table me starts mode) knows)

-- items that are handed out: of complete starts at these places of a list without a bad start
pub record HandsOut (table : RequestTable) (me : ℕ) (starts places : List ℕ) (items : List Item) : Type 0 where
  pub none_bad : first_bad table.rows me [] starts ≡ None
  pub items_are : map (handed_item table me starts) places ≡ items
  pub complete : AllOf (IsPlace (λ number. is_start_complete table me (found_in table.rows (me, number))) starts) places

took_by : (bad : Option ℕ) (ready : Bool) (long : Option ℕ) (all items : List Item) → bad_or bad ready long all ≡ Took items → (bad ≡ None) × (all ≡ items)
took_by (Some k) ready long all items h = absurd (cc)
took_by None false long all items h = absurd (cc)
took_by None true (Some k) all items h = absurd (cc)
took_by None true None all items h = (refl, cc)

pub hands_them : (table : RequestTable) (me : ℕ) (starts : List ℕ) (mode : TakeMode) (items : List Item) → answer_in table me starts mode ≡ Took items
    → HandsOut table me starts (chosen_places mode (flags_in table me starts)) items
hands_them table me starts mode items h =
    let both = took_by (first_bad table.rows me [] starts) (mode_holds mode (flags_in table me starts)) (first_long_in table.rows me starts (handed_items table me starts mode)) (handed_items table me starts mode) items h in
    record { none_bad = both.0; items_are = both.1; complete = places_complete (λ number. is_start_complete table me (found_in table.rows (me, number))) starts mode }

-- a start that is handed out is listed at a place, and complete
record IsHanded (test : ℕ → Bool) (starts : List ℕ) (k : ℕ) : Type 0 where
  place : ℕ
  below : place < length starts
  here : slice_index starts place ≡ k
  complete : test k ≡ true

handed_at : (table : RequestTable) (me : ℕ) (test : ℕ → Bool) (starts indices : List ℕ) (k : ℕ) → AllOf (IsPlace test starts) indices
    → is_member (items_taken starts (map (handed_item table me starts) indices)) k ≡ true → IsHanded test starts k
handed_at table me test starts [] k all h = absurd (cc)
handed_at table me test starts (i ∷ indices) k all h =
    elim (test_cases (slice_index starts i == k)) [
      | inl t ↦ (
          let e : slice_index starts i ≡ k = eqb-true (slice_index starts i) k t in
          record { place = i; below = all.0.0; here = e; complete = ap test (sym e) ∙ all.0.1 })
      | inr t ↦ handed_at table me test starts indices k all.1 (rw t at h)
    ]

handed : (table : RequestTable) (me : ℕ) (starts places : List ℕ) (items : List Item) (k : ℕ) → HandsOut table me starts places items → is_member (items_taken starts items) k ≡ true
    → IsHanded (λ number. is_start_complete table me (found_in table.rows (me, number))) starts k
handed table me starts places items k out h =
    let F : List Item → Type 0 = λ l. is_member (items_taken starts l) k ≡ true in
    handed_at table me (λ number. is_start_complete table me (found_in table.rows (me, number))) starts places k out.complete (subst F (sym out.items_are) h)

complete_there : (table : RequestTable) (me : ℕ) (o : Option MadeStart) → is_start_complete table me o ≡ true → (start : MadeStart) × (o ≡ Some start)
complete_there table me None h = absurd (cc)
complete_there table me (Some start) h = (start, refl)

-- no listed start was taken
listed_open : (rows : Rows) (me : ℕ) (earlier starts : List ℕ) (i : ℕ) → first_bad rows me earlier starts ≡ None → i < length starts
    → can_take_in (found_in rows (me, slice_index starts i)) ≡ true
listed_open rows me earlier [] i h less = absurd (omega arith)
listed_open rows me earlier (k ∷ starts) zero h less =
    elim (test_cases (can_take_in (found_in rows (me, k)) && not (is_member earlier k))) [
      | inl t ↦ (and_parts (can_take_in (found_in rows (me, k))) (not (is_member earlier k)) t).0
      | inr t ↦ (let no : Some k ≡ None = rw t at h in absurd (cc))
    ]
listed_open rows me earlier (k ∷ starts) (suc i) h less =
    elim (test_cases (can_take_in (found_in rows (me, k)) && not (is_member earlier k))) [
      | inl t ↦ listed_open rows me (earlier ++ k ∷ []) starts i (rw t at h) (omega arith)
      | inr t ↦ (let no : Some k ≡ None = rw t at h in absurd (cc))
    ]

-- what marks do not touch
pub kept-marked : {A : Type 0} (g : Option MadeStart → A) (rows : Rows) (rank : ℕ) (taken : Bool) (numbers : List ℕ) (other : Name) → rank < length rows
    → ((o : Option MadeStart) → g (option_map (marked taken) o) ≡ g o)
    → g (found_in (with_row rank (all_marked taken numbers (row_of rows rank)) rows) other) ≡ g (found_in rows other)
kept-marked g rows rank taken numbers other within same =
    ap g (found-marked rows rank taken numbers other within) ∙ elim (test_cases (other.0 == rank)) [
      | inl h ↦ elim (test_cases (is_member numbers other.1)) [
        | inl t ↦ rw (h, t) (same (found_in rows other))
        | inr t ↦ rw (h, t) refl
      ]
      | inr h ↦ rw h refl
    ]

same_call : (taken : Bool) (o : Option MadeStart) → option_map (λ (s : MadeStart). s.call) (option_map (marked taken) o) ≡ option_map (λ (s : MadeStart). s.call) o
same_call taken None = refl
same_call taken (Some start) = refl

same_mate : (taken : Bool) (o : Option MadeStart) → partner_name (option_map (marked taken) o) ≡ partner_name o
same_mate taken None = refl
same_mate taken (Some start) = refl

gone_marked : (o : Option MadeStart) (start : MadeStart) → o ≡ Some start → is_gone (option_map (marked true) o) ≡ true
gone_marked None start h = absurd (cc)
gone_marked (Some other) start h = refl

or-false : (b : Bool) → (b || false) ≡ b
or-false true = refl
or-false false = refl

or-true : (b : Bool) → (b || true) ≡ true
or-true true = refl
or-true false = refl

-- what was taken, after one more completion
taken_after : (n : ℕ) (events : List Event) (state : MatchingState) (me : ℕ) (starts places : List ℕ) (mode : TakeMode) (items : List Item) (r k : ℕ) → KnowsHistory n events state → me < length state.table.rows
    → HandsOut state.table me starts places items
    → is_gone (found_in (with_row me (all_marked true (items_taken starts items) (row_of state.table.rows me)) state.table.rows) (r, k))
    ≡ is_member (taken_of (view_of (events ++ took_event me starts mode items ∷ []) r)) k
taken_after n events state me starts places mode items r k knows within out =
    let event : Event = took_event me starts mode items in
    let rows : Rows = state.table.rows in
    let numbers : List ℕ = items_taken starts items in
    ap is_gone (found-marked rows me true numbers (r, k) within) ∙ elim (test_cases (r == me)) [
      | inl h ↦ (
          let e : r ≡ me = eqb-true r me h in
          let longer : taken_of (view_of (events ++ event ∷ []) r) ≡ taken_of (view_of events r) ++ (numbers ++ []) =
          ap taken_of (view_of-mine events event r (sym e)) ∙ taken_of-append (view_of events r) ((event.call, event.reply) ∷ []) in
          let more : is_member (taken_of (view_of (events ++ event ∷ []) r)) k ≡ (is_member (taken_of (view_of events r)) k || is_member numbers k) =
          ap (λ (l : List ℕ). is_member l k) longer ∙ (ap (λ (l : List ℕ). is_member (taken_of (view_of events r) ++ l) k) (append-nil numbers) ∙ among-append (taken_of (view_of events r)) numbers k) in
          elim (test_cases (is_member numbers k)) [
            | inl t ↦ (
                let there = handed state.table me starts places items k out t in
                let found = complete_there state.table me (found_in rows (me, k)) there.complete in
                let here : found_in rows (r, k) ≡ Some found.0 = ap (λ (x : ℕ). found_in rows (x, k)) e ∙ found.1 in
                rw (h, t) (gone_marked (found_in rows (r, k)) found.0 here ∙ sym (more ∙ (ap (λ (b : Bool). is_member (taken_of (view_of events r)) k || b) t ∙ or-true (is_member (taken_of (view_of events r)) k)))))
            | inr t ↦ rw (h, t) (knows.taken r k ∙ sym (more ∙ (ap (λ (b : Bool). is_member (taken_of (view_of events r)) k || b) t ∙ or-false (is_member (taken_of (view_of events r)) k))))
          ])
      | inr h ↦ rw h (knows.taken r k ∙ ap (λ (v : View). is_member (taken_of v) k) (sym (view_of-other events event r (not_same me r (λ e. (let no : true ≡ false = sym (eq-eqb r me (sym e)) ∙ h in cc))))))
    ]

-- what the items teach of communicators
message_no : (comm : ℕ) (send : Name) (o : Option Call) → made_in_got comm (message_of_pair send o) ≡ None
message_no comm send None = refl
message_no comm send (Some (Send c dest tag ints sync)) = refl
message_no comm send (Some call) = refl

no_made : (comm : ℕ) (rows : Rows) (mate : Option Name) → made_in_got comm (partner_message rows mate) ≡ None
no_made comm rows None = refl
no_made comm rows (Some send) = message_no comm send (call_of_start rows send)

made_by : (call : Call) (message result : Got) (comm : ℕ) (members : List ℕ) → made_in_got comm message ≡ None → made_in_got comm (got_as call message result) ≡ Some members
    → (is_enter call ≡ true) × (made_in_got comm result ≡ Some members)
made_by (Send c dest tag ints sync) message result comm members none h = absurd (cc)
made_by (Post c Null tag room) message result comm members none h = absurd (cc)
made_by (Post c Any tag room) message result comm members none h = absurd (let no : None ≡ Some members = sym none ∙ h in cc)
made_by (Post c (From source) tag room) message result comm members none h = absurd (let no : None ≡ Some members = sym none ∙ h in cc)
made_by (Enter c kind root op count ints) message result comm members none h = (refl, h)
made_by call message result comm members none h = absurd (cc)

made_from : (b : Bool) (number : ℕ) (call : Call) (old : List ℕ) (inputs : List (List ℤ)) (me comm : ℕ) (members : List ℕ) → made_in_got comm (collected_as b number call old inputs me) ≡ Some members
    → (b ≡ true) × (number ≡ comm) × (members_made call old inputs me ≡ members)
made_from true number call old inputs me comm members h =
    elim (test_cases (number == comm)) [
      | inl t ↦ (
          let e : Some (members_made call old inputs me) ≡ Some members = rw t at h in
          (refl, eqb-true number comm t, cc))
      | inr t ↦ absurd (let e : None ≡ Some members = rw t at h in cc)
    ]
made_from false number call old inputs me comm members h = absurd (cc)

taught_by : (uncoloured : Bool) (n : ℕ) (events : List Event) (stages : Stages) (comms : Communicators) (name : Name) (call : Call) (instance comm : ℕ) (members : List ℕ)
    → IsNumbered uncoloured (moment_at n events name.0) stages comms name.1 call instance → communicator_given comms name.0 call instance ≡ comm
    → members_made call (old_members comms (comm_of call)) (needed_ints (enters_of stages (comm_of call) instance) (old_members comms (comm_of call)) name.0 call) name.0 ≡ members
    → (comm == 0) ≡ false → members_of comms comm ≡ Some members
taught_by true n events stages comms name call instance comm members is number made zero_not =
    absurd (let no : true ≡ false = sym (eq-eqb comm 0 (sym number ∙ is)) ∙ zero_not in cc)
taught_by false n events stages comms name call instance comm members is number made zero_not =
    ap (members_of comms) (sym number) ∙ (is.1 ∙ ap (λ (l : List ℕ). Some l) made)

got_taught : (n : ℕ) (events : List Event) (state : MatchingState) (me k comm : ℕ) (members : List ℕ) → KnowsHistory n events state → is_start_complete state.table me (found_in state.table.rows (me, k)) ≡ true
    → (comm == 0) ≡ false → made_in_got comm (got_in state.table me (found_in state.table.rows (me, k))) ≡ Some members → members_of state.table.comms comm ≡ Some members
got_taught n events state me k comm members knows complete zero_not h =
    let found = complete_there state.table me (found_in state.table.rows (me, k)) complete in
    let start : MadeStart = found.0 in
    let own = own_start n events state me k start knows found.1 in
    let there : is_complete_as start.call start.mate (is_gathered_in state.table me start) ≡ true = sym (ap (λ (o : Option MadeStart). is_start_complete state.table me o) found.1) ∙ complete in
    let got : made_in_got comm (got_as start.call (partner_message state.table.rows start.mate) (collected_in state.table me start)) ≡ Some members =
    sym (ap (λ (o : Option MadeStart). made_in_got comm (got_in state.table me o)) found.1) ∙ h in
    let entered = made_by start.call (partner_message state.table.rows start.mate) (collected_in state.table me start) comm members (no_made comm state.table.rows start.mate) got in
    let made = made_from (makes start.call) (communicator_given state.table.comms me start.call start.instance) start.call (members_for state.table start) (inputs_in state.table me start) me comm members entered.1 in
    let gathered : is_gathered_in state.table me start ≡ true = complete_enter start.call start.mate (is_gathered_in state.table me start) entered.0 there in
    taught_by (is_uncoloured start.call) n events state.table.stages state.table.comms (me, k) start.call start.instance comm members (own.numbered made.0 gathered) made.1 made.2 zero_not

taught_at : (n : ℕ) (events : List Event) (state : MatchingState) (me : ℕ) (starts indices : List ℕ) (comm : ℕ) (members : List ℕ) → KnowsHistory n events state
    → AllOf (IsPlace (λ number. is_start_complete state.table me (found_in state.table.rows (me, number))) starts) indices → (comm == 0) ≡ false
    → made_in_items comm (map (handed_item state.table me starts) indices) ≡ Some members → members_of state.table.comms comm ≡ Some members
taught_at n events state me starts [] comm members knows all zero_not h = absurd (cc)
taught_at n events state me starts (i ∷ indices) comm members knows all zero_not h =
    let got : Got = got_in state.table me (found_in state.table.rows (me, slice_index starts i)) in
    elim (option_cases (made_in_got comm got)) [
      | inl some ↦ (
          let e : Some some.0 ≡ Some members = sym (ap (λ (o : Option (List ℕ)). or_members o (made_in_items comm (map (handed_item state.table me starts) indices))) some.1) ∙ h in
          got_taught n events state me (slice_index starts i) comm some.0 knows all.0.1 zero_not some.1 ∙ e)
      | inr none ↦ taught_at n events state me starts indices comm members knows all.1 zero_not (sym (ap (λ (o : Option (List ℕ)). or_members o (made_in_items comm (map (handed_item state.table me starts) indices))) none) ∙ h)
    ]

taught : (n : ℕ) (events : List Event) (state : MatchingState) (me : ℕ) (starts places : List ℕ) (items : List Item) → KnowsHistory n events state → HandsOut state.table me starts places items
    → (comm : ℕ) (members : List ℕ) → (comm == 0) ≡ false → made_in_items comm items ≡ Some members → members_of state.table.comms comm ≡ Some members
taught n events state me starts places items knows out comm members zero_not h =
    taught_at n events state me starts places comm members knows out.complete zero_not (ap (made_in_items comm) out.items_are ∙ h)

marked_there : (n : ℕ) (events : List Event) (state : MatchingState) (me : ℕ) (numbers : List ℕ) → KnowsHistory n events state → me < length state.table.rows
    → IsThere events state.table.rows (with_row me (all_marked true numbers (row_of state.table.rows me)) state.table.rows)
marked_there n events state me numbers k within = record {
  calls = λ name start found. calls_there n events state name start k found;
  same = λ name start found enter. there_is state.table.rows name start (marked_shape state.table.rows me true numbers within name start found enter);
}

pub knows_took : (n : ℕ) (events : List Event) (state : MatchingState) (me : ℕ) (starts places : List ℕ) (mode : TakeMode) (items : List Item) → KnowsHistory n events state → me < length state.table.rows
    → HandsOut state.table me starts places items
    → KnowsHistory n (events ++ took_event me starts mode items ∷ []) (with_rows (with_row me (all_marked true (items_taken starts items) (row_of state.table.rows me)) state.table.rows) state)
knows_took n events state me starts places mode items k within out =
    let event : Event = took_event me starts mode items in
    let rows : Rows = state.table.rows in
    let numbers : List ℕ = items_taken starts items in
    let none : name_at events (length events) ≡ None = sym (k.names (length events)) ∙ name_past state.names (length events) k.below in
    record {
      ranks = length-row me (all_marked true numbers (row_of rows me)) rows ∙ k.ranks;
      matcher = knows_others events state.unpaired event k.matcher (record { other = refl; alone = refl; none_met = refl });
      calls = λ other. kept-marked (λ (o : Option MadeStart). option_map (λ (s : MadeStart). s.call) o) rows me true numbers other within (same_call true) ∙ (k.calls other ∙ sym (named-other events event refl other));
      mates = λ other. kept-marked partner_name rows me true numbers other within (same_mate true) ∙ (k.mates other ∙ sym (ap (λ (P : List (Name × Name)). partner_of P other) (pairs-alone events event refl refl)));
      taken = λ r number. taken_after n events state me starts places mode items r number k within out;
      names = λ at. k.names at ∙ sym (name_at-push events event at ∙ elim (cases_eq at (length events)) [
        | inl e ↦ rw (eq-eqb at (length events) e) (sym (ap (name_at events) e ∙ none))
        | inr apart ↦ rw (not_same at (length events) apart) refl
      ]);
      below = (let f = one_more events event in let b = k.below in omega (arith, f, b));
      enters = enters_on n events event rows (with_row me (all_marked true numbers (row_of rows me)) rows) state.table.stages state.table.comms k.enters (marked_there n events state me numbers k within) refl (λ comm members zero_not h. taught n events state me starts places items k out comm members zero_not h);
    }

-- marks that are taken back
pub same_places : (xs ys : List MadeStart) → ((j : ℕ) → slice_get xs j ≡ slice_get ys j) → xs ≡ ys
same_places [] [] h = refl
same_places [] (y ∷ ys) h = absurd (let no : None ≡ Some y = h zero in cc)
same_places (x ∷ xs) [] h = absurd (let no : Some x ≡ None = h zero in cc)
same_places (x ∷ xs) (y ∷ ys) h =
    let first : Some x ≡ Some y = h zero in
    let one : x ≡ y = cc in
    ap (λ (s : MadeStart). s ∷ xs) one ∙ ap (λ (l : List MadeStart). y ∷ l) (same_places xs ys (λ j. h (suc j)))

pub unmarked : (o : Option MadeStart) → can_take_in o ≡ true → option_map (marked false) (option_map (marked true) o) ≡ o
unmarked None h = refl
unmarked (Some start) h =
    elim (test_cases start.taken) [
      | inl t ↦ absurd (let no : false ≡ true = sym (ap not t) ∙ h in cc)
      | inr t ↦ ap (λ (b : Bool). Some (marked b start)) (sym t)
    ]

pub marks_back : (table : RequestTable) (me : ℕ) (starts places : List ℕ) (items : List Item) → HandsOut table me starts places items
    → all_marked false (items_taken starts items) (all_marked true (items_taken starts items) (row_of table.rows me)) ≡ row_of table.rows me
marks_back table me starts places items out =
    let row : List MadeStart = row_of table.rows me in
    let numbers : List ℕ = items_taken starts items in
    same_places (all_marked false numbers (all_marked true numbers row)) row (λ j.
    get-marked false numbers (all_marked true numbers row) j
    ∙ (ap (λ (o : Option MadeStart). cond (is_member numbers j) (option_map (marked false) o) o) (get-marked true numbers row j)
    ∙ elim (test_cases (is_member numbers j)) [
      | inl t ↦ (
          let there = handed table me starts places items j out t in
          let open_ : can_take_in (found_in table.rows (me, j)) ≡ true =
          ap (λ (k : ℕ). can_take_in (found_in table.rows (me, k))) (sym there.here) ∙ listed_open table.rows me [] starts there.place out.none_bad there.below in
          rw t (unmarked (slice_get row j) open_))
      | inr t ↦ rw t refl
    ]))

twice_set : (rows : Rows) (rank : ℕ) (one other : List MadeStart) → set (set rows rank one) rank other ≡ set rows rank other
twice_set [] rank one other = refl
twice_set (row ∷ rows) zero one other = refl
twice_set (row ∷ rows) (suc rank) one other = ap (λ (l : Rows). row ∷ l) (twice_set rows rank one other)

pub rows_back : (table : RequestTable) (me : ℕ) (starts places : List ℕ) (items : List Item) (rows : Rows) → HandsOut table me starts places items → me < length rows
    → rows ≡ with_row me (all_marked true (items_taken starts items) (row_of table.rows me)) table.rows
    → with_row me (all_marked false (items_taken starts items) (row_of rows me)) rows ≡ table.rows
rows_back table me starts places items rows out within is =
    let numbers : List ℕ = items_taken starts items in
    let marks : List MadeStart = all_marked true numbers (row_of table.rows me) in
    let long : length rows ≡ length table.rows = ap (λ (l : Rows). length l) is ∙ length-row me marks table.rows in
    let inside : me < length table.rows = omega (arith, long) in
    let here : row_of rows me ≡ marks = ap (λ (l : Rows). row_of l me) is ∙ get_or-set_same table.rows me marks [] inside in
    ap (λ (r : List MadeStart). with_row me (all_marked false numbers r) rows) here
    ∙ (ap (λ (l : Rows). with_row me (all_marked false numbers marks) l) is
    ∙ (twice_set table.rows me marks (all_marked false numbers marks)
    ∙ (ap (λ (r : List MadeStart). with_row me r table.rows) (marks_back table me starts places items out)
    ∙ set-get_or table.rows me [])))

-- the answer's state
pub knows_taken : (n : ℕ) (events : List Event) (state : MatchingState) (me : ℕ) (starts : List ℕ) (mode : TakeMode) (answer : TakeAnswer) → KnowsHistory n events state → me < length state.table.rows
    → answer ≡ answer_in state.table me starts mode → KnowsTaken (moment_at n events me) starts mode answer (with_rows (rows_after state.table.rows me starts answer) state)
knows_taken n events state me starts mode (Took items) knows within is = knows_took n events state me starts (chosen_places mode (flags_in state.table me starts)) mode items knows within (hands_them state.table me starts mode items (sym is))
knows_taken n events state me starts mode NotReady knows within is = knows
knows_taken n events state me starts mode (TooLong start) knows within is = knows
knows_taken n events state me starts mode (BadStart start) knows within is = knows

-- the places that a loop from place to place chooses are the mode's
from_all : (at : ℕ) (flags : List Bool) → places_from false at flags ≡ true_places at flags
from_all at [] = refl
from_all at (true ∷ flags) = ap (λ (l : List ℕ). at ∷ l) (from_all (at + 1) flags)
from_all at (false ∷ flags) = from_all (at + 1) flags

from_one : (at : ℕ) (flags : List Bool) → places_from true at flags ≡ take 1 (true_places at flags)
from_one at [] = refl
from_one at (true ∷ flags) = refl
from_one at (false ∷ flags) = from_one (at + 1) flags

pub places_are : (mode : TakeMode) (flags : List Bool) → places_from (takes_one mode) 0 flags ≡ chosen_places mode flags
places_are All flags = from_all 0 flags
places_are TestAll flags = from_all 0 flags
places_are AnyOne flags = from_one 0 flags
places_are TestAny flags = from_one 0 flags
places_are Several flags = from_all 0 flags
places_are TestSeveral flags = from_all 0 flags

-- the answers of the tests in their order
pub answer_long : (table : RequestTable) (me : ℕ) (starts : List ℕ) (mode : TakeMode) (long : Option ℕ) → first_bad table.rows me [] starts ≡ None → mode_holds mode (flags_in table me starts) ≡ true
    → long ≡ first_long_in table.rows me starts (map (handed_item table me starts) (places_from (takes_one mode) 0 (flags_in table me starts)))
    → answer_in table me starts mode ≡ long_or long (handed_items table me starts mode)
answer_long table me starts mode long bad ready is =
    let all : List Item = handed_items table me starts mode in
    let long_is : first_long_in table.rows me starts all ≡ long =
    ap (λ (l : List ℕ). first_long_in table.rows me starts (map (handed_item table me starts) l)) (sym (places_are mode (flags_in table me starts))) ∙ sym is in
    ap (λ (o : Option ℕ). bad_or o (mode_holds mode (flags_in table me starts)) (first_long_in table.rows me starts all) all) bad
    ∙ (ap (λ (b : Bool). held_or b (first_long_in table.rows me starts all) all) ready ∙ ap (λ (o : Option ℕ). long_or o all) long_is)
