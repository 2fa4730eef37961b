-- What a completion that picks an index answers and leaves, by the history.
use Rattle.std.proofs.Common.{◌≡◌, ◌<◌, ◌∷◌, ℕ, zero, suc, List, [], Option, Some, None, Bool, true, false, cond, length, slice_get, slice_index, inl, inr, refl, ap, sym, ◌∙◌}
use Rattle.std.specs.Prelude.{option_map, unwrap_or}
use Rattle.std.specs.List.{list_any}
use Rattle.std.proofs.lemmas.Option.{slice_get-map}
use Rattle.mpi_call.specs.declared.call.Call.TheVariants.{Take}
use Rattle.mpi_call.specs.declared.call.TakeMode.{TakeMode}
use Rattle.mpi_call.specs.declared.call.TakeMode.TheVariants.{All, Any as AnyOne, Several, TestAll, TestAny, TestSeveral}
use Rattle.mpi_call.specs.declared.reply.Got.{Got}
use Rattle.mpi_call.specs.declared.reply.Item.{Item}
use Rattle.run_model.specs.declared.event.Event.{Event}
use Rattle.run_model.specs.Allowed.{first_long, flags_of, mode_holds, is_long, taken_reply}
use Rattle.run_model.specs.Choice.{chosen_places}
use Rattle.run_model.specs.Chosen.{held_reply, items_at}
use Rattle.run_model.specs.Due.{bad_request}
use Rattle.run_model.specs.Shape.{is_test}
use Rattle.run_model.specs.Views.{View, items_taken, moment_at, moment_of, view_of}
use Rattle.picked_runs.specs.declared.turn.Pick.TheVariants.{Index}
use Rattle.picked_runs.specs.Picks.{is_ready_at, picked_answer, picked_items, picked_places}
use Rattle.picked_runs.proofs.Allowing.{any_there, ready_there}
use Rattle.requests.specs.declared.requests.TakeAnswer.{TakeAnswer}
use Rattle.requests.specs.declared.requests.TakeAnswer.TheVariants.{Took, NotReady, TooLong, BadStart}
use Rattle.requests.specs.Starts.{Rows, all_marked, call_of_start, found_in, row_of, with_row}
use Rattle.requests.specs.States.{MatchingState, RequestTable, with_rows}
use Rattle.requests.specs.Taking.{AreHandedOut, answer_at, first_bad, first_long_in, flags_in, got_in, is_start_complete, handed_item, long_or, picked_or, rows_after, rows_at, takes_one}
use Rattle.requests.specs.Histories.{AnswersAt, KnowsHistory, KnowsTakenAt}
use Rattle.requests.proofs.Answering.{bad_same, flags_are, items_are, long_same}
use Rattle.requests.proofs.ChosenPlaces.{place_at}
use Rattle.requests.proofs.Taking.{HandsOut, hands_them, knows_took, rows_back}

-- the reply to a completion of one start that picks a ready one
one_place : (mode : TakeMode) (flags : List Bool) (index : ℕ) → takes_one mode ≡ true
    → (picked_places mode flags (Index index) ≡ index ∷ []) × (mode_holds mode flags ≡ list_any (λ x. x) flags)
one_place AnyOne flags index one = (refl, refl)
one_place TestAny flags index one = (refl, refl)
one_place All flags index one = absurd (cc)
one_place TestAll flags index one = absurd (cc)
one_place Several flags index one = absurd (cc)
one_place TestSeveral flags index one = absurd (cc)

picked_is : (n : ℕ) (events : List Event) (own : View) (me : ℕ) (starts : List ℕ) (index : ℕ) (long : Option ℕ) (items : List Item) (mode : TakeMode)
    → is_ready_at (flags_of (moment_of n events me own) starts) index ≡ true → items_at (moment_of n events me own) starts (index ∷ []) ≡ items → first_long own starts items ≡ long
    → takes_one mode ≡ true → picked_answer n events me own (Take starts mode) (Index index) ≡ taken_reply me long items
picked_is n events own me starts index long items mode ready i l one =
    let flags : List Bool = flags_of (moment_of n events me own) starts in
    let all : List Item = picked_items (moment_of n events me own) starts mode (Index index) in
    let place = one_place mode flags index one in
    let h : mode_holds mode flags ≡ true = place.1 ∙ any_there flags index (ready_there flags index ready) in
    let same : all ≡ items = ap (items_at (moment_of n events me own) starts) place.0 ∙ i in
    ap (λ (b : Bool). cond b (taken_reply me (first_long own starts all) all) (held_reply (is_test mode))) h
    ∙ (ap (λ (x : List Item). taken_reply me (first_long own starts x) x) same ∙ ap (λ (o : Option ℕ). taken_reply me o items) l)

at_by : (n : ℕ) (events : List Event) (me : ℕ) (starts : List ℕ) (index : ℕ) (bad : Option ℕ) (ready : Bool) (long : Option ℕ) (items : List Item)
    → bad_request (view_of events me) [] starts ≡ bad → is_ready_at (flags_of (moment_at n events me) starts) index ≡ ready
    → (ready ≡ true → items_at (moment_at n events me) starts (index ∷ []) ≡ items) → first_long (view_of events me) starts items ≡ long
    → AnswersAt n events me starts index (picked_or bad ready long items)
at_by n events me starts index (Some k) ready long items b h i l = rw b refl
at_by n events me starts index None false long items b h i l = rw (b, h) refl
at_by n events me starts index None true (Some k) items b h i l = record {
  can = rw (b, h) refl;
  reply_is = λ mode one. picked_is n events (view_of events me) me starts index (Some k) items mode h (i refl) l one;
}
at_by n events me starts index None true None items b h i l = record {
  can = rw (b, h) refl;
  reply_is = λ mode one. picked_is n events (view_of events me) me starts index None items mode h (i refl) l one;
}

pub answers_at : (n : ℕ) (events : List Event) (state : MatchingState) (me : ℕ) (starts : List ℕ) (index : ℕ) → KnowsHistory n events state
    → AnswersAt n events me starts index (answer_at state.table me starts index)
answers_at n events state me starts index knows =
    let item : Item = handed_item state.table me starts index in
    let test : ℕ → Bool = λ number. is_start_complete state.table me (found_in state.table.rows (me, number)) in
    at_by n events me starts index (first_bad state.table.rows me [] starts) (is_ready_at (flags_in state.table me starts) index)
    (first_long_in state.table.rows me starts (item ∷ [])) (item ∷ [])
    (bad_same n events state me [] [] starts knows (λ j. refl)) (ap (λ (flags : List Bool). is_ready_at flags index) (flags_are n events state me starts knows))
    (λ ready. items_are n events state me starts (index ∷ []) knows (place_at test starts index ready, tt)) (long_same n events state me starts (item ∷ []) knows)

-- what it hands out
took_by : (bad : Option ℕ) (ready : Bool) (long : Option ℕ) (all items : List Item) → picked_or bad ready long all ≡ Some (Took items)
    → (bad ≡ None) × (ready ≡ true) × (all ≡ items)
took_by (Some k) ready long all items h = absurd (cc)
took_by None false long all items h = absurd (cc)
took_by None true (Some k) all items h = absurd (cc)
took_by None true None all items h = (refl, refl, cc)

hands_at : (table : RequestTable) (me : ℕ) (starts : List ℕ) (index : ℕ) (items : List Item) → answer_at table me starts index ≡ Some (Took items)
    → HandsOut table me starts (index ∷ []) items
hands_at table me starts index items h =
    let all : List Item = handed_item table me starts index ∷ [] in
    let parts = took_by (first_bad table.rows me [] starts) (is_ready_at (flags_in table me starts) index) (first_long_in table.rows me starts all) all items h in
    record {
      none_bad = parts.0;
      items_are = parts.2;
      complete = (place_at (λ number. is_start_complete table me (found_in table.rows (me, number))) starts index parts.1, tt);
    }

handed_at : (table : RequestTable) (me : ℕ) (starts : List ℕ) (items : List Item) → AreHandedOut table me starts items
    → (places : List ℕ) × HandsOut table me starts places items
handed_at table me starts items are =
    elim are [
      | inl mode ↦ (chosen_places mode.0 (flags_in table me starts), hands_them table me starts mode.0 items mode.1)
      | inr index ↦ (index.0 ∷ [], hands_at table me starts index.0 items index.1)
    ]

pub untaken : (before old : MatchingState) (me : ℕ) (starts : List ℕ) (items : List Item) → AreHandedOut before.table me starts items → me < length old.table.rows
    → old ≡ with_rows (rows_after before.table.rows me starts (Took items)) before
    → with_rows (with_row me (all_marked false (items_taken starts items) (row_of old.table.rows me)) old.table.rows) old ≡ before
untaken before old me starts items are within is =
    let out = handed_at before.table me starts items are in
    let back = rows_back before.table me starts out.0 items old.table.rows out.1 within (ap (λ (s : MatchingState). s.table.rows) is) in
    ap (λ (rows : Rows). with_rows rows old) back ∙ ap (λ (s : MatchingState). with_rows before.table.rows s) is

pub knows_taken_at : (n : ℕ) (events : List Event) (state : MatchingState) (me : ℕ) (starts : List ℕ) (index : ℕ) (answer : Option TakeAnswer) → KnowsHistory n events state
    → me < length state.table.rows → answer ≡ answer_at state.table me starts index
    → KnowsTakenAt n events me starts answer (with_rows (rows_at state.table.rows me starts answer) state)
knows_taken_at n events state me starts index None knows within is = knows
knows_taken_at n events state me starts index (Some (Took items)) knows within is = λ mode.
    knows_took n events state me starts (index ∷ []) mode items knows within (hands_at state.table me starts index items (sym is))
knows_taken_at n events state me starts index (Some NotReady) knows within is = λ mode. knows
knows_taken_at n events state me starts index (Some (TooLong start)) knows within is = λ mode. knows
knows_taken_at n events state me starts index (Some (BadStart start)) knows within is = λ mode. knows

-- the answers of the tests in their order
pub at_bad : (table : RequestTable) (me : ℕ) (starts : List ℕ) (index k : ℕ) → first_bad table.rows me [] starts ≡ Some k → answer_at table me starts index ≡ None
at_bad table me starts index k bad =
    let all : List Item = handed_item table me starts index ∷ [] in
    ap (λ (o : Option ℕ). picked_or o (is_ready_at (flags_in table me starts) index) (first_long_in table.rows me starts all) all) bad

ready_or : (ready : Bool) (table : RequestTable) (me : ℕ) (starts : List ℕ) (index : ℕ) → first_bad table.rows me [] starts ≡ None → is_ready_at (flags_in table me starts) index ≡ ready
    → answer_at table me starts index ≡ picked_or None ready (first_long_in table.rows me starts (handed_item table me starts index ∷ [])) (handed_item table me starts index ∷ [])
ready_or ready table me starts index bad h =
    let all : List Item = handed_item table me starts index ∷ [] in
    ap (λ (o : Option ℕ). picked_or o (is_ready_at (flags_in table me starts) index) (first_long_in table.rows me starts all) all) bad
    ∙ ap (λ (b : Bool). picked_or None b (first_long_in table.rows me starts all) all) h

ready_is : (table : RequestTable) (me : ℕ) (starts : List ℕ) (index : ℕ) (found : Option ℕ) → slice_get starts index ≡ found
    → is_ready_at (flags_in table me starts) index ≡ unwrap_or (option_map (λ number. is_start_complete table me (found_in table.rows (me, number))) found) false
ready_is table me starts index found at =
    let test : ℕ → Bool = λ number. is_start_complete table me (found_in table.rows (me, number)) in
    ap (λ (o : Option Bool). unwrap_or o false) (slice_get-map test starts index ∙ ap (λ (o : Option ℕ). option_map test o) at)

pub at_none : (table : RequestTable) (me : ℕ) (starts : List ℕ) (index : ℕ) → first_bad table.rows me [] starts ≡ None → slice_get starts index ≡ None
    → answer_at table me starts index ≡ None
at_none table me starts index bad at = ready_or false table me starts index bad (ready_is table me starts index None at)

pub at_unready : (table : RequestTable) (me : ℕ) (starts : List ℕ) (index number : ℕ) → first_bad table.rows me [] starts ≡ None → slice_get starts index ≡ Some number
    → is_start_complete table me (found_in table.rows (me, number)) ≡ false → answer_at table me starts index ≡ None
at_unready table me starts index number bad at h = ready_or false table me starts index bad (ready_is table me starts index (Some number) at ∙ h)

number_at : (starts : List ℕ) (i number : ℕ) → slice_get starts i ≡ Some number → slice_index starts i ≡ number
number_at [] i number h = absurd (cc)
number_at (k ∷ starts) zero number h = cc
number_at (k ∷ starts) (suc i) number h = number_at starts i number h

-- the item of a start with a number
abbrev pub item_of : RequestTable → ℕ → ℕ → ℕ → Item
item_of table me number index = record { index = index; got = got_in table me (found_in table.rows (me, number)) }

-- with a message that is too long, or not
pub at_long : (table : RequestTable) (me : ℕ) (starts : List ℕ) (index number : ℕ) (long : Bool) → first_bad table.rows me [] starts ≡ None → slice_get starts index ≡ Some number
    → is_start_complete table me (found_in table.rows (me, number)) ≡ true
    → is_long (call_of_start table.rows (me, number)) (got_in table me (found_in table.rows (me, number))) ≡ long
    → answer_at table me starts index ≡ Some (long_or (cond long (Some number) None) (item_of table me number index ∷ []))
at_long table me starts index number long bad at ready h =
    let same : slice_index starts index ≡ number = number_at starts index number at in
    let got : ℕ → Got = λ k. got_in table me (found_in table.rows (me, k)) in
    let answer : ℕ → Option TakeAnswer = λ k. Some (long_or (cond (is_long (call_of_start table.rows (me, k)) (got k)) (Some k) None) (item_of table me k index ∷ [])) in
    ready_or true table me starts index bad (ready_is table me starts index (Some number) at ∙ ready)
    ∙ (ap answer same ∙ ap (λ (b : Bool). Some (long_or (cond b (Some number) None) (item_of table me number index ∷ []))) h)
