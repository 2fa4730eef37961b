-- What courses keep over the effect of an MPI call.
use Rattle.std.proofs.Common.{◌≡◌, ◌<◌, ◌≤◌, ◌+◌, ◌++◌, ◌==◌, ℕ, suc, ℤ, pos, negsuc, Bool, true, false, List, [], ◌∷◌, Option, Some, None, Ok, if◌then◌else◌, nat_lt, length, refl, ap, sym, ◌∙◌, subst, inl, inr, arith, All, append-nil, length-append}
use Rattle.std.specs.Prelude.{IfSome, MatchBool}
use Rattle.std.proofs.lemmas.Bool.{eq-eqb, eqb-true, ltb-true}
use Rattle.std.proofs.lemmas.List.{length-map}
use Rattle.std.proofs.lemmas.List.Elements.{All-cons, All-map, All-nil, All-weaker}
use Rattle.mpi_call.specs.Calls.{is_starting}
use Rattle.mpi_call.specs.declared.call.Call.{Call}
use Rattle.mpi_call.specs.declared.call.Call.TheVariants.{Send, Post, Enter, Take, Peek, Abort, Trap, End}
use Rattle.mpi_call.specs.declared.call.Fault.TheVariants.{OutOfBounds}
use Rattle.mpi_call.specs.declared.call.Source.{Source}
use Rattle.mpi_call.specs.declared.call.Tag.{Tag}
use Rattle.mpi_call.specs.declared.call.Source.TheVariants.{Any as AnySource, From as FromRank, Null}
use Rattle.mpi_call.specs.declared.call.TakeMode.{TakeMode}
use Rattle.mpi_call.specs.declared.call.TakeMode.TheVariants.{Any as AnyOne, TestAny}
use Rattle.mpi_call.specs.declared.limits.TheConstants.{MOST_STARTS}
use Rattle.mpi_call.specs.declared.reply.Got.{Got}
use Rattle.mpi_call.specs.declared.reply.Got.TheVariants.{Sent, Nothing as GotNothing, Message as GotMessage, Joined, Made}
use Rattle.mpi_call.specs.declared.reply.Item.{Item}
use Rattle.mpi_call.specs.declared.reply.Reply.{Reply}
use Rattle.mpi_call.specs.declared.reply.Reply.TheVariants.{Done, Took, NotYet, Peeked, Stopped}
use Rattle.run_model.specs.Communicators.{known_first, learned as taught, made_in_got, made_in_items, or_members}
use Rattle.run_model.specs.Program.{IsCallInBounds, IsInForm, ends}
use Rattle.run_model.specs.Shape.{has_shape}
use Rattle.run_model.specs.Views.{View}
use Rattle.run_model.proofs.Enters.{known_after-append}
use Rattle.run_model.proofs.Orders.{in_order_more}
use Rattle.run_model.proofs.Views.{test_cases}
use Rattle.c_program.specs.declared.constants.TheConstants.{MOST_CELLS}
use Rattle.c_program.specs.declared.effect.AnswerCells.{AnswerCells}
use Rattle.c_program.specs.declared.effect.Collective.{Collective}
use Rattle.c_program.specs.declared.effect.Effect.{Effect}
use Rattle.c_program.specs.declared.effect.Effect.TheVariants.{Nothing, Sets, Starts, Sends, Receives, Completes, Probes, Joins, Aborts}
use Rattle.c_program.specs.declared.effect.Into.{Into}
use Rattle.c_program.specs.declared.effect.Into.TheVariants.{Nowhere, Cells as IntoCells, Handle}
use Rattle.c_program.specs.declared.effect.Message.{Message}
use Rattle.c_program.specs.declared.effect.Receive.{Receive}
use Rattle.c_program.specs.declared.effect.Start.{Start}
use Rattle.c_program.specs.declared.effect.Start.TheVariants.{Send as StartSend, Receive as StartReceive}
use Rattle.c_program.specs.declared.state.Begun.{Begun}
use Rattle.c_program.specs.declared.state.MadeCommunicator.{MadeCommunicator}
use Rattle.c_program.specs.Tree.{MpiCall}
use Rattle.c_program.specs.Cells.{Cells}
use Rattle.c_program.specs.Courses.{Course, Asks}
use Rattle.c_program.specs.Effects.{effect_of}
use Rattle.c_program.specs.laws.GoodLaws.{AreAlikeStates, alike_put, alike_put_all, alike_put_some, alike_same, alike_trans, good_alike, keeps_aborted, keeps_alike, keeps_trapped}
use Rattle.run_model.proofs.Prefixes.{prefix_refl}
use Rattle.c_program.specs.laws.Keeping.{IsGoodState, KeepsLaws, KeepsOn}
use Rattle.c_program.specs.Performing.{Active, Onward, active_from, active_in, active_or_none, after_take, begun, begun_at, completed, completing, completing_of, empties, enter_call, first_got, first_place, handle_places, has_cells_for, item_completed, made_by, made_by_all, none_active, number_of_next, or_trap, perform, post_call, probed, put_empties, put_empty, put_items, put_message, put_nothing, put_only_empty, put_places, put_result, put_status, receiving, reply_items, send_call, sending, sent, source_in, starts_in, status_at, status_place, take_one, taking_message, taking_result, with_answer, with_communicators}
use Rattle.c_program.specs.Program.{rank_of}
use Rattle.c_program.specs.laws.Proper.{IsProperMessage, IsProperEffect, IsWanted, length-values_from}
use Rattle.c_program.specs.laws.ProperEffects.{effect_proper}
use Rattle.c_program.specs.State.{State, ints_in_cells, members_among, members_known, null, put, put_all, put_some, undefined}

-- ---- changes of cells alone

alike_put_status : (at : Option ℕ) (source tag count : ℤ) (s : State) → AreAlikeStates s (put_status at source tag count s)
alike_put_status None source tag count s = alike_same s
alike_put_status (Some at) source tag count s = alike_put_all at (source ∷ (tag ∷ (count ∷ []))) s

alike_put_empties : (statuses : Option Cells) (starts place : ℕ) (handles : List ℤ) (s : State) → AreAlikeStates s (put_empties statuses starts place handles s)
alike_put_empties statuses starts place [] s = alike_same s
alike_put_empties statuses starts place (negsuc v ∷ handles) s =
    let t : State = put_empty (status_at statuses place) s in
    alike_trans s t (put_empties statuses starts (suc place) handles t) (alike_put_status (status_at statuses place) _ _ _ s) (alike_put_empties statuses starts (suc place) handles t)
alike_put_empties statuses starts place (pos v ∷ handles) s =
    elim (test_cases (nat_lt v starts)) [
      | inl t ↦ rw t (alike_put_empties statuses starts (suc place) handles s)
      | inr f ↦ (
          let t : State = put_empty (status_at statuses place) s in
          rw f (alike_trans s t (put_empties statuses starts (suc place) handles t) (alike_put_status (status_at statuses place) _ _ _ s) (alike_put_empties statuses starts (suc place) handles t)))
    ]

alike_if : (b : Bool) (s t : State) → AreAlikeStates s t → AreAlikeStates s (if b then t else s)
alike_if true s t alike = alike
alike_if false s t alike = alike_same s

alike_empties : (requests : Cells) (mode : TakeMode) (answer : AnswerCells) (s : State) → AreAlikeStates s (empties requests mode answer s)
alike_empties requests mode answer s = alike_if _ s _ (alike_put_empties answer.statuses (length s.starts) 0 (ints_in_cells requests s) s)

alike_put_places : (at : Option Cells) (places : List ℤ) (s : State) → AreAlikeStates s (put_places at places s)
alike_put_places None places s = alike_same s
alike_put_places (Some cells) places s = alike_put_all cells.from places s

alike_answered : (answer : AnswerCells) (flag index outcount : ℤ) (places : List ℤ) (s : State) → AreAlikeStates s (with_answer answer flag index outcount places s)
alike_answered answer flag index outcount places s =
    let t : State = put_some answer.index index s in
    let u : State = put_some answer.flag flag t in
    let v : State = put_some answer.outcount outcount u in
    alike_trans s t (put_places answer.indices places v) (alike_put_some answer.index index s)
    (alike_trans t u (put_places answer.indices places v) (alike_put_some answer.flag flag t)
    (alike_trans u v (put_places answer.indices places v) (alike_put_some answer.outcount outcount u) (alike_put_places answer.indices places v)))

alike_only_empty : (mode : TakeMode) (answer : AnswerCells) (s : State) → AreAlikeStates s (put_only_empty mode answer s)
alike_only_empty AnyOne answer s = alike_put_status (status_at answer.statuses 0) _ _ _ s
alike_only_empty TestAny answer s = alike_put_status (status_at answer.statuses 0) _ _ _ s
alike_only_empty mode answer s = alike_same s

alike_none_active : (requests : Cells) (mode : TakeMode) (answer : AnswerCells) (s : State) → AreAlikeStates s (none_active requests mode answer s)
alike_none_active requests mode answer s =
    let t : State = empties requests mode answer s in
    let u : State = put_only_empty mode answer t in
    alike_trans s t (none_active requests mode answer s) (alike_empties requests mode answer s)
    (alike_trans t u (none_active requests mode answer s) (alike_only_empty mode answer t) (alike_answered answer _ _ _ [] u))

-- a completed start
alike_completed : (n : ℕ) (start : Begun) (status : Option ℕ) (got : Got) (s : State) → IfSome (completed n start status got s) (λ t. AreAlikeStates s t)
alike_completed n start status (GotMessage source number tag ints) s =
    elim (test_cases (has_cells_for start.buffer ints s)) [
      | inl t ↦ (
          let u : State = put_all start.buffer.from ints s in
          rw t (alike_trans s u _ (alike_put_all start.buffer.from ints s) (alike_put_status status _ _ _ u)))
      | inr f ↦ rw f tt
    ]
alike_completed n start status GotNothing s = alike_put_status status _ _ _ s
alike_completed n start status Sent s = alike_put_status status _ _ _ s
alike_completed n start status (Joined ints) s = alike_put_status status _ _ _ s
alike_completed n start status (Made comm members) s = alike_put_status status _ _ _ s

alike_put_result : (into : Into) (got : Option Got) (s : State) → AreAlikeStates s (put_result into got s)
alike_put_result (IntoCells cells) (Some (Joined ints)) s = alike_put_all cells.from ints s
alike_put_result (Handle at) (Some (Made comm members)) s = alike_put at _ s
alike_put_result into got s = alike_same s

alike_probed : (n comm : ℕ) (flag status : Option ℕ) (reply : Reply) (s : State) → AreAlikeStates s (probed n comm flag status reply s)
alike_probed n comm flag status (Peeked source start tag count) s =
    let t : State = put_status status (source_in n comm source s) (pos tag) (pos count) s in
    alike_trans s t _ (alike_put_status status _ _ _ s) (alike_put_some flag _ t)
alike_probed n comm flag status Done s = alike_put_some flag _ s
alike_probed n comm flag status (Took items) s = alike_put_some flag _ s
alike_probed n comm flag status NotYet s = alike_put_some flag _ s
alike_probed n comm flag status (Stopped halt) s = alike_put_some flag _ s

-- ---- good states behind a reply

among-append : (made more : List MadeCommunicator) (comm : ℕ) → members_among (made ++ more) comm ≡ or_members (members_among made comm) (members_among more comm)
among-append [] more comm = refl
among-append (known ∷ made) more comm =
    elim (test_cases (known.comm == comm)) [
      | inl t ↦ rw t refl
      | inr f ↦ rw f (among-append made more comm)
    ]

other_than_world : (comm : ℕ) → (comm == 0) ≡ false → (0 == comm) ≡ false
other_than_world comm real =
    elim (test_cases (0 == comm)) [
      | inl t ↦ (
          let yes : (comm == 0) ≡ true = eq-eqb comm 0 (sym (eqb-true 0 comm t)) in
          let no : true ≡ false = sym yes ∙ real in
          absurd (cc))
      | inr f ↦ f
    ]

-- a Made with number 0 tells of no communicator
among-made_by : (got : Got) (rest : List MadeCommunicator) (comm : ℕ) → (comm == 0) ≡ false → members_among (made_by got ++ rest) comm ≡ or_members (made_in_got comm got) (members_among rest comm)
among-made_by (Made made members) rest comm real =
    elim (test_cases (made == 0)) [
      | inl t ↦ (
          let other : (made == comm) ≡ false = rw (eqb-true made 0 t) (other_than_world comm real) in
          rw (t, other) refl)
      | inr f ↦ elim (test_cases (made == comm)) [
        | inl same ↦ rw (f, same) refl
        | inr other ↦ rw (f, other) refl
      ]
    ]
among-made_by got rest comm real = refl

among-made_by_all : (items : List Item) (comm : ℕ) → (comm == 0) ≡ false → members_among (made_by_all items) comm ≡ made_in_items comm items
among-made_by_all [] comm real = refl
among-made_by_all (item ∷ items) comm real = among-made_by item.got (made_by_all items) comm real ∙ ap (or_members (made_in_got comm item.got)) (among-made_by_all items comm real)

taught_items : (comm : ℕ) (known : Option (List ℕ)) (reply : Reply) → taught comm known reply ≡ or_members known (made_in_items comm (reply_items reply))
taught_items comm (Some members) reply = refl
taught_items comm None Done = refl
taught_items comm None (Took items) = refl
taught_items comm None NotYet = refl
taught_items comm None (Peeked source start tag count) = refl
taught_items comm None (Stopped halt) = refl

-- a state learns what its view does
learned_known : (n : ℕ) (s : State) (reply : Reply) (comm : ℕ) → members_known n (with_communicators (reply_items reply) s) comm ≡ taught comm (members_known n s comm) reply
learned_known n s reply comm =
    elim (test_cases (comm == 0)) [
      | inl t ↦ rw t refl
      | inr f ↦ rw f (among-append s.made (made_by_all (reply_items reply)) comm ∙ ap (or_members (members_among s.made comm)) (among-made_by_all (reply_items reply) comm f) ∙ sym (taught_items comm (members_among s.made comm) reply))
    ]

-- behind any reply in shape
good_reply : (n me : ℕ) (own : View) (call : Call) (reply : Reply) (s : State) → IsGoodState n me own s → IsInForm n me own call → has_shape n me own call reply ≡ true → IsGoodState n me (own ++ (call, reply) ∷ []) (with_communicators (reply_items reply) s)
good_reply n me own call reply s good form shape = record {
  order = in_order_more n me own call reply good.order form shape;
  starts = (let more = length-append own ((call, reply) ∷ []) in let few = good.starts in omega (arith, more, few));
  known = λ comm.
      learned_known n s reply comm ∙ ap (λ known. taught comm known reply) (good.known comm)
      ∙ sym (known_after-append comm (known_first n comm) own ((call, reply) ∷ []));
  slots = good.slots;
}

-- a reply without items teaches nothing
alike_learned : (s : State) → AreAlikeStates (with_communicators [] s) s
alike_learned s = record { starts = refl; made = sym (append-nil s.made); slots = refl; printed = refl }

good_untaught : (n me : ℕ) (own : View) (call : Call) (reply : Reply) (s : State) → IsGoodState n me own s → IsInForm n me own call → has_shape n me own call reply ≡ true → reply_items reply ≡ [] → IsGoodState n me (own ++ (call, reply) ∷ []) s
good_untaught n me own call reply s good form shape none =
    good_alike n me (own ++ (call, reply) ∷ []) (with_communicators (reply_items reply) s) s (rw none (alike_learned s)) (good_reply n me own call reply s good form shape)

-- a start
done_fits : (n me : ℕ) (own : View) (call : Call) → is_starting call ≡ true → has_shape n me own call Done ≡ true
done_fits n me own (Send comm dest tag ints sync) starting = refl
done_fits n me own (Post comm source tag room) starting = refl
done_fits n me own (Enter comm kind root op count ints) starting = refl
done_fits n me own (Take starts mode) starting = absurd (cc)
done_fits n me own (Peek comm source tag wait) starting = absurd (cc)
done_fits n me own (Abort code) starting = absurd (cc)
done_fits n me own (Trap fault) starting = absurd (cc)
done_fits n me own End starting = absurd (cc)

good_begun : (n me : ℕ) (own : View) (call : Call) (start : Begun) (s : State) → IsGoodState n me own s → IsInForm n me own call → is_starting call ≡ true → IsGoodState n me (own ++ (call, Done) ∷ []) (begun start s)
good_begun n me own call start s good form starting =
    let next : IsGoodState n me (own ++ (call, Done) ∷ []) s = good_untaught n me own call Done s good form (done_fits n me own call starting) refl in
    record {
      order = next.order;
      starts = (
          let more = length-append own ((call, Done) ∷ []) in
          let one = length-append s.starts (start ∷ []) in
          let few = good.starts in
          omega (arith, more, one, few));
      known = next.known;
      slots = next.slots;
    }

-- ---- courses

-- a reply that ends the rank has nothing behind it
unless_ends : (b : Bool) (X : Type 0) → X → MatchBool b (Unit {0}) X
unless_ends true X x = tt
unless_ends false X x = x

-- what goes on from a state with other cells
go_keeps : (n me : ℕ) (own : View) (s t : State) (go : Onward) → IsGoodState n me own s → AreAlikeStates s t → KeepsOn n me go → KeepsLaws n me own s.printed (go t)
go_keeps n me own s t go good alike on = keeps_alike n me own s t (go t) alike (on own t (good_alike n me own s t alike good))

or_trap_keeps : (n me : ℕ) (own : View) (s : State) (o : Option State) (go : Onward) → IfSome o (λ t. AreAlikeStates s t) → ((t : State) → AreAlikeStates s t → KeepsLaws n me own s.printed (go t)) → KeepsLaws n me own s.printed (or_trap o s go)
or_trap_keeps n me own s None go alike on = keeps_trapped n me own OutOfBounds s
or_trap_keeps n me own s (Some t) go alike on = on t alike

-- only Done comes behind a start
behind_start : (n me : ℕ) (own : View) (printed : List ℕ) (course : Course) (call : Call) (reply : Reply) → is_starting call ≡ true → KeepsLaws n me (own ++ (call, Done) ∷ []) printed course → has_shape n me own call reply ≡ true → MatchBool (ends (call, reply)) (Unit {0}) (KeepsLaws n me (own ++ (call, reply) ∷ []) printed course)
behind_start n me own printed course call Done starting keeps shape = unless_ends (ends (call, Done)) _ keeps
behind_start n me own printed course call (Stopped halt) starting keeps shape = tt
behind_start n me own printed course (Send comm dest tag ints sync) (Took items) starting keeps shape = absurd (cc)
behind_start n me own printed course (Send comm dest tag ints sync) NotYet starting keeps shape = absurd (cc)
behind_start n me own printed course (Send comm dest tag ints sync) (Peeked source start t count) starting keeps shape = absurd (cc)
behind_start n me own printed course (Post comm source tag room) (Took items) starting keeps shape = absurd (cc)
behind_start n me own printed course (Post comm source tag room) NotYet starting keeps shape = absurd (cc)
behind_start n me own printed course (Post comm source tag room) (Peeked from start t count) starting keeps shape = absurd (cc)
behind_start n me own printed course (Enter comm kind root op count ints) (Took items) starting keeps shape = absurd (cc)
behind_start n me own printed course (Enter comm kind root op count ints) NotYet starting keeps shape = absurd (cc)
behind_start n me own printed course (Enter comm kind root op count ints) (Peeked source start t k) starting keeps shape = absurd (cc)
behind_start n me own printed course (Take starts mode) reply starting keeps shape = absurd (cc)
behind_start n me own printed course (Peek comm source tag wait) reply starting keeps shape = absurd (cc)
behind_start n me own printed course (Abort code) reply starting keeps shape = absurd (cc)
behind_start n me own printed course (Trap fault) reply starting keeps shape = absurd (cc)
behind_start n me own printed course End reply starting keeps shape = absurd (cc)

starting_keeps : (n me : ℕ) (own : View) (call : Call) (start : Begun) (s : State) (go : Onward) → is_starting call ≡ true → IsCallInBounds n (length own) call → IsInForm n me own call → IsGoodState n me own s
    → ((later : View) (t : State) → IsGoodState n me later t → t.printed ≡ s.printed → t.starts ≡ s.starts ++ start ∷ [] → KeepsLaws n me later s.printed (go t))
    → KeepsLaws n me own s.printed (Asks s call (λ reply. go (begun start s)))
starting_keeps n me own call start s go starting bounds form good on =
    let keeps : KeepsLaws n me (own ++ (call, Done) ∷ []) s.printed (go (begun start s)) = on (own ++ (call, Done) ∷ []) (begun start s) (good_begun n me own call start s good form starting) refl refl in
    (prefix_refl s.printed, bounds, form, λ reply shape. behind_start n me own s.printed (go (begun start s)) call reply starting keeps shape)

-- ---- one start until it is complete

taking_keeps : (n me : ℕ) (own : View) (number : ℕ) (s : State) (go : Reply → Course) → IsGoodState n me own s → number < length s.starts
    → ((reply : Reply) → IsGoodState n me (own ++ (take_one number, reply) ∷ []) (with_communicators (reply_items reply) s) → KeepsLaws n me (own ++ (take_one number, reply) ∷ []) s.printed (go reply))
    → KeepsLaws n me own s.printed (Asks s (take_one number) go)
taking_keeps n me own number s go good below on = (
  prefix_refl s.printed,
  (omega arith, omega arith, λ few. All-cons (λ k. k < MOST_STARTS) number [] (let starts = good.starts in omega (arith, starts, below, few)) (All-nil (λ k. k < MOST_STARTS))),
  tt,
  λ reply shape. unless_ends (ends (take_one number, reply)) _ (on reply (good_reply n me own (take_one number) reply s good tt shape)),
)

put_message_keeps : (n me : ℕ) (own : View) (start : Begun) (status : Option ℕ) (got : Option Got) (s : State) (go : Onward) → IsGoodState n me own s → KeepsOn n me go → KeepsLaws n me own s.printed (put_message n start status got s go)
put_message_keeps n me own start status None s go good on = on own s good
put_message_keeps n me own start status (Some got) s go good on =
    or_trap_keeps n me own s (completed n start status got s) go (alike_completed n start status got s) (λ t alike. go_keeps n me own s t go good alike on)

taking_message_keeps : (n me : ℕ) (own : View) (receive : Receive) (number : ℕ) (status : Option ℕ) (s : State) (go : Onward) → IsGoodState n me own s → number < length s.starts → KeepsOn n me go → KeepsLaws n me own s.printed (taking_message n receive number status s go)
taking_message_keeps n me own receive number status s go good below on =
    taking_keeps n me own number s _ good below (λ reply next.
    put_message_keeps n me (own ++ (take_one number, reply) ∷ []) (receiving receive) status (first_got (reply_items reply)) (with_communicators (reply_items reply) s) go next on)

-- ---- completion calls

-- the items of a completion call
put_items_keep : (n me : ℕ) (own : View) (requests : Cells) (mode : TakeMode) (answer : AnswerCells) (active : List Active) (number : ℕ) (items : List Item) (s : State) (go : Onward) → IsGoodState n me own s → KeepsOn n me go → KeepsLaws n me own s.printed (put_items (completing_of n requests mode answer) active number items s go)
put_items_keep n me own requests mode answer active number [] s go good on = on own s good
put_items_keep n me own requests mode answer active number (item ∷ items) s go good on =
    let one : Active = active_or_none active item.index in
    or_trap_keeps n me own s (item_completed (completing_of n requests mode answer) one number item.got s) _ (alike_completed n (begun_at one.start s) (status_at answer.statuses (status_place mode one.place number)) item.got s) (λ t alike.
    let u : State = put (requests.from + one.place) null t in
    let same : AreAlikeStates s u = alike_trans s t u alike (alike_put (requests.from + one.place) null t) in
    keeps_alike n me own s u _ same (put_items_keep n me own requests mode answer active (suc number) items u go (good_alike n me own s u same good) on))

answered_on : (n me : ℕ) (answer : AnswerCells) (flag index outcount : ℤ) (places : List ℤ) (go : Onward) → KeepsOn n me go → KeepsOn n me (λ s. go (with_answer answer flag index outcount places s))
answered_on n me answer flag index outcount places go on own s good =
    go_keeps n me own s (with_answer answer flag index outcount places s) go good (alike_answered answer flag index outcount places s) on

-- behind the reply to a completion call
after_take_keeps : (n me : ℕ) (own : View) (requests : Cells) (mode : TakeMode) (answer : AnswerCells) (active : List Active) (reply : Reply) (s : State) (go : Onward) → IsGoodState n me own (with_communicators (reply_items reply) s) → KeepsOn n me go → KeepsLaws n me own s.printed (after_take (completing_of n requests mode answer) active reply s go)
after_take_keeps n me own requests mode answer active (Took items) s go good on =
    let t : State = with_communicators items s in
    let u : State = empties requests mode answer t in
    let same : AreAlikeStates t u = alike_empties requests mode answer t in
    keeps_alike n me own t u _ same
    (put_items_keep n me own requests mode answer active 0 items u _ (good_alike n me own t u same good)
    (answered_on n me answer (pos 1) (first_place (handle_places active items)) (pos (length items)) (handle_places active items) go on))
after_take_keeps n me own requests mode answer active Done s go good on = answered_on n me answer (pos 0) undefined (pos 0) [] go on own s (good_alike n me own (with_communicators [] s) s (alike_learned s) good)
after_take_keeps n me own requests mode answer active NotYet s go good on = answered_on n me answer (pos 0) undefined (pos 0) [] go on own s (good_alike n me own (with_communicators [] s) s (alike_learned s) good)
after_take_keeps n me own requests mode answer active (Peeked source start tag count) s go good on = answered_on n me answer (pos 0) undefined (pos 0) [] go on own s (good_alike n me own (with_communicators [] s) s (alike_learned s) good)
after_take_keeps n me own requests mode answer active (Stopped halt) s go good on = answered_on n me answer (pos 0) undefined (pos 0) [] go on own s (good_alike n me own (with_communicators [] s) s (alike_learned s) good)

-- the handles of starts: no more than handles, each the number of a start
pub record AreActive (starts handles : ℕ) (active : List Active) : Type 0 where
  pub few : length active ≤ handles
  pub below : All (λ (one : Active). one.start < starts) active

active_from_is : (starts place : ℕ) (handles : List ℤ) → AreActive starts (length handles) (active_from starts place handles)
active_from_is starts place [] = record { few = omega arith; below = All-nil (λ (one : Active). one.start < starts) }
active_from_is starts place (negsuc v ∷ handles) =
    let rest = active_from_is starts (suc place) handles in
    record { few = (let few = rest.few in omega (arith, few)); below = rest.below }
active_from_is starts place (pos v ∷ handles) =
    let rest = active_from_is starts (suc place) handles in
    elim (test_cases (nat_lt v starts)) [
      | inl t ↦ rw t (record {
        few = (let few = rest.few in omega (arith, few));
        below = All-cons (λ (one : Active). one.start < starts) (record { place = place; start = v }) (active_from starts (suc place) handles) (ltb-true v starts t) rest.below;
      })
      | inr f ↦ rw f (record { few = (let few = rest.few in omega (arith, few)); below = rest.below })
    ]

completing_keeps : (n me : ℕ) (own : View) (requests : Cells) (mode : TakeMode) (answer : AnswerCells) (active : List Active) (s : State) (go : Onward) → IsGoodState n me own s → AreActive (length s.starts) MOST_CELLS active → KeepsOn n me go → KeepsLaws n me own s.printed (completing (completing_of n requests mode answer) active s go)
completing_keeps n me own requests mode answer [] s go good are on = go_keeps n me own s (none_active requests mode answer s) go good (alike_none_active requests mode answer s) on
completing_keeps n me own requests mode answer (one ∷ more) s go good are on =
    let active : List Active = one ∷ more in
    let call : Call = Take (starts_in active) mode in
    let count : length (starts_in active) ≡ length active = length-map active (λ (one : Active). one.start) in
    let few : length active ≤ MOST_CELLS = are.few in
    let starts : length s.starts ≤ length own = good.starts in
    let below : All (λ k. k < length s.starts) (starts_in active) = All-map (λ k. k < length s.starts) (λ (one : Active). one.start) active are.below in (
      prefix_refl s.printed,
      (omega arith, omega (arith, count, few), λ got. All-weaker (λ k. k < length s.starts) (λ k. k < MOST_STARTS) (λ k low. omega (arith, low, starts, got)) (starts_in active) below),
      tt,
      λ reply shape. unless_ends (ends (call, reply)) _
          (after_take_keeps n me (own ++ (call, reply) ∷ []) requests mode answer active reply s go (good_reply n me own call reply s good tt shape) on),
    )

-- ---- effects

-- an effect that is performed keeps the laws, where what goes on behind it does
abbrev IsPerformed : Effect → Type 0
IsPerformed effect = (n me : ℕ) (own : View) (s : State) (go : Onward) → IsGoodState n me own s → IsProperEffect n me own effect → KeepsOn n me go → KeepsLaws n me own s.printed (perform (rank_of n me) effect s go)

send_bounds : (n : ℕ) (own : View) (m : Message) (s : State) → IsProperMessage n m → IsCallInBounds n (length own) (send_call m s)
send_bounds n own m s is = (is.dest, is.tag, rw (length-values_from m.ints.from m.ints.length s) is.ints)

request_keeps : (n me : ℕ) (later : View) (s t : State) (request : Option ℕ) (number : ℤ) (go : Onward) → IsGoodState n me later t → t.printed ≡ s.printed → KeepsOn n me go → KeepsLaws n me later s.printed (go (put_some request number t))
request_keeps n me later s t request number go good printed on =
    subst (λ printed. KeepsLaws n me later printed (go (put_some request number t))) printed (go_keeps n me later t (put_some request number t) go good (alike_put_some request number t) on)

starts_keep : (start : Start) (request : Option ℕ) → IsPerformed (Starts start request)
starts_keep (StartSend m) request n me own s go good is on =
    starting_keeps n me own (send_call m s) (sent m.comm) s (λ t. go (put_some request (pos (number_of_next s)) t)) refl (send_bounds n own m s is) tt good (λ later t good printed starts.
    request_keeps n me later s t request (pos (number_of_next s)) go good printed on)
starts_keep (StartReceive r) request n me own s go good is on =
    starting_keeps n me own (post_call r) (receiving r) s (λ t. go (put_some request (pos (number_of_next s)) t)) refl (is.source, is.tag) tt good (λ later t good printed starts.
    request_keeps n me later s t request (pos (number_of_next s)) go good printed on)

-- what goes on where so many starts are made
sending_keeps : (n me : ℕ) (own : View) (send : Option Message) (s : State) (count : ℕ) (go : Onward) → IfSome send (λ m. IsProperMessage n m) → IsGoodState n me own s → count ≤ length s.starts
    → ((later : View) (t : State) → IsGoodState n me later t → count ≤ length t.starts → KeepsLaws n me later t.printed (go t))
    → KeepsLaws n me own s.printed (sending send s go)
sending_keeps n me own None s count go is good many on = on own s good many
sending_keeps n me own (Some m) s count go is good many on =
    starting_keeps n me own (send_call m s) (sent m.comm) s go refl (send_bounds n own m s is) tt good (λ later t good printed starts.
    let grown : length (s.starts ++ sent m.comm ∷ []) ≡ length s.starts + length (sent m.comm ∷ []) = length-append s.starts (sent m.comm ∷ []) in
    let more : count ≤ length t.starts = rw starts (omega (arith, many, grown)) in
    subst (λ printed. KeepsLaws n me later printed (go t)) printed (on later t good more))

receives_keep : (r : Receive) (send : Option Message) (status : Option ℕ) → IsPerformed (Receives r send status)
receives_keep r send status n me own s go good is on =
    let number : ℕ = number_of_next s in
    let k : Onward = λ t. taking_message n r number status t go in
    starting_keeps n me own (post_call r) (receiving r) s (λ t. sending send t k) refl (is.0.source, is.0.tag) tt good (λ later t good printed starts.
    let grown : length (s.starts ++ receiving r ∷ []) ≡ length s.starts + length (receiving r ∷ []) = length-append s.starts (receiving r ∷ []) in
    let more : suc number ≤ length t.starts = rw starts (omega (arith, grown)) in
    subst (λ printed. KeepsLaws n me later printed (sending send t k)) printed
    (sending_keeps n me later send t (suc number) k is.1 good more (λ last u good many.
    taking_message_keeps n me last r number status u go good (omega (arith, many)) on)))

untaught : (n me : ℕ) (own : View) (comm : ℕ) (source : Source) (tag : Tag) (waits : Bool) (reply : Reply) → has_shape n me own (Peek comm source tag waits) reply ≡ true → reply_items reply ≡ []
untaught n me own comm source tag waits (Took items) shape = absurd (cc)
untaught n me own comm source tag waits reply shape = refl

peek_keeps : (n me : ℕ) (own : View) (comm : ℕ) (source : Source) (tag : Tag) (waits : Bool) (flag status : Option ℕ) (s : State) (go : Onward) → IsGoodState n me own s → IsWanted n source tag → KeepsOn n me go
    → KeepsLaws n me own s.printed (Asks s (Peek comm source tag waits) (λ reply. go (probed n comm flag status reply s)))
peek_keeps n me own comm source tag waits flag status s go good is on =
    let call : Call = Peek comm source tag waits in (
      prefix_refl s.printed,
      (is.source, is.tag),
      tt,
      λ reply shape. unless_ends (ends (call, reply)) _
          (go_keeps n me (own ++ (call, reply) ∷ []) s (probed n comm flag status reply s) go
          (good_untaught n me own call reply s good tt shape (untaught n me own comm source tag waits reply shape)) (alike_probed n comm flag status reply s) on),
    )

probes_keep : (comm : ℕ) (source : Source) (tag : Tag) (waits : Bool) (flag status : Option ℕ) → IsPerformed (Probes comm source tag waits flag status)
probes_keep comm Null tag waits flag status n me own s go good is on =
    let t : State = put_nothing status s in
    go_keeps n me own s (put_some flag (pos 1) t) go good (alike_trans s t (put_some flag (pos 1) t) (alike_put_status status _ _ _ s) (alike_put_some flag (pos 1) t)) on
probes_keep comm AnySource tag waits flag status n me own s go good is on = peek_keeps n me own comm AnySource tag waits flag status s go good is on
probes_keep comm (FromRank rank) tag waits flag status n me own s go good is on = peek_keeps n me own comm (FromRank rank) tag waits flag status s go good is on

completes_keep : (requests : Cells) (mode : TakeMode) (answer : AnswerCells) → IsPerformed (Completes requests mode answer)
completes_keep requests mode answer n me own s go good is on =
    let are : AreActive (length s.starts) (length (ints_in_cells requests s)) (active_in requests s) = active_from_is (length s.starts) 0 (ints_in_cells requests s) in
    let count : length (ints_in_cells requests s) ≡ requests.length = length-values_from requests.from requests.length s in
    let few : length (active_in requests s) ≤ length (ints_in_cells requests s) = are.few in
    completing_keeps n me own requests mode answer (active_in requests s) s go good (record { few = omega (arith, few, count, is); below = are.below }) on

-- a start of which at most a result is wanted, until it is complete
completed_keeps : (call : Call) (comm : ℕ) (into : Into) (n me : ℕ) (own : View) (s : State) (go : Onward) → is_starting call ≡ true → IsCallInBounds n (length own) call → IsInForm n me own call → IsGoodState n me own s → KeepsOn n me go
    → KeepsLaws n me own s.printed (Asks s call (λ reply. taking_result into (number_of_next s) (begun (sent comm) s) go))
completed_keeps call comm into n me own s go starting bounds form good on =
    let number : ℕ = number_of_next s in
    let k : Onward = λ t. taking_result into number t go in
    starting_keeps n me own call (sent comm) s k starting bounds form good (λ later t good printed starts.
    let grown : length (s.starts ++ sent comm ∷ []) ≡ length s.starts + length (sent comm ∷ []) = length-append s.starts (sent comm ∷ []) in
    let more : number < length t.starts = rw starts (omega (arith, grown)) in
    subst (λ printed. KeepsLaws n me later printed (k t)) printed
    (taking_keeps n me later number t _ good more (λ reply next.
    let u : State = with_communicators (reply_items reply) t in
    go_keeps n me (later ++ (take_one number, reply) ∷ []) u (put_result into (first_got (reply_items reply)) u) go next (alike_put_result into (first_got (reply_items reply)) u) on)))

sends_keep : (m : Message) → IsPerformed (Sends m)
sends_keep m n me own s go good is on = completed_keeps (send_call m s) m.comm Nowhere n me own s go refl (send_bounds n own m s is) tt good on

joins_keep : (j : Collective) → IsPerformed (Joins j)
joins_keep j n me own s go good is on = completed_keeps (enter_call j s) j.comm j.into n me own s go refl is.root (is.form s) good on

-- an effect that is proper keeps the laws
proper_keeps : (effect : Effect) → IsPerformed effect
proper_keeps Nothing n me own s go good is on = on own s good
proper_keeps (Sets cell value) n me own s go good is on = go_keeps n me own s (put cell value s) go good (alike_put cell value s) on
proper_keeps (Starts start request) n me own s go good is on = starts_keep start request n me own s go good is on
proper_keeps (Sends m) n me own s go good is on = sends_keep m n me own s go good is on
proper_keeps (Receives receive send status) n me own s go good is on = receives_keep receive send status n me own s go good is on
proper_keeps (Completes requests mode answer) n me own s go good is on = completes_keep requests mode answer n me own s go good is on
proper_keeps (Probes comm source tag waits flag status) n me own s go good is on = probes_keep comm source tag waits flag status n me own s go good is on
proper_keeps (Joins j) n me own s go good is on = joins_keep j n me own s go good is on
proper_keeps (Aborts code) n me own s go good is on = keeps_aborted n me own code s

-- the effect of an MPI call, where its checks have passed
pub perform_keeps : (n me : ℕ) (call : MpiCall) (effect : Effect) (own : View) (s : State) (go : Onward) → IsGoodState n me own s → effect_of (rank_of n me) call s ≡ Ok effect → KeepsOn n me go → KeepsLaws n me own s.printed (perform (rank_of n me) effect s go)
perform_keeps n me call effect own s go good is on = proper_keeps effect n me own s go good (effect_proper n me call effect own s good is) on
