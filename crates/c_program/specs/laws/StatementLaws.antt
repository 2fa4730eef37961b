-- Every course of a program keeps the laws: by induction over the language.
use Rattle.std.proofs.Common.{◌≡◌, ◌∙◌, ◌+◌, ◌-◌, ◌++◌, ◌≤◌, ◌<◌, ℕ, zero, suc, ℤ, pos, Bool, true, false, List, [], ◌∷◌, Option, Some, None, Result, Ok, Err, All, length, nat_le, slice_get, refl, subst, arith, length-append}
use Rattle.std.proofs.lemmas.Bool.{leb-true}
use Rattle.std.proofs.lemmas.List.Elements.{All-append, All-cons, All-head, All-nil, All-tail, All-take}
use Rattle.mpi_call.specs.declared.call.Fault.{Fault}
use Rattle.mpi_call.specs.declared.call.Fault.TheVariants.{Budget, OutputFull, Depth, Cells as CellsFault}
use Rattle.c_names.specs.declared.kind.VariableKind.{VariableKind}
use Rattle.c_names.specs.declared.kind.VariableKind.TheVariants.{Int, Status, Request, Communicator}
use Rattle.run_model.specs.Program.{IsRankOf}
use Rattle.run_model.specs.Views.{View}
use Rattle.run_model.proofs.Orders.{in_order_first}
use Rattle.c_program.specs.declared.constants.TheConstants.{MOST_CELLS, MOST_PRINTED}
use Rattle.c_program.specs.declared.program.TypedParameter.{TypedParameter}
use Rattle.c_program.specs.declared.program.ParameterKind.{ParameterKind}
use Rattle.c_program.specs.declared.program.ParameterKind.TheVariants.{Int as IntParameter, Communicator as CommunicatorParameter, Array as ArrayParameter, Texts as TextsParameter}
use Rattle.c_program.specs.declared.state.StackMark.{StackMark}
use Rattle.c_program.specs.declared.state.Passed.{Passed}
use Rattle.c_program.specs.declared.state.Passed.TheVariants.{Number, Cells as Lent}
use Rattle.c_program.specs.Tree as t
use Rattle.c_program.specs.Tree.{TypedExpr, TypedForStart, Function, FunctionCall, TypedInitDeclarator, TypedInitializer, TypedPart, TypedParts, Program, TypedRight, TypedSimple, TypedStmt}
use Rattle.c_program.specs.Courses.{Course, ended, trapped}
use Rattle.c_program.specs.Effects.{effect_of}
use Rattle.c_program.specs.laws.EffectLaws.{perform_keeps}
use Rattle.c_program.specs.laws.GoodLaws.{good_put, keeps_ended, keeps_prefix, keeps_trapped}
use Rattle.run_model.proofs.Prefixes.{prefix_append}
use Rattle.c_program.specs.laws.Keeping.{IsGoodState, IsPassable, KeepCalls, KeepsLaws, KeepsExits, KeepsOn}
use Rattle.c_program.specs.Meaning as m
use Rattle.c_program.specs.Meaning.{FunctionMeaning, Exits, Meaning, Passing}
use Rattle.c_program.specs.Performing.{Onward, perform}
use Rattle.c_program.specs.Prints.{text_of}
use Rattle.c_program.specs.Program.{rank_of}
use Rattle.c_program.specs.laws.RangeLaws.{passed_all_are_passable}
use Rattle.c_program.specs.State.{Slot, State, cell_at, first_cells, leave, stack_mark, no_cells, put, width_of}
use Rattle.c_program.specs.Values.{cell_of_place, operated, value, values}

-- what goes on one way, and what has four ways out
abbrev KeepPassing : ℕ → ℕ → Passing → Type 0
KeepPassing n me passing =
    (own : View) (s : State) (go : Onward) → IsGoodState n me own s → KeepsOn n me go → KeepsLaws n me own s.printed (passing s go)

-- a meaning with four ways out keeps the laws, where each of them does
abbrev KeepMeaning : ℕ → ℕ → Meaning → Type 0
KeepMeaning n me meaning =
    (own : View) (s : State) (k : Exits) → IsGoodState n me own s → KeepsExits n me k → KeepsLaws n me own s.printed (meaning s k)

-- a variable of no more cells than may stand
abbrev IsSlotInBounds : Slot → Type 0
IsSlotInBounds slot = slot.cells.length ≤ MOST_CELLS

-- parameters print nothing

printed_parameter : (name : List ℕ) (kind : ParameterKind) (one : Option Passed) (s : State) → (m.with_parameter (record { name = name; kind = kind }) one s).printed ≡ s.printed
printed_parameter name IntParameter one s = refl
printed_parameter name CommunicatorParameter one s = refl
printed_parameter name ArrayParameter one s = refl
printed_parameter name TextsParameter one s = refl

printed_parameters : (parameters : List TypedParameter) (arguments : List Passed) (s : State) → (m.with_parameters parameters arguments s).printed ≡ s.printed
printed_parameters [] arguments s = refl
printed_parameters (parameter ∷ parameters) [] s =
    printed_parameters parameters [] (m.with_parameter parameter None s) ∙ printed_parameter parameter.name parameter.kind None s
printed_parameters (parameter ∷ parameters) (one ∷ others) s =
    printed_parameters parameters others (m.with_parameter parameter (Some one) s) ∙ printed_parameter parameter.name parameter.kind (Some one) s

-- ---- good states

module _ (n me : ℕ) where
  good_left : (own : View) (s : State) (left : ℕ) → IsGoodState n me own s → IsGoodState n me own (record s { left = left })
  good_left own s left good = record { order = good.order; starts = good.starts; known = good.known; slots = good.slots }

  good_printed : (own : View) (s : State) (printed : List ℕ) → IsGoodState n me own s → IsGoodState n me own (record s { printed = printed })
  good_printed own s printed good = record { order = good.order; starts = good.starts; known = good.known; slots = good.slots }

  good_leave : (own : View) (mark : StackMark) (s : State) → IsGoodState n me own s → IsGoodState n me own (leave mark s)
  good_leave own mark s good = record { order = good.order; starts = good.starts; known = good.known; slots = All-take IsSlotInBounds mark.slots s.slots good.slots }

  good_opened : (own : View) (s : State) → IsGoodState n me own s → IsGoodState n me own (m.with_open_call s)
  good_opened own s good = record { order = good.order; starts = good.starts; known = good.known; slots = good.slots }

  good_slot : (own : View) (s : State) (cells : List ℤ) (slot : Slot) → slot.cells.length ≤ MOST_CELLS → IsGoodState n me own s → IsGoodState n me own (record s { cells = cells; slots = s.slots ++ slot ∷ [] })
  good_slot own s cells slot fits good = record { order = good.order; starts = good.starts; known = good.known; slots = All-append IsSlotInBounds s.slots (slot ∷ []) good.slots (All-cons IsSlotInBounds slot [] fits (All-nil IsSlotInBounds)) }

  good_with_slot : (own : View) (name : List ℕ) (count width : ℕ) (cells : List ℤ) (s : State) → count ≤ MOST_CELLS → IsGoodState n me own s → IsGoodState n me own (m.with_slot name count width cells s)
  good_with_slot own name count width cells s fits good =
      good_slot own s (s.cells ++ cells) (record { depth = s.opens - 1; name = name; is_listed = true; cells = record { from = length s.cells; length = count; width = width } }) fits good

  -- ---- parameters

  lent_fits : (one : Option Passed) → ((passed : Passed) → one ≡ Some passed → IsPassable passed) → (m.cells_in one).length ≤ MOST_CELLS
  lent_fits None fits = omega arith
  lent_fits (Some (Number v)) fits = omega arith
  lent_fits (Some (Lent cells)) fits = fits (Lent cells) refl

  good_parameter : (own : View) (name : List ℕ) (kind : ParameterKind) (one : Option Passed) (s : State) → ((passed : Passed) → one ≡ Some passed → IsPassable passed) → IsGoodState n me own s → IsGoodState n me own (m.with_parameter (record { name = name; kind = kind }) one s)
  good_parameter own name IntParameter one s fits good = good_with_slot own name 1 1 (m.passed_number one ∷ []) s (omega arith) good
  good_parameter own name CommunicatorParameter one s fits good = good_with_slot own name 1 1 (m.passed_number one ∷ []) s (omega arith) good
  good_parameter own name ArrayParameter one s fits good = good_slot own s (s.cells ++ pos 0 ∷ []) (m.unlisted name (m.cells_in one) s) (lent_fits one fits) good
  good_parameter own name TextsParameter one s fits good = good_slot own s s.cells (m.unlisted name no_cells s) (omega arith) good

  good_parameters : (own : View) (parameters : List TypedParameter) (arguments : List Passed) (s : State) → All IsPassable arguments → IsGoodState n me own s → IsGoodState n me own (m.with_parameters parameters arguments s)
  good_parameters own [] arguments s fit good = good
  good_parameters own (parameter ∷ parameters) [] s fit good =
      good_parameters own parameters [] (m.with_parameter parameter None s) fit
      (good_parameter own parameter.name parameter.kind None s (λ passed is. absurd (cc)) good)
  good_parameters own (parameter ∷ parameters) (one ∷ others) s fit good =
      good_parameters own parameters others (m.with_parameter parameter (Some one) s) (All-tail IsPassable one others fit)
      (good_parameter own parameter.name parameter.kind (Some one) s (λ passed is. let same : one ≡ passed = cc in subst IsPassable same (All-head IsPassable one others fit)) good)

  -- ---- ways out

  trying_keeps : {A : Type 0} (own : View) (found : Result A Fault) (s : State) (go : A → Course) → ((x : A) → found ≡ Ok x → KeepsLaws n me own s.printed (go x)) → KeepsLaws n me own s.printed (m.trying found s go)
  trying_keeps own (Err fault) s go keeps = keeps_trapped n me own fault s
  trying_keeps own (Ok x) s go keeps = keeps x refl

  choose_keeps : (own : View) (holds : Bool) (printed : List ℕ) (a b : Course) → (holds ≡ true → KeepsLaws n me own printed a) → KeepsLaws n me own printed b → KeepsLaws n me own printed (m.choose holds a b)
  choose_keeps own true printed a b keeps other = keeps refl
  choose_keeps own false printed a b keeps other = other

  leaving_keeps : (mark : StackMark) (k : Exits) → KeepsExits n me k → KeepsExits n me (m.leaving mark k)
  leaving_keeps mark k keep = record {
    next = λ own s good. keep.next own (leave mark s) (good_leave own mark s good);
    broke = λ own s good. keep.broke own (leave mark s) (good_leave own mark s good);
    again = λ own s good. keep.again own (leave mark s) (good_leave own mark s good);
    back = λ v own s good. keep.back v own (leave mark s) (good_leave own mark s good);
  }

  step_from_keeps : (left : ℕ) → KeepPassing n me (m.step_from left)
  step_from_keeps zero own s go good keep = keeps_trapped n me own Budget s
  step_from_keeps (suc left) own s go good keep = keep own (record s { left = left }) (good_left own s left good)

  step_keeps : KeepPassing n me m.step
  step_keeps own s go good keep = step_from_keeps s.left own s go good keep

  started_keeps : (meaning : Meaning) → KeepMeaning n me meaning → KeepMeaning n me (m.started meaning)
  started_keeps meaning keep own s k good exits = step_keeps own s (λ s. meaning s k) good (λ own s good. keep own s k good exits)

  print_keeps : (text : List ℕ) → KeepPassing n me (m.print text)
  print_keeps text own s go good keep =
      let longer : State = record s { printed = s.printed ++ text } in
      choose_keeps own (nat_le (length s.printed + length text) MOST_PRINTED) s.printed (go longer) (trapped OutputFull s)
      (λ room. keeps_prefix n me own s.printed (s.printed ++ text) (go longer) (prefix_append s.printed text) (keep own longer (good_printed own s (s.printed ++ text) good)))
      (keeps_trapped n me own OutputFull s)

  put_values_keep : (es : List TypedExpr) (cell : ℕ) → KeepPassing n me (m.put_values es cell)
  put_values_keep [] cell own s go good keep = keep own s good
  put_values_keep (e ∷ es) cell own s go good keep =
      trying_keeps own (value e s) s (λ v. m.put_values es (cell + 1) (put cell v s) go) (λ v is.
      put_values_keep es (cell + 1) own (put cell v s) go (good_put n me own cell v s good) keep)

  -- ---- loops

  turn_exits_keep : (update : Passing) (go : Onward) (k : Exits) → KeepPassing n me update → KeepsOn n me go → KeepsExits n me k → KeepsExits n me (m.turn_exits update go k)
  turn_exits_keep update go k updates keep exits = record {
    next = λ own s good. updates own s go good keep;
    broke = exits.next;
    again = λ own s good. updates own s go good keep;
    back = exits.back;
  }

  turns_keep : (count : ℕ) (e : Option TypedExpr) (update : Passing) (body : Meaning) → KeepPassing n me update → KeepMeaning n me body → KeepMeaning n me (m.loop_turns count e update body)
  turns_keep zero e update body updates bodies own s k good exits = keeps_trapped n me own Budget s
  turns_keep (suc count) e update body updates bodies own s k good exits =
      let again : Onward = λ s. m.loop_turns count e update body s k in
      let turn : Exits = m.turn_exits update again k in
      let turn_keeps : KeepsExits n me turn = turn_exits_keep update again k updates (λ own s good. turns_keep count e update body updates bodies own s k good exits) exits in
      trying_keeps own (m.test e s) s (λ holds. m.choose holds (m.step s (λ s. body s turn)) (k.next s)) (λ holds is.
      choose_keeps own holds s.printed (m.step s (λ s. body s turn)) (k.next s)
      (λ true_now. step_keeps own s (λ s. body s turn) good (λ own s good. bodies own s turn good turn_keeps))
      (exits.next own s good))

  loop_keeps : (e : Option TypedExpr) (update : Passing) (body : Meaning) → KeepPassing n me update → KeepMeaning n me body → KeepMeaning n me (m.loop e update body)
  loop_keeps e update body updates bodies own s k good exits = turns_keep (suc s.left) e update body updates bodies own s k good exits

  no_update_keeps : KeepPassing n me m.no_update
  no_update_keeps own s go good keep = keep own s good

  loop_after_keeps : (e : TypedExpr) (body : Meaning) → KeepMeaning n me body → KeepMeaning n me (m.loop_after e body)
  loop_after_keeps e body bodies own s k good exits =
      let again : Onward = λ s. m.loop (Some e) m.no_update body s k in
      let turn : Exits = m.turn_exits m.no_update again k in
      let turn_keeps : KeepsExits n me turn = turn_exits_keep m.no_update again k no_update_keeps (λ own s good. loop_keeps (Some e) m.no_update body no_update_keeps bodies own s k good exits) exits in
      step_keeps own s (λ s. body s turn) good (λ own s good. bodies own s turn good turn_keeps)

  -- ---- declared variables have room

  kind_has_cells : (kind : VariableKind) → 0 < length (first_cells kind)
  kind_has_cells Int = omega arith
  kind_has_cells Status = omega arith
  kind_has_cells Request = omega arith
  kind_has_cells Communicator = omega arith

  repeated_length : (count : ℕ) (cells : List ℤ) → 0 < length cells → count ≤ length (m.repeated count cells)
  repeated_length zero cells some = omega arith
  repeated_length (suc count) cells some =
      let others : count ≤ length (m.repeated count cells) = repeated_length count cells some in
      omega (arith, length-append cells (m.repeated count cells))

  item_fits : (item : TypedInitDeclarator) (s : State) → m.has_room (length (m.item_cells item)) s ≡ true → m.length_or_one item.length ≤ MOST_CELLS
  item_fits item s room =
      let all : length s.cells + length (m.item_cells item) ≤ MOST_CELLS = leb-true (length s.cells + length (m.item_cells item)) MOST_CELLS room in
      let these : m.length_or_one item.length ≤ length (m.item_cells item) = repeated_length (m.length_or_one item.length) (first_cells item.kind) (kind_has_cells item.kind) in
      omega arith

  -- ---- what calls functions

  module _ (calls : FunctionMeaning) (calls_keep : KeepCalls n me calls) where
    invoke_keeps : (call : FunctionCall) (own : View) (s : State) (go : ℤ → Onward) → IsGoodState n me own s → ((v : ℤ) → KeepsOn n me (go v)) → KeepsLaws n me own s.printed (m.invoke calls call s go)
    invoke_keeps call own s go good keep =
        step_keeps own s (λ s. m.trying (m.passed_all call.arguments s) s (λ arguments. calls call.function arguments s go)) good (λ own s good.
        trying_keeps own (m.passed_all call.arguments s) s (λ arguments. calls call.function arguments s go) (λ arguments is.
        calls_keep call.function arguments own s go (passed_all_are_passable call.arguments s arguments good.slots is) good keep))

    right_keeps : (given_right : TypedRight) (own : View) (s : State) (go : ℤ → Onward) → IsGoodState n me own s → ((v : ℤ) → KeepsOn n me (go v)) → KeepsLaws n me own s.printed (m.right calls given_right s go)
    right_keeps (t.value e) own s go good keep = trying_keeps own (value e s) s (λ v. go v s) (λ v is. keep v own s good)
    right_keeps (t.called call) own s go good keep = invoke_keeps call own s go good keep

    begin_keeps : (initial : TypedInitializer) (cell : ℕ) → KeepPassing n me (m.begin calls initial cell)
    begin_keeps t.no_initial cell own s go good keep = keep own s good
    begin_keeps (t.right given_right) cell own s go good keep =
        right_keeps given_right own s (λ v s. go (put cell v s)) good (λ v own s good. keep own (put cell v s) (good_put n me own cell v s good))
    begin_keeps (t.values es) cell own s go good keep = put_values_keep es cell own s go good keep

    declare_keeps : (item : TypedInitDeclarator) → KeepPassing n me (m.declare_variable calls item)
    declare_keeps item own s go good keep =
        let more : State = m.with_slot item.name (m.length_or_one item.length) (width_of item.kind) (m.item_cells item) s in
        choose_keeps own (m.has_room (length (m.item_cells item)) s) s.printed (m.begin calls item.initial (length s.cells) more go) (trapped CellsFault s)
        (λ room. begin_keeps item.initial (length s.cells) own more go (good_with_slot own item.name (m.length_or_one item.length) (width_of item.kind) (m.item_cells item) s (item_fits item s room) good) keep)
        (keeps_trapped n me own CellsFault s)

    declare_all_keeps : (items : List TypedInitDeclarator) → KeepPassing n me (m.declare_all calls items)
    declare_all_keeps [] own s go good keep = keep own s good
    declare_all_keeps (item ∷ items) own s go good keep =
        declare_keeps item own s (λ s. m.declare_all calls items s go) good (λ own s good. declare_all_keeps items own s go good keep)

    return_keeps : (given_right : Option TypedRight) → KeepMeaning n me (m.return calls given_right)
    return_keeps None own s k good exits = exits.back (pos 0) own s good
    return_keeps (Some given_right) own s k good exits = right_keeps given_right own s (λ v s. k.back v s) good (λ v own s good. exits.back v own s good)

    simple_keeps : (one : TypedSimple) → KeepPassing n me (m.simple (rank_of n me) calls one)
    simple_keeps (t.set place given_right) own s go good keep =
        trying_keeps own (cell_of_place place s) s (λ cell. m.right calls given_right s (λ v s. go (put cell v s))) (λ cell is.
        right_keeps given_right own s (λ v s. go (put cell v s)) good (λ v own s good. keep own (put cell v s) (good_put n me own cell v s good)))
    simple_keeps (t.update place operator given_right) own s go good keep =
        trying_keeps own (cell_of_place place s) s (λ cell. m.right calls given_right s (λ v s. m.trying (operated operator (cell_at s cell) v) s (λ v. go (put cell v s)))) (λ cell is.
        right_keeps given_right own s (λ v s. m.trying (operated operator (cell_at s cell) v) s (λ v. go (put cell v s))) good (λ v own s good.
        trying_keeps own (operated operator (cell_at s cell) v) s (λ v. go (put cell v s)) (λ v is. keep own (put cell v s) (good_put n me own cell v s good))))
    simple_keeps (t.call call) own s go good keep = invoke_keeps call own s (λ v s. go s) good (λ v own s good. keep own s good)
    simple_keeps (t.mpi call) own s go good keep =
        trying_keeps own (effect_of (rank_of n me) call s) s (λ effect. perform (rank_of n me) effect s go) (λ effect is. perform_keeps n me call effect own s go good is keep)
    simple_keeps (t.print format arguments) own s go good keep =
        trying_keeps own (values arguments s) s (λ vs. m.print (text_of format vs) s go) (λ vs is. print_keeps (text_of format vs) own s go good keep)
    simple_keeps t.flush own s go good keep = keep own s good

    for_start_keeps : (start : TypedForStart) → KeepPassing n me (m.for_start (rank_of n me) calls start)
    for_start_keeps t.no_start own s go good keep = keep own s good
    for_start_keeps (t.declared_start items) own s go good keep = step_keeps own s (λ s. m.declare_all calls items s go) good (λ own s good. declare_all_keeps items own s go good keep)
    for_start_keeps (t.simple_start one) own s go good keep = simple_keeps one own s go good keep

    for_update_keeps : (update : Option TypedSimple) → KeepPassing n me (m.for_update (rank_of n me) calls update)
    for_update_keeps None own s go good keep = keep own s good
    for_update_keeps (Some one) own s go good keep = simple_keeps one own s go good keep

    mutual
      act_keeps : (stmt : TypedStmt) → KeepMeaning n me (m.act (rank_of n me) calls stmt)
      act_keeps (t.block parts) own s k good exits = act_parts_keeps parts own s (m.leaving (stack_mark s) k) good (leaving_keeps (stack_mark s) k exits)
      act_keeps t.empty own s k good exits = exits.next own s good
      act_keeps (t.simple one) own s k good exits = simple_keeps one own s k.next good exits.next
      act_keeps t.break own s k good exits = exits.broke own s good
      act_keeps t.continue own s k good exits = exits.again own s good
      act_keeps (t.return given_right) own s k good exits = return_keeps given_right own s k good exits
      act_keeps (t.if_only e taken) own s k good exits =
          trying_keeps own (m.test (Some e) s) s (λ holds. m.choose holds (m.started (m.act (rank_of n me) calls taken) s k) (k.next s)) (λ holds is.
          choose_keeps own holds s.printed (m.started (m.act (rank_of n me) calls taken) s k) (k.next s)
          (λ true_now. started_keeps (m.act (rank_of n me) calls taken) (act_keeps taken) own s k good exits)
          (exits.next own s good))
      act_keeps (t.if_else e taken spared) own s k good exits =
          trying_keeps own (m.test (Some e) s) s (λ holds. m.choose holds (m.started (m.act (rank_of n me) calls taken) s k) (m.started (m.act (rank_of n me) calls spared) s k)) (λ holds is.
          choose_keeps own holds s.printed (m.started (m.act (rank_of n me) calls taken) s k) (m.started (m.act (rank_of n me) calls spared) s k)
          (λ true_now. started_keeps (m.act (rank_of n me) calls taken) (act_keeps taken) own s k good exits)
          (started_keeps (m.act (rank_of n me) calls spared) (act_keeps spared) own s k good exits))
      act_keeps (t.while e body) own s k good exits =
          loop_keeps (Some e) m.no_update (m.started (m.act (rank_of n me) calls body)) no_update_keeps (started_keeps (m.act (rank_of n me) calls body) (act_keeps body)) own s k good exits
      act_keeps (t.do_while body e) own s k good exits =
          loop_after_keeps e (m.started (m.act (rank_of n me) calls body)) (started_keeps (m.act (rank_of n me) calls body) (act_keeps body)) own s k good exits
      act_keeps (t.for start e update body) own s k good exits =
          for_start_keeps start own s (λ t. m.loop e (m.for_update (rank_of n me) calls update) (m.started (m.act (rank_of n me) calls body)) t (m.leaving (stack_mark s) k)) good (λ own t good.
          loop_keeps e (m.for_update (rank_of n me) calls update) (m.started (m.act (rank_of n me) calls body)) (for_update_keeps update) (started_keeps (m.act (rank_of n me) calls body) (act_keeps body)) own t (m.leaving (stack_mark s) k) good (leaving_keeps (stack_mark s) k exits))

      act_part_keeps : (part : TypedPart) → KeepMeaning n me (m.act_part (rank_of n me) calls part)
      act_part_keeps (t.declare items) own s k good exits = declare_all_keeps items own s k.next good exits.next
      act_part_keeps (t.stmt one) own s k good exits = act_keeps one own s k good exits

      act_parts_keeps : (parts : TypedParts) → KeepMeaning n me (m.act_parts (rank_of n me) calls parts)
      act_parts_keeps t.no_part own s k good exits = exits.next own s good
      act_parts_keeps (t.part part parts) own s k good exits =
          let others : Onward = λ s. m.act_parts (rank_of n me) calls parts s k in
          started_keeps (m.act_part (rank_of n me) calls part) (act_part_keeps part) own s (record k { next = others }) good
          (record { next = λ own s good. act_parts_keeps parts own s k good exits; broke = exits.broke; again = exits.again; back = exits.back })

    exits_to_keep : (mark : StackMark) (go : ℤ → Onward) → ((v : ℤ) → KeepsOn n me (go v)) → KeepsExits n me (m.exits_to mark go)
    exits_to_keep mark go keep = record {
      next = λ own s good. keep (pos 0) own (leave mark s) (good_leave own mark s good);
      broke = λ own s good. keep (pos 0) own (leave mark s) (good_leave own mark s good);
      again = λ own s good. keep (pos 0) own (leave mark s) (good_leave own mark s good);
      back = λ v own s good. keep v own (leave mark s) (good_leave own mark s good);
    }

    run_function_keeps : (found : Option Function) (arguments : List Passed) (own : View) (s : State) (go : ℤ → Onward) → All IsPassable arguments → IsGoodState n me own s → ((v : ℤ) → KeepsOn n me (go v)) → KeepsLaws n me own s.printed (m.run_function (rank_of n me) calls found arguments s go)
    run_function_keeps None arguments own s go fit good keep = keeps_trapped n me own Depth s
    run_function_keeps (Some f) arguments own s go fit good keep =
        let inside : State = m.with_parameters f.parameters arguments (m.with_open_call s) in
        let runs : Course = m.act_parts (rank_of n me) calls f.body inside (m.exits_to (stack_mark s) go) in
        let keeps : KeepsLaws n me own inside.printed runs =
        act_parts_keeps f.body own inside (m.exits_to (stack_mark s) go) (good_parameters own f.parameters arguments (m.with_open_call s) fit (good_opened own s good)) (exits_to_keep (stack_mark s) go keep) in
        choose_keeps own (m.has_room (m.parameter_cells f.parameters) s) s.printed runs (trapped CellsFault s)
        (λ room. subst (λ printed. KeepsLaws n me own printed runs) (printed_parameters f.parameters arguments (m.with_open_call s)) keeps)
        (keeps_trapped n me own CellsFault s)

  -- ---- programs

  call_at_keeps : (functions : List Function) (depth : ℕ) → KeepCalls n me (m.call_at (rank_of n me) functions depth)
  call_at_keeps functions zero function arguments own s go fit good keep = keeps_trapped n me own Depth s
  call_at_keeps functions (suc depth) function arguments own s go fit good keep =
      run_function_keeps (m.call_at (rank_of n me) functions depth) (call_at_keeps functions depth) (slice_get functions function) arguments own s go fit good keep

  good_start : me < n → IsGoodState n me [] m.start
  good_start low = record {
    order = in_order_first n me low;
    starts = omega arith;
    known = λ comm. refl;
    slots = All-nil IsSlotInBounds;
  }

pub course_keeps : (program : Program) (n me : ℕ) → IsRankOf n me → KeepsLaws n me [] [] (m.course_of program (rank_of n me))
course_keeps program n me is =
    call_at_keeps n me program.functions 100 program.main (Number (pos 1) ∷ []) [] m.start (λ v s. ended s)
    (All-cons IsPassable (Number (pos 1)) [] tt (All-nil IsPassable)) (good_start n me is.2) (λ v own s good. keeps_ended n me own s)
