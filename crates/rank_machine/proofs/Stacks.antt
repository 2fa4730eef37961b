-- Places that are opened and taken.
use Rattle.std.proofs.Common.{◌≡◌, ◌≢◌, ◌∙◌, ◌+◌, ◌-◌, ◌<◌, ◌≤◌, ◌++◌, ℕ, ℤ, suc, true, List, [], ◌∷◌, Option, Some, None, Result, Ok, refl, sym, ap, subst, arith, length, slice_get, take, drop, get_or, map, option_copied, option_map}
use Rattle.std.proofs.lemmas.List.{length-drop}
use Rattle.c_program.specs.declared.statement.TypedInitDeclarator.{TypedInitDeclarator}
use Rattle.std.specs.Borrow.{Bor}
use Rattle.c_program.specs.declared.program.Function.{Function}
use Rattle.c_program.specs.declared.state.StackMark.{StackMark}
use Rattle.c_program.specs.declared.state.Passed.{Passed}
use Rattle.c_program.specs.declared.statement.TypedPart.{TypedPart}
use Rattle.c_program.specs.Courses.{Course}
use Rattle.c_program.specs.Meaning.{Exits, Meaning, Passing, act, act_parts, act_part, call_at, declare_all, exits_to, for_update, invoke, started, step, test, turn_exits, loop_turns}
use Rattle.c_program.specs.Performing.{Onward}
use Rattle.c_program.specs.State.{State, stack_mark, put}
use Rattle.c_program.specs.Tree.{TypedExpr, FunctionCall}
use Rattle.c_program.specs.Tree as pure
use Rattle.c_program.specs.View.{pure_expr, pure_function, pure_item, pure_part, pure_parts, pure_simple, pure_stmt}
use Rattle.c_run_cells.specs.Comes.{FailsToEvaluate, Leads}
use Rattle.c_run_cells.specs.Parts.{entered}
use Rattle.c_run_cells.proofs.PartLaws.{entering}
use Rattle.c_run_cells.specs.declared.fail.Fail.{Fail}
use Rattle.c_run_replies.specs.Questions.{reached}
use Rattle.c_run_replies.specs.declared.question.Reached.{Reached}
use Rattle.c_run_replies.specs.declared.question.Reached.TheVariants.{Done}
use Rattle.rank_machine.specs.declared.frame.Called.{Called as CalledHere}
use Rattle.rank_machine.specs.declared.frame.Code.{Code}
use Rattle.rank_machine.specs.declared.frame.ContinuationFrame.{ContinuationFrame}
use Rattle.rank_machine.specs.declared.frame.ContinuationFrame.TheVariants.{One, Rest, Items, Block, Repeat, Turn, Called}
use Rattle.rank_machine.specs.declared.frame.Loop.{Loop as LoopHere}
use Rattle.rank_machine.specs.declared.frame.Target.{Target}
use Rattle.rank_machine.specs.declared.frame.Target.TheVariants.{Cell}
use Rattle.c_program.specs.declared.statement.TypedSimple.{TypedSimple}
use Rattle.rank_machine.specs.declared.stack.Stack.{Stack}
use Rattle.rank_machine.specs.Frames.{IsAt, Open, HasComeTo, calls_in, given_to, open_inside, inside_all, looping, outermost, turns_at, within}

inside_all-append : (code : Code) (o : Open) (xs : List ContinuationFrame) (f : ContinuationFrame) → inside_all code (xs ++ f ∷ []) o ≡ open_inside code f (inside_all code xs o)
inside_all-append code o [] f = refl
inside_all-append code o (x ∷ xs) f = inside_all-append code (open_inside code x o) xs f

-- one place more
pub pushed : (code : Code) (xs ys : List ContinuationFrame) (f : ContinuationFrame) → ys ≡ xs ++ f ∷ [] → within code ys ≡ open_inside code f (within code xs)
pushed code xs ys f e = ap (within code) e ∙ inside_all-append code outermost xs f

-- two and three
pub pushed-two : (code : Code) (xs ys zs : List ContinuationFrame) (f g : ContinuationFrame) → ys ≡ xs ++ f ∷ [] → zs ≡ ys ++ g ∷ [] → within code zs ≡ open_inside code g (open_inside code f (within code xs))
pushed-two code xs ys zs f g e e' = pushed code ys zs g e' ∙ ap (open_inside code g) (pushed code xs ys f e)

pub pushed-three : (code : Code) (xs ys zs ws : List ContinuationFrame) (f g h : ContinuationFrame) → ys ≡ xs ++ f ∷ [] → zs ≡ ys ++ g ∷ [] → ws ≡ zs ++ h ∷ [] → within code ws ≡ open_inside code h (open_inside code g (open_inside code f (within code xs)))
pushed-three code xs ys zs ws f g h e e' e'' = pushed code zs ws h e'' ∙ ap (open_inside code h) (pushed-two code xs ys zs f g e e')

-- where the open places are known
pub at-is : (course : Course) (code : Code) (found : Reached) (stack : Stack) (o : Open) → within code stack.frames.items ≡ o
    → course ≡ reached code.rank found stack.state o.exits.next → stack.opens ≡ o.opens → IsAt course code found stack
at-is course code found stack o p is n = record {
  is = is ∙ sym (ap (λ (o : Open). reached code.rank found stack.state o.exits.next) p);
  counted = n ∙ sym (ap (λ (o : Open). o.opens) p);
}

pub stands-from : (course course' : Course) (code : Code) (result : Result Reached Fail) (stack : Stack) → course ≡ course' → HasComeTo course' code result stack → HasComeTo course code result stack
stands-from course course' code result stack e h = let P : Course → Type 0 = λ c. HasComeTo c code result stack in subst P (sym e) h

pub fails-from : (course course' : Course) (fail : Fail) (t : State) → course ≡ course' → FailsToEvaluate course' fail t → FailsToEvaluate course fail t
fails-from course course' fail t e h = let P : Course → Type 0 = λ c. FailsToEvaluate c fail t in subst P (sym e) h

-- ---- calls

module _ (code : Code) (opens number : ℕ) (f : Function) (arguments : List Passed) (s : State) (few : opens < 100) (found : slice_get code.functions.now number ≡ Some f) where
  -- what stands behind the entry
  abbrev pub body_of : (ℤ → Onward) → Onward
  body_of go t = act_parts code.rank (call_at code.rank (map pure_function code.functions.now) (100 - opens - 1)) (pure_parts f.body.items) t (exits_to (stack_mark s) go)

  pub entry : (go : ℤ → Onward) → calls_in code opens number arguments s go ≡ entered (pure_function f) arguments s (body_of go)
  entry go = entering code.rank code.functions.now (100 - opens) number f arguments s go (omega arith) found

  pub call-opens : (xs ys : List ContinuationFrame) (target : Target) (body : Bor (List TypedPart)) (stack : Stack) → Leads {K = Onward} {A = Unit {0}} (λ go done. go) (entered (pure_function f) arguments) s (tt {0}) stack.state
      → body.now ≡ f.body.items → ys ≡ xs ++ Called (record { mark = stack_mark s; target = target }) ∷ [] → stack.frames.items ≡ ys ++ Rest body ∷ []
      → opens ≡ (within code xs).opens → stack.opens ≡ opens + 1 → IsAt (calls_in code opens number arguments s (given_to target (within code xs).exits)) code Done stack
  call-opens xs ys target body stack leads b e e' o n =
      let less : 100 - opens - 1 ≡ 100 - suc opens = omega arith in
      at-is _ code Done stack _ (pushed-two code xs ys stack.frames.items _ (Rest body) e e')
      (entry (given_to target (within code xs).exits) ∙ leads.at (body_of (given_to target (within code xs).exits)) ∙ rw (b, less, ← o) refl)
      (rw (← o) (omega arith))

-- ---- places that ways out pass by

pub opens-pass : (code : Code) (xs ys : List ContinuationFrame) (f : ContinuationFrame) → ys ≡ xs ++ f ∷ [] → ((called : CalledHere) → f ≢ Called called) → (within code ys).opens ≡ (within code xs).opens
opens-pass code xs ys (One stmt) e h = ap (λ (o : Open). o.opens) (pushed code xs ys (One stmt) e)
opens-pass code xs ys (Rest parts) e h = ap (λ (o : Open). o.opens) (pushed code xs ys (Rest parts) e)
opens-pass code xs ys (Items items) e h = ap (λ (o : Open). o.opens) (pushed code xs ys (Items items) e)
opens-pass code xs ys (Block mark) e h = ap (λ (o : Open). o.opens) (pushed code xs ys (Block mark) e)
opens-pass code xs ys (Repeat around) e h = ap (λ (o : Open). o.opens) (pushed code xs ys (Repeat around) e)
opens-pass code xs ys (Turn update) e h = ap (λ (o : Open). o.opens) (pushed code xs ys (Turn update) e)
opens-pass code xs ys (Called called) e h = absurd (h called refl)

pub back-passes : (code : Code) (xs ys : List ContinuationFrame) (f : ContinuationFrame) → ys ≡ xs ++ f ∷ [] → ((called : CalledHere) → f ≢ Called called) → ((mark : StackMark) → f ≢ Block mark) → (v : ℤ) (s : State)
    → (within code ys).exits.back v s ≡ (within code xs).exits.back v s
back-passes code xs ys (One stmt) e h h' v s = ap (λ (o : Open). o.exits.back v s) (pushed code xs ys (One stmt) e)
back-passes code xs ys (Rest parts) e h h' v s = ap (λ (o : Open). o.exits.back v s) (pushed code xs ys (Rest parts) e)
back-passes code xs ys (Items items) e h h' v s = ap (λ (o : Open). o.exits.back v s) (pushed code xs ys (Items items) e)
back-passes code xs ys (Block mark) e h h' v s = absurd (h' mark refl)
back-passes code xs ys (Repeat around) e h h' v s = ap (λ (o : Open). o.exits.back v s) (pushed code xs ys (Repeat around) e)
back-passes code xs ys (Turn update) e h h' v s = ap (λ (o : Open). o.exits.back v s) (pushed code xs ys (Turn update) e)
back-passes code xs ys (Called called) e h h' v s = absurd (h called refl)

pub broke-passes : (code : Code) (xs ys : List ContinuationFrame) (f : ContinuationFrame) → ys ≡ xs ++ f ∷ [] → ((called : CalledHere) → f ≢ Called called) → ((mark : StackMark) → f ≢ Block mark) → ((around : LoopHere) → f ≢ Repeat around) → (s : State)
    → (within code ys).exits.broke s ≡ (within code xs).exits.broke s
broke-passes code xs ys (One stmt) e h h' h'' s = ap (λ (o : Open). o.exits.broke s) (pushed code xs ys (One stmt) e)
broke-passes code xs ys (Rest parts) e h h' h'' s = ap (λ (o : Open). o.exits.broke s) (pushed code xs ys (Rest parts) e)
broke-passes code xs ys (Items items) e h h' h'' s = ap (λ (o : Open). o.exits.broke s) (pushed code xs ys (Items items) e)
broke-passes code xs ys (Block mark) e h h' h'' s = absurd (h' mark refl)
broke-passes code xs ys (Repeat around) e h h' h'' s = absurd (h'' around refl)
broke-passes code xs ys (Turn update) e h h' h'' s = ap (λ (o : Open). o.exits.broke s) (pushed code xs ys (Turn update) e)
broke-passes code xs ys (Called called) e h h' h'' s = absurd (h called refl)

pub again-passes : (code : Code) (xs ys : List ContinuationFrame) (f : ContinuationFrame) → ys ≡ xs ++ f ∷ [] → ((called : CalledHere) → f ≢ Called called) → ((mark : StackMark) → f ≢ Block mark) → ((update : Option (Bor TypedSimple)) → f ≢ Turn update) → (s : State)
    → (within code ys).exits.again s ≡ (within code xs).exits.again s
again-passes code xs ys (One stmt) e h h' h'' s = ap (λ (o : Open). o.exits.again s) (pushed code xs ys (One stmt) e)
again-passes code xs ys (Rest parts) e h h' h'' s = ap (λ (o : Open). o.exits.again s) (pushed code xs ys (Rest parts) e)
again-passes code xs ys (Items items) e h h' h'' s = ap (λ (o : Open). o.exits.again s) (pushed code xs ys (Items items) e)
again-passes code xs ys (Block mark) e h h' h'' s = absurd (h' mark refl)
again-passes code xs ys (Repeat around) e h h' h'' s = ap (λ (o : Open). o.exits.again s) (pushed code xs ys (Repeat around) e)
again-passes code xs ys (Turn update) e h h' h'' s = absurd (h'' update refl)
again-passes code xs ys (Called called) e h h' h'' s = absurd (h called refl)

-- ---- turns

module _ (n m : ℕ) (e : Option TypedExpr) (update : Passing) (body : Meaning) (s : State) (k : Exits) where
  pub turn-enters : n ≡ suc m → test e s ≡ Ok true → loop_turns n e update body s k ≡ step s (λ s. body s (turn_exits update (λ s. loop_turns m e update body s k) k))
  turn-enters e' is = rw (e', is) refl

-- ---- first parts

pub no-items : {A : Type 0} (xs : List A) → length xs < 1 → xs ≡ []
no-items [] h = refl
no-items (x ∷ xs) h = absurd (omega arith)

take-length : {A : Type 0} (xs : List A) → take (length xs) xs ≡ xs
take-length [] = refl
take-length (x ∷ xs) = ap (λ ys. x ∷ ys) (take-length xs)

pub first-part : {A : Type 0} (xs : List A) (x : A) → 1 ≤ length xs → x ≡ get_or xs 0 x → xs ≡ x ∷ take (length xs - 1) (drop 1 xs)
first-part [] x h e = absurd (omega arith)
first-part (y ∷ ys) x h e = let k : length (y ∷ ys) - 1 ≡ length ys = omega arith in rw (k, take-length ys) (ap (λ z. z ∷ ys) (sym e))

-- the elements from one on, as a slice gives them
pub take-rest : {A : Type 0} (n : ℕ) (xs : List A) → take (length xs - n) (drop n xs) ≡ drop n xs
take-rest n xs = rw (← length-drop n xs) (take-length (drop n xs))

-- a turn that is taken
pub repeats : (code : Code) (around next : LoopHere) (o : Open) (opens m : ℕ) (s t : State) → opens ≡ o.opens → turns_at around.turns s ≡ suc m → test (option_map pure_expr (option_copied around.test)) s ≡ Ok true
    → next ≡ record { test = around.test; update = around.update; body = around.body; turns = Some m } → Leads {K = Onward} {A = Unit {0}} (λ go done. go) step s (tt {0}) t
    → looping code opens around s o.exits ≡ (open_inside code (One around.body) (open_inside code (Turn around.update) (open_inside code (Repeat next) o))).exits.next t
repeats code around next o opens m s t counted enough is e leads =
    let update = for_update code.rank (calls_in code opens) (option_map pure_simple (option_copied around.update)) in
    let body = started (act code.rank (calls_in code opens) (pure_stmt around.body.now)) in
    turn-enters (turns_at around.turns s) m (option_map pure_expr (option_copied around.test)) update body s o.exits enough is
    ∙ leads.at (λ (s : State). body s (turn_exits update (λ s. loop_turns m (option_map pure_expr (option_copied around.test)) update body s o.exits) o.exits))
    ∙ rw (e, ← counted) refl

-- a part that is taken from the innermost block
pub rest-goes : (code : Code) (xs ys zs : List ContinuationFrame) (parts rest : Bor (List TypedPart)) (first : TypedPart) (s : State) (opens : ℕ) (result : Result Reached Fail) (stack : Stack)
    → ys ≡ xs ++ Rest parts ∷ [] → parts.now ≡ first ∷ rest.now → zs ≡ xs ++ Rest rest ∷ [] → opens ≡ (within code ys).opens
    → HasComeTo (started (act_part code.rank (calls_in code opens) (pure_part first)) s (within code zs).exits) code result stack → HasComeTo ((within code ys).exits.next s) code result stack
rest-goes code xs ys zs parts rest first s opens result stack e n e' o h =
    let p = pushed code xs ys (Rest parts) e in
    let q = pushed code xs zs (Rest rest) e' in
    let o' : opens ≡ (within code xs).opens = o ∙ ap (λ (o : Open). o.opens) p in
    stands-from _ _ _ _ _ (ap (λ (o : Open). o.exits.next s) p ∙ rw n refl) (rw (q, o') at h)

-- a call whose value a variable begins with
pub item-calls : (code : Code) (xs ys zs : List ContinuationFrame) (opens opens' cell : ℕ) (call : FunctionCall) (rest : Bor (List TypedInitDeclarator)) (others : List pure.TypedInitDeclarator) (t : State) (result : Result Reached Fail) (stack : Stack) (course : Course)
    → ys ≡ xs → zs ≡ ys ++ Items rest ∷ [] → opens' ≡ opens → opens ≡ (within code xs).opens → map pure_item rest.now ≡ others
    → course ≡ invoke (calls_in code opens) call t (λ v s. declare_all (calls_in code opens) others (put cell v s) (within code xs).exits.next)
    → HasComeTo (invoke (calls_in code opens') call t (given_to (Cell None cell) (within code zs).exits)) code result stack → HasComeTo course code result stack
item-calls code xs ys zs opens opens' cell call rest others t result stack course ey ez eo o er ec h =
    let h' = rw (pushed code ys zs (Items rest) ez, ey, eo) at h in
    stands-from _ _ code result stack (ec ∙ rw (o, ← er) refl) (rw o at h')
