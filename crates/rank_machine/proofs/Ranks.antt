-- Ranks that use replies up.
use Rattle.std.proofs.Common.{◌≡◌, ◌≢◌, ◌∙◌, ◌+◌, ◌++◌, ◌≤◌, ℕ, zero, suc, pos, Bool, true, false, List, [], ◌∷◌, Option, Some, None, refl, sym, ap, subst, arith, drop, length, length-append, map, take}
use Rattle.mpi_call.specs.declared.call.Call.{Call}
use Rattle.mpi_call.specs.declared.reply.Reply.{Reply}
use Rattle.c_program.specs.declared.effect.Rank.{Rank}
use Rattle.c_program.specs.Performing.{Onward}
use Rattle.c_program.specs.State.{State}
use Rattle.c_program.specs.Tree.{Function, Program}
use Rattle.c_program.specs.View.{pure_function}
use Rattle.c_run_replies.specs.Questions.{reached}
use Rattle.c_run_replies.proofs.MoreReplies.{live-variables, shaped-more}
use Rattle.run_model.specs.Program.{MayGive, Says}
use Rattle.c_program.specs.Courses.{Course, after_replies, after_one_reply, call_in, ended, listed_of, state_in, variables_in}
use Rattle.c_program.specs.Meaning.{call_at, course_of, start}
use Rattle.c_program.specs.Program.{course_after, next_of}
use Rattle.c_run_replies.specs.declared.question.Reached.{Reached}
use Rattle.c_run_replies.specs.declared.question.Reached.TheVariants.{Done, Asks as AsksQuestion, Over as OverHere}
use Rattle.rank_machine.specs.declared.frame.Code.{Code}
use Rattle.rank_machine.specs.declared.going.Going.{Going}
use Rattle.rank_machine.specs.Frames.{IsAt, within}
use Rattle.rank_machine.specs.Goings.{HasCaughtUp, IsGoing, HasKnownWant, IsMachineAt, HasNoReplyLeft, IsWantAt, TellsKept}
use Rattle.run_model.specs.declared.program.Want.{Want}
use Rattle.c_program.specs.declared.state.Passed.TheVariants.{Number}

abbrev pub done_weight : Reached → ℕ
done_weight Done = 1
done_weight found = 0

-- ---- lists of replies

pub after-append : (course : Course) (before more : List Reply) → after_replies course (before ++ more) ≡ after_replies (after_replies course before) more
after-append course [] more = refl
after-append course (reply ∷ before) more = after-append (after_one_reply course reply) before more

take-drop : {A : Type 0} (n : ℕ) (xs : List A) → n ≤ length xs → take n xs ++ drop n xs ≡ xs
take-drop zero xs le = refl
take-drop (suc n) [] le = absurd (omega arith)
take-drop (suc n) (x ∷ xs) le = ap (λ ys. x ∷ ys) (take-drop n xs (omega arith))

pub take-more : {A : Type 0} (n : ℕ) (xs ys : List A) → n ≤ length xs → take n (xs ++ ys) ≡ take n xs
take-more zero xs ys le = refl
take-more (suc n) [] ys le = absurd (omega arith)
take-more (suc n) (x ∷ xs) ys le = ap (λ zs. x ∷ zs) (take-more n xs ys (omega arith))

-- behind those that are used, the others
pub after-all : (course : Course) (n : ℕ) (replies : List Reply) → n ≤ length replies → after_replies (after_replies course (take n replies)) (drop n replies) ≡ after_replies course replies
after-all course n replies le = sym (after-append course (take n replies) (drop n replies)) ∙ ap (after_replies course) (take-drop n replies le)

-- ---- replies that are given

going-more : (program : Program) (code : Code) (replies : List Reply) (reply : Reply) (g : Going) → IsGoing program code replies g → IsGoing program code (replies ++ reply ∷ []) g
going-more program code replies reply g is =
    let P : List Reply → Type 0 = λ rs. IsAt (after_replies (course_of program code.rank) rs) code g.found g.stack in
    record { used = let few : g.used ≤ length replies = is.used in let more : length (replies ++ reply ∷ []) ≡ length replies + 1 = length-append replies (reply ∷ []) in omega arith; at = subst P (sym (take-more g.used replies (reply ∷ []) is.used)) is.at }

pub machine-given : (program : Program) (code : Code) (replies : List Reply) (reply : Reply) (asked : Bool) (going : Option Going) → IsMachineAt program code replies asked going
    → MayGive (next_of program) code.rank.ranks code.rank.number replies reply → IsMachineAt program code (replies ++ reply ∷ []) false going
machine-given program code replies reply asked going is may = record {
  functions = is.functions;
  member = is.member;
  few = is.few;
  shaped = shaped-more program code.rank replies reply may;
  stands = λ g e. going-more program code replies reply g (is.stands g e);
  ready = λ asked. absurd (cc);
}

-- ---- where it stands once its next call was handed out

take-all : {A : Type 0} (xs : List A) → take (length xs) xs ≡ xs
take-all [] = refl
take-all (x ∷ xs) = ap (λ ys. x ∷ ys) (take-all xs)

pub reached-state : (rank : Rank) (found : Reached) (s : State) (go : Onward) → found ≢ Done → state_in (reached rank found s go) ≡ s
reached-state rank Done s go h = absurd (h refl)
reached-state rank (AsksQuestion question) s go h = refl
reached-state rank OverHere s go h = refl

ready-is : (program : Program) (code : Code) (replies : List Reply) (g : Going) → course_after program code.rank.ranks code.rank.number replies ≡ after_replies (course_of program code.rank) replies
    → IsGoing program code replies g → HasNoReplyLeft replies g
    → course_after program code.rank.ranks code.rank.number replies ≡ reached code.rank g.found g.stack.state (within code g.stack.frames.items).exits.next
ready-is program code replies g shaped going ready =
    shaped ∙ ap (after_replies (course_of program code.rank)) (sym (ap (λ n. take n replies) ready.used ∙ take-all replies)) ∙ going.at.is

same-going : (replies : List Reply) (g h : Going) → g ≡ h → HasNoReplyLeft replies g → HasNoReplyLeft replies h
same-going replies g h e r = subst (HasNoReplyLeft replies) e r

module _ (program : Program) (code : Code) (replies : List Reply) (asked : Bool) (going : Option Going) (g : Going) (is : IsMachineAt program code replies asked going) (a : asked ≡ true) (e : going ≡ Some g) where
  ready : HasNoReplyLeft replies g
  ready = let r = is.ready a in let same : r.0 ≡ g = cc in same-going replies r.0 g same r.2

  pub ready-course : course_after program code.rank.ranks code.rank.number replies ≡ reached code.rank g.found g.stack.state (within code g.stack.frames.items).exits.next
  ready-course = ready-is program code replies g is.shaped (is.stands g e) ready

  pub ready-state : state_in (course_after program code.rank.ranks code.rank.number replies) ≡ g.stack.state
  ready-state = ap state_in ready-course ∙ reached-state code.rank g.found g.stack.state _ ready.stops

  pub ready-variables : (call : Call) → call_in (course_after program code.rank.ranks code.rank.number replies) ≡ Some call
      → listed_of g.stack.state g.stack.state.slots ≡ variables_in (course_after program code.rank.ranks code.rank.number replies)
  ready-variables call live = sym (live-variables (course_after program code.rank.ranks code.rank.number replies) call live ∙ ap (λ (u : State). listed_of u u.slots) ready-state)

-- ---- what is wanted

pub going-caught-up : (program : Program) (code : Code) (replies : List Reply) (g h : Going) → IsGoing program code replies g → HasCaughtUp code replies g h → IsGoing program code replies h
going-caught-up program code replies g h is caught =
    let P : Course → Type 0 = λ c. IsAt c code h.found h.stack in
    let Q : List Reply → Type 0 = λ rs. IsAt (after_replies (course_of program code.rank) rs) code h.found h.stack in
    record {
      used = let all : h.used ≡ length replies = caught.ready.used in omega arith;
      at = subst Q (sym (ap (λ n. take n replies) caught.ready.used ∙ take-all replies)) (subst P (after-all (course_of program code.rank) g.used replies is.used) (caught.at (after_replies (course_of program code.rank) (take g.used replies)) is.at));
    }

pub going-begins : (program : Program) (code : Code) (replies : List Reply) (g : Going) → map pure_function code.functions.now ≡ program.functions → g.used ≡ 0
    → IsAt (call_at code.rank (map pure_function code.functions.now) 100 program.main (Number (pos 1) ∷ []) start (λ v s. ended s)) code g.found g.stack → IsGoing program code replies g
going-begins program code replies g e u at =
    let P : List Function → Type 0 = λ fs. IsAt (call_at code.rank fs 100 program.main (Number (pos 1) ∷ []) start (λ v s. ended s)) code g.found g.stack in
    record { used = omega arith; at = rw u (subst P e at) }

tells-says : (rank : Rank) (found : Reached) (s : State) (go : Onward) (want : Want) → IsWantAt found s want → Says want (call_in (reached rank found s go))
tells-says rank Done s go want h = absurd h
tells-says rank (AsksQuestion question) s go want h = rw h refl
tells-says rank OverHere s go want h = rw h refl

pub machine-ready : (program : Program) (code : Code) (replies : List Reply) (asked : Bool) (going : Option Going) (g : Going) → IsMachineAt program code replies asked going → IsGoing program code replies g → HasNoReplyLeft replies g
    → IsMachineAt program code replies true (Some g)
machine-ready program code replies asked going g is stands ready = record {
  functions = is.functions;
  member = is.member;
  few = is.few;
  shaped = is.shaped;
  stands = λ h e. let same : g ≡ h = cc in subst (IsGoing program code replies) same stands;
  ready = λ a. (g, refl, ready);
}

-- once the next call was handed out, something was kept
kept-stops : (going : Option Going) (g : Going) → going ≡ Some g → g.found ≢ Done → HasKnownWant going
kept-stops None g e stops = absurd (cc)
kept-stops (Some kept) g e stops = let same : g ≡ kept = cc in subst (λ (h : Going). h.found ≢ Done) same stops

pub machine-kept : (program : Program) (code : Code) (replies : List Reply) (asked : Bool) (going : Option Going) → IsMachineAt program code replies asked going → asked ≡ true → HasKnownWant going
machine-kept program code replies asked going is a = let ready = is.ready a in kept-stops going ready.0 ready.1 ready.2.stops

pub none-kept : (program : Program) (code : Code) (replies : List Reply) (asked : Bool) (going : Option Going) → IsMachineAt program code replies asked going → asked ≡ true → going ≡ None → ⊥
none-kept program code replies asked going is a e = let kept = machine-kept program code replies asked going is a in rw e at kept

pub machine-says : (program : Program) (code : Code) (replies : List Reply) (asked : Bool) (going : Option Going) (g : Going) (want : Want) → IsMachineAt program code replies asked going → IsGoing program code replies g → HasNoReplyLeft replies g
    → IsWantAt g.found g.stack.state want → Says want (next_of program code.rank.ranks code.rank.number replies)
machine-says program code replies asked going g want is stands ready tells =
    rw (ready-is program code replies g is.shaped stands ready) (tells-says code.rank g.found g.stack.state _ want tells)

pub asked-says : (program : Program) (code : Code) (replies : List Reply) (asked : Bool) (going : Option Going) (g : Going) (want : Want) → IsMachineAt program code replies asked going → asked ≡ true → going ≡ Some g
    → IsWantAt g.found g.stack.state want → Says want (next_of program code.rank.ranks code.rank.number replies)
asked-says program code replies asked going g want is a e tells = rw (ready-course program code replies asked going g is a e) (tells-says code.rank g.found g.stack.state _ want tells)

pub kept-says : (program : Program) (code : Code) (replies : List Reply) (asked : Bool) (going : Option Going) (want : Want) → IsMachineAt program code replies asked going → asked ≡ true
    → TellsKept going want → Says want (next_of program code.rank.ranks code.rank.number replies)
kept-says program code replies asked None want is a tells = absurd tells
kept-says program code replies asked (Some g) want is a tells = asked-says program code replies asked (Some g) g want is a refl tells
