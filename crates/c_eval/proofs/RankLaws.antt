use Rattle.std.proofs.Common.{◌≡◌, ◌∙◌, ◌++◌, ℕ, ℤ, Bool, true, false, List, [], ◌∷◌, Some, sym, ap, subst}
use Rattle.mpi_call.specs.declared.call.Call.{Call}
use Rattle.mpi_call.specs.declared.reply.Reply.{Reply}
use Rattle.run_model.specs.declared.program.Want.{Want}
use Rattle.run_model.specs.declared.program.Want.TheVariants.{Ask, Ended}
use Rattle.run_model.specs.Program.{MayGive, Says}
use Rattle.c_program.specs.declared.effect.Rank.{Rank}
use Rattle.c_program.specs.declared.state.Passed.{Passed}
use Rattle.c_program.specs.Courses.{Course, after_replies, call_in, listed_of, state_in, variables_in}
use Rattle.c_program.specs.Meaning.{call_at, course_of}
use Rattle.c_program.specs.Performing.{Onward}
use Rattle.c_program.specs.Program.{next_of, output_of, variables_of}
use Rattle.c_program.specs.State.{State}
use Rattle.c_program.specs.Tree.{Function, Program}
use Rattle.c_run_replies.proofs.MoreReplies.{live-variables, shaped-more}
use Rattle.c_eval.specs.Ranks.{IsRankAt, Wants}

-- ---- ranks

pub wants-state : (course : Course) (want : Want) (s : State) → Wants course want s → state_in course ≡ s
wants-state course (Ask call) s w = ap state_in w.is
wants-state course Ended s w = ap state_in w

pub wants-says : (course : Course) (want : Want) (s : State) → Wants course want s → Says want (call_in course)
wants-says course (Ask call) s w = ap call_in w.is
wants-says course Ended s w = ap call_in w

pub rank-wants : (program : Program) (rank : Rank) (replies : List Reply) (asked : Bool) (s t : State) (want : Want) → IsRankAt program rank replies asked s
    → Wants (after_replies (course_of program rank) replies) want t → IsRankAt program rank replies true t
rank-wants program rank replies asked s t want is w = record { member = is.member; few = is.few; shaped = is.shaped; stands = λ a. wants-state _ want t w }

pub rank-says : (program : Program) (rank : Rank) (replies : List Reply) (asked : Bool) (s t : State) (want : Want) → IsRankAt program rank replies asked s
    → Wants (after_replies (course_of program rank) replies) want t → Says want (next_of program rank.ranks rank.number replies)
rank-says program rank replies asked s t want is w = rw is.shaped (wants-says _ want t w)

pub rank-gives : (program : Program) (rank : Rank) (replies : List Reply) (reply : Reply) (asked : Bool) (s t : State) → IsRankAt program rank replies asked s
    → MayGive (next_of program) rank.ranks rank.number replies reply → IsRankAt program rank (replies ++ reply ∷ []) false t
rank-gives program rank replies reply asked s t is may =
    record {
      member = is.member;
      few = is.few;
      shaped = shaped-more program rank replies reply may;
      stands = λ asked. absurd (cc);
    }

pub rank-printed : (program : Program) (rank : Rank) (replies : List Reply) (asked : Bool) (s : State) → IsRankAt program rank replies asked s → asked ≡ true
    → s.printed ≡ output_of program rank.ranks rank.number replies
rank-printed program rank replies asked s is a = sym (ap (λ c. (state_in c).printed) is.shaped ∙ ap (λ (u : State). u.printed) (is.stands a))

pub rank-variables : (program : Program) (rank : Rank) (replies : List Reply) (asked : Bool) (s : State) (call : Call) → IsRankAt program rank replies asked s → asked ≡ true
    → next_of program rank.ranks rank.number replies ≡ Some call → listed_of s s.slots ≡ variables_of program rank.ranks rank.number replies
rank-variables program rank replies asked s call is a live =
    sym (ap variables_in is.shaped ∙ live-variables (after_replies (course_of program rank) replies) call (ap call_in (sym is.shaped) ∙ live) ∙ ap (λ (u : State). listed_of u u.slots) (is.stands a))

pub wants-from : (course course' : Course) (want : Want) (s : State) → course ≡ course' → Wants course' want s → Wants course want s
wants-from course course' want s e w = let P : Course → Type 0 = λ c. Wants c want s in subst P (sym e) w

pub moved : (rank : Rank) (fs fs' : List Function) (depth main : ℕ) (arguments : List Passed) (go : ℤ → Onward) (s s' t : State) (replies replies' : List Reply) (want : Want)
    → fs ≡ fs' → s ≡ s' → replies ≡ replies' → Wants (after_replies (call_at rank fs depth main arguments s go) replies) want t → Wants (after_replies (call_at rank fs' depth main arguments s' go) replies') want t
moved rank fs fs' depth main arguments go s s' t replies replies' want same_fs same_s same_replies w = rw (← same_fs, ← same_s, ← same_replies) w
