-- What more replies make of a course.
use Rattle.std.proofs.Common.{◌≡◌, ◌∙◌, ◌++◌, ℕ, List, [], ◌∷◌, Some, refl, ap, subst}
use Rattle.std.proofs.lemmas.List.{map-append}
use Rattle.mpi_call.specs.declared.call.Call.{Call}
use Rattle.mpi_call.specs.declared.reply.Reply.{Reply}
use Rattle.run_model.specs.Program.{IsNextSeen, IsViewOf, MayGive}
use Rattle.run_model.specs.Views.{replies_in}
use Rattle.run_model.proofs.Along.{Along-snoc}
use Rattle.c_program.specs.declared.effect.Rank.{Rank}
use Rattle.c_program.specs.Courses.{Course, Asks, Over, after_replies, after_one_reply, call_in, listed_of, state_in, variables_in}
use Rattle.c_program.specs.Meaning.{course_of}
use Rattle.c_program.specs.Program.{course_after, next_of, rank_of}
use Rattle.c_program.specs.laws.ProgramLaws.{after_in_shape}
use Rattle.c_program.specs.State.{State}
use Rattle.c_program.specs.Tree.{Program}

-- a rank that has ended
pub after-over : (course : Course) (s : State) (rest : List Reply) → course ≡ Over s → after_replies course rest ≡ Over s
after-over course s [] e = e
after-over course s (reply ∷ rest) e = after-over (after_one_reply course reply) s rest (ap (λ c. after_one_reply c reply) e)

-- a reply that may be given need not be tested again
pub shaped-more : (program : Program) (rank : Rank) (replies : List Reply) (reply : Reply) → MayGive (next_of program) rank.ranks rank.number replies reply
    → course_after program rank.ranks rank.number (replies ++ reply ∷ []) ≡ after_replies (course_of program rank) (replies ++ reply ∷ [])
shaped-more program rank replies reply may =
    let n : ℕ = rank.ranks in
    let me : ℕ = rank.number in
    let seen : IsNextSeen (next_of program) n me may.view (may.call, reply) = record { asked = ap (next_of program n me) may.replies_are ∙ may.asked; shaped = may.shaped } in
    let along : IsViewOf (next_of program) n me (may.view ++ (may.call, reply) ∷ []) = Along-snoc (IsNextSeen (next_of program) n me) [] may.view (may.call, reply) may.came seen in
    let same : replies_in (may.view ++ (may.call, reply) ∷ []) ≡ replies ++ reply ∷ [] = map-append _ may.view ((may.call, reply) ∷ []) ∙ ap (λ rs. rs ++ reply ∷ []) may.replies_are in
    let P : List Reply → Type 0 = λ rs. course_after program n me rs ≡ after_replies (course_of program (rank_of n me)) rs in
    subst P same (after_in_shape program n me (may.view ++ (may.call, reply) ∷ []) along)

-- what variables hold where a call is next
pub live-variables : (course : Course) (call : Call) → call_in course ≡ Some call → variables_in course ≡ listed_of (state_in course) (state_in course).slots
live-variables (Asks s asked go) call is = refl
live-variables (Over s) call is = absurd (cc)
