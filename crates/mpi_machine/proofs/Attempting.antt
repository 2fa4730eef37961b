-- What follows of an attempt's answer.
use Rattle.std.proofs.Common.{◌≡◌, ◌∙◌, ◌<◌, Bool, Some, ap, false, length, refl, subst, sym, true, ℕ}
use Rattle.mpi_call.specs.declared.call.Call.{Call}
use Rattle.mpi_call.specs.declared.reply.Reply.{Reply}
use Rattle.run_model.specs.Chosen.{chosen_reply}
use Rattle.run_model.specs.Run.{IsPromptRun}
use Rattle.run_model.specs.Program.{MayGive}
use Rattle.run_model.specs.Serial.{Stage, attempt, call_after}
use Rattle.run_model.specs.Views.{Next, replies_in, view_of}
use Rattle.run_model.proofs.RunLaws.{Lawful}
use Rattle.mpi_machine.specs.declared.answer.Answer.{Answer}
use Rattle.mpi_machine.specs.declared.answer.Answer.TheVariants.{Replied, Wait}
use Rattle.mpi_machine.specs.Turns.{MachineState, IsAtStage, after_answer, is_answered, answer_by, attempt_answer}
use Rattle.mpi_machine.proofs.Growing.{may_give}
use Rattle.mpi_machine.proofs.Serially.{stands_on}

replied_by : (b : Bool) (made reply : Reply) → answer_by b made ≡ Replied reply → made ≡ reply
replied_by true made reply h = cc
replied_by false made reply h = absurd (cc)

-- no attempt changes the program
pub same_program : {P : Type 0} (machine : MachineState P) (rank : ℕ) (call : Call) (turn : Answer) → (after_answer machine rank call turn).program ≡ machine.program
same_program machine rank call (Replied reply) = refl
same_program machine rank call Wait = refl

pub given : {P : Type 0} (next : Next) (machine later : MachineState P) (rank : ℕ) (call : Call) (turn : Answer) (reply : Reply)
    → Lawful next → IsPromptRun next machine.ranks machine.events → IsPromptRun next later.ranks later.events
    → turn ≡ attempt_answer next machine.ranks machine.events machine.kept rank call → later ≡ after_answer machine rank call turn → turn ≡ Replied reply
    → MayGive next machine.ranks rank (replies_in (view_of machine.events rank)) reply
given {P} next machine later rank call turn reply lawful run run_later is after replied =
    let made : Reply = chosen_reply machine.ranks machine.events rank call in
    let same : made ≡ reply = replied_by (is_answered next machine.ranks machine.events machine.kept rank call) made reply (sym is ∙ replied) in
    let F : MachineState P → Type 0 = λ m. IsPromptRun next m.ranks m.events in
    let longer : F (after_answer machine rank call (Replied reply)) = subst F (after ∙ ap (λ t. after_answer machine rank call t) replied) run_later in
    let G : Reply → Type 0 = λ r. MayGive next machine.ranks rank (replies_in (view_of machine.events rank)) r in
    subst G same (may_give next machine.ranks machine.events rank call lawful run longer)

pub goes_on_serially : {P : Type 0} (next : Next) (machine later : MachineState P) (rank : ℕ) (call : Call) (turn : Answer) (stage : Stage)
    → length machine.kept ≡ machine.ranks → rank < machine.ranks → call_after next machine.ranks machine.events rank ≡ Some call
    → turn ≡ attempt_answer next machine.ranks machine.events machine.kept rank call → later ≡ after_answer machine rank call turn
    → IsAtStage machine stage → IsAtStage later (attempt next machine.ranks stage rank)
goes_on_serially {P} next machine later rank call turn stage many below asked is after stands =
    let F : MachineState P → Type 0 = λ m. IsAtStage m (attempt next machine.ranks stage rank) in
    subst F (sym (after ∙ ap (λ t. after_answer machine rank call t) is))
    (stands_on machine.program next machine.ranks machine.events machine.kept rank call stage many below asked stands)
