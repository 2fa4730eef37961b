-- The runs of the ranks beside a machine.
use Rattle.std.proofs.Common.{◌≡◌, ◌≢◌, ◌<◌, ◌==◌, ◌⊎◌, ◌∙◌, ◌++◌, ◌∷◌, Bool, List, None, Option, Some, if◌then◌else◌, [], ap, arith, false, get_or-set_other, get_or-set_same, inl, inr, length, length-set, set, subst, sym, true, ℕ}
use Rattle.std.proofs.lemmas.Bool.{eq-eqb, eqb-true}
use Rattle.std.proofs.lemmas.List.{map-append}
use Rattle.mpi_call.specs.declared.reply.Reply.{Reply}
use Rattle.run_model.specs.declared.event.Event.{Event}
use Rattle.run_model.specs.Program.{IsAfter, Standing}
use Rattle.run_model.specs.Views.{replies_in, view_of}
use Rattle.run_model.proofs.Views.{test_cases, view_of-mine, view_of-other}
use Rattle.mpi_machine.specs.Turns.{MachineState, answer_by}
use Rattle.mpi_machine.specs.declared.answer.Answer.{Answer}
use Rattle.mpi_machine.specs.declared.answer.Answer.TheVariants.{Replied}
use Rattle.srr_record.specs.Recordings.{AreRuns}
use Rattle.srr_record.specs.Rounds.{IsOnlyOf}

-- the reply of an answered attempt is the machine's
pub answered_with : (answered : Bool) (chosen reply : Reply) (turn : Answer) → turn ≡ answer_by answered chosen → turn ≡ Replied reply → chosen ≡ reply
answered_with true chosen reply turn h e = (let same : Replied chosen ≡ Replied reply = sym h ∙ e in cc)
answered_with false chosen reply turn h e = (let no = sym h ∙ e in absurd (cc))

-- the reply of a pick that was made is what was picked
pub picked_with : (offered : Bool) (made reply : Reply) (answer : Option Reply) → answer ≡ (if offered then Some made else None) → answer ≡ Some reply → made ≡ reply
picked_with true made reply answer h e = (let same : Some made ≡ Some reply = sym h ∙ e in cc)
picked_with false made reply answer h e = (let no : None ≡ Some reply = sym h ∙ e in absurd (cc))

-- a run that was asked and given the reply of its rank's next event
pub given : {P : Type 0} (program : P) (n rank : ℕ) (events : List Event) (event : Event) (reply : Reply) (before asked after : Standing P)
    → IsAfter program n rank events before → asked ≡ record before { asked = true }
    → after ≡ record asked { replies = asked.replies ++ reply ∷ []; asked = false } → event.rank ≡ rank → event.reply ≡ reply
    → IsAfter program n rank (events ++ event ∷ []) after
given program n rank events event reply before asked after is a g mine same =
    rw (g, a) (record {
      same_program = is.same_program;
      ranks = is.ranks;
      rank_is = is.rank_is;
      replies_are = rw (is.replies_are, view_of-mine events event rank mine, same) (sym (map-append _ (view_of events rank) _));
    })

pub only_of : (rank : ℕ) (events : List Event) (event : Event) → event.rank ≡ rank → IsOnlyOf rank events (events ++ event ∷ [])
only_of rank events event mine =
    record {
      others = λ other apart. elim (test_cases (event.rank == other)) [
        | inl h ↦ absurd (apart (sym (eqb-true event.rank other h) ∙ mine))
        | inr h ↦ view_of-other events event other h
      ];
    }

number_cases : (a b : ℕ) → (a ≡ b) ⊎ (a ≢ b)
number_cases a b = elim (test_cases (a == b)) [ inl h ↦ inl (eqb-true a b h) | inr h ↦ inr (λ e. let t : (a == b) ≡ true = eq-eqb a b e in cc) ]

-- the runs after one of them was tried
pub runs_set : {P R : Type 0} (standing : R → Standing P) (program : P) (n : ℕ) (before after : List Event) (runs : List R) (rank : ℕ) (run : R)
    → AreRuns standing program n before runs → rank < n → IsOnlyOf rank before after → IsAfter program n rank after (standing run)
    → AreRuns standing program n after (set runs rank run)
runs_set {P} {R} standing program n before after runs rank run all below only is =
    record {
      as_many = length-set runs rank run ∙ all.as_many;
      each = λ other d low. elim (number_cases other rank) [
        | inl same ↦
            let within : rank < length runs = omega (arith, all.as_many, below) in
            rw (same, get_or-set_same runs rank run d within) is
        | inr apart ↦
            let was = all.each other d low in
            rw (get_or-set_other runs rank other run d apart)
            (record {
              same_program = was.same_program;
              ranks = was.ranks;
              rank_is = was.rank_is;
              replies_are = was.replies_are ∙ sym (ap replies_in (only.others other apart));
            })
      ];
    }

-- the same beside a machine whose program and number of ranks are still the first one's
pub runs_more : {P R : Type 0} (standing : R → Standing P) (one two three : MachineState P) (runs : List R) (rank : ℕ) (run : R)
    → two.program ≡ one.program → two.ranks ≡ one.ranks → AreRuns standing one.program one.ranks two.events runs → rank < one.ranks
    → IsOnlyOf rank two.events three.events → IsAfter two.program two.ranks rank three.events (standing run)
    → AreRuns standing one.program one.ranks three.events (set runs rank run)
runs_more {P} standing one two three runs rank run p n all below only is =
    let F : P → Type 0 = λ program. IsAfter program two.ranks rank three.events (standing run) in
    let G : ℕ → Type 0 = λ ranks. IsAfter one.program ranks rank three.events (standing run) in
    runs_set standing one.program one.ranks two.events three.events runs rank run all below only (subst G n (subst F p is))

pub runs_same : {P R : Type 0} (standing : R → Standing P) (program program' : P) (n n' : ℕ) (events : List Event) (runs : List R)
    → program ≡ program' → n ≡ n' → AreRuns standing program n events runs → AreRuns standing program' n' events runs
runs_same {P} standing program program' n n' events runs p m are =
    let F : P → Type 0 = λ x. AreRuns standing x n events runs in
    let G : ℕ → Type 0 = λ x. AreRuns standing program' x events runs in
    subst G m (subst F p are)
