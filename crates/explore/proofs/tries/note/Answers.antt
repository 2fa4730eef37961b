use Rattle.std.proofs.Common.{◌≡◌, ◌∙◌, ◌++◌, ◌∷◌, ℕ, List, [], None, Some, ap, inl, sym, subst}
use Rattle.run_model.specs.declared.event.Event.{Event}
use Rattle.run_model.specs.Run.{IsPromptRun}
use Rattle.run_model.specs.Views.{Next}
use Rattle.picked_runs.specs.declared.turn.Turn.{Turn}
use Rattle.explore.specs.Explored.{events_of_turns}
use Rattle.mpi_call.specs.declared.call.Halt.TheVariants.{Stuck}
use Rattle.run_model.specs.Due.{halted}
use Rattle.explore.specs.Searching.{IsAtEnd, IsOutcomeListed, IsSearchStep, IsStepFollowed, IsUnder}
use Rattle.picked_runs.specs.Turns.{IsPickOf}
use Rattle.srr_entry.specs.Outputs.{Output}
use Rattle.explore.proofs.Begun.{run_of}
use Rattle.explore.proofs.Offering.{pick_within}
use Rattle.explore.proofs.Tried.{halt_end, halt_listed, halt_state, halt_under, next_step, stuck_end, stuck_listed, tried_end, tried_state}
use Rattle.explore.proofs.Trying.{on_ok_map}
use Rattle.explore.proofs.tries.note.Goals as goal

pub note_state-requires-clause-step : goal.note_state-requires-clause-step
note_state-requires-clause-step g c =
    let next : Next = g.P.Program.next c.args.setting.now.program.now in
    let output : Output = g.P.Program.output c.args.setting.now.program.now in
    let n : ℕ = c.args.setting.now.ranks in
    let root : List Event = events_of_turns next n c.args.setting.now.under.now in
    let machine = c.args.course.now.machine in
    let turns : List Turn = c.args.turns.now in
    let run : IsPromptRun next n machine.events = run_of g.P.Program.next machine.program c.args.setting.now.program.now machine.ranks n machine.events c.requires.program c.requires.ranks c.history-history.ensures.run in
    let pick : IsPickOf n c.args.turn.pick =
    pick_within next n (events_of_turns next n turns) c.args.turn.rank c.requires.made.call c.args.turn.pick
    (record { ends = g.P.Program.ends_exactly c.args.setting.now.program.now; enters = g.P.Program.enters_in_form c.args.setting.now.program.now })
    (g.P.Program.asks_in_bounds c.args.setting.now.program.now) c.requires.state.under.run c.requires.rank c.requires.made.asked c.requires.made.answered.offered in
    let none : halted machine.events ≡ None = sym c.halt.ensures ∙ c.in-None.is in
    let F : List Turn → List Event → Type 0 = λ l events. IsSearchStep next n root l events in
    subst (λ l. F l c.history-history.result.now.events) (sym c.in_ok-more-in-None.ensures)
    (subst (λ events. F (turns ++ c.args.turn ∷ []) events) (sym c.history-history.ensures.events)
    (next_step next n root turns machine.events c.args.turn c.requires.state c.requires.rank pick run c.requires.made none))

pub returns-in_ok-more-in-None-clause-tried : goal.returns-in_ok-more-in-None-clause-tried
returns-in_ok-more-in-None-clause-tried g c =
    let next : Next = g.P.Program.next c.args.setting.now.program.now in
    let output : Output = g.P.Program.output c.args.setting.now.program.now in
    let n : ℕ = c.args.setting.now.ranks in
    let root : List Event = events_of_turns next n c.args.setting.now.under.now in
    let machine = c.args.course.now.machine in
    let turns : List Turn = c.args.turns.now in
    let run : IsPromptRun next n machine.events = run_of g.P.Program.next machine.program c.args.setting.now.program.now machine.ranks n machine.events c.requires.program c.requires.ranks c.history-history.ensures.run in
    let none : halted machine.events ≡ None = sym c.halt.ensures ∙ c.in-None.is in
    let F : List Event → Type 0 = λ events. IsStepFollowed next n c.args.bounds.polls c.note_state.new.met events in
    on_ok_map _ _ c.note_state.result (λ followed. tried_state next output n c.args.bounds.polls root turns machine.events c.args.turn c.note_state.new.met c.requires.state run c.requires.made none
    (subst F c.history-history.ensures.events followed)) c.note_state.ensures.followed

pub note_end-requires-clause-turns : goal.note_end-requires-clause-turns
note_end-requires-clause-turns g c =
    let next : Next = g.P.Program.next c.args.setting.now.program.now in
    let output : Output = g.P.Program.output c.args.setting.now.program.now in
    let n : ℕ = c.args.setting.now.ranks in
    let root : List Event = events_of_turns next n c.args.setting.now.under.now in
    let F : List Turn → Type 0 = λ l. IsUnder next n root l in
    subst F (sym c.in_ok-same-in-Stuck.ensures) c.requires.state.under

pub note_end-requires-clause-end : goal.note_end-requires-clause-end
note_end-requires-clause-end g c =
    let next : Next = g.P.Program.next c.args.setting.now.program.now in
    let output : Output = g.P.Program.output c.args.setting.now.program.now in
    let n : ℕ = c.args.setting.now.ranks in
    let root : List Event = events_of_turns next n c.args.setting.now.under.now in
    let machine = c.args.course.now.machine in
    let turns : List Turn = c.args.turns.now in
    let run : IsPromptRun next n machine.events = run_of g.P.Program.next machine.program c.args.setting.now.program.now machine.ranks n machine.events c.requires.program c.requires.ranks c.history-history.ensures.run in
    let there : halted machine.events ≡ Some Stuck = sym c.halt.ensures ∙ (c.in-Some.is ∙ ap (λ h. Some h) c.in-Stuck.is) in
    let F : List Turn → Type 0 = λ l. IsAtEnd next n (events_of_turns next n l) in
    subst F (sym c.in_ok-same-in-Stuck.ensures) (inl (stuck_end next n root turns machine.events c.args.turn c.requires.state run c.requires.made there))

pub returns-in_ok-same-in-Stuck-clause-tried : goal.returns-in_ok-same-in-Stuck-clause-tried
returns-in_ok-same-in-Stuck-clause-tried g c =
    let next : Next = g.P.Program.next c.args.setting.now.program.now in
    let output : Output = g.P.Program.output c.args.setting.now.program.now in
    let n : ℕ = c.args.setting.now.ranks in
    let root : List Event = events_of_turns next n c.args.setting.now.under.now in
    let machine = c.args.course.now.machine in
    let turns : List Turn = c.args.turns.now in
    let run : IsPromptRun next n machine.events = run_of g.P.Program.next machine.program c.args.setting.now.program.now machine.ranks n machine.events c.requires.program c.requires.ranks c.history-history.ensures.run in
    let there : halted machine.events ≡ Some Stuck = sym c.halt.ensures ∙ (c.in-Some.is ∙ ap (λ h. Some h) c.in-Stuck.is) in
    let stuck = stuck_end next n root turns machine.events c.args.turn c.requires.state run c.requires.made there in
    let F : List Turn → Type 0 = λ l. IsOutcomeListed next output n l c.note_end.new.met.found in
    on_ok_map _ _ c.note_end.result (λ noted. tried_end next output n c.args.bounds.polls root turns machine.events c.args.turn c.note_end.new.met Stuck c.requires.state run c.requires.made there
    (stuck_listed next output n root turns c.args.turn.rank c.requires.made.call c.note_end.new.met.found c.halts_decide_outcomes.ensures c.requires.state c.requires.rank c.requires.made.asked stuck
    (subst F c.in_ok-same-in-Stuck.ensures noted))) c.note_end.ensures.noted

pub note_end-requires-in_default : goal.note_end-requires-in_default
note_end-requires-in_default g c =
    let next : Next = g.P.Program.next c.args.setting.now.program.now in
    let output : Output = g.P.Program.output c.args.setting.now.program.now in
    let n : ℕ = c.args.setting.now.ranks in
    let root : List Event = events_of_turns next n c.args.setting.now.under.now in
    let machine = c.args.course.now.machine in
    let turns : List Turn = c.args.turns.now in
    let run : IsPromptRun next n machine.events = run_of g.P.Program.next machine.program c.args.setting.now.program.now machine.ranks n machine.events c.requires.program c.requires.ranks c.history-history.ensures.run in
    let pick : IsPickOf n c.args.turn.pick =
    pick_within next n (events_of_turns next n turns) c.args.turn.rank c.requires.made.call c.args.turn.pick
    (record { ends = g.P.Program.ends_exactly c.args.setting.now.program.now; enters = g.P.Program.enters_in_form c.args.setting.now.program.now })
    (g.P.Program.asks_in_bounds c.args.setting.now.program.now) c.requires.state.under.run c.requires.rank c.requires.made.asked c.requires.made.answered.offered in
    let there : halted machine.events ≡ Some c.in-Some.halt = sym c.halt.ensures ∙ c.in-Some.is in
    let other : c.in-Some.halt ≡ Stuck → ⊥ = c.in_default.not-Stuck in
    let U : List Turn → Type 0 = λ l. IsUnder next n root l in
    let A : List Turn → Type 0 = λ l. IsAtEnd next n (events_of_turns next n l) in
    record {
      setting = c.requires.setting;
      met = c.requires.met;
      turns = subst U (sym c.in_ok-more-in_default.ensures) (halt_state next n root turns machine.events c.args.turn c.in-Some.halt c.requires.state c.requires.rank pick run c.requires.made there other);
      end = subst A (sym c.in_ok-more-in_default.ensures) (halt_end next n root turns machine.events c.args.turn c.in-Some.halt c.requires.state c.requires.rank run c.requires.made there other);
    }

pub returns-in_ok-more-in_default : goal.returns-in_ok-more-in_default
returns-in_ok-more-in_default g c =
    let next : Next = g.P.Program.next c.args.setting.now.program.now in
    let output : Output = g.P.Program.output c.args.setting.now.program.now in
    let n : ℕ = c.args.setting.now.ranks in
    let root : List Event = events_of_turns next n c.args.setting.now.under.now in
    let machine = c.args.course.now.machine in
    let turns : List Turn = c.args.turns.now in
    let run : IsPromptRun next n machine.events = run_of g.P.Program.next machine.program c.args.setting.now.program.now machine.ranks n machine.events c.requires.program c.requires.ranks c.history-history.ensures.run in
    let there : halted machine.events ≡ Some c.in-Some.halt = sym c.halt.ensures ∙ c.in-Some.is in
    let other : c.in-Some.halt ≡ Stuck → ⊥ = c.in_default.not-Stuck in
    let same = halt_under next n root turns machine.events c.args.turn c.in-Some.halt c.requires.state c.requires.rank run c.requires.made there other in
    let F : List Turn → Type 0 = λ l. IsOutcomeListed next output n l c.note_end-in_default.new.met.found in
    record {
      went = c.note_end-in_default.ensures.went;
      tried = on_ok_map _ _ c.note_end-in_default.result (λ noted. tried_end next output n c.args.bounds.polls root turns machine.events c.args.turn c.note_end-in_default.new.met c.in-Some.halt c.requires.state run c.requires.made there
          (halt_listed next output n root turns machine.events c.args.turn c.in-Some.halt c.note_end-in_default.new.met.found c.halts_decide_outcomes.ensures c.requires.state run c.requires.made there same
          (subst F c.in_ok-more-in_default.ensures noted))) c.note_end-in_default.ensures.noted;
    }
