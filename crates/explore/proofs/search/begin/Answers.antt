use Rattle.std.proofs.Common.{◌≡◌, ◌∙◌, ℕ, List, None, ap, inr, sym, subst}
use Rattle.run_model.specs.declared.event.Event.{Event}
use Rattle.run_model.specs.Views.{Next}
use Rattle.picked_runs.specs.declared.turn.Turn.{Turn}
use Rattle.explore.specs.Explored.{events_of_turns}
use Rattle.run_model.specs.Due.{halted}
use Rattle.srr_entry.specs.Outputs.{Output}
use Rattle.run_states.specs.Codes.{key_code}
use Rattle.run_states.specs.Keys.{state_key}
use Rattle.explore.specs.Searching.{IsAtEnd, IsOutcomeListed, IsUnder, code_at}
use Rattle.explore.proofs.Begun.{none_is, picked_of, some_is}
use Rattle.explore.proofs.Noting.{begun_ended, begun_state, root_under}
use Rattle.explore.proofs.Trying.{on_ok_map}
use Rattle.explore.proofs.search.begin.Goals as goal

pub note_end-requires-clause-turns : goal.note_end-requires-clause-turns
note_end-requires-clause-turns g c =
    let next : Next = g.P.Program.next c.args.setting.now.program.now in
    let output : Output = g.P.Program.output c.args.setting.now.program.now in
    let n : ℕ = c.args.setting.now.ranks in
    let root : List Event = events_of_turns next n c.args.setting.now.under.now in
    let program = c.args.setting.now.program.now in
    let under : List Turn = c.args.setting.now.under.now in
    let machine = c.in_ok-course.course.machine in
    let picked = picked_of g.P.Program.next g.R.RankRun.standing program n root c.into_run-history.result.0.events machine c.in_ok-course.course.runs.items c.into_run-history.result.1.written
    c.in_ok-course.ensures c.into_run-history.ensures.events c.into_run-history.ensures.picked in
    let halt : c.halt-halt.result ≡ halted root = c.halt-halt.ensures ∙ ap halted c.in_ok-course.ensures.events_are in
    let F : List Turn → Type 0 = λ l. IsUnder next n root l in
    subst F (sym c.in_ok-turns.ensures) (root_under next n under c.requires.turns c.requires.picks picked.run (c.picks_go_on.ensures.numbered _ root picked))

pub note_end-requires-clause-end : goal.note_end-requires-clause-end
note_end-requires-clause-end g c =
    let next : Next = g.P.Program.next c.args.setting.now.program.now in
    let output : Output = g.P.Program.output c.args.setting.now.program.now in
    let n : ℕ = c.args.setting.now.ranks in
    let root : List Event = events_of_turns next n c.args.setting.now.under.now in
    let program = c.args.setting.now.program.now in
    let under : List Turn = c.args.setting.now.under.now in
    let machine = c.in_ok-course.course.machine in
    let picked = picked_of g.P.Program.next g.R.RankRun.standing program n root c.into_run-history.result.0.events machine c.in_ok-course.course.runs.items c.into_run-history.result.1.written
    c.in_ok-course.ensures c.into_run-history.ensures.events c.into_run-history.ensures.picked in
    let halt : c.halt-halt.result ≡ halted root = c.halt-halt.ensures ∙ ap halted c.in_ok-course.ensures.events_are in
    let F : List Turn → Type 0 = λ l. IsAtEnd next n (events_of_turns next n l) in
    let some = some_is c.halt-halt.result (sym c.is_some.ensures ∙ c.if-is_some.true) in
    subst F (sym c.in_ok-turns.ensures) (inr (some.0, sym halt ∙ some.1))

pub returns-then-is_some-clause-begun : goal.returns-then-is_some-clause-begun
returns-then-is_some-clause-begun g c =
    let next : Next = g.P.Program.next c.args.setting.now.program.now in
    let output : Output = g.P.Program.output c.args.setting.now.program.now in
    let n : ℕ = c.args.setting.now.ranks in
    let root : List Event = events_of_turns next n c.args.setting.now.under.now in
    let program = c.args.setting.now.program.now in
    let under : List Turn = c.args.setting.now.under.now in
    let machine = c.in_ok-course.course.machine in
    let picked = picked_of g.P.Program.next g.R.RankRun.standing program n root c.into_run-history.result.0.events machine c.in_ok-course.course.runs.items c.into_run-history.result.1.written
    c.in_ok-course.ensures c.into_run-history.ensures.events c.into_run-history.ensures.picked in
    let halt : c.halt-halt.result ≡ halted root = c.halt-halt.ensures ∙ ap halted c.in_ok-course.ensures.events_are in
    let some = some_is c.halt-halt.result (sym c.is_some.ensures ∙ c.if-is_some.true) in
    let F : List Turn → Type 0 = λ l. IsOutcomeListed next output n l c.note_end.new.met.found in
    on_ok_map _ _ c.note_end.result (λ noted. begun_ended next output n under c.note_end.new.met some.0 (sym halt ∙ some.1) (subst F c.in_ok-turns.ensures noted)) c.note_end.ensures.noted

pub returns : goal.returns
returns g c =
    let next : Next = g.P.Program.next c.args.setting.now.program.now in
    let output : Output = g.P.Program.output c.args.setting.now.program.now in
    let n : ℕ = c.args.setting.now.ranks in
    let root : List Event = events_of_turns next n c.args.setting.now.under.now in
    let program = c.args.setting.now.program.now in
    let under : List Turn = c.args.setting.now.under.now in
    let machine = c.in_ok-course.course.machine in
    let picked = picked_of g.P.Program.next g.R.RankRun.standing program n root c.into_run-history.result.0.events machine c.in_ok-course.course.runs.items c.into_run-history.result.1.written
    c.in_ok-course.ensures c.into_run-history.ensures.events c.into_run-history.ensures.picked in
    let halt : c.halt-halt.result ≡ halted root = c.halt-halt.ensures ∙ ap halted c.in_ok-course.ensures.events_are in
    let none : halted root ≡ None = sym halt ∙ none_is c.halt-halt.result (sym c.is_some.ensures ∙ c.if-is_some.false) in
    let same : code_at next n under ≡ c.in_ok-code.code.numbers.items =
    ap (λ l. key_code (state_key n l)) (sym (c.into_run-history.ensures.events ∙ c.in_ok-course.ensures.events_are)) ∙ sym c.in_ok-code.ensures in
    let both = begun_state next output n under c.in_ok-turns.turns c.into_run-history.result.1.written c.args.met.now c.add_state.new.self c.in_ok-code.code.numbers.items c.picks_go_on.ensures.numbered
    c.requires.turns c.requires.picks picked none c.in_ok-turns.ensures c.requires.met same in
    record {
      under_way = on_ok_map _ _ c.add_state.result (λ added. (both added).0.under_way) c.add_state.ensures;
      begun = on_ok_map _ _ c.add_state.result (λ added. (both added).1) c.add_state.ensures;
    }
