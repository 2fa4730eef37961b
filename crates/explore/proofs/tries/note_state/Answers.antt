use Rattle.std.proofs.Common.{◌≡◌, ◌-◌, ◌∙◌, ℕ, List, ap, length, refl, sym, subst, take, true}
use Rattle.run_model.specs.declared.event.Event.{Event}
use Rattle.run_model.specs.Views.{Next}
use Rattle.srr_entry.specs.Outputs.{Output}
use Rattle.explore.specs.Explored.{events_of_turns}
use Rattle.run_states.specs.Codes.{key_code}
use Rattle.run_states.specs.Keys.{state_key}
use Rattle.run_states.specs.Moves.{IsVisited}
use Rattle.explore.specs.Searching.{IsSearchStep, code_at, histories}
use Rattle.explore.proofs.Noting.{state_met, state_went, went_not}
use Rattle.explore.proofs.Stepping.{followed_met, followed_none, followed_unkept, followed_vain, last_split, step_kept, vain_went}
use Rattle.explore.proofs.Trying.{on_ok_map}
use Rattle.explore.proofs.tries.note_state.Goals as goal

pub returns-in_default : goal.returns-in_default
returns-in_default g c =
    let next : Next = g.P.Program.next c.args.setting.now.program.now in
    let output : Output = g.P.Program.output c.args.setting.now.program.now in
    let n : ℕ = c.args.setting.now.ranks in
    let root : List Event = events_of_turns next n c.args.setting.now.under.now in
    record {
      went = went_not next output n root c.args.met.now c.requires.met;
      followed = followed_none next n c.args.bounds.polls c.args.met.now c.args.history.now.events c.as_slice.result.now c.as_slice.ensures.events c.in_default.len_below;
    }

pub returns-then-not-keeps_probe : goal.returns-then-not-keeps_probe
returns-then-not-keeps_probe g c =
    let next : Next = g.P.Program.next c.args.setting.now.program.now in
    let output : Output = g.P.Program.output c.args.setting.now.program.now in
    let n : ℕ = c.args.setting.now.ranks in
    let root : List Event = events_of_turns next n c.args.setting.now.under.now in
    let shown : List Event = c.as_slice.result.now in
    let whole = last_split shown c.args.history.now.events c.event-item.result c.as_slice.ensures.events c.in-len1-up.len_at_least c.event-item.is in
    record {
      went = went_not next output n root c.args.met.now c.requires.met;
      followed = followed_unkept next n c.args.bounds.polls c.args.met.now (take (length shown - 1) shown) c.event-item.result c.args.history.now.events whole c.if-not-keeps_probe.ensures;
    }

pub returns-then-not-is_patient : goal.returns-then-not-is_patient
returns-then-not-is_patient g c =
    let next : Next = g.P.Program.next c.args.setting.now.program.now in
    let output : Output = g.P.Program.output c.args.setting.now.program.now in
    let n : ℕ = c.args.setting.now.ranks in
    let root : List Event = events_of_turns next n c.args.setting.now.under.now in
    let shown : List Event = c.as_slice.result.now in
    let whole = last_split shown c.args.history.now.events c.event-item.result c.as_slice.ensures.events c.in-len1-up.len_at_least c.event-item.is in
    record {
      went = vain_went next output n root c.args.met.now c.requires.met;
      followed = followed_vain next n c.args.bounds.polls (record c.args.met.now { polled = true }) (take (length shown - 1) shown) c.event-item.result c.args.history.now.events whole c.if-not-is_patient.ensures refl;
    }

pub returns : goal.returns
returns g c =
    let next : Next = g.P.Program.next c.args.setting.now.program.now in
    let output : Output = g.P.Program.output c.args.setting.now.program.now in
    let n : ℕ = c.args.setting.now.ranks in
    let root : List Event = events_of_turns next n c.args.setting.now.under.now in
    let shown : List Event = c.as_slice.result.now in
    let events : List Event = c.args.history.now.events in
    let whole = last_split shown events c.event-item.result c.as_slice.ensures.events c.in-len1-up.len_at_least c.event-item.is in
    let step : IsSearchStep next n root c.args.turns events = c.requires.step in
    let state = step_kept next n root c.args.turns (take (length shown - 1) shown) c.event-item.result events step whole c.if-not-keeps_probe.ensures in
    let same : code_at next n c.args.turns ≡ c.in_ok-code.code.numbers.items = ap (λ l. key_code (state_key n l)) step.made ∙ sym c.in_ok-code.ensures in
    let M : List Event → Type 0 = λ l. IsVisited n (histories next n c.add_state.new.self.states) l in
    record {
      went = on_ok_map _ _ c.add_state.result (λ added. state_went next output n root c.args.met.now c.add_state.new.self c.in_ok-code.code.numbers.items c.args.turns c.requires.met state same added) c.add_state.ensures;
      followed = on_ok_map _ _ c.add_state.result (λ added. followed_met next n c.args.bounds.polls c.add_state.new.self events
          (subst M step.made (state_met next output n root c.args.met.now c.add_state.new.self c.in_ok-code.code.numbers.items c.args.turns c.codes_fix_keys.ensures c.keys_fix_futures.ensures.same
          c.requires.met state.under.run same added))) c.add_state.ensures;
    }
