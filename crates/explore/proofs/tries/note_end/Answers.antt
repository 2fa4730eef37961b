use Rattle.std.proofs.Common.{ℕ, List}
use Rattle.run_model.specs.declared.event.Event.{Event}
use Rattle.run_model.specs.Views.{Next}
use Rattle.srr_entry.specs.Outputs.{Output}
use Rattle.explore.specs.Explored.{events_of_turns}
use Rattle.explore.proofs.Noting.{found_by, found_noted, found_went}
use Rattle.explore.proofs.Trying.{on_ok_map}
use Rattle.explore.proofs.tries.note_end.Goals as goal

pub returns : goal.returns
returns g c =
    let next : Next = g.P.Program.next c.args.setting.now.program.now in
    let output : Output = g.P.Program.output c.args.setting.now.program.now in
    let n : ℕ = c.args.setting.now.ranks in
    let root : List Event = events_of_turns next n c.args.setting.now.under.now in
    let found = c.in_ok-found.found in
    let is = found_by next output n root c.args.turns found c.picks_go_on.ensures.numbered c.requires.turns c.requires.end c.in_ok-found.ensures.turns c.in_ok-found.ensures.comes in
    record {
      went = on_ok_map _ _ c.add_found.result (λ added. found_went next output n root c.args.met.now c.add_found.new.self found c.requires.met is added) c.add_found.ensures;
      noted = on_ok_map _ _ c.add_found.result (λ added. found_noted next output n c.args.turns c.args.met.now c.add_found.new.self found c.in_ok-found.ensures.comes added) c.add_found.ensures;
    }
